-- A line of one form is no line of a form apart from it.
use Rattle.std.proofs.Common.{◌≡◌, ◌≢◌, ◌||◌, ℕ, List, [], ◌∷◌, ◌++◌, Bool, true, false, not, Option, Some, None, option_map, Ok, Err, nat_le, refl, ap, sym, ◌∙◌, true≢false, if◌then◌else◌}
use Rattle.std.specs.Prelude.{bytes_eq}
use Rattle.std.specs.List.{list_all}
use Rattle.std.proofs.lemmas.Slice.Eq.{bytes_eq-Decides}
use Rattle.std.specs.Str.Parse.{digits_value}
use Rattle.net_defs.specs.Network.{Network, IsFabric}
use Rattle.net_defs.proofs.Ends.{both}
use Rattle.fab_text.specs.declared.fault.NumFault.TheVariants.{NotNumber, TooLarge}
use Rattle.fab_text.specs.Word.{number_test}
use Rattle.fabric_file.specs.Reading.{AreNamed}
use Rattle.line_table.specs.declared.kind.MapLineKind.{MapLineKind}
use Rattle.line_table.specs.declared.kind.MapLineKind.TheVariants.{Host as HostLine, Switch as SwitchLine, Cable as CableLine, End as EndLine}
use Rattle.line_table.specs.Said.{where_read}
use Rattle.line_table.specs.Form.{WordKind, Digits, NumberTo, HostName, Turn, MapPlace, Hex, OneOf, EntryOr}
use Rattle.line_table.specs.Form.{Slot, Fixed, Of, AnEnd, AnEndBy, Rest}
use Rattle.line_table.specs.Form.{LineValue, Number, EndAt, fill}
use Rattle.line_table.specs.Matching.{is_among, where_so, word_said, onto, matched}
use Rattle.line_table.specs.Fits.{IsOf, AreOf}
use Rattle.line_table.specs.Apart.{is_outside, is_disjoint, is_apart}
use Rattle.line_table.specs.Table.{map_form}
use Rattle.line_table.proofs.Filled.{IsRead, value-read}

either : (a b : Bool) (X : Type 0) → (a || b) ≡ true → (a ≡ true → X) → (b ≡ true → X) → X
either true b X e f g = f refl
either false b X e f g = g e

not-true : (a : Bool) → not a ≡ true → a ≡ false
not-true true e = absurd (true≢false (sym e))
not-true false e = refl

if-none : {X : Type 0} (t : Bool) (m : Option X) → m ≡ None → (if t then m else None) ≡ None
if-none true m e = e
if-none false m e = refl

onto-none : (x : Option LineValue) (m : Option (List LineValue)) → m ≡ None → onto x m ≡ None
onto-none None m e = refl
onto-none (Some v) m e = ap (option_map (λ xs. v ∷ xs)) e

never : {X : Type 0} → false ≡ true → X
never e = absurd (true≢false (sym e))

outside-unsaid : (n : Network) (k : WordKind) (w : List ℕ) → is_outside k w ≡ true → word_said n k w ≡ None
outside-unsaid n Digits w e = ap (λ t. where_so t w) (not-true (number_test w) e)
outside-unsaid n (NumberTo most) w e =
    let other = not-true (number_test w) e in
    λ i. option_map Number (where_read (if other i then (if nat_le (digits_value 10 w) most then Ok (digits_value 10 w) else Err TooLarge) else Err NotNumber))
outside-unsaid n (OneOf ws) w e = ap (λ t. where_so t w) (not-true (is_among ws w) e)
outside-unsaid n HostName w e = never e
outside-unsaid n Turn w e = never e
outside-unsaid n MapPlace w e = never e
outside-unsaid n Hex w e = never e
outside-unsaid n (EntryOr other places) w e = never e

-- a word among some, all of which are outside of a kind
among-outside : (k : WordKind) (ws : List (List ℕ)) (w : List ℕ) → list_all (is_outside k) ws ≡ true → is_among ws w ≡ true → is_outside k w ≡ true
among-outside k [] w all e = never e
among-outside k (v ∷ vs) w all e =
    let two = both (is_outside k v) (list_all (is_outside k) vs) all in
    either (bytes_eq w v) (is_among vs w) (is_outside k w ≡ true) e
    (λ same. ap (is_outside k) ((bytes_eq-Decides w v).0 same) ∙ two.0)
    (λ more. among-outside k vs w two.1 more)

-- what is said, and isn't
said-not : {X : Type 0} (o : Option X) (x : X) → o ≡ Some x → o ≡ None → ⊥
said-not o x p q = cc

module _ (n : Network) (is : IsFabric n) (good : AreNamed n) where
  -- the word of a value is no word outside of its kind
  value-other : (l : WordKind) (x : LineValue) → IsOf n l x → (r : IsRead n l x) → (v : List ℕ) → is_outside l v ≡ true → bytes_eq r.word v ≡ false
  value-other l x one r v e = by (bytes_eq r.word v) refl
    where
      by : (t : Bool) → bytes_eq r.word v ≡ t → t ≡ false
      by true t =
          let same : r.word ≡ v = (bytes_eq-Decides r.word v).0 t in
          absurd (said-not (word_said n l r.word) x r.back (ap (word_said n l) same ∙ outside-unsaid n l v e))
      by false t = refl

  -- a value of one kind isn't of another one that is disjoint
  value-unsaid : (k l : WordKind) (x : LineValue) → IsOf n l x → (r : IsRead n l x) → is_disjoint k l ≡ true → word_said n k r.word ≡ None
  value-unsaid k Digits x one r e = never e
  value-unsaid k (NumberTo most) x one r e = never e
  value-unsaid k HostName x one r e = never e
  value-unsaid k Turn x one r e = never e
  value-unsaid k MapPlace x one r e = never e
  value-unsaid k Hex x one r e = never e
  value-unsaid k (EntryOr other places) x one r e = never e
  value-unsaid k (OneOf ws) x one r e = outside-unsaid n k r.word (among-outside k ws r.word e (said-among ws r.word x r.back))
    where
      when : (t : Bool) (w : List ℕ) (x : LineValue) → where_so t w ≡ Some x → t ≡ true
      when true w x e = refl
      when false w x e = cc

      said-among : (ws : List (List ℕ)) (w : List ℕ) (x : LineValue) → word_said n (OneOf ws) w ≡ Some x → is_among ws w ≡ true
      said-among ws w x e = when (is_among ws w) w x e

  -- THE SECOND LAW: a line of a form doesn't match a form apart from it
  pub apart-unmatched : (ss ts : List Slot) (vs : List LineValue) → AreOf n ts vs → is_apart ss ts ≡ true → matched n ss (fill n ts vs) ≡ None
  apart-unmatched [] [] vs fits e = never e
  apart-unmatched (Fixed v ∷ ss) [] vs fits e = refl
  apart-unmatched (Of k ∷ ss) [] vs fits e = refl
  apart-unmatched (AnEnd ∷ ss) [] vs fits e = never e
  apart-unmatched (AnEndBy b ∷ ss) [] vs fits e = never e
  apart-unmatched (Rest k ∷ ss) [] vs fits e = never e
  apart-unmatched [] (Fixed w ∷ us) vs fits e = refl
  apart-unmatched (Fixed v ∷ ss) (Fixed w ∷ us) vs fits e =
      let rest = matched n ss (fill n us vs) in
      either (not (bytes_eq w v)) (is_apart ss us) ((if bytes_eq w v then rest else None) ≡ None) e
      (λ other. let f = not-true (bytes_eq w v) other in λ i. if f i then rest else None)
      (λ later. if-none (bytes_eq w v) rest (apart-unmatched ss us vs fits later))
  apart-unmatched (Of k ∷ ss) (Fixed w ∷ us) vs fits e =
      let rest = matched n ss (fill n us vs) in
      either (is_outside k w) (is_apart ss us) (onto (word_said n k w) rest ≡ None) e
      (λ out. ap (λ o. onto o rest) (outside-unsaid n k w out))
      (λ later. onto-none (word_said n k w) rest (apart-unmatched ss us vs fits later))
  apart-unmatched (AnEnd ∷ ss) (Fixed w ∷ us) vs fits e = never e
  apart-unmatched (AnEndBy b ∷ ss) (Fixed w ∷ us) vs fits e = never e
  apart-unmatched (Rest k ∷ ss) (Fixed w ∷ us) vs fits e = never e
  apart-unmatched ss (Of l ∷ us) [] fits e = absurd fits
  apart-unmatched [] (Of l ∷ us) (x ∷ xs) fits e =
      let r = value-read n is good l x fits.0 in
      ap (λ ws. matched n [] (ws ++ fill n us xs)) r.alone
  apart-unmatched (Fixed v ∷ ss) (Of l ∷ us) (x ∷ xs) fits e =
      let r = value-read n is good l x fits.0 in
      let rest = matched n ss (fill n us xs) in
      ap (λ ws. matched n (Fixed v ∷ ss) (ws ++ fill n us xs)) r.alone
      ∙ either (is_outside l v) (is_apart ss us) ((if bytes_eq r.word v then rest else None) ≡ None) e
      (λ out. let f = value-other l x fits.0 r v out in λ i. if f i then rest else None)
      (λ later. if-none (bytes_eq r.word v) rest (apart-unmatched ss us xs fits.1 later))
  apart-unmatched (Of k ∷ ss) (Of l ∷ us) (x ∷ xs) fits e =
      let r = value-read n is good l x fits.0 in
      let rest = matched n ss (fill n us xs) in
      ap (λ ws. matched n (Of k ∷ ss) (ws ++ fill n us xs)) r.alone
      ∙ either (is_disjoint k l) (is_apart ss us) (onto (word_said n k r.word) rest ≡ None) e
      (λ apart. ap (λ o. onto o rest) (value-unsaid k l x fits.0 r apart))
      (λ later. onto-none (word_said n k r.word) rest (apart-unmatched ss us xs fits.1 later))
  apart-unmatched (AnEnd ∷ ss) (Of l ∷ us) (x ∷ xs) fits e = never e
  apart-unmatched (AnEndBy b ∷ ss) (Of l ∷ us) (x ∷ xs) fits e = never e
  apart-unmatched (Rest k ∷ ss) (Of l ∷ us) (x ∷ xs) fits e = never e
  apart-unmatched ss (AnEnd ∷ us) [] fits e = absurd fits
  apart-unmatched [] (AnEnd ∷ us) (EndAt f ∷ xs) fits e = refl
  apart-unmatched (Fixed v ∷ ss) (AnEnd ∷ us) (EndAt f ∷ xs) fits e = never e
  apart-unmatched (Of k ∷ ss) (AnEnd ∷ us) (EndAt f ∷ xs) fits e = never e
  apart-unmatched (AnEnd ∷ ss) (AnEnd ∷ us) (EndAt f ∷ xs) fits e =
      onto-none _ (matched n ss (fill n us xs)) (apart-unmatched ss us xs fits.1 e)
  apart-unmatched (AnEndBy b ∷ ss) (AnEnd ∷ us) (EndAt f ∷ xs) fits e = never e
  apart-unmatched (Rest k ∷ ss) (AnEnd ∷ us) (EndAt f ∷ xs) fits e = never e
  apart-unmatched ss (AnEnd ∷ us) (_ ∷ xs) fits e = absurd fits
  apart-unmatched ss (AnEndBy w ∷ us) [] fits e = absurd fits
  apart-unmatched [] (AnEndBy w ∷ us) (EndAt f ∷ xs) fits e = refl
  apart-unmatched (Fixed v ∷ ss) (AnEndBy w ∷ us) (EndAt f ∷ xs) fits e = never e
  apart-unmatched (Of k ∷ ss) (AnEndBy w ∷ us) (EndAt f ∷ xs) fits e = never e
  apart-unmatched (AnEnd ∷ ss) (AnEndBy w ∷ us) (EndAt f ∷ xs) fits e = never e
  apart-unmatched (AnEndBy b ∷ ss) (AnEndBy w ∷ us) (EndAt f ∷ xs) fits e = never e
  apart-unmatched (Rest k ∷ ss) (AnEndBy w ∷ us) (EndAt f ∷ xs) fits e = never e
  apart-unmatched ss (AnEndBy w ∷ us) (_ ∷ xs) fits e = absurd fits
  apart-unmatched [] (Rest l ∷ us) vs fits e = never e
  apart-unmatched (Fixed v ∷ ss) (Rest l ∷ us) vs fits e = never e
  apart-unmatched (Of k ∷ ss) (Rest l ∷ us) vs fits e = never e
  apart-unmatched (AnEnd ∷ ss) (Rest l ∷ us) vs fits e = never e
  apart-unmatched (AnEndBy b ∷ ss) (Rest l ∷ us) vs fits e = never e
  apart-unmatched (Rest k ∷ ss) (Rest l ∷ us) vs fits e = never e

-- each row of a map's lines is apart from the others
pub map-rows-apart : (k l : MapLineKind) → k ≢ l → is_apart (map_form k) (map_form l) ≡ true
map-rows-apart HostLine HostLine differ = absurd (differ refl)
map-rows-apart SwitchLine SwitchLine differ = absurd (differ refl)
map-rows-apart CableLine CableLine differ = absurd (differ refl)
map-rows-apart EndLine EndLine differ = absurd (differ refl)
map-rows-apart _ _ differ = refl
