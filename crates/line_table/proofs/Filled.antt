-- A line that was filled in is matched as its values.
use Rattle.std.proofs.Common.{◌≡◌, ◌<◌, ◌≤◌, ◌-◌, ◌^◌, ℕ, zero, suc, List, [], ◌∷◌, ◌++◌, Bool, true, false, length, take, drop, nat_eq, nat_lt, Some, None, option_map, Ok, refl, ap, sym, ◌∙◌, append_assoc, true≢false, arith, if◌then◌else◌}
use Rattle.std.specs.Prelude.{ℤ, pos, negsuc, codes, decimal, bytes_eq, flat_map, position}
use Rattle.std.specs.List.{AllByRecursion, list_all}
use Rattle.std.proofs.Math.Seq.{take-append_seam}
use Rattle.std.proofs.lemmas.Bool.Decides.{nat_tests}
use Rattle.std.proofs.lemmas.Slice.Eq.{bytes_eq-Decides}
use Rattle.net_defs.specs.declared.vertex.Vertex.TheVariants.{Host}
use Rattle.net_defs.specs.declared.vertex.End.{End}
use Rattle.net_defs.specs.Network.{Network, IsFabric, has_vertex, has_port}
use Rattle.net_defs.specs.Building.{name_of}
use Rattle.net_defs.specs.Turn.{is_turn, IsTurn}
use Rattle.net_defs.proofs.Ends.{both}
use Rattle.map_defs.specs.declared.vertex.MapVertex.TheVariants.{Host as MapHost, Switch as MapSwitch}
use Rattle.fab_text.specs.Word.{is_digit, name_test, turn_of, with_sign, minus}
use Rattle.fabric_file.specs.Reading.{AreNamed}
use Rattle.fabric_file.proofs.Names.{name-names, port-small, vertex-there}
use Rattle.fabric_file.proofs.PlainWords.{number-any, number-read, name-no_sign}
use Rattle.line_table.specs.Texts.{host_name, turn_text, hex_text, entry_text}
use Rattle.line_table.specs.Said.{where_read, number_said, address_in, host_said, end_in, end_said, vertex_said}
use Rattle.line_table.specs.Form.{WordKind, Digits, NumberTo, HostName, Turn, MapPlace, Hex, OneOf, EntryOr}
use Rattle.line_table.specs.Form.{Slot, Fixed, Of, AnEnd, AnEndBy, Rest}
use Rattle.line_table.specs.Form.{LineValue, Word, Number, HostAt, TurnBy, VertexAt, Bytes, Entry, EndAt}
use Rattle.line_table.specs.Form.{words_of_value, fill}
use Rattle.line_table.specs.Matching.{is_among, where_so, entry_of, entry_cut, word_said, onto, all_said, matched}
use Rattle.line_table.specs.Fits.{begins_no_number, IsOf, AreOf}
use Rattle.line_table.proofs.Numbers.{number-no_word, within-read}
use Rattle.line_table.proofs.Bytes.{bytes-read, equals-at, drop-seam}

same-word : (w : List ℕ) → bytes_eq w w ≡ true
same-word w = (bytes_eq-Decides w w).1 refl

-- turns
small : (k : ℕ) → is_turn (pos k) ≡ true → k ≤ 15
small k e = grind (arith, nat_tests)

low : (k : ℕ) → is_turn (negsuc k) ≡ true → suc k ≤ 15
low k e = grind (arith, nat_tests)

fits-small : (k : ℕ) → k ≤ 15 → k < 2 ^ 64
fits-small k h = omega arith

pub turn-read : (p : ℤ) → IsTurn p → turn_of (turn_text p) ≡ Ok p
turn-read (pos zero) t = refl
turn-read (pos (suc k)) t = ap (with_sign pos) (number-read 15 (suc k) (small (suc k) t) (fits-small (suc k) (small (suc k) t)))
turn-read (negsuc k) t = ap (with_sign minus) (number-read 15 (suc k) (low k t) (fits-small (suc k) (low k t)))

-- a number before `=` is no other word
more-other : (xs : List ℕ) (y : ℕ) (ys : List ℕ) → bytes_eq (xs ++ y ∷ ys) [] ≡ false
more-other [] y ys = refl
more-other (x ∷ xs) y ys = refl

entry-other : (v : ℕ) (more other : List ℕ) → begins_no_number other ≡ true → bytes_eq (decimal v ++ 61 ∷ more) other ≡ false
entry-other v more [] e = more-other (decimal v) 61 more
entry-other v more (b ∷ bs) e = by (is_digit b) refl e
  where
    by : (t : Bool) → is_digit b ≡ t → (if t then false else true) ≡ true → bytes_eq (decimal v ++ 61 ∷ more) (b ∷ bs) ≡ false
    by true t e = absurd (true≢false (sym e))
    by false t e = number-no_word v (61 ∷ more) b bs t

entry-read : (places : List (List ℕ)) (v : ℕ) (place : List ℕ) → is_among places place ≡ true → v < 2 ^ 64
    → entry_cut places (decimal v ++ 61 ∷ place) (position (nat_eq 61) (decimal v ++ 61 ∷ place)) ≡ Some (Entry v place)
entry-read places v place is fits =
    let ds = decimal v in
    let all : list_all is_digit ds ≡ true = (both (nat_lt 0 (length ds)) (list_all is_digit ds) (number-any v)).1 in
    let front : take (length ds) (ds ++ 61 ∷ place) ≡ ds = take-append_seam ds (61 ∷ place) in
    let back : drop 1 (drop (length ds) (ds ++ 61 ∷ place)) ≡ place = ap (drop 1) (drop-seam ds (61 ∷ place)) in
    ap (entry_cut places (ds ++ 61 ∷ place)) (equals-at ds place all)
    ∙ (λ i. entry_of places (back i) (number_said (2 ^ 64 - 1) (front i)))
    ∙ ap (entry_of places place) (within-read (2 ^ 64 - 1) v (omega arith) fits)
    ∙ (λ i. if is i then Some (Entry v place) else None)

-- a name doesn't begin with `#`
pub named-vertex : (n : Network) (w : List ℕ) → name_test w ≡ true → vertex_said n w ≡ option_map MapHost (host_said n w)
named-vertex n [] e = refl
named-vertex n (b ∷ bs) e =
    let other = name-no_sign b bs e in
    λ i. if other i then option_map MapSwitch (number_said (2 ^ 32 - 1) bs) else option_map MapHost (host_said n (b ∷ bs))

-- A value of one word, which is read as the value.
pub record IsRead (n : Network) (k : WordKind) (v : LineValue) : Type 0 where
  pub word : List ℕ
  pub alone : words_of_value n v ≡ word ∷ []
  pub back : word_said n k word ≡ Some v

-- over a fabric with names of the text's form
module _ (n : Network) (is : IsFabric n) (good : AreNamed n) where
  pub host-read : (h : ℕ) → has_vertex n (Host h) ≡ true → host_said n (host_name n h) ≡ Some h
  host-read h there = ap address_in (name-names n (Host h) is.names_apart good there).1

  pub end-read : (e : End) → has_port n e ≡ true → end_said n (name_of n e.v) (decimal e.p) ≡ Some e
  end-read e there =
      let name = (name-names n e.v is.names_apart good (vertex-there n e.v e.p there)).1 in
      let low : e.p ≤ 15 = port-small n e.v e.p is.port_counts there in
      let port = within-read (2 ^ 64 - 1) e.p (omega arith) (omega arith) in
      (λ i. end_in n (name i) (port i)) ∙ (λ i. if there i then Some e else None)

  pub value-read : (k : WordKind) (v : LineValue) → IsOf n k v → IsRead n k v
  value-read Digits (Word w) e = record { word = w; alone = refl; back = λ i. where_so (e i) w }
  value-read Digits _ e = absurd e
  value-read (NumberTo most) (Number x) e = record { word = decimal x; alone = refl; back = ap (option_map Number) (within-read most x e.0 e.1) }
  value-read (NumberTo most) _ e = absurd e
  value-read HostName (HostAt h) there = record { word = host_name n h; alone = refl; back = ap (option_map HostAt) (host-read h there) }
  value-read HostName _ e = absurd e
  value-read Turn (TurnBy t) is = record { word = turn_text t; alone = refl; back = ap (λ r. option_map TurnBy (where_read r)) (turn-read t is) }
  value-read Turn _ e = absurd e
  value-read MapPlace (VertexAt (MapHost h)) there =
      let name = host_name n h in
      let form : name_test name ≡ true = (name-names n (Host h) is.names_apart good there).0 in
      record { word = name; alone = refl; back = ap (option_map VertexAt) (named-vertex n name form ∙ ap (option_map MapHost) (host-read h there)) }
  value-read MapPlace (VertexAt (MapSwitch s)) fits =
      record { word = codes "#" ++ decimal s; alone = refl; back = ap (λ o. option_map VertexAt (option_map MapSwitch o)) (within-read (2 ^ 32 - 1) s (omega arith) (omega arith)) }
  value-read MapPlace _ e = absurd e
  value-read Hex (Bytes bs) all = record { word = hex_text bs; alone = refl; back = ap (option_map Bytes) (bytes-read bs all) }
  value-read Hex _ e = absurd e
  value-read (OneOf ws) (Word w) e = record { word = w; alone = refl; back = λ i. where_so (e i) w }
  value-read (OneOf ws) _ e = absurd e
  value-read (EntryOr other places) (Entry x place) e =
      let w = decimal x ++ 61 ∷ place in
      record {
        word = entry_text x place;
        alone = refl;
        back = ap (word_said n (EntryOr other places)) (append_assoc (decimal x) (codes "=") place)
            ∙ (λ i. if entry-other x place other e.0 i then Some (Word w) else entry_cut places w (position (nat_eq 61) w)) ∙ entry-read places x place e.1.0 e.1.1;
      }
  value-read (EntryOr other places) (Word w) e =
      let same : bytes_eq w other ≡ true = (bytes_eq-Decides w other).1 e in
      record { word = w; alone = refl; back = λ i. if same i then Some (Word w) else entry_cut places w (position (nat_eq 61) w) }
  value-read (EntryOr other places) _ e = absurd e

  all-read : (k : WordKind) (vs : List LineValue) → AllByRecursion (IsOf n k) vs → all_said n k (flat_map (words_of_value n) vs) ≡ Some vs
  all-read k [] all = refl
  all-read k (v ∷ vs) all =
      let r = value-read k v all.0 in
      ap (λ ws. all_said n k (ws ++ flat_map (words_of_value n) vs)) r.alone
      ∙ (λ i. onto (r.back i) (all-read k vs all.1 i))

  -- THE LAW: a line that was filled in is matched as its values
  pub filled-matched : (ss : List Slot) (vs : List LineValue) → AreOf n ss vs → matched n ss (fill n ss vs) ≡ Some vs
  filled-matched [] [] fits = refl
  filled-matched [] (v ∷ vs) fits = absurd fits
  filled-matched (Fixed w ∷ ss) vs fits =
      (λ i. if same-word w i then matched n ss (fill n ss vs) else None) ∙ filled-matched ss vs fits
  filled-matched (Of k ∷ ss) [] fits = absurd fits
  filled-matched (Of k ∷ ss) (v ∷ vs) fits =
      let r = value-read k v fits.0 in
      ap (λ ws. matched n (Of k ∷ ss) (ws ++ fill n ss vs)) r.alone
      ∙ (λ i. onto (r.back i) (filled-matched ss vs fits.1 i))
  filled-matched (AnEnd ∷ ss) [] fits = absurd fits
  filled-matched (AnEnd ∷ ss) (EndAt e ∷ vs) fits =
      λ i. onto (option_map EndAt (end-read e fits.0 i)) (filled-matched ss vs fits.1 i)
  filled-matched (AnEnd ∷ ss) (_ ∷ vs) fits = absurd fits
  filled-matched (AnEndBy w ∷ ss) [] fits = absurd fits
  filled-matched (AnEndBy w ∷ ss) (EndAt e ∷ vs) fits =
      (λ i. if same-word w i then onto (option_map EndAt (end_said n (name_of n e.v) (decimal e.p))) (matched n ss (fill n ss vs)) else None)
      ∙ (λ i. onto (option_map EndAt (end-read e fits.0 i)) (filled-matched ss vs fits.1 i))
  filled-matched (AnEndBy w ∷ ss) (_ ∷ vs) fits = absurd fits
  filled-matched (Rest k ∷ ss) vs fits = all-read k vs fits
