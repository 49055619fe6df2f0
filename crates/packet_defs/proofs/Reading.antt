-- Turns that are read from their bytes, one after another.
use Rattle.std.proofs.Common.{◌≡◌, ◌<◌, ◌≤◌, ◌+◌, ℕ, suc, List, [], ◌∷◌, ◌++◌, true, false, length, get_or, take, drop, nat_lt, Option, Some, None, option_map, refl, ap, sym, ◌∙◌, subst, arith, append_assoc, if◌then◌else◌}
use Rattle.std.specs.Prelude.{ℤ, pos, negsuc, int_le, option_and_then}
use Rattle.std.proofs.Math.ListN.{set}
use Rattle.std.proofs.Math.Seq.{drop-cons}
use Rattle.std.proofs.lemmas.Int.{ints, to_z-of_z}
use mir.Syntax.{w8}
use mir.Val.{to_z, of_z, SFits}
use Rattle.std.specs.List.{list_all}
use Rattle.std.proofs.lemmas.Bool.{and_parts}
use Rattle.std.proofs.lemmas.Bool.Decides.{nat_tests}
use Rattle.std.proofs.lemmas.List.{take_more_set, drop_all, append-nil}
use Rattle.net_defs.specs.declared.walk.WalkFault.TheVariants.{TooLong, TurnRange}
use Rattle.net_defs.specs.Turn.{is_turn, walk_refusal}
use Rattle.packet_defs.specs.RouteByte.{turn_of, turns_of}
use Rattle.packet_defs.proofs.RouteBytes.{turn_of-only}

-- the turns of bytes are turns, and as many
pub turns_of-turns : (bytes : List ℕ) (ts : List ℤ) → turns_of bytes ≡ Some ts → (list_all is_turn ts ≡ true) × (length ts ≡ length bytes)
turns_of-turns [] ts e = let none : [] ≡ ts = cc in (subst (λ l. list_all is_turn l ≡ true) none refl, ap length (sym none))
turns_of-turns (b ∷ bs) ts e = by (turn_of b) (turns_of bs) refl refl e (turns_of-turns bs)
  where
    by : (o : Option ℤ) (p : Option (List ℤ)) → turn_of b ≡ o → turns_of bs ≡ p → option_and_then (λ turn. option_map (λ turns. turn ∷ turns) p) o ≡ Some ts → ((us : List ℤ) → turns_of bs ≡ Some us → (list_all is_turn us ≡ true) × (length us ≡ length bs)) → (list_all is_turn ts ≡ true) × (length ts ≡ suc (length bs))
    by None p q r s f = cc
    by (Some t) None q r s f = cc
    by (Some t) (Some us) q r s f =
        let list : t ∷ us ≡ ts = cc in
        let rest = f us r in
        let here : is_turn t ≡ true = (turn_of-only b t q).0 in
        (subst (λ l. list_all is_turn l ≡ true) list (rw here rest.0), ap length (sym list) ∙ ap (λ n. suc n) rest.1)

pub turns-next : (before : List ℤ) (byte : ℕ) (turn : ℤ) (bytes : List ℕ) → turn_of byte ≡ Some turn → option_map (λ ts. before ++ ts) (turns_of (byte ∷ bytes)) ≡ option_map (λ ts. (before ++ turn ∷ []) ++ ts) (turns_of bytes)
turns-next before byte turn bytes e = ap (λ o. option_map (λ ts. before ++ ts) (option_and_then (λ t. option_map (λ turns. t ∷ turns) (turns_of bytes)) o)) e ∙ by (turns_of bytes)
  where
    by : (o : Option (List ℤ)) → option_map (λ ts. before ++ ts) (option_map (λ turns. turn ∷ turns) o) ≡ option_map (λ ts. (before ++ turn ∷ []) ++ ts) o
    by None = refl
    by (Some ts) = ap Some (sym (append_assoc before (turn ∷ []) ts))

pub turns-stuck : (before : List ℤ) (byte : ℕ) (bytes : List ℕ) → turn_of byte ≡ None → option_map (λ ts. before ++ ts) (turns_of (byte ∷ bytes)) ≡ None
turns-stuck before byte bytes e = ap (λ o. option_map (λ ts. before ++ ts) (option_and_then (λ t. option_map (λ turns. t ∷ turns) (turns_of bytes)) o)) e

-- a turn more, written into the turns that were read
pub turns-read : (bs : List ℕ) (ts : List ℤ) (at : ℕ) (t s : ℤ) → at < length bs → at < length ts → s ≡ t → turn_of (get_or bs at 0) ≡ Some t → turns_of bs ≡ option_map (λ us. take at ts ++ us) (turns_of (drop at bs)) → turns_of bs ≡ option_map (λ us. take (at + 1) (set ts at s) ++ us) (turns_of (drop (at + 1) bs))
turns-read bs ts at t s l m same told read =
    let split : drop at bs ≡ get_or bs at 0 ∷ drop (at + 1) bs = drop-cons bs at 0 l ∙ ap (λ k. get_or bs at 0 ∷ drop k bs) (let e : suc at ≡ at + 1 = omega arith in e) in
    let longer : take (at + 1) (set ts at s) ≡ take at ts ++ t ∷ [] = take_more_set ts at s m ∙ ap (λ x. take at ts ++ x ∷ []) same in
    read
    ∙ ap (λ (l : List ℕ). option_map (λ us. take at ts ++ us) (turns_of l)) split
    ∙ turns-next (take at ts) (get_or bs at 0) t (drop (at + 1) bs) told
    ∙ ap (λ (l : List ℤ). option_map (λ us. l ++ us) (turns_of (drop (at + 1) bs))) (sym longer)

pub turn-fits : (byte : ℕ) (t : ℤ) → turn_of byte ≡ Some t → to_z w8 (of_z w8 t) ≡ t
turn-fits byte t e =
    let turn : is_turn t ≡ true = (turn_of-only byte t e).0 in
    let two = and_parts (int_le (negsuc 14) t) (int_le t (pos 15)) turn in
    to_z-of_z w8 t (fits t two.0 two.1)
  where
    fits : (t : ℤ) → int_le (negsuc 14) t ≡ true → int_le t (pos 15) ≡ true → SFits w8 t
    fits t a b = grind (arith, ints)

-- all bytes were read
pub turns-all : (bs : List ℕ) (ts : List ℤ) → turns_of bs ≡ option_map (λ us. take (length bs) ts ++ us) (turns_of (drop (length bs) bs)) → turns_of bs ≡ Some (take (length bs) ts)
turns-all bs ts read =
    let front = take (length bs) ts in
    read
    ∙ ap (λ (l : List ℕ). option_map (λ us. front ++ us) (turns_of l)) (drop_all (length bs) bs (omega arith))
    ∙ ap Some (append-nil front)

-- a byte among them stands for no turn
pub turns-none : (bs : List ℕ) (before : List ℤ) (at : ℕ) → at < length bs → turn_of (get_or bs at 0) ≡ None → turns_of bs ≡ option_map (λ us. before ++ us) (turns_of (drop at bs)) → turns_of bs ≡ None
turns-none bs before at l told read =
    read
    ∙ ap (λ (l : List ℕ). option_map (λ us. before ++ us) (turns_of l)) (drop-cons bs at 0 l)
    ∙ turns-stuck before (get_or bs at 0) (drop (suc at) bs) told

-- the turns of at most 64 bytes are a walk
pub turns-walk : (bs : List ℕ) (front : List ℤ) → length bs ≤ 64 → turns_of bs ≡ Some front → walk_refusal front ≡ None
turns-walk bs front few all =
    let both = turns_of-turns bs front all in
    let same : length front ≡ length bs = both.1 in
    let short : nat_lt 64 (length front) ≡ false = grind (arith, nat_tests) in
    λ i. if short i then Some TooLong else if both.0 i then None else Some TurnRange
