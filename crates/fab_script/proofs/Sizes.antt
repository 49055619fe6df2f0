-- A number in range that comes first is a turn, also behind a sign.
use Rattle.std.proofs.Common.{◌≡◌, ◌≤◌, ℕ, ℤ, pos, List, [], ◌∷◌, true, false, length, nat_eq, nat_lt, Ok, refl, ap, sym, ◌∙◌, arith, if◌then◌else◌}
use Rattle.std.specs.List.{list_all}
use Rattle.std.proofs.lemmas.Bool.{and_parts}
use Rattle.std.proofs.lemmas.Bool.Decides.{nat_tests}
use Rattle.fab_text.specs.Line.{words_of}
use Rattle.fab_text.specs.Fault.{as_kind, and_then}
use Rattle.fab_text.specs.Word.{is_digit, number_within, u32_of, with_sign, minus, turn_of}
use Rattle.run_defs.specs.Script.{turns_of}
use Rattle.fab_script.specs.LineLists.{behind}
use Rattle.fab_script.specs.Plain.{IsNumberAhead, IsSizeAhead}
use Rattle.fab_script.proofs.Numbers.{digits-of}
use Rattle.fab_script.proofs.PlainWords.{within-said}

-- a word of digits alone is a turn upwards
unsigned-turn : (w : List ℕ) (n : ℕ) → u32_of w ≡ Ok n → n ≤ 15 → turn_of w ≡ Ok (pos n)
unsigned-turn [] n e h = cc
unsigned-turn (b ∷ bs) n e h =
    let digits = and_parts (nat_lt 0 (length (b ∷ bs))) (list_all is_digit (b ∷ bs)) (digits-of (b ∷ bs) n e) in
    let digit : is_digit b ≡ true = (and_parts (is_digit b) (list_all is_digit bs) digits.1).0 in
    let unplus : nat_eq b 43 ≡ false = grind (arith, nat_tests, digit) in
    let unminus : nat_eq b 45 ≡ false = grind (arith, nat_tests, digit) in
    (λ i. if unplus i then with_sign pos (number_within 15 bs) else if unminus i then with_sign minus (number_within 15 bs) else with_sign pos (number_within 15 (b ∷ bs)))
    ∙ ap (with_sign pos) (within-said 15 (b ∷ bs) n e h)

-- the first word is a turn
turns-led : (bytes word left : List ℕ) (t : ℤ) → words_of bytes ≡ word ∷ words_of left → turn_of word ≡ Ok t → turns_of (words_of bytes) ≡ behind (t ∷ []) (turns_of (words_of left))
turns-led bytes word left t cut said = ap turns_of cut ∙ (λ i. and_then (as_kind (said i)) (λ u. and_then (turns_of (words_of left)) (λ us. Ok (u ∷ us))))

-- so a number in range is the size of a turn
pub size-is : (digits left : List ℕ) (n value : ℕ) → IsNumberAhead digits value left → n ≡ value → n ≤ 15 → IsSizeAhead digits n left
size-is digits left n value h same small =
    let said : u32_of h.digits ≡ Ok n = h.says ∙ ap Ok (sym same) in
    let size = within-said 15 h.digits n said small in
    record {
      down = turns-led (45 ∷ digits) (45 ∷ h.digits) left (minus n) (h.signed 45 refl) (ap (with_sign minus) size);
      up = turns-led (43 ∷ digits) (43 ∷ h.digits) left (pos n) (h.signed 43 refl) (ap (with_sign pos) size);
      unsigned = turns-led digits h.digits left (pos n) h.first (unsigned-turn h.digits n said small);
    }
