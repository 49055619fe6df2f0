-- Two empty channels more, or less.
use Rattle.std.proofs.Common.{◌≡◌, ◌≤◌, ◌+◌, ◌-◌, ◌*◌, ◌/◌, ◌%◌, ℕ, zero, suc, List, [], ◌∷◌, ◌++◌, length, get_or, take, Option, None, refl, sym, ap, ◌∙◌, subst, arith}
use Rattle.std.specs.Int.{bit_at}
use Rattle.std.specs.List.{slice_index}
use Rattle.std.proofs.Math.ListN.{length-append}
use Rattle.world_defs.specs.Links.{Held}
use Rattle.number_marks.specs.Marks.{mark_at}
use Rattle.link_model.specs.FullSlots.{full_of, full_count, IsIndexed}

-- the channels of a cable more, which are empty
abbrev pub with_two : List (Option Held) → List (Option Held)
with_two ps = ps ++ None ∷ None ∷ []

two-count : (ps : List (Option Held)) → full_count (with_two ps) ≡ full_count ps
two-count [] = refl
two-count (p ∷ ps) = ap (λ n. full_of p + n) (two-count ps)

two-at : (ps : List (Option Held)) (k : ℕ) → get_or (with_two ps) k None ≡ get_or ps k None
two-at [] zero = refl
two-at [] (suc zero) = refl
two-at [] (suc (suc k)) = refl
two-at (p ∷ ps) zero = refl
two-at (p ∷ ps) (suc k) = two-at ps k

pub two-long : (ps : List (Option Held)) → length (with_two ps) ≡ length ps + 2
two-long ps = length-append ps (None ∷ None ∷ [])

-- ---- a word without marks more
zero-at : (words : List ℕ) (k : ℕ) → slice_index (words ++ 0 ∷ []) k ≡ slice_index words k
zero-at [] zero = refl
zero-at [] (suc k) = refl
zero-at (w ∷ ws) zero = refl
zero-at (w ∷ ws) (suc k) = zero-at ws k

mark-more : (words : List ℕ) (k : ℕ) → mark_at (words ++ 0 ∷ []) k ≡ mark_at words k
mark-more words k = ap (λ w. bit_at w (k % 64)) (zero-at words (k / 64))

-- ---- the index of them
-- with the marks that there are
pub indexed-two : (ps now : List (Option Held)) (count : ℕ) (words : List ℕ) → now ≡ with_two ps → length ps + 2 ≤ 64 * length words → IsIndexed ps count words → IsIndexed now count words
indexed-two ps now count words now-is room is = subst (λ l. IsIndexed l count words) (sym now-is) (record {
  counted = is.counted ∙ sym (two-count ps);
  room = let long = two-long ps in omega (arith, long, room);
  few = is.few;
  marks = λ c. is.marks c ∙ ap full_of (sym (two-at ps c));
})

-- and with a word more
pub indexed-word : (ps : List (Option Held)) (count : ℕ) (words more : List ℕ) → more ≡ words ++ 0 ∷ [] → length words ≤ 128 → IsIndexed ps count words → IsIndexed ps count more
indexed-word ps count words more more-is less is = subst (IsIndexed ps count) (sym more-is) (record {
  counted = is.counted;
  room = let long = length-append words (0 ∷ []) in let room = is.room in omega (arith, long, room);
  few = let long = length-append words (0 ∷ []) in omega (arith, long, less);
  marks = λ c. mark-more words c ∙ is.marks c;
})

-- which has room for two channels more
pub room-for-two : (channels : ℕ) (words more : List ℕ) → more ≡ words ++ 0 ∷ [] → channels ≤ 64 * length words → channels + 2 ≤ 64 * length more
room-for-two channels words more more-is room = let long = ap length more-is ∙ length-append words (0 ∷ []) in omega (arith, long, room)

-- the last two are taken away
pub indexed-others : (ps : List (Option Held)) (count : ℕ) (words : List ℕ) → IsIndexed (with_two ps) count words → IsIndexed ps count words
indexed-others ps count words is = record {
  counted = is.counted ∙ two-count ps;
  room = let long = two-long ps in let room = is.room in omega (arith, long, room);
  few = is.few;
  marks = λ c. is.marks c ∙ ap full_of (two-at ps c);
}

take-front : (xs ys : List (Option Held)) → take (length xs) (xs ++ ys) ≡ xs
take-front [] ys = refl
take-front (x ∷ xs) ys = ap (λ l. x ∷ l) (take-front xs ys)

last-off : (items xs : List (Option Held)) (x : Option Held) (n : ℕ) → n ≡ length items → items ≡ xs ++ x ∷ [] → take (n - 1) items ≡ xs
last-off items xs x n long is =
    let all = ap length is ∙ length-append xs (x ∷ []) in
    let less : n - 1 ≡ length xs = omega (arith, long, all) in
    ap (λ k. take k items) less ∙ ap (take (length xs)) is ∙ take-front xs (x ∷ [])

-- two pushes
pub append-two : (ps : List (Option Held)) (a b : Option Held) → ps ++ a ∷ b ∷ [] ≡ (ps ++ a ∷ []) ++ b ∷ []
append-two [] a b = refl
append-two (p ∷ ps) a b = ap (λ l. p ∷ l) (append-two ps a b)

-- two pops leave the others
pub two-off : (items others : List (Option Held)) (n m : ℕ) (once twice : List (Option Held)) → n ≡ length items → items ≡ with_two others → once ≡ take (n - 1) items → m ≡ length once → twice ≡ take (m - 1) once → twice ≡ others
two-off items others n m once twice long is first less second =
    let one : once ≡ others ++ None ∷ [] = first ∙ last-off items (others ++ None ∷ []) None n long (is ∙ append-two others None None) in
    second ∙ last-off once others None m less one
