-- Each row of a table is a contribution.
use Rattle.std.proofs.Common.{◌≡◌, ◌<◌, ◌+◌, ℕ, zero, suc, Bool, true, nat_eq, [], ◌∷◌, get_or, replicate, add-one, ◌*◌, subst, refl, sym, ap, ◌∙◌, arith}
use Rattle.std.proofs.lemmas.List.{replicate-append-replicate}
use Rattle.std.proofs.lemmas.Bool.Decides.{Decides-eqb}
use Rattle.std.specs.Int.Bits.{xor_zero_r}
use Rattle.packet_defs.specs.Crc.{crc, contribution}
use Rattle.packet_defs.proofs.Checking.{below, each_below}
use Rattle.packet_defs.proofs.Crcs.{crc-push, crc-lt}
use Rattle.crc_eight.proofs.Powers.{contribution-further}
use Rattle.crc_eight.specs.declared.tables.TheConstants.{TABLES, BEHIND}

-- row b of the table for k places
abbrev entry : ℕ → ℕ → ℕ
entry k b = get_or (get_or TABLES k []) b 0

-- the rows of the first table are the CRCs of their bytes
abbrev is_first : ℕ → Bool
is_first b = nat_eq (entry 0 b) (crc (b ∷ []))

-- and those of each other the CRCs of the rows of the one before
abbrev is_next : ℕ → ℕ → Bool
is_next k b = nat_eq (entry (k + 1) b) (crc (entry k b ∷ []))

first_check : below is_first 256 ≡ true
first_check = refl

next_check : below (λ k. below (is_next k) 256) 15 ≡ true
next_check = refl

first-row : (b : ℕ) → b < 256 → entry 0 b ≡ crc (b ∷ [])
first-row b h = (Decides-eqb (entry 0 b) (crc (b ∷ []))).0 (each_below is_first 256 first_check b h)

next-row : (k b : ℕ) → k < 15 → b < 256 → entry (k + 1) b ≡ crc (entry k b ∷ [])
next-row k b few h =
    let all : below (is_next k) 256 ≡ true = each_below (λ k. below (is_next k) 256) 15 next_check k few in
    (Decides-eqb (entry (k + 1) b) (crc (entry k b ∷ []))).0 (each_below (is_next k) 256 all b h)

-- one place more is one zero byte more
contribution-next : (b k : ℕ) → contribution b (k + 1) ≡ crc (contribution b k ∷ [])
contribution-next b k =
    ap (λ l. crc (b ∷ l)) (sym (replicate-append-replicate k 1 0))
    ∙ crc-push (b ∷ replicate k 0) 0 (omega arith)
    ∙ ap (λ x. crc (x ∷ [])) (xor_zero_r (contribution b k))

-- so each row is what its byte adds at the table's place
pub row-contribution : (k b : ℕ) → k < 16 → b < 256 → get_or (get_or TABLES k []) b 0 ≡ contribution b k
row-contribution zero b few h = first-row b h
row-contribution (suc k) b few h =
    ap (λ n. entry n b) (sym (add-one k))
    ∙ next-row k b (omega arith) h
    ∙ ap (λ x. crc (x ∷ [])) (row-contribution k b (omega arith) h)
    ∙ sym (contribution-next b k)
    ∙ ap (contribution b) (add-one k)

-- row b of the table for k slices
abbrev behind : ℕ → ℕ → ℕ
behind k b = get_or (get_or BEHIND k []) b 0

-- the rows of its first table are their bytes
abbrev is_whole : ℕ → Bool
is_whole b = nat_eq (behind 0 b) b

-- and those of each other what the rows of the one before add sixteen places on
abbrev is_slice_on : ℕ → ℕ → Bool
is_slice_on k b = nat_eq (behind (k + 1) b) (entry 15 (behind k b))

whole_check : below is_whole 256 ≡ true
whole_check = refl

slice_check : below (λ k. below (is_slice_on k) 256) 7 ≡ true
slice_check = refl

-- so what is left of a byte is one, and adds what the byte does from before the slices
behind-byte : (k b : ℕ) → k < 8 → b < 256 → (behind k b < 256) × ((n : ℕ) → contribution (behind k b) n ≡ contribution b (16 * k + n))
behind-byte zero b few h =
    let whole : behind 0 b ≡ b = (Decides-eqb (behind 0 b) b).0 (each_below is_whole 256 whole_check b h) in (
      subst (λ x. x < 256) (sym whole) h,
      λ n.
          let here : n ≡ 16 * 0 + n = omega arith in
          ap (λ x. contribution x n) whole ∙ ap (contribution b) here,
    )
behind-byte (suc k) b few h =
    let less : k < 7 = omega arith in
    let before : (behind k b < 256) × ((n : ℕ) → contribution (behind k b) n ≡ contribution b (16 * k + n)) = behind-byte k b (omega arith) h in
    let all : below (is_slice_on k) 256 ≡ true = each_below (λ k. below (is_slice_on k) 256) 7 slice_check k less in
    let row : behind (k + 1) b ≡ entry 15 (behind k b) = (Decides-eqb (behind (k + 1) b) (entry 15 (behind k b))).0 (each_below (is_slice_on k) 256 all b h) in
    let on : behind (suc k) b ≡ contribution (behind k b) 15 = ap (λ n. behind n b) (sym (add-one k)) ∙ row ∙ row-contribution 15 (behind k b) (omega arith) before.0 in (
      subst (λ x. x < 256) (sym on) (crc-lt (behind k b ∷ replicate 15 0)),
      λ n.
          let further : 16 * k + (15 + 1 + n) ≡ 16 * suc k + n = omega arith in
          ap (λ x. contribution x n) on ∙ contribution-further (behind k b) 15 n before.0 ∙ before.1 (15 + 1 + n) ∙ ap (contribution b) further,
    )

pub behind-contribution : (k b n : ℕ) → k < 8 → b < 256 → contribution (get_or (get_or BEHIND k []) b 0) n ≡ contribution b (16 * k + n)
behind-contribution k b n few h = (behind-byte k b few h).1 n
