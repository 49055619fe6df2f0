-- Numbers of two words are compared one word after the other; and an empty plan has no fault.
use Rattle.std.proofs.Common.{◌≡◌, ◌≢◌, ◌<◌, ◌≤◌, ◌+◌, ◌*◌, ℕ, List, [], ◌∷◌, None, length, nat_eq, Less, Equal, Greater, refl, arith}
use Rattle.std.specs.Map.{lookup}
use Rattle.std.specs.Ordering.{nat_cmp}
use Rattle.std.proofs.lemmas.Bool.Decides.{nat_tests}
use Rattle.world_defs.specs.declared.fault.Fault.{Fault}
use Rattle.world_defs.specs.World.{without_fault}

-- the order of two numbers, by two tests
pub greater : (x y : ℕ) → y < x → Greater ≡ nat_cmp x y
greater x y h = grind (arith, nat_tests)

pub same : (x y : ℕ) → x ≡ y → Equal ≡ nat_cmp x y
same x y e = grind (arith, nat_tests)

pub less : (x y : ℕ) → x ≤ y → x ≢ y → Less ≡ nat_cmp x y
less x y h n = grind (arith, nat_tests)

-- where the upper words are the same, the lower ones decide
pub same_upper : (u a b : ℕ) → nat_cmp a b ≡ nat_cmp (u * 18446744073709551616 + a) (u * 18446744073709551616 + b)
same_upper u a b = grind (arith, nat_tests)

-- where they differ, they decide
pub other_upper : (u v a b : ℕ) → u ≢ v → a < 18446744073709551616 → b < 18446744073709551616
    → nat_cmp u v ≡ nat_cmp (u * 18446744073709551616 + a) (v * 18446744073709551616 + b)
other_upper u v a b other low_a low_b = grind (arith, nat_tests)

-- they are equal where both words are
pub same_lower : (u a b : ℕ) → nat_eq a b ≡ nat_eq (u * 18446744073709551616 + a) (u * 18446744073709551616 + b)
same_lower u a b = grind (arith, nat_tests)

pub unlike_upper : (u v a b : ℕ) → u ≢ v → a < 18446744073709551616 → b < 18446744073709551616
    → nat_eq u v ≡ nat_eq (u * 18446744073709551616 + a) (v * 18446744073709551616 + b)
unlike_upper u v a b other low_a low_b = grind (arith, nat_tests)

-- where no fault is planned, none is found
pub none_planned : (number : ℕ) (plan : List (ℕ × Fault)) → length plan ≡ 0 → None ≡ lookup (nat_eq number) plan
none_planned number [] e = refl
none_planned number (x ∷ xs) e = absurd (omega (arith, e))

-- and none is taken away
pub nothing_removed : (number : ℕ) (plan : List (ℕ × Fault)) → length plan ≡ 0 → plan ≡ without_fault number plan
nothing_removed number [] e = refl
nothing_removed number (x ∷ xs) e = absurd (omega (arith, e))
