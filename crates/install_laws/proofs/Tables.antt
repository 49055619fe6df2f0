-- A table for which a part isn't old takes it, and then no part of that epoch is old either.
use Rattle.std.proofs.Common.{◌≡◌, ◌≤◌, ℕ, Bool, true, false, ◌&&◌, ◌||◌, List, [], nat_eq, nat_lt, Option, Some, None, refl, sym, ap, ◌∙◌, arith, true≢false, if◌then◌else◌}
use Rattle.std.proofs.lemmas.Bool.{and_from}
use Rattle.std.proofs.lemmas.Bool.Decides.{nat_tests}
use Rattle.world_defs.specs.Mapping.{RouteEntry, RoutePart}
use Rattle.world_defs.specs.declared.applied.Applied.{Applied}
use Rattle.world_defs.specs.declared.applied.Applied.TheVariants.{Active, Old}
use Rattle.world_defs.specs.Table.{TableState, of_epoch, collected_with, joined_or, joined_below, is_epoch, active_epoch, is_old, applied}

-- an epoch that was given up is old
old-marked : (t : TableState) (number : ℕ) → nat_eq number t.epoch ≡ true → t.revoked ≡ true → is_old t number ≡ true
old-marked t number e f = by (nat_lt number t.epoch)
  where
    by : (b : Bool) → (b || (nat_eq number t.epoch && t.revoked)) ≡ true
    by true = refl
    by false = and_from (nat_eq number t.epoch) t.revoked e f

none-and : (b c : Bool) → c ≡ false → (b && c) ≡ false
none-and true c e = e
none-and false c e = refl

-- one that is seen and isn't given up isn't old, where no later one was seen
pub due-now : (t : TableState) (number : ℕ) → t.epoch ≤ number → (nat_eq number t.epoch && t.revoked) ≡ false → is_old t number ≡ false
due-now t number low e = by (nat_lt number t.epoch) refl
  where
    by : (b : Bool) → nat_lt number t.epoch ≡ b → (b || (nat_eq number t.epoch && t.revoked)) ≡ false
    by true f = let l = low in absurd (grind (arith, nat_tests))
    by false f = e

-- what a part leaves
of_epoch-epoch : (t : TableState) (epoch : ℕ) → (of_epoch t epoch).epoch ≡ epoch
of_epoch-epoch t epoch = by (nat_eq t.epoch epoch) refl
  where
    by : (b : Bool) → nat_eq t.epoch epoch ≡ b → (if b then t else record t { epoch = epoch; revoked = false; collected = [] }).epoch ≡ epoch
    by true e = grind (arith, nat_tests)
    by false e = refl

of_epoch-revoked : (t : TableState) (epoch : ℕ) → is_old t epoch ≡ false → (of_epoch t epoch).revoked ≡ false
of_epoch-revoked t epoch due = by (nat_eq t.epoch epoch) t.revoked refl refl
  where
    by : (b m : Bool) → nat_eq t.epoch epoch ≡ b → t.revoked ≡ m → (if b then t else record t { epoch = epoch; revoked = false; collected = [] }).revoked ≡ false
    by true true e f =
        let same : nat_eq epoch t.epoch ≡ true = grind (arith, nat_tests) in
        absurd (true≢false (sym (old-marked t epoch same f) ∙ due))
    by true false e f = f
    by false m e f = refl

joined_or-epoch : (t : TableState) (o : Option (List RouteEntry)) → (joined_or t o).1.epoch ≡ t.epoch
joined_or-epoch t None = refl
joined_or-epoch t (Some entries) = refl

joined_or-revoked : (t : TableState) (o : Option (List RouteEntry)) → (joined_or t o).1.revoked ≡ t.revoked
joined_or-revoked t None = refl
joined_or-revoked t (Some entries) = refl

due-after : (t : TableState) (number : ℕ) → t.epoch ≡ number → t.revoked ≡ false → is_old t number ≡ false
due-after t number e f = due-now t number (omega (arith, e)) (none-and (nat_eq number t.epoch) t.revoked f)

pub applied-due : (t : TableState) (p : RoutePart) (number : ℕ) → p.epoch ≡ number → is_old t number ≡ false → is_old (applied t p).1 number ≡ false
unfolding applied
applied-due t p number one due = by (is_old t p.epoch) (is_epoch p.epoch (active_epoch t))
  where
    v : TableState
    v = collected_with (of_epoch t p.epoch) p

    o : Option (List RouteEntry)
    o = joined_below p.parts v.collected

    by : (b c : Bool) → is_old (if b then (let r : Applied × TableState = (Old, t) in r) else if c then (Active, t) else joined_or v o).1 number ≡ false
    by true c = due
    by false true = due
    by false false = due-after (joined_or v o).1 number (joined_or-epoch v o ∙ of_epoch-epoch t p.epoch ∙ one) (joined_or-revoked v o ∙ of_epoch-revoked t p.epoch (ap (is_old t) one ∙ due))
