-- What a table makes of a part, case by case.
use Rattle.std.proofs.Common.{◌≡◌, ◌<◌, ◌≤◌, ℕ, Bool, true, false, ◌&&◌, ◌||◌, nat_lt, nat_eq, ap, ◌∙◌, refl, arith, [], take, Some, None, if◌then◌else◌}
use Rattle.std.proofs.lemmas.Bool.Decides.{nat_tests}
use Rattle.world_defs.specs.Mapping.{RoutePart}
use Rattle.world_defs.specs.declared.applied.Applied.TheVariants.{Part, Active, Old}
use Rattle.world_defs.specs.Table.{TableState, applied, joined, joined_or, is_epoch, is_old, active_epoch}
use Rattle.route_install.specs.Collecting.{with_one, AreNumbered, joined_all, are_all}
use Rattle.route_install.proofs.Numbers.{all-joined}

pub applied-old : (t : TableState) (p : RoutePart) → is_old t p.epoch ≡ true → applied t p ≡ (Old, t)
unfolding applied
applied-old t p e = rw e refl

pub applied-active : (t : TableState) (p : RoutePart) → is_old t p.epoch ≡ false → is_epoch p.epoch (active_epoch t) ≡ true → applied t p ≡ (Active, t)
unfolding applied
applied-active t p e a = rw (e, a) refl

pub applied-next : (t : TableState) (p : RoutePart) → is_old t p.epoch ≡ false → is_epoch p.epoch (active_epoch t) ≡ false → applied t p ≡ joined p.parts (with_one t p.epoch p.part p.entries)
unfolding applied
applied-next t p e a = rw (e, a) refl

-- parts of an epoch that is later than all that was seen aren't old, nor are those of the latest, unless it was revoked
pub later-new : (t : TableState) (epoch : ℕ) → t.epoch < epoch → is_old t epoch ≡ false
later-new t epoch l =
    let low : nat_lt epoch t.epoch ≡ false = grind (arith, nat_tests) in
    let other : nat_eq epoch t.epoch ≡ false = grind (arith, nat_tests) in
    rw (low, other) refl

pub standing-new : (t : TableState) (epoch : ℕ) → t.epoch ≤ epoch → t.revoked ≡ false → is_old t epoch ≡ false
standing-new t epoch l stands = let low : nat_lt epoch t.epoch ≡ false = grind (arith, nat_tests) in rw (low, stands) (off (nat_eq epoch t.epoch))
  where
    off : (b : Bool) → (b && false) ≡ false
    off true = refl
    off false = refl

-- a table whose parts all stand, and one that lacks some
pub joined-active : (t : TableState) (parts : ℕ) → AreNumbered t.collected → are_all parts t.collected ≡ true → joined parts t ≡ (Active, record t { collected = []; active = Some (record { epoch = t.epoch; entries = joined_all (take parts t.collected) }) })
joined-active t parts up whole = ap (joined_or t) (all-joined parts t.collected up ∙ ap (λ b. if b then Some (joined_all (take parts t.collected)) else None) whole)

pub joined-part : (t : TableState) (parts : ℕ) → AreNumbered t.collected → are_all parts t.collected ≡ false → joined parts t ≡ (Part, t)
joined-part t parts up lacking = ap (joined_or t) (all-joined parts t.collected up ∙ ap (λ b. if b then Some (joined_all (take parts t.collected)) else None) lacking)
