-- What holds of links that are clear for a packet.
use Rattle.std.proofs.Common.{◌≡◌, ◌<◌, ◌+◌, ℕ, Bool, true, false, not, ◌&&◌, nat_eq, nat_le, Option, Some, None, refl, arith}
use Rattle.std.specs.Prelude.{is_none}
use Rattle.std.specs.Map.{lookup}
use Rattle.std.proofs.lemmas.Bool.Decides.{nat_tests}
use Rattle.world_defs.specs.declared.fault.Fault.{Fault}
use Rattle.world_defs.specs.Links.{is_idle}
use Rattle.world_defs.specs.World.{last_count}
use Rattle.faulty_links.specs.Held.{LinksAndPlan, is_clear}

-- The links are idle, an injection is left, and no fault is planned for it.
pub record IsClear (p : LinksAndPlan) : Type 0 where
  pub idle : is_idle p.links ≡ true
  pub left : p.injected < last_count
  pub unplanned : lookup (nat_eq (p.injected + 1)) p.plan ≡ None

both-true : (a b : Bool) → (a && b) ≡ true → (a ≡ true) × (b ≡ true)
both-true true b e = (refl, e)
both-true false b e = cc

less : (a b : ℕ) → not (nat_le a b) ≡ true → b < a
less a b e = by (nat_le a b) refl e
  where
    by : (t : Bool) → nat_le a b ≡ t → not t ≡ true → b < a
    by true is e = cc
    by false is e = grind (arith, nat_tests)

no-fault : (o : Option Fault) → is_none o ≡ true → o ≡ None
no-fault None e = refl
no-fault (Some f) e = cc

pub clear-parts : (p : LinksAndPlan) → is_clear p ≡ true → IsClear p
clear-parts p e =
    let first = both-true (is_idle p.links) (not (nat_le last_count p.injected) && is_none (lookup (nat_eq (p.injected + 1)) p.plan)) e in
    let second = both-true (not (nat_le last_count p.injected)) (is_none (lookup (nat_eq (p.injected + 1)) p.plan)) first.1 in
    record { idle = first.0; left = less last_count p.injected second.0; unplanned = no-fault (lookup (nat_eq (p.injected + 1)) p.plan) second.1 }
