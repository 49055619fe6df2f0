-- Routes whose adoption keeps the epoch are those that are adopted, no host has given the epoch up, and no cable came or went since it began.
use Rattle.std.proofs.Common.{◌≡◌, ℕ, Bool, true, false, not, ◌&&◌, List, [], ◌∷◌, nat_eq, refl, sym, true≢false, arith}
use Rattle.std.specs.Prelude.{ℤ}
use Rattle.std.proofs.lemmas.Bool.{and_parts}
use Rattle.std.proofs.lemmas.Bool.Decides.{nat_tests}
use Rattle.net_defs.specs.declared.route.Route.{Route}
use Rattle.net_defs.specs.Turn.{same_turns}
use Rattle.net_defs.proofs.Turns.{same_turns-true}
use Rattle.world_defs.specs.declared.standing.Standing.{Standing}
use Rattle.world_defs.specs.Table.{Adoption, is_kept_in}
use Rattle.net_defs.specs.RouteSet.{same_route, same_routes}

route-same : (a b c d : ℕ) (v w : List ℤ) → a ≡ b → c ≡ d → v ≡ w → (let r : Route = record { from = a; to = c; walk = v } in r) ≡ record { from = b; to = d; walk = w }
route-same a b c d v w e f g = cc

pub one-route : (r s : Route) → same_route r s ≡ true → r ≡ s
one-route r s e =
    let outer = and_parts (nat_eq r.from s.from && nat_eq r.to s.to) (same_turns r.walk s.walk) e in
    let ends = and_parts (nat_eq r.from s.from) (nat_eq r.to s.to) outer.0 in
    route-same r.from s.from r.to s.to r.walk s.walk (number r.from s.from ends.0) (number r.to s.to ends.1) (same_turns-true r.walk s.walk outer.1)
  where
    number : (a b : ℕ) → nat_eq a b ≡ true → a ≡ b
    number a b e = grind (arith, nat_tests)

pub one-list : (rs ss : List Route) → same_routes rs ss ≡ true → rs ≡ ss
one-list [] [] e = refl
one-list [] (s ∷ ss) e = absurd (true≢false (sym e))
one-list (r ∷ rs) [] e = absurd (true≢false (sym e))
one-list (r ∷ rs) (s ∷ ss) e =
    let parts = and_parts (same_route r s) (same_routes rs ss) e in
    let first = one-route r s parts.0 in
    let rest = one-list rs ss parts.1 in cc

-- What holds of a set whose epoch is kept.
pub record IsKeptSet (s : Standing) (rs : List Route) (a : Adoption) : Type 0 where
  pub same : rs ≡ a.routes
  pub unrevoked : s.revoked ≡ false
  pub still : s.changes ≡ a.at

pub kept-set : (s : Standing) (rs : List Route) (a : Adoption) → is_kept_in s rs a ≡ true → IsKeptSet s rs a
kept-set s rs a e =
    let outer = and_parts (same_routes rs a.routes && not s.revoked) (nat_eq s.changes a.at) e in
    let inner = and_parts (same_routes rs a.routes) (not s.revoked) outer.0 in
    record { same = one-list rs a.routes inner.0; unrevoked = negated s.revoked inner.1; still = number s.changes a.at outer.1 }
  where
    number : (a b : ℕ) → nat_eq a b ≡ true → a ≡ b
    number a b e = grind (arith, nat_tests)

    negated : (b : Bool) → not b ≡ true → b ≡ false
    negated true e = absurd (true≢false (sym e))
    negated false e = refl
