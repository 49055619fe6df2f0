-- From world to world hosts keep what their tables have of the adopted set.
use Rattle.std.proofs.Common.{◌≡◌, ◌<◌, ℕ, zero, suc, true, Bool, false, nat_eq, List, [], ◌∷◌, length, get_or, Some, refl, sym, ap, ◌∙◌, subst, arith, if◌then◌else◌}
use Rattle.std.specs.Prelude.{slice_get}
use Rattle.std.proofs.lemmas.Bool.Decides.{nat_tests}
use Rattle.net_defs.specs.declared.route.Route.{Route}
use Rattle.net_defs.specs.RouteSet.{HasRoute}
use Rattle.world_defs.specs.Table.{Adoption, entries_from, part_count}
use Rattle.world_defs.specs.Node.{NodeState, Outgoing, new_node, after_sending}
use Rattle.world_defs.specs.World.{WorldState, node_at, with_node}
use Rattle.world_defs.proofs.Lists.{each-set}
use Rattle.world_defs.proofs.Tables.{sent-table}
use Rattle.ask_laws.proofs.Parcels.{SendKeeps}
use Rattle.install_laws.proofs.Collecting.{Has, TableGrows, grows-same-table}

-- how many parts the set has for a host
abbrev pub parts_for : Adoption → ℕ → ℕ
parts_for a h = part_count (length (entries_from a.routes h))

-- a host has a part of its table
abbrev pub HasPart : Adoption → ℕ → ℕ → WorldState → Type 0
HasPart a h part w = Has a.epoch (parts_for a h) part (node_at w h).table

-- each host keeps what it has
pub record Grows (a : Adoption) (w v : WorldState) : Type 0 where
  pub each : (h : ℕ) → TableGrows a.epoch (parts_for a h) (node_at w h).table (node_at v h).table

pub grows-same : (a : Adoption) (w : WorldState) → Grows a w w
grows-same a w = record { each = λ h. grows-same-table a.epoch (parts_for a h) (node_at w h).table (node_at w h).table refl }

pub grows-both : (a : Adoption) (u v w : WorldState) → Grows a u v → Grows a v w → Grows a u w
grows-both a u v w g k = record {
  each = λ h. record {
    active = λ x. (k.each h).active ((g.each h).active x);
    parts = λ part x. (k.each h).parts part ((g.each h).parts part x);
  };
}

-- tables stay
pub grows-still : (a : Adoption) (w v : WorldState) → ((h : ℕ) → (node_at v h).table ≡ (node_at w h).table) → Grows a w v
grows-still a w v same = record { each = λ h. grows-same-table a.epoch (parts_for a h) (node_at w h).table (node_at v h).table (same h) }

-- one host's table grows
abbrev From : Adoption → WorldState → ℕ → NodeState → Type 0
From a w h n = TableGrows a.epoch (parts_for a h) (node_at w h).table n.table

from-same : (a : Adoption) (w : WorldState) (h : ℕ) → From a w h (node_at w h)
from-same a w h = grows-same-table a.epoch (parts_for a h) (node_at w h).table (node_at w h).table refl

pub grows-node : (a : Adoption) (w : WorldState) (h : ℕ) (n : NodeState) → TableGrows a.epoch (parts_for a h) (node_at w h).table n.table → Grows a w (with_node w h n)
grows-node a w h n g = record { each = λ j. each-set (From a w) w.nodes h j n (new_node 0) g (from-same a w) }

-- a host has sent
pub grows-sent : (a : Adoption) (w : WorldState) (h : ℕ) (out : Outgoing) (t : WorldState) → SendKeeps w h out t → Grows a w t
grows-sent a w h out t k =
    let m : NodeState = after_sending (node_at w h) out in
    let still : From a w h m = grows-same-table a.epoch (parts_for a h) (node_at w h).table m.table (sent-table (node_at w h) out) in
    record {
      each = λ j. subst (λ ns. From a w j (get_or ns j (new_node 0))) (sym k.nodes) (each-set (From a w) w.nodes h j m (new_node 0) still (from-same a w));
    }

-- a host from which a route leads has entries
entries-some : (rs : List Route) (h k : ℕ) (r : Route) → slice_get rs k ≡ Some r → r.from ≡ h → 0 < length (entries_from rs h)
entries-some [] h k r at from = cc
entries-some (x ∷ rs) h k r at from = by (nat_eq x.from h) refl k at (λ j q. entries-some rs h j r q from)
  where
    Some_of : Bool → Type 0
    Some_of b = 0 < length (if b then (record { to = x.to; walk = x.walk }) ∷ entries_from rs h else entries_from rs h)

    all : (b : Bool) → nat_eq x.from h ≡ b → Some_of b → 0 < length (entries_from (x ∷ rs) h)
    all true e s = rw e s
    all false e s = rw e s

    by : (b : Bool) → nat_eq x.from h ≡ b → (k : ℕ) → slice_get (x ∷ rs) k ≡ Some r → ((j : ℕ) → slice_get rs j ≡ Some r → 0 < length (entries_from rs h)) → 0 < length (entries_from (x ∷ rs) h)
    by true e k q rest = all true e (omega arith)
    by false e zero q rest =
        let same : x ≡ r = cc in
        let here : x.from ≡ h = ap (λ (y : Route). y.from) same ∙ from in
        absurd (grind (arith, nat_tests))
    by false e (suc k) q rest = all false e (rest k q)

pub parts-some : (a : Adoption) (h to : ℕ) → HasRoute a.routes h to → 0 < parts_for a h
parts-some a h to has = let some = entries-some a.routes h has.place has.route has.there has.from in omega (arith, some)
