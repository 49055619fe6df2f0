-- Vertices that no cable between two switches cuts off from all hosts.
use Rattle.std.proofs.Common.{◌≡◌, ◌≢◌, ℕ, List, true, Option, Some, None, is_some, ap, sym, ◌∙◌, subst, ◌⊎◌, inl, inr}
use Rattle.std.specs.Prelude.{slice_get}
use Rattle.std.proofs.lemmas.Bool.{false≢true}
use Rattle.journal_defs.specs.Edges.{IsEdge}
use Rattle.journal_defs.specs.Edges.Steps.{start, step}
use Rattle.map_defs.specs.declared.vertex.MapVertex.{MapVertex}
use Rattle.map_defs.specs.declared.vertex.MapVertex.TheVariants.{Host, Switch}
use Rattle.map_defs.specs.declared.vertex.MapCable.{MapCable}
use Rattle.map_defs.specs.NetMap.{NetMap, map_edges, host_at, host_of_vertex, switch_at, is_switch_vertex}
use Rattle.map_defs.specs.Core.{without}
use Rattle.core_map.specs.Lasting.{IsBetweenSwitches, Lasts, IsJoinedBy}
use Rattle.core_map.proofs.Covering.{cable-edge}

-- ---- which vertices last
-- no vertex is a switch and a host
switch-or-host : (m : NetMap) (v : ℕ) → is_switch_vertex m v ≡ true → is_some (host_of_vertex m v) ≡ true → ⊥
switch-or-host m v = by (slice_get m.vertices v)
  where
    by : (o : Option MapVertex) → switch_at o ≡ true → is_some (host_at o) ≡ true → ⊥
    by (Some (Host h)) s t = false≢true s
    by (Some (Switch n)) s t = false≢true t
    by None s t = false≢true s

-- two cables of one number are one
one-cable : (cs : List MapCable) (i : ℕ) (c d : MapCable) → slice_get cs i ≡ Some c → slice_get cs i ≡ Some d → c ≡ d
one-cable cs i c d a b = let both : Some c ≡ Some d = sym a ∙ b in cc

-- a cable to a host is another than one between two switches
apart-from : (m : NetMap) (i k v w : ℕ) → IsJoinedBy m i v w → is_some (host_of_vertex m w) ≡ true → IsBetweenSwitches m k → i ≢ k
apart-from m i k v w j host s same = by j.ends
  where
    one : j.cable ≡ s.cable
    one = one-cable m.cables k j.cable s.cable (subst (λ n. slice_get m.cables n ≡ Some j.cable) same j.there) s.there

    by : ((j.cable.v ≡ v) × (j.cable.w ≡ w)) ⊎ ((j.cable.w ≡ v) × (j.cable.v ≡ w)) → ⊥
    by (inl e) = switch-or-host m w (ap (is_switch_vertex m) (sym e.1 ∙ ap (λ (x : MapCable). x.w) one) ∙ s.second) host
    by (inr e) = switch-or-host m w (ap (is_switch_vertex m) (sym e.1 ∙ ap (λ (x : MapCable). x.v) one) ∙ s.first) host

-- the edge of a cable that is left
left-edge : (m : NetMap) (i k v w : ℕ) → IsJoinedBy m i v w → i ≢ k → IsEdge (map_edges (without m.cables k)) v w
left-edge m i k v w j apart = cable-edge m.cables k i v w apart (record { cable = j.cable; there = j.there; ends = j.ends })

-- a vertex beside a host
pub lasts-beside : (m : NetMap) (i v w : ℕ) → IsJoinedBy m i v w → is_some (host_of_vertex m w) ≡ true → Lasts m v
lasts-beside m i v w j host = λ k s.
    record { host = w; joined = record { cables = 1; path = step start (left-edge m i k v w j (apart-from m i k v w j host s)) }; is_host = host }
