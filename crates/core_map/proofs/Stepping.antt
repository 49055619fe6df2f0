-- Cables of the walk, and paths that go round some.
use Rattle.std.proofs.Common.{◌≡◌, ◌≢◌, ◌<◌, ◌≤◌, ◌+◌, ℕ, zero, suc, List, ◌∷◌, length, Bool, true, false, Some, refl, ap, sym, ◌∙◌, arith, nat_eq, if◌then◌else◌, ◌⊎◌, inl, inr}
use Rattle.std.specs.Prelude.{slice_get}
use Rattle.std.specs.List.{AllByRecursion}
use Rattle.std.proofs.lemmas.Bool.{false≢true}
use Rattle.std.proofs.lemmas.Bool.Decides.{Decides-eqb}
use Rattle.std.proofs.lemmas.Option.{slice_get_within}
use Rattle.journal_defs.specs.Edges.{IsEdge}
use Rattle.journal_defs.specs.Edges.Steps.{start, step}
use Rattle.journal_defs.proofs.Reach.{steps-join}
use Rattle.map_defs.specs.declared.vertex.MapCable.{MapCable}
use Rattle.map_defs.specs.NetMap.{NetMap, map_edges}
use Rattle.map_defs.specs.Core.{without}
use Rattle.core_map.specs.Laws.{IsJoinedWithout}
use Rattle.core_map.specs.Lasting.{IsJoinedBy}
use Rattle.core_map.specs.Walking.{Around, EndsAt, other_of}
use Rattle.core_map.specs.Walking.Around.{here, on}
use Rattle.core_map.proofs.Covering.{cable-edge, edge-cable}

-- two cables of one number are one
one-cable : (cs : List MapCable) (i : ℕ) (c d : MapCable) → slice_get cs i ≡ Some c → slice_get cs i ≡ Some d → c ≡ d
one-cable cs i c d a b = let both : Some c ≡ Some d = sym a ∙ b in cc

pub joined-first : (m : NetMap) (i : ℕ) (c : MapCable) → slice_get m.cables i ≡ Some c → IsJoinedBy m i c.v c.w
joined-first m i c e = record { cable = c; there = e; ends = inl (refl, refl) }

pub joined-second : (m : NetMap) (i : ℕ) (c : MapCable) → slice_get m.cables i ≡ Some c → IsJoinedBy m i c.w c.v
joined-second m i c e = record { cable = c; there = e; ends = inr (refl, refl) }

pub joined-back : (m : NetMap) (i v w : ℕ) → IsJoinedBy m i v w → IsJoinedBy m i w v
joined-back m i v w j = record { cable = j.cable; there = j.there; ends = by j.ends }
  where
    by : ((j.cable.v ≡ v) × (j.cable.w ≡ w)) ⊎ ((j.cable.w ≡ v) × (j.cable.v ≡ w)) → ((j.cable.v ≡ w) × (j.cable.w ≡ v)) ⊎ ((j.cable.w ≡ w) × (j.cable.v ≡ v))
    by (inl e) = inr (e.1, e.0)
    by (inr e) = inl (e.1, e.0)

pub joined-number : (m : NetMap) (i v w : ℕ) → IsJoinedBy m i v w → i < length m.cables
joined-number m i v w j = slice_get_within m.cables i j.cable j.there

-- the ends of a cable that joins two vertices
pub same-ends : (m : NetMap) (i v w x y : ℕ) → IsJoinedBy m i v w → IsJoinedBy m i x y → ((x ≡ v) × (y ≡ w)) ⊎ ((x ≡ w) × (y ≡ v))
same-ends m i v w x y j k = by j.ends k.ends
  where
    one : j.cable ≡ k.cable
    one = one-cable m.cables i j.cable k.cable j.there k.there

    first : j.cable.v ≡ k.cable.v
    first = ap (λ (c : MapCable). c.v) one

    second : j.cable.w ≡ k.cable.w
    second = ap (λ (c : MapCable). c.w) one

    by : ((j.cable.v ≡ v) × (j.cable.w ≡ w)) ⊎ ((j.cable.w ≡ v) × (j.cable.v ≡ w)) → ((k.cable.v ≡ x) × (k.cable.w ≡ y)) ⊎ ((k.cable.w ≡ x) × (k.cable.v ≡ y)) → ((x ≡ v) × (y ≡ w)) ⊎ ((x ≡ w) × (y ≡ v))
    by (inl a) (inl b) = inl (sym b.0 ∙ sym first ∙ a.0, sym b.1 ∙ sym second ∙ a.1)
    by (inl a) (inr b) = inr (sym b.0 ∙ sym second ∙ a.1, sym b.1 ∙ sym first ∙ a.0)
    by (inr a) (inl b) = inr (sym b.0 ∙ sym first ∙ a.1, sym b.1 ∙ sym second ∙ a.0)
    by (inr a) (inr b) = inl (sym b.0 ∙ sym second ∙ a.0, sym b.1 ∙ sym first ∙ a.1)

pub same-other : (m : NetMap) (i v w y : ℕ) → IsJoinedBy m i v w → IsJoinedBy m i v y → y ≡ w
same-other m i v w y j k = by (same-ends m i v w v y j k)
  where
    by : ((v ≡ v) × (y ≡ w)) ⊎ ((v ≡ w) × (y ≡ v)) → y ≡ w
    by (inl e) = e.1
    by (inr e) = e.1 ∙ e.0

-- the other end, as it is read
pub other-joined : (m : NetMap) (i v : ℕ) (c : MapCable) → slice_get m.cables i ≡ Some c → EndsAt m i v → IsJoinedBy m i v (other_of c v)
other-joined m i v c e s = by (nat_eq c.v v) refl (same-ends m i v s.other c.v c.w s.joined (joined-first m i c e))
  where
    by : (b : Bool) → nat_eq c.v v ≡ b → ((c.v ≡ v) × (c.w ≡ s.other)) ⊎ ((c.v ≡ s.other) × (c.w ≡ v)) → IsJoinedBy m i v (if b then c.w else c.v)
    by true p ends = record { cable = c; there = e; ends = inl ((Decides-eqb c.v v).0 p, refl) }
    by false p (inl q) = absurd (false≢true (sym p ∙ (Decides-eqb c.v v).1 q.0))
    by false p (inr q) = record { cable = c; there = e; ends = inr (q.1, refl) }

-- ---- without a cable
pub edge-without : (m : NetMap) (k i v w : ℕ) → i ≢ k → IsJoinedBy m i v w → IsEdge (map_edges (without m.cables k)) v w
edge-without m k i v w d j = cable-edge m.cables k i v w d (record { cable = j.cable; there = j.there; ends = j.ends })

pub record LeftBy (m : NetMap) (k v w : ℕ) : Type 0 where
  pub number : ℕ
  pub other : number ≢ k
  pub joined : IsJoinedBy m number v w

pub without-edge : (m : NetMap) (k v w : ℕ) → IsEdge (map_edges (without m.cables k)) v w → LeftBy m k v w
without-edge m k v w e =
    let o = edge-cable m.cables k v w e in
    record { number = o.number; other = o.other; joined = record { cable = o.joins.cable; there = o.joins.there; ends = o.joins.ends } }

pub joined-here : (m : NetMap) (k v : ℕ) → IsJoinedWithout m k v v
joined-here m k v = record { cables = 0; path = start }

pub joined-on : (m : NetMap) (k i u v w : ℕ) → IsJoinedWithout m k u v → i ≢ k → IsJoinedBy m i v w → IsJoinedWithout m k u w
joined-on m k i u v w p d j = record { cables = suc p.cables; path = step p.path (edge-without m k i v w d j) }

pub joined-both : (m : NetMap) (k u v w : ℕ) → IsJoinedWithout m k u v → IsJoinedWithout m k v w → IsJoinedWithout m k u w
joined-both m k u v w p q = record { cables = q.cables + p.cables; path = steps-join (map_edges (without m.cables k)) u v w p.cables q.cables p.path q.path }

-- ---- round some cables
pub around-without : (m : NetMap) (k : ℕ) (ks : List ℕ) (x y : ℕ) → Around m (k ∷ ks) x y → IsJoinedWithout m k x y
around-without m k ks x y (here) = joined-here m k x
around-without m k ks x y (on i {u = u} {w = w} p j free) = joined-on m k i x u w (around-without m k ks x u p) (λ e. free.0 (sym e)) j

pub around-fewer : (m : NetMap) (k : ℕ) (ks : List ℕ) (x y : ℕ) → Around m (k ∷ ks) x y → Around m ks x y
around-fewer m k ks x y (here) = here
around-fewer m k ks x y (on i p j free) = on i (around-fewer m k ks x _ p) j free.1

pub around-from : (m : NetMap) (ks : List ℕ) (i v x y : ℕ) → IsJoinedBy m i v x → AllByRecursion (λ k. k ≢ i) ks → Around m ks x y → Around m ks v y
around-from m ks i v x y j free (here) = on i here j free
around-from m ks i v x y j free (on n p l f) = on n (around-from m ks i v x _ j free p) l f

pub second-is : (m : NetMap) (i v : ℕ) (c : MapCable) → slice_get m.cables i ≡ Some c → EndsAt m i v → c.v ≢ v → c.w ≡ v
second-is m i v c e s d = by (same-ends m i v s.other c.v c.w s.joined (joined-first m i c e))
  where
    by : ((c.v ≡ v) × (c.w ≡ s.other)) ⊎ ((c.v ≡ s.other) × (c.w ≡ v)) → c.w ≡ v
    by (inl q) = absurd (d q.0)
    by (inr q) = q.1

pub positive : (n : ℕ) → n ≢ 0 → 1 ≤ n
positive zero d = absurd (d refl)
positive (suc n) d = omega arith
