-- Where a path may end, by tests.
use Rattle.std.proofs.Common.{◌≡◌, ℕ, List, [], ◌∷◌, Bool, true, false, ◌||◌, Option, Some, None, sym, ◌∙◌, subst, ap, true≢false, refl, ◌⊎◌, inl, inr}
use Rattle.std.specs.Prelude.{slice_get}
use Rattle.std.specs.List.{list_any}
use Rattle.std.proofs.lemmas.Bool.{false≢true, or_cases}
use Rattle.net_defs.specs.declared.vertex.Vertex.{Vertex}
use Rattle.net_defs.specs.declared.vertex.Vertex.TheVariants.{Host, Switch}
use Rattle.net_defs.specs.declared.vertex.End.{End}
use Rattle.net_defs.specs.declared.vertex.Cable.{Cable}
use Rattle.net_defs.specs.Network.{Network, same_vertex}
use Rattle.net_defs.proofs.Ends.{same_vertex-true, same_vertex-refl}
use Rattle.journal_defs.proofs.Order.{or-left, or-right}
use Rattle.circ_defs.specs.Ways.{IsOneOf, IsTouched, Joins}
use Rattle.circ_defs.specs.Ways.Joins.{forth, back}
use Rattle.circ_ears.proofs.Onward.{Stops}
use Rattle.circ_ears.specs.Search.{may_end}
use Rattle.circ_ears.specs.Trails.{ends_at, ends_there, is_touched}

-- a cable joins an end at a vertex to another
record EndsThere (n : Network) (k : ℕ) (v : Vertex) : Type 0 where
  pub from : End
  pub to : End
  pub joins : Joins n k from to
  pub there : from.v ≡ v

ends-there : (n : Network) (k : ℕ) (v : Vertex) → ends_at n k v ≡ true → EndsThere n k v
ends-there n k v e = by (slice_get n.cables k) refl e
  where
    at : (c : Cable) → slice_get n.cables k ≡ Some c → (same_vertex c.a.v v ≡ true) ⊎ (same_vertex c.b.v v ≡ true) → EndsThere n k v
    at c p (inl q) = record { from = c.a; to = c.b; joins = forth p; there = same_vertex-true c.a.v v q }
    at c p (inr q) = record { from = c.b; to = c.a; joins = back p; there = same_vertex-true c.b.v v q }

    by : (o : Option Cable) → slice_get n.cables k ≡ o → ends_there o v ≡ true → EndsThere n k v
    by None p q = absurd (false≢true q)
    by (Some c) p q = at c p (or_cases (same_vertex c.a.v v) (same_vertex c.b.v v) q)

there-ends : (n : Network) (k : ℕ) (d e : End) (v : Vertex) → Joins n k d e → d.v ≡ v → ends_at n k v ≡ true
there-ends n k d e v (forth {c = c} p) q = ap (λ o. ends_there o v) p ∙ or-left (same_vertex c.a.v v) (same_vertex c.b.v v) (subst (λ x. same_vertex c.a.v x ≡ true) q (same_vertex-refl c.a.v))
there-ends n k d e v (back {c = c} p) q = ap (λ o. ends_there o v) p ∙ or-right (same_vertex c.a.v v) (same_vertex c.b.v v) (subst (λ x. same_vertex c.b.v x ≡ true) q (same_vertex-refl c.b.v))

pub touched-by : (n : Network) (ks : List ℕ) (v : Vertex) → is_touched n ks v ≡ true → IsTouched n ks v
touched-by n [] v e = absurd (false≢true e)
touched-by n (k ∷ ks) v e = by (or_cases (ends_at n k v) (is_touched n ks v) e) (touched-by n ks v)
  where
    later : IsTouched n ks v → IsTouched n (k ∷ ks) v
    later t = record { cable = t.cable; from = t.from; to = t.to; one_of = inr t.one_of; joins = t.joins; there = t.there }

    by : (ends_at n k v ≡ true) ⊎ (is_touched n ks v ≡ true) → (is_touched n ks v ≡ true → IsTouched n ks v) → IsTouched n (k ∷ ks) v
    by (inl p) rest = let t = ends-there n k v p in record { cable = k; from = t.from; to = t.to; one_of = inl refl; joins = t.joins; there = t.there }
    by (inr p) rest = later (rest p)

pub by-touched : (n : Network) (ks : List ℕ) (v : Vertex) → IsTouched n ks v → is_touched n ks v ≡ true
by-touched n ks v t = at ks t.one_of
  where
    at : (ks : List ℕ) → IsOneOf t.cable ks → is_touched n ks v ≡ true
    at [] m = absurd m
    at (k ∷ ks) (inl e) = or-left (ends_at n k v) (is_touched n ks v) (there-ends n k t.from t.to v (subst (λ l. Joins n l t.from t.to) e t.joins) t.there)
    at (k ∷ ks) (inr m) = or-right (ends_at n k v) (is_touched n ks v) (at ks m)

pub not-touched : (n : Network) (ks : List ℕ) (v : Vertex) → is_touched n ks v ≡ false → ¬ IsTouched n ks v
not-touched n ks v e t = true≢false (sym (by-touched n ks v t) ∙ e)

pub end-may : (n : Network) (old : List ℕ) (v : Vertex) → may_end n old v ≡ true → Stops n old v
end-may n old (Host h) e = inr (h, refl)
end-may n old (Switch s) e = inl (touched-by n old (Switch s) e)

pub may-end : (n : Network) (old : List ℕ) (v : Vertex) → Stops n old v → may_end n old v ≡ true
may-end n old (Host h) s = refl
may-end n old (Switch s) (inl t) = by-touched n old (Switch s) t
may-end n old (Switch s) (inr h) = let two : Switch s ≡ Host h.0 = h.1 in cc

pub not-end : (n : Network) (old : List ℕ) (v : Vertex) → may_end n old v ≡ false → ¬ Stops n old v
not-end n old v e s = true≢false (sym (may-end n old v s) ∙ e)
