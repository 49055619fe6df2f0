-- The cables that are left when one is taken away, and their edges.
use Rattle.std.proofs.Common.{◌≡◌, ◌≢◌, ℕ, zero, suc, List, [], ◌∷◌, Some, refl, ap, ◌∙◌, arith, ◌⊎◌, inl, inr}
use Rattle.std.specs.Prelude.{slice_get}
use Rattle.journal_defs.specs.Edges.{IsEdge}
use Rattle.map_defs.specs.declared.vertex.MapCable.{MapCable}
use Rattle.map_defs.specs.NetMap.{map_edges}
use Rattle.map_defs.specs.Core.{without}

-- The cable of a number joins two vertices, one way or the other.
pub record Joins (cs : List MapCable) (i v w : ℕ) : Type 0 where
  pub cable : MapCable
  pub there : slice_get cs i ≡ Some cable
  pub ends : ((cable.v ≡ v) × (cable.w ≡ w)) ⊎ ((cable.w ≡ v) × (cable.v ≡ w))

-- The edge of a cable that wasn't taken away.
pub record IsOther (cs : List MapCable) (k v w : ℕ) : Type 0 where
  pub number : ℕ
  pub other : number ≢ k
  pub joins : Joins cs number v w

later : (c : MapCable) (cs : List MapCable) (v w i : ℕ) → Joins cs i v w → Joins (c ∷ cs) (suc i) v w
later c cs v w i j = record { cable = j.cable; there = j.there; ends = j.ends }

any-edge : (cs : List MapCable) (v w : ℕ) → IsEdge (map_edges cs) v w → (i : ℕ) × Joins cs i v w
any-edge [] v w e = absurd e
any-edge (c ∷ cs) v w (inl p) = (0, record { cable = c; there = refl; ends = inl p })
any-edge (c ∷ cs) v w (inr (inl p)) = (0, record { cable = c; there = refl; ends = inr p })
any-edge (c ∷ cs) v w (inr (inr e)) = let j = any-edge cs v w e in (suc j.0, later c cs v w j.0 j.1)

no-zero : (i : ℕ) → suc i ≢ 0
no-zero i e = absurd (omega arith)

pub edge-cable : (cs : List MapCable) (k v w : ℕ) → IsEdge (map_edges (without cs k)) v w → IsOther cs k v w
edge-cable [] k v w e = absurd e
edge-cable (c ∷ cs) zero v w e = let j = any-edge cs v w e in record { number = suc j.0; other = no-zero j.0; joins = later c cs v w j.0 j.1 }
edge-cable (c ∷ cs) (suc k) v w (inl p) = record { number = 0; other = (λ e. absurd (omega arith)); joins = record { cable = c; there = refl; ends = inl p } }
edge-cable (c ∷ cs) (suc k) v w (inr (inl p)) = record { number = 0; other = (λ e. absurd (omega arith)); joins = record { cable = c; there = refl; ends = inr p } }
edge-cable (c ∷ cs) (suc k) v w (inr (inr e)) =
    let j = edge-cable cs k v w e in
    record { number = suc j.number; other = (λ p. j.other (let q : j.number ≡ k = omega arith in q)); joins = later c cs v w j.number j.joins }

joins-edge : (cs : List MapCable) (i v w : ℕ) → Joins cs i v w → IsEdge (map_edges cs) v w
joins-edge [] i v w j = let there = j.there in cc
joins-edge (c ∷ cs) zero v w j = by c (let one : c ≡ j.cable = (let there = j.there in cc) in one) j.ends
  where
    by : (d : MapCable) → d ≡ j.cable → ((j.cable.v ≡ v) × (j.cable.w ≡ w)) ⊎ ((j.cable.w ≡ v) × (j.cable.v ≡ w)) → IsEdge (map_edges (d ∷ cs)) v w
    by d e (inl p) = inl (ap (λ (x : MapCable). x.v) e ∙ p.0, ap (λ (x : MapCable). x.w) e ∙ p.1)
    by d e (inr p) = inr (inl (ap (λ (x : MapCable). x.w) e ∙ p.0, ap (λ (x : MapCable). x.v) e ∙ p.1))
joins-edge (c ∷ cs) (suc i) v w j = inr (inr (joins-edge cs i v w (record { cable = j.cable; there = j.there; ends = j.ends })))

pub cable-edge : (cs : List MapCable) (k i v w : ℕ) → i ≢ k → Joins cs i v w → IsEdge (map_edges (without cs k)) v w
cable-edge [] k i v w d j = let there = j.there in cc
cable-edge (c ∷ cs) zero zero v w d j = absurd (d refl)
cable-edge (c ∷ cs) zero (suc i) v w d j = joins-edge cs i v w (record { cable = j.cable; there = j.there; ends = j.ends })
cable-edge (c ∷ cs) (suc k) zero v w d j = by c (let one : c ≡ j.cable = (let there = j.there in cc) in one) j.ends
  where
    by : (x : MapCable) → x ≡ j.cable → ((j.cable.v ≡ v) × (j.cable.w ≡ w)) ⊎ ((j.cable.w ≡ v) × (j.cable.v ≡ w)) → IsEdge (map_edges (x ∷ without cs k)) v w
    by x e (inl p) = inl (ap (λ (y : MapCable). y.v) e ∙ p.0, ap (λ (y : MapCable). y.w) e ∙ p.1)
    by x e (inr p) = inr (inl (ap (λ (y : MapCable). y.w) e ∙ p.0, ap (λ (y : MapCable). y.v) e ∙ p.1))
cable-edge (c ∷ cs) (suc k) (suc i) v w d j = inr (inr (cable-edge cs k i v w (λ e. d (ap suc e)) (record { cable = j.cable; there = j.there; ends = j.ends })))
