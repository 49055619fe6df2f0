-- The circuit map, from what was found of the whole tree.
use Rattle.std.proofs.Common.{Result, Ok, Err, IfOk, ◌≡◌, ◌<◌, ℕ, suc, List, [], ◌∷◌, length, Bool, true, false, sym, ◌∙◌, subst, ap, refl, arith, if◌then◌else◌}
use Rattle.std.specs.Prelude.{ℤ, slice_get, Some}
use Rattle.net_defs.specs.Network.{Network, IsFabric}
use Rattle.journal_defs.specs.declared.entry.Entry.{Entry}
use Rattle.journal_defs.specs.Tree.{IsJournal, is_found, nodes}
use Rattle.map_defs.specs.NetMap.{NetMap, MapPort, IsCabled}
use Rattle.map_defs.specs.Quotient.{IsQuotient}
use Rattle.map_defs.specs.Core.{core_of}
use Rattle.fabric_map.specs.Growing.{with_core}
use Rattle.replicate_merge.specs.Table.{IsTrueOfOne}
use Rattle.circ_defs.specs.Circuit.{IsCircuitJournal}
use Rattle.circ_defs.specs.Asking.{found_of}
use Rattle.circ_defs.specs.CircuitMap.{IsKeptCable, IsWithoutOutside}
use Rattle.circ_laws.proofs.Growing.{grown_tree_is_whole, growing-circuit, growing-once}
use Rattle.circ_laws.proofs.Telling.{circuit-true}
use Rattle.circ_laws.proofs.Ends.{cabled-number, number-cabled}
use Rattle.circ_laws.proofs.Found.{found_is_enough}
use Rattle.circ_laws.proofs.Numbering.{circuit_map_is_core}
use Rattle.circ_map.specs.Growing.{IsPassed, IsWhole}
use Rattle.circ_map.specs.Inside.{inside, marked_below}
use Rattle.circ_map.specs.declared.mapping.CircEnd.{CircEnd}
use Rattle.circ_map.specs.declared.mapping.CircEnd.TheVariants.{Whole}
use Rattle.circ_map.specs.Mapping.{HasInside, IsCoreWhereDeep, IsMappedBy, IsMappedWhole, IsTreeMapped}
use Rattle.circ_map.proofs.Finding.{nodes-length}
use Rattle.circ_map.proofs.Refusing.{found-once}
use Rattle.circ_map.proofs.Without.{inside-without}

found-circuit : (n : Network) (host : ℕ) (j : List Entry) → IsCircuitJournal n host j → IsCircuitJournal n host (found_of j)
found-circuit n host [] all = tt
found-circuit n host (e ∷ j) all = by (is_found e.answer) (found-circuit n host j all.1)
  where
    by : (b : Bool) → IsCircuitJournal n host (found_of j) → IsCircuitJournal n host (if b then e ∷ found_of j else found_of j)
    by true r = (all.0, r)
    by false r = r

-- what was found is true of the fabric
pub whole-true : (n : Network) (host depth : ℕ) (found : List Entry) (asks : ℕ) → IsFabric n → IsWhole n host depth found asks → IsTrueOfOne host found
whole-true n host depth found asks f w = record {
  fabric = n;
  is_fabric = f;
  told = circuit-true n host found (subst (IsCircuitJournal n host) (sym w.found_is) (found-circuit n host w.journal (growing-circuit n host depth w.journal w.growing)));
}

-- and no walk stands twice in it
pub whole-once : (n : Network) (host depth : ℕ) (found : List Entry) (asks : ℕ) → IsWhole n host depth found asks → IsJournal found
whole-once n host depth found asks w = subst IsJournal (sym w.found_is) (found-once w.journal (growing-once n host depth w.journal w.growing))

pub whole-few : (n : Network) (host depth : ℕ) (found : List Entry) (asks : ℕ) → IsWhole n host depth found asks → length found < 4294967295
whole-few n host depth found asks w =
    let e : length (nodes w.journal) ≡ suc (length found) = nodes-length w.journal ∙ ap (λ l. suc (length l)) (sym w.found_is) in
    let k = w.ended.kept in
    omega arith

pub marked-core : (m k : NetMap) → k ≡ with_core m (core_of m) → k.core ≡ core_of k
marked-core m k e = subst (λ z. z.core ≡ core_of z) (sym e) refl

-- the cables of a map don't depend on its marks
moved : (a b : NetMap) (d e : MapPort) → a.cables ≡ b.cables → IsCabled a d e → IsCabled b d e
moved a b d e s c = let r = cabled-number a d e c in number-cabled b r.0 d e (record { c = r.1.c; there = subst (λ l. slice_get l r.0 ≡ Some r.1.c) s r.1.there; ends = r.1.ends })

kept-moved : (a b : NetMap) (kept : List ℕ) (v w : ℕ) (p q : ℤ) → a.cables ≡ b.cables → IsKeptCable a kept v p w q → IsKeptCable b kept v p w q
kept-moved a b kept v w p q s k = record { from = k.from; to = k.to; from_there = k.from_there; to_there = k.to_there; cabled = moved a b (record { v = k.from; p = p }) (record { v = k.to; p = q }) s k.cabled }

-- the marked map without what is outside is the map without it
pub inside-marked : (host : ℕ) (l : List Entry) (m k z : NetMap) → IsQuotient host l m → k ≡ with_core m (core_of m) → z ≡ inside k (marked_below k.core (length k.core)) → HasInside host l z
inside-marked host l m k z q e f = record { with_outside = m; quotient = q; without_outside = subst (IsWithoutOutside m) (sym (f ∙ ap (λ x. inside x (marked_below x.core (length x.core))) e)) own }
  where
    marked : IsWithoutOutside (with_core m (core_of m)) (inside (with_core m (core_of m)) (marked_below (core_of m) (length (core_of m))))
    marked = inside-without (with_core m (core_of m)) q.cables_in_order refl

    own : IsWithoutOutside m (inside (with_core m (core_of m)) (marked_below (core_of m) (length (core_of m))))
    own = record {
      kept = marked.kept;
      each = marked.each;
      in_order = marked.in_order;
      covered = marked.covered;
      vertices = marked.vertices;
      cabled = λ v w p q. ((λ c. kept-moved (with_core m (core_of m)) m marked.kept v w p q refl ((marked.cabled v w p q).0 c)), (λ c. (marked.cabled v w p q).1 (kept-moved m (with_core m (core_of m)) marked.kept v w p q refl c)));
      cables_in_order = marked.cables_in_order;
      all_core = marked.all_core;
    }

pub mapped-whole : (n : Network) (host depth : ℕ) (found : List Entry) (asks : ℕ) (k : NetMap) → IsWhole n host depth found asks → HasInside host found k → IsMappedWhole n host depth k asks
mapped-whole n host depth found asks k w h = record {
  journal = w.journal;
  growing = w.growing;
  ended = w.ended;
  asks_is = w.asks_is;
  map_is = record {
    tree = grown_tree_is_whole n host depth w.journal w.growing w.ended;
    with_outside = h.with_outside;
    quotient = found_is_enough host w.journal h.with_outside (growing-once n host depth w.journal w.growing) (subst (λ l. IsQuotient host l h.with_outside) w.found_is h.quotient);
    without_outside = h.without_outside;
  };
}

-- the same of an answer that is given if there was memory
pub inside-ok : {E : Type 0} (host : ℕ) (l : List Entry) (m k : NetMap) (r : Result NetMap E) → IsQuotient host l m → k ≡ with_core m (core_of m) → IfOk r (λ z. z ≡ inside k (marked_below k.core (length k.core))) → IfOk r (HasInside host l)
inside-ok host l m k (Ok z) q e f = inside-marked host l m k z q e f
inside-ok host l m k (Err x) q e f = tt

-- what is made of a tree is the map of the asking
pub tree-mapped : (n o : Network) (host h kept depth : ℕ) (found : List Entry) (asked : ℕ) (whole : Bool) (map : NetMap) (asks : ℕ) (end : CircEnd) → o ≡ n → h ≡ host → kept ≡ host → (whole ≡ true → IsWhole o h depth found asked) → (whole ≡ false → IsPassed o h depth asked) → IsTreeMapped kept found asked whole map asks end → IsMappedBy n host depth map asks end
tree-mapped n o host h kept depth found asked true map asks end f m k whole passed t =
    let a = subst (λ x. IsWhole x host depth found asked) f (subst (λ x. IsWhole o x depth found asked) m (whole refl)) in
    let b = t.mapped refl in
    subst (IsMappedBy n host depth map asks) (sym b.0) (subst (λ c. IsMappedWhole n host depth map c) (sym t.counted) (mapped-whole n host depth found asked map a (subst (λ x. HasInside x found map) k b.1)))
tree-mapped n o host h kept depth found asked false map asks end f m k whole passed t =
    let a = subst (λ x. IsPassed x host depth asked) f (subst (λ x. IsPassed o x depth asked) m (passed refl)) in
    let b = t.passed refl in
    subst (IsMappedBy n host depth map asks) (sym b.0) (subst (IsPassed n host depth) (sym t.counted) a, b.1)

-- where the depth suffices, it is the core
pub mapped-core : (n : Network) (host depth : ℕ) (map : NetMap) (asks : ℕ) (end : CircEnd) → IsFabric n → IsMappedBy n host depth map asks end → end ≡ Whole → IsCoreWhereDeep n host depth map
mapped-core n host depth map asks end f m e es paths deep =
    let w : IsMappedWhole n host depth map asks = subst (IsMappedBy n host depth map asks) e m in
    circuit_map_is_core n host depth w.journal es map f paths deep w.map_is

-- what holds of an answer, if there was memory, by what it implies
pub ok-weaker : {X E : Type 0} (P Q : X → Type 0) (r : Result X E) → ((x : X) → P x → Q x) → IfOk r P → IfOk r Q
ok-weaker P Q (Ok x) f p = f x p
ok-weaker P Q (Err e) f p = tt
