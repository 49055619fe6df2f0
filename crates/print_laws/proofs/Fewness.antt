-- A map that was made has few vertices and few cables: its vertices are nodes of a journal, and its cables end at ports
-- that stand once.
use Rattle.std.proofs.Common.{◌≡◌, ◌≢◌, ◌<◌, ◌≤◌, ◌+◌, ◌*◌, ℕ, suc, List, [], ◌∷◌, ◌++◌, map, length, Bool, true, false, sym, ap, ◌∙◌, refl, true≢false, arith, if◌then◌else◌, ◌⊎◌, inl, inr}
use Rattle.std.specs.Prelude.{ℤ, pos, negsuc}
use Rattle.std.specs.List.{AllByRecursion}
use Rattle.std.proofs.lemmas.Bool.Decides.{nat_tests}
use Rattle.std.proofs.lemmas.List.{length-map}
use Rattle.net_defs.specs.Network.{Apart}
use Rattle.net_defs.specs.Turn.{IsTurn}
use Rattle.net_defs.proofs.Distinct.{all-weaker}
use Rattle.journal_defs.specs.declared.entry.Entry.{Entry}
use Rattle.journal_defs.specs.Tree.{Node, IsNode, is_found, reached, nodes, node_below}
use Rattle.journal_defs.specs.Tree.Node.{Mapper, Reached}
use Rattle.journal_defs.specs.Growth.{IsGrown, IsEndedByDepth, IsEndedAtLimit, node_limit}
use Rattle.journal_defs.proofs.Members.{IsMember, member-place, member-map}
use Rattle.map_defs.specs.declared.vertex.MapCable.{MapCable}
use Rattle.map_defs.specs.NetMap.{NetMap, MapPort, IsMap, map_ends}
use Rattle.map_defs.specs.Quotient.{IsQuotient}
use Rattle.map_defs.proofs.TwoHosts.{itself_not_below}
use Rattle.map_laws.proofs.Few.{found_walks, found-length, node-found}
use Rattle.map_laws.proofs.Pigeons.{no-more, few-below, member-map-all}
use Rattle.map_laws.proofs.Least.{vertex-count}
use Rattle.map_laws.proofs.OneMap.{AreRising, rising-places}

-- what rises stands once
rising-apart : {X : Type 0} (Below : X → X → Type 0) (xs : List X) → ((x y : X) → x ≡ y → Below x y → ⊥) → AreRising Below xs → Apart xs
rising-apart Below [] never r = tt
rising-apart Below (x ∷ xs) never r = (all-weaker (Below x) (λ y. x ≢ y) xs (λ y b e. never x y e b) r.0, rising-apart Below xs never r.1)

never-below : (u v : Node) → u ≡ v → node_below u v ≡ true → ⊥
never-below u v e b = true≢false (sym b ∙ ap (node_below u) (sym e) ∙ itself_not_below u)

node-listed : (j : List Entry) (u : Node) → IsNode j u → IsMember u (Mapper ∷ map Reached (found_walks j))
node-listed j Mapper e = inl refl
node-listed j (Reached w) e = inr (member-map Reached w (found_walks j) (node-found j w e))

-- each vertex is a node of its own
pub few-vertices : (host : ℕ) (j : List Entry) (m : NetMap) → IsQuotient host j m → length m.vertices ≤ length (nodes j)
few-vertices host j m q =
    let rises = rising-places (λ u v. node_below u v ≡ true) q.least q.in_order in
    let apart = rising-apart (λ u v. node_below u v ≡ true) q.least never-below rises in
    let most = no-more q.least (Mapper ∷ map Reached (found_walks j)) apart (λ u i. let p = member-place u q.least i in node-listed j u (q.each_least p.0 u p.1).node) in
    let count = vertex-count host j m q in
    let found = found-length j in
    let same = length-map (found_walks j) Reached in
    omega arith

-- one entry makes at most one node
reached-push : (j : List Entry) (e : Entry) → length (reached (j ++ e ∷ [])) ≤ suc (length (reached j))
reached-push [] e = by (is_found e.answer)
  where
    by : (b : Bool) → length (if b then Reached e.walk ∷ [] else []) ≤ 1
    by true = omega arith
    by false = omega arith
reached-push (x ∷ j) e = by (is_found x.answer) (reached-push j e)
  where
    by : (b : Bool) → length (reached (j ++ e ∷ [])) ≤ suc (length (reached j)) → length (if b then Reached x.walk ∷ reached (j ++ e ∷ []) else reached (j ++ e ∷ [])) ≤ suc (length (if b then Reached x.walk ∷ reached j else reached j))
    by true l = omega arith
    by false l = l

-- a grown journal has at most one node beyond the limit
pub few-nodes : (host depth : ℕ) (j : List Entry) → IsGrown host depth j → length (nodes j) ≤ node_limit + 1
few-nodes host depth j g = by g.ended
  where
    by : IsEndedByDepth host depth j ⊎ IsEndedAtLimit j → length (nodes j) ≤ node_limit + 1
    by (inl e) = let kept = e.kept in omega arith
    by (inr l) =
        let kept = l.kept in
        let more = reached-push l.before l.last in
        let whole : length (reached j) ≡ length (reached (l.before ++ l.last ∷ [])) = ap (λ i. length (reached i)) l.whole in
        omega arith

-- a port's number among the 31 that a vertex may have
abbrev folded : ℤ → ℕ
folded (pos k) = k + k
folded (negsuc k) = suc (k + k)

folded-one : (p q : ℤ) → folded p ≡ folded q → p ≡ q
folded-one (pos a) (pos b) e = let one : a ≡ b = omega arith in ap pos one
folded-one (pos a) (negsuc b) e = absurd (omega arith)
folded-one (negsuc a) (pos b) e = absurd (omega arith)
folded-one (negsuc a) (negsuc b) e = let one : a ≡ b = omega arith in ap negsuc one

folded-low : (p : ℤ) → IsTurn p → folded p < 31
folded-low (pos k) t = let low : k ≤ 15 = grind (arith, nat_tests) in omega arith
folded-low (negsuc k) t = let low : suc k ≤ 15 = grind (arith, nat_tests) in omega arith

-- a port's number among those of all vertices
abbrev slot : MapPort → ℕ
slot d = 31 * d.v + folded d.p

abbrev IsSlotted : ℕ → MapPort → Type 0
IsSlotted count d = (d.v < count) × (folded d.p < 31)

slot-one : (count : ℕ) (d e : MapPort) → IsSlotted count d → IsSlotted count e → slot d ≡ slot e → d ≡ e
slot-one count d e a b same = by d.v e.v (folded d.p) (folded e.p) a.1 b.1 same (folded-one d.p e.p)
  where
    by : (v w x y : ℕ) → x < 31 → y < 31 → 31 * v + x ≡ 31 * w + y → (x ≡ y → d.p ≡ e.p) → d ≡ e
    by v w x y l k f g = whole (omega arith) (g (omega arith))
      where
        whole : d.v ≡ e.v → d.p ≡ e.p → d ≡ e
        whole h i = λ t. record { v = h t; p = i t }

slotted : (count : ℕ) (ds : List MapPort) → AllByRecursion (λ d. d.v < count) ds → AllByRecursion (λ d. IsTurn d.p) ds → AllByRecursion (IsSlotted count) ds
slotted count [] low turns = tt
slotted count (d ∷ ds) low turns = ((low.0, folded-low d.p turns.0), slotted count ds low.1 turns.1)

slots-below : (count : ℕ) (ds : List MapPort) → AllByRecursion (IsSlotted count) ds → AllByRecursion (λ q. q < 31 * count) (map slot ds)
slots-below count [] all = tt
slots-below count (d ∷ ds) all = (below d.v (folded d.p) all.0.0 all.0.1, slots-below count ds all.1)
  where
    below : (v x : ℕ) → v < count → x < 31 → 31 * v + x < 31 * count
    below v x l k = omega arith

ends-count : (cs : List MapCable) → length (map_ends cs) ≡ 2 * length cs
ends-count [] = refl
ends-count (c ∷ cs) = let rest = ends-count cs in omega arith

-- each cable takes two of the ports, 31 a vertex
pub few-cables : (m : NetMap) → IsMap m → 2 * length m.cables ≤ 31 * length m.vertices
few-cables m r =
    let count = length m.vertices in
    let ends = map_ends m.cables in
    let all = slotted count ends r.cabled_vertices r.ports_in_range in
    let apart = member-map-all (IsSlotted count) slot ends r.ports_once all (slot-one count) in
    let few = few-below (31 * count) (map slot ends) apart (slots-below count ends all) in
    let same = length-map ends slot in
    let twice = ends-count m.cables in
    omega arith
