-- What a journal that has grown is worth: it is short, its end says whether it is closed, and memory may run out after it.
use Rattle.std.proofs.Common.{◌≡◌, ◌<◌, ◌≤◌, ℕ, List, [], ◌∷◌, ◌++◌, length, Bool, true, false, if◌then◌else◌, subst, ap, refl, arith, ◌⊎◌, inl, inr}
use Rattle.std.specs.Prelude.{ℤ, nat_lt, not, ◌||◌, ◌↔◌, IsTrue}
use Rattle.std.proofs.lemmas.Bool.Decides.{nat_tests}
use Rattle.net_defs.specs.declared.place.Answer.{Answer}
use Rattle.net_defs.specs.Network.{Network, IsFabric}
use Rattle.journal_defs.specs.declared.entry.Entry.{Entry}
use Rattle.journal_defs.specs.Depth.{IsSmallEnough, enough_depth}
use Rattle.journal_defs.specs.Tree.{is_found, nodes}
use Rattle.journal_defs.specs.Truth.{IsTrueJournal}
use Rattle.map_defs.specs.NetMap.{NetMap}
use Rattle.map_defs.specs.Quotient.{IsQuotient}
use Rattle.fabric_map.specs.Growing.{empty_map}
use Rattle.journal_defs.specs.Growth.{IsGrown, IsEndedByDepth, IsEndedAtLimit, IsClosed, node_limit}
use Rattle.map_laws.specs.Laws.{EndsClosed}
use Rattle.map_laws.proofs.Few.{asks_are_few}
use Rattle.map_laws.proofs.Depth.{depth_suffices}
use Rattle.map_laws.proofs.OneJournal.{grown_journal_is_one}
use Rattle.mapper.specs.Asks.{AreAsked}
use Rattle.mapper.specs.Ends.{IsEnd, IsOneDeeper}
use Rattle.mapper.specs.Growths.{StopsShort}
use Rattle.mapper.specs.Maps.{IsMapIf}
use Rattle.mapper.specs.Growths.StopsShort.{between_asks}
use Rattle.mapper.specs.declared.mapping.MapEnd.{MapEnd}
use Rattle.mapper.specs.declared.mapping.MapEnd.TheVariants.{Closed, OpenAtDepth, OpenAtNodes}
use Rattle.mapper.proofs.Growing.{nodes-push}
use Rattle.mapper.proofs.Sweeping.{short-journal}

few-found : (b : Bool) → (if b then 1 else 0) ≤ 1
few-found true = omega arith
few-found false = omega arith

-- it keeps the limit of nodes, or ended there
ended-kept : (host depth : ℕ) (j : List Entry) → IsEndedByDepth host depth j ⊎ IsEndedAtLimit j → (length (nodes j) ≤ node_limit) ⊎ IsEndedAtLimit j
ended-kept host depth j (inl d) = inl d.kept
ended-kept host depth j (inr l) = inr l

-- it has few entries, also where it ended at the limit
pub short-grown : (host depth : ℕ) (j : List Entry) → IsGrown host depth j → length j < 4294967295
short-grown host depth j g = by g.ended
  where
    by : IsEndedByDepth host depth j ⊎ IsEndedAtLimit j → length j < 4294967295
    by (inl d) = short-journal host depth j g.growing d.kept
    by (inr l) =
        let few = asks_are_few host depth j g.growing in
        let whole : length (nodes j) ≡ length (nodes (l.before ++ l.last ∷ [])) = ap (λ i. length (nodes i)) l.whole in
        let push = nodes-push l.before l.last in
        let one = few-found (is_found l.last.answer) in
        let kept = l.kept in
        omega arith

-- memory runs out after the last ask
pub stops-grown : (S : Type 0) (asked : S → List ℤ → Answer → S → Type 0) (cut : S → List ℤ → S → Type 0) (host depth : ℕ) (j : List Entry) (before after : S) → IsGrown host depth j → AreAsked S asked before j after → StopsShort S asked cut host depth [] before after
stops-grown S asked cut host depth j before after g led = between_asks j g.growing (ended-kept host depth j g.ended) led

-- an end that is closed is that of a closed journal
pub closed-end : (host : ℕ) (j : List Entry) (end : MapEnd) → IsEnd host j end → end ≡ Closed → IsClosed host j
closed-end host j end e is = (subst (IsEnd host j) is e).1

-- within the limit of nodes
pub closed-within : (host : ℕ) (j : List Entry) (end : MapEnd) → IsEnd host j end → end ≡ Closed → ¬ IsEndedAtLimit j
closed-within host j end e is = (subst (IsEnd host j) is e).0

-- and a journal that is closed within the limit ends so
pub ends-closed : (host depth : ℕ) (j : List Entry) (end : MapEnd) → EndsClosed host depth j → IsEnd host j end → end ≡ Closed
ends-closed host depth j OpenAtNodes c e = absurd (c.not_at_limit e)
ends-closed host depth j Closed c e = refl
ends-closed host depth j OpenAtDepth c e = absurd (e.1 c.closed)

-- a journal of true answers that has grown deep enough ends closed, and is the one to every greater depth
module _ (n : Network) (host depth : ℕ) (j : List Entry) (fabric : IsFabric n) (there : host < length n.hosts) (truth : IsTrueJournal n host j) (grown : IsGrown host depth j) (deep : enough_depth n host ≤ depth) (small : IsSmallEnough n host) where
  deep-ends : EndsClosed host depth j
  deep-ends =
      let below = there in
      let has : nat_lt host (length n.hosts) ≡ true = grind (arith, nat_tests) in
      depth_suffices n host depth j fabric has deep small truth grown

  pub deep-closed : (end : MapEnd) → IsEnd host j end → end ≡ Closed
  deep-closed end e = ends-closed host depth j end deep-ends e

  pub deep-one : IsOneDeeper n host depth j
  deep-one more l below t g = grown_journal_is_one n host more l j t truth g (deep-ends.deeper more below)

-- a map is made always, or unless the growth ended at the limit of nodes
pub made-if : (host : ℕ) (j : List Entry) (m : NetMap) (at_limit always made : Bool) → IsTrue at_limit ↔ IsEndedAtLimit j → made ≡ (always || not at_limit)
    → (made ≡ true → IsQuotient host j m) → (made ≡ false → m ≡ empty_map) → IsMapIf always host j m
made-if host j m at_limit true made is e q none = q e
made-if host j m true false made is e q none = record { quotient = λ within. absurd (within (is.0 refl)); none = λ limit. none e }
made-if host j m false false made is e q none = record { quotient = λ within. q e; none = λ limit. let bad : false ≡ true = is.1 limit in cc }

-- within the limit both are the journal's quotient
pub quotient-within : (host : ℕ) (j : List Entry) (m : NetMap) (always : Bool) → IsMapIf always host j m → ¬ IsEndedAtLimit j → IsQuotient host j m
quotient-within host j m true made within = made
quotient-within host j m false made within = made.quotient within
