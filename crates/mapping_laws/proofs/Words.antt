-- Wherever a map can be made there is a mapping: its journal has a map, and one of the words of a map holds.
use Rattle.std.proofs.Common.{◌≡◌, ℕ, zero, suc, List, ◌⊎◌, inl, inr, refl, arith}
use Rattle.world_defs.proofs.Now.{now_is_fabric}
use Rattle.journal_defs.specs.declared.entry.Entry.{Entry}
use Rattle.journal_defs.specs.Growth.{IsEndedByDepth, IsEndedAtLimit, IsClosed}
use Rattle.fabric_map.specs.Growing.{empty_map}
use Rattle.map_defs.specs.NetMap.{NetMap}
use Rattle.map_defs.specs.Quotient.{IsQuotient}
use Rattle.map_defs.specs.Core.{core_of}
use Rattle.mapping_laws.proofs.Cables.{quotient_exists}
use Rattle.mapping_laws.proofs.Closed.{closed_is_decided}
use Rattle.world_defs.specs.World.{fabric_of}
use Rattle.run_defs.specs.declared.line.MapWords.{MapWords}
use Rattle.run_defs.specs.declared.line.MapWords.TheVariants.{Complete, Doubtful, IncompleteDepth, IncompleteNodes}
use Rattle.run_defs.specs.Mapped.{IsMarkedMap, IsCalled}
use Rattle.run_defs.specs.Mapped.IsCalled.{too_many_nodes, too_shallow, doubted, right}
use Rattle.mapping_laws.specs.Asked.{MappingExists}
use Rattle.mapping_laws.proofs.Asking.{asked_journal_exists}
use Rattle.mapping_laws.proofs.Made.{ended-within, at-limit}

-- a grown journal has one of the words
called : (host depth : ℕ) (j : List Entry) (drowned : ℕ) → IsEndedByDepth host depth j ⊎ IsEndedAtLimit j → IsClosed host j ⊎ ¬ IsClosed host j → (words : MapWords) × IsCalled host j drowned words
called host depth j drowned (inr limit) c = (IncompleteNodes, too_many_nodes limit)
called host depth j drowned (inl e) (inr none) = (IncompleteDepth, too_shallow (ended-within host depth j e) none)
called host depth j zero (inl e) (inl all) = (Complete, right (ended-within host depth j e) all refl)
called host depth j (suc k) (inl e) (inl all) = (Doubtful (suc k), doubted (ended-within host depth j e) all (omega arith))

-- the map that is made of a grown journal
record HasMap (host : ℕ) (j : List Entry) : Type 0 where
  made : NetMap
  within : ¬ IsEndedAtLimit j → IsMarkedMap host j made
  beyond : IsEndedAtLimit j → made ≡ empty_map

-- there is one where the journal has a quotient
has-map : (host : ℕ) (j : List Entry) (k : NetMap) → IsQuotient host j k → IsEndedAtLimit j ⊎ (¬ IsEndedAtLimit j) → HasMap host j
has-map host j k q (inl l) = record { made = empty_map; within = λ n. absurd (n l); beyond = λ n. refl }
has-map host j k q (inr l) = record { made = record k { core = core_of k }; within = λ n. record { unmarked = k; quotient = q; marked = refl }; beyond = λ n. absurd (l n) }

pub mapping_exists : MappingExists
mapping_exists host depth tries w can =
    let f = now_is_fabric w.links.cables can.history in
    let a = asked_journal_exists host depth tries w can in
    let q = quotient_exists (fabric_of w) host a.journal f a.found in
    let kept = has-map host a.journal q.0 q.1 (at-limit host depth a.journal a.grown) in
    let word = called host depth a.journal a.drowned a.grown.ended (closed_is_decided (fabric_of w) host a.journal f a.found) in
    record {
      after = a.after;
      journal = a.journal;
      made = kept.made;
      words = word.0;
      is = record { drowned = a.drowned; asked = a.asked; led = a.led; grown = a.grown; within = kept.within; beyond = kept.beyond; called = word.1 };
    }
