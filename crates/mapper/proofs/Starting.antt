-- The first ask, and growth on from it.
use Rattle.std.proofs.Common.{◌≡◌, ◌<◌, ◌≤◌, ◌+◌, ℕ, List, [], ◌∷◌, ◌++◌, length, Bool, true, false, sym, ◌∙◌, subst, ap, refl, arith, if◌then◌else◌, IsTrue, ◌↔◌, ◌⊎◌, inl, inr}
use Rattle.std.specs.Prelude.{ℤ, nat_lt}
use Rattle.std.proofs.lemmas.Bool.Decides.{nat_tests}
use Rattle.net_defs.specs.declared.place.Answer.{Answer}
use Rattle.net_defs.specs.Network.{Network, IsFabric}
use Rattle.net_defs.specs.Route.{answer}
use Rattle.journal_defs.specs.declared.entry.Entry.{Entry}
use Rattle.journal_defs.specs.Tree.{IsJournal, is_asked, is_found, nodes}
use Rattle.journal_defs.specs.Truth.{IsTrueWhereFound}
use Rattle.journal_defs.specs.Growth.{IsGrowing, IsBegun, IsEndedByDepth, IsEndedAtLimit}
use Rattle.journal_defs.specs.Growth.IsGrowing.{nothing}
use Rattle.journal_defs.specs.Growth.NextAsk.{first}
use Rattle.map_laws.proofs.Keeping.{asked-last}
use Rattle.map_laws.proofs.Asks.{first-unbegun}
use Rattle.replicate_merge.specs.Table.{StandsFor}
use Rattle.mapper.specs.Growths.{GrowsBy, StopsShort, IsLostAsk, IsAsk, HasGrown, IsNextWalk, IsStarted, IsBareTree, IsWhole}
use Rattle.mapper.specs.declared.tree.Tree.{Tree}
use Rattle.mapper.proofs.Growing.{nodes-push, grows-none, grows-join, grows-ask, stops-between, stops-lost, stops-later}

few-found : (b : Bool) → (if b then 1 else 0) ≤ 1
few-found true = omega arith
few-found false = omega arith

-- the empty walk may be asked first
pub first-next : (n : Network) (host depth : ℕ) (t : Tree) (w : List ℤ) → IsBareTree host depth t → IsFabric n → w ≡ [] → IsNextWalk n host t w
first-next n host depth t w b f empty = record {
  same_host = b.at_host;
  stands = subst (λ j. StandsFor host j t.classes) (sym b.empty) b.stands;
  told = record { is_fabric = f; told = subst (IsTrueWhereFound n host) (sym b.empty) tt };
  once = subst IsJournal (sym b.empty) tt;
  fresh = ap (λ j. is_asked j w) b.empty;
  few = (let e : length t.journal.entries ≡ 0 = ap length b.empty in omega arith);
}

module _ (S : Type 0) (asked : S → List ℤ → Answer → S → Type 0) (n : Network) (host depth : ℕ) (before after : S) (lost now : ℕ) where
  pub started : (old new : Tree) (w : List ℤ) → IsBareTree host depth old → w ≡ [] → IsAsk S asked (answer n host w) before lost w old new after now → lost ≤ now → IsStarted S asked n host depth before lost new after now
  started old new w bare empty ask later = record {
    at_host = new_host;
    to_depth = new_depth;
    settled = record {
      under_way = record { stands = ask.grown.stands; growing = growing; counted = counted; kept = (let a = nodes_are in let b = few-found (is_found ask.told) in omega arith) };
      rest = record { expanded = λ m b. absurd (first-unbegun [] e m refl empty (subst (λ i. IsBegun i m) entries b)) };
      started = subst (λ i. is_asked i [] ≡ true) (sym entries) (subst (λ v. is_asked (e ∷ []) v ≡ true) empty (asked-last [] e));
      within = omega arith;
      expanded = record { each = λ i x a b. absurd (omega arith) };
    };
    grown = subst (λ i. GrowsBy S asked n host depth [] before lost i after now) (sym entries) grown;
  }
    where
      e : Entry
      e = record { walk = w; answer = ask.told }

      new_host : new.journal.host ≡ host
      new_host = ap (λ (t : Tree). t.journal.host) ask.grown.kept ∙ bare.at_host

      new_depth : new.depth ≡ depth
      new_depth = ap (λ (t : Tree). t.depth) ask.grown.kept ∙ bare.to_depth

      entries : new.journal.entries ≡ e ∷ []
      entries = ap (λ (t : Tree). t.journal.entries) ask.grown.kept ∙ ap (λ i. i ++ e ∷ []) bare.empty

      nodes_are : new.nodes ≡ 1 + (if is_found ask.told then 1 else 0)
      nodes_are = ap (λ (t : Tree). t.nodes) ask.grown.kept ∙ ap (λ k. k + (if is_found ask.told then 1 else 0)) bare.one

      grown : GrowsBy S asked n host depth [] before lost (e ∷ []) after now
      grown = grows-ask S asked n host depth [] before after lost now w ask.told (nothing) (first refl empty) ask.as_asked ask.is_true later

      growing : IsGrowing new.journal.host new.depth new.journal.entries
      growing = subst (λ x. IsGrowing x new.depth new.journal.entries) (sym new_host) (subst (λ x. IsGrowing host x new.journal.entries) (sym new_depth) (subst (IsGrowing host depth) (sym entries) grown.growing))

      counted : new.nodes ≡ length (nodes new.journal.entries)
      counted = let a = nodes_are in let b : length (nodes new.journal.entries) ≡ length (nodes (e ∷ [])) = ap (λ i. length (nodes i)) entries in let c : length (nodes (e ∷ [])) ≡ 1 + (if is_found ask.told then 1 else 0) = nodes-push [] e in omega arith

  -- one node more after another
  pub grows-on : (old new : Tree) (last : S) (then_lost : ℕ) → old.journal.host ≡ host → old.depth ≡ depth → GrowsBy S asked n host depth [] before lost old.journal.entries after now → HasGrown S asked n old after now new last then_lost → GrowsBy S asked n host depth [] before lost new.journal.entries last then_lost
  grows-on old new last then_lost h d g more = subst (λ i. GrowsBy S asked n host depth [] before lost i last then_lost) (sym more.entries) (grows-join S asked n host depth [] old.journal.entries more.more before after last lost now then_lost g (subst (λ x. GrowsBy S asked n x depth old.journal.entries after now more.more last then_lost) h (subst (λ x. GrowsBy S asked n old.journal.host x old.journal.entries after now more.more last then_lost) d more.by_asks)))

  module _ (cut : S → List ℤ → S → Type 0) where
    pub stops-at-once : StopsShort S asked cut host depth [] before before
    stops-at-once = stops-between S asked cut n host depth [] [] before before lost lost (grows-none S asked n host depth [] before lost (nothing)) (omega arith)

    pub stops-first : (w : List ℤ) → w ≡ [] → IsLostAsk S asked cut before w after → StopsShort S asked cut host depth [] before after
    stops-first w empty lost_ask = stops-lost S asked cut n host depth [] [] before before after lost lost w (grows-none S asked n host depth [] before lost (nothing)) (omega arith) (first refl empty) lost_ask

    -- memory runs out after some asks
    pub stops-on : (old : Tree) (last : S) → old.journal.host ≡ host → old.depth ≡ depth → GrowsBy S asked n host depth [] before lost old.journal.entries after now → StopsShort S asked cut old.journal.host old.depth old.journal.entries after last → StopsShort S asked cut host depth [] before last
    stops-on old last h d g s = stops-later S asked cut n host depth [] old.journal.entries before after last lost now g (subst (λ x. StopsShort S asked cut x depth old.journal.entries after last) h (subst (λ x. StopsShort S asked cut old.journal.host x old.journal.entries after last) d s))

-- the number of nodes says whether the growth ended at the limit
pub limit-told : (t : Tree) → IsWhole t → IsTrue (nat_lt 65536 t.nodes) ↔ IsEndedAtLimit t.journal.entries
limit-told t w = ((λ e. by w.grown.ended (grind (arith, nat_tests))), (λ l. let p = l.passed in let c = w.counted in let more : 65536 < t.nodes = omega arith in grind (arith, nat_tests)))
  where
    by : IsEndedByDepth t.journal.host t.depth t.journal.entries ⊎ IsEndedAtLimit t.journal.entries → 65536 < t.nodes → IsEndedAtLimit t.journal.entries
    by (inl d) l = let k = d.kept in let c = w.counted in absurd (omega arith)
    by (inr l) m = l
