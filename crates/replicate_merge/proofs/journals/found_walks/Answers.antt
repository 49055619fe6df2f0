use Rattle.std.proofs.Common.{◌≡◌, ℕ, ◌+◌, ◌<◌, List, [], ◌∷◌, ◌++◌, Bool, true, false, length, take, Some, refl, ap, sym, ◌∙◌, subst, if◌then◌else◌}
use Rattle.std.specs.Prelude.{ℤ, slice_get}
use Rattle.journal_defs.specs.declared.entry.Entry.{Entry}
use Rattle.journal_defs.specs.Tree.{Node, IsJournal, is_found, nodes}
use Rattle.journal_defs.specs.Tree.Node.{Reached}
use Rattle.probe.specs.Keeping.{has_walk}
use Rattle.replicate_merge.specs.Nodes.{nodes_of}
use Rattle.replicate_merge.proofs.Entries.{entry-in, nodes-found, nodes-lost}
use Rattle.replicate_merge.proofs.Nexts.{nodes-pushed, not-node}
use Rattle.replicate_merge.proofs.Orphans.{walk-known}
use Rattle.replicate_merge.proofs.Prefixes.{fresh-take, once-take}
use Rattle.replicate_merge.proofs.journals.found_walks.Goals as goal

-- the walks of the entries before one, and that entry's
module _ (j : List Entry) (i : ℕ) (e : Entry) (at : slice_get j i ≡ Some e) (once : IsJournal j) (walks : List (List ℤ)) (is : nodes_of walks ≡ nodes (take i j)) where
  new-walk : has_walk walks e.walk ≡ false
  new-walk = by (has_walk walks e.walk) refl
    where
      by : (b : Bool) → has_walk walks e.walk ≡ b → has_walk walks e.walk ≡ false
      by false p = p
      by true p = absurd (not-node (take i j) e.walk (fresh-take j i e at once) (walk-known (take i j) walks is (once-take j i once) e.walk p))

  walks-next : (new : List (List ℤ)) → new ≡ (if is_found e.answer then walks ++ e.walk ∷ [] else walks) → nodes_of new ≡ nodes (take (i + 1) j)
  walks-next new added = by (is_found e.answer) refl added
    where
      by : (b : Bool) → is_found e.answer ≡ b → new ≡ (if b then walks ++ e.walk ∷ [] else walks) → nodes_of new ≡ nodes (take (i + 1) j)
      by true f a = nodes-pushed walks new e.walk a ∙ ap (λ (ns : List Node). ns ++ Reached e.walk ∷ []) is ∙ sym (nodes-found j i e at f)
      by false f a = ap (λ (ws : List (List ℤ)). nodes_of ws) a ∙ is ∙ sym (nodes-lost j i e at f)

pub push_found-requires : goal.push_found-requires
push_found-requires c =
    let es = c.entries-e-items.result.now in
    let j = c.args.j.now.entries in
    let i = c.loop-e.e-index in
    let e = c.e-item.result in
    let below : i < length j = subst (λ (l : List Entry). i < length l) c.entries-e-items.ensures.list c.loop-e-test.true in
    let at : slice_get j i ≡ Some e = entry-in es j i e c.entries-e-items.ensures.list below ∙ ap (λ x. Some x) (sym c.e-item.is) in
    new-walk j i e at c.entries-e-items.ensures.once c.loop-e.walks c.loop-e.invariant

pub loop-e-preserved : goal.loop-e-preserved
loop-e-preserved c =
    let es = c.entries-e-items.result.now in
    let j = c.args.j.now.entries in
    let i = c.loop-e.e-index in
    let e = c.e-item.result in
    let below : i < length j = subst (λ (l : List Entry). i < length l) c.entries-e-items.ensures.list c.loop-e-test.true in
    let at : slice_get j i ≡ Some e = entry-in es j i e c.entries-e-items.ensures.list below ∙ ap (λ x. Some x) (sym c.e-item.is) in
    walks-next j i e at c.entries-e-items.ensures.once c.loop-e.walks c.loop-e.invariant c.push_found.new.walks c.in_ok-push_found.ensures
