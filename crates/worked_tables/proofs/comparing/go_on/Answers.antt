use Rattle.std.proofs.Common.{◌≡◌, ◌<◌, ◌+◌, ℕ, false, [], List, Some, length, take, get_or, ap, sym, ◌∙◌, subst, arith}
use Rattle.std.specs.Prelude.{slice_get}
use Rattle.std.proofs.lemmas.Option.{slice_get-get_or, slice_get_within}
use Rattle.journal_defs.specs.declared.entry.Entry.{Entry}
use Rattle.journal_defs.specs.Tree.{IsJournal, Node, is_asked, nodes}
use Rattle.probe.specs.Keeping.{JournalState, with_entry}
use Rattle.replicate_merge.specs.Table.{ClassTable, IsTrueOfOne, StandsFor}
use Rattle.replicate_merge.proofs.Numbers.{count-take}
use Rattle.replicate_merge.proofs.Waying.{take-more}
use Rattle.replicate_merge.specs.Next.{IsNext, StandsForNext}
use Rattle.replicate_merge.proofs.Prefixes.{next-in, next-there}
use Rattle.worked_tables.proofs.comparing.go_on.Goals as goal

-- the mapper's host is a node
some-node : (host : ℕ) (j : List Entry) (c : ClassTable) → StandsFor host j c → 0 < length c.nodes
some-node host j c s = subst (λ (ns : List Node). 0 < length ns) (sym s.numbered) (let l : 0 < length (nodes j) = omega arith in l)

-- An entry at its place in a journal, which may be pushed after those before it.
record IsReached (host : ℕ) (es : List Entry) (i : ℕ) (e : Entry) : Type 0 where
  at : slice_get es i ≡ Some e
  once : IsJournal es
  truth : IsTrueOfOne host es
  few : length es < 4294967295
  next : IsNext host (take i es) e

reached : (host : ℕ) (j es : List Entry) (i : ℕ) (e : Entry) → es ≡ j → IsJournal j → IsTrueOfOne host j → length j < 4294967295 → i < length es → e ≡ get_or es i e → IsReached host es i e
reached host j es i e list own told small low is =
    let at : slice_get es i ≡ Some e = slice_get-get_or es i e low ∙ ap (λ x. Some x) (sym is) in
    let once : IsJournal es = subst (λ (xs : List Entry). IsJournal xs) (sym list) own in
    let truth : IsTrueOfOne host es = subst (λ (xs : List Entry). IsTrueOfOne host xs) (sym list) told in
    let few : length es < 4294967295 = subst (λ (xs : List Entry). length xs < 4294967295) (sym list) small in
    record { at = at; once = once; truth = truth; few = few; next = next-in host es i e at once truth few }

-- so the journal of those before it, and it
module _ {host : ℕ} {es : List Entry} {i : ℕ} {e : Entry} (here : IsReached host es i e) where
  stands-on : (old new : ClassTable) → StandsFor host (take i es) old → StandsForNext old e new → StandsFor host (take (i + 1) es) new
  stands-on old new s pushed = subst (λ (xs : List Entry). StandsFor host xs new) (sym (take-more es i e here.at)) (pushed host (take i es) s here.next)

  some-on : (old new : ClassTable) → StandsFor host (take i es) old → StandsForNext old e new → 0 < length new.nodes
  some-on old new s pushed = some-node host (take (i + 1) es) new (stands-on old new s pushed)

  unasked : (s : JournalState) → s ≡ record { host = host; entries = take i es } → is_asked s.entries e.walk ≡ false
  unasked s is = ap (λ (x : JournalState). is_asked x.entries e.walk) is ∙ here.next.fresh

  so-far : (s new : JournalState) → s ≡ record { host = host; entries = take i es } → new ≡ with_entry s e → new ≡ record { host = host; entries = take (i + 1) es }
  so-far s new is put = put ∙ ap (λ (x : JournalState). with_entry x e) is ∙ ap (λ (xs : List Entry). record { host = host; entries = xs }) (sym (take-more es i e here.at))

  true-so-far : (s : JournalState) → s ≡ record { host = host; entries = take (i + 1) es } → IsTrueOfOne s.host s.entries
  true-so-far s is = subst (λ (x : JournalState). IsTrueOfOne x.host x.entries) (sym is) (subst (λ (xs : List Entry). IsTrueOfOne host xs) (sym (take-more es i e here.at)) here.next.true_of_one)

  few-so-far : (s : JournalState) → s ≡ record { host = host; entries = take (i + 1) es } → length s.entries < 4294967295
  few-so-far s is =
      let l : length s.entries ≡ length (take (i + 1) es) = ap (λ (x : JournalState). length x.entries) is in
      let w = slice_get_within es i e here.at in
      let c = count-take es (i + 1) (omega arith) in
      let few = here.few in
      omega arith

pub loop-e-init : goal.loop-e-init
loop-e-init c = record { stands = c.requires.none_yet; so_far = c.new-journal.ensures ∙ ap (λ h. record { host = h; entries = [] }) c.host.ensures }

pub push-requires : goal.push-requires
push-requires c =
    let here = reached c.args.j.now.host c.args.j.now.entries c.entries-entries.result.now c.loop-e.e-index c.e-item.result c.entries-entries.ensures.list c.entries-entries.ensures.once c.requires.true_of_one c.requires.few c.loop-e-test.true c.e-item.is in
    record { next = next-there c.args.j.now.host c.entries-entries.result.now c.loop-e.e-index c.e-item.result c.loop-e.classes here.at here.once here.truth here.few c.loop-e.invariant.stands }

pub put-requires : goal.put-requires
put-requires c =
    let here = reached c.args.j.now.host c.args.j.now.entries c.entries-entries.result.now c.loop-e.e-index c.e-item.result c.entries-entries.ensures.list c.entries-entries.ensures.once c.requires.true_of_one c.requires.few c.loop-e-test.true c.e-item.is in
    unasked here c.loop-e.journal c.loop-e.invariant.so_far

pub compare-requires : goal.compare-requires
compare-requires c =
    let here = reached c.args.j.now.host c.args.j.now.entries c.entries-entries.result.now c.loop-e.e-index c.e-item.result c.entries-entries.ensures.list c.entries-entries.ensures.once c.requires.true_of_one c.requires.few c.loop-e-test.true c.e-item.is in
    some-on here c.loop-e.classes c.push.new.self c.loop-e.invariant.stands c.in_ok-push.ensures.pushed

pub compare_at_once-requires-clause-true_of_one : goal.compare_at_once-requires-clause-true_of_one
compare_at_once-requires-clause-true_of_one c =
    let here = reached c.args.j.now.host c.args.j.now.entries c.entries-entries.result.now c.loop-e.e-index c.e-item.result c.entries-entries.ensures.list c.entries-entries.ensures.once c.requires.true_of_one c.requires.few c.loop-e-test.true c.e-item.is in
    true-so-far here c.put.new.journal (so-far here c.loop-e.journal c.put.new.journal c.loop-e.invariant.so_far c.in_ok-put.ensures)

pub compare_at_once-requires-clause-few : goal.compare_at_once-requires-clause-few
compare_at_once-requires-clause-few c =
    let here = reached c.args.j.now.host c.args.j.now.entries c.entries-entries.result.now c.loop-e.e-index c.e-item.result c.entries-entries.ensures.list c.entries-entries.ensures.once c.requires.true_of_one c.requires.few c.loop-e-test.true c.e-item.is in
    few-so-far here c.put.new.journal (so-far here c.loop-e.journal c.put.new.journal c.loop-e.invariant.so_far c.in_ok-put.ensures)

pub compare_at_once-requires-clause-some : goal.compare_at_once-requires-clause-some
compare_at_once-requires-clause-some c =
    let here = reached c.args.j.now.host c.args.j.now.entries c.entries-entries.result.now c.loop-e.e-index c.e-item.result c.entries-entries.ensures.list c.entries-entries.ensures.once c.requires.true_of_one c.requires.few c.loop-e-test.true c.e-item.is in
    some-on here c.loop-e.classes c.push.new.self c.loop-e.invariant.stands c.in_ok-push.ensures.pushed

pub loop-e-preserved : goal.loop-e-preserved
loop-e-preserved c =
    let here = reached c.args.j.now.host c.args.j.now.entries c.entries-entries.result.now c.loop-e.e-index c.e-item.result c.entries-entries.ensures.list c.entries-entries.ensures.once c.requires.true_of_one c.requires.few c.loop-e-test.true c.e-item.is in
    record { stands = stands-on here c.loop-e.classes c.push.new.self c.loop-e.invariant.stands c.in_ok-push.ensures.pushed; so_far = so-far here c.loop-e.journal c.put.new.journal c.loop-e.invariant.so_far c.in_ok-put.ensures }
