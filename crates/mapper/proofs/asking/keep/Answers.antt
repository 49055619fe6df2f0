use Rattle.std.proofs.Common.{◌≡◌, ◌+◌, sym, subst}
use Rattle.journal_defs.specs.declared.entry.Entry.{Entry}
use Rattle.replicate_merge.specs.Table.{StandsFor}
use Rattle.probe.specs.Keeping.{JournalState, with_entry}
use Rattle.mapper.specs.declared.tree.Tree.{Tree}
use Rattle.mapper.proofs.asking.keep.Goals as goal

pub returns : goal.returns
returns c =
    let t : Tree = c.args.tree.now in
    let e : Entry = record { walk = c.args.walk; answer = c.args.answer } in
    let classes = c.push_at.new.self in
    let after : c.push_new.new.self ≡ with_entry t.journal e = c.in_ok-push_new.ensures.ok in
    let next = c.in_ok-push_at.ensures.pushed t.journal.host t.journal.entries c.requires.next.stands c.requires.next.next in
    record {
      kept = λ i. record t { journal = after i; classes = classes; nodes = t.nodes + c.node_count.ensures i };
      stands = subst (λ (s : JournalState). StandsFor s.host s.entries classes) (sym after) next;
    }
