use Rattle.std.proofs.Common.{◌≡◌, ◌<◌, List, length, Some, ap, sym, ◌∙◌, subst}
use Rattle.std.specs.Prelude.{slice_get}
use Rattle.journal_defs.specs.declared.entry.Entry.{Entry}
use Rattle.replicate_merge.proofs.Entries.{entry-in}
use Rattle.map_quotient.proofs.Addresses.{addresses-next}
use Rattle.map_quotient.proofs.naming.addresses.Goals as goal

pub loop-e-preserved : goal.loop-e-preserved
loop-e-preserved c =
    let es = c.entries-e-items.result.now in
    let j = c.args.j.now.entries in
    let i = c.loop-e.e-index in
    let e = c.e-item.result in
    let below : i < length j = subst (λ (l : List Entry). i < length l) c.entries-e-items.ensures.list c.loop-e-test.true in
    let at : slice_get j i ≡ Some e = entry-in es j i e c.entries-e-items.ensures.list below ∙ ap (λ x. Some x) (sym c.e-item.is) in
    addresses-next c.args.j.now.host j i e c.loop-e.found.items c.add_found.new.found.items c.entries-e-items.ensures.once at c.loop-e.invariant c.in_ok-add_found.ensures
