use Rattle.std.proofs.Common.{◌∙◌, ap, ◌++◌, ◌∷◌, [], take}
use Rattle.fabric_wiring.specs.Tables.{entry_by, entries_of}
use Rattle.fabric_wiring.proofs.Wirings.{entries-next}
use Rattle.fabric_wiring.proofs.tables.entries_of.Goals as goal

pub loop-k-preserved : goal.loop-k-preserved
loop-k-preserved c =
    let ports = c.args.ports.now in
    let ws = c.args.wires.now in
    let k = c.loop-k.k in
    let w = c.wire_at.result in
    c.in_ok-push-2.ensures.items
    ∙ ap (λ l. l ++ c.entry_by-in-loop-k.result ∷ []) (c.in_ok-push.ensures.items ∙ ap (λ l. l ++ c.entry_by.result ∷ []) c.loop-k.invariant ∙ ap (λ e. entries_of ports (take k ws) ++ e ∷ []) c.entry_by.ensures)
    ∙ ap (λ e. (entries_of ports (take k ws) ++ entry_by ports w.cable.b ∷ []) ++ e ∷ []) c.entry_by-in-loop-k.ensures
    ∙ entries-next ports ws k w c.wire_at.ensures
