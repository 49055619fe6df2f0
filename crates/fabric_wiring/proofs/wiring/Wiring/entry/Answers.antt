use Rattle.std.proofs.Common.{◌∙◌, ap, length, arith}
use Rattle.fabric_wiring.specs.Tables.{history_of}
use Rattle.fabric_wiring.proofs.Wirings.{entries-length, entry-there}
use Rattle.fabric_wiring.proofs.wiring.Wiring.entry.Goals as goal

pub entry_at-requires : goal.entry_at-requires
entry_at-requires c =
    let items = ap length (c.deref.ensures.value ∙ c.self.invariant.entered) in
    let count = entries-length c.self.inside.ports.items c.self.inside.wires.items in
    let view = ap (λ h. length h.wires) c.self.view_is in
    let number = c.from.ensures in
    let low = c.requires in
    omega (arith, items, count, view, number, low)

pub returns-clause-end : goal.returns-clause-end
returns-clause-end c =
    (entry-there (history_of c.self.inside.first.value c.self.inside.wires.items c.self.inside.changes c.self.inside.accepted) c.args.self.now c.self.inside.ports.items c.self.inside.entries.items c.deref.result.now c.self.inside.out.items c.self.inside.hops.items c.args.c c.from.result c.entry_at.result c.self.invariant c.self.view_is c.deref.ensures.value c.from.ensures c.entry_at.ensures).end

pub returns-clause-ports : goal.returns-clause-ports
returns-clause-ports c =
    (entry-there (history_of c.self.inside.first.value c.self.inside.wires.items c.self.inside.changes c.self.inside.accepted) c.args.self.now c.self.inside.ports.items c.self.inside.entries.items c.deref.result.now c.self.inside.out.items c.self.inside.hops.items c.args.c c.from.result c.entry_at.result c.self.invariant c.self.view_is c.deref.ensures.value c.from.ensures c.entry_at.ensures).ports

pub returns-clause-there : goal.returns-clause-there
returns-clause-there c =
    (entry-there (history_of c.self.inside.first.value c.self.inside.wires.items c.self.inside.changes c.self.inside.accepted) c.args.self.now c.self.inside.ports.items c.self.inside.entries.items c.deref.result.now c.self.inside.out.items c.self.inside.hops.items c.args.c c.from.result c.entry_at.result c.self.invariant c.self.view_is c.deref.ensures.value c.from.ensures c.entry_at.ensures).there

pub returns-clause-switch : goal.returns-clause-switch
returns-clause-switch c =
    (entry-there (history_of c.self.inside.first.value c.self.inside.wires.items c.self.inside.changes c.self.inside.accepted) c.args.self.now c.self.inside.ports.items c.self.inside.entries.items c.deref.result.now c.self.inside.out.items c.self.inside.hops.items c.args.c c.from.result c.entry_at.result c.self.invariant c.self.view_is c.deref.ensures.value c.from.ensures c.entry_at.ensures).switch
