use Rattle.std.proofs.Common.{◌+◌, ◌∙◌, None, get_or, refl, ap, length, sym, arith}
use Rattle.world_defs.specs.History.{CableHistory}
use Rattle.world_defs.proofs.Now.{now_is_fabric}
use Rattle.fabric_wiring.specs.declared.wiring.Entry.{Entry}
use Rattle.fabric_wiring.specs.Hops.{next_channel}
use Rattle.fabric_wiring.specs.Tables.{history_of}
use Rattle.fabric_wiring.proofs.Wirings.{entries-length, entry-there, IsEntry}
use Rattle.fabric_wiring.proofs.Hopping.{hop-is, hop-low, hopped, hopped-none}
use Rattle.fabric_wiring.proofs.wiring.Wiring.next.Goals as goal

pub entry_at-entry-requires : goal.entry_at-entry-requires
entry_at-entry-requires c =
    let items = ap length (c.deref.ensures.value ∙ c.self.invariant.entered) in
    let count = entries-length c.self.inside.ports.items c.self.inside.wires.items in
    let view = ap (λ h. length h.wires) c.self.view_is in
    let number = c.from.ensures in
    let low = c.requires in
    omega (arith, items, count, view, number, low)

pub channel_at-requires : goal.channel_at-requires
channel_at-requires c =
    let h : CableHistory = (history_of c.self.inside.first.value c.self.inside.wires.items c.self.inside.changes c.self.inside.accepted) in
    let e : Entry = c.entry_at-entry.result in
    let is : IsEntry h c.args.c e = entry-there h h c.self.inside.ports.items c.self.inside.entries.items c.deref.result.now c.self.inside.out.items c.self.inside.hops.items c.args.c c.from.result e c.self.invariant refl c.deref.ensures.value c.from.ensures c.entry_at-entry.ensures in
    let six = c.in-Some.ensures.six in
    let low = hop-low h e.end c.self.inside.out.items c.self.inside.hops.items c.args.byte e.hops (now_is_fabric h c.self.invariant.history) c.self.invariant.hopping is.there is.hops six.0 six.1 in
    let same = ap length c.deref-in-Some.ensures.value in
    let at = six.2 in
    omega (arith, low, same, at)

pub returns-in-Some : goal.returns-in-Some
returns-in-Some c =
    let h : CableHistory = (history_of c.self.inside.first.value c.self.inside.wires.items c.self.inside.changes c.self.inside.accepted) in
    let e : Entry = c.entry_at-entry.result in
    let is : IsEntry h c.args.c e = entry-there h h c.self.inside.ports.items c.self.inside.entries.items c.deref.result.now c.self.inside.out.items c.self.inside.hops.items c.args.c c.from.result e c.self.invariant refl c.deref.ensures.value c.from.ensures c.entry_at-entry.ensures in
    let six = c.in-Some.ensures.six in
    c.channel_at.ensures
    ∙ ap (λ l. get_or l (e.hops + c.in-Some.six) None) c.deref-in-Some.ensures.value
    ∙ ap (λ i. get_or c.self.inside.hops.items (e.hops + i) None) six.2
    ∙ hop-is h e.end c.self.inside.out.items c.self.inside.hops.items c.args.byte e.hops (now_is_fabric h c.self.invariant.history) c.self.invariant.leaving c.self.invariant.hopping is.there is.hops six.0 six.1
    ∙ sym (hopped h c.args.c e.end c.args.byte is.end)
    ∙ ap (λ m. next_channel m c.args.c c.args.byte) c.self.view_is

pub returns-in-None : goal.returns-in-None
returns-in-None c = sym (hopped-none c.args.self.now c.args.c c.args.byte (c.in-None.ensures.none refl))
