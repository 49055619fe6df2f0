use Rattle.std.proofs.Common.{◌≡◌, ◌<◌, ◌∙◌, ap, sym, subst, get_or, length, arith, None}
use Rattle.std.specs.Option.{IfSome}
use Rattle.net_defs.specs.Network.{IsFabric}
use Rattle.world_defs.specs.History.{fabric_now}
use Rattle.world_defs.specs.Crossed.{leaving, life_channels}
use Rattle.world_defs.proofs.Now.{now_is_fabric}
use Rattle.fabric_wiring.specs.Tables.{history_of}
use Rattle.fabric_wiring.proofs.Wirings.{impossible-none, unplaced, placed, leaving-below}
use Rattle.fabric_wiring.proofs.wiring.Wiring.channel_from.Goals as goal

found : (c : goal.After-channel_at) → c.channel_at.result ≡ leaving c.args.self.now c.args.e
found c =
    let at = placed c.args.e c.in-Some.place c.in-Some.ensures.place in
    c.channel_at.ensures
    ∙ ap (λ l. get_or l c.in-Some.place None) c.deref.ensures.value
    ∙ ap (λ i. get_or c.self.inside.out.items i None) at.1
    ∙ c.self.invariant.leaving.channels c.args.e at.0
    ∙ ap (λ m. leaving m c.args.e) c.self.view_is

pub channel_at-requires : goal.channel_at-requires
channel_at-requires c =
    let low = c.in-Some.ensures.within in
    let items = ap length c.deref.ensures.value in
    let size = c.self.invariant.leaving.size in
    omega (arith, low, items, size)

pub returns-in-Some-clause-channel : goal.returns-in-Some-clause-channel
returns-in-Some-clause-channel c = found c

pub returns-in-Some-clause-there : goal.returns-in-Some-clause-there
returns-in-Some-clause-there c = subst (λ o. IfSome o (λ x. x < life_channels c.args.self.now)) (sym (found c)) (leaving-below c.args.self.now c.args.e)

pub returns-in-Some-clause-fabric : goal.returns-in-Some-clause-fabric
returns-in-Some-clause-fabric c = subst (λ x. IsFabric (fabric_now x)) c.self.view_is (now_is_fabric (history_of c.self.inside.first.value c.self.inside.wires.items c.self.inside.changes c.self.inside.accepted) c.self.invariant.history)

pub returns-in-None-clause-channel : goal.returns-in-None-clause-channel
returns-in-None-clause-channel c =
    sym (impossible-none (history_of c.self.inside.first.value c.self.inside.wires.items c.self.inside.changes c.self.inside.accepted) c.args.e (now_is_fabric (history_of c.self.inside.first.value c.self.inside.wires.items c.self.inside.changes c.self.inside.accepted) c.self.invariant.history) (unplaced c.args.e c.in-None.ensures.place)) ∙ ap (λ n. leaving n c.args.e) c.self.view_is

pub returns-in-None-clause-fabric : goal.returns-in-None-clause-fabric
returns-in-None-clause-fabric c = subst (λ x. IsFabric (fabric_now x)) c.self.view_is (now_is_fabric (history_of c.self.inside.first.value c.self.inside.wires.items c.self.inside.changes c.self.inside.accepted) c.self.invariant.history)
