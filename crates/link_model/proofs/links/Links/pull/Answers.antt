use Rattle.std.proofs.Common.{◌≡◌, ◌+◌, ◌*◌, ap, ◌∙◌, sym, subst, length, set, Option, None, arith}
use Rattle.std.proofs.Math.ListN.{length-set}
use Rattle.world_defs.specs.Crossed.{pulled_at}
use Rattle.world_defs.specs.Links.{Held, LinkState}
use Rattle.world_defs.specs.Shape.{IsLinks}
use Rattle.world_defs.specs.LinkStep.{Pull}
use Rattle.world_defs.proofs.Shapes.{stepped-links}
use Rattle.link_model.specs.State.{state}
use Rattle.link_model.proofs.Cables.{cable-there, pull-some, without}
use Rattle.link_model.proofs.links.Links.pull.Goals as goal

pub take-requires : goal.take-requires
take-requires c =
    let s : LinkState = state c.self.inside.wiring c.self.inside.epoch c.self.inside.slots c.self.inside.limbo c.self.inside.next_serial in
    let there = cable-there s c.args.e c.in-Some.k c.self.invariant c.in-Some.ensures.number in
    let number = c.from.ensures in
    omega (arith, there, number)

pub take-requires-2 : goal.take-requires-2
take-requires-2 c =
    let s : LinkState = state c.self.inside.wiring c.self.inside.epoch c.self.inside.slots c.self.inside.limbo c.self.inside.next_serial in
    let there = cable-there s c.args.e c.in-Some.k c.self.invariant c.in-Some.ensures.number in
    let number = c.from-2.ensures in
    let long = ap length c.take.ensures.slots ∙ length-set {A = Option Held} c.self.inside.slots (2 * c.from.result) None in
    omega (arith, there, number, long)

pub invariant_of-self-2 : goal.invariant_of-self-2
invariant_of-self-2 c =
    let s : LinkState = state c.self.inside.wiring c.self.inside.epoch c.self.inside.slots c.self.inside.limbo c.self.inside.next_serial in
    let k = c.in-Some.k in
    let slots : c.take-2.new.self ≡ set (set s.channels (2 * k) None) (2 * k + 1) None =
    c.take-2.ensures.slots ∙ ap (λ i. set c.take.new.self (2 * i + 1) None) c.from-2.ensures
    ∙ ap (λ l. set l (2 * k + 1) None) (c.take.ensures.slots ∙ ap (λ i. set c.self.inside.slots (2 * i) None) c.from.ensures) in
    let same : state c.pull.new.self c.self.inside.epoch c.take-2.new.self c.leave_cable.new.self c.self.inside.next_serial ≡ without s (pulled_at s.cables c.args.e) k =
    λ i. state (c.in-Some.ensures.history i) c.self.inside.epoch (slots i) (c.leave_cable.ensures i) c.self.inside.next_serial in
    subst IsLinks (ap (λ o. o.1) (pull-some s c.args.e k c.in-Some.ensures.number) ∙ sym same) (stepped-links s (Pull c.args.e) c.self.invariant)
