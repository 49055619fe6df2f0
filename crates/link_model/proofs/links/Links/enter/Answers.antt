use Rattle.std.proofs.Common.{◌≡◌, ap, ◌∙◌, sym, subst, length, get_or, arith, Option, Some, None, option_map}
use Rattle.std.proofs.Math.ListN.{length-set}
use Rattle.world_defs.specs.declared.moved.Course.TheVariants.{Enters}
use Rattle.world_defs.specs.Advance.{course}
use Rattle.world_defs.specs.Links.{Held, LinkState, packet_in}
use Rattle.world_defs.specs.Shape.{IsLinks}
use Rattle.link_model.specs.State.{state}
use Rattle.link_model.proofs.Stepping.{entering, goes_on, written-links}
use Rattle.link_model.proofs.links.Links.enter.Goals as goal

pub is_full-requires : goal.is_full-requires
is_full-requires c =
    let low = entering c.args.self.now c.args.c c.args.next c.requires.course in
    let links : IsLinks c.args.self.now = subst IsLinks c.self.view_is c.self.invariant in
    let same = links.slots in
    let view = ap (λ s. length s.channels) c.self.view_is in
    let number = c.from.ensures in
    omega (arith, low, same, view, number)

pub turned-slot-requires-clause-goes : goal.turned-slot-requires-clause-goes
turned-slot-requires-clause-goes c =
    let s : LinkState = state c.self.inside.wiring c.self.inside.epoch c.self.inside.slots c.self.inside.limbo c.self.inside.next_serial in
    let held : Held = c.unwrap-slot.result in
    let there : packet_in s c.args.c ≡ Some held = ap (λ i. get_or c.self.inside.slots i None) (sym c.from-2.ensures) ∙ sym c.take.ensures.slot ∙ c.unwrap-slot.ensures in
    let goes : option_map (λ (h : Held). course s.cables c.args.c h.wire) (packet_in s c.args.c) ≡ Some (Enters c.args.next) =
    subst (λ (t : LinkState). option_map (λ (h : Held). course t.cables c.args.c h.wire) (packet_in t c.args.c) ≡ Some (Enters c.args.next)) (sym c.self.view_is) c.requires.course in
    (c.args.next, goes_on s.cables c.args.c c.args.next held (subst (λ (o : Option Held). option_map (λ (h : Held). course s.cables c.args.c h.wire) o ≡ Some (Enters c.args.next)) there goes))

pub put-requires-clause-there : goal.put-requires-clause-there
put-requires-clause-there c =
    let low = entering c.args.self.now c.args.c c.args.next c.requires.course in
    let links : IsLinks c.args.self.now = subst IsLinks c.self.view_is c.self.invariant in
    let same = links.slots in
    let view = ap (λ s. length s.channels) c.self.view_is in
    let number = c.from-3.ensures in
    let long = ap length c.take.ensures.slots ∙ length-set {A = Option Held} c.self.inside.slots c.from-2.result None in
    omega (arith, low, same, view, number, long)

pub invariant_of-self : goal.invariant_of-self
invariant_of-self c =
    let s = state c.self.inside.wiring c.self.inside.epoch c.self.inside.slots c.self.inside.limbo c.self.inside.next_serial in
    written-links s c.put.new.self
    (ap length c.put.ensures ∙ length-set {A = Option Held} c.take.new.self c.from-3.result _
    ∙ ap length c.take.ensures.slots ∙ length-set {A = Option Held} c.self.inside.slots c.from-2.result None) c.self.invariant
