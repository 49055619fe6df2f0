use Rattle.std.proofs.Common.{◌≡◌, ℕ, List, ap, ◌∙◌, sym, subst, length, set, get_or, Option, Some, None, arith}
use Rattle.std.proofs.Math.ListN.{length-set}
use Rattle.world_defs.specs.Links.{Held, LinkState, packet_in}
use Rattle.link_model.specs.FullSlots.{IsLone}
use Rattle.link_model.specs.State.{state}
use Rattle.link_model.specs.Hop.{IsSentAlong, IsRun}
use Rattle.link_model.proofs.Runs.{RunsOut, runs-out, moved_to, emptied-none}
use Rattle.link_model.proofs.links.Links.run.Goals as goal

pub follow-run-requires : goal.follow-run-requires
follow-run-requires c =
    let links = c.self.invariant in
    let slots = links.slots in
    let low = c.requires.there in
    let view = ap (λ s. length s.channels) c.self.view_is in
    omega (arith, slots, low, view)

pub put-requires-clause-there : goal.put-requires-clause-there
put-requires-clause-there c =
    let links = c.self.invariant in
    let slots = links.slots in
    let below = c.follow-run.ensures.there in
    let number = c.from-2.ensures in
    let long = ap length c.take.ensures.slots ∙ length-set {A = Option Held} c.self.inside.slots c.from.result None in
    omega (arith, slots, below, number, long)

pub put-requires-clause-empty : goal.put-requires-clause-empty
put-requires-clause-empty c =
    let s : LinkState = state c.self.inside.wiring c.self.inside.epoch c.self.inside.slots c.self.inside.limbo c.self.inside.next_serial in
    let lone : IsLone s.channels c.args.c = subst (λ t. IsLone t.channels c.args.c) (sym c.self.view_is) c.requires in
    ap (λ l. get_or l c.from-2.result None) (c.take.ensures.slots ∙ ap (λ i. set c.self.inside.slots i None) c.from.ensures) ∙ emptied-none s c.args.c lone.others c.from-2.result

-- what the run leaves
out : (c : goal.After-put) → RunsOut (state c.self.inside.wiring c.self.inside.epoch c.self.inside.slots c.self.inside.limbo c.self.inside.next_serial)
    (state c.self.inside.wiring c.self.inside.epoch c.put.new.self c.self.inside.limbo c.self.inside.next_serial) c.args.c c.follow-run.result.hops c.follow-run.result.at
out c =
    let s : LinkState = state c.self.inside.wiring c.self.inside.epoch c.self.inside.slots c.self.inside.limbo c.self.inside.next_serial in
    let held : Held = c.unwrap-slot.result in
    let r = c.follow-run.result in
    let wire : List ℕ = c.follow-run.new.packet in
    let there : packet_in s c.args.c ≡ Some held = ap (λ i. get_or c.self.inside.slots i None) (sym c.from.ensures) ∙ sym c.take.ensures.slot ∙ c.unwrap-slot.ensures in
    let lone : IsLone s.channels c.args.c = subst (λ t. IsLone t.channels c.args.c) (sym c.self.view_is) c.requires in
    let along : IsSentAlong s.cables c.args.c held.wire r.hops r.at wire = subst (λ b. IsSentAlong s.cables c.args.c b r.hops r.at wire) (ap (λ p. p.0) c.into_parts-packet.ensures) c.follow-run.ensures.along in
    let put : c.from_parts-slot.result ≡ record held { wire = wire } = c.from_parts-slot.ensures ∙ (λ j. let h : Held = record { wire = wire; marked = (c.into_parts-packet.ensures j).1; born = (c.into_parts-packet.ensures j).2 } in h) in
    let same : c.put.new.self ≡ (moved_to s c.args.c held r.at wire).channels =
    c.put.ensures ∙ ap (λ i. set c.take.new.self i (Some c.from_parts-slot.result)) c.from-2.ensures
    ∙ ap (λ h. set c.take.new.self r.at (Some h)) put
    ∙ ap (λ l. set l r.at (Some (record held { wire = wire }))) (c.take.ensures.slots ∙ ap (λ i. set c.self.inside.slots i None) c.from.ensures) in
    subst (λ l. RunsOut s (record s { channels = l }) c.args.c r.hops r.at) (sym same) (runs-out s c.args.c held r.hops r.at wire c.self.invariant lone there along c.follow-run.ensures.last)

pub invariant_of-self : goal.invariant_of-self
invariant_of-self c = (out c).links

pub returns-clause-run : goal.returns-clause-run
returns-clause-run c =
    subst (λ s. IsRun s c.args.c c.follow-run.result.hops c.follow-run.result.at (state c.self.inside.wiring c.self.inside.epoch c.put.new.self c.self.inside.limbo c.self.inside.next_serial)) c.self.view_is (out c).run

pub returns-clause-lone : goal.returns-clause-lone
returns-clause-lone c = (out c).lone

pub returns-clause-last : goal.returns-clause-last
returns-clause-last c = (out c).last
