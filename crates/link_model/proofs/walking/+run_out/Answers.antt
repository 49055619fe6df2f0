use Rattle.std.proofs.Common.{◌≡◌, ◌-◌, suc, sym, ap, ◌∙◌, arith}
use Rattle.world_defs.specs.Lone.{lone_place}
use Rattle.link_model.specs.Alone.{wire_in, left_at}
use Rattle.link_model.proofs.Alone.{reset-alone, GoesOn, goes-on, Ends, ends, elsewhere}
use Rattle.link_model.proofs.walking.+run_out.Goals as goal

pub returns-then-steps-eq0-clause-idle : goal.returns-then-steps-eq0-clause-idle
returns-then-steps-eq0-clause-idle t c = c.reset.ensures.links ∙ reset-alone c.args.links.now c.args.at c.requires.alone

pub run_out-requires : goal.run_out-requires
run_out-requires t c =
    let g : GoesOn c.args.links.now c.advance.new.self c.args.at c.in-To.next (c.args.steps - 1) = goes-on c.args.links.now c.advance.new.self c.args.at c.in-To.next (c.args.steps - 1) c.requires.alone c.requires.there (sym c.in-To.ensures.moved) c.in-To.ensures.links in
    let some = c.if-steps-eq0.false in
    let few = c.requires.few in
    (omega (arith, c.decreases, some), (omega (arith, few), (g.there, g.alone)))

pub returns-in-To-clause-place : goal.returns-in-To-clause-place
returns-in-To-clause-place t c =
    let s = c.args.links.now in
    let after = c.advance.new.self in
    let k = c.args.steps - 1 in
    let g : GoesOn s after c.args.at c.in-To.next k = goes-on s after c.args.at c.in-To.next k c.requires.alone c.requires.there (sym c.in-To.ensures.moved) c.in-To.ensures.links in
    let some = c.if-steps-eq0.false in
    let e : suc k ≡ c.args.steps = omega (arith, some) in
    c.run_out.ensures.place
    ∙ ap (λ n. lone_place k n c.in-To.next (wire_in after c.in-To.next)) g.cables
    ∙ sym g.place
    ∙ ap (λ i. lone_place i s.cables c.args.at (wire_in s c.args.at)) e

pub returns-in_default : goal.returns-in_default
returns-in_default t c =
    let s = c.args.links.now in
    let k = c.args.steps - 1 in
    let some = c.if-steps-eq0.false in
    let e : suc k ≡ c.args.steps = omega (arith, some) in
    let g : Ends s c.advance.new.self c.args.at k c.advance.result = ends s c.advance.new.self c.args.at k c.advance.result c.requires.alone c.requires.there c.advance.ensures.moved c.advance.ensures.links (elsewhere c.advance.result c.in_default.not-To) in
    record {
      place = c.place_of.ensures ∙ ap (λ w. left_at w.cables c.args.at c.advance.result) g.idle ∙ sym g.place ∙ ap (λ i. lone_place i s.cables c.args.at (wire_in s c.args.at)) e;
      idle = g.idle;
    }
