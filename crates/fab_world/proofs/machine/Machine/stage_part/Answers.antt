use Rattle.std.proofs.Common.{ap, sym}
use Rattle.world_defs.specs.declared.effect.Effect.TheVariants.{Staged}
use Rattle.world_defs.specs.Node.{NodeState, StagedPart}
use Rattle.world_defs.specs.World.{WorldState}
use Rattle.fab_world.proofs.Places.{IsAt, kept-in-state, changed}
use Rattle.fab_world.proofs.Resting.{marked, has-mark}
use Rattle.fab_world.proofs.machine.Machine.stage_part.Goals as goal
use Rattle.std.specs.Prelude.{Some}

pub mark-requires : goal.mark-requires
mark-requires c =
    has-mark c.self.inside.links c.self.inside.hosts.items c.self.inside.adopted c.args.self.now c.self.inside.marks c.args.sent.mapper c.from-at.result c.self.view_is c.self.invariant
    c.requires.there c.from-at.ensures

pub invariant_of-self : goal.invariant_of-self
invariant_of-self c =
    let at : IsAt c.self.inside.links c.self.inside.hosts.items c.self.inside.adopted c.args.self.now c.args.sent.mapper c.from-at.result c.index_mut.result.now =
    record { is = c.self.view_is; kept = c.self.invariant.hosts; below = c.requires.there; at = c.from-at.ensures; there = c.index_mut.ensures.value } in
    marked c.self.inside.marks c.mark.new.self c.part.new.self at c.self.invariant (kept-in-state c.part.new.self (record c.index_mut.result.now.state { staged = Some (StagedPart c.args.sent.part c.args.sent.by) }) at c.part.ensures) c.mark.ensures

pub returns : goal.returns
returns c =
    let at : IsAt c.self.inside.links c.self.inside.hosts.items c.self.inside.adopted c.args.self.now c.args.sent.mapper c.from-at.result c.index_mut.result.now =
    record { is = c.self.view_is; kept = c.self.invariant.hosts; below = c.requires.there; at = c.from-at.ensures; there = c.index_mut.ensures.value } in
    ap (λ (v : WorldState). (Staged, v)) (sym (changed c.part.new.self (λ (n : NodeState). record n { staged = Some (StagedPart c.args.sent.part c.args.sent.by) }) at c.part.ensures))
