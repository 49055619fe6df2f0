use Rattle.std.proofs.Common.{ap, sym, ◌∙◌}
use Rattle.std.specs.Prelude.{Some}
use Rattle.world_defs.specs.declared.effect.Effect.TheVariants.{Staged}
use Rattle.world_defs.specs.Node.{NodeState, StagedProbe}
use Rattle.world_defs.specs.World.{WorldState}
use Rattle.world_defs.specs.Step.{asked}
use Rattle.fab_world.proofs.Places.{IsAt, kept-in-state, changed}
use Rattle.fab_world.proofs.Resting.{marked, has-mark}
use Rattle.fab_world.proofs.machine.Machine.stage_probe.Goals as goal

pub mark-requires : goal.mark-requires
mark-requires c =
    has-mark c.self.inside.links c.self.inside.hosts.items c.self.inside.adopted c.args.self.now c.self.inside.marks c.args.host c.from-at.result c.self.view_is c.self.invariant
    c.requires.there c.from-at.ensures

pub invariant_of-self : goal.invariant_of-self
invariant_of-self c =
    let at : IsAt c.self.inside.links c.self.inside.hosts.items c.self.inside.adopted c.args.self.now c.args.host c.from-at.result c.index_mut.result.now =
    record { is = c.self.view_is; kept = c.self.invariant.hosts; below = c.requires.there; at = c.from-at.ensures; there = c.index_mut.ensures.value } in
    marked c.self.inside.marks c.mark.new.self c.ask.new.self at c.self.invariant (kept-in-state c.ask.new.self (record c.index_mut.result.now.state { staged = Some (StagedProbe c.in_ok-walk.walk c.args.looped) }) at c.ask.ensures) c.mark.ensures

pub returns-clause-ok : goal.returns-clause-ok
unfolding asked
returns-clause-ok c =
    let at : IsAt c.self.inside.links c.self.inside.hosts.items c.self.inside.adopted c.args.self.now c.args.host c.from-at.result c.index_mut.result.now =
    record { is = c.self.view_is; kept = c.self.invariant.hosts; below = c.requires.there; at = c.from-at.ensures; there = c.index_mut.ensures.value } in
    ap (λ turns. asked c.args.self.now c.args.host turns c.args.looped) (sym c.in_ok-walk.ensures)
    ∙ ap (λ (v : WorldState). (Staged, v)) (sym (changed c.ask.new.self (λ (n : NodeState). record n { staged = Some (StagedProbe c.in_ok-walk.walk c.args.looped) }) at c.ask.ensures))
