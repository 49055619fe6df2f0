use Rattle.std.proofs.Common.{ap, sym, ◌∙◌}
use Rattle.world_defs.specs.Step.{lost, was_reset, repeated, held, flipped, replayed, step}
use Rattle.fab_world.specs.Held.{world_of}
use Rattle.fab_world.proofs.Answers.{if-ok, on-err}
use Rattle.fab_world.proofs.machine.Machine.step.Goals as goal

pub returns-in-Lose-clause-ok : goal.returns-in-Lose-clause-ok
returns-in-Lose-clause-ok c = ap (step c.args.self.now) c.in-Lose.is ∙ ap (λ w. lost w c.in-Lose.c) (sym c.self.view_is) ∙ c.lose.ensures (world_of c.self.inside.links c.self.inside.hosts.items c.self.inside.adopted)

pub returns-in-Replay-clause-ok : goal.returns-in-Replay-clause-ok
returns-in-Replay-clause-ok c = ap (step c.args.self.now) c.in-Replay.is ∙ ap (λ w. replayed w c.in-Replay.serial) (sym c.self-in-Replay.view_is) ∙ c.replay.ensures (world_of c.self-in-Replay.inside.links c.self-in-Replay.inside.hosts.items c.self-in-Replay.inside.adopted)

pub returns-in-Reset-clause-ok : goal.returns-in-Reset-clause-ok
returns-in-Reset-clause-ok c = ap (step c.args.self.now) c.in-Reset.is ∙ ap (λ w. was_reset w c.in-Reset.c) (sym c.self-in-Reset.view_is) ∙ c.reset.ensures (world_of c.self-in-Reset.inside.links c.self-in-Reset.inside.hosts.items c.self-in-Reset.inside.adopted)

pub returns-in-Repeat-clause-ok : goal.returns-in-Repeat-clause-ok
returns-in-Repeat-clause-ok c =
    if-ok c.repeat.result (λ x h. ap (step c.args.self.now) c.in-Repeat.is ∙ ap (λ w. repeated w c.in-Repeat.c) (sym c.self-in-Repeat.view_is) ∙ h (world_of c.self-in-Repeat.inside.links c.self-in-Repeat.inside.hosts.items c.self-in-Repeat.inside.adopted)) c.repeat.ensures.ok

pub returns-in-Hold-clause-ok : goal.returns-in-Hold-clause-ok
returns-in-Hold-clause-ok c =
    if-ok c.hold.result (λ x h. ap (step c.args.self.now) c.in-Hold.is ∙ ap (λ w. held w c.in-Hold.c) (sym c.self-in-Hold.view_is) ∙ h (world_of c.self-in-Hold.inside.links c.self-in-Hold.inside.hosts.items c.self-in-Hold.inside.adopted)) c.hold.ensures.ok

pub returns-in-Flip-clause-ok : goal.returns-in-Flip-clause-ok
returns-in-Flip-clause-ok c =
    if-ok c.flip.result (λ x h. ap (step c.args.self.now) c.in-Flip.is ∙ ap (λ w. flipped w c.in-Flip.channel c.in-Flip.bit c.in-Flip.pattern) (sym c.self-in-Flip.view_is) ∙ h (world_of c.self-in-Flip.inside.links c.self-in-Flip.inside.hosts.items c.self-in-Flip.inside.adopted)) c.flip.ensures.ok

pub returns-in-Repeat-clause-err : goal.returns-in-Repeat-clause-err
returns-in-Repeat-clause-err c =
    on-err c.repeat.result (λ h. ap (λ l. world_of l c.self-in-Repeat.inside.hosts.items c.self-in-Repeat.inside.adopted) h ∙ c.self-in-Repeat.view_is) c.repeat.ensures.err

pub returns-in-Hold-clause-err : goal.returns-in-Hold-clause-err
returns-in-Hold-clause-err c =
    on-err c.hold.result (λ h. ap (λ l. world_of l c.self-in-Hold.inside.hosts.items c.self-in-Hold.inside.adopted) h ∙ c.self-in-Hold.view_is) c.hold.ensures.err

pub returns-in-Flip-clause-err : goal.returns-in-Flip-clause-err
returns-in-Flip-clause-err c =
    on-err c.flip.result (λ h. ap (λ l. world_of l c.self-in-Flip.inside.hosts.items c.self-in-Flip.inside.adopted) h ∙ c.self-in-Flip.view_is) c.flip.ensures.err
