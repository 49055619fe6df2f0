use Rattle.std.proofs.Common.{◌∙◌}
use Rattle.std.specs.Prelude.{Ok, Err}
use Rattle.world_defs.specs.History.{fabric_at}
use Rattle.world_defs.specs.World.{WorldState}
use Rattle.adopted_routes.specs.declared.routes.AdoptRefusal.TheVariants.{NoMemory}
use Rattle.table_installing.proofs.Adoptions.{just-installable, unrefused-copy, adopted-copy, refused-copy}
use Rattle.table_installing.proofs.Both.{Asked, IsBoth, both, cut, failed, both-as}
use Rattle.table_installing.proofs.adopting.adopt_and_install.Goals as goal
use Rattle.table_installing.proofs.adopting.adopt_and_install.Goals.{in-Ok-adopt+in-Ok-install, in-Ok-adopt+in-Err-install, in-Err}

pub install-requires : goal.install-requires
install-requires c =
    let w : WorldState = c.args.w.now in
    let same = c.in-Ok.ensures in
    just-installable (fabric_at w.links.cables 0) w c.adopt.new.self c.args.mapper c.args.set.now c.args.hosts.now c.args.tries c.reached.ensures
    (unrefused-copy w c.in-Ok.copy c.args.set.now same c.in-Ok-adopt.ensures.refused) (adopted-copy w c.adopt.new.self c.args.mapper c.in-Ok.copy c.args.set.now same c.in-Ok-adopt.ensures.adopted)
    c.requires.idle c.requires.rise c.requires.named c.requires.some c.requires.few

-- what was asked for
abbrev asked : goal.Joined-adopt-2 → Asked
asked c = record { mapper = c.args.mapper; routes = c.args.set.now; hosts = c.args.hosts.now; tries = c.args.tries }

-- what came of it
came : (c : goal.Joined-adopt-2) → IsBoth c.args.w.now (asked c) c.match-adopt.result c.match-adopt.w
came c =
    let w : WorldState = c.args.w.now in
    let u : WorldState = c.adopt.new.self in
    let a = asked c in
    let copy = c.in-Ok.copy in
    let same = c.in-Ok.ensures in
    elim c.match-adopt.branch [
      | in-Ok-adopt+in-Ok-install b ↦
          both-as w c.match-adopt.w b.install.new.w a c.match-adopt.result (Ok b.in-Ok-install.installed) b.result-is b.w-is
          (both w u b.install.new.w a b.in-Ok-install.installed (unrefused-copy w copy a.routes same b.in-Ok-adopt.ensures.refused) (adopted-copy w u a.mapper copy a.routes same b.in-Ok-adopt.ensures.adopted)
          b.in-Ok-install.ensures.acked b.in-Ok-install.ensures.after b.in-Ok-install.ensures.of
          b.in-Ok-install.ensures.cause b.in-Ok-install.ensures.idle b.install.ensures.cables (b.install.ensures.hosts ∙ c.adopt.ensures.hosts))
      | in-Ok-adopt+in-Err-install b ↦
          both-as w c.match-adopt.w b.install.new.w a c.match-adopt.result (Err NoMemory) b.result-is b.w-is
          (cut w u b.install.new.w a (unrefused-copy w copy a.routes same b.in-Ok-adopt.ensures.refused) (adopted-copy w u a.mapper copy a.routes same b.in-Ok-adopt.ensures.adopted) b.in-Err-install.ensures.err
          (b.install.ensures.hosts ∙ c.adopt.ensures.hosts))
      | in-Err b ↦
          both-as w c.match-adopt.w u a c.match-adopt.result (Err b.in-Err.refusal) b.result-is b.w-is
          (failed w u a b.in-Err.refusal (refused-copy w copy a.routes b.in-Err.refusal same b.in-Err.ensures.refused.1) b.in-Err.ensures.unchanged c.adopt.ensures.hosts)
    ]

pub returns-clause-acked : goal.returns-clause-acked
returns-clause-acked c = (came c).acked

pub returns-clause-after : goal.returns-clause-after
returns-clause-after c = (came c).after

pub returns-clause-of : goal.returns-clause-of
returns-clause-of c = (came c).of

pub returns-clause-cause : goal.returns-clause-cause
returns-clause-cause c = (came c).cause

pub returns-clause-refused : goal.returns-clause-refused
returns-clause-refused c = (came c).refused

pub returns-clause-unchanged : goal.returns-clause-unchanged
returns-clause-unchanged c = (came c).unchanged

pub returns-clause-err : goal.returns-clause-err
returns-clause-err c = (came c).err

pub returns-clause-idle : goal.returns-clause-idle
returns-clause-idle c = (came c).idle

pub returns-clause-cables : goal.returns-clause-cables
returns-clause-cables c = (came c).cables

pub returns-clause-hosts : goal.returns-clause-hosts
returns-clause-hosts c = (came c).hosts
