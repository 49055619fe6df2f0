use Rattle.std.proofs.Common.{subst}
use Rattle.duo_defs.specs.Theorem.{IsReached}
use Rattle.duo_laws.proofs.Owners.{one-owner}
use Rattle.gm_restart.proofs.duo.Duo.incarnation.Goals as goal

pub returns-then-x-eq0-clause-owners : goal.returns-then-x-eq0-clause-owners
returns-then-x-eq0-clause-owners c = one-owner c.args.self.now (subst IsReached c.self.view_is c.self.invariant) c.args.x

pub returns-else-x-eq0-clause-owners : goal.returns-else-x-eq0-clause-owners
returns-else-x-eq0-clause-owners c = one-owner c.args.self.now (subst IsReached c.self.view_is c.self.invariant) c.args.x
