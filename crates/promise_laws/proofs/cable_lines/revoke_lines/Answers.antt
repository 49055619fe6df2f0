use Rattle.promise_laws.proofs.Revoking.{revoked_line-true}
use Rattle.promise_laws.proofs.cable_lines.revoke_lines.Goals as goal

pub returns : goal.returns
returns c = revoked_line-true
