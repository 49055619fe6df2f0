use Rattle.std.proofs.Common.{refl}
use Rattle.std.specs.Fmt.{digits}
use Rattle.fabric_gen.proofs.examples.text_of_two_hosts.Goals as goal

pub returns : goal.returns
unfolding digits
returns c = refl
