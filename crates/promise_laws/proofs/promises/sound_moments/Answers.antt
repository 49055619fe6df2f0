use Rattle.promise_laws.proofs.Sound.{always_sound}
use Rattle.promise_laws.proofs.promises.sound_moments.Goals as goal

pub returns : goal.returns
returns c = always_sound
