use Rattle.message_laws.proofs.Worlds.{frames-honest}
use Rattle.message_laws.proofs.order.frames_on_their_way.Goals as goal

pub returns : goal.returns
returns c = record { frames = frames-honest }
