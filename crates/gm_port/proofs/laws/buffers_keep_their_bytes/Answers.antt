use Rattle.gm_port.proofs.Bytes.{buffer-back, fragment-in-place}
use Rattle.gm_port.proofs.laws.buffers_keep_their_bytes.Goals as goal

pub returns : goal.returns
returns c = record { sent = buffer-back; filled = fragment-in-place }
