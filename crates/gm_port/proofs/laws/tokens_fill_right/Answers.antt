use Rattle.gm_port.proofs.Filling.{opened-filling, provided-filling, delivered-filling}
use Rattle.gm_port.proofs.laws.tokens_fill_right.Goals as goal

pub returns : goal.returns
returns c = record { opening = opened-filling; providing = provided-filling; delivering = delivered-filling }
