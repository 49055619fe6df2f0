-- What a reader may conclude from a body.
use Rattle.std.specs.Prelude.{ℕ, List}
use Rattle.gm_defs.specs.declared.frame.GmBody.{GmBody}
use Rattle.gm_defs.specs.declared.frame.GmBody.TheVariants.{Frame, Ack as Acknowledges}
use Rattle.gm_defs.specs.Laws.{IsWrittenFrame, IsWrittenAck}

-- the bytes are those that are written for what was read, and that is by the rules
abbrev pub IsWritten : GmBody → List ℕ → Type 0
IsWritten (Frame h) bytes = IsWrittenFrame bytes h
IsWritten (Acknowledges a) bytes = IsWrittenAck bytes a
