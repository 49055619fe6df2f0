-- What a body on its way says of the messages that hosts have sent.
use Rattle.std.specs.Prelude.{◌≡◌, ℕ, List, Ok}
use Rattle.packet_defs.specs.declared.kind.Kind.{Kind}
use Rattle.packet_defs.specs.declared.kind.Kind.TheVariants.{Mapping, Gm}
use Rattle.gm_defs.specs.declared.message.Message.{Message}
use Rattle.gm_defs.specs.declared.frame.FrameHead.{FrameHead}
use Rattle.gm_defs.specs.declared.frame.ConnectionKey.{ConnectionKey}
use Rattle.gm_defs.specs.declared.frame.GmBody.TheVariants.{Frame}
use Rattle.gm_defs.specs.Body.{decode, part_in}
use Rattle.gm_defs.specs.Fragment.{IsHonestFrame}

-- What is read as a frame is the fragment of its number, of what was sent on its connection; other bodies say nothing
-- of messages.
abbrev pub SaysTrue : (ConnectionKey → List Message) → Kind → List ℕ → Type 0
SaysTrue sent Mapping body = Unit {0}
SaysTrue sent Gm body = (h : FrameHead) → decode body ≡ Ok (Frame h) → IsHonestFrame sent h (part_in body)
