-- Messages and tokens as answers tell them, and what their ledgers make of a line.
use Rattle.std.specs.Prelude.{Bool, true, false, List, ◌∷◌, if◌then◌else◌, Option, Some, None}
use Rattle.port_ledgers.specs.declared.lane.Lane.{Lane}
use Rattle.port_ledgers.specs.declared.lane.SentMessage.{SentMessage}
use Rattle.port_ledgers.specs.declared.lane.PortName.{PortName}
use Rattle.port_ledgers.specs.Waiting.{AreWaiting}
use Rattle.port_ledgers.specs.Held.{OpenPort, AreHeld}
use Rattle.report_lines.specs.declared.line.ReportLine.{ReportLine}
use Rattle.report_lines.specs.declared.line.ReportLine.TheVariants.{Opened, Accepted, Returned, Received}
use Rattle.answer_defs.specs.declared.why.Why.{Why}
use Rattle.answer_defs.specs.declared.why.Why.TheVariants.{Message, Token}
use Rattle.answer_defs.specs.Answer.{Answered, told}
use Rattle.answer_defs.specs.Right.{MessagesAreTrue, TokensAreTrue}

-- What is kept: messages that wait, by lanes, and tokens that are held, by ports.
pub record LedgersState : Type 0 where
  pub messages : List (Lane × List SentMessage)
  pub tokens : List (PortName × OpenPort)

-- The ledgers are what answers tell.
pub record AreLedgersOf (before : List Answered) (p : LedgersState) : Type 0 where
  pub waiting : AreWaiting (told before) p.messages
  pub held : AreHeld (told before) p.tokens

-- A line is right of messages and tokens, and the ledgers are told of it; or the message fails, or only the token.
abbrev pub JudgesLine : List Answered → Answered → Option Why → LedgersState → Type 0
JudgesLine before t None now = MessagesAreTrue before t × TokensAreTrue before t × AreLedgersOf (t ∷ before) now
JudgesLine before t (Some Message) now = ¬ MessagesAreTrue before t
JudgesLine before t (Some Token) now = MessagesAreTrue before t × (¬ TokensAreTrue before t)
JudgesLine before t (Some why) now = ⊥

-- A line is right of messages and tokens.
abbrev pub IsRightLine : List Answered → Answered → Type 0
IsRightLine before t = MessagesAreTrue before t × TokensAreTrue before t

-- what fails where a token isn't right
abbrev pub token_unless : Bool → Option Why
token_unless is = if is then None else Some Token

-- a line after which a ledger may grow
abbrev pub may_take_memory : ReportLine → Bool
may_take_memory (Opened a) = true
may_take_memory (Accepted a token) = true
may_take_memory (Returned a token) = true
may_take_memory (Received l) = true
may_take_memory l = false
