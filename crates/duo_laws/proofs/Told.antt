-- What the events of a port say of the sends that came back.
use Rattle.std.proofs.Common.{◌≡◌, ◌<◌, ℕ, List, [], ◌∷◌, Some}
use Rattle.std.specs.Prelude.{slice_get}
use Rattle.gm_defs.specs.Token.{PortEvent, Sent as SentEvent, Received as ReceivedEvent}
use Rattle.gm_defs.specs.declared.message.Message.{Message}
use Rattle.duo_defs.specs.Duo.{Returned, plain_message}

-- The first of the sends that came back is of a token, with its message's bytes; its message stands in a list by the
-- peer's incarnation that it is counted to. The others are reported by further events.
pub record IsTold (messages : ℕ → List Message) (sent_token : ℕ) (buffer : List ℕ) (further : List Returned → Type 0)
    (rs : List Returned) : Type 0 where
  pub note : Returned
  pub rest : List Returned
  pub first : rs ≡ note ∷ rest
  pub token : note.token ≡ sent_token
  pub counted : 0 < note.known
  pub message : slice_get (messages note.known) note.place ≡ Some (plain_message buffer)
  pub others : further rest

-- the sends that came back are reported by the sent events of a port, one by one
abbrev pub AreTold : (ℕ → List Message) → List Returned → List PortEvent → Type 0
AreTold messages rs [] = rs ≡ []
AreTold messages rs (SentEvent t b ∷ es) = IsTold messages t b (λ l. AreTold messages l es) rs
AreTold messages rs (ReceivedEvent t b from sport prio len ∷ es) = AreTold messages rs es
