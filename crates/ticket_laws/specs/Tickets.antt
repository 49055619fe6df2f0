-- When the sends in queues, the tickets on lanes and the messages that aren't finished are matched.
use Rattle.std.specs.Prelude.{◌≡◌, ℕ, List, [], ◌∷◌, slice_get, Option, Some}
use Rattle.gm_defs.specs.declared.message.Message.{Message}
use Rattle.gm_defs.specs.Token.{Sending}
use Rattle.world_defs.specs.Lane.{Ticket}

-- A ticket is of a message: its port sent the message, and under its token stands a send whose buffer holds the
-- message's bytes, as a relation of buffers and bytes says.
pub record IsTicketOf (holds : List ℕ → List ℕ → Type 0) (send : Ticket → Option Sending) (t : Ticket)
    (m : Message) : Type 0 where
  pub port : t.port ≡ m.sport
  pub buffer : List ℕ
  pub there : send t ≡ Some (record { token = t.token; buffer = buffer })
  pub bytes : holds buffer m.body

-- tickets are of messages: as many, and in the same order
abbrev pub AreTicketsOf : (List ℕ → List ℕ → Type 0) → (Ticket → Option Sending) → List Ticket → List Message → Type 0
AreTicketsOf holds send [] [] = Unit {0}
AreTicketsOf holds send (t ∷ ts) (m ∷ ms) = IsTicketOf holds send t m × AreTicketsOf holds send ts ms
AreTicketsOf holds send _ _ = ⊥

-- A ticket stands on one lane, at one place, and nowhere else.
pub record HasOneTicket (tickets : ℕ → List Ticket) (t : Ticket) : Type 0 where
  pub lane : ℕ
  pub place : ℕ
  pub there : slice_get (tickets lane) place ≡ Some t
  pub only : (other there_too : ℕ) → slice_get (tickets other) there_too ≡ Some t → (other ≡ lane) × (there_too ≡ place)

-- Sends, tickets and messages are matched: the tickets on each lane are of its messages, and each send has one
-- ticket.
pub record AreMatched (holds : List ℕ → List ℕ → Type 0) (send : Ticket → Option Sending) (tickets : ℕ → List Ticket)
    (messages : ℕ → List Message) : Type 0 where
  pub of_messages : (lane : ℕ) → AreTicketsOf holds send (tickets lane) (messages lane)
  pub one_each : (t : Ticket) (s : Sending) → send t ≡ Some s → HasOneTicket tickets t
