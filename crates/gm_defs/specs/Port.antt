-- What each call makes of an open port. Each is to be made only where its premise holds; where a send or a fitting
-- token is missing, the port stays as it is.
use Rattle.std.specs.Prelude.{ℕ, ◌+◌, Bool, ◌||◌, List, [], ◌∷◌, ◌++◌, length, take, drop, find, nat_eq, nat_lt}
use Rattle.std.specs.Prelude.{slice_get, is_some, if◌then◌else◌, Option, Some, None}
use Rattle.std.specs.List.{filter}
use Rattle.gm_defs.specs.declared.frame.FrameHead.{FrameHead}
use Rattle.gm_defs.specs.Body.{message_limit, is_last}
use Rattle.gm_defs.specs.Token.{Sending, Provided, PortEvent, Sent, Received, PortState, takes_at, taker}

-- the first that passes a test is taken out
abbrev pub without_first : {A : Type 0} → (A → Bool) → List A → List A
without_first test [] = []
without_first test (x ∷ xs) = if test x then xs else x ∷ without_first test xs

-- the first that passes a test is replaced
abbrev pub with_first : {A : Type 0} → (A → Bool) → A → List A → List A
with_first test y [] = []
with_first test y (x ∷ xs) = if test x then y ∷ xs else x ∷ with_first test y xs

-- a send joins others, which stand by the rising numbers of their tokens
abbrev pub with_send : Sending → List Sending → List Sending
with_send s [] = s ∷ []
with_send s (x ∷ xs) = if nat_lt s.token x.token then s ∷ x ∷ xs else x ∷ with_send s xs

-- a message of this length is longer than one may be
abbrev pub is_too_long : ℕ → Bool
is_too_long len = nat_lt message_limit len

-- no buffer is provided with this size and this priority
abbrev pub is_bad_size : ℕ → ℕ → Bool
is_bad_size size prio = nat_lt size 4 || nat_lt 16 size || nat_lt 1 prio

-- a buffer has fewer bytes than are wanted
abbrev pub is_short : List ℕ → ℕ → Bool
is_short buffer wanted = nat_lt (length buffer) wanted

-- a send was accepted: the port has the token with its buffer until all of the message is acknowledged
abbrev pub sent_with : PortState → ℕ → List ℕ → PortState
sent_with p token buffer = record p { queue = with_send (record { token = token; buffer = buffer }) p.queue }

-- a token was provided with its buffer, after the others
abbrev pub provided_with : PortState → Provided → PortState
provided_with p r = record p { provided = p.provided ++ r ∷ [] }

-- the send of a token
abbrev pub send_of : PortState → ℕ → Option Sending
send_of p token = find (λ s. nat_eq s.token token) p.queue

-- that send's message was acknowledged: its token and its buffer are in an event
abbrev pub ended_by : PortState → ℕ → Option Sending → PortState
ended_by p token None = p
ended_by p token (Some s) = record p {
  queue = without_first (λ x. nat_eq x.token token) p.queue;
  events = p.events ++ Sent token s.buffer ∷ [];
}

-- the send of this token is finished
abbrev pub finished : PortState → ℕ → PortState
finished p token = ended_by p token (send_of p token)

-- a buffer has these bytes from an offset on, and its other bytes are as before
abbrev pub filled : List ℕ → ℕ → List ℕ → List ℕ
filled buffer offset part = take offset buffer ++ part ++ drop (offset + length part) buffer

-- the last fragment of a message came: token and buffer are in an event
abbrev pub ended_with : PortState → FrameHead → List ℕ → Provided → PortState
ended_with p h part r = record p {
  provided = without_first (takes_at p h) p.provided;
  events = p.events ++ Received r.token (filled r.buffer h.offset part) h.src h.sport h.prio h.total ∷ [];
}

-- a token that holds a message up to the end of a fragment
abbrev pub filling_with : FrameHead → List ℕ → Provided → Provided
filling_with h part r = record r {
  filling = Some (record { src = h.src; total = h.total; held = h.offset + length part });
  buffer = filled r.buffer h.offset part;
}

-- an earlier fragment came: the token is filling, in its place
abbrev pub going_on_with : PortState → FrameHead → List ℕ → Provided → PortState
going_on_with p h part r = record p { provided = with_first (takes_at p h) (filling_with h part r) p.provided }

-- a fragment was taken by a token
abbrev pub taken_by : PortState → FrameHead → List ℕ → Option Provided → PortState
taken_by p h part None = p
taken_by p h part (Some r) = if is_last h.total h.offset then ended_with p h part r else going_on_with p h part r

-- a fragment was taken by the token that takes it
abbrev pub delivered : PortState → FrameHead → List ℕ → PortState
delivered p h part = taken_by p h part (taker p h)

-- the event that was put in first
abbrev pub next_event : PortState → Option PortEvent
next_event p = slice_get p.events 0

-- it was handed out
abbrev pub polled : PortState → PortState
polled p = record p { events = drop 1 p.events }

-- how many sends aren't finished, how many events wait, and how many tokens are filling: a port is closed only where
-- all are 0
abbrev pub unfinished : PortState → ℕ
unfinished p = length p.queue

-- how many events wait
abbrev pub unread : PortState → ℕ
unread p = length p.events

-- how many tokens are filling
abbrev pub filling_count : PortState → ℕ
filling_count p = length (filter (λ r. is_some r.filling) p.provided)
