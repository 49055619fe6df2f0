-- Sizes of buffers, and where the tokens of a port are.
use Rattle.std.specs.Prelude.{◌≡◌, ℕ, ◌-◌, ◌<◌, ◌≤◌, ◌^◌, Bool, true, false, ◌&&◌, not, List, [], ◌∷◌, ◌++◌, map, find}
use Rattle.std.specs.Prelude.{length, nat_eq, nat_le, is_some, is_none, if◌then◌else◌, Option, Some, None, IfSome}
use Rattle.std.specs.List.{list_any, filter, AllByRecursion}
use Rattle.net_defs.specs.Network.{Apart}
use Rattle.gm_defs.specs.declared.frame.FrameHead.{FrameHead}
use Rattle.gm_defs.specs.declared.token.Filling.{Filling}
use Rattle.gm_defs.specs.declared.token.TokenPlace.{TokenPlace}
use Rattle.gm_defs.specs.declared.token.TokenPlace.TheVariants.{Queue, Provided as WithBuffer, Event}

-- a buffer of this size has room for so many bytes of a message
abbrev pub room : ℕ → ℕ
room size = 2 ^ size - 8

-- the sizes of buffers
abbrev pub sizes : List ℕ
sizes = 4 ∷ 5 ∷ 6 ∷ 7 ∷ 8 ∷ 9 ∷ 10 ∷ 11 ∷ 12 ∷ 13 ∷ 14 ∷ 15 ∷ 16 ∷ []

-- the least size that has room for a message of this length
abbrev pub size_for_length : ℕ → Option ℕ
size_for_length len = find (λ size. nat_le len (room size)) sizes

-- this size is that one
abbrev pub is_size : ℕ → Option ℕ → Bool
is_size size None = false
is_size size (Some least) = nat_eq size least

-- a token of this size and priority fits a message: of the least size that has room, and of its priority
abbrev pub fits : ℕ → ℕ → ℕ → ℕ → Bool
fits size prio len message_prio = is_size size (size_for_length len) && nat_eq prio message_prio

-- A send that isn't finished has its token and its buffer.
pub record Sending : Type 0 where
  pub token : ℕ
  pub buffer : List ℕ

-- A provided token has its buffer. It is filling where its buffer holds a part of a message.
pub record Provided : Type 0 where
  pub token : ℕ
  pub size : ℕ
  pub prio : ℕ
  pub filling : Option Filling
  pub buffer : List ℕ

-- An event of a port's queue: a message was acknowledged, or one was received.
pub data PortEvent : Type 0 where
  Sent : (token : ℕ) → (buffer : List ℕ) → PortEvent
  Received : (token : ℕ) → (buffer : List ℕ) → (from sport prio len : ℕ) → PortEvent

-- An open port has so many tokens of each kind, the sends that aren't finished, the provided tokens, first provided
-- first, and the events, first put in first.
pub record PortState : Type 0 where
  pub sends : ℕ
  pub recvs : ℕ
  pub queue : List Sending
  pub provided : List Provided
  pub events : List PortEvent

-- a port as it is opened: the client has all its tokens
abbrev pub opened : ℕ → ℕ → PortState
opened sends recvs = record { sends = sends; recvs = recvs; queue = []; provided = []; events = [] }

-- the send tokens and the receive tokens of events
abbrev pub sent_tokens : List PortEvent → List ℕ
sent_tokens [] = []
sent_tokens (Sent t b ∷ es) = t ∷ sent_tokens es
sent_tokens (Received t b from sport prio len ∷ es) = sent_tokens es

-- the receive tokens of events
abbrev pub received_tokens : List PortEvent → List ℕ
received_tokens [] = []
received_tokens (Sent t b ∷ es) = received_tokens es
received_tokens (Received t b from sport prio len ∷ es) = t ∷ received_tokens es

-- the send tokens, and the receive tokens, that the client hasn't
abbrev pub sends_out : PortState → List ℕ
sends_out p = map (λ s. s.token) p.queue ++ sent_tokens p.events

-- the receive tokens that the client hasn't
abbrev pub recvs_out : PortState → List ℕ
recvs_out p = map (λ r. r.token) p.provided ++ received_tokens p.events

-- One owner: each number that the client hasn't is one of the port's and stands in one place, once, and there with
-- one buffer.
pub record HasOneOwner (p : PortState) : Type 0 where
  pub sends_once : Apart (sends_out p)
  pub recvs_once : Apart (recvs_out p)
  pub sends_below : AllByRecursion (λ t. t < p.sends) (sends_out p)
  pub recvs_below : AllByRecursion (λ t. t < p.recvs) (recvs_out p)

-- a number is among these
abbrev pub has_number : List ℕ → ℕ → Bool
has_number ts t = list_any (nat_eq t) ts

-- the place of a send token: none where the client has it
abbrev pub place_of_send : PortState → ℕ → Option TokenPlace
place_of_send p t =
    if has_number (map (λ s. s.token) p.queue) t then Some Queue
    else if has_number (sent_tokens p.events) t then Some Event else None

-- the place of a receive token
abbrev pub place_of_recv : PortState → ℕ → Option TokenPlace
place_of_recv p t =
    if has_number (map (λ r. r.token) p.provided) t then Some WithBuffer
    else if has_number (received_tokens p.events) t then Some Event
    else None

-- What holds of a token that is filling: it fits the message, holds some of it and not all, and has room for all.
pub record IsFilling (r : Provided) (f : Filling) : Type 0 where
  pub right_size : fits r.size r.prio f.total r.prio ≡ true
  pub begun : 0 < f.held
  pub not_whole : f.held < f.total
  pub roomy : f.total ≤ length r.buffer

-- where a token is filling, that holds
abbrev pub IsFillingRight : Provided → Type 0
IsFillingRight r = IfSome r.filling (IsFilling r)

-- a message is from a host
abbrev pub is_from : ℕ → Option Filling → Bool
is_from src None = false
is_from src (Some f) = nat_eq f.src src

-- a token is filling for a host and a priority: with a message that this host sends with this priority
abbrev pub is_filling_for : ℕ → ℕ → Provided → Bool
is_filling_for src prio r = is_from src r.filling && nat_eq r.prio prio

-- some token of a port is filling for them
abbrev pub has_begun : PortState → ℕ → ℕ → Bool
has_begun p src prio = list_any (is_filling_for src prio) p.provided

-- The filling tokens of a port are right: each is filling right, and no two with messages of the same host and
-- priority.
pub record AreFilling (p : PortState) : Type 0 where
  pub right : AllByRecursion IsFillingRight p.provided
  pub once : (src prio : ℕ) → length (filter (is_filling_for src prio) p.provided) ≤ 1

-- a token isn't filling, and fits a message of this length and priority
abbrev pub is_free_for : ℕ → ℕ → Provided → Bool
is_free_for len prio r = is_none r.filling && fits r.size r.prio len prio

-- of the provided tokens that aren't filling and fit a message, the first provided
abbrev pub fitting : PortState → ℕ → ℕ → Option Provided
fitting p len prio = find (is_free_for len prio) p.provided

-- a buffer holds exactly what comes before a fragment, of the fragment's message
abbrev pub holds_before : FrameHead → Option Filling → Bool
holds_before h None = false
holds_before h (Some f) = nat_eq f.src h.src && nat_eq f.total h.total && nat_eq f.held h.offset

-- A provided token takes a message's first fragment where no token has begun a message of that host and priority, and
-- this one is free for it; it takes a later fragment where it holds exactly what comes before that.
abbrev pub takes : FrameHead → Bool → Provided → Bool
takes h begun r =
    if nat_eq h.offset 0 then not begun && is_free_for h.total h.prio r
    else holds_before h r.filling && nat_eq r.prio h.prio

-- the same by the port
abbrev pub takes_at : PortState → FrameHead → Provided → Bool
takes_at p h = takes h (has_begun p h.src h.prio)

-- the token that takes a fragment: of several the one provided first
abbrev pub taker : PortState → FrameHead → Option Provided
taker p h = find (takes_at p h) p.provided

-- some provided token takes a fragment
abbrev pub can_take : PortState → FrameHead → Bool
can_take p h = is_some (taker p h)
