-- What the calls of a port say together.
use Rattle.std.specs.Prelude.{◌≡◌, ℕ, ◌+◌, ◌<◌, ◌≤◌, true, List, [], ◌∷◌, ◌++◌, length, take, drop, None}
use Rattle.std.specs.List.{AllByRecursion}
use Rattle.gm_defs.specs.declared.frame.FrameHead.{FrameHead}
use Rattle.gm_defs.specs.Body.{is_head}
use Rattle.gm_defs.specs.Token.{room, Provided, Sent, PortState, HasOneOwner, AreFilling, opened, place_of_send}
use Rattle.gm_defs.specs.Token.{place_of_recv}
use Rattle.gm_defs.specs.Port.{sent_with, provided_with, finished, filled, delivered, polled}

-- each call keeps one owner for each token
abbrev pub OpeningHasOneOwner : Type 0
OpeningHasOneOwner = (sends recvs : ℕ) → HasOneOwner (opened sends recvs)

-- a send keeps one owner
abbrev pub SendingKeepsOneOwner : Type 0
SendingKeepsOneOwner =
    (p : PortState) (t : ℕ) (b : List ℕ) → HasOneOwner p → t < p.sends → place_of_send p t ≡ None
    → HasOneOwner (sent_with p t b)

-- a provided buffer keeps one owner
abbrev pub ProvidingKeepsOneOwner : Type 0
ProvidingKeepsOneOwner =
    (p : PortState) (r : Provided) → HasOneOwner p → r.token < p.recvs → place_of_recv p r.token ≡ None
    → HasOneOwner (provided_with p r)

-- a finished send keeps one owner
abbrev pub FinishingKeepsOneOwner : Type 0
FinishingKeepsOneOwner = (p : PortState) (t : ℕ) → HasOneOwner p → HasOneOwner (finished p t)

-- a message that is delivered keeps one owner
abbrev pub DeliveringKeepsOneOwner : Type 0
DeliveringKeepsOneOwner =
    (p : PortState) (h : FrameHead) (part : List ℕ) → HasOneOwner p → HasOneOwner (delivered p h part)

-- an event that is handed out keeps one owner
abbrev pub PollingKeepsOneOwner : Type 0
PollingKeepsOneOwner = (p : PortState) → HasOneOwner p → HasOneOwner (polled p)

-- a send that is taken in and finished leaves its token with its buffer, unchanged, in an event, and nothing else
abbrev pub BufferComesBack : Type 0
BufferComesBack =
    (p : PortState) (t : ℕ) (b : List ℕ) → place_of_send p t ≡ None
    → finished (sent_with p t b) t ≡ record p { events = p.events ++ Sent t b ∷ [] }

-- A buffer that took bytes from a place on: it is as long as before, has these bytes there, and its other bytes are as
-- before.
pub record TookBytes (buffer : List ℕ) (offset : ℕ) (part after : List ℕ) : Type 0 where
  pub same_length : length after ≡ length buffer
  pub in_place : take (length part) (drop offset after) ≡ part
  pub in_front : take offset after ≡ take offset buffer
  pub others : drop (offset + length part) after ≡ drop (offset + length part) buffer

-- a fragment stands at its place of the buffer
abbrev pub FragmentStandsInPlace : Type 0
FragmentStandsInPlace =
    (buffer part : List ℕ) (offset : ℕ) → offset + length part ≤ length buffer
    → TookBytes buffer offset part (filled buffer offset part)

-- opening a port, and each call, keep what tokens are filling with right
abbrev pub OpeningFillsRight : Type 0
OpeningFillsRight = (sends recvs : ℕ) → AreFilling (opened sends recvs)

-- a token that was just provided isn't filling
abbrev pub ProvidingFillsRight : Type 0
ProvidingFillsRight = (p : PortState) (r : Provided) → AreFilling p → r.filling ≡ None → AreFilling (provided_with p r)

-- a fragment by the rules
abbrev pub DeliveringFillsRight : Type 0
DeliveringFillsRight =
    (p : PortState) (h : FrameHead) (part : List ℕ) → AreFilling p
    → AllByRecursion (λ r. room r.size ≤ length r.buffer) p.provided → is_head h ≡ true → length part ≡ h.len
    → AreFilling (delivered p h part)
