-- Each token of a port with its client has one owner, before and after each of these moves.
use Rattle.std.specs.Prelude.{◌≡◌, ℕ, List, [], ◌∷◌, ◌++◌, Some}
use Rattle.gm_defs.specs.declared.frame.FrameHead.{FrameHead}
use Rattle.gm_defs.specs.Token.{Provided, Sent, Received, PortState, opened}
use Rattle.gm_defs.specs.Port.{sent_with, provided_with, finished, delivered, next_event, polled}
use Rattle.world_defs.specs.Client.{ClientState, new_client}
use Rattle.world_defs.specs.Sound.{HasOwners}

-- so it is where a port opens
abbrev pub OpeningOwns : Type 0
OpeningOwns = (sends recvs : ℕ) → HasOwners (opened sends recvs) (new_client sends recvs)

-- the client sends a message with the token that it held longest
abbrev pub SendingKeeps : Type 0
SendingKeeps =
    (p : PortState) (c : ClientState) (t : ℕ) (buffer ts : List ℕ)
    → c.sends ≡ t ∷ ts → HasOwners p c → HasOwners (sent_with p t buffer) (record c { sends = ts })

-- the client provides a buffer with the token that it held longest
abbrev pub ProvidingKeeps : Type 0
ProvidingKeeps =
    (p : PortState) (c : ClientState) (r : Provided) (ts : List ℕ)
    → c.recvs ≡ r.token ∷ ts → HasOwners p c → HasOwners (provided_with p r) (record c { recvs = ts })

-- a send is finished
abbrev pub FinishingKeeps : Type 0
FinishingKeeps = (p : PortState) (c : ClientState) (token : ℕ) → HasOwners p c → HasOwners (finished p token) c

-- a fragment is taken
abbrev pub DeliveringKeeps : Type 0
DeliveringKeeps =
    (p : PortState) (c : ClientState) (h : FrameHead) (part : List ℕ) → HasOwners p c → HasOwners (delivered p h part) c

-- the client takes the event of a send
abbrev pub PollingSentKeeps : Type 0
PollingSentKeeps =
    (p : PortState) (c : ClientState) (t : ℕ) (buffer : List ℕ)
    → next_event p ≡ Some (Sent t buffer) → HasOwners p c
    → HasOwners (polled p) (record c { sends = c.sends ++ t ∷ [] })

-- the client takes the event of a received message
abbrev pub PollingReceivedKeeps : Type 0
PollingReceivedKeeps =
    (p : PortState) (c : ClientState) (t : ℕ) (buffer : List ℕ) (from sport prio len : ℕ)
    → next_event p ≡ Some (Received t buffer from sport prio len) → HasOwners p c
    → HasOwners (polled p) (record c { recvs = c.recvs ++ t ∷ [] })
