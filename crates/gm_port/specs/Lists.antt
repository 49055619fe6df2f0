-- What the lists of provided tokens and of events hold besides what contracts see.
use Rattle.std.specs.Prelude.{◌≡◌, ℕ, ◌≤◌, Bool, false, List, [], length, map, find, nat_eq, is_some, Option, Some}
use Rattle.std.specs.Prelude.{None}
use Rattle.std.specs.List.{AllByRecursion, list_any}
use Rattle.gm_tokens.specs.Token.{Token}
use Rattle.gm_defs.specs.declared.frame.FrameHead.{FrameHead}
use Rattle.gm_defs.specs.Token.{Provided, sent_tokens, received_tokens, is_filling_for, takes}
use Rattle.gm_defs.specs.Port.{with_first, filling_with}
use Rattle.gm_port.specs.declared.event.PortEvent.{PortEvent as Event}
use Rattle.gm_port.specs.declared.event.PortEvent.TheVariants.{Sent as SentEvent, Received as ReceivedEvent}
use Rattle.gm_port.specs.declared.event.ProvidedToken.{ProvidedToken}
use Rattle.gm_port.specs.Held.{provided_at, provided_of, event_at, event_of}
use Rattle.gm_port.specs.Tallies.{AreTallied}

-- each token is of this port
abbrev pub AreOwnTokens : ℕ → ℕ → List ProvidedToken → Type 0
AreOwnTokens host port rs = AllByRecursion (λ r. provided_at host port (provided_of r) ≡ r) rs

-- the events are of this port
abbrev pub AreOwnEvents : ℕ → ℕ → List Event → Type 0
AreOwnEvents host port es = AllByRecursion (λ e. event_at host port (event_of e) ≡ e) es

-- The events are of this port, there is no more room than for one of each token, and it is counted how many have each
-- send token, and how many each receive token.
pub record AreCountedEvents (host port : ℕ) (es : List Event) (room : ℕ) (sent received : List ℕ) : Type 0 where
  pub own : AreOwnEvents host port es
  pub few : room ≤ 131070
  pub sends : AreTallied sent (sent_tokens (map event_of es))
  pub receives : AreTallied received (received_tokens (map event_of es))

-- The provided tokens are of this port and no more than it has, and there is room for all of them and for the list in
-- which they are handed back.
pub record AreBuffers (host port limit : ℕ) (provided : List ProvidedToken) (room : ℕ)
    (listed : List (Token × List ℕ)) (list_room : ℕ) : Type 0 where
  pub own : AreOwnTokens host port provided
  pub few : length provided ≤ limit
  pub roomy : limit ≤ room
  pub none_listed : listed ≡ []
  pub list_roomy : limit ≤ list_room

-- no token is filling, unless that may be
abbrev pub IsFillingOnlyIf : Bool → List ProvidedToken → Type 0
IsFillingOnlyIf may_fill rs = may_fill ≡ false → AllByRecursion (λ r. is_some r.filling ≡ false) rs

-- a provided token of a list takes a fragment
abbrev pub taking : FrameHead → List Provided → Provided → Bool
taking h rs = takes h (list_any (is_filling_for h.src h.prio) rs)

-- the same of tokens as a port holds them
abbrev pub taking_here : FrameHead → List ProvidedToken → ProvidedToken → Bool
taking_here h rs r = takes h (list_any (λ x. is_filling_for h.src h.prio (provided_of x)) rs) (provided_of r)

-- provided tokens, of which the one that takes a fragment holds it too, in its place
abbrev pub filled_by : FrameHead → List ℕ → List Provided → Option Provided → List Provided
filled_by h part rs None = rs
filled_by h part rs (Some r) = with_first (taking h rs) (filling_with h part r) rs

-- the provided tokens once an earlier fragment of a message came
abbrev pub filled_in : FrameHead → List ℕ → List Provided → List Provided
filled_in h part rs = filled_by h part rs (find (taking h rs) rs)

-- an event has this send token, or this receive token
abbrev pub is_sent : ℕ → Event → Bool
is_sent number (SentEvent t b) = nat_eq number t.number
is_sent number (ReceivedEvent t b from sport prio len) = false

-- an event has this receive token
abbrev pub is_received : ℕ → Event → Bool
is_received number (SentEvent t b) = false
is_received number (ReceivedEvent t b from sport prio len) = nat_eq number t.number
