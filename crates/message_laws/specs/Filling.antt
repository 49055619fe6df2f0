-- What ties the bytes that are coming on a connection to the token that is filling with them, after every list of acts.
use Rattle.std.specs.Prelude.{◌≡◌, ◌≢◌, ℕ, ◌<◌, List, [], ◌∷◌, length, take, slice_get, Option, Some, None}
use Rattle.std.specs.List.{filter}
use Rattle.net_defs.specs.Network.{Network}
use Rattle.gm_defs.specs.declared.message.Message.{Message}
use Rattle.gm_defs.specs.declared.frame.ConnectionKey.{ConnectionKey}
use Rattle.gm_defs.specs.Body.{prio_limit}
use Rattle.gm_defs.specs.declared.token.Filling.{Filling}
use Rattle.gm_defs.specs.Token.{Provided, PortState, is_filling_for}
use Rattle.world_defs.specs.Node.{port_at}
use Rattle.world_defs.specs.World.{WorldState, node_at}
use Rattle.world_defs.specs.Traffic.{sent_on, got_on, coming_on}
use Rattle.world_defs.specs.Acts.{IsReached}

-- the provided tokens of a port, where it is open
abbrev pub provided_in : Option PortState → List Provided
provided_in None = []
provided_in (Some p) = p.provided

-- those that are filling for a host and a priority
abbrev pub filling_in : Option PortState → ℕ → ℕ → List Provided
filling_in o src prio = filter (is_filling_for src prio) (provided_in o)

-- A token is filling with these first bytes of a message.
pub record IsFillingWith (m : Message) (part : List ℕ) (r : Provided) : Type 0 where
  pub state : Filling
  pub filling : r.filling ≡ Some state
  pub total : state.total ≡ length m.body
  pub held : state.held ≡ length part
  pub bytes : take (length part) r.buffer ≡ part

-- The ports of a host, the next message of a host and a priority, and what came of it: nothing, and no token is filling
-- for them; or some bytes, and one token is filling with them, at the message's port.
pub data IsTied (ports : ℕ → Option PortState) (src prio : ℕ) (next : Option Message) (part : List ℕ) : Type 0 where
  nothing : part ≡ [] → ((port : ℕ) → filling_in (ports port) src prio ≡ []) → IsTied ports src prio next part
  begun : (m : Message) (r : Provided) → next ≡ Some m → 0 < length part
      → filling_in (ports m.dport) src prio ≡ r ∷ [] → IsFillingWith m part r
      → ((port : ℕ) → port ≢ m.dport → filling_in (ports port) src prio ≡ []) → IsTied ports src prio next part

-- on each connection of a priority that is what came of its next message
abbrev pub HasTiedParts : WorldState → Type 0
HasTiedParts w = (c : ConnectionKey) → c.prio < prio_limit
    → IsTied (port_at (node_at w c.dst)) c.src c.prio (slice_get (sent_on w c) (length (got_on w c))) (coming_on w c)

-- so it is in every world that is reached
abbrev pub ComingIsTied : Type 0
ComingIsTied = (n : Network) (w : WorldState) → IsReached n w → HasTiedParts w
