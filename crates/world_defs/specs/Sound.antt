-- Soundness of a world, which holds at every moment of a run.
use Rattle.std.specs.Prelude.{◌≡◌, ℕ, ◌<◌, List, [], ◌∷◌, ◌++◌, map, length, Option, Some, None}
use Rattle.std.specs.List.{AllByRecursion}
use Rattle.net_defs.specs.Network.{Apart}
use Rattle.world_defs.specs.Mapping.{RouteEntry}
use Rattle.gm_defs.specs.declared.frame.ConnectionKey.{ConnectionKey}
use Rattle.gm_defs.specs.Token.{PortState, sends_out, recvs_out}
use Rattle.net_defs.specs.Dependencies.{IsBefore, HasNoCycle}
use Rattle.world_defs.specs.Table.{ActiveTable}
use Rattle.world_defs.specs.Node.{port_at}
use Rattle.world_defs.specs.Client.{ClientState}
use Rattle.world_defs.specs.World.{WorldState, node_at, client_at, addresses}
use Rattle.world_defs.specs.Traffic.{route_channels, sent_on, got_on}

-- the routes of an active table; none without one
abbrev pub entries_in : Option ActiveTable → List RouteEntry
entries_in None = []
entries_in (Some t) = t.entries

-- the channels of each route of a host's active table, as the fabric stood at the adoption
abbrev pub channels_from : WorldState → ℕ → List (List ℕ)
channels_from w h = map (λ e. route_channels w h e.walk) (entries_in (node_at w h).table.active)

-- the channels of each installed route of these hosts
abbrev pub channels_from_all : WorldState → List ℕ → List (List ℕ)
channels_from_all w [] = []
channels_from_all w (h ∷ hs) = channels_from w h ++ channels_from_all w hs

-- the channels of all installed routes
abbrev pub installed_channels : WorldState → List (List ℕ)
installed_channels w = channels_from_all w (addresses w)

-- a list is a prefix of another
pub record IsPrefix {A : Type 0} (front whole : List A) : Type 0 where
  pub rest : List A
  pub both : whole ≡ front ++ rest

-- tokens of one kind, those of the client and those of the port: each number below the count stands there once
pub record IsEachOnce (count : ℕ) (tokens : List ℕ) : Type 0 where
  pub once : Apart tokens
  pub below : AllByRecursion (λ t. t < count) tokens
  pub all : length tokens ≡ count

-- Each token of an open port stands in one place: with the client, with a send, with a buffer that was provided, or
-- in an event.
pub record HasOwners (p : PortState) (c : ClientState) : Type 0 where
  pub sends : IsEachOnce p.sends (c.sends ++ sends_out p)
  pub recvs : IsEachOnce p.recvs (c.recvs ++ recvs_out p)

-- a port is open where its client is, and then its tokens have one owner each
abbrev pub AreOwned : Option PortState → Option ClientState → Type 0
AreOwned (Some p) (Some c) = HasOwners p c
AreOwned None None = Unit {0}
AreOwned _ _ = ⊥

-- A world is sound: the installed routes have no cycle, what was got on each connection is a prefix of what was sent,
-- and each token has one owner.
pub record IsSound (w : WorldState) : Type 0 where
  pub no_cycle : HasNoCycle (IsBefore (installed_channels w))
  pub in_order : (c : ConnectionKey) → IsPrefix (got_on w c) (sent_on w c)
  pub one_owner : (h port : ℕ) → AreOwned (port_at (node_at w h) port) (client_at w h port)
