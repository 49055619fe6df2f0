-- When a settle delivers all that was sent.
use Rattle.std.specs.Prelude.{◌≡◌, ℕ, ◌<◌, ◌≤◌, Bool, false, ◌&&◌, List, ◌++◌, drop, length, map, nat_eq, IsSome}
use Rattle.std.specs.List.{filter}
use Rattle.world_defs.specs.History.{fabric_at}
use Rattle.gm_defs.specs.declared.message.Message.{Message}
use Rattle.gm_defs.specs.declared.frame.ConnectionKey.{ConnectionKey}
use Rattle.gm_defs.specs.Body.{prio_limit}
use Rattle.gm_defs.specs.Connection.{connection}
use Rattle.gm_defs.specs.Token.{Provided, fits}
use Rattle.world_defs.specs.Table.{table_route}
use Rattle.world_defs.specs.Node.{port_at}
use Rattle.world_defs.specs.World.{WorldState, host_count, last_count, new_world, node_at, addresses, sum_of}
use Rattle.world_defs.specs.Traffic.{is_broken, sender_on, sent_on, got_on}
use Rattle.world_defs.specs.Settle.{unacknowledged_in}
use Rattle.world_defs.specs.Logs.{settle}
use Rattle.message_laws.specs.Filling.{provided_in}
use Rattle.message_laws.specs.Got.{IsAllGot}
use Rattle.world_defs.specs.Acts.{IsReached}
use Rattle.settle_laws.specs.Premises.{CanSettle}
use Rattle.client_laws.specs.Handed.{handed_in, waiting_in, is_on, is_to, as_handed, accepted_in}

-- the messages that were sent on a connection and aren't got
abbrev pub missing_on : WorldState → ConnectionKey → List Message
missing_on w c = drop (length (got_on w c)) (sent_on w c)

-- a token of this size and priority fits a message for a port
abbrev pub is_wanted : ℕ → ℕ → ℕ → Message → Bool
is_wanted port size prio m = nat_eq m.dport port && fits size prio (length m.body) m.prio

-- how many messages from a host, for a port, aren't got that such a token fits
abbrev pub wanted_from : WorldState → ℕ → ℕ → ℕ → ℕ → ℕ → ℕ
wanted_from w h port size prio src = length (filter (is_wanted port size prio) (missing_on w (connection src h prio)))

-- how many from all hosts
abbrev pub wanted_at : WorldState → ℕ → ℕ → ℕ → ℕ → ℕ
wanted_at w h port size prio = sum_of (map (wanted_from w h port size prio) (addresses w))

-- a token is of this size and priority
abbrev pub is_of : ℕ → ℕ → Provided → Bool
is_of size prio r = nat_eq r.size size && nat_eq r.prio prio

-- how many such tokens a port has, filling ones too; none where it isn't open
abbrev pub provided_at : WorldState → ℕ → ℕ → ℕ → ℕ → ℕ
provided_at w h port size prio = length (filter (is_of size prio) (provided_in (port_at (node_at w h) port)))

-- A world has enough for what isn't got. Where something isn't acknowledged its sender and its receiver have active
-- tables with a route to each other, and at each port of each host there are as many provided tokens of each size and
-- priority as there are messages for that port which such a token fits and which aren't got. So each such message's
-- port is open. A filling token counts: its message isn't got.
pub record HasEnough (w : WorldState) : Type 0 where
  pub tables : (c : ConnectionKey) → (sender_on w c).base < (sender_on w c).next
      → IsSome (table_route (node_at w c.src).table c.dst) × IsSome (table_route (node_at w c.dst).table c.src)
  pub tokens : (h port size prio : ℕ) → h < host_count w → wanted_at w h port size prio ≤ provided_at w h port size prio

-- Where something isn't acknowledged in a world, the routes of its hosts to each other aren't broken in a later one.
pub record HasPaths (w z : WorldState) : Type 0 where
  pub routes : (c : ConnectionKey) → (sender_on w c).base < (sender_on w c).next
      → (is_broken z c.src c.dst ≡ false) × (is_broken z c.dst c.src ≡ false)

-- Then a settle gets all that was sent, and all is acknowledged after it, whatever faults are planned, where they break
-- none of these routes and the count of injections hasn't reached its last value then.
abbrev pub SettleDelivers : Type 0
SettleDelivers =
    (w : WorldState) → CanSettle w → (settle w).world.injected < last_count → HasEnough w → HasPaths w (settle w).world
    → (unacknowledged_in (settle w).world ≡ 0) × IsAllGot (settle w).world

-- And after it what polls handed to the client of a port, and what waits there, are all messages that sends to this
-- port were accepted with.
abbrev pub SettledIsSeen : Type 0
SettledIsSeen =
    (w : WorldState) → CanSettle w → (settle w).world.injected < last_count → HasEnough w → HasPaths w (settle w).world
    → (is : IsReached (fabric_at w.links.cables 0) (settle w).world) (c : ConnectionKey) (port : ℕ)
    → c.prio < prio_limit
    → filter (is_on c.src c.prio)
    (handed_in c.dst port (new_world (fabric_at w.links.cables 0)) is.acts
    ++ waiting_in (port_at (node_at (settle w).world c.dst) port))
    ≡ map (as_handed c.src) (filter (is_to port) (accepted_in c (new_world (fabric_at w.links.cables 0)) is.acts))
