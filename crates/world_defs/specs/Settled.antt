-- When a world is settled: nothing more comes by sending again.
use Rattle.std.specs.Prelude.{◌≡◌, ℕ, ◌<◌, ◌≤◌, true, false, length, slice_get, Some, None}
use Rattle.gm_defs.specs.declared.message.Message.{Message}
use Rattle.gm_defs.specs.declared.frame.ConnectionKey.{ConnectionKey}
use Rattle.gm_defs.specs.Fragment.{whole_below}
use Rattle.world_defs.specs.Table.{table_route}
use Rattle.world_defs.specs.Node.{port_at}
use Rattle.world_defs.specs.Hearing.{port_fits, port_has_begun}
use Rattle.world_defs.specs.World.{WorldState, host_count, node_at}
use Rattle.world_defs.specs.Traffic.{is_broken, sender_on, sent_on, got_on}

-- The message that holds the first fragment that isn't acknowledged waits: it wasn't taken whole, no token is filling
-- with it, and no provided token of an open port, filling ones left aside, fits it.
pub record IsWaiting (w : WorldState) (c : ConnectionKey) : Type 0 where
  pub place : ℕ
  pub message : Message
  pub first : place ≡ whole_below (sent_on w c) (sender_on w c).base
  pub there : slice_get (sent_on w c) place ≡ Some message
  pub not_taken : length (got_on w c) ≤ place
  pub not_begun : port_has_begun (port_at (node_at w c.dst) message.dport) c.src message.prio ≡ false
  pub no_token : port_fits (port_at (node_at w c.dst) message.dport) (length message.body) message.prio ≡ false

-- a connection is settled where all is acknowledged, where the sender or the receiver has no active table with a route
-- to the other, where the route of one to the other crosses a cable pulled since the adoption, or where a message waits
-- for a token
pub data IsSettledConnection (w : WorldState) (c : ConnectionKey) : Type 0 where
  all_acknowledged : (sender_on w c).base ≡ (sender_on w c).next → IsSettledConnection w c
  no_route : table_route (node_at w c.src).table c.dst ≡ None → IsSettledConnection w c
  no_route_back : table_route (node_at w c.dst).table c.src ≡ None → IsSettledConnection w c
  cut : is_broken w c.src c.dst ≡ true → IsSettledConnection w c
  cut_back : is_broken w c.dst c.src ≡ true → IsSettledConnection w c
  waiting : IsWaiting w c → IsSettledConnection w c

-- A world is settled where each connection of each two hosts is, of either priority.
pub record IsSettled (w : WorldState) : Type 0 where
  pub connections : (c : ConnectionKey) → c.src < host_count w → c.dst < host_count w → IsSettledConnection w c
