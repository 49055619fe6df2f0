-- What clients saw is what the lists of a connection say, after every list of acts.
use Rattle.std.specs.Prelude.{◌≡◌, ℕ, ◌<◌, List, ◌++◌, map, length}
use Rattle.std.specs.List.{AllByRecursion, filter}
use Rattle.net_defs.specs.Network.{Network}
use Rattle.gm_defs.specs.declared.frame.ConnectionKey.{ConnectionKey}
use Rattle.gm_defs.specs.Body.{prio_limit}
use Rattle.world_defs.specs.Node.{port_at}
use Rattle.world_defs.specs.World.{WorldState, new_world, node_at}
use Rattle.world_defs.specs.Sound.{IsPrefix}
use Rattle.world_defs.specs.Traffic.{sent_on, got_on}
use Rattle.world_defs.specs.Acts.{Act, IsReached}
use Rattle.client_laws.specs.Handed.{handed_in, waiting_in, IsOfConnection, is_on, is_to, as_handed, accepted_in}

-- The messages that polls handed to the client of a port, followed by those that wait at the port, are, of those from
-- one host and of one priority, what was got on that connection for this port, in order.
abbrev pub PolledThenWaitingIsGot : Type 0
PolledThenWaitingIsGot =
    (n : Network) (w : WorldState) (is : IsReached n w) (c : ConnectionKey) (port : ℕ) → c.prio < prio_limit
    → filter (is_on c.src c.prio)
    (handed_in c.dst port (new_world n) is.acts ++ waiting_in (port_at (node_at w c.dst) port))
    ≡ map (as_handed c.src) (filter (is_to port) (got_on w c))

-- and there are no others: each of them is from a host, and of a priority of a connection
abbrev pub SeenIsOfConnections : Type 0
SeenIsOfConnections =
    (n : Network) (w : WorldState) (is : IsReached n w) (h port : ℕ)
    → AllByRecursion (IsOfConnection (length n.hosts))
    (handed_in h port (new_world n) is.acts ++ waiting_in (port_at (node_at w h) port))

-- the messages that sends were accepted with are what was sent on their connection, in order
abbrev pub AcceptedIsSent : Type 0
AcceptedIsSent = (n : Network) (w : WorldState) (is : IsReached n w) (c : ConnectionKey)
    → accepted_in c (new_world n) is.acts ≡ sent_on w c

-- So, from one host and of one priority, the messages that polls among some acts handed to the client of a port are, in
-- order, the first of those that sends to this port were accepted with: none twice, none left out before another, each
-- with its sending port and its bytes. Both sides are read off the acts and their effects alone.
abbrev pub PollsAreFrontOfSends : Network → List Act → Type 0
PollsAreFrontOfSends n acts =
    (c : ConnectionKey) (port : ℕ) → c.prio < prio_limit
    → IsPrefix (filter (is_on c.src c.prio) (handed_in c.dst port (new_world n) acts))
    (map (as_handed c.src) (filter (is_to port) (accepted_in c (new_world n) acts)))

-- so they are of the acts that led to any reached world
abbrev pub PolledIsFrontOfAccepted : Type 0
PolledIsFrontOfAccepted = (n : Network) (w : WorldState) (is : IsReached n w) → PollsAreFrontOfSends n is.acts
