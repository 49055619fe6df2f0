-- Tokens on their way, worked out: the two hosts at one switch, of which host 0 has routes, and opens a port with one
-- send token and two receive tokens.
use Rattle.std.specs.Prelude.{◌≡◌, List, [], ◌∷◌, Some, option_map}
use Rattle.net_defs.specs.Examples.{two_hosts}
use Rattle.gm_defs.specs.Token.{sends_out, recvs_out}
use Rattle.world_defs.specs.declared.event.Event.TheVariants.{Begin, Provide, Send}
use Rattle.world_defs.specs.Node.{port_at}
use Rattle.world_defs.specs.World.{WorldState, new_world, node_at, client_at}
use Rattle.world_defs.specs.Examples.{setup_routes}
use Rattle.world_defs.specs.Acts.{Act, Happens, Adopts, acted_all}

-- host 0 opens port 3, provides a buffer and sends five bytes to host 1
abbrev pub busy_acts : List Act
busy_acts =
    Adopts 0 setup_routes ∷ Happens (Begin 0 3 1 2) ∷ Happens (Provide 0 3 6 0) ∷ Happens (Send 0 3 1 2 0 5 7) ∷ []

-- the world after it
abbrev pub busy_world : WorldState
busy_world = acted_all (new_world two_hosts) busy_acts

-- the port has the send token and the first receive token
abbrev pub PortHasTokens : Type 0
PortHasTokens =
    (option_map (λ p. sends_out p) (port_at (node_at busy_world 0) 3) ≡ Some (0 ∷ []))
    × (option_map (λ p. recvs_out p) (port_at (node_at busy_world 0) 3) ≡ Some (0 ∷ []))

-- its client has the second receive token alone
abbrev pub ClientHasTheOther : Type 0
ClientHasTheOther = client_at busy_world 0 3 ≡ Some (record { sends = []; recvs = 1 ∷ [] })

-- an act that names a port or a host that isn't there opens none
abbrev pub NoSuchPortOpens : Type 0
NoSuchPortOpens =
    (acted_all (new_world two_hosts) (Happens (Begin 0 8 1 2) ∷ []) ≡ new_world two_hosts)
    × (acted_all (new_world two_hosts) (Happens (Begin 2 3 1 2) ∷ []) ≡ new_world two_hosts)
