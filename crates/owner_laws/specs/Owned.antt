-- Who has a token, at every moment.
use Rattle.std.specs.Prelude.{ℕ, List}
use Rattle.net_defs.specs.Network.{Network}
use Rattle.world_defs.specs.Node.{port_at}
use Rattle.world_defs.specs.World.{new_world, node_at, client_at}
use Rattle.world_defs.specs.Sound.{AreOwned}
use Rattle.world_defs.specs.Acts.{Act, acted_all}

-- Each token of an open port stands in one place, once: with the client, with a send, with a provided buffer, or in
-- an event. It is so after every list of acts, also of acts that name a host or a port that isn't there.
abbrev pub TokensHaveOneOwner : Type 0
TokensHaveOneOwner =
    (n : Network) (acts : List Act) (h port : ℕ) → AreOwned (port_at (node_at (acted_all (new_world n) acts) h) port)
    (client_at (acted_all (new_world n) acts) h port)
