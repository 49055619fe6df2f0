-- What a line asks of the fabric whose names it is printed with.
use Rattle.std.specs.Prelude.{ℕ, IsTrue}
use Rattle.net_defs.specs.declared.vertex.Vertex.TheVariants.{Host}
use Rattle.net_defs.specs.Network.{Network, has_vertex}
use Rattle.net_defs.specs.Route.{IsPlaceOf}
use Rattle.map_defs.specs.declared.vertex.MapVertex.{MapVertex}
use Rattle.map_defs.specs.declared.vertex.MapVertex.TheVariants.{Host as MapHost, Switch as MapSwitch}
use Rattle.world_defs.specs.declared.effect.Said.{Said}
use Rattle.world_defs.specs.declared.effect.Said.TheVariants.{Received}
use Rattle.run_defs.specs.declared.line.StepWords.{StepWords}
use Rattle.run_defs.specs.declared.line.StepWords.TheVariants.{Moved, Blocked, Arrived, Replayed}
use Rattle.run_defs.specs.declared.line.Line.{Line}
use Rattle.run_defs.specs.declared.line.Line.TheVariants.{Walk, Map, MapBusy, Circuit, CircuitNodes, Route, Rank}
use Rattle.run_defs.specs.declared.line.Line.TheVariants.{Table, Client, Tokens, Step, Pull, Plug, Broken}

-- a host of the fabric
abbrev pub IsHost : Network → ℕ → Type 0
IsHost n h = IsTrue (has_vertex n (Host h))

-- the host that a vertex of a map stands for, if it does, is one of the fabric
abbrev pub IsVertexOf : Network → MapVertex → Type 0
IsVertexOf n (MapHost h) = IsHost n h
IsVertexOf n (MapSwitch s) = Unit {0}

-- the sender of a message that was received is a host of the fabric
abbrev pub IsSaidOf : Network → Said → Type 0
IsSaidOf n (Received token from sport prio body) = IsHost n from
IsSaidOf n _ = Unit {0}

-- the ends and hosts of an event's words are of the fabric
abbrev pub AreWordsOf : Network → StepWords → Type 0
AreWordsOf n (Moved e) = IsTrue (has_vertex n e.v)
AreWordsOf n (Blocked e) = IsTrue (has_vertex n e.v)
AreWordsOf n (Arrived h heard) = IsHost n h
AreWordsOf n (Replayed e) = IsTrue (has_vertex n e.v)
AreWordsOf n _ = Unit {0}

-- Each vertex that a line names is one of the fabric.
abbrev pub AreThere : Network → Line → Type 0
AreThere n (Walk place) = IsPlaceOf n place
AreThere n (Map host words asks packets) = IsHost n host
AreThere n (MapBusy host) = IsHost n host
AreThere n (Circuit host depth asks) = IsHost n host
AreThere n (CircuitNodes host asks) = IsHost n host
AreThere n (Route from to walk) = IsHost n from × IsHost n to
AreThere n (Rank v p rank) = IsVertexOf n v
AreThere n (Table host active) = IsHost n host
AreThere n (Client call host port said) = IsHost n host × IsSaidOf n said
AreThere n (Tokens host port sends recvs) = IsHost n host
AreThere n (Step words) = AreWordsOf n words
AreThere n (Pull at done) = IsTrue (has_vertex n at.v)
AreThere n (Plug a b words) = IsTrue (has_vertex n a.v) × IsTrue (has_vertex n b.v)
AreThere n (Broken from to) = IsHost n from × IsHost n to
AreThere n _ = Unit {0}
