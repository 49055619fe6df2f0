-- The groups that the lines of a report are printed in.
use Rattle.run_defs.specs.declared.line.Line.{Line}
use Rattle.run_defs.specs.declared.line.Line.TheVariants.{Map, MapBusy, Circuit, CircuitNodes, Routes, Route, Rank}
use Rattle.run_defs.specs.declared.line.Line.TheVariants.{EndRoutes, NoMap, Client, Tokens, GenHead, GenMap, GenCount}
use Rattle.run_defs.specs.declared.line.Line.TheVariants.{Pull, Plug, Revoked, Broken, EndBroken, NoBroken}

-- a line of a map, of routes or of ranks
abbrev pub IsMapLine : Line → Type 0
IsMapLine (Map host words asks packets) = Unit {0}
IsMapLine (MapBusy host) = Unit {0}
IsMapLine (Circuit host depth asks) = Unit {0}
IsMapLine (CircuitNodes host asks) = Unit {0}
IsMapLine (Routes count) = Unit {0}
IsMapLine (Route from to walk) = Unit {0}
IsMapLine (Rank v p rank) = Unit {0}
IsMapLine EndRoutes = Unit {0}
IsMapLine NoMap = Unit {0}
IsMapLine _ = ⊥

-- a line of a port: what a client's call was answered, or where the tokens are
abbrev pub IsPortLine : Line → Type 0
IsPortLine (Client call host port said) = Unit {0}
IsPortLine (Tokens host port sends recvs) = Unit {0}
IsPortLine _ = ⊥

-- a line of cables: pulled, plugged, given up, or broken routes
abbrev pub IsCableLine : Line → Type 0
IsCableLine (Pull at done) = Unit {0}
IsCableLine (Plug a b words) = Unit {0}
IsCableLine (Revoked count) = Unit {0}
IsCableLine (Broken from to) = Unit {0}
IsCableLine EndBroken = Unit {0}
IsCableLine NoBroken = Unit {0}
IsCableLine _ = ⊥

-- a line that a generated run alone has
abbrev pub IsGeneratedLine : Line → Type 0
IsGeneratedLine (GenHead n seed hosts switches cables) = Unit {0}
IsGeneratedLine (GenMap words asks packets) = Unit {0}
IsGeneratedLine (GenCount accepted received) = Unit {0}
IsGeneratedLine _ = ⊥
