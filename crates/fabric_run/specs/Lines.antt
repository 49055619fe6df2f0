-- What the lines of a command say, and that it is true: of its session before, and of the one after it.
use Rattle.std.specs.Prelude.{◌≡◌, ◌⊎◌, ◌↔◌, ℕ, ◌<◌, ◌≤◌, false, List, [], ◌∷◌, length, Some, Ok, slice_get}
use Rattle.net_defs.specs.Network.{Network}
use Rattle.journal_defs.specs.Depth.{enough_depth}
use Rattle.map_defs.specs.NetMap.{NetMap}
use Rattle.map_defs.specs.Sameness.{IsMapOfPart}
use Rattle.circ_defs.specs.PathList.{Ear, most_back}
use Rattle.circ_defs.specs.Cores.{IsCutOff, ArePathsOfCore}
use Rattle.circ_defs.specs.CircuitMap.{IsMapOfCore}
use Rattle.duo_defs.specs.declared.event.DuoEvent.TheVariants.{Poll}
use Rattle.duo_defs.specs.declared.effect.DuoEffect.TheVariants.{Sent, Unsure}
use Rattle.duo_defs.specs.Theorem.{IsSentRight, IsUnsureRight}
use Rattle.world_defs.specs.World.{WorldState, fabric_of, last_count}
use Rattle.run_defs.specs.declared.command.Command.{Command}
use Rattle.run_defs.specs.declared.command.Command.TheVariants.{Map, Circuit, Routes, Install, Settle, Duo}
use Rattle.run_defs.specs.declared.command.Command.TheVariants.{Pull, Plug, Revoke}
use Rattle.run_defs.specs.declared.line.Line.TheVariants.{Map as MapLine, Circuit as CircuitLine, Installed}
use Rattle.run_defs.specs.declared.line.Line.TheVariants.{Settle as SettleLine, Duo as DuoLine}
use Rattle.run_defs.specs.declared.line.MapWords.{MapWords}
use Rattle.run_defs.specs.declared.line.MapWords.TheVariants.{Complete, Doubtful}
use Rattle.run_defs.specs.Circuit.{IsCircuitTold}
use Rattle.run_defs.specs.Duos.{begun}
use Rattle.run_defs.specs.LineText.{map_text}
use Rattle.run_defs.specs.Output.{Piece, OneLine, MapLines}
use Rattle.run_defs.specs.Session.{SessionState}
use Rattle.run_defs.specs.Headline.{HasPrinted, IsQuiet}
use Rattle.map_canon.specs.Reading.{map_reading}
use Rattle.delivery_laws.specs.Delivery.{HasEnough, HasPaths}
use Rattle.print_laws.specs.Standing.{StandsOver}
use Rattle.print_laws.specs.Routes.{AreRoutesTold}
use Rattle.run_laws.specs.InstallLines.{IsInstalledLine}
use Rattle.run_laws.specs.SettleLines.{IsSettledLine}
use Rattle.promise_laws.specs.CableLines.{IsPullTold, IsPlugTold, IsRevokeTold}

-- A planned fault lost, held or flipped a packet between two moments, or a cable went.
abbrev pub WasStruck : WorldState → WorldState → Type 0
WasStruck w v = (w.harmed < v.harmed) ⊎ (w.links.cables.changes < v.links.cables.changes)

-- A map of a host, printed under these words by a command between two sessions. Whatever it shows was there before the
-- command, and its lines are read as it. Where it is complete it was the mapper's part, and marks a vertex as outside
-- exactly where a cable between two switches cuts the vertex that it stands for off from all hosts. Where it is
-- doubtful and injections are left after it, something struck it.
pub record IsMapTrue (n : Network) (s next : SessionState) (host : ℕ) (words : MapWords) (m : NetMap) : Type 0 where
  pub stands : StandsOver (fabric_of s.world) host m
  pub read_back : map_reading n (map_text n m) ≡ Ok m
  pub part : words ≡ Complete → IsMapOfPart (fabric_of s.world) host m
  pub marks : words ≡ Complete → (same : IsMapOfPart (fabric_of s.world) host m) → (v : ℕ) → v < length m.vertices
      → (slice_get m.core v ≡ Some false) ↔ IsCutOff (fabric_of s.world) (same.image v)
  pub doubt : (drowned : ℕ) → words ≡ Doubtful drowned → next.world.injected < last_count
      → WasStruck s.world next.world

-- The map that a command `map` prints is true. On a quiet fabric, to the depth that suffices, it prints one under the
-- word complete.
pub record IsMapTold (n : Network) (s next : SessionState) (host depth : ℕ) (out : List Piece) : Type 0 where
  pub shown : (words : MapWords) (asks packets : ℕ) (m : NetMap)
      → out ≡ OneLine (MapLine host words asks packets) ∷ MapLines m ∷ [] → IsMapTrue n s next host words m
  pub deep : IsQuiet host s.world next.world → enough_depth (fabric_of s.world) host ≤ depth
      → (m : NetMap) × HasPrinted out host m

-- A map of circuit links that was asked to a depth: where that was at least the most cables in a return walk of some
-- path list of the core, it was the core, up to each switch's offset; and its lines are read as it.
pub record IsCircuitTrue (n now : Network) (host depth : ℕ) (m : NetMap) : Type 0 where
  pub core : (es : List Ear) → ArePathsOfCore now host es → most_back es ≤ depth → IsMapOfCore now host m
  pub read_back : map_reading n (map_text n m) ≡ Ok m

-- The command `circuit` prints the circuit map to its depth, and after how many asks, and that is true so.
pub record IsCircuitRight (n now : Network) (host depth : ℕ) (out : List Piece) : Type 0 where
  pub told : IsCircuitTold now host depth out
  pub shown : (asks : ℕ) (m : NetMap) → out ≡ OneLine (CircuitLine host depth asks) ∷ MapLines m ∷ []
      → IsCircuitTrue n now host depth m

-- What the line of a settle says is true. Where there were tokens enough before it, none of the routes that are wanted
-- is broken after it, and injections are left then, nothing is unacknowledged.
pub record IsSettleRight (s next : SessionState) (rounds resets unacked : ℕ) : Type 0 where
  pub line : IsSettledLine s next rounds resets unacked
  pub delivers : next.world.injected < last_count → HasEnough s.world → HasPaths s.world next.world → unacked ≡ 0

-- A poll of one of the two hosts that restart prints sent only where the peer's incarnation to which the message is
-- counted has got it, and unsure only where the peer's incarnation is above that one.
pub record IsPollRight (s : SessionState) (x : ℕ) (out : List Piece) : Type 0 where
  pub sent : (t : ℕ) → out ≡ OneLine (DuoLine (Sent t)) ∷ [] → IsSentRight (begun s.duo) x t
  pub unsure : (t : ℕ) → out ≡ OneLine (DuoLine (Unsure t)) ∷ [] → IsUnsureRight (begun s.duo) x t

-- What the lines of a command say is true. (An installation of a script tries each part at least once.)
abbrev pub AreLinesTrue : Network → SessionState → Command → List Piece → SessionState → Type 0
AreLinesTrue n s (Map host depth tries) out next = IsMapTold n s next host depth out
AreLinesTrue n s (Circuit host depth) out next = IsCircuitRight n (fabric_of s.world) host depth out
AreLinesTrue n s Routes out next = AreRoutesTold s out
AreLinesTrue n s (Install tries) out next =
    (acked total : ℕ) (rest : List Piece) → out ≡ OneLine (Installed acked total) ∷ rest
    → (1 ≤ tries) × IsInstalledLine s next tries acked total
AreLinesTrue n s Settle out next =
    (rounds resets unacked : ℕ) (rest : List Piece) → out ≡ OneLine (SettleLine rounds resets unacked) ∷ rest
    → IsSettleRight s next rounds resets unacked
AreLinesTrue n s (Pull at) out next = IsPullTold s next at out
AreLinesTrue n s (Plug p q) out next = IsPlugTold s next p q out
AreLinesTrue n s Revoke out next = IsRevokeTold s next out
AreLinesTrue n s (Duo (Poll x)) out next = IsPollRight s x out
AreLinesTrue n s _ out next = Unit {0}
