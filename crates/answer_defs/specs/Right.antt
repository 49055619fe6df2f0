-- What is judged of an answer of the right form, by those before it: maps, routes with their ranks, messages and
-- tokens.
use Rattle.std.specs.Prelude.{◌≡◌, ◌≢◌, ℕ, List, ◌∷◌, length, Option, Some, None}
use Rattle.std.specs.List.{AllByRecursion}
use Rattle.net_defs.specs.declared.route.Route.{Route}
use Rattle.net_defs.specs.RouteSet.{HasRoute}
use Rattle.net_defs.specs.Network.{Network}
use Rattle.map_defs.specs.declared.rank.RankEntry.{RankEntry}
use Rattle.map_defs.specs.NetMap.{NetMap, host_of_vertex}
use Rattle.map_defs.specs.Sameness.{IsMapOfPart}
use Rattle.map_defs.specs.Routing.{LeadsTo}
use Rattle.map_defs.specs.Ranks.{IsCertificate}
use Rattle.port_ledgers.specs.Told.{Told, AreInOrder}
use Rattle.port_ledgers.specs.Held.{port_told, AreTokensRight, AreAllPlaced}
use Rattle.report_lines.specs.declared.line.MapSaid.TheVariants.{Complete}
use Rattle.report_lines.specs.declared.line.ReportLine.TheVariants.{Map, Received, Tokens}
use Rattle.answer_defs.specs.Answer.{Answer, Alone, WithMap, WithRoutes, Answered, complete_map, fabric_after}
use Rattle.answer_defs.specs.Answer.{told_in, told}

-- A map under the word `complete` is the mapper's part of the fabric, up to the offset of each switch.
abbrev pub MapIsTrue : Network → Answer → Type 0
MapIsTrue n (WithMap (Map h Complete) m) = IsMapOfPart n h m
MapIsTrue n a = Unit {0}

-- a route leads from one host of a map to another
abbrev pub LeadsBetween : NetMap → Route → Type 0
LeadsBetween m r = (r.from ≢ r.to) × LeadsTo m r.from r.to r.walk

-- each two different hosts of a map have a route
abbrev pub AreWhole : NetMap → List Route → Type 0
AreWhole m found = (v w a b : ℕ) → host_of_vertex m v ≡ Some a → host_of_vertex m w ≡ Some b → a ≢ b
    → HasRoute found a b

-- Routes hold on a map: each two different hosts have one, each leads, and the ranks rise along every one.
pub record AreRoutesTrue (m : NetMap) (found : List Route) (ranks : List RankEntry) : Type 0 where
  pub whole : AreWhole m found
  pub lead : AllByRecursion (LeadsBetween m) found
  pub rise : IsCertificate m found ranks

-- routes are shown where the last map is complete, and hold on it
abbrev pub HoldOn : Option NetMap → List Route → List RankEntry → Type 0
HoldOn None found ranks = ⊥
HoldOn (Some m) found ranks = AreRoutesTrue m found ranks

-- So it is with the routes of an answer.
abbrev pub RoutesAreTrue : List Answered → Answer → Type 0
RoutesAreTrue before (WithRoutes found ranks) = HoldOn (complete_map before) found ranks
RoutesAreTrue before a = Unit {0}

-- a received line gives the number of its bytes
abbrev pub GivesLength : Answer → Type 0
GivesLength (Alone (Received l)) = l.len ≡ length l.body
GivesLength a = Unit {0}

-- From each sender to each port, by each priority, the messages received so far are a prefix of those sent so far.
pub record MessagesAreTrue (before : List Answered) (t : Answered) : Type 0 where
  pub in_order : AreInOrder (told (t ∷ before))
  pub lengths : GivesLength t.answer

-- a line `tokens` has each token of its port once, in order, with the client exactly those that it holds
abbrev pub PlacesAreTrue : List Told → Answer → Type 0
PlacesAreTrue past (Alone (Tokens l)) = AreAllPlaced (port_told l.port past) l.sends l.recvs
PlacesAreTrue past a = Unit {0}

-- Tokens are right in an answer, by what its port's client held before.
pub record TokensAreTrue (before : List Answered) (t : Answered) : Type 0 where
  pub calls : AllByRecursion (AreTokensRight (told before)) (told_in t.command t.answer)
  pub places : PlacesAreTrue (told before) t.answer

-- All that is judged of an answer of the right form; its map over the fabric as it stands.
pub record IsRight (n : Network) (before : List Answered) (t : Answered) : Type 0 where
  pub maps : MapIsTrue (fabric_after n before) t.answer
  pub routes : RoutesAreTrue before t.answer
  pub messages : MessagesAreTrue before t
  pub tokens : TokensAreTrue before t
