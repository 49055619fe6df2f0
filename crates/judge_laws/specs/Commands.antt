-- What is known by the answers so far is what a session holds.
use Rattle.std.specs.Prelude.{◌≡◌, Bool, true, false, ◌&&◌, List, [], ◌∷◌, Option, Some, None, option_map, is_some}
use Rattle.std.specs.Prelude.{is_none}
use Rattle.std.specs.List.{AllByRecursion}
use Rattle.net_defs.specs.Network.{Network, IsFabric}
use Rattle.map_defs.specs.NetMap.{NetMap}
use Rattle.fabric_file.specs.Reading.{AreNamed}
use Rattle.fab_script.specs.Ranges.{IsCommandOf}
use Rattle.world_defs.specs.declared.fault.Fault.{Fault}
use Rattle.world_defs.specs.declared.fault.Fault.TheVariants.{Pull as PullFault}
use Rattle.world_defs.specs.World.{WorldState, fabric_of}
use Rattle.run_defs.specs.declared.command.Command.{Command}
use Rattle.run_defs.specs.declared.command.Command.TheVariants.{Plan, Duo}
use Rattle.run_defs.specs.declared.line.MapWords.{MapWords}
use Rattle.run_defs.specs.declared.line.MapWords.TheVariants.{Complete, Doubtful, IncompleteDepth, IncompleteNodes}
use Rattle.run_defs.specs.Outcome.{fault_of}
use Rattle.run_defs.specs.Output.{Piece}
use Rattle.run_defs.specs.Session.{SessionState, LastMap, complete_map as complete_of}
use Rattle.run_defs.specs.Run.{Does, IsRun}
use Rattle.port_ledgers.specs.Told.{Told}
use Rattle.answer_defs.specs.Answer.{Answer, Answered, answered, complete_map, shown_map, routed_hosts, are_adopted}
use Rattle.answer_defs.specs.Answer.{fabric_by, told_in}
use Rattle.answer_defs.specs.Right.{MapIsTrue, RoutesAreTrue, GivesLength, PlacesAreTrue}
use Rattle.judge_defs.specs.Form.{call_of, known_by}
use Rattle.judge_laws.specs.Answers.{IsPrintedAnswer}

-- a map that has lines under these words
abbrev pub with_lines : MapWords → NetMap → Option NetMap
with_lines Complete m = Some m
with_lines (Doubtful drowned) m = Some m
with_lines IncompleteDepth m = Some m
with_lines IncompleteNodes m = None

-- the last map, where it has lines
abbrev pub shown_of : Option LastMap → Option NetMap
shown_of None = None
shown_of (Some l) = with_lines l.words l.made

-- By the answers so far, the latest first, the last complete map, the last map that has lines, the hosts of the last
-- routes, and whether routes are adopted, are those of a session.
pub record IsToldOf (n : Network) (before : List Answered) (s : SessionState) : Type 0 where
  pub complete : complete_map before ≡ option_map (λ l. l.made) (complete_of s.last_map)
  pub shown : shown_map before ≡ shown_of s.last_map
  pub routed : routed_hosts n before ≡ option_map (λ l. l.hosts) s.last_routes
  pub adopted : are_adopted before ≡ is_some s.world.adopted

-- a fault of a packet
abbrev pub IsNoPull : Fault → Type 0
IsNoPull (PullFault at) = ⊥
IsNoPull f = Unit {0}

-- no pull of a cable is planned in a world
abbrev pub HasNoPull : WorldState → Type 0
HasNoPull w = AllByRecursion (λ f. IsNoPull f.1) w.plan

-- a command plans no pull
abbrev pub PlansNoPull : Command → Type 0
PlansNoPull (Plan ahead kind) = IsNoPull (fault_of kind)
PlansNoPull c = Unit {0}

-- An answer tells nothing of ports and messages.
pub record TellsNothing (c : Command) (a : Answer) : Type 0 where
  pub told : told_in c a ≡ []
  pub lengths : GivesLength a
  pub places : (past : List Told) → PlacesAreTrue past a

-- What a command printed is an answer, by the answers before it. Its map and its routes are right, it tells nothing of
-- ports, and what is known by all answers is what the next session holds.
pub record IsAnsweredBy (n : Network) (before : List Answered) (s : SessionState) (c : Command) (out : List Piece)
    (next : SessionState) : Type 0 where
  pub a : Answer
  pub printed : IsPrintedAnswer n (known_by n before) out c a
  pub told : IsToldOf n (answered c a ∷ before) next
  pub nothing : TellsNothing c a
  pub maps : MapIsTrue (fabric_of s.world) a
  pub routes : RoutesAreTrue before a
  pub fabric : HasNoPull s.world → PlansNoPull c → fabric_by a (fabric_of s.world) ≡ fabric_of next.world
  pub unpulled : HasNoPull s.world → PlansNoPull c → HasNoPull next.world

-- Commands whose answers are judged: all but those of the two hosts that restart.
abbrev pub is_judged : Command → Bool
is_judged (Duo event) = false
is_judged c = true

-- Commands of the network: those that are judged and are no call of a client.
abbrev pub is_of_network : Command → Bool
is_of_network c = is_judged c && is_none (call_of c)

-- After every run over a fabric with names of the text's form, what the next such command prints is a right answer, and
-- what is known after it is what the next session holds.
abbrev pub CommandsAreAnswered : Type 0
CommandsAreAnswered =
    (n : Network) (commands : List Command) (out printed : List Piece) (before : List Answered) (s next : SessionState)
    (c : Command)
    → IsFabric n → AreNamed n → AllByRecursion (IsCommandOf n) commands → IsCommandOf n c → IsRun n commands out s
    → IsToldOf n before s → Does s c printed next → is_of_network c ≡ true → IsAnsweredBy n before s c printed next
