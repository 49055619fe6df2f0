-- Which line of an answer of the right form fails, and what fails there.
use Rattle.std.specs.Prelude.{◌≡◌, ℕ, suc, ◌+◌, List, ◌∷◌, ◌++◌, length, Option, Some, None}
use Rattle.std.specs.List.{AllByRecursion}
use Rattle.net_defs.specs.declared.route.Route.{Route as HostRoute}
use Rattle.net_defs.specs.Network.{Network}
use Rattle.map_defs.specs.declared.rank.RankEntry.{RankEntry}
use Rattle.map_defs.specs.NetMap.{NetMap}
use Rattle.map_defs.specs.Ranks.{IsCertificate}
use Rattle.run_defs.specs.declared.command.Command.{Command}
use Rattle.answer_defs.specs.declared.why.Why.{Why}
use Rattle.answer_defs.specs.declared.why.Why.TheVariants.{Map, Route, Rank, Message, Token}
use Rattle.answer_defs.specs.Answer.{Answer, WithRoutes, Answered, answered, complete_map, fabric_after}
use Rattle.answer_defs.specs.Right.{MapIsTrue, LeadsBetween, AreWhole, MessagesAreTrue, TokensAreTrue}

-- Routes fail at a place among their lines: there is no complete map or a pair has none (the first line), or one
-- doesn't lead, and those before it do (its own line), or all lead, and the ranks don't rise (the last line).
pub data RoutesFail : Option NetMap → List HostRoute → List RankEntry → (place : ℕ) → Why → Type 0 where
  no_map : {found : List HostRoute} {ranks : List RankEntry} → RoutesFail None found ranks 0 Route
  not_whole : {m : NetMap} {found : List HostRoute} {ranks : List RankEntry} → ¬ AreWhole m found
      → RoutesFail (Some m) found ranks 0 Route
  astray : {m : NetMap} {found : List HostRoute} {ranks : List RankEntry} (front back : List HostRoute) (r : HostRoute)
      → AreWhole m found → found ≡ front ++ r ∷ back → AllByRecursion (LeadsBetween m) front → ¬ LeadsBetween m r
      → RoutesFail (Some m) found ranks (suc (length front)) Route
  falling : {m : NetMap} {found : List HostRoute} {ranks : List RankEntry} → AreWhole m found
      → AllByRecursion (LeadsBetween m) found → ¬ IsCertificate m found ranks
      → RoutesFail (Some m) found ranks (suc (length found + length ranks)) Rank

-- An answer of the right form fails at a place among its lines; where a message and a token fail at one line, the
-- message does.
pub data Fails (n : Network) (before : List Answered) (c : Command) : Answer → (place : ℕ) → Why → Type 0 where
  map_fails : {a : Answer} → ¬ MapIsTrue (fabric_after n before) a → Fails n before c a 0 Map
  routes_fail : {found : List HostRoute} {ranks : List RankEntry} {place : ℕ} {why : Why}
      → RoutesFail (complete_map before) found ranks place why → Fails n before c (WithRoutes found ranks) place why
  message_fails : {a : Answer} → ¬ MessagesAreTrue before (answered c a) → Fails n before c a 0 Message
  token_fails : {a : Answer} → MessagesAreTrue before (answered c a) → ¬ TokensAreTrue before (answered c a)
      → Fails n before c a 0 Token
