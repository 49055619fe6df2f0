-- The lines of routes.
use Rattle.std.proofs.Common.{◌≡◌, ◌<◌, ◌-◌, ℕ, List, Option, Some, None, Result, Ok, Err, refl, ap, sym, ◌∙◌, if◌then◌else◌}
use Rattle.std.specs.Prelude.{option_and_then}
use Rattle.net_defs.specs.declared.route.Route.{Route}
use Rattle.net_defs.specs.Network.{Network}
use Rattle.port_graph.specs.Routes.{is_above}
use Rattle.fab_text.specs.Line.{TextLine}
use Rattle.report_lines.specs.declared.line.ReportLine.{ReportLine}
use Rattle.report_lines.specs.declared.line.ReportLine.TheVariants.{Route as RouteLine}
use Rattle.judge_defs.specs.Form.{Reads, next_due, route_due, route_lines}
use Rattle.fab_judge.specs.declared.stop.Unread.{Unread}
use Rattle.fab_judge.specs.declared.stop.Unread.TheVariants.{At, NoMemory}
use Rattle.fab_judge.specs.Reading.{Gives, next_said}
use Rattle.fab_judge.specs.Blocks.{route_in, Adds, GivesRoute}
use Rattle.fab_judge.proofs.Lists.{last_of}
use Rattle.fab_judge.proofs.Next.{due-found, due-wrong, due-fault}
use Rattle.fab_judge.proofs.Blocks.{after, IsCounted, counted-fault}

-- a route, where it stands above another
abbrev where_it_is : Option Route → Route → Option Route
where_it_is before r = if is_above before r then Some r else None

route_due-in : (before : Option Route) (l : ReportLine) → route_due before l ≡ option_and_then (where_it_is before) (route_in l)
route_due-in before (RouteLine r) = refl
route_due-in before l = refl

pub routes-counted : (past : ℕ) (n : Network) → IsCounted (λ k b ls. route_lines k b past n ls) (λ b ls. next_due (route_due b) past n ls)
routes-counted past n = record { none = λ b ls. refl; some = λ k b ls. refl }

-- the line is a route
pub route-added : (past : ℕ) (n : Network) (ls left : List TextLine) (number : ℕ) (said : ReportLine) (r : Route) (before now : List Route) (result : Result (Unit {0}) Unread)
    → next_said past n ls ≡ Ok ((number, said), left) → route_in said ≡ Some r → Adds number r before now result
    → GivesRoute (next_due (route_due (last_of before)) past n ls) left before now result
route-added past n ls left number said r before now (Ok done) e i a = (
  r,
  due-found (route_due (last_of before)) past n ls left number said r e
      (route_due-in (last_of before) said ∙ ap (option_and_then (where_it_is (last_of before))) i ∙ ap (λ b. if b then Some r else None) a.0),
  a.1,
)
route-added past n ls left number said r before now (Err (At line)) e i a =
    due-wrong (route_due (last_of before)) past n ls left number said e
    (route_due-in (last_of before) said ∙ ap (option_and_then (where_it_is (last_of before))) i ∙ ap (λ b. if b then Some r else None) a.0)
    ∙ ap (λ k. Err k) (sym a.1)
route-added past n ls left number said r before now (Err NoMemory) e i a = tt

-- it is none
pub no-route : (past : ℕ) (n : Network) (ls left : List TextLine) (number : ℕ) (said : ReportLine) (before : Option Route)
    → next_said past n ls ≡ Ok ((number, said), left) → route_in said ≡ None → next_due (route_due before) past n ls ≡ Err number
no-route past n ls left number said before e i =
    due-wrong (route_due before) past n ls left number said e (route_due-in before said ∙ ap (option_and_then (where_it_is before)) i)

-- it is out of form
pub route-fault : (past : ℕ) (n : Network) (ls left : List TextLine) (before now : List Route) (b : Option Route) (stop : Unread)
    → Gives (next_said past n ls) left (Err stop) → GivesRoute (next_due (route_due b) past n ls) left before now (Err stop)
route-fault past n ls left before now b (At line) g = due-fault (route_due b) past n ls line g
route-fault past n ls left before now b NoMemory g = tt

-- a fault of one route is one of all
pub routes-stopped : (count i past : ℕ) (n : Network) (all : Reads (List Route)) (done now : List Route) (ls left : List TextLine) (stop : Unread)
    → i < count → all ≡ after done (route_lines (count - i) (last_of done) past n ls)
    → GivesRoute (next_due (route_due (last_of done)) past n ls) left done now (Err stop) → Gives all left (Err stop)
routes-stopped count i past n all done now ls left (At line) l a g =
    counted-fault (λ k b ls. route_lines k b past n ls) (λ b ls. next_due (route_due b) past n ls) all count i done ls line (routes-counted past n) l a g
routes-stopped count i past n all done now ls left NoMemory l a g = tt
