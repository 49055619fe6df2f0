-- What may happen to a world, and the worlds that are reached so.
use Rattle.std.specs.Prelude.{◌≡◌, ℕ, ◌<◌, ◌≤◌, true, List, [], ◌∷◌}
use Rattle.std.specs.List.{AllByRecursion}
use Rattle.net_defs.specs.declared.place.Place.TheVariants.{Host as AtHost}
use Rattle.net_defs.specs.declared.route.Route.{Route}
use Rattle.net_defs.specs.Network.{Network, IsFabric}
use Rattle.net_defs.specs.Route.{place}
use Rattle.net_defs.specs.RouteSet.{channels_of_all}
use Rattle.net_defs.specs.Dependencies.{IsBefore}
use Rattle.world_defs.specs.declared.event.Event.{Event}
use Rattle.world_defs.specs.declared.fault.Fault.{Fault}
use Rattle.world_defs.specs.World.{WorldState, fabric_of, new_world, planned, may_adopt, adopted_by}
use Rattle.world_defs.specs.Step.{step}
use Rattle.world_defs.specs.EightBits.{IsByteFault, IsByteEvent}
use Rattle.world_defs.specs.Sound.{IsSound}

-- What may happen to a world: an event, a plan, or the adoption of routes.
pub data Act : Type 0 where
  Happens : Event → Act
  Plans : (ahead : ℕ) → Fault → Act
  Adopts : (mapper : ℕ) → List Route → Act

-- the world after an act
abbrev pub acted : WorldState → Act → WorldState
acted w (Happens e) = (step w e).1
acted w (Plans ahead fault) = (planned w ahead fault).1
acted w (Adopts mapper routes) = adopted_by w mapper routes

-- the world after acts in order
abbrev pub acted_all : WorldState → List Act → WorldState
acted_all w [] = w
acted_all w (a ∷ acts) = acted_all (acted w a) acts

-- routes may be adopted where each leads to its host, and some numbering of channels rises along every route
pub record AreAdoptable (n : Network) (routes : List Route) : Type 0 where
  pub lead : AllByRecursion (λ r. place n r.from r.walk ≡ AtHost r.to) routes
  pub number : ℕ → ℕ
  pub rises : (c d : ℕ) → IsBefore (channels_of_all n routes) c d → number c < number d

-- an act whose flips have patterns of eight bits
abbrev pub IsByteAct : Act → Type 0
IsByteAct (Happens e) = IsByteEvent e
IsByteAct (Plans ahead fault) = IsByteFault fault
IsByteAct (Adopts mapper routes) = Unit {0}

-- An event may always happen, and a plan names an injection to come, with flips of eight bits; routes may be adopted
-- where they are adoptable in the fabric as it stands, and nothing is adopted, the epoch is kept, or each host has
-- given it up and there is a next one.
abbrev pub MayAct : WorldState → Act → Type 0
MayAct w (Happens e) = IsByteEvent e
MayAct w (Plans ahead fault) = (1 ≤ ahead) × IsByteFault fault
MayAct w (Adopts mapper routes) = AreAdoptable (fabric_of w) routes × (may_adopt w routes ≡ true)

-- each act may happen in the world that those before it leave
abbrev pub MayActAll : WorldState → List Act → Type 0
MayActAll w [] = Unit {0}
MayActAll w (a ∷ acts) = MayAct w a × MayActAll (acted w a) acts

-- A world that acts which may happen lead to from the new one of a fabric.
pub record IsReached (n : Network) (w : WorldState) : Type 0 where
  pub fabric : IsFabric n
  pub acts : List Act
  pub may : MayActAll (new_world n) acts
  pub leads : w ≡ acted_all (new_world n) acts

-- every moment is sound, whatever happens before it
abbrev pub AlwaysSound : Network → Type 0
AlwaysSound n = (acts : List Act) → MayActAll (new_world n) acts → IsSound (acted_all (new_world n) acts)
