-- A law of deeds by the kinds of commands: it is shown of lines alone, of events, of a plan, of an installation, and of an
-- event of the two hosts that restart.
use Rattle.std.proofs.Common.{◌≡◌, ℕ, Bool, true, false, not, List, [], ◌∷◌, Option, Some, None, option_map, refl, subst, if◌then◌else◌}
use Rattle.world_defs.specs.Links.{is_idle}
use Rattle.duo_defs.specs.declared.event.DuoEvent.{DuoEvent}
use Rattle.duo_defs.specs.Step.{step as duo_step}
use Rattle.world_defs.specs.declared.event.Event.{Event}
use Rattle.world_defs.specs.declared.effect.Effect.{Effect}
use Rattle.world_defs.specs.declared.effect.Effect.TheVariants.{Idle}
use Rattle.world_defs.specs.declared.fault.Fault.{Fault}
use Rattle.world_defs.specs.World.{WorldState}
use Rattle.world_defs.specs.Step.{step}
use Rattle.world_defs.specs.Logs as log
use Rattle.run_defs.specs.declared.command.Command.{Command}
use Rattle.run_defs.specs.declared.line.Line.{Line}
use Rattle.run_defs.specs.declared.line.Line.TheVariants.{MapBusy, NoMap, InstallRefused}
use Rattle.run_defs.specs.declared.line.InstallCause.{InstallCause}
use Rattle.run_defs.specs.declared.line.InstallCause.TheVariants.{NoRoutes, Busy}
use Rattle.run_defs.specs.Deed.{Deed, says}
use Rattle.run_defs.specs.Duos.{begun}
use Rattle.run_defs.specs.Outcome.{Kind, Reading, OneEvent, Planning, Settling, Revoking, Installing, Mapping, MappingCircuits, Routing, OfTheDuo}
use Rattle.run_defs.specs.Outcome.{settle_lines, may_install, refusal_cause, revocations, revoke_lines, happening, one_event, planning, install_now, install, map_refused, routes_refused, duo_done, deed_of_kind, deed_of, Outcome, seen, outcome}
use Rattle.run_defs.specs.Session.{SessionState, LastMap, LastRoutes, complete_map}

-- a law of a deed, where there is one
abbrev pub InDeed : (Deed → Type 0) → Option Deed → Type 0
InDeed P None = Unit {0}
InDeed P (Some d) = P d

-- the events that a kind of command is, where it is events alone
pub data EventsOf (s : SessionState) : Kind → List Event → Type 0 where
  one : {event : WorldState → Option Event} {print : WorldState → Effect → WorldState → List Line} → (e : Event) → event s.world ≡ Some e → EventsOf s (OneEvent event print) (e ∷ [])
  settles : EventsOf s Settling (log.settle s.world).events
  revokes : EventsOf s Revoking (revocations s.world)

-- what is to be shown of a law
pub record IsLaw (P : Deed → Type 0) (s : SessionState) (k : Kind) : Type 0 where
  pub reads : (ls : List Line) → P (says ls)
  pub happens : (es : List Event) (ls : List Line) → EventsOf s k es → P (happening es ls)
  pub plans : (ahead : ℕ) (fault : Fault) → k ≡ Planning ahead fault → P (planning s.world ahead fault)
  pub installs : (l : LastRoutes) (tries : ℕ) → k ≡ Installing tries → s.last_routes ≡ Some l → not (may_install s.world l) ≡ false → P (install_now s.world l tries)
  pub restarts : (e : DuoEvent) → k ≡ OfTheDuo e → P (duo_done (duo_step (begun s.duo) e))

-- a map that is refused, and routes
pub refused-map : (P : Deed → Type 0) (w : WorldState) (host : ℕ) → P (says (MapBusy host ∷ [])) → InDeed P (map_refused w host)
refused-map P w host busy = by (is_idle w.links)
  where
    by : (idle : Bool) → InDeed P (if idle then None else Some (says (MapBusy host ∷ [])))
    by true = tt
    by false = busy

pub refused-routes : (P : Deed → Type 0) (o : Option LastMap) → P (says (NoMap ∷ [])) → InDeed P (routes_refused o)
refused-routes P None refused = refused
refused-routes P (Some l) refused = tt

-- an event, or none
pub by-event : (P : Deed → Type 0) (w : WorldState) (print : Effect → WorldState → List Line) (o : Option Event) → P (says (print Idle w)) → ((e : Event) → o ≡ Some e → P (happening (e ∷ []) (print (step w e).0 (step w e).1)))
    → P (one_event w print o)
by-event P w print None none some = none
by-event P w print (Some e) none some = some e refl

-- an installation, or why it is refused
pub by-install : (P : Deed → Type 0) (w : WorldState) (tries : ℕ) (o : Option LastRoutes) → ((cause : InstallCause) → P (says (InstallRefused cause ∷ []))) → ((l : LastRoutes) → o ≡ Some l → not (may_install w l) ≡ false → P (install_now w l tries)) → P (install w tries o)
by-install P w tries None refused now = refused NoRoutes
by-install P w tries (Some l) refused now = by (not (is_idle w.links)) (not (may_install w l)) refl
  where
    by : (busy other : Bool) → not (may_install w l) ≡ other → P (if busy then says (InstallRefused Busy ∷ []) else if other then says (InstallRefused (refusal_cause w l) ∷ []) else install_now w l tries)
    by true other e = refused Busy
    by false true e = refused (refusal_cause w l)
    by false false e = now l refl e

pub by-kind : (P : Deed → Type 0) (s : SessionState) (k : Kind) → IsLaw P s k → InDeed P (deed_of_kind s k)
by-kind P s (Reading print) law = law.reads (print s.world)
by-kind P s (OneEvent event print) law = by-event P s.world (print s.world) (event s.world) (law.reads (print s.world Idle s.world)) (λ e is. law.happens (e ∷ []) (print s.world (step s.world e).0 (step s.world e).1) (one e is))
by-kind P s (Planning ahead fault) law = law.plans ahead fault refl
by-kind P s Settling law = law.happens (log.settle s.world).events (settle_lines (log.settle s.world)) settles
by-kind P s Revoking law = law.happens (revocations s.world) (revoke_lines s.world) revokes
by-kind P s (Installing tries) law = by-install P s.world tries s.last_routes (λ cause. law.reads (InstallRefused cause ∷ [])) (λ l is may. law.installs l tries refl is may)
by-kind P s (Mapping host) law = refused-map P s.world host (law.reads (MapBusy host ∷ []))
by-kind P s MappingCircuits law = tt
by-kind P s Routing law = refused-routes P (complete_map s.last_map) (law.reads (NoMap ∷ []))
by-kind P s (OfTheDuo e) law = law.restarts e refl

-- so it is of an outcome
pub outcome-law : (P : Outcome → Type 0) (s : SessionState) (c : Command) (o : Outcome) → InDeed (λ d. P (seen s d)) (deed_of s c) → outcome s c ≡ Some o → P o
outcome-law P s c o law e = by (deed_of s c) law e
  where
    by : (d : Option Deed) → InDeed (λ d. P (seen s d)) d → option_map (seen s) d ≡ Some o → P o
    by None law e = cc
    by (Some d) law e = let same : seen s d ≡ o = cc in subst P same law
