-- What the acts of each command keep of its session's world, and so every run.
use Rattle.std.proofs.Common.{◌≡◌, ◌<◌, ◌≤◌, ℕ, true, List, [], ◌∷◌, map, length, sym, ◌∙◌, ap, subst, arith}
use Rattle.std.specs.List.{AllByRecursion}
use Rattle.net_defs.specs.Network.{Network, IsFabric}
use Rattle.world_defs.specs.Acts.{Act, Happens, Plans, Adopts, acted, acted_all}
use Rattle.world_defs.proofs.Cables.{new-cables}
use Rattle.journal_defs.specs.declared.entry.Entry.{Entry}
use Rattle.world_defs.specs.Links.{is_idle}
use Rattle.world_defs.specs.declared.event.Event.{Event}
use Rattle.world_defs.specs.World.{WorldState}
use Rattle.world_defs.specs.EightBits.{IsByteFault}
use Rattle.world_defs.specs.Logs as log
use Rattle.world_laws.proofs.Shapes.{new-world}
use Rattle.run_defs.specs.declared.command.Command.{Command}
use Rattle.run_defs.specs.declared.command.Command.TheVariants.{Map, Plan}
use Rattle.run_defs.specs.Output.{Piece}
use Rattle.run_defs.specs.Session.{SessionState, new_session}
use Rattle.run_defs.specs.Outcome.{Kind, Planning, kind_of, installation}
use Rattle.run_defs.specs.Deed.{Deed}
use Rattle.run_defs.specs.Mapped.{asks_of}
use Rattle.run_defs.specs.Run.{IsDeed, Does, Runs}
use Rattle.run_defs.specs.Run.IsDeed.{determined, maps, circuits, routes}
use Rattle.run_defs.proofs.Doing.{does-world}
use Rattle.run_defs.proofs.ByKind.{InDeed, IsLaw, by-kind}
use Rattle.run_defs.specs.Run.Runs.{ended, goes_on}
use Rattle.mapping_laws.specs.Laws.{CanMap}
use Rattle.run_defs.specs.Headline.{FitsFabric}
use Rattle.mapping_laws.specs.Runs.{IsSessionOf, RunKeepsWorld}
use Rattle.install_laws.proofs.Worlds.{Stays, stays-same, stays-both, stays-event, stays-plan, stays-adopted, stays-asked}

-- a plan is of eight bits
abbrev IsPlanned : Act → Type 0
IsPlanned (Happens e) = Unit {0}
IsPlanned (Plans ahead fault) = IsByteFault fault
IsPlanned (Adopts mapper set) = Unit {0}

stays-act : (w : WorldState) (a : Act) → IsPlanned a → Stays w (acted w a)
stays-act w (Happens e) is = stays-event w e
stays-act w (Plans ahead fault) is = stays-plan w ahead fault is
stays-act w (Adopts mapper set) is = stays-adopted w mapper set

-- acts with such plans keep the world
stays-acts : (w : WorldState) (acts : List Act) → AllByRecursion IsPlanned acts → Stays w (acted_all w acts)
stays-acts w [] all = stays-same w
stays-acts w (a ∷ acts) all = stays-both w (acted w a) (acted_all (acted w a) acts) (stays-act w a all.0) (stays-acts (acted w a) acts all.1)

events-planned : (es : List Event) → AllByRecursion IsPlanned (map Happens es)
events-planned [] = tt
events-planned (e ∷ es) = (tt, events-planned es)

-- and those of a command are such
abbrev ArePlanned : Deed → Type 0
ArePlanned d = AllByRecursion IsPlanned d.acts

abbrev IsPlannedKind : Kind → Type 0
IsPlannedKind (Planning ahead fault) = IsByteFault fault
IsPlannedKind _ = Unit {0}

planned-kind : (n : Network) (c : Command) → FitsFabric n c → IsPlannedKind (kind_of c)
planned-kind n (Plan ahead kind) of_n = of_n
planned-kind n c of_n = tt

planned-law : (s : SessionState) (k : Kind) → IsPlannedKind k → IsLaw ArePlanned s k
planned-law s k of_k = record {
  reads = λ ls. tt;
  happens = λ es ls are. events-planned es;
  plans = λ ahead fault is. (subst IsPlannedKind is of_k, tt);
  installs = λ l tries is are may. (tt, events-planned (installation s.world l tries).events);
  restarts = λ e is. tt;
}

deed-planned : {s : SessionState} {c : Command} {d : Deed} → (n : Network) → FitsFabric n c → IsDeed s c d → ArePlanned d
deed-planned {s = s} {c = c} n of_n (determined e) = subst (InDeed ArePlanned) e (by-kind ArePlanned s (kind_of c) (planned-law s (kind_of c) (planned-kind n c of_n)))
deed-planned {s = s} n of_n (maps {host = host} {tries = tries} after j m words idle made is) = subst ArePlanned (sym is) (events-planned (asks_of host tries j s.world).events)
deed-planned n of_n (circuits out told is) = subst ArePlanned (sym is) tt
deed-planned n of_n (routes l found complete are is) = subst ArePlanned (sym is) tt

session-stays : (n : Network) (s next : SessionState) → Stays s.world next.world → IsSessionOf n s → IsSessionOf n next
session-stays n s next k is = record {
  history = k.cables.history is.history;
  first = k.cables.past 0 (omega arith) ∙ is.first;
  world = k.world is.world;
  byte_flips = k.bytes is.byte_flips;
}

-- a map that is made
pub mapped-stays : (w after : WorldState) (host tries : ℕ) (j : List Entry) → after ≡ (log.asks w.links.cables.changes host tries (map (λ (e : Entry). e.walk) j) w).world → Stays w after
mapped-stays w after host tries j led = subst (Stays w) (sym led) (stays-asked w.links.cables.changes host tries (map (λ (e : Entry). e.walk) j) w)

-- the mapper of a session can map
pub can-map : (n : Network) (s : SessionState) (host depth : ℕ) → host < length n.hosts → depth ≤ 65 → IsSessionOf n s → is_idle s.world.links ≡ true → CanMap host depth s.world
can-map n s host depth there low is idle = record {
  history = is.history;
  world = is.world;
  idle = idle;
  is_host = subst (λ k. host < k) (sym (is.world.hosts ∙ ap (λ (x : Network). length x.hosts) is.first)) there;
  byte_flips = is.byte_flips;
  shallow = low;
}

pub can-map-now : (n : Network) (s : SessionState) (host depth tries : ℕ) → FitsFabric n (Map host depth tries) → IsSessionOf n s → is_idle s.world.links ≡ true → CanMap host depth s.world
can-map-now n s host depth tries of_n is idle = can-map n s host depth of_n.0 of_n.1 is idle

pub does-keep : {s next : SessionState} {c : Command} {out : List Piece} → (n : Network) → FitsFabric n c → Does s c out next → Stays s.world next.world
does-keep {s = s} n of_n d = subst (Stays s.world) (sym (does-world d)) (stays-acts s.world d.deed.acts (deed-planned n of_n d.is))

pub does-stays : {s next : SessionState} {c : Command} {out : List Piece} → (n : Network) → FitsFabric n c → IsSessionOf n s → Does s c out next → IsSessionOf n next
does-stays {s = s} {next = next} n of_n is d = session-stays n s next (does-keep n of_n d) is

runs-stay : {s last : SessionState} {cs : List Command} {out : List Piece} → (n : Network) → AllByRecursion (FitsFabric n) cs → IsSessionOf n s → Runs s cs out last → IsSessionOf n last
runs-stay n all is ended = is
runs-stay n all is (goes_on d r e) = runs-stay n all.1 (does-stays n all.0 is d) r

pub new-session : (n : Network) → IsFabric n → IsSessionOf n (new_session n)
new-session n f = let k = new-cables n f in record { history = k.history; first = k.first; world = new-world n; byte_flips = tt }

pub run_keeps_world : RunKeepsWorld
run_keeps_world n commands out last f all r = runs-stay n all (new-session n f) r
