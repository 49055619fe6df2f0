-- The acts of a run of commands that a generated text has: what holds of each of their acts.
use Rattle.std.proofs.Common.{ℕ, ℤ, Bool, List, [], ◌∷◌, map, subst, sym}
use Rattle.std.specs.List.{AllByRecursion}
use Rattle.net_defs.specs.declared.route.Route.{Route}
use Rattle.journal_defs.specs.declared.entry.Entry.{Entry}
use Rattle.journal_defs.proofs.Members.{all-join}
use Rattle.world_defs.specs.declared.event.Event.{Event}
use Rattle.world_defs.specs.declared.event.Event.TheVariants.{Ask, Part, Begin as BeginEvent, Provide as ProvideEvent, Send as SendEvent}
use Rattle.world_defs.specs.Acts.{Act, Happens, Plans, Adopts}
use Rattle.world_defs.specs.World.{adopted_by}
use Rattle.world_defs.proofs.LogRows.{AsksBy, SettlesBy, asks-row, install-row, settle-row}
use Rattle.run_defs.specs.declared.command.Command.{Command}
use Rattle.run_defs.specs.declared.command.Command.TheVariants.{Map, Routes, Install, Begin, Provide, Send, Plan, Settle}
use Rattle.run_defs.specs.Deed.{Deed}
use Rattle.run_defs.specs.Outcome.{fault_of, set_of, deed_of}
use Rattle.run_defs.specs.Output.{Piece}
use Rattle.run_defs.specs.Run.{IsDeed, Runs}
use Rattle.run_defs.specs.Run.IsDeed.{determined, maps, circuits, routes}
use Rattle.run_defs.specs.Run.Runs.{ended, goes_on}
use Rattle.run_defs.specs.Session.{SessionState, complete_map}
use Rattle.run_defs.proofs.ByKind.{InDeed, refused-map, refused-routes, by-install}
use Rattle.promise_laws.specs.CommandActs.{acts_of}

-- It holds of what asks, installations and settles are made of, and of adoptions.
pub record HoldsOfLogs (P : Act → Type 0) : Type 0 where
  pub asks : AsksBy (λ e. P (Happens e))
  pub ask : (h : ℕ) (walk : List ℤ) (looped : Bool) → P (Happens (Ask h walk looped))
  pub part : (dst part : ℕ) → P (Happens (Part dst part))
  pub settles : SettlesBy (λ e. P (Happens e))
  pub adopts : (mapper : ℕ) (rs : List Route) → P (Adopts mapper rs)

-- It holds of the act of a command that is one.
abbrev pub HoldsOf : (Act → Type 0) → Command → Type 0
HoldsOf P (Map host depth tries) = Unit {0}
HoldsOf P Routes = Unit {0}
HoldsOf P (Install tries) = Unit {0}
HoldsOf P (Begin host port sends recvs) = P (Happens (BeginEvent host port sends recvs))
HoldsOf P (Provide host port size prio) = P (Happens (ProvideEvent host port size prio))
HoldsOf P (Send host port dest dport prio len seed) = P (Happens (SendEvent host port dest dport prio len seed))
HoldsOf P (Plan ahead kind) = P (Plans ahead (fault_of kind))
HoldsOf P Settle = Unit {0}
HoldsOf P _ = ⊥

all-happens : (P : Act → Type 0) (es : List Event) → AllByRecursion (λ e. P (Happens e)) es → AllByRecursion P (map Happens es)
all-happens P [] all = tt
all-happens P (e ∷ es) all = (all.0, all-happens P es all.1)

module _ (P : Act → Type 0) (l : HoldsOfLogs P) where
  abbrev ActsSo : Deed → Type 0
  ActsSo d = AllByRecursion P d.acts

  deed-acts : (s : SessionState) (c : Command) → HoldsOf P c → InDeed ActsSo (deed_of s c)
  deed-acts s (Map host depth tries) is = refused-map ActsSo s.world host tt
  deed-acts s Routes is = refused-routes ActsSo (complete_map s.last_map) tt
  deed-acts s (Install tries) is =
      by-install ActsSo s.world tries s.last_routes (λ cause. tt)
      (λ r are may. (l.adopts r.mapper r.routes, all-happens P _ (install-row l.asks l.part (set_of s.world r) r.hosts tries (adopted_by s.world r.mapper r.routes)).kinds))
  deed-acts s (Begin host port sends recvs) is = (is, tt)
  deed-acts s (Provide host port size prio) is = (is, tt)
  deed-acts s (Send host port dest dport prio len seed) is = (is, tt)
  deed-acts s (Plan ahead kind) is = (is, tt)
  deed-acts s Settle is = all-happens P _ (settle-row l.settles s.world).kinds
  deed-acts s c is = absurd is

  is-acts : {s : SessionState} {c : Command} {d : Deed} → HoldsOf P c → IsDeed s c d → ActsSo d
  is-acts {s = s} {c = c} is (determined e) = subst (InDeed ActsSo) e (deed-acts s c is)
  is-acts {s = s} is (maps {host = host} {tries = tries} after j m words idle made same) =
      subst ActsSo (sym same) (all-happens P _ (asks-row l.asks l.ask s.world.links.cables.changes host tries (map (λ (e : Entry). e.walk) j) s.world).kinds)
  is-acts is (circuits out told same) = absurd is
  is-acts is (routes r found complete are same) = subst ActsSo (sym same) tt

  pub runs-acts : {s last : SessionState} {cs : List Command} {out : List Piece} → AllByRecursion (HoldsOf P) cs → (r : Runs s cs out last) → AllByRecursion P (acts_of r)
  runs-acts all ended = tt
  runs-acts all (goes_on d r e) = all-join P d.deed.acts (acts_of r) (is-acts all.0 d.is) (runs-acts all.1 r)
