-- Acts that may happen lead from each session's world to the next.
use Rattle.std.proofs.Common.{◌≡◌, ℕ, ◌≤◌, List, [], ◌∷◌, map, Option, Some, None, option_map, refl, sym, ap, ◌∙◌, subst, arith}
use Rattle.std.specs.List.{AllByRecursion}
use Rattle.net_defs.specs.declared.vertex.End.{End}
use Rattle.net_defs.specs.Network.{Network, IsFabric}
use Rattle.world_defs.specs.History.{CableHistory, IsHistory, fabric_at}
use Rattle.world_defs.specs.Crossed.{leaving}
use Rattle.world_defs.proofs.Now.{last_is_now}
use Rattle.world_defs.proofs.ActsKept.{CablesKept}
use Rattle.journal_defs.specs.declared.entry.Entry.{Entry}
use Rattle.world_defs.specs.declared.event.Event.{Event}
use Rattle.world_defs.specs.declared.event.Event.TheVariants.{Begin, Close, Provide, Send, Poll, Pull, Plug}
use Rattle.world_defs.specs.World.{WorldState, fabric_of, new_world, adopted_by}
use Rattle.world_defs.specs.Step.{step}
use Rattle.world_defs.specs.EightBits.{IsByteFault, IsByteEvent}
use Rattle.world_defs.proofs.LogRows.{settle-row, asks-row, install-row, byte_settles, byte_asks}
use Rattle.run_defs.specs.declared.command.Command.{Command}
use Rattle.run_defs.specs.declared.command.Command.TheVariants.{Map, Circuit, Begin as BeginCommand, Close as CloseCommand, Poll as PollCommand, Provide as ProvideCommand, Send as SendCommand, Plan, Step, Pull as PullCommand, Plug as PlugCommand}
use Rattle.run_defs.specs.declared.command.StepLine.{StepLine}
use Rattle.run_defs.specs.declared.command.StepLine.TheVariants.{Inject, GiveUp, Advance, Lose, Repeat, Hold, Reset, Flip, Expire, Replay}
use Rattle.run_defs.specs.Output.{Piece}
use Rattle.run_defs.specs.Session.{SessionState, LastRoutes, new_session}
use Rattle.run_defs.specs.Deed.{Deed, session_after}
use Rattle.run_defs.specs.Mapped.{asks_of}
use Rattle.run_defs.specs.Outcome.{on_channel, event_of, Kind, OneEvent, Planning, kind_of, outcome, set_of, installation}
use Rattle.run_defs.specs.Run.{IsDeed, Does, Runs, IsRun}
use Rattle.run_defs.specs.Run.IsDeed.{determined as deed_determined, maps as deed_maps, circuits as deed_circuits, routes as deed_routes}
use Rattle.run_defs.proofs.Doing.{Doing, doing, does-world, revoked-row}
use Rattle.run_defs.proofs.Doing.Doing.{determined, maps, circuits, routes}
use Rattle.run_defs.proofs.ByKind.{InDeed, EventsOf, IsLaw, by-kind, outcome-law}
use Rattle.run_defs.proofs.ByKind.EventsOf.{one as single, settles, revokes}
use Rattle.run_defs.specs.Run.Runs.{ended, goes_on}
use Rattle.world_defs.specs.Acts.{Happens, MayActAll, AreAdoptable}
use Rattle.table_laws.proofs.Dependencies.{installed-no_cycle}
use Rattle.run_defs.specs.Headline.{FitsFabric}
use Rattle.mapping_laws.specs.Runs.{IsSessionOf}
use Rattle.mapping_laws.specs.Held.{HoldsRight}
use Rattle.mapping_laws.proofs.Sessions.{does-keep, does-stays, new-session}
use Rattle.mapping_laws.proofs.Holding.{can-install, does-hold, new-holds}
use Rattle.run_laws.specs.Acts.{IsActOf, IsByteStep, RunIsReached, RunHasNoCycle}
use Rattle.run_laws.proofs.Ranked.{right_routes_are_adoptable}
use Rattle.install_laws.proofs.Leads.{Leads, leads-same, leads-both}

-- such a command is one over the fabric
command-of : (n : Network) (c : Command) → IsActOf n c → FitsFabric n c
command-of n (Map host depth tries) is = is
command-of n (Circuit host depth) is = is
command-of n (Plan ahead kind) is = is.1
command-of n c is = tt

-- routes that were adoptable when their map began
pub record WereAdoptable (h : CableHistory) (l : LastRoutes) : Type 0 where
  pub past : l.began ≤ h.changes
  pub may : AreAdoptable (fabric_at h l.began) l.routes

-- a session whose last routes were
abbrev pub LastAdoptable : SessionState → Type 0
LastAdoptable s = (l : LastRoutes) → s.last_routes ≡ Some l → WereAdoptable s.world.links.cables l

adoptable-past : (w v : WorldState) (l : LastRoutes) → CablesKept w v → WereAdoptable w.links.cables l → WereAdoptable v.links.cables l
adoptable-past w v l k is =
    let low = is.past in
    let more = k.changes in
    record { past = omega (arith, low, more); may = subst (λ n. AreAdoptable n l.routes) (sym (k.past l.began low)) is.may }

-- where no change came since, they are adoptable
pub adoptable-now : (w : WorldState) (l : LastRoutes) → IsHistory w.links.cables → l.began ≡ w.links.cables.changes → WereAdoptable w.links.cables l → AreAdoptable (fabric_of w) l.routes
adoptable-now w l is same were =
    let high : w.links.cables.changes ≤ l.began = omega (arith, same) in
    subst (λ n. AreAdoptable n l.routes) (last_is_now w.links.cables l.began is high) were.may

-- an event on a channel
channel-bytes : (w : WorldState) (at : End) (event : ℕ → Event) → ((c : ℕ) → IsByteEvent (event c)) → (e : Event) → on_channel w at event ≡ Some e → IsByteEvent e
channel-bytes w at event low e is = by (leaving w.links.cables at) refl is
  where
    by : (o : Option ℕ) → leaving w.links.cables at ≡ o → option_map event o ≡ Some e → IsByteEvent e
    by None p q = cc
    by (Some c) p q = let one : event c ≡ e = cc in subst IsByteEvent one (low c)

some-bytes : (d e : Event) → Some d ≡ Some e → IsByteEvent d → IsByteEvent e
some-bytes d e p low = let one : d ≡ e = cc in subst IsByteEvent one low

pub event-bytes : (w : WorldState) (line : StepLine) → IsByteStep line → (e : Event) → event_of w line ≡ Some e → IsByteEvent e
event-bytes w (Inject h) low e is = some-bytes (Event.Inject h) e is tt
event-bytes w (GiveUp h) low e is = some-bytes (Event.GiveUp h) e is tt
event-bytes w (Advance at) low e is = channel-bytes w at Event.Advance (λ c. tt) e is
event-bytes w (Lose at) low e is = channel-bytes w at Event.Lose (λ c. tt) e is
event-bytes w (Repeat at) low e is = channel-bytes w at Event.Repeat (λ c. tt) e is
event-bytes w (Hold at) low e is = channel-bytes w at Event.Hold (λ c. tt) e is
event-bytes w (Reset at) low e is = channel-bytes w at Event.Reset (λ c. tt) e is
event-bytes w (Flip at bit pattern) low e is = channel-bytes w at (λ c. Event.Flip c bit pattern) (λ c. low) e is
event-bytes w (Expire h peer) low e is = some-bytes (Event.Expire h peer) e is tt
event-bytes w (Replay serial) low e is = some-bytes (Event.Replay serial) e is tt

-- events of eight bits at most may happen
pub events-may : (w : WorldState) (es : List Event) → AllByRecursion IsByteEvent es → MayActAll w (map Happens es)
events-may w [] all = tt
events-may w (e ∷ es) all = (all.0, events-may (step w e).1 es all.1)

-- such a command is of such a kind
abbrev IsActOfKind : Kind → Type 0
IsActOfKind (OneEvent event print) = (w : WorldState) (e : Event) → event w ≡ Some e → IsByteEvent e
IsActOfKind (Planning ahead fault) = (1 ≤ ahead) × IsByteFault fault
IsActOfKind _ = Unit {0}

act-kind : (n : Network) (c : Command) → IsActOf n c → IsActOfKind (kind_of c)
act-kind n (BeginCommand h port sends recvs) of_n = λ w e is. some-bytes (Begin h port sends recvs) e is tt
act-kind n (CloseCommand h port) of_n = λ w e is. some-bytes (Close h port) e is tt
act-kind n (PollCommand h port) of_n = λ w e is. some-bytes (Poll h port) e is tt
act-kind n (ProvideCommand h port size prio) of_n = λ w e is. some-bytes (Provide h port size prio) e is tt
act-kind n (SendCommand h port dest dport prio len seed) of_n = λ w e is. some-bytes (Send h port dest dport prio len seed) e is tt
act-kind n (PullCommand at) of_n = λ w e is. some-bytes (Pull at) e is tt
act-kind n (PlugCommand a b) of_n = λ w e is. some-bytes (Plug a b) e is tt
act-kind n (Step line) of_n = λ w e is. event-bytes w line of_n e is
act-kind n (Plan ahead kind) of_n = of_n
act-kind n c of_n = tt

kind-bytes : (s : SessionState) {k : Kind} {es : List Event} → IsActOfKind k → EventsOf s k es → AllByRecursion IsByteEvent es
kind-bytes s of_k (single e is) = (of_k s.world e is, tt)
kind-bytes s of_k settles = (settle-row byte_settles s.world).kinds
kind-bytes s of_k revokes = (revoked-row {Q = IsByteEvent} (λ h. tt) s.world).kinds

-- the acts of a deed may happen
abbrev MayAll : SessionState → Deed → Type 0
MayAll s d = MayActAll s.world d.acts

may-law : (s : SessionState) (k : Kind) → IsActOfKind k → IsHistory s.world.links.cables → LastAdoptable s → IsLaw (MayAll s) s k
may-law s k of_k history adoptable = record {
  reads = λ ls. tt;
  happens = λ es ls are. events-may s.world es (kind-bytes s of_k are);
  plans = λ ahead fault is. (subst IsActOfKind is of_k, tt);
  installs = λ l tries is are may.
      let can = can-install s.world l may in
      let w : WorldState = adopted_by s.world l.mapper l.routes in (
        (adoptable-now s.world l history can.0 (adoptable l are), can.1),
        events-may w (installation s.world l tries).events (install-row {Q = IsByteEvent} byte_asks (λ dst part. tt) (set_of s.world l) l.hosts tries w).kinds,
      );
  restarts = λ e is. tt;
}

-- a session that a run of such commands leads to
pub record IsLed (n : Network) (s : SessionState) : Type 0 where
  pub session : IsSessionOf n s
  pub holds : HoldsRight s
  pub leads : Leads (new_world n) s.world
  pub adoptable : LastAdoptable s

kept-adoptable : (h : CableHistory) (r l : LastRoutes) → WereAdoptable h r → Some r ≡ Some l → WereAdoptable h l
kept-adoptable h r l may e = let one : r ≡ l = cc in subst (WereAdoptable h) one may

led-on : (n : Network) (s next : SessionState) → IsSessionOf n next → HoldsRight next → IsLed n s → Leads s.world next.world → LastAdoptable next → IsLed n next
led-on n s next session holds led leads may = record { session = session; holds = holds; leads = leads-both (new_world n) s.world next.world led.leads leads; adoptable = may }

pub deed-may : {s : SessionState} {c : Command} {d : Deed} → (n : Network) → IsActOf n c → IsLed n s → IsDeed s c d → MayActAll s.world d.acts
deed-may {s = s} {c = c} n of_n led (deed_determined e) =
    subst (InDeed (MayAll s)) e (by-kind (MayAll s) s (kind_of c) (may-law s (kind_of c) (act-kind n c of_n) led.session.history led.adoptable))
deed-may {s = s} n of_n led (deed_maps {host = host} {tries = tries} after j m words idle made is) =
    let row = asks-row {Q = IsByteEvent} byte_asks (λ h walk looped. tt) s.world.links.cables.changes host tries (map (λ (e : Entry). e.walk) j) s.world in
    subst (MayAll s) (sym is) (events-may s.world (asks_of host tries j s.world).events row.kinds)
deed-may {s = s} n of_n led (deed_circuits out told is) = subst (MayAll s) (sym is) tt
deed-may {s = s} n of_n led (deed_routes l found complete are is) = subst (MayAll s) (sym is) tt

-- the last routes, after a command
abbrev SameRoutes : SessionState → SessionState → Type 0
SameRoutes s next = next.last_routes ≡ s.last_routes

routes-law : (s : SessionState) (k : Kind) → IsLaw (λ d. SameRoutes s (session_after s d)) s k
routes-law s k = record {
  reads = λ ls. refl;
  happens = λ es ls are. refl;
  plans = λ ahead fault is. refl;
  installs = λ l tries is are may. refl;
  restarts = λ e is. refl;
}

adoptable-so : {s next : SessionState} {c : Command} {out : List Piece} → (n : Network) → IsLed n s → CablesKept s.world next.world → Doing s c out next → LastAdoptable next
adoptable-so {s = s} {next = next} {c = c} {out = out} n led kept (determined e) =
    let same = outcome-law (λ o. SameRoutes s o.after) s c (record { output = out; after = next }) (by-kind (λ d. SameRoutes s (session_after s d)) s (kind_of c) (routes-law s (kind_of c))) e in
    λ l is. adoptable-past s.world next.world l kept (led.adoptable l (sym same ∙ is))
adoptable-so {s = s} {next = next} n led kept (maps after j m words idle made printed left) =
    let same = ap (λ (x : SessionState). x.last_routes) left in
    λ l is. adoptable-past s.world next.world l kept (led.adoptable l (sym same ∙ is))
adoptable-so n led kept (circuits told left) = subst LastAdoptable (sym left) led.adoptable
adoptable-so {s = s} n led kept (routes l found complete are printed left) =
    let k = led.holds.complete l complete in
    let past : Network = fabric_at s.world.links.cables l.began in
    let may = right_routes_are_adoptable past l.mapper l.made found (led.session.history.fabrics l.began) k.right.rules k.right.right are in
    subst LastAdoptable (sym left) (λ x is. kept-adoptable s.world.links.cables _ x (record { past = k.past; may = may }) is)

does-lead : {s next : SessionState} {c : Command} {out : List Piece} → (n : Network) → IsActOf n c → IsLed n s → Does s c out next → Leads s.world next.world × LastAdoptable next
does-lead {c = c} n of_n led d =
    let kept = (does-keep n (command-of n c of_n) d).cables in
    (record { acts = d.deed.acts; may = deed-may n of_n led d.is; there = does-world d }, adoptable-so n led kept (doing d))

runs-lead : {s last : SessionState} {cs : List Command} {out : List Piece} → (n : Network) → AllByRecursion (IsActOf n) cs → IsLed n s → Runs s cs out last → IsLed n last
runs-lead n all led ended = led
runs-lead {s = s} n all led (goes_on {next = next} {c = c} d r e) =
    let of_n = command-of n c all.0 in
    let on = does-lead n all.0 led d in
    runs-lead n all.1 (led-on n s next (does-stays n of_n led.session d) (does-hold n of_n led.session led.holds d) led on.0 on.1) r

pub run-led : (n : Network) (commands : List Command) (out : List Piece) (last : SessionState) → IsFabric n → AllByRecursion (IsActOf n) commands → IsRun n commands out last → IsLed n last
run-led n commands out last f all r =
    let start : IsLed n (new_session n) = record { session = new-session n f; holds = new-holds n; leads = leads-same (new_world n); adoptable = λ l e. cc } in runs-lead n all start r

pub run_is_reached : RunIsReached
run_is_reached n commands out last f all r =
    let led = run-led n commands out last f all r in
    record { fabric = f; acts = led.leads.acts; may = led.leads.may; leads = led.leads.there }

pub run_has_no_cycle : RunHasNoCycle
run_has_no_cycle n commands out last f all r = installed-no_cycle n last.world (run_is_reached n commands out last f all r)
