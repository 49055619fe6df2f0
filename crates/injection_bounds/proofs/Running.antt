-- Every command costs a bounded number of injections, and so does every run.
use Rattle.std.proofs.Common.{◌≡◌, ◌≤◌, ◌+◌, ◌*◌, ℕ, Bool, true, false, not, List, [], ◌∷◌, ◌++◌, map, length, Option, Some, None, refl, sym, ap, ◌∙◌, subst, arith, if◌then◌else◌}
use Rattle.std.specs.List.{AllByRecursion, filter, list_any}
use Rattle.std.proofs.lemmas.List.{length-map}
use Rattle.std.proofs.lemmas.List.FromFn.{length-range_with_len}
use Rattle.std.specs.Prelude.{nat_eq, ℤ}
use Rattle.net_defs.specs.Network.{Network, IsFabric}
use Rattle.net_defs.proofs.Distinct.{all-weaker, all-push}
use Rattle.world_defs.specs.History.{fabric_at}
use Rattle.map_defs.specs.NetMap.{NetMap, hosts_of}
use Rattle.world_defs.specs.declared.event.Event.{Event}
use Rattle.world_defs.specs.World.{WorldState, host_count, addresses, adopted_by}
use Rattle.world_defs.specs.Step.{step, steps}
use Rattle.world_defs.specs.Logs as log
use Rattle.world_laws.proofs.Along.{Along, row-along}
use Rattle.world_laws.proofs.Leaves.{IsNoCall}
use Rattle.message_laws.proofs.Known.{reached-count}
use Rattle.world_defs.specs.Acts.{Happens, Plans, acted_all, IsReached}
use Rattle.run_defs.specs.declared.command.Command.{Command}
use Rattle.run_defs.specs.declared.command.Command.TheVariants.{Install}
use Rattle.run_defs.specs.Output.{Piece}
use Rattle.run_defs.specs.Session.{SessionState, LastRoutes}
use Rattle.run_defs.specs.Deed.{session_after}
use Rattle.run_defs.specs.Outcome.{Kind, Installing, kind_of, Outcome, outcome, set_of, installation, revocations}
use Rattle.run_defs.specs.Run.{Runs, IsRun, hosts_by_address}
use Rattle.run_defs.proofs.Doing.{Doing, doing, acted-settle, acted-installation, revoked-row, acted-revocations}
use Rattle.run_defs.proofs.Doing.Doing.{determined, maps, circuits, routes}
use Rattle.run_defs.proofs.ByKind.{EventsOf, IsLaw, by-kind, outcome-law}
use Rattle.run_defs.proofs.ByKind.EventsOf.{one as single, settles, revokes}
use Rattle.run_defs.specs.Run.Runs.{ended, goes_on}
use Rattle.fab_script.specs.Ranges.{IsCommandOf}
use Rattle.run_laws.specs.Acts.{IsActOf}
use Rattle.run_laws.proofs.Reaching.{run-led, run_is_reached}
use Rattle.run_laws.proofs.RunsOnce.{runs-more}
use Rattle.run_laws.proofs.InstallLines.{run-set}
use Rattle.promise_laws.proofs.Said.{said-act}
use Rattle.injection_bounds.specs.Paid.{event_cost}
use Rattle.injection_bounds.specs.Settled.{pledged}
use Rattle.injection_bounds.specs.Commands.{HasFewParts}
use Rattle.injection_bounds.proofs.Settling.{settle-costs}
use Rattle.injection_bounds.proofs.Asking.{event-pledged, install-costs}
use Rattle.injection_bounds.proofs.Events.{act-costs, adopts-pledged}
use Rattle.injection_bounds.specs.Runs.{command_cost, RunsInjectFew}
use Rattle.injection_bounds.proofs.Asks.{asks-cost, few-asks}
use Rattle.injection_bounds.proofs.Parts.{set-parts}
use Rattle.injection_bounds.proofs.Starting.{new-pledged}

-- What is known of a session's last routes: they are for few hosts, and give each few parts.
record IsSmall (l : LastRoutes) : Type 0 where
  hosts : length l.hosts ≤ 128
  parts : (w : WorldState) → HasFewParts (set_of w l)

abbrev KeepsSmall : SessionState → Type 0
KeepsSmall s = (l : LastRoutes) → s.last_routes ≡ Some l → IsSmall l

-- a command costs so much, and leaves the last routes
abbrev Costs : SessionState → SessionState → Type 0
Costs s next = (pledged next.world ≤ pledged s.world + command_cost) × (next.last_routes ≡ s.last_routes)

event-costs : (n : Network) (w : WorldState) (e : Event) → IsReached n w → pledged (step w e).1 ≤ pledged w + command_cost
event-costs n w e r = let h = act-costs n w (Happens e) r in omega (arith, h)

-- an installation
install-now-costs : (w : WorldState) (l : LastRoutes) (tries : ℕ) → tries ≤ 8 → IsSmall l → pledged (installation w l tries).world ≤ pledged w + command_cost
install-now-costs w l tries few small =
    let a = adopts-pledged w l.mapper l.routes in
    let b = install-costs (set_of w l) l.hosts tries (adopted_by w l.mapper l.routes) few (small.parts w) in
    let c = small.hosts in
    omega (arith, a, b, c)

settle-cost : (n : Network) (s : SessionState) → IsReached n s.world → pledged (log.settle s.world).world ≤ pledged s.world + command_cost
settle-cost n s r =
    let cost = settle-costs n s.world r in
    omega (arith, cost)

-- hosts that give up the epoch one after another: each brings nothing
abbrev BringsNothing : Event → Type 0
BringsNothing e = IsNoCall e × ((w : WorldState) → event_cost w e ≡ 0)

abbrev NoDearer : WorldState → WorldState → Type 0
NoDearer u v = pledged v ≤ pledged u

revoked-costs : (w : WorldState) → pledged (steps w (revocations w)).1 ≤ pledged w + command_cost
revoked-costs w =
    let event : (v : WorldState) (e : Event) → BringsNothing e → NoDearer v (step v e).1 = λ v e q. let a = event-pledged v e q.0 in let b = q.1 v in omega (arith, a, b) in
    let along : Along NoDearer BringsNothing = record { same = λ v. omega arith; both = λ t u v a b. omega (arith, a, b); event = event } in
    let cost : pledged (steps w (revocations w)).1 ≤ pledged w = row-along along (revoked-row {Q = BringsNothing} (λ h. (tt, λ v. refl)) w) in
    omega (arith, cost)

-- the kinds of the commands of a script
abbrev IsCheapKind : Kind → Type 0
IsCheapKind (Installing tries) = tries ≤ 8
IsCheapKind _ = Unit {0}

cheap-kind : (n : Network) (c : Command) → IsCommandOf n c → IsCheapKind (kind_of c)
cheap-kind n (Install tries) said = said.1
cheap-kind n c said = tt

happens-costs : (n : Network) (s : SessionState) {k : Kind} {es : List Event} → IsReached n s.world → EventsOf s k es → pledged (acted_all s.world (map Happens es)) ≤ pledged s.world + command_cost
happens-costs n s r (single e is) = event-costs n s.world e r
happens-costs n s r settles = subst (λ v. pledged v ≤ pledged s.world + command_cost) (sym (acted-settle s.world)) (settle-cost n s r)
happens-costs n s r revokes = subst (λ v. pledged v ≤ pledged s.world + command_cost) (sym (acted-revocations s.world)) (revoked-costs s.world)

costs-law : (n : Network) (s : SessionState) (k : Kind) → IsCheapKind k → IsReached n s.world → KeepsSmall s → IsLaw (λ d. Costs s (session_after s d)) s k
costs-law n s k cheap r small = record {
  reads = λ ls. (omega arith, refl);
  happens = λ es ls are. (happens-costs n s r are, refl);
  plans = λ ahead fault is. (let h = act-costs n s.world (Plans ahead fault) r in omega (arith, h), refl);
  installs = λ l tries is are may. (
    subst (λ v. pledged v ≤ pledged s.world + command_cost) (sym (acted-installation s.world l tries)) (install-now-costs s.world l tries (subst IsCheapKind is cheap) (small l are)),
    refl,
  );
  restarts = λ e is. (omega arith, refl);
}

outcome-costs : (n : Network) (s : SessionState) (c : Command) (o : Outcome) → IsCommandOf n c → IsReached n s.world → KeepsSmall s → outcome s c ≡ Some o → Costs s o.after
outcome-costs n s c o said r small e = outcome-law (λ o. Costs s o.after) s c o (by-kind (λ d. Costs s (session_after s d)) s (kind_of c) (costs-law n s (kind_of c) (cheap-kind n c said) r small)) e

-- every command
costs-so : {s next : SessionState} {c : Command} {out : List Piece} → (n : Network) → IsCommandOf n c → IsReached n s.world → KeepsSmall s → Doing s c out next → pledged next.world ≤ pledged s.world + command_cost
costs-so {s = s} {next = next} {c = c} {out = out} n said r small (determined e) = (outcome-costs n s c (record { output = out; after = next }) said r small e).0
costs-so {s = s} {next = next} n said r small (maps {host = host} {depth = depth} {tries = tries} after j m words idle made printed left) =
    let walks : List (List ℤ) = map (λ e. e.walk) j in
    let cost = asks-cost s.world.links.cables.changes host tries walks s.world said.2.1 in
    let many : length walks ≡ length j = length-map j (λ e. e.walk) in
    let few = few-asks host depth j made.grown in
    let same : pledged after ≡ pledged (log.asks s.world.links.cables.changes host tries walks s.world).world = ap pledged made.led in
    let last : pledged next.world ≡ pledged after = ap (λ (x : SessionState). pledged x.world) left in
    omega (arith, cost, many, few, same, last)
costs-so {s = s} {next = next} n said r small (circuits told left) = let same : pledged next.world ≡ pledged s.world = ap (λ (x : SessionState). pledged x.world) left in omega (arith, same)
costs-so {s = s} {next = next} n said r small (routes l found complete are printed left) = let same : pledged next.world ≡ pledged s.world = ap (λ (x : SessionState). pledged x.world) left in omega (arith, same)

-- the last routes stay small: those of a map are for hosts of the fabric
filter-few : (t : ℕ → Bool) (xs : List ℕ) → length (filter t xs) ≤ length xs
filter-few t [] = omega arith
filter-few t (x ∷ xs) = by (t x) (filter-few t xs)
  where
    by : (b : Bool) → length (filter t xs) ≤ length xs → length (if b then x ∷ filter t xs else filter t xs) ≤ length (x ∷ xs)
    by true h = omega (arith, h)
    by false h = omega (arith, h)

abbrev FewHosts : SessionState → Type 0
FewHosts s = (l : LastRoutes) → s.last_routes ≡ Some l → length l.hosts ≤ 128

map-hosts : (n : Network) (w : WorldState) (m : NetMap) → IsReached n w → length (hosts_by_address w m) ≤ 128
map-hosts n w m r =
    let a = filter-few (λ h. list_any (nat_eq h) (hosts_of m.vertices)) (addresses w) in
    let b : length (addresses w) ≡ host_count w = length-range_with_len 0 (host_count w) in
    let c = reached-count n w r in
    let d = r.fabric.few_hosts in
    omega (arith, a, b, c, d)

kept-few : (r l : LastRoutes) → length r.hosts ≤ 128 → Some r ≡ Some l → length l.hosts ≤ 128
kept-few r l low e = let one : r ≡ l = cc in subst (λ (x : LastRoutes). length x.hosts ≤ 128) one low

few-so : {s next : SessionState} {c : Command} {out : List Piece} → (n : Network) → IsCommandOf n c → IsReached n s.world → KeepsSmall s → FewHosts s → Doing s c out next → FewHosts next
few-so {s = s} {next = next} {c = c} {out = out} n said r small few (determined e) = let k = (outcome-costs n s c (record { output = out; after = next }) said r small e).1 in λ l is. few l (sym k ∙ is)
few-so n said r small few (maps after j m words idle made printed left) = subst FewHosts (sym left) few
few-so n said r small few (circuits told left) = subst FewHosts (sym left) few
few-so {s = s} n said r small few (routes l found complete are printed left) =
    subst FewHosts (sym left) (λ x is. kept-few (record { mapper = l.mapper; hosts = hosts_by_address s.world l.made; routes = found; began = l.began }) x (map-hosts n s.world l.made r) is)

-- every run
module _ (n : Network) (f : IsFabric n) where
  small-after : (done : List Command) (out : List Piece) (s : SessionState) → AllByRecursion (IsCommandOf n) done → IsRun n done out s → FewHosts s → KeepsSmall s
  small-after done out s said run few l is =
      let acts : AllByRecursion (IsActOf n) done = all-weaker (IsCommandOf n) (IsActOf n) done (said-act n) said in
      let past : IsFabric (fabric_at s.world.links.cables l.began) = (run-led n done out s f acts run).session.history.fabrics l.began in
      record { hosts = few l is; parts = λ w. set-parts s.world.links.cables w l past (run-set n done out s l f acts run is) }

  reached-after : (done : List Command) (out : List Piece) (s : SessionState) → AllByRecursion (IsCommandOf n) done → IsRun n done out s → IsReached n s.world
  reached-after done out s said run = run_is_reached n done out s f (all-weaker (IsCommandOf n) (IsActOf n) done (said-act n) said) run

  runs-cost : {s last : SessionState} {cs : List Command} {rest : List Piece} → (done : List Command) (out : List Piece) → AllByRecursion (IsCommandOf n) done → AllByRecursion (IsCommandOf n) cs → IsRun n done out s → FewHosts s → Runs s cs rest last
      → pledged last.world ≤ pledged s.world + command_cost * length cs
  runs-cost done out before said run few ended = omega arith
  runs-cost {s = s} {last = last} done out before said run few (goes_on {next = next} {c = c} {cs = cs} {out = printed} d r e) =
      let reached = reached-after done out s before run in
      let small = small-after done out s before run few in
      let one = costs-so n said.0 reached small (doing d) in
      let rest = runs-cost (done ++ c ∷ []) (out ++ printed) (all-push (IsCommandOf n) done c before said.0) said.1 (runs-more c printed run d) (few-so n said.0 reached small few (doing d)) r in
      omega (arith, one, rest)

pub runs-inject-few : RunsInjectFew
runs-inject-few n commands out last f said run =
    let cost = runs-cost n f [] [] tt said ended (λ l e. cc) run in
    let start = new-pledged n in
    omega (arith, cost, start)
