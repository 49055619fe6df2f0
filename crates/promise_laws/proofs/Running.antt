-- A run exists: each command does something in the session after a run.
use Rattle.std.proofs.Common.{◌≡◌, ℕ, Bool, true, false, List, [], ◌∷◌, ◌++◌, append_assoc, Option, Some, None, refl, sym, ap, subst, if◌then◌else◌}
use Rattle.std.specs.List.{AllByRecursion}
use Rattle.std.proofs.lemmas.List.{append-nil}
use Rattle.net_defs.specs.Network.{Network, IsFabric}
use Rattle.net_defs.proofs.Distinct.{all-push}
use Rattle.run_defs.specs.declared.command.Command.{Command}
use Rattle.run_defs.specs.declared.command.Command.TheVariants.{Walk, Map, Circuit, Routes, Install, Begin, Close, Poll, Tokens, Provide, Send, Plan, Step, Settle, Finish, Duo, Pull, Plug, Revoke, Broken}
use Rattle.run_defs.specs.declared.line.Line.TheVariants.{MapBusy}
use Rattle.world_defs.proofs.Now.{now_is_fabric}
use Rattle.world_defs.specs.Links.{is_idle}
use Rattle.world_defs.specs.World.{WorldState, fabric_of}
use Rattle.run_defs.specs.Output.{Piece}
use Rattle.run_defs.specs.Session.{SessionState, LastMap, complete_map, new_session}
use Rattle.run_defs.specs.Deed.{Deed, says, session_after}
use Rattle.run_defs.specs.Outcome.{deed_of, map_refused, routes_refused}
use Rattle.run_defs.specs.Run.{IsDeed, Does, IsRun}
use Rattle.run_defs.specs.Run.IsDeed.{determined, maps, circuits, routes}
use Rattle.run_defs.specs.Run.Runs.{ended}
use Rattle.mapping_laws.proofs.Routes.{routes_exist}
use Rattle.mapping_laws.proofs.Sessions.{can-map-now}
use Rattle.mapping_laws.proofs.Words.{mapping_exists}
use Rattle.mapping_laws.proofs.Circuits.{circuit_is_told}
use Rattle.run_laws.specs.Acts.{IsActOf}
use Rattle.run_laws.proofs.Reaching.{IsLed, run-led}
use Rattle.run_laws.proofs.RunsOnce.{deed-one, runs_are_one, runs-more}
use Rattle.promise_laws.specs.Existence.{HasDone, EachCommandIsDone, HasRun, RunExists}

-- a command is one deed
done : {s : SessionState} {c : Command} {d : Deed} → IsDeed s c d → HasDone s c
done {d = d} is = record { deed = d; is = is; one = λ other also. deed-one also is }

-- routes of the last map, where it is complete
routes-done : (n : Network) (s : SessionState) → IsLed n s → (o : Option LastMap) → complete_map s.last_map ≡ o → routes_refused o ≡ None → HasDone s Routes
routes-done n s led None p e = cc
routes-done n s led (Some l) p e =
    let k = led.holds.complete l p in
    let found = routes_exist l.made k.right.rules k.right.connected in
    done (routes l found.0 p found.1 refl)

-- a map that isn't refused finds idle links
idle-there : (w : WorldState) (host : ℕ) → map_refused w host ≡ None → is_idle w.links ≡ true
idle-there w host e = by (is_idle w.links) refl e
  where
    by : (b : Bool) → is_idle w.links ≡ b → (if b then None else Some (says (MapBusy host ∷ []))) ≡ None → is_idle w.links ≡ true
    by true p q = p
    by false p q = cc

-- a command that isn't determined: a map, a map of circuit links, or routes
undetermined : (n : Network) (s : SessionState) (c : Command) → IsFabric n → IsActOf n c → IsLed n s → deed_of s c ≡ None → HasDone s c
undetermined n s (Map host depth tries) f of_n led e =
    let idle = idle-there s.world host e in
    let h = mapping_exists host depth tries s.world (can-map-now n s host depth tries of_n led.session idle) in
    done (maps h.after h.journal h.made h.words idle h.is refl)
undetermined n s (Circuit host depth) f of_n led e =
    let t = circuit_is_told (fabric_of s.world) host depth (now_is_fabric s.world.links.cables led.session.history) in
    done (circuits t.out t.told refl)
undetermined n s Routes f of_n led e = routes-done n s led (complete_map s.last_map) refl e
undetermined n s (Walk host walk) f of_n led e = cc
undetermined n s (Install tries) f of_n led e = cc
undetermined n s (Begin h port sends recvs) f of_n led e = cc
undetermined n s (Close h port) f of_n led e = cc
undetermined n s (Poll h port) f of_n led e = cc
undetermined n s (Tokens h port) f of_n led e = cc
undetermined n s (Provide h port size prio) f of_n led e = cc
undetermined n s (Send h port dest dport prio len seed) f of_n led e = cc
undetermined n s (Plan ahead kind) f of_n led e = cc
undetermined n s (Step line) f of_n led e = cc
undetermined n s Settle f of_n led e = cc
undetermined n s Finish f of_n led e = cc
undetermined n s (Duo happens) f of_n led e = cc
undetermined n s (Pull at) f of_n led e = cc
undetermined n s (Plug a b) f of_n led e = cc
undetermined n s Revoke f of_n led e = cc
undetermined n s Broken f of_n led e = cc

deeds-exist : (n : Network) (s : SessionState) (c : Command) → IsFabric n → IsActOf n c → IsLed n s → HasDone s c
deeds-exist n s c f of_n led = by (deed_of s c) refl
  where
    by : (o : Option Deed) → deed_of s c ≡ o → HasDone s c
    by (Some d) e = done (determined e)
    by None e = undetermined n s c f of_n led e

pub each_command_is_done : EachCommandIsDone
each_command_is_done n commands out s c f all of_n r = deeds-exist n s c f of_n (run-led n commands out s f all r)

-- commands after a run
runs-on : (n : Network) (first rest : List Command) (out : List Piece) (s : SessionState) → IsFabric n → AllByRecursion (IsActOf n) first → AllByRecursion (IsActOf n) rest → IsRun n first out s → HasRun n (first ++ rest)
runs-on n first [] out s f all more r =
    let run : IsRun n (first ++ []) out s = subst (λ cs. IsRun n cs out s) (sym (append-nil first)) r in
    record { out = out; last = s; run = run; one = λ other end e. runs_are_one (new_session n) end s (first ++ []) other out e run }
runs-on n first (c ∷ rest) out s f all more r =
    let d = each_command_is_done n first out s c f all more.0 r in
    let behind : SessionState = session_after s d.deed in
    let does : Does s c d.deed.output behind = record { deed = d.deed; is = d.is; prints = refl; leaves = refl } in
    let next : IsRun n (first ++ c ∷ []) (out ++ d.deed.output) behind = runs-more c d.deed.output r does in
    subst (HasRun n) (append_assoc first (c ∷ []) rest) (runs-on n (first ++ c ∷ []) rest (out ++ d.deed.output) behind f (all-push (IsActOf n) first c all more.0) more.1 next)

pub run_exists : RunExists
run_exists n commands f all = runs-on n [] commands [] (new_session n) f tt all ended
