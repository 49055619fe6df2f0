-- Where memory runs out in a session no refusal is hidden: a refused command lacks only its line's text.
use Rattle.std.proofs.Common.{◌≡◌, ℕ, ◌∷◌, [], map, true, false, Option, Some, None, option_map, refl, sym, ◌∙◌, ap, if◌then◌else◌}
use Rattle.std.specs.Prelude.{min, length}
use Rattle.world_defs.specs.Links.{is_idle}
use Rattle.duo_defs.specs.declared.effect.DuoEffect.{DuoEffect}
use Rattle.duo_defs.specs.declared.event.DuoEvent.{DuoEvent}
use Rattle.duo_defs.specs.Duo.{DuoState}
use Rattle.duo_defs.specs.Step.{step as duo_step}
use Rattle.world_defs.specs.World.{WorldState, last_count}
use Rattle.world_defs.specs.Settle.{unacknowledged_in}
use Rattle.world_defs.specs.Log.{Log}
use Rattle.world_defs.specs.Logs as log
use Rattle.run_defs.specs.declared.command.Command.{Command}
use Rattle.run_defs.specs.declared.command.Command.TheVariants.{Map, Routes, Install, Settle, Duo}
use Rattle.run_defs.specs.declared.line.Line.TheVariants.{MapBusy, NoMap, InstallRefused, Installed, Settle as SettleLine, Duo as DuoLine}
use Rattle.run_defs.specs.declared.line.InstallCause.TheVariants.{NoRoutes, Busy}
use Rattle.run_defs.specs.Duos.{begun, beside, IsOther}
use Rattle.run_defs.specs.Output.{OneLine}
use Rattle.world_defs.specs.Acts.{Happens, acted_all}
use Rattle.run_defs.specs.Deed.{Deed, says}
use Rattle.run_defs.specs.Outcome.{Outcome, settle_lines, installation, may_install, refusal_cause, happening, install_now, routes_refused, duo_done, kind_of, deed_of, seen, outcome}
use Rattle.run_defs.specs.Run.{IsDeed}
use Rattle.run_defs.proofs.Doing.{acted-settle}
use Rattle.run_defs.specs.Session.{SessionState, LastMap, LastRoutes, complete_map}
use Rattle.promise_laws.proofs.Duos.{IsOtherDeed, other-kind, other-deed, kind-beside, noted-beside}
use Rattle.world_commands.specs.declared.out_of_memory.OutOfMemory.{OutOfMemory}
use Rattle.world_commands.specs.declared.out_of_memory.OutOfMemory.TheVariants.{InDoing, InLine}
use Rattle.world_commands.specs.Cut.{is_refusal_line, IsRefused, HidesNoRefusal, IsLeft}
use Rattle.world_commands.specs.Done.{session_of}
use Rattle.world_commands.specs.Cut.IsLeft.{undone, unprinted}
use Rattle.world_commands.proofs.Cut.{output-of, first-line, not-refused}
use Rattle.run_session.specs.declared.mapping.MapOrder.{MapOrder}
use Rattle.run_session.specs.Told.{map_of}
use Rattle.run_session.proofs.Cutting.{IsBusy}
use Rattle.run_session.proofs.Installs.{choice}

-- a command whose outcome isn't determined isn't refused
pub none-unrefused : (s : SessionState) (c : Command) (v : WorldState) → outcome s c ≡ None → HidesNoRefusal s c v InDoing
none-unrefused s c v none r =
    let printed : [] ≡ OneLine r.line ∷ [] = ap output-of (sym none ∙ r.prints) in
    cc

-- a command of one event at most
pub one-unrefused : (w v : WorldState) (made : Option LastMap) (found : Option LastRoutes) (c : Command) (e : OutOfMemory) → IsLeft c w v e → HidesNoRefusal (session_of w made found) c v e
one-unrefused w v made found c InDoing (undone same kept) = kept made found
one-unrefused w v made found c InLine (unprinted told done) = (record { output = done.output; after = session_of v made found }, done.determined made found, refl)

-- a map while a channel holds a packet, and one that is made
pub busy-missing : (w : WorldState) (made : Option LastMap) (found : Option LastRoutes) (c : Command) (host depth tries : ℕ) → c ≡ Map host depth tries → IsBusy w c → HidesNoRefusal (session_of w made found) c w InLine
busy-missing w made found c host depth tries is busy =
    let s : SessionState = session_of w made found in
    let o : Outcome = seen s (says (MapBusy host ∷ [])) in
    (o, ap (outcome s) is ∙ ap (λ b. option_map (seen s) (if b then None else Some (says (MapBusy host ∷ [])))) (busy host depth tries is), refl)

pub map-unrefused : (w v : WorldState) (made : Option LastMap) (found : Option LastRoutes) (c : Command) (order : MapOrder) → c ≡ map_of order → is_idle w.links ≡ true → HidesNoRefusal (session_of w made found) c v InDoing
map-unrefused w v made found c order is idle =
    let s : SessionState = session_of w made found in
    none-unrefused s c v (ap (outcome s) is ∙ ap (λ b. option_map (seen s) (if b then None else Some (says (MapBusy order.host ∷ [])))) idle)

-- routes
pub routes-unrefused : (s : SessionState) (l : LastMap) (v : WorldState) → complete_map s.last_map ≡ Some l → HidesNoRefusal s Routes v InDoing
routes-unrefused s l v is = none-unrefused s Routes v (ap (λ o. option_map (seen s) (routes_refused o)) is)

pub no-map-missing : (s : SessionState) → complete_map s.last_map ≡ None → HidesNoRefusal s Routes s.world InLine
no-map-missing s none = (seen s (says (NoMap ∷ [])), ap (λ o. option_map (seen s) (routes_refused o)) none, refl)

-- a settle
pub settle-unrefused : (s : SessionState) (v : WorldState) → HidesNoRefusal s Settle v InDoing
settle-unrefused s v =
    let l : Log log.Rounds = log.settle s.world in
    not-refused s (record s { world = acted_all s.world (map Happens l.events) }) Settle (SettleLine l.value.rounds (min l.value.resets last_count) (unacknowledged_in l.world)) refl refl

pub settle-missing : (s : SessionState) (v : WorldState) → v ≡ (log.settle s.world).world → HidesNoRefusal s Settle v InLine
settle-missing s v same = (seen s (happening (log.settle s.world).events (settle_lines (log.settle s.world))), refl, same ∙ sym (acted-settle s.world))

-- an installation
pub no-routes-missing : (w : WorldState) (last : Option LastRoutes) (tries : ℕ) → last ≡ None → (made : Option LastMap) → HidesNoRefusal (session_of w made last) (Install tries) w InLine
no-routes-missing w None tries none made = (seen (session_of w made None) (says (InstallRefused NoRoutes ∷ [])), refl, refl)
no-routes-missing w (Some l) tries none made = cc

pub busy-install-missing : (w : WorldState) (l : LastRoutes) (tries : ℕ) → is_idle w.links ≡ false → (made : Option LastMap) → HidesNoRefusal (session_of w made (Some l)) (Install tries) w InLine
busy-install-missing w l tries busy made =
    let s : SessionState = session_of w made (Some l) in
    (seen s (says (InstallRefused Busy ∷ [])), ap (λ b. Some (seen s (choice w l tries b (may_install w l) (refusal_cause w l)))) busy, refl)

pub refused-missing : (w : WorldState) (l : LastRoutes) (tries : ℕ) → is_idle w.links ≡ true → may_install w l ≡ false → (made : Option LastMap) → HidesNoRefusal (session_of w made (Some l)) (Install tries) w InLine
refused-missing w l tries idle may made =
    let s : SessionState = session_of w made (Some l) in
    (seen s (says (InstallRefused (refusal_cause w l) ∷ [])), ap (λ b. Some (seen s (choice w l tries b (may_install w l) (refusal_cause w l)))) idle ∙ ap (λ b. Some (seen s (choice w l tries true b (refusal_cause w l)))) may, refl)

-- what is printed of a count is no refusal
counted-unrefused : (s : SessionState) (c : Command) (l : LastRoutes) (tries : ℕ) → outcome s c ≡ Some (seen s (install_now s.world l tries)) → IsRefused s c → ⊥
counted-unrefused s c l tries is r =
    let same : Installed (installation s.world l tries).value (length l.hosts) ≡ r.line = ap (λ o. first-line (output-of o)) (sym is ∙ r.prints) in
    let bad : false ≡ true = ap is_refusal_line same ∙ r.refuses in
    cc

pub install-unrefused : (w v : WorldState) (l : LastRoutes) (tries : ℕ) → is_idle w.links ≡ true → may_install w l ≡ true → (made : Option LastMap) → HidesNoRefusal (session_of w made (Some l)) (Install tries) v InDoing
install-unrefused w v l tries idle may made =
    let s : SessionState = session_of w made (Some l) in
    counted-unrefused s (Install tries) l tries
    (ap (λ b. Some (seen s (choice w l tries b (may_install w l) (refusal_cause w l)))) idle ∙ ap (λ b. Some (seen s (choice w l tries true b (refusal_cause w l)))) may)

-- an event of the two hosts that restart
duo-kept : (s : SessionState) (e : DuoEvent) (x : DuoEffect × DuoState) → outcome s (Duo e) ≡ Some (seen s (duo_done x)) → IsRefused s (Duo e) → ⊥
duo-kept s e (effect, d) is = not-refused s (beside s (Some d)) (Duo e) (DuoLine effect) is refl

pub duo-unrefused : (s : SessionState) (e : DuoEvent) (v : WorldState) → HidesNoRefusal s (Duo e) v InDoing
duo-unrefused s e v = duo-kept s e (duo_step (begun s.duo) e) refl

-- another command beside these two
abbrev with-duo : Option DuoState → Outcome → Outcome
with-duo d o = record { output = o.output; after = beside o.after d }

-- what it prints and does, where that is determined
outcome-beside : (s : SessionState) (c : Command) (d : Option DuoState) (o : Outcome) → IsOther c → outcome s c ≡ Some o → outcome (beside s d) c ≡ Some (with-duo d o)
outcome-beside s c d o other is = by (deed_of s c) refl is
  where
    by : (x : Option Deed) → deed_of s c ≡ x → option_map (seen s) x ≡ Some o → outcome (beside s d) c ≡ Some (with-duo d o)
    by None p q = cc
    by (Some x) p q =
        let same : seen s x ≡ o = cc in
        let of_x : IsOtherDeed x = other-deed {s = s} {c = c} {d = x} other (IsDeed.determined p) in
        ap (option_map (seen (beside s d))) (kind-beside s (kind_of c) d (other-kind c other) ∙ p)
        ∙ ap (λ (t : SessionState). Some (record { output = x.output; after = t })) (sym (noted-beside (record s { world = acted_all s.world x.acts }) x.note d of_x))
        ∙ ap (λ (y : Outcome). Some (with-duo d y)) same

-- so one that is refused there is refused here
none-alone : (s : SessionState) (c : Command) (d : Option DuoState) → IsOther c → IsRefused (beside s d) c → outcome s c ≡ None → ⊥
none-alone s c d other r none = by (deed_of s c) refl none
  where
    by : (x : Option Deed) → deed_of s c ≡ x → option_map (seen s) x ≡ None → ⊥
    by None p q =
        let printed : [] ≡ OneLine r.line ∷ [] = ap output-of (sym (ap (option_map (seen (beside s d))) (kind-beside s (kind_of c) d (other-kind c other) ∙ p)) ∙ r.prints) in
        cc
    by (Some x) p q = cc

refused-alone : (s : SessionState) (c : Command) (d : Option DuoState) → IsOther c → IsRefused (beside s d) c → IsRefused s c
refused-alone s c d other r = by (outcome s c) refl
  where
    by : (o : Option Outcome) → outcome s c ≡ o → IsRefused s c
    by None p = absurd (none-alone s c d other r p)
    by (Some o) p =
        let both = sym (outcome-beside s c d o other p) ∙ r.prints in
        let same : o.output ≡ OneLine r.line ∷ [] = ap output-of both in
        record { line = r.line; after = o.after; prints = p ∙ ap (λ x. Some (record { output = x; after = o.after })) same; refuses = r.refuses }

pub beside-unrefused : (s : SessionState) (c : Command) (v : WorldState) (d : Option DuoState) → IsOther c → (e : OutOfMemory) → HidesNoRefusal s c v e → HidesNoRefusal (beside s d) c v e
beside-unrefused s c v d other InDoing kept = λ r. kept (refused-alone s c d other r)
beside-unrefused s c v d other InLine (o, is, same) = (with-duo d o, outcome-beside s c d o other is, same)
