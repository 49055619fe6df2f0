-- Commands that are cut short: before their acts, after them, and part of the way along them.
use Rattle.std.proofs.Common.{◌≡◌, ℕ, Bool, true, false, not, List, [], ◌∷◌, map, length, Option, Some, None, option_map, refl, sym, ◌∙◌, ap, subst, append-nil, if◌then◌else◌}
use Rattle.std.specs.Prelude.{◌-◌}
use Rattle.std.proofs.lemmas.List.{map-append}
use Rattle.world_defs.specs.Links.{is_idle}
use Rattle.journal_defs.specs.declared.entry.Entry.{Entry}
use Rattle.map_defs.specs.NetMap.{NetMap}
use Rattle.world_defs.specs.declared.event.Event.{Event}
use Rattle.world_defs.specs.World.{WorldState, adopted_by}
use Rattle.world_defs.specs.Step.{after_all}
use Rattle.world_defs.specs.Sound.{IsSound}
use Rattle.world_defs.specs.Acts.{Act, Happens, acted_all, MayActAll}
use Rattle.world_defs.specs.Logs as log
use Rattle.world_defs.specs.Row.{IsPartWay}
use Rattle.run_defs.specs.declared.command.Command.{Command}
use Rattle.run_defs.specs.declared.command.Command.TheVariants.{Map, Install, Settle}
use Rattle.run_defs.specs.declared.line.MapWords.{MapWords}
use Rattle.run_defs.specs.declared.line.Line.TheVariants.{Map as MapLine, InstallRefused}
use Rattle.run_defs.specs.declared.line.InstallCause.TheVariants.{Busy}
use Rattle.run_defs.specs.Mapped.{IsMapped, asks_of}
use Rattle.run_defs.specs.Session.{SessionState, LastRoutes}
use Rattle.run_defs.specs.Deed.{Deed, KeepsMap, says}
use Rattle.run_defs.specs.Outcome.{Outcome, settle_lines, set_of, may_install, refusal_cause, happening, install_now, install, deed_of, seen, outcome}
use Rattle.run_defs.specs.Output.{OneLine}
use Rattle.run_defs.specs.Run.{map_pieces}
use Rattle.run_defs.specs.Run.IsDeed.{determined, maps}
use Rattle.run_defs.proofs.Doing.{acted-events, acted-asks, deed-world}
use Rattle.mapping_laws.proofs.Words.{mapping_exists}
use Rattle.message_laws.proofs.Sound.{reached-sound}
use Rattle.run_laws.proofs.Reaching.{run_is_reached}
use Rattle.promise_laws.specs.CutShort.{IsPartActed, IsCutShort, BegunMapsAreCutShort, CutCommandsLeaveSound}
use Rattle.promise_laws.specs.CutShort.IsCutShort.{undone, part_done}
use Rattle.promise_laws.proofs.Acting.{acts_reach, deeds_are_single_acts, runs_end_sound}
use Rattle.promise_laws.proofs.Begun.{begun-way}

-- nothing was done yet
pub part-none : (w v : WorldState) (acts : List Act) → v ≡ w → IsPartActed w acts v
part-none w v acts same = record { done = []; front = record { rest = acts; both = refl }; there = same }

-- all was done
pub part-all : (w v : WorldState) (acts : List Act) → v ≡ acted_all w acts → IsPartActed w acts v
part-all w v acts led = record { done = acts; front = record { rest = []; both = sym (append-nil acts) }; there = led }

-- part of the way along events, and all of it, as acts
pub part-events : (w v : WorldState) (es : List Event) → IsPartWay w es v → IsPartActed w (map Happens es) v
part-events w v es p = record {
  done = map Happens p.done;
  front = record { rest = map Happens p.front.rest; both = ap (map Happens) p.front.both ∙ map-append Happens p.done p.front.rest };
  there = p.there ∙ sym (acted-events w p.done);
}

pub way-whole : (w v : WorldState) (es : List Event) → v ≡ after_all w es → IsPartWay w es v
way-whole w v es led = record { done = es; front = record { rest = []; both = sym (append-nil es) }; there = led }

-- after a first act
pub part-behind : (w u v : WorldState) (a : Act) (acts : List Act) → u ≡ acted_all w (a ∷ []) → IsPartActed u acts v → IsPartActed w (a ∷ acts) v
part-behind w u v a acts led p = record {
  done = a ∷ p.done;
  front = record { rest = p.front.rest; both = ap (λ l. a ∷ l) p.front.both };
  there = p.there ∙ ap (λ x. acted_all x p.done) led;
}

pub cut_unchanged : (s : SessionState) (c : Command) (v : WorldState) → v ≡ s.world → IsCutShort s c v
cut_unchanged s c v same = undone same

-- a command that was done, but for its text
pub cut_done : (s : SessionState) (c : Command) (o : Outcome) (v : WorldState) → outcome s c ≡ Some o → v ≡ o.after.world → IsCutShort s c v
cut_done s c o v is same = by (deed_of s c) refl is
  where
    by : (a : Option Deed) → deed_of s c ≡ a → option_map (seen s) a ≡ Some o → IsCutShort s c v
    by None there e = cc
    by (Some d) there e =
        let one : seen s d ≡ o = cc in
        part_done d (determined there) (part-all s.world v d.acts (same ∙ ap (λ (x : Outcome). x.after.world) (sym one) ∙ deed-world s d))

-- a settle and an installation
pub cut_settled : (s : SessionState) (v : WorldState) → IsPartWay s.world (log.settle s.world).events v → IsCutShort s Settle v
cut_settled s v p = part_done (happening (log.settle s.world).events (settle_lines (log.settle s.world))) (determined refl) (part-events s.world v (log.settle s.world).events p)

pub cut_installed : (s : SessionState) (tries : ℕ) (v : WorldState) → IsPartActed s.world (install s.world tries s.last_routes).acts v → IsCutShort s (Install tries) v
cut_installed s tries v p = part_done (install s.world tries s.last_routes) (determined refl) p

-- an installation, by whether it is refused
abbrev unless : WorldState → LastRoutes → ℕ → Bool → Bool → Deed
unless w l tries busy other = if busy then says (InstallRefused Busy ∷ []) else if other then says (InstallRefused (refusal_cause w l) ∷ []) else install_now w l tries

-- along an installation that isn't refused
pub part-installed : (w u v : WorldState) (l : LastRoutes) (tries : ℕ) → is_idle w.links ≡ true → not (may_install w l) ≡ false → u ≡ adopted_by w l.mapper l.routes → IsPartWay u (log.install (set_of w l) l.hosts tries u).events v
    → IsPartActed w (install w tries (Some l)).acts v
part-installed w u v l tries idle other led p =
    let events : WorldState → List Event = λ x. (log.install (set_of w l) l.hosts tries x).events in
    let are : install w tries (Some l) ≡ install_now w l tries =
    ap (λ b. unless w l tries (not b) (not (may_install w l))) idle ∙ ap (unless w l tries false) other in
    let start : WorldState = adopted_by w l.mapper l.routes in
    subst (λ (d : Deed). IsPartActed w d.acts v) (sym are)
    (part-behind w start v (Act.Adopts l.mapper l.routes) (map Happens (events start)) refl (part-events start v (events start) (subst (λ x. IsPartWay x (events x) v) led p)))

-- the deed of a map that is made
abbrev made_deed : SessionState → ℕ → ℕ → WorldState → List Entry → NetMap → MapWords → Deed
made_deed s host tries after j m words = record {
  acts = map Happens (asks_of host tries j s.world).events;
  output = OneLine (MapLine host words (length j) (after.injected - s.world.injected)) ∷ map_pieces words m;
  note = KeepsMap (record { mapper = host; words = words; made = m; began = s.world.links.cables.changes });
}

-- a map that was made, but for its text
pub cut_mapped : (s : SessionState) (host depth tries : ℕ) (v : WorldState) (j : List Entry) (m : NetMap) (words : MapWords) → is_idle s.world.links ≡ true → IsMapped host depth tries s.world v j m words → IsCutShort s (Map host depth tries) v
cut_mapped s host depth tries v j m words idle made =
    let es : List Event = (asks_of host tries j s.world).events in
    part_done (made_deed s host tries v j m words) (maps v j m words idle made refl) (part-all s.world v (map Happens es) (made.led ∙ sym (acted-asks host tries j s.world)))

-- and one that was begun
pub begun_maps_are_cut_short : BegunMapsAreCutShort
begun_maps_are_cut_short s host depth tries v can begun =
    let h = mapping_exists host depth tries s.world can in
    let k = h.is in
    part_done (made_deed s host tries h.after h.journal h.made h.words) (maps h.after h.journal h.made h.words can.idle k refl)
    (part-events s.world v (asks_of host tries h.journal s.world).events (begun-way host depth tries s.world v h.journal k.grown (ap (λ (a : log.AskedAll). a.entries) k.asked) begun))

-- the acts of a deed after a run reach reached worlds alone
pub cut_commands_leave_sound : CutCommandsLeaveSound
cut_commands_leave_sound n commands out s c v f all of_n r (undone same) = subst IsSound (sym same) (runs_end_sound n commands out s f all r)
cut_commands_leave_sound n commands out s c v f all of_n r (part_done d is way) =
    let may = (deeds_are_single_acts n commands out s c d f all of_n r is).may in
    let there = acts_reach n s.world way.done way.front.rest (run_is_reached n commands out s f all r) (subst (λ acts. MayActAll s.world acts) way.front.both may) in
    subst IsSound (sym way.there) (reached-sound n (acted_all s.world way.done) there)
