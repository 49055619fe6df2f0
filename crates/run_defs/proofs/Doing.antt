-- What a command does: its acts lead to the world after it.
use Rattle.std.proofs.Common.{◌≡◌, ℕ, true, List, [], ◌∷◌, map, length, Option, Some, None, option_map, refl, sym, ◌∙◌, ap, subst}
use Rattle.std.specs.Prelude.{◌-◌}
use Rattle.net_defs.specs.declared.route.Route.{Route}
use Rattle.world_defs.specs.Links.{is_idle}
use Rattle.journal_defs.specs.declared.entry.Entry.{Entry}
use Rattle.map_defs.specs.NetMap.{NetMap}
use Rattle.map_defs.specs.Orientation.{order_of}
use Rattle.map_defs.specs.Routing.{AreRoutesOf}
use Rattle.world_defs.specs.declared.event.Event.{Event}
use Rattle.world_defs.specs.declared.event.Event.TheVariants.{Revoke}
use Rattle.world_defs.specs.EightBits.{IsByteEvent}
use Rattle.world_defs.specs.World.{WorldState, fabric_of, addresses, adopted_by}
use Rattle.world_defs.specs.Step.{step, steps, after_all}
use Rattle.world_defs.specs.Row.{IsRow}
use Rattle.world_defs.specs.Logs as log
use Rattle.world_defs.proofs.LogRows.{settle-row, asks-row, install-row, row-of, all-map, byte_settles, byte_asks}
use Rattle.world_defs.specs.Acts.{Happens, acted_all}
use Rattle.run_defs.specs.declared.command.Command.{Command}
use Rattle.run_defs.specs.declared.command.Command.TheVariants.{Map, Circuit, Routes}
use Rattle.run_defs.specs.declared.line.MapWords.{MapWords}
use Rattle.run_defs.specs.declared.line.Line.TheVariants.{Map as MapLine}
use Rattle.run_defs.specs.Circuit.{IsCircuitTold}
use Rattle.run_defs.specs.Deed.{Deed, Note, noted, session_after}
use Rattle.run_defs.specs.Deed.{Nothing, KeepsMap, KeepsRoutes, KeepsDuo}
use Rattle.run_defs.specs.Mapped.{IsMapped, asks_of}
use Rattle.run_defs.specs.Outcome.{Outcome, set_of, installation, revocations, deed_of, seen, outcome}
use Rattle.run_defs.specs.Output.{Piece, OneLine, lines}
use Rattle.run_defs.specs.Run.{IsDeed, Does, map_pieces, routes_lines, hosts_by_address}
use Rattle.run_defs.specs.Run.IsDeed.{determined as deed_determined, maps as deed_maps, circuits as deed_circuits, routes as deed_routes}
use Rattle.run_defs.specs.Session.{SessionState, LastMap, LastRoutes, complete_map}

-- events as acts
pub acted-events : (w : WorldState) (es : List Event) → acted_all w (map Happens es) ≡ after_all w es
acted-events w [] = refl
acted-events w (e ∷ es) = acted-events (step w e).1 es

acted-row : (w v : WorldState) (es : List Event) → IsRow IsByteEvent w es v → acted_all w (map Happens es) ≡ v
acted-row w v es r = acted-events w es ∙ sym r.there

-- a log's events lead to its world
pub acted-settle : (w : WorldState) → acted_all w (map Happens (log.settle w).events) ≡ (log.settle w).world
acted-settle w = acted-row w (log.settle w).world (log.settle w).events (settle-row byte_settles w)

pub acted-asks : (host tries : ℕ) (j : List Entry) (w : WorldState) → acted_all w (map Happens (asks_of host tries j w).events) ≡ (asks_of host tries j w).world
acted-asks host tries j w = acted-row w (asks_of host tries j w).world (asks_of host tries j w).events (asks-row byte_asks (λ h walk looped. tt) w.links.cables.changes host tries (map (λ (e : Entry). e.walk) j) w)

pub acted-installation : (w : WorldState) (l : LastRoutes) (tries : ℕ) → acted_all (adopted_by w l.mapper l.routes) (map Happens (installation w l tries).events) ≡ (installation w l tries).world
acted-installation w l tries =
    acted-row (adopted_by w l.mapper l.routes) (installation w l tries).world (installation w l tries).events (install-row byte_asks (λ dst part. tt) (set_of w l) l.hosts tries (adopted_by w l.mapper l.routes))

-- each host gives up the epoch of the adopted routes
pub revoked-row : {Q : Event → Type 0} → ((h : ℕ) → Q (Revoke h)) → (w : WorldState) → IsRow Q w (revocations w) (steps w (revocations w)).1
revoked-row {Q = Q} all w = row-of w (revocations w) (all-map Q Revoke all (addresses w))

pub acted-revocations : (w : WorldState) → acted_all w (map Happens (revocations w)) ≡ (steps w (revocations w)).1
acted-revocations w = acted-row w (steps w (revocations w)).1 (revocations w) (revoked-row (λ h. tt) w)

-- the world after a deed follows from its acts alone
noted-world : (s : SessionState) (n : Note) → (noted s n).world ≡ s.world
noted-world s Nothing = refl
noted-world s (KeepsMap l) = refl
noted-world s (KeepsRoutes l) = refl
noted-world s (KeepsDuo d) = refl

pub deed-world : (s : SessionState) (d : Deed) → (session_after s d).world ≡ acted_all s.world d.acts
deed-world s d = noted-world (record s { world = acted_all s.world d.acts }) d.note

pub does-world : {s next : SessionState} {c : Command} {out : List Piece} → (d : Does s c out next) → next.world ≡ acted_all s.world d.deed.acts
does-world {s = s} d = ap (λ (x : SessionState). x.world) d.leaves ∙ deed-world s d.deed

-- What a command does, by what it is: its outcome; or a map that is made, a map of circuit links, or routes.
pub data Doing (s : SessionState) : Command → List Piece → SessionState → Type 0 where
  determined : {c : Command} {out : List Piece} {next : SessionState} → outcome s c ≡ Some (record { output = out; after = next }) → Doing s c out next
  maps : {host depth tries : ℕ} {out : List Piece} {next : SessionState} → (after : WorldState) (j : List Entry) (m : NetMap) (words : MapWords)
      → is_idle s.world.links ≡ true → IsMapped host depth tries s.world after j m words
      → out ≡ OneLine (MapLine host words (length j) (after.injected - s.world.injected)) ∷ map_pieces words m
      → next ≡ record s { world = after; last_map = Some (record { mapper = host; words = words; made = m; began = s.world.links.cables.changes }) }
      → Doing s (Map host depth tries) out next
  circuits : {host depth : ℕ} {out : List Piece} {next : SessionState} → IsCircuitTold (fabric_of s.world) host depth out → next ≡ s → Doing s (Circuit host depth) out next
  routes : {out : List Piece} {next : SessionState} → (l : LastMap) (found : List Route) → complete_map s.last_map ≡ Some l → AreRoutesOf l.made (order_of l.made) found
      → out ≡ lines (routes_lines l.made found)
      → next ≡ record s { last_routes = Some (record { mapper = l.mapper; hosts = hosts_by_address s.world l.made; routes = found; began = l.began }) }
      → Doing s Routes out next

doing-by : {s : SessionState} {c : Command} {d : Deed} → (out : List Piece) (next : SessionState) → IsDeed s c d → out ≡ d.output → next ≡ session_after s d → Doing s c out next
doing-by {s = s} out next (deed_determined e) prints leaves =
    determined (ap (option_map (seen s)) e ∙ (λ i. Some (record { output = sym prints i; after = sym leaves i })))
doing-by {s = s} out next (deed_maps {host = host} {tries = tries} after j m words idle made is) prints leaves =
    let kept : LastMap = record { mapper = host; words = words; made = m; began = s.world.links.cables.changes } in
    maps after j m words idle made (prints ∙ ap (λ (x : Deed). x.output) is)
    (leaves ∙ ap (session_after s) is ∙ ap (λ (w : WorldState). record s { world = w; last_map = Some kept }) (acted-asks host tries j s.world ∙ sym made.led))
doing-by {s = s} out next (deed_circuits told is_told is) prints leaves =
    circuits (subst (IsCircuitTold (fabric_of s.world) _ _) (sym (prints ∙ ap (λ (x : Deed). x.output) is)) is_told) (leaves ∙ ap (session_after s) is)
doing-by {s = s} out next (deed_routes l found complete are is) prints leaves =
    routes l found complete are (prints ∙ ap (λ (x : Deed). x.output) is) (leaves ∙ ap (session_after s) is)

pub doing : {s next : SessionState} {c : Command} {out : List Piece} → Does s c out next → Doing s c out next
doing {next = next} {out = out} d = doing-by out next d.is d.prints d.leaves

-- and back
some-outcome : (x y : Outcome) → Some x ≡ Some y → x ≡ y
some-outcome x y e = cc

pub does : {s next : SessionState} {c : Command} {out : List Piece} → Doing s c out next → Does s c out next
does {s = s} {next = next} {c = c} {out = out} (determined e) = by (deed_of s c) refl e
  where
    by : (o : Option Deed) → deed_of s c ≡ o → option_map (seen s) o ≡ Some (record { output = out; after = next }) → Does s c out next
    by None p q = cc
    by (Some d) p q =
        let same = some-outcome (record { output = out; after = next }) (seen s d) (sym q) in
        record { deed = d; is = deed_determined p; prints = ap (λ (x : Outcome). x.output) same; leaves = ap (λ (x : Outcome). x.after) same }
does {s = s} (maps {host = host} {tries = tries} after j m words idle made printed left) =
    let kept : LastMap = record { mapper = host; words = words; made = m; began = s.world.links.cables.changes } in
    let d : Deed = record {
      acts = map Happens (asks_of host tries j s.world).events;
      output = OneLine (MapLine host words (length j) (after.injected - s.world.injected)) ∷ map_pieces words m;
      note = KeepsMap kept;
    } in
    record {
      deed = d;
      is = deed_maps after j m words idle made refl;
      prints = printed;
      leaves = left ∙ ap (λ (w : WorldState). record s { world = w; last_map = Some kept }) (made.led ∙ sym (acted-asks host tries j s.world));
    }
does (circuits {out = out} told left) = record { deed = record { acts = []; output = out; note = Nothing }; is = deed_circuits out told refl; prints = refl; leaves = left }
does {s = s} (routes l found complete are printed left) =
    let kept : LastRoutes = record { mapper = l.mapper; hosts = hosts_by_address s.world l.made; routes = found; began = l.began } in
    record { deed = record { acts = []; output = lines (routes_lines l.made found); note = KeepsRoutes kept }; is = deed_routes l found complete are refl; prints = printed; leaves = left }
