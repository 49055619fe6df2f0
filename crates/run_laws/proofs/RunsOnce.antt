-- What a command does is one, and so is a run; what its first commands print is the beginning of what it prints.
use Rattle.std.proofs.Common.{◌≡◌, ℕ, zero, suc, true, List, [], ◌∷◌, ◌++◌, map, length, take, drop, Option, Some, None, refl, sym, ap, ◌∙◌, subst, append_assoc, if◌then◌else◌}
use Rattle.std.specs.Prelude.{◌-◌}
use Rattle.std.proofs.lemmas.List.Concat.{flat_map-append}
use Rattle.net_defs.specs.declared.route.Route.{Route}
use Rattle.world_defs.specs.Links.{is_idle}
use Rattle.journal_defs.specs.declared.entry.Entry.{Entry}
use Rattle.map_defs.specs.NetMap.{NetMap}
use Rattle.map_defs.specs.Orientation.{order_of}
use Rattle.map_defs.specs.Routing.{AreRoutesOf}
use Rattle.world_defs.specs.World.{WorldState, fabric_of}
use Rattle.world_defs.specs.Acts.{Happens}
use Rattle.run_defs.specs.declared.command.Command.{Command}
use Rattle.run_defs.specs.declared.command.Command.TheVariants.{Map, Routes}
use Rattle.run_defs.specs.declared.line.Line.TheVariants.{Map as MapLine, MapBusy}
use Rattle.run_defs.specs.declared.line.MapWords.{MapWords}
use Rattle.run_defs.specs.LineText.{piece_text}
use Rattle.run_defs.specs.Output.{Piece, OneLine, lines}
use Rattle.run_defs.specs.Session.{SessionState, LastMap, complete_map}
use Rattle.run_defs.specs.Deed.{Deed, Nothing, KeepsMap, KeepsRoutes, says, session_after}
use Rattle.run_defs.specs.Outcome.{routes_refused, deed_of}
use Rattle.run_defs.specs.Mapped.{asks_of}
use Rattle.run_defs.specs.Run.{IsDeed, Does, Runs, map_pieces, routes_lines, hosts_by_address}
use Rattle.run_defs.specs.Run.IsDeed.{determined, maps, circuits, routes}
use Rattle.run_defs.specs.Run.Runs.{ended, goes_on}
use Rattle.run_laws.specs.Runs.{DoingIsOne, RunsAreOne, RunsJoin, IsSplit, RunsSplit, FirstRunsArePart, TextOfBoth}
use Rattle.run_laws.proofs.OneCircuit.{told-one}
use Rattle.run_laws.proofs.OneMapping.{mapping_is_one}
use Rattle.run_laws.proofs.OneRoutes.{routes_are_one}

some-none : (o : Option Deed) (x : Deed) → o ≡ Some x → o ≡ None → ⊥
some-none o x e f = cc

some-deed : (x y : Deed) → Some x ≡ Some y → x ≡ y
some-deed x y e = cc

some-map : (l k : LastMap) → Some l ≡ Some k → l ≡ k
some-map l k e = cc

-- a map isn't refused where the links are idle, nor routes where the last map is complete
not-busy : (s : SessionState) (host depth tries : ℕ) → is_idle s.world.links ≡ true → deed_of s (Map host depth tries) ≡ None
not-busy s host depth tries e = ap (λ b. if b then None else Some (says (MapBusy host ∷ []))) e

not-refused : (s : SessionState) (l : LastMap) → complete_map s.last_map ≡ Some l → deed_of s Routes ≡ None
not-refused s l e = ap routes_refused e

-- the deeds of a map, of a map of circuit links, and of routes
abbrev map_deed : SessionState → ℕ → ℕ → WorldState → List Entry → NetMap → MapWords → Deed
map_deed s host tries after j m words = record {
  acts = map Happens (asks_of host tries j s.world).events;
  output = OneLine (MapLine host words (length j) (after.injected - s.world.injected)) ∷ map_pieces words m;
  note = KeepsMap (record { mapper = host; words = words; made = m; began = s.world.links.cables.changes });
}

abbrev told_deed : List Piece → Deed
told_deed out = record { acts = []; output = out; note = Nothing }

abbrev routes_deed : SessionState → LastMap → List Route → Deed
routes_deed s l found = record {
  acts = [];
  output = lines (routes_lines l.made found);
  note = KeepsRoutes (record { mapper = l.mapper; hosts = hosts_by_address s.world l.made; routes = found; began = l.began });
}

-- a command is one deed
pub deed-one : {s : SessionState} {c : Command} {d e : Deed} → IsDeed s c d → IsDeed s c e → d ≡ e
deed-one {d = d} {e = e} (determined p) (determined q) = some-deed d e (sym p ∙ q)
deed-one {s = s} {c = c} {d = d} (determined p) (maps {host = host} {depth = depth} {tries = tries} after j m words idle made is) = absurd (some-none (deed_of s c) d p (not-busy s host depth tries idle))
deed-one {s = s} {c = c} {d = d} (determined p) (circuits out told is) = absurd (some-none (deed_of s c) d p refl)
deed-one {s = s} {c = c} {d = d} (determined p) (routes l found there are is) = absurd (some-none (deed_of s c) d p (not-refused s l there))
deed-one {s = s} {c = c} {e = e} (maps {host = host} {depth = depth} {tries = tries} after j m words idle made is) (determined q) = absurd (some-none (deed_of s c) e q (not-busy s host depth tries idle))
deed-one {s = s} (maps {host = host} {depth = depth} {tries = tries} v j m x idle made is) (maps w l k y again remade are) =
    let one = mapping_is_one host depth tries s.world v w j l m k x y made remade in
    is ∙ (λ i. map_deed s host tries (one.0 i) (one.1 i) (one.2 i) (one.3 i)) ∙ sym are
deed-one {s = s} {c = c} {e = e} (circuits out told is) (determined q) = absurd (some-none (deed_of s c) e q refl)
deed-one {s = s} (circuits {host = host} {depth = depth} out told is) (circuits other again are) = is ∙ ap told_deed (told-one (fabric_of s.world) host depth out other told again) ∙ sym are
deed-one {s = s} {c = c} {e = e} (routes l found there are is) (determined q) = absurd (some-none (deed_of s c) e q (not-refused s l there))
deed-one {s = s} (routes l found there are is) (routes k others again found_too is_too) =
    let same : l ≡ k = some-map l k (sym there ∙ again) in
    let one : found ≡ others = routes_are_one k.made (order_of k.made) found others (subst (λ (z : LastMap). AreRoutesOf z.made (order_of z.made) found) same are) found_too in
    is ∙ (λ i. routes_deed s (same i) (one i)) ∙ sym is_too

pub does-one : {s a b : SessionState} {c : Command} {out other : List Piece} → Does s c out a → Does s c other b → (out ≡ other) × (a ≡ b)
does-one {s = s} d e =
    let same : d.deed ≡ e.deed = deed-one d.is e.is in
    (d.prints ∙ ap (λ (x : Deed). x.output) same ∙ sym e.prints, d.leaves ∙ ap (session_after s) same ∙ sym e.leaves)

pub doing_is_one : DoingIsOne
doing_is_one s a b c out other d e = does-one d e

-- a run is one, command by command
pub runs-one : {s a b : SessionState} {cs : List Command} {out other : List Piece} → Runs s cs out a → Runs s cs other b → (out ≡ other) × (a ≡ b)
runs-one ended ended = (refl, refl)
runs-one {b = b} (goes_on {next = next} {cs = cs} {out = out} {rest = rest} d r e) (goes_on {next = other_next} {out = other_out} {rest = other_rest} d_too r_too e_too) =
    let first = does-one d d_too in
    let later = runs-one r (subst (λ x. Runs x cs other_rest b) (sym first.1) r_too) in
    (e ∙ (λ i. first.0 i ++ later.0 i) ∙ sym e_too, later.1)

pub runs_are_one : RunsAreOne
runs_are_one s a b commands out other r q = runs-one r q

-- two runs in a row
pub runs-join : {s middle last : SessionState} {cs : List Command} {out : List Piece} → (more : List Command) (rest : List Piece) → Runs s cs out middle → Runs middle more rest last → Runs s (cs ++ more) (out ++ rest) last
runs-join more rest ended q = q
runs-join more rest (goes_on {out = first} {rest = later} d r e) q = goes_on d (runs-join more rest r q) (ap (λ l. l ++ rest) e ∙ append_assoc first later rest)

pub runs_join : RunsJoin
runs_join s middle last commands more out rest r q = runs-join more rest r q

append-none : {X : Type 0} (xs : List X) → xs ≡ xs ++ []
append-none [] = refl
append-none (x ∷ xs) = ap (λ l. x ∷ l) (append-none xs)

-- one command more
pub runs-more : {s middle last : SessionState} {cs : List Command} {out : List Piece} → (c : Command) (more : List Piece) → Runs s cs out middle → Does middle c more last → Runs s (cs ++ c ∷ []) (out ++ more) last
runs-more c more r d = runs-join (c ∷ []) more r (goes_on d ended (append-none more))

-- a run is split after each of its commands
pub runs-split : (k : ℕ) {s last : SessionState} {cs : List Command} {all : List Piece} → Runs s cs all last → IsSplit s last (take k cs) (drop k cs) all
runs-split zero {s = s} {all = all} r = record { middle = s; out = []; rest = all; before = ended; behind = r; whole = refl }
runs-split (suc k) {s = s} ended = record { middle = s; out = []; rest = []; before = ended; behind = ended; whole = refl }
runs-split (suc k) (goes_on {out = out} d r e) =
    let two = runs-split k r in
    record { middle = two.middle; out = out ++ two.out; rest = two.rest; before = goes_on d two.before refl; behind = two.behind; whole = e ∙ ap (λ l. out ++ l) two.whole ∙ sym (append_assoc out two.out two.rest) }

pub runs_split : RunsSplit
runs_split k s last commands all r = runs-split k r

pub first_runs_are_part : FirstRunsArePart
first_runs_are_part k s a b commands out all first whole =
    let two = runs-split k whole in
    (two.rest, two.whole ∙ ap (λ l. l ++ two.rest) (sym (runs-one first two.before).0))

pub text_of_both : TextOfBoth
text_of_both n out rest = flat_map-append (piece_text n) out rest
