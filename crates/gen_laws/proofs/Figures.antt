-- The figures of what the commands of a generated text print.
use Rattle.std.proofs.Common.{◌≡◌, ℕ, zero, suc, true, not, List, [], ◌∷◌, ◌++◌, map, length, replicate, Some, refl, sym, ap, ◌∙◌, subst, append_assoc, if◌then◌else◌}
use Rattle.std.specs.Prelude.{flat_map, min}
use Rattle.std.specs.List.{AllByRecursion}
use Rattle.std.proofs.lemmas.Grind.{flat_map-append}
use Rattle.net_defs.specs.declared.route.Route.{Route}
use Rattle.map_defs.specs.NetMap.{NetMap}
use Rattle.map_defs.specs.Orientation.{order_of}
use Rattle.map_defs.specs.Ranks.{ranks_of}
use Rattle.world_defs.specs.Acts.{acted_all}
use Rattle.world_defs.specs.Links.{is_idle}
use Rattle.world_defs.specs.Log.{Log}
use Rattle.world_defs.specs.Logs as log
use Rattle.world_defs.specs.Logs.{Rounds}
use Rattle.world_defs.specs.Settle.{unacknowledged_in}
use Rattle.world_defs.specs.World.{WorldState, last_count}
use Rattle.run_defs.specs.declared.command.Command.{Command}
use Rattle.run_defs.specs.declared.command.Command.TheVariants.{Install, Settle, Finish}
use Rattle.run_defs.specs.declared.figure.Figure.{Figure}
use Rattle.run_defs.specs.declared.figure.Figure.TheVariants.{Installed as FigureInstalled, Routed, Settled}
use Rattle.run_defs.specs.declared.line.InstallCause.TheVariants.{Busy}
use Rattle.run_defs.specs.declared.line.Line.{Line}
use Rattle.run_defs.specs.declared.line.Line.TheVariants.{InstallRefused, EndRoutes, Finish as FinishLine}
use Rattle.run_defs.specs.Deed.{Deed, says}
use Rattle.run_defs.specs.Outcome.{may_install, refusal_cause, table_line, installation, install, install_now, happening, settle_lines as settled_lines}
use Rattle.run_defs.specs.Output.{Piece, lines}
use Rattle.run_defs.specs.Run.{IsDeed, Does, Runs, route_line, rank_line, routes_lines}
use Rattle.run_defs.specs.Run.IsDeed.{determined}
use Rattle.run_defs.specs.Run.Runs.{ended, goes_on}
use Rattle.run_defs.specs.Session.{SessionState, LastRoutes}
use Rattle.run_defs.specs.Summary.{figures_of, figures_in, mapping_lines, settle_lines}
use Rattle.run_defs.proofs.Doing.{does-world, acted-settle}
use Rattle.run_laws.proofs.RunsOnce.{deed-one}

-- a run in two parts, and its first command
pub record AreParts (s last : SessionState) (cs ds : List Command) (all : List Piece) : Type 0 where
  pub middle : SessionState
  pub out : List Piece
  pub rest : List Piece
  pub before : Runs s cs out middle
  pub behind : Runs middle ds rest last
  pub whole : all ≡ out ++ rest

pub parts-of : (cs ds : List Command) {s last : SessionState} {all : List Piece} → Runs s (cs ++ ds) all last → AreParts s last cs ds all
parts-of [] ds {s = s} {all = all} r = record { middle = s; out = []; rest = all; before = ended; behind = r; whole = refl }
parts-of (c ∷ cs) ds (goes_on {out = out} d r e) =
    let two = parts-of cs ds r in
    record { middle = two.middle; out = out ++ two.out; rest = two.rest; before = goes_on d two.before refl; behind = two.behind; whole = e ∙ ap (λ x. out ++ x) two.whole ∙ sym (append_assoc out two.out two.rest) }

pub record IsFirst (s last : SessionState) (c : Command) (cs : List Command) (all : List Piece) : Type 0 where
  pub next : SessionState
  pub out : List Piece
  pub rest : List Piece
  pub does : Does s c out next
  pub behind : Runs next cs rest last
  pub whole : all ≡ out ++ rest

pub first-of : {s last : SessionState} {c : Command} {cs : List Command} {all : List Piece} → Runs s (c ∷ cs) all last → IsFirst s last c cs all
first-of (goes_on {next = next} {out = out} {rest = rest} d r e) = record { next = next; out = out; rest = rest; does = d; behind = r; whole = e }

-- figures that a summary only counts
pub record AreCounted (figures : List Figure) : Type 0 where
  pub mapping : flat_map mapping_lines figures ≡ []
  pub settling : flat_map settle_lines figures ≡ []

none-counted : AreCounted []
none-counted = record { mapping = refl; settling = refl }

pub counted-both : (fs gs : List Figure) → AreCounted fs → AreCounted gs → AreCounted (fs ++ gs)
counted-both fs gs a b = record {
  mapping = flat_map-append mapping_lines fs gs ∙ ap (λ ls. ls ++ flat_map mapping_lines gs) a.mapping ∙ b.mapping;
  settling = flat_map-append settle_lines fs gs ∙ ap (λ ls. ls ++ flat_map settle_lines gs) a.settling ∙ b.settling;
}

-- such are figures of one kind that no line shows
pub counted-many : (f : Figure) (k : ℕ) → mapping_lines f ≡ [] → settle_lines f ≡ [] → AreCounted (replicate k f)
counted-many f zero m s = none-counted
counted-many f (suc k) m s =
    let rest = counted-many f k m s in
    record { mapping = (λ i. m i ++ rest.mapping i); settling = (λ i. s i ++ rest.settling i) }

-- lines without figures
abbrev HasNone : Line → Type 0
HasNone l = figures_of l ≡ []

lines-none : (ls : List Line) → AllByRecursion HasNone ls → figures_in (lines ls) ≡ []
lines-none [] all = refl
lines-none (l ∷ ls) all = ap (λ fs. fs ++ figures_in (lines ls)) all.0 ∙ lines-none ls all.1

mapped-none : {X : Type 0} (f : X → Line) (xs : List X) (rest : List Line) → ((x : X) → HasNone (f x)) → AllByRecursion HasNone rest → AllByRecursion HasNone (map f xs ++ rest)
mapped-none f [] rest one all = all
mapped-none f (x ∷ xs) rest one all = (one x, mapped-none f xs rest one all)

tables-none : (w : WorldState) (hs : List ℕ) → AllByRecursion HasNone (map (table_line w) hs)
tables-none w [] = tt
tables-none w (h ∷ hs) = (refl, tables-none w hs)

-- a settle has one figure
pub record IsSettledOnce (s next : SessionState) (out : List Piece) : Type 0 where
  pub rounds : ℕ
  pub resets : ℕ
  pub are : figures_in out ≡ Settled rounds resets (unacknowledged_in (log.settle s.world).world) ∷ []
  pub world : next.world ≡ (log.settle s.world).world

pub settle-figures : {s next : SessionState} {out : List Piece} → Does s Settle out next → IsSettledOnce s next out
settle-figures {s = s} d =
    let l : Log Rounds = log.settle s.world in
    let same : d.deed ≡ happening l.events (settled_lines l) = deed-one d.is (determined refl) in
    record {
      rounds = l.value.rounds;
      resets = min l.value.resets last_count;
      are = ap figures_in d.prints ∙ ap (λ (x : Deed). figures_in x.output) same;
      world = does-world d ∙ ap (λ (x : Deed). acted_all s.world x.acts) same ∙ acted-settle s.world;
    }

-- the end has none
pub finish-figures : {s next : SessionState} {out : List Piece} → Does s Finish out next → figures_in out ≡ []
finish-figures {s = s} d =
    let same : d.deed ≡ says (FinishLine s.world.injected s.world.dropped ∷ []) = deed-one d.is (determined refl) in
    ap figures_in d.prints ∙ ap (λ (x : Deed). figures_in x.output) same

-- routes have one figure
pub routes-figures : (m : NetMap) (found : List Route) → figures_in (lines (routes_lines m found)) ≡ Routed (length found) ∷ []
routes-figures m found =
    let ranks : List Line = map (rank_line m) (ranks_of m (order_of m)) in
    let all : AllByRecursion HasNone (map route_line found ++ (ranks ++ EndRoutes ∷ [])) =
    mapped-none route_line found (ranks ++ EndRoutes ∷ []) (λ r. refl) (mapped-none (rank_line m) (ranks_of m (order_of m)) (EndRoutes ∷ []) (λ k. refl) (refl, tt)) in
    let rest : AllByRecursion HasNone (map route_line found ++ ranks ++ EndRoutes ∷ []) = subst (AllByRecursion HasNone) (sym (append_assoc (map route_line found) ranks (EndRoutes ∷ []))) all in
    ap (λ fs. Routed (length found) ∷ fs) (lines-none (map route_line found ++ ranks ++ EndRoutes ∷ []) rest)

-- an installation that nothing refuses, and its one figure
pub installs-now : {s : SessionState} {d : Deed} (l : LastRoutes) (tries : ℕ) → s.last_routes ≡ Some l → is_idle s.world.links ≡ true → may_install s.world l ≡ true → IsDeed s (Install tries) d → d ≡ install_now s.world l tries
installs-now {s = s} l tries are idle may is =
    let w : WorldState = s.world in
    let refused : Deed = says (InstallRefused (refusal_cause w l) ∷ []) in
    let now : install w tries s.last_routes ≡ install_now w l tries =
    ap (install w tries) are
    ∙ ap (λ b. if not b then says (InstallRefused Busy ∷ []) else if not (may_install w l) then refused else install_now w l tries) idle
    ∙ ap (λ b. if not b then refused else install_now w l tries) may in
    deed-one is (determined refl) ∙ now

pub install-figures : (w : WorldState) (l : LastRoutes) (tries : ℕ) → figures_in (install_now w l tries).output ≡ FigureInstalled (installation w l tries).value (length l.hosts) ∷ []
install-figures w l tries =
    let r : Log ℕ = installation w l tries in
    ap (λ fs. FigureInstalled r.value (length l.hosts) ∷ fs) (lines-none (map (table_line r.world) l.hosts) (tables-none r.world l.hosts))
