-- The lines of the two hosts say what their events do, and so show what each incarnation got.
use Rattle.std.proofs.Common.{◌≡◌, ◌⊎◌, inl, inr, ℕ, List, [], ◌∷◌, ◌++◌, map, Option, Some, None, refl, sym, ap, ◌∙◌, subst, arith, append_assoc}
use Rattle.std.specs.List.{AllByRecursion}
use Rattle.net_defs.specs.declared.route.Route.{Route}
use Rattle.net_defs.specs.Network.{Network}
use Rattle.gm_defs.specs.Token.{PortState}
use Rattle.map_defs.specs.NetMap.{NetMap}
use Rattle.map_defs.specs.Orientation.{order_of}
use Rattle.map_defs.specs.Ranks.{ranks_of}
use Rattle.world_defs.specs.Node.{port_at}
use Rattle.world_defs.specs.Table.{Adoption}
use Rattle.world_defs.specs.World.{WorldState, node_at}
use Rattle.world_defs.specs.Log.{Log}
use Rattle.duo_defs.specs.declared.event.DuoEvent.{DuoEvent}
use Rattle.duo_defs.specs.Duo.{DuoState, new_duo}
use Rattle.duo_defs.specs.Step.{IsFair, step as duo_step, after_all}
use Rattle.duo_defs.specs.Theorem.{IsReached}
use Rattle.duo_laws.specs.Polled.{effects_of, handed_in, lost_in, IsAllGot}
use Rattle.duo_laws.proofs.Seen.{polled-got}
use Rattle.run_defs.specs.declared.command.Command.{Command}
use Rattle.run_defs.specs.declared.command.Command.TheVariants.{Map, Circuit, Routes, Install, Tokens, Step, Duo, Broken}
use Rattle.run_defs.specs.declared.line.MapWords.{MapWords}
use Rattle.run_defs.specs.declared.line.MapWords.TheVariants.{Complete, Doubtful, IncompleteDepth, IncompleteNodes}
use Rattle.run_defs.specs.declared.line.Line.{Line}
use Rattle.run_defs.specs.declared.line.Line.TheVariants.{Duo as DuoLine, EndRoutes, Step as StepOutput, Broken as BrokenLine, EndBroken}
use Rattle.run_defs.specs.Circuit.{IsCircuitTold}
use Rattle.run_defs.specs.Circuit.IsCircuitTold.{whole, too_many_nodes}
use Rattle.run_defs.specs.Duos.{begun, IsOther}
use Rattle.run_defs.specs.Output.{Piece, OneLine, MapLines, lines}
use Rattle.run_defs.specs.Session.{SessionState, LastRoutes, complete_map}
use Rattle.run_defs.specs.Deed.{Deed}
use Rattle.run_defs.specs.Outcome.{event_of, words_of, token_lines, table_line, installation, broken_routes, broken_lines, install_now, deed_of}
use Rattle.run_defs.specs.Run.{IsDeed, Does, Runs, map_pieces, route_line, rank_line, routes_lines}
use Rattle.run_defs.specs.Run.IsDeed.{determined, maps, circuits, routes}
use Rattle.run_defs.specs.Run.Runs.{ended, goes_on}
use Rattle.run_defs.proofs.ByKind.{InDeed, refused-map, refused-routes, by-event, by-install}
use Rattle.fab_script.specs.Ranges.{IsCommandOf}
use Rattle.fab_script.proofs.Ranged.{events_are_fair}
use Rattle.promise_laws.specs.DuoPolls.{duo_event, duo_events, duo_effect, duo_effects, DuoLinesShowWhatIsGot}
use Rattle.promise_laws.proofs.Duos.{did, line-or-other, does-keep}

-- ---- other commands print no line of the two hosts

abbrev IsOtherLine : Line → Type 0
IsOtherLine (DuoLine effect) = ⊥
IsOtherLine _ = Unit {0}

line-silent : (l : Line) → IsOtherLine l → duo_effect l ≡ []
line-silent (DuoLine effect) other = absurd other
line-silent l other = refl

lines-silent : (ls : List Line) → AllByRecursion IsOtherLine ls → duo_effects (lines ls) ≡ []
lines-silent [] all = refl
lines-silent (l ∷ ls) all = (λ i. line-silent l all.0 i ++ lines-silent ls all.1 i)

mapped-other : {X : Type 0} (f : X → Line) (xs : List X) (rest : List Line) → ((x : X) → IsOtherLine (f x)) → AllByRecursion IsOtherLine rest → AllByRecursion IsOtherLine (map f xs ++ rest)
mapped-other f [] rest one all = all
mapped-other f (x ∷ xs) rest one all = (one x, mapped-other f xs rest one all)

abbrev IsSilent : Deed → Type 0
IsSilent d = duo_effects d.output ≡ []

install-silent : (w : WorldState) (l : LastRoutes) (tries : ℕ) → IsSilent (install_now w l tries)
install-silent w l tries = lines-silent (map (table_line r.world) l.hosts) (tables-other l.hosts)
  where
    r : Log ℕ
    r = installation w l tries

    tables-other : (hs : List ℕ) → AllByRecursion IsOtherLine (map (table_line r.world) hs)
    tables-other [] = tt
    tables-other (h ∷ hs) = (tt, tables-other hs)

tokens-silent : (h port : ℕ) (o : Option PortState) → duo_effects (lines (token_lines h port o)) ≡ []
tokens-silent h port None = refl
tokens-silent h port (Some p) = refl

broken-silent : (w : WorldState) (o : Option Adoption) → duo_effects (lines (broken_lines w o)) ≡ []
broken-silent w None = refl
broken-silent w (Some a) =
    let line : Route → Line = λ r. BrokenLine r.from r.to in
    lines-silent (map line (broken_routes w a) ++ EndBroken ∷ []) (mapped-other line (broken_routes w a) (EndBroken ∷ []) (λ r. tt) (tt, tt))

deed-silent : (s : SessionState) (c : Command) → IsOther c → InDeed IsSilent (deed_of s c)
deed-silent s (Map host depth tries) other = refused-map IsSilent s.world host refl
deed-silent s (Circuit host depth) other = tt
deed-silent s Routes other = refused-routes IsSilent (complete_map s.last_map) refl
deed-silent s (Install tries) other = by-install IsSilent s.world tries s.last_routes (λ cause. refl) (λ l are may. install-silent s.world l tries)
deed-silent s (Tokens h port) other = tokens-silent h port (port_at (node_at s.world h) port)
deed-silent s (Step line) other = by-event IsSilent s.world (λ effect v. StepOutput (words_of v effect) ∷ []) (event_of s.world line) refl (λ e is. refl)
deed-silent s (Duo e) other = absurd (other e refl)
deed-silent s Broken other = broken-silent s.world s.world.adopted
deed-silent s c other = refl

pieces-silent : (words : MapWords) (m : NetMap) → duo_effects (map_pieces words m) ≡ []
pieces-silent Complete m = refl
pieces-silent (Doubtful k) m = refl
pieces-silent IncompleteDepth m = refl
pieces-silent IncompleteNodes m = refl

circuit-silent : {n : Network} {host depth : ℕ} {out : List Piece} → IsCircuitTold n host depth out → duo_effects out ≡ []
circuit-silent (whole j m growing end are is) = ap duo_effects is
circuit-silent (too_many_nodes j growing end is) = ap duo_effects is

routes-silent : (m : NetMap) (found : List Route) → duo_effects (lines (routes_lines m found)) ≡ []
routes-silent m found =
    let ranks : List Line = map (rank_line m) (ranks_of m (order_of m)) in
    let all : AllByRecursion IsOtherLine (map route_line found ++ (ranks ++ EndRoutes ∷ [])) =
    mapped-other route_line found (ranks ++ EndRoutes ∷ []) (λ r. tt) (mapped-other (rank_line m) (ranks_of m (order_of m)) (EndRoutes ∷ []) (λ k. tt) (tt, tt)) in
    lines-silent (routes_lines m found) (tt, subst (AllByRecursion IsOtherLine) (sym (append_assoc (map route_line found) ranks (EndRoutes ∷ []))) all)

silent-so : {s : SessionState} {c : Command} {d : Deed} → IsOther c → IsDeed s c d → IsSilent d
silent-so {s = s} {c = c} other (determined e) = subst (InDeed IsSilent) e (deed-silent s c other)
silent-so other (maps after j m words idle made is) = subst IsSilent (sym is) (pieces-silent words m)
silent-so other (circuits out told is) = subst IsSilent (sym is) (circuit-silent told)
silent-so other (routes l found complete are is) = subst IsSilent (sym is) (routes-silent l.made found)

-- ---- a run

effects-append : (xs ys : List Piece) → duo_effects (xs ++ ys) ≡ duo_effects xs ++ duo_effects ys
effects-append [] ys = refl
effects-append (OneLine l ∷ xs) ys = ap (λ r. duo_effect l ++ r) (effects-append xs ys) ∙ sym (append_assoc (duo_effect l) (duo_effects xs) (duo_effects ys))
effects-append (MapLines m ∷ xs) ys = effects-append xs ys

no-event : (c : Command) → IsOther c → duo_event c ≡ []
no-event (Duo e) other = absurd (other e refl)
no-event c other = refl

-- what the lines of the rest of a run say, and where its events lead
record Tells (before after : Option DuoState) (cs : List Command) (out : List Piece) : Type 0 where
  effects : duo_effects out ≡ effects_of (begun before) (duo_events cs)
  leads : begun after ≡ after_all (begun before) (duo_events cs)

told-on : {s next : SessionState} {c : Command} {cs : List Command} {out rest : List Piece} {after : Option DuoState} → Does s c out next → Tells next.duo after cs rest → Tells s.duo after (c ∷ cs) (out ++ rest)
told-on {s = s} {next = next} {c = c} {cs = cs} {out = out} {rest = rest} {after = after} does t = by (line-or-other c)
  where
    by : ((e : DuoEvent) × (c ≡ Duo e)) ⊎ IsOther c → Tells s.duo after (c ∷ cs) (out ++ rest)
    by (inl (e, same)) =
        let d = did e same does in
        let events : duo_events (c ∷ cs) ≡ e ∷ duo_events cs = ap (λ k. duo_event k ++ duo_events cs) same in
        let v : DuoState = (duo_step (begun s.duo) e).1 in
        let now : begun next.duo ≡ v = ap (λ (k : SessionState). begun k.duo) d.left in
        record {
          effects = ap (λ l. duo_effects (l ++ rest)) d.printed
              ∙ ap (λ l. (duo_step (begun s.duo) e).0 ∷ l) (t.effects ∙ ap (λ k. effects_of k (duo_events cs)) now)
              ∙ sym (ap (effects_of (begun s.duo)) events);
          leads = t.leads ∙ ap (λ k. after_all k (duo_events cs)) now ∙ sym (ap (after_all (begun s.duo)) events);
        }
    by (inr other) =
        let events : duo_events (c ∷ cs) ≡ duo_events cs = ap (λ l. l ++ duo_events cs) (no-event c other) in
        let now : begun next.duo ≡ begun s.duo = ap begun (does-keep other does) in
        let silent : duo_effects out ≡ [] = ap duo_effects does.prints ∙ silent-so other does.is in
        record {
          effects = effects-append out rest ∙ ap (λ l. l ++ duo_effects rest) silent ∙ t.effects ∙ ap (λ k. effects_of k (duo_events cs)) now ∙ sym (ap (effects_of (begun s.duo)) events);
          leads = t.leads ∙ ap (λ k. after_all k (duo_events cs)) now ∙ sym (ap (after_all (begun s.duo)) events);
        }

runs-tell : {s last : SessionState} {cs : List Command} {out : List Piece} → Runs s cs out last → Tells s.duo last.duo cs out
runs-tell ended = record { effects = refl; leads = refl }
runs-tell {s = s} {last = last} (goes_on {c = c} {cs = cs} d r e) = subst (Tells s.duo last.duo (c ∷ cs)) (sym e) (told-on d (runs-tell r))

fair-events : (n : Network) (cs : List Command) → AllByRecursion (IsCommandOf n) cs → AllByRecursion IsFair (duo_events cs)
fair-events n [] all = tt
fair-events n (c ∷ cs) all = by (line-or-other c) (fair-events n cs all.1)
  where
    by : ((e : DuoEvent) × (c ≡ Duo e)) ⊎ IsOther c → AllByRecursion IsFair (duo_events cs) → AllByRecursion IsFair (duo_events (c ∷ cs))
    by (inl (e, same)) fair = subst (λ k. AllByRecursion IsFair (duo_event k ++ duo_events cs)) (sym same) (events_are_fair e (subst (IsCommandOf n) same all.0), fair)
    by (inr other) fair = subst (λ l. AllByRecursion IsFair (l ++ duo_events cs)) (sym (no-event c other)) fair

pub duo_lines-show_what_is_got : DuoLinesShowWhatIsGot
duo_lines-show_what_is_got n commands out last all run =
    let es : List DuoEvent = duo_events commands in
    let t : Tells None last.duo commands out = runs-tell run in
    let is : IsReached (begun last.duo) = record { inc = 1; least = omega arith; events = es; fair = fair-events n commands all; leads = t.leads } in
    record {
      effects = t.effects;
      leads = t.leads;
      messages = λ x j low. subst (λ l. IsAllGot (begun last.duo) x j (handed_in x j 1 es l) (lost_in x j (new_duo 1) es)) (sym t.effects) (polled-got (begun last.duo) is x j low);
    }
