-- Each line that says complete, or reports circuit links, is the first that a command prints, and followed by a map
-- that is right in the fabric before the command; so the command is named for each such line of what a run prints.
use Rattle.std.proofs.Common.{◌≡◌, ℕ, List, [], ◌∷◌, ◌++◌, map, length, Option, Some, None, refl, sym, ap, ◌∙◌, subst}
use Rattle.std.specs.List.{AllByRecursion}
use Rattle.net_defs.specs.declared.route.Route.{Route}
use Rattle.net_defs.specs.Network.{Network}
use Rattle.journal_defs.specs.declared.entry.Entry.{Entry}
use Rattle.journal_defs.proofs.Members.{all-join}
use Rattle.gm_defs.specs.Token.{PortState}
use Rattle.map_defs.specs.NetMap.{NetMap}
use Rattle.map_defs.specs.Ranks.{ranks_of}
use Rattle.map_defs.specs.Orientation.{order_of}
use Rattle.map_defs.specs.Sameness.{IsMapOfPart}
use Rattle.world_defs.specs.Node.{port_at}
use Rattle.world_defs.proofs.Now.{now_is_fabric}
use Rattle.world_defs.specs.Table.{Adoption}
use Rattle.world_defs.specs.World.{WorldState, fabric_of, node_at}
use Rattle.run_defs.specs.declared.command.Command.{Command}
use Rattle.run_defs.specs.declared.command.Command.TheVariants.{Map, Circuit, Routes, Install, Tokens, Step, Broken}
use Rattle.run_defs.specs.declared.line.Line.{Line}
use Rattle.run_defs.specs.declared.line.Line.TheVariants.{Map as MapLine, Circuit as CircuitLine, EndRoutes, Step as StepLine, Broken as BrokenLine, EndBroken}
use Rattle.run_defs.specs.declared.line.MapWords.{MapWords}
use Rattle.run_defs.specs.declared.line.MapWords.TheVariants.{Complete, Doubtful, IncompleteDepth, IncompleteNodes}
use Rattle.run_defs.specs.Mapped.{IsMapped}
use Rattle.run_defs.specs.Circuit.{IsCircuitTold}
use Rattle.run_defs.specs.Circuit.IsCircuitTold.{whole, too_many_nodes}
use Rattle.run_defs.specs.Output.{Piece, OneLine, MapLines, lines}
use Rattle.run_defs.specs.Session.{SessionState, new_session, complete_map}
use Rattle.run_defs.specs.Deed.{Deed}
use Rattle.run_defs.specs.Outcome.{event_of, words_of, token_lines, table_line, installation, broken_routes, broken_lines, deed_of}
use Rattle.run_defs.specs.Run.{Does, Runs, map_pieces, route_line, rank_line, routes_lines}
use Rattle.run_defs.proofs.Doing.{doing, Doing}
use Rattle.run_defs.proofs.Doing.Doing.{determined, maps, circuits, routes}
use Rattle.run_defs.proofs.ByKind.{InDeed, refused-map, refused-routes, by-event, by-install, outcome-law}
use Rattle.run_defs.specs.Run.Runs.{ended, goes_on}
use Rattle.run_defs.specs.Headline.{FitsFabric, WasTrue}
use Rattle.circ_defs.specs.CircuitMap.{IsCircuitMap}
use Rattle.circ_laws.proofs.Numbering.{circuit_map_is_core}
use Rattle.mapping_laws.specs.Runs.{IsSessionOf, CompleteMapsAreTrue, DeepMapsAreComplete}
use Rattle.mapping_laws.specs.Circuits.{WasTold, CircuitMapsAreTrue}
use Rattle.mapping_laws.proofs.Made.{made_map_is_right, deep_map_is_complete}
use Rattle.mapping_laws.proofs.Sessions.{can-map, can-map-now, does-stays, new-session, run_keeps_world}

-- what the map after a line is to be: the mapper's part, or the circuit map
data Heading : Type 0 where
  OfPart : (mapper : ℕ) → Heading
  OfCircuit : (host depth asks : ℕ) → Heading

abbrev heading_in : Line → Option Heading
heading_in (MapLine mapper Complete asks packets) = Some (OfPart mapper)
heading_in (CircuitLine host depth asks) = Some (OfCircuit host depth asks)
heading_in _ = None

abbrev heading_of : Piece → Option Heading
heading_of (OneLine l) = heading_in l
heading_of (MapLines m) = None

-- a map is that
abbrev IsHeaded : Network → Heading → NetMap → Type 0
IsHeaded n (OfPart mapper) m = IsMapOfPart n mapper m
IsHeaded n (OfCircuit host depth asks) m = IsCircuitTold n host depth (OneLine (CircuitLine host depth asks) ∷ MapLines m ∷ [])

-- a command asks for such a map
abbrev IsFor : Heading → Command → Type 0
IsFor (OfPart mapper) c = (depth : ℕ) × (tries : ℕ) × (c ≡ Map mapper depth tries)
IsFor (OfCircuit host depth asks) c = c ≡ Circuit host depth

-- pieces that ask for no map after them
abbrev IsOtherPiece : Piece → Type 0
IsOtherPiece p = heading_of p ≡ None

-- What a command prints over a fabric: no line that asks for a map, or one and its map alone.
data Prints (n : Network) (c : Command) (out : List Piece) : Type 0 where
  plain : AllByRecursion IsOtherPiece out → Prints n c out
  headed : (l : Line) (h : Heading) (m : NetMap) → heading_in l ≡ Some h → IsFor h c → IsHeaded n h m → out ≡ OneLine l ∷ MapLines m ∷ [] → Prints n c out

-- lines that ask for no map after them
abbrev IsOther : Line → Type 0
IsOther l = heading_in l ≡ None

lines-other : (ls : List Line) → AllByRecursion IsOther ls → AllByRecursion IsOtherPiece (lines ls)
lines-other [] all = tt
lines-other (l ∷ ls) all = (all.0, lines-other ls all.1)

each-other : {X : Type 0} (f : X → Line) (xs : List X) → ((x : X) → IsOther (f x)) → AllByRecursion IsOther (map f xs)
each-other f [] e = tt
each-other f (x ∷ xs) e = (e x, each-other f xs e)

abbrev OtherOut : Deed → Type 0
OtherOut d = AllByRecursion IsOtherPiece d.output

token-other : (h port : ℕ) (o : Option PortState) → AllByRecursion IsOtherPiece (lines (token_lines h port o))
token-other h port None = (refl, tt)
token-other h port (Some p) = (refl, tt)

broken-other : (w : WorldState) (o : Option Adoption) → AllByRecursion IsOtherPiece (lines (broken_lines w o))
broken-other w None = (refl, tt)
broken-other w (Some a) =
    let told : List Line = map (λ (r : Route). BrokenLine r.from r.to) (broken_routes w a) in
    lines-other (told ++ EndBroken ∷ []) (all-join IsOther told (EndBroken ∷ []) (each-other (λ (r : Route). BrokenLine r.from r.to) (broken_routes w a) (λ r. refl)) (refl, tt))

deed-other : (s : SessionState) (c : Command) → InDeed OtherOut (deed_of s c)
deed-other s (Map host depth tries) = refused-map OtherOut s.world host (refl, tt)
deed-other s (Circuit host depth) = tt
deed-other s Routes = refused-routes OtherOut (complete_map s.last_map) (refl, tt)
deed-other s (Install tries) =
    by-install OtherOut s.world tries s.last_routes (λ cause. (refl, tt))
    (λ l are may. let now : WorldState = (installation s.world l tries).world in (refl, lines-other (map (table_line now) l.hosts) (each-other (table_line now) l.hosts (λ h. refl))))
deed-other s (Tokens h port) = token-other h port (port_at (node_at s.world h) port)
deed-other s (Step line) = by-event OtherOut s.world (λ effect v. StepLine (words_of v effect) ∷ []) (event_of s.world line) (refl, tt) (λ e is. (refl, tt))
deed-other s Broken = broken-other s.world s.world.adopted
deed-other s _ = (refl, tt)

map-prints : (n : Network) (host depth tries asks packets : ℕ) (m : NetMap) (words : MapWords) → (words ≡ Complete → IsMapOfPart n host m) → Prints n (Map host depth tries) (OneLine (MapLine host words asks packets) ∷ map_pieces words m)
map-prints n host depth tries asks packets m Complete is = headed (MapLine host Complete asks packets) (OfPart host) m refl (depth, tries, refl) (is refl) refl
map-prints n host depth tries asks packets m (Doubtful drowned) is = plain (refl, (refl, tt))
map-prints n host depth tries asks packets m IncompleteDepth is = plain (refl, (refl, tt))
map-prints n host depth tries asks packets m IncompleteNodes is = plain (refl, tt)

routes-other : (m : NetMap) (found : List Route) → AllByRecursion IsOtherPiece (lines (routes_lines m found))
routes-other m found = lines-other (routes_lines m found) (
  refl,
  all-join IsOther (map route_line found ++ map (rank_line m) (ranks_of m (order_of m))) (EndRoutes ∷ [])
      (all-join IsOther (map route_line found) (map (rank_line m) (ranks_of m (order_of m))) (each-other route_line found (λ r. refl)) (each-other (rank_line m) (ranks_of m (order_of m)) (λ k. refl)))
      (refl, tt),
)

circuit-prints : (n : Network) (host depth : ℕ) (out : List Piece) → IsCircuitTold n host depth out → Prints n (Circuit host depth) out
circuit-prints n host depth out (whole j m growing kept is printed) = headed (CircuitLine host depth (length j)) (OfCircuit host depth (length j)) m refl refl (whole j m growing kept is refl) printed
circuit-prints n host depth out (too_many_nodes j growing passed printed) = plain (subst (AllByRecursion IsOtherPiece) (sym printed) (refl, tt))

prints-so : {s next : SessionState} {c : Command} {out : List Piece} → (n : Network) → FitsFabric n c → IsSessionOf n s → Doing s c out next → Prints (fabric_of s.world) c out
prints-so {s = s} {next = next} {c = c} {out = out} n of_n is (determined e) = plain (outcome-law (λ o. AllByRecursion IsOtherPiece o.output) s c (record { output = out; after = next }) (deed-other s c) e)
prints-so {s = s} n of_n is (maps {host = host} {depth = depth} {tries = tries} after j m words idle made printed left) =
    let can = can-map-now n s host depth tries of_n is idle in
    subst (Prints (fabric_of s.world) (Map host depth tries)) (sym printed) (map-prints (fabric_of s.world) host depth tries _ _ m words
    (λ e. made_map_is_right host depth tries s.world after j m can (subst (IsMapped host depth tries s.world after j m) e made)))
prints-so {s = s} {out = out} n of_n is (circuits {host = host} {depth = depth} told left) = circuit-prints (fabric_of s.world) host depth out told
prints-so {s = s} n of_n is (routes l found complete are printed left) = plain (subst (AllByRecursion IsOtherPiece) (sym printed) (routes-other l.made found))

does-print : {s next : SessionState} {c : Command} {out : List Piece} → (n : Network) → FitsFabric n c → IsSessionOf n s → Does s c out next → Prints (fabric_of s.world) c out
does-print n of_n is d = prints-so n of_n is (doing d)

-- where a piece of two outputs in a row stands: in the first or in the second
data Stands (xs ys before : List Piece) (p : Piece) (behind : List Piece) : Type 0 where
  in_first : (mid : List Piece) → xs ≡ before ++ p ∷ mid → mid ++ ys ≡ behind → Stands xs ys before p behind
  in_second : (b : List Piece) → before ≡ xs ++ b → ys ≡ b ++ p ∷ behind → Stands xs ys before p behind

head-of : (x y : Piece) (xs ys : List Piece) → x ∷ xs ≡ y ∷ ys → x ≡ y
head-of x y xs ys e = cc

tail-of : (x y : Piece) (xs ys : List Piece) → x ∷ xs ≡ y ∷ ys → xs ≡ ys
tail-of x y xs ys e = cc

stands : (xs ys before : List Piece) (p : Piece) (behind : List Piece) → xs ++ ys ≡ before ++ p ∷ behind → Stands xs ys before p behind
stands [] ys before p behind e = in_second before refl e
stands (x ∷ xs) ys [] p behind e = in_first xs (ap (λ q. q ∷ xs) (head-of x p (xs ++ ys) behind e)) (tail-of x p (xs ++ ys) behind e)
stands (x ∷ xs) ys (b ∷ before) p behind e =
    let same : x ≡ b = head-of x b (xs ++ ys) (before ++ p ∷ behind) e in
    by same (stands xs ys before p behind (tail-of x b (xs ++ ys) (before ++ p ∷ behind) e))
  where
    by : x ≡ b → Stands xs ys before p behind → Stands (x ∷ xs) ys (b ∷ before) p behind
    by same (in_first mid first rest) = in_first mid (ap (λ l. x ∷ l) first ∙ ap (λ q. q ∷ (before ++ p ∷ mid)) same) rest
    by same (in_second c front rest) = in_second c (ap (λ l. b ∷ l) front ∙ ap (λ q. q ∷ (xs ++ c)) (sym same)) rest

none-among : (before : List Piece) (p : Piece) (mid : List Piece) → AllByRecursion IsOtherPiece (before ++ p ∷ mid) → heading_of p ≡ None
none-among [] p mid all = all.0
none-among (x ∷ before) p mid all = none-among before p mid all.1

-- a line that asks for a map, in what a command prints, is the first piece, and its map the second
record IsFirst (n : Network) (c : Command) (before : List Piece) (h : Heading) (mid : List Piece) : Type 0 where
  first : before ≡ []
  command : IsFor h c
  made : NetMap
  right : IsHeaded n h made
  behind : mid ≡ MapLines made ∷ []

same-heading : (h k : Heading) → Some h ≡ Some k → h ≡ k
same-heading h k e = cc

first-in : (n : Network) (c : Command) (out before : List Piece) (l : Line) (h : Heading) (mid : List Piece) → Prints n c out → heading_in l ≡ Some h → out ≡ before ++ OneLine l ∷ mid → IsFirst n c before h mid
first-in n c out before l h mid (plain all) is e =
    let none : heading_in l ≡ None = none-among before (OneLine l) mid (subst (AllByRecursion IsOtherPiece) e all) in cc
first-in n c out [] l h mid (headed k g m head asked right printed) is e =
    let both : OneLine k ∷ MapLines m ∷ [] ≡ OneLine l ∷ mid = sym printed ∙ e in
    let line : k ≡ l = cc in
    let same : g ≡ h = same-heading g h (sym head ∙ ap heading_in line ∙ is) in
    record {
      first = refl;
      command = subst (λ x. IsFor x c) same asked;
      made = m;
      right = subst (λ x. IsHeaded n x m) same right;
      behind = sym (tail-of (OneLine k) (OneLine l) (MapLines m ∷ []) mid both);
    }
first-in n c out (x ∷ []) l h mid (headed k g m head asked right printed) is e =
    let both : OneLine k ∷ MapLines m ∷ [] ≡ x ∷ OneLine l ∷ mid = sym printed ∙ e in
    let wrong : MapLines m ≡ OneLine l = head-of (MapLines m) (OneLine l) [] mid (tail-of (OneLine k) x (MapLines m ∷ []) (OneLine l ∷ mid) both) in
    cc
first-in n c out (x ∷ y ∷ before) l h mid (headed k g m head asked right printed) is e =
    let both : OneLine k ∷ MapLines m ∷ [] ≡ x ∷ y ∷ (before ++ OneLine l ∷ mid) = sym printed ∙ e in
    let wrong : [] ≡ before ++ OneLine l ∷ mid = tail-of (MapLines m) y [] (before ++ OneLine l ∷ mid) (tail-of (OneLine k) x (MapLines m ∷ []) (y ∷ (before ++ OneLine l ∷ mid)) both) in
    absurd (nothing before wrong)
  where
    nothing : (ps : List Piece) → [] ≡ ps ++ OneLine l ∷ mid → ⊥
    nothing [] d = cc
    nothing (q ∷ ps) d = cc

-- The command that printed a map, the commands and the session before it.
record IsMaker (n : Network) (s : SessionState) (cs : List Command) (before : List Piece) (h : Heading) (m : NetMap) : Type 0 where
  front : List Command
  command : Command
  rest : List Command
  split : cs ≡ front ++ command ∷ rest
  session : SessionState
  ran : Runs s front before session
  asked : IsFor h command
  is : IsSessionOf n session
  right : IsHeaded (fabric_of session.world) h m

same-map : (m k : NetMap) (xs ys : List Piece) → MapLines m ∷ xs ≡ MapLines k ∷ ys → m ≡ k
same-map m k xs ys e = cc

maker : {s last : SessionState} {cs : List Command} {out : List Piece} → (n : Network) → AllByRecursion (FitsFabric n) cs → IsSessionOf n s → Runs s cs out last
    → (before : List Piece) (l : Line) (h : Heading) (m : NetMap) (behind : List Piece) → heading_in l ≡ Some h → out ≡ before ++ OneLine l ∷ MapLines m ∷ behind → IsMaker n s cs before h m
maker n all is ended before l h m behind head e = absurd (nothing before e)
  where
    nothing : (ps : List Piece) → [] ≡ ps ++ OneLine l ∷ MapLines m ∷ behind → ⊥
    nothing [] d = cc
    nothing (q ∷ ps) d = cc
maker {s = s} n all is (goes_on {next = next} {c = c} {cs = cs} {out = out} {rest = rest} d r e) before l h m behind head f =
    by (stands out rest before (OneLine l) (MapLines m ∷ behind) (sym e ∙ f)) (λ b there. maker n all.1 (does-stays n all.0 is d) r b l h m behind head there)
  where
    by : Stands out rest before (OneLine l) (MapLines m ∷ behind) → ((b : List Piece) → rest ≡ b ++ OneLine l ∷ MapLines m ∷ behind → IsMaker n next cs b h m) → IsMaker n s (c ∷ cs) before h m
    by (in_first mid first left) again =
        let k = first-in (fabric_of s.world) c out before l h mid (does-print n all.0 is d) head first in
        let same : k.made ≡ m = same-map k.made m rest behind (sym (ap (λ x. x ++ rest) k.behind) ∙ left) in
        record {
          front = [];
          command = c;
          rest = cs;
          split = refl;
          session = s;
          ran = subst (λ x. Runs s [] x s) (sym k.first) ended;
          asked = k.command;
          is = is;
          right = subst (IsHeaded (fabric_of s.world) h) same k.right;
        }
    by (in_second b front left) again =
        let k = again b left in
        record {
          front = c ∷ k.front;
          command = k.command;
          rest = k.rest;
          split = ap (λ x. c ∷ x) k.split;
          session = k.session;
          ran = goes_on d k.ran front;
          asked = k.asked;
          is = k.is;
          right = k.right;
        }

-- the command that maps, and the command that asks for circuit links
part-true : (n : Network) (commands : List Command) (before : List Piece) (mapper : ℕ) (m : NetMap) → (k : IsMaker n (new_session n) commands before (OfPart mapper) m) → WasTrue n commands before mapper m
part-true n commands before mapper m k = record {
  depth = k.asked.0;
  tries = k.asked.1;
  done = record { front = k.front; rest = k.rest; split = k.split ∙ ap (λ c. k.front ++ c ∷ k.rest) k.asked.2; session = k.session; ran = k.ran };
  right = k.right;
}

pub complete_maps_are_true : CompleteMapsAreTrue
complete_maps_are_true n commands f all out last mapper m r p =
    part-true n commands p.before mapper m (maker n all (new-session n f) r p.before (MapLine mapper Complete p.asks p.packets) (OfPart mapper) m p.behind refl p.there)

-- the map that is reported of circuit links
told-map : (n : Network) (host depth asks : ℕ) (m : NetMap) (out : List Piece) → out ≡ OneLine (CircuitLine host depth asks) ∷ MapLines m ∷ [] → IsCircuitTold n host depth out → (j : List Entry) × IsCircuitMap n host depth j m
told-map n host depth asks m out same (whole j k growing kept is printed) =
    let one : k ≡ m = cc in
    (j, subst (IsCircuitMap n host depth j) one is)
told-map n host depth asks m out same (too_many_nodes j growing passed printed) = cc

circuit-told : (n : Network) (commands : List Command) (before : List Piece) (host depth asks : ℕ) (m : NetMap) → (k : IsMaker n (new_session n) commands before (OfCircuit host depth asks) m) → WasTold n commands before host depth asks m
circuit-told n commands before host depth asks m k =
    let now : Network = fabric_of k.session.world in
    let t = told-map now host depth asks m (OneLine (CircuitLine host depth asks) ∷ MapLines m ∷ []) refl k.right in
    record {
      done = record { front = k.front; rest = k.rest; split = k.split ∙ ap (λ c. k.front ++ c ∷ k.rest) k.asked; session = k.session; ran = k.ran };
      told = k.right;
      core = λ es paths deep. circuit_map_is_core now host depth t.0 es m (now_is_fabric k.session.world.links.cables k.is.history) paths deep t.1;
    }

pub circuit_maps_are_true : CircuitMapsAreTrue
circuit_maps_are_true n commands out last host depth asks m f all r p =
    circuit-told n commands p.before host depth asks m (maker n all (new-session n f) r p.before (CircuitLine host depth asks) (OfCircuit host depth asks) m p.behind refl p.there)

pub deep_maps_are_complete : DeepMapsAreComplete
deep_maps_are_complete n commands out s host depth tries after j m words f all r of_n made quiet some low deep =
    let is = run_keeps_world n commands out s f all r in
    deep_map_is_complete host depth tries s.world after j m words (can-map n s host depth of_n.0 of_n.1 is quiet.idle) made quiet some low deep
