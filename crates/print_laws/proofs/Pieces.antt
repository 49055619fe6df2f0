-- Each map among the pieces that commands print is read again.
use Rattle.std.proofs.Common.{◌≡◌, ◌<◌, ℕ, List, [], ◌∷◌, ◌++◌, length, sym, ap, ◌∙◌, subst, append_assoc}
use Rattle.std.specs.Prelude.{◌-◌}
use Rattle.std.specs.List.{AllByRecursion}
use Rattle.net_defs.specs.Network.{Network, IsFabric}
use Rattle.journal_defs.proofs.Members.{all-join}
use Rattle.map_defs.specs.declared.vertex.MapVertex.{MapVertex}
use Rattle.map_defs.specs.declared.vertex.MapVertex.TheVariants.{Host as HostVertex, Switch as SwitchVertex}
use Rattle.map_defs.specs.NetMap.{NetMap}
use Rattle.map_canon.specs.Printing.{IsOfFabric}
use Rattle.world_defs.proofs.Now.{now_is_fabric}
use Rattle.fabric_file.specs.Reading.{AreNamed}
use Rattle.world_defs.specs.World.{WorldState, fabric_of}
use Rattle.run_defs.specs.declared.command.Command.{Command}
use Rattle.run_defs.specs.declared.line.Line.{Line}
use Rattle.run_defs.specs.declared.line.Line.TheVariants.{Map as MapLine, Circuit as CircuitLine}
use Rattle.run_defs.specs.declared.line.MapWords.{MapWords}
use Rattle.run_defs.specs.declared.line.MapWords.TheVariants.{Complete, Doubtful, IncompleteDepth, IncompleteNodes}
use Rattle.run_defs.specs.Circuit.{IsCircuitTold}
use Rattle.run_defs.specs.Circuit.IsCircuitTold.{whole, too_many_nodes}
use Rattle.run_defs.specs.Output.{Piece, OneLine, MapLines, lines}
use Rattle.run_defs.specs.Session.{SessionState}
use Rattle.run_defs.specs.Deed.{Deed}
use Rattle.run_defs.specs.Outcome.{Kind, kind_of, install_lines, installation}
use Rattle.run_defs.specs.Run.{IsDeed, Does, Runs, map_pieces, routes_lines}
use Rattle.run_defs.specs.Run.IsDeed.{determined, maps, circuits, routes}
use Rattle.run_defs.proofs.ByKind.{InDeed, IsLaw, by-kind}
use Rattle.run_defs.specs.Run.Runs.{ended, goes_on}
use Rattle.run_defs.specs.Headline.{FitsFabric}
use Rattle.mapping_laws.specs.Runs.{IsSessionOf}
use Rattle.mapping_laws.proofs.Sessions.{can-map-now, does-stays, new-session}
use Rattle.print_laws.specs.Printed.{IsPrintable, IsReadAgain, MapsOfRunsReadBack, CompleteMapsReadBack, CircuitMapsReadBack}
use Rattle.print_laws.proofs.ReadAgain.{made_map_is_printable, circuit_map_is_printable, printable_is_read_again}

-- a map among pieces is read again
abbrev IsReadPiece : Network → Piece → Type 0
IsReadPiece n (OneLine l) = Unit {0}
IsReadPiece n (MapLines m) = IsReadAgain n m

abbrev AreRead : Network → List Piece → Type 0
AreRead n ps = AllByRecursion (IsReadPiece n) ps

lines-read : (n : Network) (ls : List Line) → AreRead n (lines ls)
lines-read n [] = tt
lines-read n (l ∷ ls) = (tt, lines-read n ls)

-- what a determined deed prints is lines
abbrev ReadDeed : Network → Deed → Type 0
ReadDeed n d = AreRead n d.output

read-law : (n : Network) (s : SessionState) (k : Kind) → IsLaw (ReadDeed n) s k
read-law n s k = record {
  reads = λ ls. lines-read n ls;
  happens = λ es ls are. lines-read n ls;
  plans = λ ahead fault is. (tt, tt);
  installs = λ l tries is are may. lines-read n (install_lines l.hosts (installation s.world l tries));
  restarts = λ e is. (tt, tt);
}

map-read : (n : Network) (l : Line) (m : NetMap) (words : MapWords) → IsReadAgain n m → AreRead n (OneLine l ∷ map_pieces words m)
map-read n l m Complete is = (tt, (is, tt))
map-read n l m (Doubtful drowned) is = (tt, (is, tt))
map-read n l m IncompleteDepth is = (tt, (is, tt))
map-read n l m IncompleteNodes is = (tt, tt)

-- what is of the hosts of a fabric is of any with the same hosts
vertex-of : (n k : Network) (v : MapVertex) → n.hosts ≡ k.hosts → IsOfFabric n v → IsOfFabric k v
vertex-of n k (HostVertex a) same is = subst (λ hs. a < length hs) same is
vertex-of n k (SwitchVertex s) same is = is

vertices-of : (n k : Network) (vs : List MapVertex) → n.hosts ≡ k.hosts → AllByRecursion (IsOfFabric n) vs → AllByRecursion (IsOfFabric k) vs
vertices-of n k [] same all = tt
vertices-of n k (v ∷ vs) same all = (vertex-of n k v same all.0, vertices-of n k vs same all.1)

pub printable-of : (n k : Network) (m : NetMap) → n.hosts ≡ k.hosts → IsPrintable n m → IsPrintable k m
printable-of n k m same is = record { rules = is.rules; hosts = vertices-of n k m.vertices same is.hosts; few_vertices = is.few_vertices; few_cables = is.few_cables }

-- the hosts of a session over a fabric are those of the fabric
session-hosts : (n : Network) (s : SessionState) → IsSessionOf n s → (fabric_of s.world).hosts ≡ n.hosts
session-hosts n s is = ap (λ (x : Network). x.hosts) is.first

circuit-read : (n k : Network) (host depth : ℕ) (out : List Piece) → IsFabric n → IsFabric k → k.hosts ≡ n.hosts → AreNamed n → host < length k.hosts → IsCircuitTold k host depth out → AreRead n out
circuit-read n k host depth out f fair same named there (whole j m growing kept is printed) =
    subst (AreRead n) (sym printed) (tt, (printable_is_read_again n m f named (printable-of k n m same (circuit_map_is_printable k host depth j m fair there kept is)), tt))
circuit-read n k host depth out f fair same named there (too_many_nodes j growing passed printed) = subst (AreRead n) (sym printed) (tt, tt)

deed-read : {s : SessionState} {c : Command} {d : Deed} → (n : Network) → IsFabric n → AreNamed n → FitsFabric n c → IsSessionOf n s → IsDeed s c d → AreRead n d.output
deed-read {s = s} {c = c} n f named of_n is (determined e) = subst (InDeed (ReadDeed n)) e (by-kind (ReadDeed n) s (kind_of c) (read-law n s (kind_of c)))
deed-read {s = s} n f named of_n is (maps {host = host} {depth = depth} {tries = tries} after j m words idle made same) =
    let can = can-map-now n s host depth tries of_n is idle in
    let printable = made_map_is_printable host depth tries s.world after j m words can made in
    let read = printable_is_read_again n m f named (printable-of (fabric_of s.world) n m (session-hosts n s is) printable) in
    subst (ReadDeed n) (sym same) (map-read n (MapLine host words (length j) (after.injected - s.world.injected)) m words read)
deed-read {s = s} n f named of_n is (circuits {host = host} {depth = depth} out told same) =
    let hosts = session-hosts n s is in
    subst (ReadDeed n) (sym same)
    (circuit-read n (fabric_of s.world) host depth out f (now_is_fabric s.world.links.cables is.history) hosts named (subst (λ hs. host < length hs) (sym hosts) of_n) told)
deed-read n f named of_n is (routes l found complete are same) = subst (ReadDeed n) (sym same) (lines-read n (routes_lines l.made found))

does-read : {s next : SessionState} {c : Command} {out : List Piece} → (n : Network) → IsFabric n → AreNamed n → FitsFabric n c → IsSessionOf n s → Does s c out next → AreRead n out
does-read n f named of_n is d = subst (AreRead n) (sym d.prints) (deed-read n f named of_n is d.is)

runs-read : {s last : SessionState} {cs : List Command} {out : List Piece} → (n : Network) → IsFabric n → AreNamed n → AllByRecursion (FitsFabric n) cs → IsSessionOf n s → Runs s cs out last → AreRead n out
runs-read n f named all is ended = tt
runs-read n f named all is (goes_on {out = out} {rest = rest} d r e) =
    subst (AreRead n) (sym e) (all-join (IsReadPiece n) out rest (does-read n f named all.0 is d) (runs-read n f named all.1 (does-stays n all.0 is d) r))

-- a map that stands among pieces
stands-read : (n : Network) (m : NetMap) (before behind : List Piece) → AreRead n (before ++ MapLines m ∷ behind) → IsReadAgain n m
stands-read n m [] behind all = all.0
stands-read n m (p ∷ before) behind all = stands-read n m before behind all.1

pub maps_of_runs_read_back : MapsOfRunsReadBack
maps_of_runs_read_back n commands out last before behind m f named all r e = stands-read n m before behind (subst (AreRead n) e (runs-read n f named all (new-session n f) r))

pub complete_maps_read_back : CompleteMapsReadBack
complete_maps_read_back n commands out last mapper m f named all r p =
    let line = OneLine (MapLine mapper Complete p.asks p.packets) in
    maps_of_runs_read_back n commands out last (p.before ++ line ∷ []) p.behind m f named all r (p.there ∙ sym (append_assoc p.before (line ∷ []) (MapLines m ∷ p.behind)))

pub circuit_maps_read_back : CircuitMapsReadBack
circuit_maps_read_back n commands out last host depth asks m f named all r p =
    let line = OneLine (CircuitLine host depth asks) in
    maps_of_runs_read_back n commands out last (p.before ++ line ∷ []) p.behind m f named all r (p.there ∙ sym (append_assoc p.before (line ∷ []) (MapLines m ∷ p.behind)))
