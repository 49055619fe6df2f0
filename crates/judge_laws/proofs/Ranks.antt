-- The lines of ranks name vertices of their map, are of 64 bits, and rise by their channels.
use Rattle.std.proofs.Common.{◌≡◌, ◌<◌, ◌≤◌, ◌+◌, ◌-◌, ◌^◌, ◌&&◌, ◌||◌, ℕ, zero, suc, Bool, true, false, List, [], ◌∷◌, ◌++◌, map, length, nat_eq, nat_lt, Some, None, is_some, cond, refl, arith, if◌then◌else◌}
use Rattle.std.specs.Prelude.{ℤ, pos, int_lt, slice_get, slice_index}
use Rattle.std.specs.List.{AllByRecursion, filter, list_all}
use Rattle.std.proofs.lemmas.Bool.Decides.{nat_tests, Decides-eqb}
use Rattle.net_defs.specs.Network.{Network}
use Rattle.net_defs.specs.Turn.{is_turn, IsTurn}
use Rattle.net_defs.proofs.Ends.{both}
use Rattle.journal_defs.specs.Counting.{numbers_below}
use Rattle.journal_defs.specs.Walks.{falling_turns}
use Rattle.journal_defs.proofs.Members.{all-join}
use Rattle.map_defs.specs.declared.vertex.MapVertex.{MapVertex}
use Rattle.map_defs.specs.declared.vertex.MapVertex.TheVariants.{Host, Switch}
use Rattle.map_defs.specs.declared.rank.RankEntry.{RankEntry}
use Rattle.map_defs.specs.NetMap.{NetMap, MapPort, IsMap, port_below, map_far}
use Rattle.map_defs.specs.Orientation.{IsOrder, is_up}
use Rattle.map_defs.specs.Ranks.{ports_at, ports_at_all, channels_in, rank_by, ranks_of}
use Rattle.fabric_file.proofs.Names.{all-nth}
use Rattle.map_canon.specs.Printing.{IsOfFabric, AreOfFabric}
use Rattle.map_canon.proofs.ReadBack.{map-numbered, there-at}
use Rattle.map_canon.proofs.Words.{found-host, found-switch, number-most}
use Rattle.judge_defs.specs.Form.{vertex_told}
use Rattle.judge_laws.specs.Lines.{IsVertexIn}
use Rattle.judge_laws.specs.Answers.{IsRankIn, AreRanksRising}
use Rattle.judge_laws.proofs.Names.{host-there}
use Rattle.judge_laws.proofs.RouteWalks.{AreNumbersRising}

-- each of these stands below all that follow it
abbrev AreRising : List MapPort → Type 0
AreRising [] = Unit {0}
AreRising (d ∷ ds) = AllByRecursion (λ e. port_below d e ≡ true) ds × AreRising ds

-- those that pass a test are left so
filter-all : (P : MapPort → Type 0) (p : MapPort → Bool) (ds : List MapPort) → AllByRecursion P ds → AllByRecursion P (filter p ds)
filter-all P p [] all = tt
filter-all P p (d ∷ ds) all = by (p d) (filter-all P p ds all.1)
  where
    by : (t : Bool) → AllByRecursion P (filter p ds) → AllByRecursion P (cond t (d ∷ filter p ds) (filter p ds))
    by true rest = (all.0, rest)
    by false rest = rest

filter-rising : (p : MapPort → Bool) (ds : List MapPort) → AreRising ds → AreRising (filter p ds)
filter-rising p [] rising = tt
filter-rising p (d ∷ ds) rising = by (p d) (filter-all (λ e. port_below d e ≡ true) p ds rising.0) (filter-rising p ds rising.1)
  where
    by : (t : Bool) → AllByRecursion (λ e. port_below d e ≡ true) (filter p ds) → AreRising (filter p ds) → AreRising (cond t (d ∷ filter p ds) (filter p ds))
    by true all rest = (all, rest)
    by false all rest = rest

-- one list that rises after another
join-rising : (ds es : List MapPort) → AreRising ds → AreRising es → AllByRecursion (λ d. AllByRecursion (λ e. port_below d e ≡ true) es) ds → AreRising (ds ++ es)
join-rising [] es one other across = other
join-rising (d ∷ ds) es one other across = (all-join (λ e. port_below d e ≡ true) ds es one.0 across.0, join-rising ds es one.1 other across.1)

-- the 31 ports of a vertex
abbrev all_turns : List ℤ
all_turns = falling_turns 15 ++ map pos (numbers_below 16)

abbrev at_vertex : ℕ → ℤ → MapPort
at_vertex v p = record { v = v; p = p }

-- numbers that rise, as a test
abbrev is_below_all : ℤ → List ℤ → Bool
is_below_all p ps = list_all (int_lt p) ps

abbrev are_rising : List ℤ → Bool
are_rising [] = true
are_rising (p ∷ ps) = is_below_all p ps && are_rising ps

turns-rise : are_rising all_turns ≡ true
turns-rise = refl

turns-fit : list_all is_turn all_turns ≡ true
turns-fit = refl

same-vertex : (v : ℕ) (p q : ℤ) → int_lt p q ≡ true → port_below (at_vertex v p) (at_vertex v q) ≡ true
same-vertex v p q e =
    let same : nat_eq v v ≡ true = (Decides-eqb v v).1 refl in
    let none : nat_lt v v ≡ false = grind (arith, nat_tests) in
    λ i. none i || (same i && e i)

below-all : (v : ℕ) (p : ℤ) (ps : List ℤ) → is_below_all p ps ≡ true → AllByRecursion (λ e. port_below (at_vertex v p) e ≡ true) (map (at_vertex v) ps)
below-all v p [] e = tt
below-all v p (q ∷ qs) e = let two = both (int_lt p q) (list_all (int_lt p) qs) e in (same-vertex v p q two.0, below-all v p qs two.1)

vertex-rising : (v : ℕ) (ps : List ℤ) → are_rising ps ≡ true → AreRising (map (at_vertex v) ps)
vertex-rising v [] e = tt
vertex-rising v (p ∷ ps) e = let two = both (is_below_all p ps) (are_rising ps) e in (below-all v p ps two.0, vertex-rising v ps two.1)

-- what holds of each port of a vertex
vertex-all : (P : MapPort → Type 0) (v : ℕ) (ps : List ℤ) → ((p : ℤ) → P (at_vertex v p)) → AllByRecursion P (map (at_vertex v) ps)
vertex-all P v [] each = tt
vertex-all P v (p ∷ ps) each = (each p, vertex-all P v ps each)

lower-vertex : (v w : ℕ) (p q : ℤ) → v < w → port_below (at_vertex v p) (at_vertex w q) ≡ true
lower-vertex v w p q low = let less : nat_lt v w ≡ true = grind (arith, nat_tests) in λ i. less i || (nat_eq v w && int_lt p q)

above-vertex : (v : ℕ) (p : ℤ) (ws : List ℕ) → AllByRecursion (λ w. v < w) ws → AllByRecursion (λ e. port_below (at_vertex v p) e ≡ true) (ports_at_all ws)
above-vertex v p [] all = tt
above-vertex v p (w ∷ ws) all =
    all-join (λ e. port_below (at_vertex v p) e ≡ true) (ports_at w) (ports_at_all ws) (vertex-all (λ e. port_below (at_vertex v p) e ≡ true) w all_turns (λ q. lower-vertex v w p q all.0)) (above-vertex v p ws all.1)

ports-rising : (vs : List ℕ) → AreNumbersRising vs → AreRising (ports_at_all vs)
ports-rising [] rising = tt
ports-rising (v ∷ vs) rising =
    join-rising (ports_at v) (ports_at_all vs) (vertex-rising v all_turns turns-rise) (ports-rising vs rising.1)
    (vertex-all (λ d. AllByRecursion (λ e. port_below d e ≡ true) (ports_at_all vs)) v all_turns (λ p. above-vertex v p vs rising.0))

-- the numbers below another rise
join-numbers : (vs : List ℕ) (k : ℕ) → AreNumbersRising vs → AllByRecursion (λ v. v < k) vs → AreNumbersRising (vs ++ k ∷ [])
join-numbers [] k rising low = (tt, tt)
join-numbers (v ∷ vs) k rising low = (all-join (λ w. v < w) vs (k ∷ []) rising.0 (low.0, tt), join-numbers vs k rising.1 low.1)

weaker : (k : ℕ) (vs : List ℕ) → AllByRecursion (λ v. v < k) vs → AllByRecursion (λ v. v < suc k) vs
weaker k [] low = tt
weaker k (v ∷ vs) low = let l = low.0 in (omega arith, weaker k vs low.1)

numbers-low : (k : ℕ) → AllByRecursion (λ v. v < k) (numbers_below k)
numbers-low zero = tt
numbers-low (suc k) = all-join (λ v. v < suc k) (numbers_below k) (k ∷ []) (weaker k (numbers_below k) (numbers-low k)) (omega arith, tt)

numbers-rising : (k : ℕ) → AreNumbersRising (numbers_below k)
numbers-rising zero = tt
numbers-rising (suc k) = join-numbers (numbers_below k) k (numbers-rising k) (numbers-low k)

-- channels of vertices of the map, by ports that may be
abbrev IsPortOf : ℕ → MapPort → Type 0
IsPortOf count d = (d.v < count) × IsTurn d.p

turns-of : (count v : ℕ) (ps : List ℤ) → v < count → list_all is_turn ps ≡ true → AllByRecursion (IsPortOf count) (map (at_vertex v) ps)
turns-of count v [] low e = tt
turns-of count v (p ∷ ps) low e = let two = both (is_turn p) (list_all is_turn ps) e in ((low, two.0), turns-of count v ps low two.1)

ports-of : (count : ℕ) (vs : List ℕ) → AllByRecursion (λ v. v < count) vs → AllByRecursion (IsPortOf count) (ports_at_all vs)
ports-of count [] low = tt
ports-of count (v ∷ vs) low = all-join (IsPortOf count) (ports_at v) (ports_at_all vs) (turns-of count v all_turns low.0 turns-fit) (ports-of count vs low.1)

-- an index is below what all of a list are, or it is 0
index-low : (count : ℕ) (xs : List ℕ) (i : ℕ) → AllByRecursion (λ x. x < count) xs → slice_index xs i ≤ count
index-low count [] i all = omega arith
index-low count (x ∷ xs) zero all = let l = all.0 in omega arith
index-low count (x ∷ xs) (suc i) all = index-low count xs i all.1

module _ (n : Network) (m : NetMap) (order : List ℕ) (rules : IsMap m) (of : AreOfFabric n m) (few : length m.vertices < 2 ^ 32) (is : IsOrder order (length m.vertices)) where
  vertex-in : (v : ℕ) (x : MapVertex) → slice_get m.vertices v ≡ Some x → IsVertexIn n x × (vertex_told m x ≡ Some v)
  vertex-in v (Host h) e = (host-there n h (all-nth (IsOfFabric n) m.vertices v (Host h) of e), found-host m.vertices v h rules.hosts_once e)
  vertex-in v (Switch s) e =
      let most = number-most m.vertices 0 v s (map-numbered m rules) e in
      (omega arith, found-switch m.vertices 0 v s (map-numbered m rules) e)

  rank-low : (d : MapPort) → rank_by m order d < 2 ^ 64
  rank-low d = by (is_up m order d)
    where
      by : (up : Bool) → (if up then length m.vertices - 1 - slice_index order d.v else length m.vertices + slice_index order d.v) < 2 ^ 64
      by true = omega arith
      by false = let low = index-low (length m.vertices) order d.v is.below in omega arith

  abbrev rank_at : MapPort → RankEntry
  rank_at d = record { v = d.v; p = d.p; rank = rank_by m order d }

  rank-in : (d : MapPort) → IsPortOf (length m.vertices) d → IsRankIn n m (rank_at d)
  rank-in d port =
      let x = there-at m.vertices d.v port.0 in
      let told = vertex-in d.v x.0 x.1 in
      record { vertex = x.0; stands = x.1; named = told.0; found = told.1; port = port.1; counted = rank-low d }

  all-in : (ds : List MapPort) → AllByRecursion (IsPortOf (length m.vertices)) ds → AllByRecursion (IsRankIn n m) (map rank_at ds)
  all-in [] all = tt
  all-in (d ∷ ds) all = (rank-in d all.0, all-in ds all.1)

  pub ranks-in : AllByRecursion (IsRankIn n m) (ranks_of m order)
  ranks-in =
      let ports = ports_at_all (numbers_below (length m.vertices)) in
      all-in (channels_in m) (filter-all (IsPortOf (length m.vertices)) (λ d. is_some (map_far m d)) ports (ports-of (length m.vertices) (numbers_below (length m.vertices)) (numbers-low (length m.vertices))))

  rising-from : (d : MapPort) (ds : List MapPort) → AllByRecursion (λ e. port_below d e ≡ true) ds → AreRising ds → AreRanksRising m (Some (rank_at d)) (map rank_at ds)
  rising-from d [] all rising = tt
  rising-from d (e ∷ es) all rising = (all.0, rising-from e es rising.0 rising.1)

  rising-all : (ds : List MapPort) → AreRising ds → AreRanksRising m None (map rank_at ds)
  rising-all [] rising = tt
  rising-all (d ∷ ds) rising = (refl, rising-from d ds rising.0 rising.1)

  pub ranks-rising : AreRanksRising m None (ranks_of m order)
  ranks-rising =
      let ports = ports_at_all (numbers_below (length m.vertices)) in
      rising-all (channels_in m) (filter-rising (λ d. is_some (map_far m d)) ports (ports-rising (numbers_below (length m.vertices)) (numbers-rising (length m.vertices))))
