-- A depth-first walk over the cables of a map: numbers in the order in which vertices are met, the cable by which each
-- was entered, and what its entry cable cuts off (low numbers, after Tarjan, SIAM Journal on Computing 1972).
use Rattle.std.specs.Prelude.{◌≡◌, ◌≢◌, ◌⊎◌, ℕ, zero, suc, ◌<◌, ◌≤◌, ◌+◌, Bool, true, false, List, [], ◌∷◌, ◌++◌}
use Rattle.std.specs.Prelude.{length}
use Rattle.std.specs.Prelude.{nat_eq, nat_lt, slice_get, slice_index_or, slice_set, if◌then◌else◌, Option, Some, None}
use Rattle.std.specs.Prelude.{is_some}
use Rattle.std.specs.List.{AllByRecursion}
use Rattle.map_defs.specs.declared.vertex.MapCable.{MapCable}
use Rattle.map_defs.specs.NetMap.{NetMap, IsMap, host_of_vertex}
use Rattle.core_map.specs.declared.walk.Step.{Step}
use Rattle.core_map.specs.Laws.{IsJoinedWithout}
use Rattle.core_map.specs.Lasting.{Lasts, IsJoinedBy}

-- ---- the cables at each vertex
-- for each vertex its last cable, and for each cable the one before it at either end
pub record Links : Type 0 where
  pub last : List ℕ
  pub firsts : List ℕ
  pub seconds : List ℕ

-- The cable of a number ends at a vertex.
pub record EndsAt (m : NetMap) (i v : ℕ) : Type 0 where
  pub other : ℕ
  pub joined : IsJoinedBy m i v other

-- Of the cables below a bound that end at a vertex, the last is the one before a number; where that is 0, there is
-- none.
pub record IsLastAt (m : NetMap) (v bound last : ℕ) : Type 0 where
  pub below : last ≤ bound
  pub ends : (i : ℕ) → last ≡ suc i → EndsAt m i v
  pub none : (i : ℕ) → last ≤ i → i < bound → EndsAt m i v → ⊥

-- The links have the cables below a bound.
pub record AreLinked (m : NetMap) (ls : Links) (bound : ℕ) : Type 0 where
  pub is_map : IsMap m
  pub long : length ls.last ≡ length m.vertices
  pub long_firsts : length ls.firsts ≡ bound
  pub long_seconds : length ls.seconds ≡ bound
  pub last : (v : ℕ) → v < length m.vertices → IsLastAt m v bound (slice_index_or ls.last v 0)
  pub firsts : (i : ℕ) (c : MapCable) → i < bound → slice_get m.cables i ≡ Some c
      → IsLastAt m c.v i (slice_index_or ls.firsts i 0)
  pub seconds : (i : ℕ) (c : MapCable) → i < bound → slice_get m.cables i ≡ Some c
      → IsLastAt m c.w i (slice_index_or ls.seconds i 0)

-- the links with what is before the next cable at either end
abbrev pub with_before : Links → ℕ → ℕ → Links
with_before ls first second = record {
  last = ls.last;
  firsts = ls.firsts ++ first ∷ [];
  seconds = ls.seconds ++ second ∷ [];
}

-- the links with a cable as the last at both of its ends
abbrev pub with_last : Links → MapCable → ℕ → Links
with_last ls c i = record {
  last = slice_set (slice_set ls.last c.v (i + 1)) c.w (i + 1);
  firsts = ls.firsts;
  seconds = ls.seconds;
}

-- the end of a cable that isn't this one
abbrev pub other_of : MapCable → ℕ → ℕ
other_of c v = if nat_eq c.v v then c.w else c.v

-- ---- where the walk begins
-- Hosts, and what the cables below a bound join to one, have the number 1, and all others 0; what has a number lasts.
pub record AreSources (m : NetMap) (numbers : List ℕ) (bound : ℕ) : Type 0 where
  pub is_map : IsMap m
  pub long : length numbers ≡ length m.vertices
  pub small : (v : ℕ) → slice_index_or numbers v 0 < 2
  pub hosts : (v : ℕ) → is_some (host_of_vertex m v) ≡ true → slice_index_or numbers v 0 ≡ 1
  pub beside : (i v w : ℕ) → i < bound → IsJoinedBy m i v w → is_some (host_of_vertex m w) ≡ true
      → slice_index_or numbers v 0 ≡ 1
  pub lasts : (v : ℕ) → slice_index_or numbers v 0 ≡ 1 → Lasts m v

-- 1 for a host, 0 for a switch
abbrev pub host_number : NetMap → ℕ → ℕ
host_number m v = if is_some (host_of_vertex m v) then 1 else 0

-- numbers with that of a vertex beside another, if that is a host
abbrev pub with_source : NetMap → List ℕ → ℕ → ℕ → List ℕ
with_source m numbers v w = if is_some (host_of_vertex m w) then slice_set numbers v 1 else numbers

-- ---- the walk
-- what a walk has found: numbers, the vertex from which each was entered, what is cut off, the vertices by their
-- numbers from 2 on, and the steps of the way to here, the last first
pub record WalkState : Type 0 where
  pub numbers : List ℕ
  pub parents : List ℕ
  pub cut : List Bool
  pub order : List ℕ
  pub path : List Step

abbrev pub number_in : WalkState → ℕ → ℕ
number_in t v = slice_index_or t.numbers v 0

abbrev pub parent_in : WalkState → ℕ → ℕ
parent_in t v = slice_index_or t.parents v 0

abbrev pub cut_in : WalkState → ℕ → Bool
cut_in t v = slice_index_or t.cut v false

-- the same on another way
abbrev pub with_path : WalkState → List Step → WalkState
with_path t path = record { numbers = t.numbers; parents = t.parents; cut = t.cut; order = t.order; path = path }

-- a step with a least number that isn't above another
abbrev pub lowered : ℕ → Step → Step
lowered low s = if nat_lt low s.low then record { vertex = s.vertex; entry = s.entry; low = low; next = s.next } else s

-- the last step lowered
abbrev pub lowered_first : ℕ → List Step → List Step
lowered_first low [] = []
lowered_first low (s ∷ ss) = lowered low s ∷ ss

-- the way with the step that was taken off
abbrev pub taken_off : Option Step → List Step → List Step
taken_off (Some s) ss = s ∷ ss
taken_off None ss = ss

-- the walk with one vertex more, and a step to it
abbrev pub entered : WalkState → ℕ → ℕ → ℕ → ℕ → WalkState
entered t i v w next = record {
  numbers = slice_set t.numbers w (length t.order + 2);
  parents = slice_set t.parents w v;
  cut = t.cut;
  order = t.order ++ w ∷ [];
  path = record { vertex = w; entry = i; low = length t.order + 2; next = next } ∷ t.path;
}

-- the walk with the mark of a vertex that leads to no number below its own
abbrev pub marked : WalkState → Step → WalkState
marked t s = record {
  numbers = t.numbers;
  parents = t.parents;
  cut = slice_set t.cut s.vertex (nat_eq s.low (slice_index_or t.numbers s.vertex 0));
  order = t.order;
  path = t.path;
}

-- a path over cables none of which is among some
pub data Around (m : NetMap) (ks : List ℕ) (x : ℕ) : ℕ → Type 0 where
  here : Around m ks x x
  on : (i : ℕ) {u w : ℕ} → Around m ks x u → IsJoinedBy m i u w → AllByRecursion (λ k. k ≢ i) ks → Around m ks x w

-- the entry cables of steps
abbrev pub entries : List Step → List ℕ
entries [] = []
entries (s ∷ ss) = s.entry ∷ entries ss

-- a vertex is that of one of the steps
abbrev pub IsOnPath : List Step → ℕ → Type 0
IsOnPath [] v = ⊥
IsOnPath (s ∷ ss) v = (v ≡ s.vertex) ⊎ IsOnPath ss v

-- a way leads on from this vertex: it is that of the last step, if there is one
abbrev pub IsFrom : List Step → ℕ → Type 0
IsFrom [] v = Unit {0}
IsFrom (s ∷ ss) v = v ≡ s.vertex

-- Paths that go round some cables lead from a vertex to one that has this number.
pub record LeadsTo (m : NetMap) (numbers ks : List ℕ) (v number : ℕ) : Type 0 where
  pub end : ℕ
  pub numbered : slice_index_or numbers end 0 ≡ number
  pub path : Around m ks v end

-- A step, before which these were made, and beyond which no number is as great as a bound.
pub record IsStep (m : NetMap) (numbers parents : List ℕ) (bound : ℕ) (s : Step) (ss : List Step) : Type 0 where
  pub vertex : s.vertex < length m.vertices
  pub walked : 2 ≤ slice_index_or numbers s.vertex 0
  pub below : slice_index_or numbers s.vertex 0 < bound
  pub from : IsFrom ss (slice_index_or parents s.vertex 0)
  pub joined : IsJoinedBy m s.entry s.vertex (slice_index_or parents s.vertex 0)
  pub met : 1 ≤ slice_index_or numbers (slice_index_or parents s.vertex 0) 0
  pub lower : slice_index_or numbers (slice_index_or parents s.vertex 0) 0 < slice_index_or numbers s.vertex 0
  pub few : s.next ≤ length m.cables
  pub ends : (i : ℕ) → s.next ≡ suc i → EndsAt m i s.vertex
  pub some_low : 1 ≤ s.low
  pub most : s.low ≤ slice_index_or numbers s.vertex 0
  pub leads : LeadsTo m numbers (entries (s ∷ ss)) s.vertex s.low
  pub seen : (i w : ℕ) → s.next ≤ i → i ≢ s.entry → IsJoinedBy m i s.vertex w → s.low ≤ slice_index_or numbers w 0
  pub beyond : (i v w : ℕ) → slice_index_or numbers s.vertex 0 < slice_index_or numbers v 0
      → slice_index_or numbers v 0 < bound → IsJoinedBy m i v w → s.low ≤ slice_index_or numbers w 0

-- each step of a way
abbrev pub AreSteps : NetMap → List ℕ → List ℕ → ℕ → List Step → Type 0
AreSteps m numbers parents bound [] = Unit {0}
AreSteps m numbers parents bound (s ∷ ss) = IsStep m numbers parents bound s ss
    × AreSteps m numbers parents (slice_index_or numbers s.vertex 0) ss

-- Without a cable a vertex is joined to one with a lower number.
pub record IsHeld (m : NetMap) (numbers : List ℕ) (entry v : ℕ) : Type 0 where
  pub other : ℕ
  pub met : 1 ≤ slice_index_or numbers other 0
  pub lower : slice_index_or numbers other 0 < slice_index_or numbers v 0
  pub joined : IsJoinedWithout m entry v other

-- A vertex that the walk is done with: without its entry cable no host is joined to it, or a vertex with a lower number
-- is.
pub record IsDone (m : NetMap) (numbers parents : List ℕ) (cut : List Bool) (v : ℕ) : Type 0 where
  pub entry : ℕ
  pub joined : IsJoinedBy m entry v (slice_index_or parents v 0)
  pub met : 1 ≤ slice_index_or numbers (slice_index_or parents v 0) 0
  pub lower : slice_index_or numbers (slice_index_or parents v 0) 0 < slice_index_or numbers v 0
  pub seen : (i w : ℕ) → IsJoinedBy m i v w → 1 ≤ slice_index_or numbers w 0
  pub cut_off : slice_index_or cut v false ≡ true → (w : ℕ) → IsJoinedWithout m entry v w
      → is_some (host_of_vertex m w) ≡ true → ⊥
  pub held : slice_index_or cut v false ≡ false → IsHeld m numbers entry v

-- The vertices stand in the order of their numbers, from 2 on.
pub record AreOrdered (m : NetMap) (numbers order : List ℕ) : Type 0 where
  pub at : (v : ℕ) → 2 ≤ slice_index_or numbers v 0
      → (j : ℕ) × (slice_index_or numbers v 0 ≡ j + 2) × (slice_get order j ≡ Some v)
  pub back : (j v : ℕ) → slice_get order j ≡ Some v → (slice_index_or numbers v 0 ≡ j + 2) × (v < length m.vertices)

-- Hosts and what is beside them have the number 1, and what has it lasts.
pub record AreRoots (m : NetMap) (numbers : List ℕ) : Type 0 where
  pub hosts : (v : ℕ) → is_some (host_of_vertex m v) ≡ true → slice_index_or numbers v 0 ≡ 1
  pub beside : (i v w : ℕ) → IsJoinedBy m i v w → is_some (host_of_vertex m w) ≡ true → slice_index_or numbers v 0 ≡ 1
  pub lasts : (v : ℕ) → slice_index_or numbers v 0 ≡ 1 → Lasts m v

-- What holds of the walk so far.
pub record IsWalk (m : NetMap) (t : WalkState) : Type 0 where
  pub is_map : IsMap m
  pub long : length t.numbers ≡ length m.vertices
  pub long_parents : length t.parents ≡ length m.vertices
  pub long_cut : length t.cut ≡ length m.vertices
  pub roots : AreRoots m t.numbers
  pub ordered : AreOrdered m t.numbers t.order
  pub each : (v : ℕ) → 2 ≤ number_in t v → IsOnPath t.path v ⊎ IsDone m t.numbers t.parents t.cut v
  pub steps : AreSteps m t.numbers t.parents (length t.order + 2) t.path

-- What has a number keeps it, and no number that comes is 1.
pub record HasGrown (t u : WalkState) : Type 0 where
  pub keeps : (v : ℕ) → 1 ≤ number_in t v → number_in u v ≡ number_in t v
  pub roots : (v : ℕ) → number_in u v ≡ 1 → number_in t v ≡ 1

-- each cable below a bound that ends where the walk begins leads to what has a number
abbrev pub AreSeen : NetMap → WalkState → ℕ → Type 0
AreSeen m t bound = (i v w : ℕ) → i < bound → IsJoinedBy m i v w → number_in t v ≡ 1 → 1 ≤ number_in t w

-- The whole walk: it is done with each vertex that it met, and it met all that a cable joins to one.
pub record IsWalked (m : NetMap) (t : WalkState) : Type 0 where
  pub is_map : IsMap m
  pub long : length t.numbers ≡ length m.vertices
  pub long_parents : length t.parents ≡ length m.vertices
  pub long_cut : length t.cut ≡ length m.vertices
  pub roots : AreRoots m t.numbers
  pub ordered : AreOrdered m t.numbers t.order
  pub done : (v : ℕ) → 2 ≤ number_in t v → IsDone m t.numbers t.parents t.cut v
  pub seen : (i v w : ℕ) → IsJoinedBy m i v w → 1 ≤ number_in t v → 1 ≤ number_in t w

-- so much for each of these numbers that is 0
abbrev pub unmet : ℕ → List ℕ → ℕ
unmet each [] = 0
unmet each (zero ∷ ns) = each + unmet each ns
unmet each (suc n ∷ ns) = unmet each ns

-- what is still to be looked at by steps
abbrev pub left_of : List Step → ℕ
left_of [] = 0
left_of (s ∷ ss) = suc s.next + left_of ss

-- what a walk has still to do, at most
abbrev pub weight : NetMap → WalkState → ℕ
weight m t = unmet (length m.cables + 2) t.numbers + left_of t.path

-- ---- what hangs by a cable
-- without this cable a vertex has no host: it is its entry cable, or that of what it was entered from
pub data Hangs (m : NetMap) (t : WalkState) (k : ℕ) : ℕ → Type 0 where
  by_entry : {v : ℕ} → 2 ≤ number_in t v → cut_in t v ≡ true → (d : IsDone m t.numbers t.parents t.cut v)
      → d.entry ≡ k → Hangs m t k v
  by_parent : {v : ℕ} → 2 ≤ number_in t v → Hangs m t k (parent_in t v) → Hangs m t k v
