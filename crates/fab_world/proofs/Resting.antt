-- Silent hosts, hosts at rest and the marks of the others, as a world's hosts change.
use Rattle.std.proofs.Common.{◌≡◌, ◌<◌, ◌≤◌, ◌+◌, ◌/◌, ℕ, zero, suc, Bool, true, false, true≢false, ◌||◌, nat_eq, List, [], ◌∷◌, length, replicate, Option, Some, None, is_some, option_map, refl, sym, ap, subst, ◌∙◌, arith, if◌then◌else◌}
use Rattle.std.specs.Prelude.{slice_index_or, slice_set, option_and_then}
use Rattle.std.proofs.lemmas.Bool.Decides.{Decides-eqb}
use Rattle.std.proofs.lemmas.List.{set-get_or, length-set, length-map, length-replicate, get_or-map, get_or-set_same, get_or-set_other, get_or-replicate}
use Rattle.gm_defs.specs.Connection.{due, unacknowledged}
use Rattle.gm_defs.specs.Fragment.{frame_of}
use Rattle.number_marks.specs.Marks.{mark_at, IsWritten, IsNextMark}
use Rattle.world_defs.specs.Table.{Adoption}
use Rattle.world_defs.specs.Lane.{LaneState, new_lane}
use Rattle.world_defs.specs.Node.{NodeState, Staged, has_staged, FrameAnswer, Fragment, new_node, lane_at, lane_of, lane_count, lane_route, lanes_of, sends_on, owed_on, due_on, either, first_some, to_send, unacknowledged_to}
use Rattle.world_defs.specs.World.{WorldState, host_count, node_at}
use Rattle.faulty_links.specs.Held.{LinksAndPlan}
use Rattle.client_host.specs.Held.{ServedHost}
use Rattle.client_host.specs.Hosts.{AreHosts, states, no_host}
use Rattle.fab_world.specs.Held.{world_of}
use Rattle.fab_world.specs.declared.host_marks.HostMarks.{HostMarks}
use Rattle.fab_world.specs.Resting.{IsSilent, IsAtRest, IsSilentIn, RestsIn, IsNextBusy, IsNextAwake, HasPlace, IsMarked, AreMarked, AreWatched}
use Rattle.fab_world.proofs.Places.{IsAt, count-is, within, read-within}

-- ---- a host before anything happened
new-lane : (count k : ℕ) → slice_index_or (replicate count new_lane) k new_lane ≡ new_lane
new-lane zero k = refl
new-lane (suc count) zero = refl
new-lane (suc count) (suc k) = new-lane count k

none-first : {A : Type 0} (f : ℕ → Option A) (ks : List ℕ) → ((k : ℕ) → f k ≡ None) → first_some f ks ≡ None
none-first f [] none = refl
none-first f (k ∷ ks) none = ap (λ o. either o (first_some f ks)) (none k) ∙ none-first f ks none

nothing-owed : (hosts k : ℕ) → owed_on (new_node hosts) k ≡ None
nothing-owed hosts k =
    ap (λ (l : LaneState). if l.owes then option_map (λ by. FrameAnswer k l.taken by) (lane_route (new_node hosts) k) else None) (new-lane (lane_count hosts) k)

nothing-due : (host hosts k : ℕ) → due_on host (new_node hosts) k ≡ None
nothing-due host hosts k =
    ap (λ (l : LaneState). option_and_then (λ f. option_map (λ by. Fragment k f.0 f.1 by) (lane_route (new_node hosts) k)) (option_and_then (λ seq. frame_of (sends_on host k) l.sent seq) (due l.sender)))
    (new-lane (lane_count hosts) k)

nothing-sent : (host hosts : ℕ) → to_send host (new_node hosts) ≡ None
unfolding to_send
nothing-sent host hosts =
    let n : NodeState = new_node hosts in
    ap (λ o. either o (first_some (due_on host n) (lanes_of n))) (none-first (owed_on n) (lanes_of n) (nothing-owed hosts))
    ∙ none-first (due_on host n) (lanes_of n) (nothing-due host hosts)

all-acknowledged : (hosts peer : ℕ) → unacknowledged_to (new_node hosts) peer ≡ 0
all-acknowledged hosts peer =
    let none : (k : ℕ) → unacknowledged (lane_at (new_node hosts) k).sender ≡ 0 = λ k. ap (λ (l : LaneState). unacknowledged l.sender) (new-lane (lane_count hosts) k) in
    let a = none (lane_of peer 0) in
    let b = none (lane_of peer 1) in
    omega (arith, a, b)

new-silent : (host hosts : ℕ) → IsSilent host (new_node hosts)
new-silent host hosts = record { unstaged = refl; unsending = ap is_some (nothing-sent host hosts) }

-- ---- marks of one kind
module _ (P : ℕ → NodeState → Type 0) where
  new-marked : (ss : List ServedHost) (hosts : ℕ) (marks : List ℕ) → states ss ≡ replicate hosts (new_node hosts) → length marks ≡ hosts / 64 + 1 → ((h : ℕ) → P h (new_node hosts)) → AreMarked P ss marks
  new-marked ss hosts marks new size holds =
      let count : length ss ≡ hosts = sym (length-map ss (λ s. s.state)) ∙ (ap length new ∙ length-replicate hosts (new_node hosts)) in
      record {
        room = omega (arith, count, size);
        bare = λ h low none.
            let below : h < hosts = omega (arith, low, count) in
            let is : (slice_index_or ss h no_host).state ≡ new_node hosts =
            sym (get_or-map (λ s. s.state) ss h no_host (new_node 0) low) ∙ (ap (λ l. slice_index_or l h (new_node 0)) new ∙ get_or-replicate hosts h (new_node hosts) (new_node 0) below) in
            subst (P h) (sym is) (holds h);
      }

  -- a host changes, and is marked
  marked-by : (ss : List ServedHost) (i : ℕ) (old now : List ℕ) (q : ServedHost) → AreMarked P ss old → IsWritten old now i 1 → AreMarked P (slice_set ss i q) now
  marked-by ss i old now q a written = record {
    room = let l = length-set ss i q in let r = a.room in let s = written.size in omega (arith, l, r, s);
    bare = λ k low none. by k low none (nat_eq k i) refl;
  }
    where
      by : (k : ℕ) → k < length (slice_set ss i q) → mark_at now k ≡ 0 → (t : Bool) → nat_eq k i ≡ t → P k (slice_index_or (slice_set ss i q) k no_host).state
      by k low none true e =
          let same : k ≡ i = (Decides-eqb k i).0 e in
          let one : mark_at now k ≡ 1 = ap (mark_at now) same ∙ written.here in
          absurd (omega (arith, one, none))
      by k low none false e =
          let differs : k ≡ i → ⊥ = λ f. true≢false (sym ((Decides-eqb k i).1 f) ∙ e) in
          let long = length-set ss i q in
          let there : slice_index_or (slice_set ss i q) k no_host ≡ slice_index_or ss k no_host = get_or-set_other ss i k q no_host differs in
          subst (λ (s : ServedHost). P k s.state) (sym there) (a.bare k (omega (arith, low, long)) (sym (written.others k differs) ∙ none))

  -- a host changes so that what held of it holds, and the marks stay
  stays-marked : (ss : List ServedHost) (i : ℕ) (marks : List ℕ) (q : ServedHost) → i < length ss → (P i (slice_index_or ss i no_host).state → P i q.state) → AreMarked P ss marks → AreMarked P (slice_set ss i q) marks
  stays-marked ss i marks q inside keeps a = record {
    room = let l = length-set ss i q in let r = a.room in omega (arith, l, r);
    bare = λ k low none. by k low none (nat_eq k i) refl;
  }
    where
      by : (k : ℕ) → k < length (slice_set ss i q) → mark_at marks k ≡ 0 → (t : Bool) → nat_eq k i ≡ t → P k (slice_index_or (slice_set ss i q) k no_host).state
      by k low none true e =
          let same : k ≡ i = (Decides-eqb k i).0 e in
          let there : slice_index_or (slice_set ss i q) i no_host ≡ q = get_or-set_same ss i q no_host inside in
          let holds : P i q.state = keeps (a.bare i inside (subst (λ j. mark_at marks j ≡ 0) same none)) in
          subst (λ j. P j (slice_index_or (slice_set ss i q) j no_host).state) (sym same) (subst (λ (s : ServedHost). P i s.state) (sym there) holds)
      by k low none false e =
          let differs : k ≡ i → ⊥ = λ f. true≢false (sym ((Decides-eqb k i).1 f) ∙ e) in
          let long = length-set ss i q in
          let there : slice_index_or (slice_set ss i q) k no_host ≡ slice_index_or ss k no_host = get_or-set_other ss i k q no_host differs in
          subst (λ (s : ServedHost). P k s.state) (sym there) (a.bare k (omega (arith, low, long)) none)

  module _ (p : LinksAndPlan) (ss : List ServedHost) (o : Option Adoption) (w : WorldState) where
    -- a host of which it holds loses its mark
    unmarked : (old now : List ℕ) (h i : ℕ) → world_of p ss o ≡ w → AreMarked P ss old → i ≡ h → P h (node_at w h) → IsWritten old now i 0 → AreMarked P ss now
    unmarked old now h i is a at holds written = record {
      room = let r = a.room in let s = written.size in omega (arith, r, s);
      bare = λ k below none. by k below none (nat_eq k i) refl;
    }
      where
        by : (k : ℕ) → k < length ss → mark_at now k ≡ 0 → (t : Bool) → nat_eq k i ≡ t → P k (slice_index_or ss k no_host).state
        by k below none true e =
            let same : k ≡ h = (Decides-eqb k i).0 e ∙ at in
            let state : node_at w k ≡ (slice_index_or ss k no_host).state = ap (λ v. node_at v k) (sym is) ∙ get_or-map (λ s. s.state) ss k no_host (new_node 0) below in
            subst (P k) state (subst (λ j. P j (node_at w j)) (sym same) holds)
        by k below none false e =
            let differs : k ≡ i → ⊥ = λ f. true≢false (sym ((Decides-eqb k i).1 f) ∙ e) in
            a.bare k below (sym (written.others k differs) ∙ none)

    -- it holds of one that isn't marked
    holds-there : (marks : List ℕ) (k : ℕ) → world_of p ss o ≡ w → AreMarked P ss marks → k < length ss → mark_at marks k ≡ 0 → P k (node_at w k)
    holds-there marks k is a low none =
        subst (λ v. P k (node_at v k)) is (subst (P k) (sym (get_or-map (λ s. s.state) ss k no_host (new_node 0) low)) (a.bare k low none))

    -- of those before the next mark
    passed-by : (marks : List ℕ) (from h : ℕ) → world_of p ss o ≡ w → AreMarked P ss marks → IsNextMark marks from h → h < length ss → (k : ℕ) → from ≤ k → k < h → P k (node_at w k)
    passed-by marks from h is a next low k above below = holds-there marks k is a (omega (arith, below, low)) (next.passed k above below)

    -- of all after the last mark
    pub none-marked : (marks : List ℕ) (from : ℕ) → world_of p ss o ≡ w → AreMarked P ss marks → ((k : ℕ) → from ≤ k → mark_at marks k ≡ 0) → (h : ℕ) → from ≤ h → h < host_count w → P h (node_at w h)
    none-marked marks from is a bare h above low =
        let count = count-is p ss o w is in
        holds-there marks h is a (omega (arith, low, count)) (bare h above)

    -- and of all where the next mark is of no host
    pub mark-past : (marks : List ℕ) (from n : ℕ) → world_of p ss o ≡ w → AreMarked P ss marks → IsNextMark marks from n → length ss ≤ n → (h : ℕ) → from ≤ h → h < host_count w → P h (node_at w h)
    mark-past marks from n is a next past h above low =
        let count = count-is p ss o w is in
        holds-there marks h is a (omega (arith, low, count)) (next.passed h above (omega (arith, low, count, past)))

-- ---- both kinds
pub new-watched : (ss : List ServedHost) (hosts : ℕ) (m : HostMarks) → AreHosts ss → states ss ≡ replicate hosts (new_node hosts) → length m.awake ≡ hosts / 64 + 1 → length m.busy ≡ hosts / 64 + 1 → AreWatched ss m
new-watched ss hosts m are new awake busy = record {
  hosts = are;
  awake = new-marked IsAtRest ss hosts m.awake new awake (λ h. record { silent = new-silent h hosts; acknowledged = all-acknowledged hosts });
  busy = new-marked IsSilent ss hosts m.busy new busy (λ h. new-silent h hosts);
}

-- a host of the world has its place among the marks
pub has-mark : (p : LinksAndPlan) (ss : List ServedHost) (o : Option Adoption) (w : WorldState) (m : HostMarks) (h i : ℕ) → world_of p ss o ≡ w → AreWatched ss m → h < host_count w → i ≡ h → HasPlace m i
has-mark p ss o w m h i is a low at =
    let count = count-is p ss o w is in
    let awake = a.awake.room in
    let busy = a.busy.room in
    record { awake = omega (arith, count, awake, low, at); busy = omega (arith, count, busy, low, at) }

-- a host changes, and is marked
pub marked : {p : LinksAndPlan} {ss : List ServedHost} {o : Option Adoption} {w : WorldState} {h i : ℕ} {x : ServedHost} (m now : HostMarks) (q : ServedHost) → IsAt p ss o w h i x → AreWatched ss m → AreHosts (slice_set ss i q)
    → IsMarked m now i → AreWatched (slice_set ss i q) now
marked {p} {ss} {o} {w} {h} {i} {x} m now q at a are written = record {
  hosts = are;
  awake = marked-by IsAtRest ss i m.awake now.awake q a.awake written.awake;
  busy = marked-by IsSilent ss i m.busy now.busy q a.busy written.busy;
}

-- where one of the hosts stays as it is, so do all, and the marks
pub still-watched : {p : LinksAndPlan} {ss : List ServedHost} {o : Option Adoption} {w : WorldState} {h i : ℕ} {x : ServedHost} (m : HostMarks) (q : ServedHost) → IsAt p ss o w h i x → AreWatched ss m → q ≡ x → AreWatched (slice_set ss i q) m
still-watched {p} {ss} {o} {w} {h} {i} {x} m q at a e =
    let there : x ≡ slice_index_or ss i no_host = read-within ss i x (within at) at.there in
    subst (λ l. AreWatched l m) (sym (ap (slice_set ss i) (e ∙ there) ∙ set-get_or ss i no_host)) a

-- a host that has nothing staged stays as it is where that is taken from it
pub unstaged-same : (n : NodeState) → has_staged n ≡ false → record n { staged = None } ≡ n
unstaged-same n none = by n.staged refl
  where
    by : (o : Option Staged) → n.staged ≡ o → record n { staged = None } ≡ n
    by None e = ap (λ s. record n { staged = s }) (sym e)
    by (Some s) e = absurd (true≢false (sym (ap (λ o. is_some o || is_some n.reply || is_some n.part_ack) e) ∙ none))

-- a host hears a packet: the marks stay where that leaves it as it was, and else it is marked
pub heard-watched : {p : LinksAndPlan} {ss : List ServedHost} {o : Option Adoption} {w : WorldState} {h i : ℕ} {x : ServedHost} (m now : HostMarks) (q : ServedHost) (leaves : Bool) → IsAt p ss o w h i x → AreWatched ss m
    → AreHosts (slice_set ss i q) → (leaves ≡ true → q ≡ x) → (leaves ≡ true → now ≡ m) → (leaves ≡ false → IsMarked m now i) → AreWatched (slice_set ss i q) now
heard-watched {ss = ss} {i = i} m now q true at a are same stays changes = subst (AreWatched (slice_set ss i q)) (sym (stays refl)) (still-watched m q at a (same refl))
heard-watched m now q false at a are same stays changes = marked m now q at a are (changes refl)

-- a host that is silent is busy no more
pub quieted : (p : LinksAndPlan) (ss : List ServedHost) (o : Option Adoption) (w : WorldState) (m : HostMarks) (busy : List ℕ) (h i : ℕ) → world_of p ss o ≡ w → AreWatched ss m → i ≡ h → IsSilentIn w h
    → IsWritten m.busy busy i 0 → AreWatched ss (record m { busy = busy })
quieted p ss o w m busy h i is a at silent written = record {
  hosts = a.hosts;
  awake = a.awake;
  busy = unmarked IsSilent p ss o w m.busy busy h i is a.busy at silent written;
}

-- and one that is at rest is awake no more
pub rested : (p : LinksAndPlan) (ss : List ServedHost) (o : Option Adoption) (w : WorldState) (m : HostMarks) (awake : List ℕ) (h i : ℕ) → world_of p ss o ≡ w → AreWatched ss m → i ≡ h → RestsIn w h
    → IsWritten m.awake awake i 0 → AreWatched ss (record m { awake = awake })
rested p ss o w m awake h i is a at rests written = record {
  hosts = a.hosts;
  awake = unmarked IsAtRest p ss o w m.awake awake h i is a.awake at rests written;
  busy = a.busy;
}

-- the next host that may not be at rest, and the next that may not be silent
pub awake-next : (p : LinksAndPlan) (ss : List ServedHost) (o : Option Adoption) (w : WorldState) (awake : List ℕ) (from h : ℕ) → world_of p ss o ≡ w → AreMarked IsAtRest ss awake → IsNextMark awake from h → h < length ss → IsNextAwake w from h
awake-next p ss o w awake from h is a next low =
    let count = count-is p ss o w is in
    record { above = next.above; there = omega (arith, low, count); passed = passed-by IsAtRest p ss o w awake from h is a next low }

pub busy-next : (p : LinksAndPlan) (ss : List ServedHost) (o : Option Adoption) (w : WorldState) (busy : List ℕ) (from h : ℕ) → world_of p ss o ≡ w → AreMarked IsSilent ss busy → IsNextMark busy from h → h < length ss → IsNextBusy w from h
busy-next p ss o w busy from h is a next low =
    let count = count-is p ss o w is in
    record { above = next.above; there = omega (arith, low, count); passed = passed-by IsSilent p ss o w busy from h is a next low }
