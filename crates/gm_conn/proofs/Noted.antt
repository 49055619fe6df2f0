-- The sets of a host's lanes, as its lanes change.
use Rattle.std.proofs.Common.{◌≡◌, ◌<◌, ◌≤◌, ℕ, Bool, true, false, true≢false, nat_eq, List, length, Option, Some, None, refl, sym, ap, ◌∙◌, subst, arith}
use Rattle.std.specs.Prelude.{slice_index_or, slice_set, Result, Ok, Err, OnOk, OnErr, IfOk}
use Rattle.std.specs.Option.{IfSome, IfNone}
use Rattle.std.proofs.lemmas.Bool.Decides.{Decides-eqb}
use Rattle.std.proofs.Math.ListN.{get_or-map}
use Rattle.std.proofs.lemmas.List.{length-set, get_or-set_same, get_or-set_other, get_or_past, get_or_default}
use native.Mathlib.Decide.{dec_lt}
use Rattle.gm_defs.specs.declared.frame.ConnectionKey.{ConnectionKey}
use Rattle.number_marks.specs.Marks.{mark_at, IsWritten, IsNextMark}
use Rattle.number_marks.specs.Least.{mark_of}
use Rattle.world_defs.specs.Node.{lane_count, sends_on}
use Rattle.world_defs.specs.Lane.{LaneState, new_lane}
use Rattle.gm_conn.specs.Lane.{HostLane, in_state, unused, AreNumbered}
use Rattle.gm_conn.specs.Lanes.{HostLanes, AreOf, lane_in, held_lane, states, nobody, NoneBetween, IsNext}
use Rattle.gm_conn.specs.Lanes.IsNext.{next, nobody_left}
use Rattle.gm_conn.specs.Sets.{Sets, is_owing, is_due, is_unacked, IsBareFor, AreBare, IsNoted, IsSetOf, AreTold}
use Rattle.gm_conn.proofs.Places.{AreFirst, first-all, kept-lanes, count-is, lane-is}

-- ---- a lane was noted
set-noted : (test : HostLane → Bool) (ps : List HostLane) (old new : List ℕ) (i : ℕ) (q : HostLane) → IsSetOf test ps old → i < length ps → IsWritten old new i (mark_of (test q)) → IsSetOf test (slice_set ps i q) new
set-noted test ps old new i q is low w = record {
  room = let l = length-set ps i q in let r = is.room in let s = w.size in omega (arith, l, r, s);
  marks = λ k. by k (nat_eq k i) refl;
}
  where
    by : (k : ℕ) (t : Bool) → nat_eq k i ≡ t → mark_at new k ≡ mark_of (test (slice_index_or (slice_set ps i q) k nobody))
    by k true e =
        let f : k ≡ i = (Decides-eqb k i).0 e in
        let there : slice_index_or (slice_set ps i q) k nobody ≡ q = ap (λ j. slice_index_or (slice_set ps i q) j nobody) f ∙ get_or-set_same ps i q nobody low in
        ap (mark_at new) f ∙ w.here ∙ ap (λ p. mark_of (test p)) (sym there)
    by k false e =
        let differs : k ≡ i → ⊥ = λ h. true≢false (sym ((Decides-eqb k i).1 h) ∙ e) in
        w.others k differs ∙ is.marks k ∙ ap (λ p. mark_of (test p)) (sym (get_or-set_other ps i k q nobody differs))

numbered-noted : (ps : List HostLane) (i : ℕ) (q : HostLane) → ((k : ℕ) → AreNumbered (slice_index_or ps k nobody).state) → i < length ps → AreNumbered q.state → (k : ℕ) → AreNumbered (slice_index_or (slice_set ps i q) k nobody).state
numbered-noted ps i q all low here k = by (nat_eq k i) refl
  where
    by : (t : Bool) → nat_eq k i ≡ t → AreNumbered (slice_index_or (slice_set ps i q) k nobody).state
    by true e =
        let f : k ≡ i = (Decides-eqb k i).0 e in
        let there : slice_index_or (slice_set ps i q) k nobody ≡ q = ap (λ j. slice_index_or (slice_set ps i q) j nobody) f ∙ get_or-set_same ps i q nobody low in
        subst (λ p. AreNumbered p.state) (sym there) here
    by false e =
        let differs : k ≡ i → ⊥ = λ h. true≢false (sym ((Decides-eqb k i).1 h) ∙ e) in
        subst (λ p. AreNumbered p.state) (sym (get_or-set_other ps i k q nobody differs)) (all k)

pub told-noted : (host hosts : ℕ) (ps : List HostLane) (i : ℕ) (x q : HostLane) (old new : Sets) → AreTold host hosts ps old → i < length ps → x ≡ slice_index_or ps i x → q.key ≡ x.key → IsNoted old new i q
    → AreTold host hosts (slice_set ps i q) new
told-noted host hosts ps i x q old new told low read stays noted = record {
  lanes = kept-lanes host hosts ps i x q told.lanes low read stays;
  numbered = numbered-noted ps i q told.numbered low noted.numbered;
  owing = set-noted is_owing ps old.owing new.owing i q told.owing low noted.owing;
  due = set-noted is_due ps old.due new.due i q told.due low noted.due;
  unacked = set-noted is_unacked ps old.unacked new.unacked i q told.unacked low noted.unacked;
}

-- one that changed in its own place
pub told-after : (v : HostLanes) (host hosts : ℕ) (ps : List HostLane) (i : ℕ) (x q : HostLane) (old new : Sets) → record { host = host; hosts = hosts; lanes = states ps } ≡ v → AreTold host hosts ps old
    → i < length v.lanes → x ≡ slice_index_or ps i x → q.key ≡ x.key → IsNoted old new i q → AreTold host hosts (slice_set ps i q) new
told-after v host hosts ps i x q old new is told low read stays noted =
    let count = count-is v host hosts ps is in
    told-noted host hosts ps i x q old new told (omega (arith, count, low)) read stays noted

-- a lane whose state changes, or which is refused, stays that of its connection
pub key-ok : {A E : Type 0} (r : Result A E) (x q : HostLane) (s : LaneState) → OnOk r (q ≡ in_state x s) → OnErr r (q ≡ x) → q.key ≡ x.key
key-ok (Ok a) x q s ok err = ap (λ p. p.key) ok
key-ok (Err e) x q s ok err = ap (λ p. p.key) err

pub key-if-ok : {A E : Type 0} (r : Result A E) (x q : HostLane) (s : A → LaneState) → IfOk r (λ a. q ≡ in_state x (s a)) → OnErr r (q ≡ x) → q.key ≡ x.key
key-if-ok (Ok a) x q s ok err = ap (λ p. p.key) ok
key-if-ok (Err e) x q s ok err = ap (λ p. p.key) err

-- ---- before anything was sent
set-first : (test : HostLane → Bool) (host n : ℕ) (ps : List HostLane) (words : List ℕ) → ((key : ConnectionKey) → test (unused key) ≡ false) → AreFirst host n ps → IsBareFor words n → IsSetOf test ps words
set-first test host n ps words quiet first bare = record {
  room = let r = bare.room in let c = first.counted in omega (arith, r, c);
  marks = λ k. bare.bare k ∙ ap mark_of (sym (by k));
}
  where
    by : (k : ℕ) → test (slice_index_or ps k nobody) ≡ false
    by k = elim (dec_lt k n) [
      | yes low ↦ ap test (first.own k low) ∙ quiet (sends_on host k)
      | no high ↦ let c = first.counted in ap test (get_or_past ps k nobody (omega (arith, c, high))) ∙ quiet nobody.key
    ]

none-numbered : AreNumbered new_lane
none-numbered = record { sender = record { base_below = omega arith; cursor_below = omega arith; top_below = omega arith; in_range = omega arith }; numbered = refl }

first-numbered : (host n : ℕ) (ps : List HostLane) → AreFirst host n ps → (k : ℕ) → AreNumbered (slice_index_or ps k nobody).state
first-numbered host n ps first k = elim (dec_lt k n) [
  | yes low ↦ subst (λ p. AreNumbered p.state) (sym (first.own k low)) none-numbered
  | no high ↦ let c = first.counted in subst (λ p. AreNumbered p.state) (sym (get_or_past ps k nobody (omega (arith, c, high)))) none-numbered
]

-- so are those of all lanes as the view has them
pub numbered-all : (v : HostLanes) (host hosts : ℕ) (ps : List HostLane) → record { host = host; hosts = hosts; lanes = states ps } ≡ v → ((k : ℕ) → AreNumbered (slice_index_or ps k nobody).state) → (k : ℕ) → AreNumbered (lane_in v k)
numbered-all v host hosts ps is all k = subst AreNumbered (sym (get_or-map (λ p. p.state) ps k nobody) ∙ ap (λ h. lane_in h k) is) (all k)

pub first-told : (host hosts n : ℕ) (ps : List HostLane) (s : Sets) → n ≡ lane_count hosts → AreFirst host n ps → AreBare s n → AreTold host hosts ps s
first-told host hosts n ps s all first bare = record {
  lanes = first-all host hosts n ps all first;
  numbered = first-numbered host n ps first;
  owing = set-first is_owing host n ps s.owing (λ key. refl) first bare.owing;
  due = set-first is_due host n ps s.due (λ key. refl) first bare.due;
  unacked = set-first is_unacked host n ps s.unacked (λ key. refl) first bare.unacked;
}

-- ---- the next lane
mark-true : (b : Bool) → mark_of b ≡ 1 → b ≡ true
mark-true true e = refl
mark-true false e = absurd (omega (arith, e))

mark-false : (b : Bool) → mark_of b ≡ 0 → b ≡ false
mark-false true e = absurd (omega (arith, e))
mark-false false e = refl

-- a lane of the view is the one at its place
held-is : (v : HostLanes) (host hosts : ℕ) (ps : List HostLane) (k : ℕ) → record { host = host; hosts = hosts; lanes = states ps } ≡ v → AreOf host hosts ps → k < length v.lanes → slice_index_or ps k nobody ≡ held_lane v k
held-is v host hosts ps k is kept low =
    let count = count-is v host hosts ps is in
    lane-is v host hosts ps k k (slice_index_or ps k nobody) is kept low refl (get_or_default ps k nobody (slice_index_or ps k nobody) (omega (arith, count, low)))

none-between : (test : HostLane → Bool) (v : HostLanes) (host hosts : ℕ) (ps : List HostLane) (words : List ℕ) (from below : ℕ) → record { host = host; hosts = hosts; lanes = states ps } ≡ v → AreOf host hosts ps
    → IsSetOf test ps words → below ≤ length v.lanes → ((k : ℕ) → from ≤ k → k < below → mark_at words k ≡ 0) → NoneBetween (λ lane. test (held_lane v lane)) from below
none-between test v host hosts ps words from below is kept set all bare k above low =
    ap test (sym (held-is v host hosts ps k is kept (omega (arith, low, all)))) ∙ mark-false (test (slice_index_or ps k nobody)) (sym (set.marks k) ∙ bare k above low)

pub next-of : (test : HostLane → Bool) (v : HostLanes) (host hosts : ℕ) (ps : List HostLane) (words : List ℕ) (from : ℕ) (r : Option ℕ) → test nobody ≡ false
    → record { host = host; hosts = hosts; lanes = states ps } ≡ v → AreOf host hosts ps → IsSetOf test ps words
    → IfSome r (IsNextMark words from) → IfNone r ((k : ℕ) → from ≤ k → mark_at words k ≡ 0) → IsNext (λ lane. test (held_lane v lane)) from (length v.lanes) r
next-of test v host hosts ps words from None quiet is kept set some none =
    nobody_left (none-between test v host hosts ps words from (length v.lanes) is kept set (omega arith) (λ k above low. none k above))
next-of test v host hosts ps words from (Some lane) quiet is kept set some none =
    let passes : test (slice_index_or ps lane nobody) ≡ true = mark-true (test (slice_index_or ps lane nobody)) (sym (set.marks lane) ∙ some.marked) in
    let low : lane < length v.lanes = elim (dec_lt lane (length v.lanes)) [
      | yes low ↦ low
      | no high ↦ let count = count-is v host hosts ps is in
          absurd (true≢false (sym passes ∙ ap test (get_or_past ps lane nobody (omega (arith, count, high))) ∙ quiet))
    ] in
    next some.above low (ap test (sym (held-is v host hosts ps lane is kept low)) ∙ passes)
    (none-between test v host hosts ps words from lane is kept set (omega (arith, low)) some.passed)
