-- Channels that sleep: an advance of theirs changes nothing, and they sleep on until the channel that they wait for is
-- emptied.
use Rattle.std.proofs.Common.{◌≡◌, ◌≢◌, ◌<◌, ◌≤◌, ◌+◌, ◌*◌, ℕ, zero, suc, true, List, [], ◌∷◌, length, get_or, set, Option, Some, None, is_some, ◌⊎◌, inl, inr, ⊎_elim, refl, sym, ap, ◌∙◌, subst, arith}
use Rattle.std.specs.Prelude.{IfSome, IfNone}
use Rattle.std.proofs.Math.ListN.{length-set}
use Rattle.std.proofs.lemmas.Bool.{cases_eq, cases_lt, cases_order, false≢true}
use Rattle.std.proofs.lemmas.List.{get_or-set_same, get_or-set_other, get_or_past}
use Rattle.world_defs.specs.declared.moved.Course.{Course}
use Rattle.world_defs.specs.declared.moved.Course.TheVariants.{Arrives, Enters, Drops}
use Rattle.world_defs.specs.declared.moved.Moved.{Moved as Went}
use Rattle.world_defs.specs.declared.moved.Moved.TheVariants.{To, AtHost, Dropped, Blocked as Waits, Empty}
use Rattle.world_defs.specs.Crossed.{life_channels}
use Rattle.world_defs.specs.Links.{Held, LinkState, packet_in, emptied}
use Rattle.world_defs.specs.Advance.{course, entered, gone_on, advance_of, advance}
use Rattle.world_defs.specs.Hops.{changes as moves}
use Rattle.link_model.proofs.Stepping.{course-below}
use Rattle.link_model.specs.Full.{IsNextFull}
use Rattle.link_model.specs.declared.hop.Hop.{Hop}
use Rattle.link_model.specs.declared.hop.Hop.TheVariants.{Moved, Blocked, Untried}
use Rattle.number_marks.specs.Marks.{mark_at, IsWritten, IsNextMark}
use Rattle.world_defs.specs.declared.arrival.Arrival.{Arrival}
use Rattle.world_defs.specs.declared.arrival.Arrival.TheVariants.{Heard as Hears, Dropped as HostDropped, NotMine as ArrivalNotMine}
use Rattle.world_defs.specs.declared.event.Event.TheVariants.{Advance}
use Rattle.world_defs.specs.declared.effect.Effect.{Effect}
use Rattle.world_defs.specs.Node.{NodeState}
use Rattle.world_defs.specs.Hearing.{hear}
use Rattle.world_defs.specs.World.{WorldState, host_count, node_at, with_links}
use Rattle.world_defs.specs.Step.{arrived, advanced_by, advanced, step}
use Rattle.world_laws.proofs.Draining.{advance-links, advance-changed}
use Rattle.world_drain.specs.declared.awake.Awake.{Awake}
use Rattle.world_drain.specs.Awake.{WaitsFor, IsListed, Sleeps, HasRows, AreAwake, AreAwakeBut, AreAwakeOnce, AreAwakeBehind, hop_of, IsStill, IsNextAwake}
use Rattle.world_drain.proofs.Passing.{empty-still}

-- ---- an advance of the links
none-at : (ps : List (Option Held)) (c : ℕ) → get_or (set ps c None) c None ≡ None
none-at [] c = refl
none-at (p ∷ ps) zero = refl
none-at (p ∷ ps) (suc c) = none-at ps c

-- the packet of a channel that waits stays there
advance-waits : (s : LinkState) (c next : ℕ) → WaitsFor s c next → advance s c ≡ (Waits next, s)
advance-waits s c next x =
    ap (advance_of s c) x.there ∙ ap (gone_on s c x.held) x.to
    ∙ by (packet_in (emptied s c) next) (ap is_some (get_or-set_other s.channels c next None None x.other) ∙ x.full)
  where
    by : (o : Option Held) → is_some o ≡ true → entered s c x.held next o ≡ (Waits next, s)
    by (Some p) e = refl
    by None e = absurd (false≢true e)

-- and the channel that it waits for is one of them
none-below : (ps : List (Option Held)) (c : ℕ) → is_some (get_or ps c None) ≡ true → c < length ps
none-below [] c e = absurd (false≢true e)
none-below (p ∷ ps) zero e = omega arith
none-below (p ∷ ps) (suc c) e = let h = none-below ps c e in omega (arith, h)

pub waits-below : (s : LinkState) (c next : ℕ) → WaitsFor s c next → next < length s.channels
waits-below s c next x = none-below s.channels next x.full

-- A packet has gone on from a channel into another, or into the same.
pub record IsOn (s : LinkState) (c next : ℕ) (t : LinkState) : Type 0 where
  pub cables : t.cables ≡ s.cables
  pub long : length t.channels ≡ length s.channels
  pub others : (k : ℕ) → k ≢ c → k ≢ next → packet_in t k ≡ packet_in s k
  pub gone : c ≢ next → packet_in t c ≡ None
  pub free : next ≢ c → packet_in s next ≡ None
  pub there : next < life_channels s.cables

-- A channel is empty, and all else is as before.
pub record IsOut (s : LinkState) (c : ℕ) (t : LinkState) : Type 0 where
  pub cables : t.cables ≡ s.cables
  pub long : length t.channels ≡ length s.channels
  pub others : (k : ℕ) → k ≢ c → packet_in t k ≡ packet_in s k
  pub gone : packet_in t c ≡ None

-- what an advance did to the links, as a hop reports it
abbrev pub IsGone : LinkState → ℕ → Hop → LinkState → Type 0
IsGone s c (Moved next) t = IsOn s c next t
IsGone s c (Blocked next) t = (t ≡ s) × WaitsFor s c next
IsGone s c Untried t = IsOut s c t

abbrev hop_in : Went (List ℕ) → Hop
hop_in (To next) = Moved next
hop_in (Waits next) = Blocked next
hop_in (AtHost h wire) = Untried
hop_in (Dropped why) = Untried
hop_in Empty = Untried

out-gone : (s : LinkState) (c : ℕ) → IsOut s c (emptied s c)
out-gone s c = record {
  cables = refl;
  long = length-set {A = Option Held} s.channels c None;
  others = λ k other. get_or-set_other s.channels c k None None other;
  gone = none-at s.channels c;
}

entered-gone : (s : LinkState) (c : ℕ) (held : Held) (next : ℕ) (o : Option Held) → packet_in s c ≡ Some held → course s.cables c held.wire ≡ Enters next
    → packet_in (emptied s c) next ≡ o → IsGone s c (hop_in (entered s c held next o).0) (entered s c held next o).1
entered-gone s c held next None there to free = record {
  cables = refl;
  long = length-set {A = Option Held} (emptied s c).channels next _ ∙ length-set {A = Option Held} s.channels c None;
  others = λ k a b. get_or-set_other (emptied s c).channels next k _ None b ∙ get_or-set_other s.channels c k None None a;
  gone = λ apart. get_or-set_other (emptied s c).channels next c _ None apart ∙ none-at s.channels c;
  free = λ apart. sym (get_or-set_other s.channels c next None None apart) ∙ free;
  there = course-below s.cables c held.wire next to;
}
entered-gone s c held next (Some p) there to full =
    let other : next ≢ c = λ same. (let f : None ≡ Some p = sym (ap (packet_in (emptied s c)) same ∙ none-at s.channels c) ∙ full in cc) in (
      refl,
      record {
        held = held;
        there = there;
        to = to;
        full = ap is_some (sym (get_or-set_other s.channels c next None None other) ∙ full);
        other = other;
      },
    )

gone_on-gone : (s : LinkState) (c : ℕ) (held : Held) (to : Course) → packet_in s c ≡ Some held → course s.cables c held.wire ≡ to
    → IsGone s c (hop_in (gone_on s c held to).0) (gone_on s c held to).1
gone_on-gone s c held (Arrives h) there is = out-gone s c
gone_on-gone s c held (Enters next) there is = entered-gone s c held next (packet_in (emptied s c) next) there is refl
gone_on-gone s c held (Drops why) there is = out-gone s c

advance_of-gone : (s : LinkState) (c : ℕ) (o : Option Held) → packet_in s c ≡ o → IsGone s c (hop_in (advance_of s c o).0) (advance_of s c o).1
advance_of-gone s c None there = record { cables = refl; long = refl; others = λ k other. refl; gone = there }
advance_of-gone s c (Some held) there = gone_on-gone s c held (course s.cables c held.wire) there refl

advance-gone : (s : LinkState) (c : ℕ) → IsGone s c (hop_in (advance s c).0) (advance s c).1
advance-gone s c = advance_of-gone s c (packet_in s c) refl

-- ---- and of a world
arrived-hop : (w : WorldState) (h : ℕ) (o : Arrival × NodeState) → hop_of (arrived w h o).0 ≡ Untried
arrived-hop w h (Hears heard, n) = refl
arrived-hop w h (HostDropped drop, n) = refl
arrived-hop w h (ArrivalNotMine, n) = refl

advanced_by-hop : (w : WorldState) (o : Went (List ℕ) × LinkState) → hop_of (advanced_by w o).0 ≡ hop_in o.0
advanced_by-hop w (AtHost h wire, l) = arrived-hop (with_links w l) h (hear h (host_count w) (node_at w h) wire)
advanced_by-hop w _ = refl

step-hop : (w : WorldState) (c : ℕ) → hop_of (step w (Advance c)).0 ≡ hop_in (advance w.links c).0
unfolding advanced
step-hop w c = advanced_by-hop w (advance w.links c)

step-gone : (w v : WorldState) (c : ℕ) (x : Effect) (h : Hop) → step w (Advance c) ≡ (x, v) → hop_of x ≡ h → IsGone w.links c h v.links
step-gone w v c x h is told =
    let links : (advance w.links c).1 ≡ v.links = sym (advance-links w c) ∙ ap (λ r. r.1.links) is in
    let kind : hop_in (advance w.links c).0 ≡ h = sym (step-hop w c) ∙ ap (λ r. hop_of r.0) is ∙ told in
    subst (λ l. IsGone w.links c h l) links (subst (λ k. IsGone w.links c k (advance w.links c).1) kind (advance-gone w.links c))

waits-still : (w : WorldState) (c next : ℕ) → WaitsFor w.links c next → IsStill w c
waits-still w c next x = advance-changed w c ∙ ap (λ r. moves r.0) (advance-waits w.links c next x)

sleeps-still : (w : WorldState) (places counts : List ℕ) (c : ℕ) → Sleeps w.links places counts c → IsStill w c
sleeps-still w places counts c (inl e) = empty-still w c e
sleeps-still w places counts c (inr (next, x, l)) = waits-still w c next x

-- ---- the next that is awake
module _ (w : WorldState) (marks places counts : List ℕ) (a : AreAwake w.links marks places counts) where
  unmarked-still : (c : ℕ) → mark_at marks c ≡ 0 → IsStill w c
  unmarked-still c none = sleeps-still w places counts c (a.sleep c none)

  pub next-awake : (from c : ℕ) → IsNextMark marks from c → c < length w.links.channels → IsNextAwake w from c
  next-awake from c m low = record { above = m.above; there = low; passed = λ k above below. unmarked-still k (m.passed k above below) }

  pub past-awake : (from c : ℕ) → IsNextMark marks from c → length w.links.channels ≤ c → (k : ℕ) → from ≤ k → IsStill w k
  past-awake from c m past k above =
      ⊎_elim (λ below. unmarked-still k (m.passed k above below)) (λ high. empty-still w k (get_or_past w.links.channels k None (omega (arith, past, high)))) (cases_lt k c)

  pub none-awake : (from : ℕ) → ((k : ℕ) → from ≤ k → mark_at marks k ≡ 0) → (k : ℕ) → from ≤ k → IsStill w k
  none-awake from none k above = unmarked-still k (none k above)

-- ---- what the marks and rows are after each change
-- a channel's packet was found waiting
module _ (s : LinkState) (c next count : ℕ) (m m' p n : List ℕ) (a : AreAwake s m p n) (waits : WaitsFor s c next) (low : c < length s.channels) (there : next < length s.channels) (is : count ≡ get_or n next 0) (room : count < 16) (wrote : IsWritten m m' c 0) where
  abbrev place : ℕ
  place = 16 * next + count

  abbrev more : List ℕ
  more = set p place c

  abbrev longer : List ℕ
  longer = set n next (count + 1)

  row-there : next < length n
  row-there = omega (arith, there, a.rows.listed)

  place-there : place < length p
  place-there = omega (arith, row-there, room, a.rows.rows)

  count-here : get_or longer next 0 ≡ count + 1
  count-here = get_or-set_same n next (count + 1) 0 row-there

  few-here : (g : ℕ) → (g ≡ next) ⊎ (g ≢ next) → get_or longer g 0 ≤ 16
  few-here g (inl same) =
      let here : get_or longer g 0 ≡ count + 1 = ap (λ i. get_or longer i 0) same ∙ count-here in
      omega (arith, here, room)
  few-here g (inr other) =
      let old = get_or-set_other n next g (count + 1) 0 other in
      let few = a.rows.few g in
      omega (arith, old, few)

  low-here : (i : ℕ) → (i ≡ place) ⊎ (i ≢ place) → get_or more i 0 < 64 * length m'
  low-here i (inl same) =
      let here : get_or more i 0 ≡ c = ap (λ k. get_or more k 0) same ∙ get_or-set_same p place c 0 place-there in
      omega (arith, here, low, a.rows.marked, wrote.size)
  low-here i (inr other) =
      let old = get_or-set_other p place i c 0 other in
      let before = a.rows.low i in
      omega (arith, old, before, wrote.size)

  blocked-rows : HasRows (length s.channels) m' more longer
  blocked-rows =
      let lp = length-set p place c in
      let ln = length-set n next (count + 1) in
      record {
        marked = omega (arith, a.rows.marked, wrote.size);
        short = omega (arith, a.rows.short, wrote.size);
        listed = omega (arith, a.rows.listed, ln);
        rows = omega (arith, a.rows.rows, lp, ln);
        few = λ g. few-here g (cases_eq g next);
        low = λ i. low-here i (cases_eq i place);
      }

  still-listed : (k g : ℕ) → IsListed p n k g → (g ≡ next) ⊎ ((g < next) ⊎ (next < g)) → IsListed more longer k g
  still-listed k g l (inl same) =
      let before : get_or n g 0 ≡ count = ap (λ i. get_or n i 0) same ∙ sym is in
      let now : get_or longer g 0 ≡ count + 1 = ap (λ i. get_or longer i 0) same ∙ count-here in
      let used = l.used in
      record {
        place = l.place;
        used = omega (arith, used, before, now);
        there = get_or-set_other p place (16 * g + l.place) c 0 (λ e. omega (arith, e, same, used, before)) ∙ l.there;
      }
  still-listed k g l (inr (inl less)) =
      let now = get_or-set_other n next g (count + 1) 0 (λ e. omega (arith, e, less)) in
      let used = l.used in
      let few = a.rows.few g in
      record {
        place = l.place;
        used = omega (arith, used, now);
        there = get_or-set_other p place (16 * g + l.place) c 0 (λ e. omega (arith, e, less, used, few)) ∙ l.there;
      }
  still-listed k g l (inr (inr above)) =
      let now = get_or-set_other n next g (count + 1) 0 (λ e. omega (arith, e, above)) in
      let used = l.used in
      record {
        place = l.place;
        used = omega (arith, used, now);
        there = get_or-set_other p place (16 * g + l.place) c 0 (λ e. omega (arith, e, above, room)) ∙ l.there;
      }

  asleep : (k : ℕ) → Sleeps s p n k → Sleeps s more longer k
  asleep k (inl e) = inl e
  asleep k (inr (g, x, l)) = inr (g, x, still-listed k g l (cases_order g next))

  here-listed : IsListed more longer c next
  here-listed = record { place = count; used = omega (arith, count-here); there = get_or-set_same p place c 0 place-there }

  blocked-sleep : (k : ℕ) → mark_at m' k ≡ 0 → (k ≡ c) ⊎ (k ≢ c) → Sleeps s more longer k
  blocked-sleep k none (inl same) = subst (λ j. Sleeps s more longer j) (sym same) (inr (next, waits, here-listed))
  blocked-sleep k none (inr other) = asleep k (a.sleep k (sym (wrote.others k other) ∙ none))

  pub blocked-awake : (p' n' : List ℕ) → p' ≡ set p (16 * next + count) c → n' ≡ set n next (count + 1) → AreAwake s m' p' n'
  blocked-awake p' n' e f =
      subst (λ xs. AreAwake s m' xs n') (sym e) (subst (λ xs. AreAwake s m' more xs) (sym f) (record { rows = blocked-rows; sleep = λ k none. blocked-sleep k none (cases_eq k c) }))

-- a mark is written
rows-written : (n k b : ℕ) (m m' p q : List ℕ) → HasRows n m p q → IsWritten m m' k b → HasRows n m' p q
rows-written n k b m m' p q r wrote = record {
  marked = omega (arith, r.marked, wrote.size);
  short = omega (arith, r.short, wrote.size);
  listed = r.listed;
  rows = r.rows;
  few = r.few;
  low = λ i. (let before = r.low i in omega (arith, before, wrote.size));
}

pub left-but : (s : LinkState) (c : ℕ) (m m' p n : List ℕ) → AreAwakeBut s c m p n → packet_in s c ≡ None → IsWritten m m' c 0 → AreAwakeBut s c m' p n
left-but s c m m' p n a gone wrote = record { rows = rows-written (length s.channels) c 0 m m' p n a.rows wrote; sleep = λ k none. by k none (cases_eq k c) }
  where
    by : (k : ℕ) → mark_at m' k ≡ 0 → (k ≡ c) ⊎ (k ≢ c) → Sleeps s p n k ⊎ IsListed p n k c
    by k none (inl same) = inl (inl (ap (packet_in s) same ∙ gone))
    by k none (inr other) = a.sleep k (sym (wrote.others k other) ∙ none)

pub moved-but : (s : LinkState) (c next : ℕ) (m u m' p n : List ℕ) → AreAwakeOnce s c next m p n → IsWritten m u c 0 → IsWritten u m' next 1 → AreAwakeBut s c m' p n
moved-but s c next m u m' p n a first second = record {
  rows = rows-written (length s.channels) next 1 u m' p n (rows-written (length s.channels) c 0 m u p n a.rows first) second;
  sleep = λ k none. by k none (λ same. (let one : mark_at m' k ≡ 1 = ap (mark_at m') same ∙ second.here in omega (arith, none, one))) (cases_eq k c);
}
  where
    by : (k : ℕ) → mark_at m' k ≡ 0 → k ≢ next → (k ≡ c) ⊎ (k ≢ c) → Sleeps s p n k ⊎ IsListed p n k c
    by k none apart (inl same) = inl (inl (ap (packet_in s) same ∙ a.gone (λ e. apart (same ∙ e))))
    by k none apart (inr other) = a.sleep k apart (sym (first.others k other) ∙ sym (second.others k apart) ∙ none)

-- those in the row of an emptied channel were marked, and the row is empty
pub woken : (s : LinkState) (c count : ℕ) (m m' p n n' : List ℕ) → AreAwakeBut s c m p n → c < length n → count ≡ get_or n c 0 → length m' ≡ length m
    → ((k : ℕ) → mark_at m' k ≡ 0 → mark_at m k ≡ 0) → ((i : ℕ) → 16 * c ≤ i → i < 16 * c + count → mark_at m' (get_or p i 0) ≡ 1)
    → n' ≡ set n c 0 → AreAwake s m' p n'
woken s c count m m' p n n' a there is size kept marked made = record {
  rows = record {
    marked = omega (arith, a.rows.marked, size);
    short = omega (arith, a.rows.short, size);
    listed = omega (arith, a.rows.listed, long);
    rows = omega (arith, a.rows.rows, long);
    few = λ g. few g (cases_eq g c);
    low = λ i. (let before = a.rows.low i in omega (arith, before, size));
  };
  sleep = λ k none. by k none (a.sleep k (kept k none));
}
  where
    long : length n' ≡ length n
    long = ap length made ∙ length-set n c 0

    few : (g : ℕ) → (g ≡ c) ⊎ (g ≢ c) → get_or n' g 0 ≤ 16
    few g (inl same) =
        let here : get_or n' g 0 ≡ 0 = ap (λ l. get_or l g 0) made ∙ ap (λ i. get_or (set n c 0) i 0) same ∙ get_or-set_same n c 0 0 there in
        omega (arith, here)
    few g (inr other) =
        let old : get_or n' g 0 ≡ get_or n g 0 = ap (λ l. get_or l g 0) made ∙ get_or-set_other n c g 0 0 other in
        let before = a.rows.few g in
        omega (arith, old, before)

    gone : (k : ℕ) → IsListed p n k c → mark_at m' k ≡ 0 → zero ≡ suc zero
    gone k l none =
        let used = l.used in
        let one = marked (16 * c + l.place) (omega arith) (omega (arith, used, is)) in
        let same : mark_at m' (get_or p (16 * c + l.place) 0) ≡ mark_at m' k = ap (mark_at m') l.there in
        omega (arith, none, one, same)

    listed : (k g : ℕ) → mark_at m' k ≡ 0 → IsListed p n k g → (g ≡ c) ⊎ (g ≢ c) → IsListed p n' k g
    listed k g none l (inl same) = let bad = gone k (subst (λ j. IsListed p n k j) same l) none in cc
    listed k g none l (inr other) =
        let old : get_or n' g 0 ≡ get_or n g 0 = ap (λ l. get_or l g 0) made ∙ get_or-set_other n c g 0 0 other in
        let used = l.used in
        record { place = l.place; used = omega (arith, used, old); there = l.there }

    by : (k : ℕ) → mark_at m' k ≡ 0 → Sleeps s p n k ⊎ IsListed p n k c → Sleeps s p n' k
    by k none (inl (inl e)) = inl e
    by k none (inl (inr (g, x, l))) = inr (g, x, listed k g none l (cases_eq g c))
    by k none (inr l) = let bad = gone k l none in cc

-- ---- an advance of a channel that is awake
waits-on : (s t : LinkState) (k g : ℕ) → WaitsFor s k g → t.cables ≡ s.cables → packet_in t k ≡ packet_in s k → packet_in t g ≡ packet_in s g → WaitsFor t k g
waits-on s t k g x net one two = record {
  held = x.held;
  there = one ∙ x.there;
  to = ap (λ n. course n k x.held.wire) net ∙ x.to;
  full = ap is_some two ∙ x.full;
  other = x.other;
}

on-awake : (s t : LinkState) (c next : ℕ) (m p n : List ℕ) → AreAwake s m p n → IsOn s c next t → AreAwakeOnce t c next m p n
on-awake s t c next m p n a o = record {
  rows = subst (λ k. HasRows k m p n) (sym o.long) a.rows;
  gone = o.gone;
  sleep = λ k apart none. by k apart (cases_eq k c) (a.sleep k none);
}
  where
    other-goal : (k g : ℕ) → WaitsFor s k g → g ≢ c → g ≢ next
    other-goal k g x apart same =
        let none : packet_in s g ≡ None = ap (packet_in s) same ∙ o.free (λ e. apart (same ∙ e)) in
        false≢true (sym (ap is_some none) ∙ x.full)

    goes : (k g : ℕ) → k ≢ c → k ≢ next → WaitsFor s k g → IsListed p n k g → (g ≡ c) ⊎ (g ≢ c) → Sleeps t p n k ⊎ IsListed p n k c
    goes k g other apart x l (inl same) = inr (subst (λ j. IsListed p n k j) same l)
    goes k g other apart x l (inr else) = inl (inr (g, waits-on s t k g x o.cables (o.others k other apart) (o.others g else (other-goal k g x else)), l))

    by : (k : ℕ) → k ≢ next → (k ≡ c) ⊎ (k ≢ c) → Sleeps s p n k → Sleeps t p n k ⊎ IsListed p n k c
    by k apart (inl same) before = inl (inl (ap (packet_in t) same ∙ o.gone (λ e. apart (same ∙ e))))
    by k apart (inr other) (inl e) = inl (inl (o.others k other apart ∙ e))
    by k apart (inr other) (inr (g, x, l)) = goes k g other apart x l (cases_eq g c)

out-awake : (s t : LinkState) (c : ℕ) (m p n : List ℕ) → AreAwake s m p n → IsOut s c t → AreAwakeBut t c m p n
out-awake s t c m p n a o = record { rows = subst (λ k. HasRows k m p n) (sym o.long) a.rows; sleep = λ k none. by k (cases_eq k c) (a.sleep k none) }
  where
    goes : (k g : ℕ) → k ≢ c → WaitsFor s k g → IsListed p n k g → (g ≡ c) ⊎ (g ≢ c) → Sleeps t p n k ⊎ IsListed p n k c
    goes k g other x l (inl same) = inr (subst (λ j. IsListed p n k j) same l)
    goes k g other x l (inr else) = inl (inr (g, waits-on s t k g x o.cables (o.others k other) (o.others g else), l))

    by : (k : ℕ) → (k ≡ c) ⊎ (k ≢ c) → Sleeps s p n k → Sleeps t p n k ⊎ IsListed p n k c
    by k (inl same) before = inl (inl (ap (packet_in t) same ∙ o.gone))
    by k (inr other) (inl e) = inl (inl (o.others k other ∙ e))
    by k (inr other) (inr (g, x, l)) = goes k g other x l (cases_eq g c)

-- after an advance, whatever its hop reports
gone-behind : (s t : LinkState) (c : ℕ) (h : Hop) (m p n : List ℕ) → length s.channels ≡ life_channels s.cables → AreAwake s m p n → IsGone s c h t → AreAwakeBehind h t c m p n
gone-behind s t c (Moved next) m p n long a o = let there = o.there in let same = o.long in (on-awake s t c next m p n a o, omega (arith, there, same, long))
gone-behind s t c (Blocked next) m p n long a (same, x) = (subst (λ l. AreAwake l m p n) (sym same) a, subst (λ l. WaitsFor l c next) (sym same) x)
gone-behind s t c Untried m p n long a o = (out-awake s t c m p n a o, o.gone)

step-behind : (w v : WorldState) (c : ℕ) (x : Effect) (h : Hop) (m p n : List ℕ) → length w.links.channels ≡ life_channels w.links.cables → AreAwake w.links m p n
    → step w (Advance c) ≡ (x, v) → hop_of x ≡ h → AreAwakeBehind h v.links c m p n
step-behind w v c x h m p n long a is told = gone-behind w.links v.links c h m p n long a (step-gone w v c x h is told)

-- of a note, where there is one
pub step-noted : (w v : WorldState) (c : ℕ) (x : Effect) (h : Hop) (o : Option Awake) → length w.links.channels ≡ life_channels w.links.cables
    → IfSome o (λ a. AreAwake w.links a.marks.items a.places.items a.counts.items) → step w (Advance c) ≡ (x, v) → hop_of x ≡ h
    → IfSome o (λ a. AreAwakeBehind h v.links c a.marks.items a.places.items a.counts.items)
step-noted w v c x h None long a is told = tt
step-noted w v c x h (Some a) long awake is told = step-behind w v c x h a.marks.items a.places.items a.counts.items long awake is told

-- the next full channel is the next whose advance may change something
pub full-awake : (w : WorldState) (from : ℕ) (o : Option ℕ) → IfSome o (IsNextFull w.links from) → IfSome o (IsNextAwake w from)
full-awake w from None f = tt
full-awake w from (Some c) f = record { above = f.above; there = f.there; passed = λ k low high. empty-still w k (f.passed k low high) }

pub none-full : (w : WorldState) (from : ℕ) (o : Option ℕ) → IfNone o ((k : ℕ) → from ≤ k → packet_in w.links k ≡ None) → IfNone o ((k : ℕ) → from ≤ k → IsStill w k)
none-full w from None e = λ k low. empty-still w k (e k low)
none-full w from (Some c) e = tt

-- where it is known which hop it is
pub hop-told : (s : LinkState) (c : ℕ) (h k : Hop) (m p n : List ℕ) → h ≡ k → AreAwakeBehind h s c m p n → AreAwakeBehind k s c m p n
hop-told s c h k m p n is b = subst (λ o. AreAwakeBehind o s c m p n) is b
