-- A packet alone in the links: a drain is its advance, and then the drain of what that leaves.
use Rattle.std.proofs.Common.{◌≡◌, ◌≢◌, ◌<◌, ◌≤◌, ℕ, zero, suc, ◌+◌, ◌-◌, Bool, true, false, nat_eq, List, [], ◌∷◌, ◌++◌, map, length, None, append_assoc, ⊎_elim, refl, sym, ◌∙◌, ap, subst, arith}
use Rattle.std.specs.List.{AllByRecursion, range_with_len}
use Rattle.std.proofs.lemmas.Bool.{cases_lt}
use Rattle.std.proofs.lemmas.Bool.Decides.{nat_tests}
use Rattle.world_defs.specs.Links.{LinkState, packet_in}
use Rattle.world_defs.specs.Advance.{advance}
use Rattle.link_model.specs.FullSlots.{IsLone}
use Rattle.link_model.specs.Hop.{IsRun}
use Rattle.link_model.proofs.Runs.{AreOthersEmpty, behind, advance-leaves, run-others, moved-below}
use Rattle.world_defs.specs.declared.event.Event.{Event}
use Rattle.world_defs.specs.declared.event.Event.TheVariants.{Advance}
use Rattle.world_defs.specs.declared.effect.Effect.{Effect}
use Rattle.world_defs.specs.declared.effect.Effect.TheVariants.{Moved as MovedTo}
use Rattle.world_defs.specs.World.{WorldState, with_links}
use Rattle.world_defs.specs.Step.{step, steps, after_all}
use Rattle.world_defs.specs.Drain.{changed, changes, channels_of}
use Rattle.world_defs.proofs.LogViews.{pass}
use Rattle.world_laws.proofs.Draining.{advance-links, advance-changed, advance-world, changes-push}
use Rattle.world_defs.specs.Logs as log
use Rattle.world_defs.specs.Row.{IsPartWay}
use Rattle.world_defs.proofs.LogRows.{steps-after}
use Rattle.log_laws.proofs.Drains.{drain-none, drain-events}
use Rattle.log_laws.proofs.PartWay.{way-behind, way-as, way-still}
use Rattle.fab_world.specs.Hop.{IsRunIn}
use Rattle.fab_world.proofs.Hopping.{moved-in}
use Rattle.world_drain.specs.declared.seen.Watch.{Watch}
use Rattle.world_drain.specs.declared.seen.Seen.{Seen}
use Rattle.world_drain.specs.Watch.{seen_in, seen_then}
use Rattle.world_drain.specs.Part.{IsDrainedTo}
use Rattle.world_drain.proofs.Watching.{then-in-a-row, then-nothing, then-moved, hopped, hopped-then, unchanged-nothing}
use Rattle.world_drain.proofs.Passing.{empty-idle, empty-still, step-long, skip-empty, advances_from, pass-on, pass-end}
use Rattle.world_drain.proofs.Passed.{whole}
use Rattle.world_drain.proofs.Parts.{drained-none, drained-still, drained-on, drained-pass}

-- ---- events that leave the world as it is
-- numbers in a row, in two parts
range-parts : (f : ℕ → Event) (first from all next rest : ℕ) → all ≡ first + rest → next ≡ from + first
    → map f (range_with_len from all) ≡ map f (range_with_len from first) ++ map f (range_with_len next rest)
range-parts f zero from all next rest a n =
    let one : all ≡ rest = omega (arith, a) in
    let two : from ≡ next = omega (arith, n) in
    ap (λ k. map f (range_with_len from k)) one ∙ ap (λ k. map f (range_with_len k rest)) two
range-parts f (suc first) from all next rest a n =
    let more : all ≡ suc (first + rest) = omega (arith, a) in
    ap (λ k. map f (range_with_len from k)) more ∙ ap (λ es. f from ∷ es) (range-parts f first (from + 1) (first + rest) next rest refl (omega (arith, n)))

-- each of these events leaves the world as it is
abbrev AreStill : WorldState → List Event → Type 0
AreStill w es = AllByRecursion (λ e. (step w e).1 ≡ w) es

empties-still : (w : WorldState) (n from : ℕ) → ((k : ℕ) → from ≤ k → k < from + n → packet_in w.links k ≡ None) → AreStill w (map Advance (range_with_len from n))
empties-still w zero from empty = tt
empties-still w (suc n) from empty =
    (ap (λ r. r.1) (empty-idle w from (empty from (omega arith) (omega arith))), empties-still w n (from + 1) (λ k low high. empty k (omega (arith, low)) (omega (arith, high))))

heads : (d e : Event) (ds es : List Event) → d ∷ ds ≡ e ∷ es → d ≡ e
heads d e ds es is = cc

tails : (d e : Event) (ds es : List Event) → d ∷ ds ≡ e ∷ es → ds ≡ es
tails d e ds es is = cc

-- part of the way along events of which the first leave the world as it is
way-past : (w v : WorldState) (es fs : List Event) → AreStill w es → (done rest : List Event) → es ++ fs ≡ done ++ rest → v ≡ after_all w done → IsPartWay w fs v
way-past w v [] fs still done rest is there = record { done = done; front = record { rest = rest; both = is }; there = there }
way-past w v (e ∷ es) fs still [] rest is there = way-still w v fs there
way-past w v (e ∷ es) fs still (d ∷ ds) rest is there =
    let first : (step w d).1 ≡ w = ap (λ x. (step w x).1) (sym (heads e d (es ++ fs) (ds ++ rest) is)) ∙ still.0 in
    way-past w v es fs still.1 ds rest (tails e d (es ++ fs) (ds ++ rest) is) (there ∙ ap (λ x. after_all x ds) first)

-- no events lead nowhere else
none-done : (w v : WorldState) (done rest : List Event) → [] ≡ done ++ rest → v ≡ after_all w done → v ≡ w
none-done w v [] rest is there = there
none-done w v (d ∷ ds) rest is there = cc

-- ---- the law
-- what an advance leaves: a packet in one channel at most, of as many
step-others : (w : WorldState) (c : ℕ) → AreOthersEmpty w.links c → AreOthersEmpty (step w (Advance c)).1.links (behind (advance w.links c).0 c)
step-others w c others = subst (λ l. AreOthersEmpty l (behind (advance w.links c).0 c)) (sym (advance-links w c)) ((advance-leaves w.links c).others others)

-- A channel, and what its advance shows and leaves, where no other channel holds a packet before, and at most one does then.
record IsLoneStep (w v : WorldState) (x : Effect) (c at : ℕ) : Type 0 where
  low : c < length w.links.channels
  others : AreOthersEmpty w.links c
  is : step w (Advance c) ≡ (x, v)
  moved : changed x ≡ true
  left : AreOthersEmpty v.links at
  long : length v.links.channels ≡ length w.links.channels

-- the pass shows the advance, and then what the channels above show
first-pass : (watch : Watch) (w v : WorldState) (x : Effect) (c at : ℕ) → IsLoneStep w v x c at
    → (seen_in watch (pass w).0 ≡ seen_then (seen_in watch (x ∷ [])) (seen_in watch (advances_from v (c + 1) (length w.links.channels)).0))
    × ((pass w).1 ≡ (advances_from v (c + 1) (length w.links.channels)).1)
first-pass watch w v x c at s =
    let count = length w.links.channels in
    let low = s.low in
    let on = pass-on watch w 0 count c (omega arith) low (λ k a b. empty-still w k (s.others k (λ same. omega (arith, same, b)))) in (
      ap (λ r. seen_in watch r.0) (sym (whole w)) ∙ on.0 ∙ ap (λ r. seen_then (seen_in watch (r.0 ∷ [])) (seen_in watch (advances_from r.1 (c + 1) count).0)) s.is,
      ap (λ r. r.1) (sym (whole w)) ∙ on.1 ∙ ap (λ r. (advances_from r.1 (c + 1) count).1) s.is,
    )

-- where the packet is in no channel above, the pass has ended
below : (watch : Watch) (w v : WorldState) (x : Effect) (c at : ℕ) → IsLoneStep w v x c at → at ≤ c → IsDrainedTo watch w v (seen_in watch (x ∷ []))
below watch w v x c at s low =
    let first = first-pass watch w v x c at s in
    let end = pass-end watch v (c + 1) (length w.links.channels) (λ k high. empty-still v k (s.left k (λ same. omega (arith, same, high, low)))) in
    let shown : seen_in watch (pass w).0 ≡ seen_in watch (x ∷ []) = first.0 ∙ ap (seen_then (seen_in watch (x ∷ []))) end.0 ∙ then-nothing watch (seen_in watch (x ∷ [])) in
    let there : (pass w).1 ≡ v = first.1 ∙ end.1 in
    subst (λ u. IsDrainedTo watch w u (seen_in watch (x ∷ []))) there (subst (IsDrainedTo watch w (pass w).1) shown (drained-pass watch w))

-- the advances up to this channel's lead to what it leaves
first-led : (watch : Watch) (w v : WorldState) (x : Effect) (c at : ℕ) → IsLoneStep w v x c at → v ≡ after_all w (map Advance (range_with_len 0 (c + 1)))
first-led watch w v x c at s =
    let none : c + 1 - (c + 1) ≡ 0 = omega arith in
    let all : c + 1 - 0 ≡ c + 1 = omega arith in
    let on = pass-on watch w 0 (c + 1) c (omega arith) (omega arith) (λ k a b. empty-still w k (s.others k (λ same. omega (arith, same, b)))) in
    sym (ap (λ r. r.1) s.is)
    ∙ sym (ap (λ n. (steps (step w (Advance c)).1 (map Advance (range_with_len (c + 1) n))).1) none)
    ∙ sym on.1
    ∙ ap (λ n. (steps w (map Advance (range_with_len 0 n))).1) all
    ∙ steps-after w (map Advance (range_with_len 0 (c + 1)))

all-channels : (w : WorldState) (c count : ℕ) → c < count → length w.links.channels ≡ count
    → map Advance (channels_of w) ≡ map Advance (range_with_len 0 (c + 1)) ++ map Advance (range_with_len (c + 1) (count - (c + 1)))
all-channels w c count low long = ap (λ n. map Advance (range_with_len 0 n)) long ∙ range-parts Advance (c + 1) 0 count (c + 1) (count - (c + 1)) (omega (arith, low)) (omega arith)

-- what is part of the way along the drain after it is so along the drain
way-above : (watch : Watch) (w v u : WorldState) (x : Effect) (c at : ℕ) → IsLoneStep w v x c at → c < at → changes (pass w).0 ≢ 0 → (pass w).1 ≡ (pass v).1
    → IsPartWay v (log.drain v).events u → IsPartWay w (log.drain w).events u
way-above watch w v u x c at s high some same p =
    way-as w u (log.drain w).events (front ++ (back ++ more)) events (way-behind w v u front (back ++ more) (first-led watch w v x c at s) (by (nat_eq (changes (pass v).0) 0) refl))
  where
    count : ℕ
    count = length w.links.channels

    front : List Event
    front = map Advance (range_with_len 0 (c + 1))

    back : List Event
    back = map Advance (range_with_len (c + 1) (count - (c + 1)))

    more : List Event
    more = (log.drain (pass w).1).events

    events : (log.drain w).events ≡ front ++ (back ++ more)
    events = drain-events w some ∙ ap (λ es. es ++ more) (all-channels w c count s.low refl) ∙ append_assoc front back more

    still : AreStill v front
    still = empties-still v (c + 1) 0 (λ k a b. s.left k (λ e. omega (arith, e, b, high)))

    by : (b : Bool) → nat_eq (changes (pass v).0) 0 ≡ b → IsPartWay v (back ++ more) u
    by true is =
        let none : changes (pass v).0 ≡ 0 = grind (arith, nat_tests) in
        way-still v u (back ++ more) (none-done v u p.done p.front.rest (sym (drain-none v none) ∙ p.front.both) p.there)
    by false is =
        let goes : changes (pass v).0 ≢ 0 = λ none. grind (arith, nat_tests) in
        let list : (log.drain v).events ≡ front ++ (back ++ more) =
        drain-events v goes ∙ ap (λ es. es ++ (log.drain (pass v).1).events) (all-channels v c count s.low s.long) ∙ append_assoc front back (log.drain (pass v).1).events ∙ ap (λ y. front ++ (back ++ (log.drain y).events)) (sym same) in
        way-past v u front (back ++ more) still p.done p.front.rest (sym list ∙ p.front.both) p.there

-- where it is in one above, the pass goes on as the next one would
begun : (v : WorldState) (count : ℕ) → length v.links.channels ≡ count → steps v (map Advance (range_with_len 0 count)) ≡ pass v
begun v count long = ap (λ n. steps v (map Advance (range_with_len 0 n))) (sym long)

above : (watch : Watch) (w v : WorldState) (x : Effect) (c at : ℕ) → IsLoneStep w v x c at → c < at → IsDrainedTo watch w v (seen_in watch (x ∷ []))
above watch w v x c at s high = record {
  shown =
      ap (seen_then one) (sym rest.shown)
      ∙ then-in-a-row one (seen_in watch (pass v).0) (seen_in watch (log.drain (pass v).1).value)
      ∙ ap (λ t. seen_then t (seen_in watch (log.drain (pass v).1).value)) (sym shown)
      ∙ ap (λ u. seen_then (seen_in watch (pass w).0) (seen_in watch (log.drain u).value)) (sym same)
      ∙ all.shown;
  after = sym rest.after ∙ ap (λ u. (log.drain u).world) (sym same) ∙ all.after;
  way = λ u p. way-above watch w v u x c at s high some same p;
}
  where
    count : ℕ
    count = length w.links.channels

    one : Seen
    one = seen_in watch (x ∷ [])

    all : IsDrainedTo watch w (pass w).1 (seen_in watch (pass w).0)
    all = drained-pass watch w

    rest : IsDrainedTo watch v (pass v).1 (seen_in watch (pass v).0)
    rest = drained-pass watch v

    skipped : (seen_in watch (advances_from v (c + 1) count).0 ≡ seen_in watch (pass v).0) × ((advances_from v (c + 1) count).1 ≡ (pass v).1)
    skipped =
        let low = s.low in
        let skip = skip-empty watch v (c + 1) 0 count (c + 1) (count - (c + 1)) (omega (arith, low)) (omega arith) (λ k a b. s.left k (λ e. omega (arith, e, b, high))) in
        (sym skip.0 ∙ ap (λ r. seen_in watch r.0) (begun v count s.long), sym skip.1 ∙ ap (λ r. r.1) (begun v count s.long))

    shown : seen_in watch (pass w).0 ≡ seen_then one (seen_in watch (pass v).0)
    shown = (first-pass watch w v x c at s).0 ∙ ap (seen_then one) skipped.0

    same : (pass w).1 ≡ (pass v).1
    same = (first-pass watch w v x c at s).1 ∙ skipped.1

    some : changes (pass w).0 ≢ 0
    some = λ none.
        let sum : changes (pass w).0 ≡ changes (x ∷ []) + changes (pass v).0 = ap (λ t. t.changes) shown in
        let first = changes-push x [] true s.moved in
        omega (arith, none, sum, first)

pub lone-drained : (watch : Watch) (w v : WorldState) (x : Effect) (c : ℕ) → c < length w.links.channels → AreOthersEmpty w.links c → step w (Advance c) ≡ (x, v) → IsDrainedTo watch w v (seen_in watch (x ∷ []))
lone-drained watch w v x c low others is = by (changed x) refl
  where
    shows : (step w (Advance c)).0 ≡ x
    shows = ap (λ r. r.0) is

    leads : (step w (Advance c)).1 ≡ v
    leads = ap (λ r. r.1) is

    at : ℕ
    at = behind (advance w.links c).0 c

    by : (b : Bool) → changed x ≡ b → IsDrainedTo watch w v (seen_in watch (x ∷ []))
    by false e =
        let none : changed (step w (Advance c)).0 ≡ false = ap changed shows ∙ e in
        drained-still watch w v (seen_in watch (x ∷ [])) (sym leads ∙ advance-world w c (sym (advance-changed w c) ∙ none)) (unchanged-nothing watch x e)
    by true e =
        let s : IsLoneStep w v x c at = record {
          low = low;
          others = others;
          is = is;
          moved = e;
          left = subst (λ u. AreOthersEmpty u.links at) leads (step-others w c others);
          long = sym (ap (λ u. length u.links.channels) leads) ∙ step-long w c;
        } in
        ⊎_elim (λ l. above watch w v x c at s l) (λ l. below watch w v x c at s l) (cases_lt c at)

-- ---- a run of hops
along-drained : (watch : Watch) (w : WorldState) (c : ℕ) (links : LinkState) (hops at : ℕ) → AreOthersEmpty w.links c → IsRun w.links c hops at links → IsDrainedTo watch w (with_links w links) (hopped watch hops)
along-drained watch w c links hops at others IsRun.not_begun = drained-none watch w
along-drained watch w c links hops at others (IsRun.further {hops = n} {at = b} {next = d} {now = now} {after = after} before went) =
    let u : WorldState = with_links w now in
    let v : WorldState = with_links w after in
    let one : Seen = seen_in watch (MovedTo d ∷ []) in
    let more : IsDrainedTo watch u v one = lone-drained watch u v (MovedTo d) b (moved-below now after b d went) (run-others w.links c now n b before others) (moved-in w now after b d went) in
    subst (IsDrainedTo watch w v) (then-moved watch (hopped watch n) d) (drained-on watch w u v (hopped watch n) one (along-drained watch w c now n b others before) more)

run-part : (watch : Watch) (w u : WorldState) (c hops at : ℕ) → AreOthersEmpty w.links c → IsRunIn w c hops at u → IsDrainedTo watch w u (hopped watch hops)
run-part watch w u c hops at others (run, rest) = subst (λ y. IsDrainedTo watch w y (hopped watch hops)) (sym rest) (along-drained watch w c u.links hops at others run)

-- a run of the only packet, and its advance after that
pub run-drained : (watch : Watch) (w u v : WorldState) (c hops at : ℕ) (last all : Seen) → AreOthersEmpty w.links c → IsRunIn w c hops at u → IsLone u.links.channels at
    → v ≡ (step u (Advance at)).1 → last ≡ seen_in watch ((step u (Advance at)).0 ∷ []) → all ≡ record last { changes = hops + last.changes } → IsDrainedTo watch w v all
run-drained watch w u v c hops at last all others run lone led shows made =
    let one : Seen = seen_in watch ((step u (Advance at)).0 ∷ []) in
    let end : IsDrainedTo watch u (step u (Advance at)).1 one = lone-drained watch u (step u (Advance at)).1 (step u (Advance at)).0 at lone.there lone.others refl in
    let both : seen_then (hopped watch hops) one ≡ all = hopped-then watch hops one ∙ ap (λ (s : Seen). record s { changes = hops + s.changes }) (sym shows) ∙ sym made in
    subst (λ y. IsDrainedTo watch w y all) (sym led)
    (subst (IsDrainedTo watch w (step u (Advance at)).1) both (drained-on watch w u (step u (Advance at)).1 (hopped watch hops) one (run-part watch w u c hops at others run) end))

-- the run alone is part of the way along the drain
pub run-way : (watch : Watch) (w u v : WorldState) (c hops at : ℕ) → AreOthersEmpty w.links c → IsRunIn w c hops at u → v ≡ u → IsPartWay w (log.drain w).events v
run-way watch w u v c hops at others run same = (run-part watch w u c hops at others run).way v (way-still u v (log.drain u).events same)
