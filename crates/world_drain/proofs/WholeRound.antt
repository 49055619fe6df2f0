-- Rounds under way, and a settle.
use Rattle.std.proofs.Common.{◌≡◌, ◌<◌, ◌≤◌, ◌+◌, ◌^◌, ℕ, Bool, true, false, not, ◌||◌, length, nat_eq, nat_lt, sym, ◌∙◌, ap, subst, arith}
use Rattle.world_defs.specs.Links.{is_idle}
use Rattle.world_defs.specs.World.{WorldState}
use Rattle.world_defs.specs.Settle.{unacknowledged_in, is_last_round}
use Rattle.world_laws.specs.Shape.{HasSenders}
use Rattle.world_laws.proofs.Rounds.{Going, left_over, not_last-less}
use Rattle.world_laws.proofs.Resting.{settled-idle as settle-idle}
use Rattle.world_defs.specs.Log.{Log}
use Rattle.world_defs.specs.Logs as log
use Rattle.world_defs.proofs.LogRows.{round-row, byte_settles}
use Rattle.log_laws.proofs.Settles.{rounds_from, rounds-on, rounds-last, going}
use Rattle.log_laws.proofs.UnderWay.{UnderWay, behind, under_way-first, under_way-on}
use Rattle.fab_world.specs.Held.{IsMoment}
use Rattle.fab_world.proofs.Moments.{later-moment}
use Rattle.world_drain.specs.Rounds.{AreRounds}
use Rattle.world_drain.specs.Settling.{capped}
use Rattle.world_drain.proofs.Later.{under-later}
use Rattle.world_drain.proofs.Risen.{last-is}
use Rattle.world_drain.proofs.Telling.{capped-few, capped-sum, rounds-none, rounds-assoc}

-- Rounds that others follow led here: so many, with so many resets; and so much is left, and so many faults struck.
pub record Settling (first now : WorldState) (rounds resets left struck : ℕ) : Type 0 where
  pub before : log.Rounds
  pub number : rounds ≡ before.rounds
  pub counted : resets ≡ capped before.resets
  pub cost : rounds + left_over now ≤ left_over first
  pub left_is : left ≡ unacknowledged_in now
  pub struck_is : struck ≡ now.struck
  pub under : UnderWay (log.rounds_both before) (rounds_from first) first now (rounds_from now)

pub settling-none : (w : WorldState) (left struck : ℕ) → left ≡ unacknowledged_in w → struck ≡ w.struck → Settling w w 0 0 left struck
settling-none w left struck a b = record {
  before = record { rounds = 0; resets = 0 };
  number = omega arith;
  counted = omega arith;
  cost = omega arith;
  left_is = a;
  struck_is = b;
  under = under_way-first (log.rounds_both (record { rounds = 0; resets = 0 })) rounds-none w (rounds_from w);
}

-- What is known of a round that led on from here.
pub record IsOneRound (first now next : WorldState) (one left struck : ℕ) : Type 0 where
  pub moment : IsMoment first
  pub counted : one ≡ capped (log.round now).value.resets
  pub led : next ≡ (log.round now).world
  pub left_is : left ≡ unacknowledged_in next
  pub struck_is : struck ≡ next.struck

went : (now next : WorldState) → next ≡ (log.round now).world → Going now next
went now next is = subst (Going now) (sym is) (going now)

senders : {first now : WorldState} {rounds resets left struck : ℕ} → IsMoment first → Settling first now rounds resets left struck → HasSenders now
senders {first = first} {now = now} m r = (later-moment first now m (under-later r.under)).senders

-- whether it was the last, by sums and counts
last-told : (first now next : WorldState) (rounds resets left struck one left_now struck_now : ℕ) → Settling first now rounds resets left struck
    → IsOneRound first now next one left_now struck_now
    → (nat_eq left_now 0 || not (nat_lt left_now left || nat_lt struck struck_now)) ≡ is_last_round now (log.round now).world
last-told first now next rounds resets left struck one left_now struck_now r o =
    last-is now next left left_now struck struck_now (went now next o.led) (senders o.moment r) r.left_is o.left_is r.struck_is o.struck_is ∙ ap (is_last_round now) o.led

pub settling-on : (first now next : WorldState) (rounds resets left struck one left_now struck_now all : ℕ) (end : Bool) → Settling first now rounds resets left struck
    → IsOneRound first now next one left_now struck_now
    → end ≡ (nat_eq left_now 0 || not (nat_lt left_now left || nat_lt struck struck_now)) → end ≡ false → all ≡ capped (resets + one)
    → Settling first next (rounds + 1) all left_now struck_now
settling-on first now next rounds resets left struck one left_now struck_now all end r o end_is goes all_is =
    let here : Log log.Rounds = log.one_round now in
    let not_last : is_last_round now here.world ≡ false = sym (last-told first now next rounds resets left struck one left_now struck_now r o) ∙ (sym end_is ∙ goes) in
    let less = not_last-less now next (went now next o.led) (senders o.moment r) (ap (is_last_round now) o.led ∙ not_last) in
    let cost = r.cost in
    record {
      before = log.rounds_both r.before here.value;
      number = ap (λ n. n + 1) r.number;
      counted = capped-sum r.before.resets here.value.resets resets one all r.counted o.counted all_is;
      cost = omega (arith, less, cost);
      left_is = o.left_is;
      struck_is = o.struck_is;
      under = under_way-on (log.rounds_both here.value) (log.rounds_both (log.rounds_both r.before here.value)) next here.events (rounds_from next) r.under
          (o.led ∙ (round-row byte_settles now).there) (rounds-on now next (senders o.moment r) not_last o.led) (λ c. rounds-assoc r.before here.value c);
    }

pub settling-end : (first now next : WorldState) (rounds resets left struck one left_now struck_now all : ℕ) (end : Bool) → Settling first now rounds resets left struck
    → IsOneRound first now next one left_now struck_now
    → end ≡ (nat_eq left_now 0 || not (nat_lt left_now left || nat_lt struck struck_now)) → end ≡ true → all ≡ capped (resets + one)
    → AreRounds first next (rounds + 1) all
settling-end first now next rounds resets left struck one left_now struck_now all end r o end_is ends all_is =
    let here : Log log.Rounds = log.one_round now in
    let last : is_last_round now here.world ≡ true = sym (last-told first now next rounds resets left struck one left_now struck_now r o) ∙ (sym end_is ∙ ends) in
    let whole : behind (log.rounds_both r.before) r.under.done here ≡ rounds_from first = sym (r.under.all ∙ ap (behind (log.rounds_both r.before) r.under.done) (rounds-last now last)) in
    record {
      number = ap (λ n. n + 1) r.number ∙ ap (λ l. l.value.rounds) whole;
      counted = capped-sum r.before.resets here.value.resets resets one all r.counted o.counted all_is ∙ ap (λ l. capped l.value.resets) whole;
      led = o.led ∙ ap (λ l. l.world) whole;
    }

pub round-smaller : (first now next : WorldState) (rounds resets left struck one left_now struck_now : ℕ) (end : Bool) → Settling first now rounds resets left struck
    → IsOneRound first now next one left_now struck_now
    → end ≡ (nat_eq left_now 0 || not (nat_lt left_now left || nat_lt struck struck_now)) → end ≡ false → left_over next < left_over now
round-smaller first now next rounds resets left struck one left_now struck_now end r o end_is goes =
    let not_last : is_last_round now (log.round now).world ≡ false = sym (last-told first now next rounds resets left struck one left_now struck_now r o) ∙ (sym end_is ∙ goes) in
    not_last-less now next (went now next o.led) (senders o.moment r) (ap (is_last_round now) o.led ∙ not_last)

-- the rounds fit
pub rounds-few : (first now : WorldState) (rounds resets left struck planned : ℕ) → Settling first now rounds resets left struck
    → unacknowledged_in first ≤ 140737488322560 → planned ≡ length first.plan → planned < 2 ^ 63 → rounds + 1 < 2 ^ 64
rounds-few first now rounds resets left struck planned r few count small =
    let cost = r.cost in
    omega (arith, cost, few, count, small)

-- What a clear and all rounds came to.
pub record IsSettle (w v : WorldState) (rounds resets : ℕ) : Type 0 where
  pub after : v ≡ (log.settle w).world
  pub number : rounds ≡ (log.settle w).value.rounds
  pub counted : resets ≡ capped (log.settle w).value.resets

rounds-zero : (n : ℕ) → n ≡ 0 + n
rounds-zero n = omega arith

pub settled-is : (w u v : WorldState) (rounds first rest all : ℕ) → first ≡ (log.clear w).value → u ≡ (log.clear w).world → first ≤ 8192 → AreRounds u v rounds rest → all ≡ capped (first + rest)
    → IsSettle w v rounds all
unfolding log.settle
settled-is w u v rounds first rest all counted cleared few r all_is =
    let left : Log log.Rounds = rounds_from (log.clear w).world in
    record {
      after = r.led ∙ ap (λ y. (rounds_from y).world) cleared;
      number = r.number ∙ ap (λ y. (rounds_from y).value.rounds) cleared ∙ rounds-zero left.value.rounds;
      counted = capped-sum (log.clear w).value left.value.resets first rest all (capped-few first few ∙ ap capped counted) (r.counted ∙ ap (λ y. capped (rounds_from y).value.resets) cleared) all_is;
    }

-- a settle leaves idle links
pub settled-idle : (w v : WorldState) → IsMoment w → v ≡ (log.settle w).world → is_idle v.links ≡ true
settled-idle w v m after = ap (λ (y : WorldState). is_idle y.links) after ∙ settle-idle w m.senders
