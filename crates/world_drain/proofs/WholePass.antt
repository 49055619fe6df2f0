-- A pass by its parts, and passes under way.
use Rattle.std.proofs.Common.{◌≡◌, ◌<◌, ◌≤◌, ℕ, ◌+◌, Bool, true, false, not, ◌||◌, map, nat_lt, sym, ◌∙◌, ap, subst, arith}
use Rattle.std.specs.List.{range_with_len}
use Rattle.world_defs.specs.declared.event.Event.TheVariants.{Inject}
use Rattle.world_defs.specs.World.{WorldState, host_count, addresses}
use Rattle.world_defs.specs.Step.{steps}
use Rattle.world_defs.specs.Drain.{changes}
use Rattle.world_defs.specs.Asking.{all_given_up}
use Rattle.world_defs.specs.Settle.{is_quiet}
use Rattle.world_laws.proofs.Passes.{measure}
use Rattle.world_defs.specs.Log.{Log}
use Rattle.world_defs.specs.Logs as log
use Rattle.world_defs.proofs.LogRows.{round_pass-row, byte_settles}
use Rattle.log_laws.proofs.Settles.{passes_from, passes-lower, passes-on, passes-last}
use Rattle.log_laws.proofs.UnderWay.{UnderWay, behind, under_way-first, under_way-on}
use Rattle.world_drain.specs.Settling.{capped}
use Rattle.world_drain.proofs.Injects.{all_injects}
use Rattle.world_drain.proofs.Replays.{all_replays}
use Rattle.world_drain.proofs.Telling.{moved-sum, capped-few, capped-sum, not-moved, moved-none, moved-assoc}

-- What is reported of a pass: whether it moved something, its resets, and the world after it.
pub record IsPass (w last : WorldState) (moved : Bool) (resets : ℕ) : Type 0 where
  pub any : moved ≡ nat_lt 0 (log.round_pass w).value.moves
  pub counted : resets ≡ capped (log.round_pass w).value.resets
  pub led : last ≡ (log.round_pass w).world

-- where every host injects in the world in which all gave up, the hosts are those of before
pub injects-there : (w t : WorldState) → t ≡ all_given_up w → host_count t ≡ host_count w → all_injects t ≡ steps (all_given_up w) (map Inject (addresses w))
injects-there w t is hosts = ap (λ n. steps t (map Inject (range_with_len 0 n))) hosts ∙ ap (λ x. steps x (map Inject (addresses w))) is

pub pass-told : (w t u v last : WorldState) (injected moved both : Bool) (resets more all : ℕ) → t ≡ all_given_up w → host_count t ≡ host_count w
    → injected ≡ nat_lt 0 (changes (all_injects t).0) → u ≡ (all_injects t).1 → resets ≡ (log.clear u).value → v ≡ (log.clear u).world → resets ≤ 8192
    → moved ≡ nat_lt 0 (all_replays v).value.moves → more ≡ capped (all_replays v).value.resets → last ≡ (all_replays v).world
    → both ≡ (injected || moved) → all ≡ capped (resets + more) → IsPass w last both all
unfolding log.round_pass
pass-told w t u v last injected moved both resets more all given hosts injected_is injects counted cleared few moved_is more_is led both_is all_is =
    let there = injects-there w t given hosts in
    let end : WorldState = (steps (all_given_up w) (map Inject (addresses w))).1 in
    let x : Log ℕ = log.clear end in
    let here : u ≡ end = injects ∙ ap (λ p. p.1) there in
    let count : resets ≡ x.value = counted ∙ ap (λ y. (log.clear y).value) here in
    let led_to : v ≡ x.world = cleared ∙ ap (λ y. (log.clear y).world) here in
    record {
      any = moved-sum (changes (steps (all_given_up w) (map Inject (addresses w))).0) (all_replays x.world).value.moves injected moved both
          (injected_is ∙ ap (λ p. nat_lt 0 (changes p.0)) there) (moved_is ∙ ap (λ y. nat_lt 0 (all_replays y).value.moves) led_to) both_is;
      counted = capped-sum x.value (all_replays x.world).value.resets resets more all (capped-few resets few ∙ ap capped count) (more_is ∙ ap (λ y. capped (all_replays y).value.resets) led_to) all_is;
      led = led ∙ ap (λ y. (all_replays y).world) led_to;
    }

-- Passes that others follow led here, with so many resets.
pub record Passing (first now : WorldState) (resets : ℕ) : Type 0 where
  pub before : log.Moved
  pub counted : resets ≡ capped before.resets
  pub under : UnderWay (log.moved_both before) (passes_from first) first now (passes_from now)

pub passing-none : (w : WorldState) → Passing w w 0
passing-none w = record { before = log.unmoved; counted = omega arith; under = under_way-first (log.moved_both log.unmoved) moved-none w (passes_from w) }

-- whether a pass was the last, by what is reported of it
last-told : (w last : WorldState) (moved : Bool) (resets : ℕ) → IsPass w last moved resets → (is_quiet last || not moved) ≡ log.is_last_pass w (log.round_pass w)
last-told w last moved resets p =
    ap (λ x. is_quiet x || not moved) p.led ∙ ap (λ t. is_quiet (log.round_pass w).world || t) (ap not p.any ∙ not-moved (log.round_pass w).value.moves)

pub passing-on : (first now next : WorldState) (moved end : Bool) (resets one all : ℕ) → Passing first now resets → IsPass now next moved one
    → end ≡ (is_quiet next || not moved) → end ≡ false → all ≡ capped (resets + one) → Passing first next all
passing-on first now next moved end resets one all r p end_is goes all_is =
    let here : Log log.Moved = log.round_pass now in
    let not_last : log.is_last_pass now here ≡ false = sym (last-told now next moved one p) ∙ (sym end_is ∙ goes) in
    record {
      before = log.moved_both r.before here.value;
      counted = capped-sum r.before.resets here.value.resets resets one all r.counted p.counted all_is;
      under = under_way-on (log.moved_both here.value) (log.moved_both (log.moved_both r.before here.value)) next here.events (passes_from next) r.under
          (p.led ∙ (round_pass-row byte_settles now).there) (passes-on now next not_last p.led) (λ c. moved-assoc r.before here.value c);
    }

pub passing-end : (first now next : WorldState) (moved end : Bool) (resets one all : ℕ) → Passing first now resets → IsPass now next moved one
    → end ≡ (is_quiet next || not moved) → end ≡ true → all ≡ capped (resets + one) → (all ≡ capped (passes_from first).value.resets) × (next ≡ (passes_from first).world)
passing-end first now next moved end resets one all r p end_is ends all_is =
    let here : Log log.Moved = log.round_pass now in
    let last : log.is_last_pass now here ≡ true = sym (last-told now next moved one p) ∙ (sym end_is ∙ ends) in
    let whole : behind (log.moved_both r.before) r.under.done here ≡ passes_from first = sym (r.under.all ∙ ap (behind (log.moved_both r.before) r.under.done) (passes-last now last)) in
    (capped-sum r.before.resets here.value.resets resets one all r.counted p.counted all_is ∙ ap (λ l. capped l.value.resets) whole, p.led ∙ ap (λ l. l.world) whole)

-- a pass that isn't the last leaves less to move
pub pass-smaller : (now next : WorldState) (moved end : Bool) (one : ℕ) → IsPass now next moved one
    → end ≡ (is_quiet next || not moved) → end ≡ false → measure next < measure now
pass-smaller now next moved end one p end_is goes =
    subst (λ x. measure x < measure now) (sym p.led) (passes-lower.less now tt (sym (last-told now next moved one p) ∙ (sym end_is ∙ goes)))
