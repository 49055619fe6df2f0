-- An ask has three injections at most for each try.
use Rattle.std.proofs.Common.{◌≡◌, ◌≤◌, ◌+◌, ◌*◌, ℕ, zero, suc, Bool, true, false, ℤ, List, map, Option, Some, None, is_some, refl, arith}
use Rattle.world_defs.specs.declared.event.Event.{Event}
use Rattle.world_defs.specs.declared.event.Event.TheVariants.{Ask, Inject, GiveUp}
use Rattle.world_defs.specs.declared.effect.Effect.{Effect}
use Rattle.world_defs.specs.Node.{Outgoing}
use Rattle.world_defs.specs.World.{WorldState, addresses}
use Rattle.world_defs.specs.Step.{planned_strikes, sent_out, step, after_all}
use Rattle.world_defs.specs.Log.{Log}
use Rattle.world_defs.specs.Logs as log
use Rattle.world_defs.proofs.LogViews.{tries-by, drain, Tried, Sent, sends, heard_by, host_try, loop_try, tries_of, asked_hosts, host_tries}
use Rattle.world_defs.specs.Asking.{probed_host, all_given_up}
use Rattle.world_defs.proofs.Views.{Change, view}
use Rattle.world_defs.proofs.LogRows.{all-map}
use Rattle.world_laws.proofs.Along.{Along, after_all-along, drain-along}
use Rattle.world_laws.proofs.Strikes.{planned_strikes-kept}
use Rattle.ask_laws.specs.Row.{AskInjectsFew}

struck-count : (w : WorldState) (h c : ℕ) (out : Outgoing) → (planned_strikes (sent_out w h c out) c).injected ≡ w.injected + 1
unfolding sent_out
struck-count w h c out = (planned_strikes-kept (sent_out w h c out) c).injected

-- an event injects at most one packet, and none where it is no injection
abbrev most : Event → ℕ
most (Inject h) = 1
most _ = 0

change-count : {w : WorldState} {e : Event} {r : Effect × WorldState} → Change w e r → r.1.injected ≤ w.injected + most e
change-count Change.idle = omega arith
change-count (Change.blocked packet next d e) = omega arith
change-count (Change.links k) = omega arith
change-count (Change.drops packet why d e f) = omega arith
change-count (Change.arrives packet h d e f k) = omega arith
change-count (Change.host k) = omega arith
change-count {w = w} (Change.injects {h = h} c out d e f g o) = let n = struck-count w h c out in omega (arith, n)
change-count (Change.calls k) = omega arith

step-count : (w : WorldState) (e : Event) → (step w e).1.injected ≤ w.injected + most e
step-count w e = change-count (view w e)

-- events that aren't injections
abbrev IsStill : Event → Type 0
IsStill e = most e ≡ 0

still-count : Along (λ u v. v.injected ≤ u.injected) IsStill
still-count = record { same = λ w. omega arith; both = λ u v w a b. omega (arith, a, b); event = λ w e none. let n = step-count w e in let z : most e ≡ 0 = none in omega (arith, n, z) }

drain-count : (w : WorldState) → (drain w).1.injected ≤ w.injected
drain-count w = drain-along (λ u v. v.injected ≤ u.injected) IsStill still-count (λ c. refl) w

give_ups-count : (w : WorldState) (hs : List ℕ) → (after_all w (map GiveUp hs)).injected ≤ w.injected
give_ups-count w hs = after_all-along (λ u v. v.injected ≤ u.injected) IsStill still-count w (map GiveUp hs) (all-map IsStill GiveUp (λ h. refl) hs)

send-count : (w : WorldState) (h : ℕ) → (sends w h).world.injected ≤ w.injected + 1
unfolding log.sends
send-count w h =
    let a : (step w (Inject h)).1.injected ≤ w.injected + 1 = step-count w (Inject h) in
    let b = drain-count (step w (Inject h)).1 in
    omega (arith, a, b)

stage-count : (w : WorldState) (h : ℕ) (walk : List ℤ) (looped : Bool) → (step w (Ask h walk looped)).1.injected ≤ w.injected
stage-count w h walk looped = let n : (step w (Ask h walk looped)).1.injected ≤ w.injected + 0 = step-count w (Ask h walk looped) in omega (arith, n)

host_try-count : (mapper : ℕ) (walk : List ℤ) (w : WorldState) → (host_try mapper walk w).world.injected ≤ w.injected + 2
unfolding log.host_try
host_try-count mapper walk w = by (probed_host probe.effects)
  where
    staged : WorldState
    staged = (step w (Ask mapper walk false)).1

    probe : Sent
    probe = sends staged mapper

    first : probe.world.injected ≤ w.injected + 1
    first = let a = send-count staged mapper in let b = stage-count w mapper walk false in omega (arith, a, b)

    by : (o : Option ℕ) → (heard_by w mapper probe o).world.injected ≤ w.injected + 2
    by None = omega (arith, first)
    by (Some h) = let a = send-count probe.world h in omega (arith, first, a)

loop_try-count : (mapper : ℕ) (walk : List ℤ) (w : WorldState) → (loop_try mapper walk w).world.injected ≤ w.injected + 1
unfolding log.loop_try
loop_try-count mapper walk w =
    let staged : WorldState = (step w (Ask mapper walk true)).1 in
    let a = send-count staged mapper in
    let b = stage-count w mapper walk true in
    omega (arith, a, b)

tries-count : {A : Type 0} (k : ℕ) (is_found : A → Bool) (nothing : A) (one : WorldState → Log (log.Tried A)) → ((w : WorldState) → (one w).world.injected ≤ w.injected + k) → (tries : ℕ) (w : WorldState) → (tries_of is_found nothing one tries w).world.injected ≤ w.injected + k * tries
tries-count k is_found nothing one each zero w = omega arith
tries-count k is_found nothing one each (suc n) w =
    let more : k * suc n ≡ k + k * n = omega arith in
    let here = each w in
    let rest = tries-count k is_found nothing one each n (one w).world in
    tries-by is_found nothing one n w (λ t. t.world.injected ≤ w.injected + k * suc n) (λ e. omega (arith, here, more)) (λ e. omega (arith, here, rest, more))

pub ask-few : AskInjectsFew
unfolding log.ask
ask-few w made mapper tries walk = by hosts.found
  where
    start : WorldState
    start = all_given_up w

    hosts : Tried (Option ℕ)
    hosts = host_tries mapper walk tries start

    first : hosts.world.injected ≤ w.injected + 2 * tries
    first =
        let a = give_ups-count w (addresses w) in
        let b = tries-count 2 is_some None (log.host_try mapper walk) (host_try-count mapper walk) tries start in
        omega (arith, a, b)

    by : (o : Option ℕ) → (asked_hosts made mapper walk tries hosts.harmed hosts.world o).world.injected ≤ w.injected + 3 * tries
    by (Some h) = omega (arith, first)
    by None = let a = tries-count 1 (λ b. b) false (log.loop_try mapper walk) (loop_try-count mapper walk) tries hosts.world in omega (arith, first, a)
