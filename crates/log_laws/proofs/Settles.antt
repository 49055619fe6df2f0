-- What is part of the way along a settle: along its clear, its rounds, and the parts of a pass.
use Rattle.std.proofs.Common.{◌≡◌, ◌<◌, ℕ, suc, Bool, true, false, List, [], ◌∷◌, ◌++◌, map, nat_lt, refl, sym, ◌∙◌, ap, subst, arith, if◌then◌else◌}
use Rattle.world_defs.specs.declared.event.Event.TheVariants.{Inject, Replay, Expire, GiveUp}
use Rattle.world_defs.specs.declared.effect.Effect.{Effect}
use Rattle.world_defs.specs.declared.effect.Effect.TheVariants.{Idle, Expired}
use Rattle.world_defs.specs.EightBits.{IsByteEvent}
use Rattle.world_defs.specs.Node.{node_expired, unacknowledged_to}
use Rattle.world_defs.specs.World.{WorldState, addresses, node_at, with_node}
use Rattle.world_defs.specs.Step.{expired, step, steps, after_all}
use Rattle.world_defs.specs.Settle.{expiries, serials, pass_bound, is_last_round, round_bound}
use Rattle.world_laws.specs.Shape.{HasSenders}
use Rattle.world_laws.proofs.Along.{Along, expiries-along}
use Rattle.world_laws.proofs.Passes.{measure, pass-less}
use Rattle.world_laws.proofs.Rounds.{Going, left_over, not_last-less, round_going, going_senders}
use Rattle.world_defs.specs.Log.{Log}
use Rattle.world_defs.specs.Logs as log
use Rattle.world_defs.specs.Row.{IsPartWay}
use Rattle.world_defs.proofs.LogRows.{steps-after, all-map, clear-row, cleared-row, byte_clears}
use Rattle.log_laws.proofs.PartWay.{way-front, way-behind, way-step, way-as}
use Rattle.log_laws.proofs.UnderWay.{behind}
use Rattle.log_laws.proofs.UpTo.{Lowers, up_to-on, up_to-last, up_to-enough, up_to-within}

-- passes lower what injections and limbo can still move
pub passes-lower : Lowers log.is_last_pass log.round_pass (λ w. Unit {0}) measure
passes-lower = record { keeps = λ w q e. tt; less = λ w q e. (pass-less w q e).1 }

-- the passes from a world on
abbrev pub passes_from : WorldState → Log log.Moved
passes_from w = log.round_passes (pass_bound w) w

passes-same : (k : ℕ) (w : WorldState) → measure w < k → log.round_passes k w ≡ passes_from w
passes-same k w low =
    up_to-enough log.moved_both log.unmoved log.is_last_pass log.round_pass (λ v. Unit {0}) measure passes-lower k (pass_bound w) w tt low (omega arith)

-- within a pass
pub passes-within : (w v : WorldState) → IsPartWay w (log.round_pass w).events v → IsPartWay w (passes_from w).events v
passes-within w v p = up_to-within log.moved_both log.unmoved log.is_last_pass log.round_pass (pass_bound w) w v (omega arith) p

-- after a pass that wasn't the last come the passes of the world that it left
pub passes-on : (w next : WorldState) → log.is_last_pass w (log.round_pass w) ≡ false → next ≡ (log.round_pass w).world
    → passes_from w ≡ behind (log.moved_both (log.round_pass w).value) (log.round_pass w).events (passes_from next)
passes-on w next goes led =
    let one : Log log.Moved = log.round_pass w in
    let more : suc (measure w) ≡ pass_bound w = omega arith in
    ap (λ k. log.round_passes k w) (sym more) ∙ up_to-on log.moved_both log.unmoved log.is_last_pass log.round_pass (measure w) w goes
    ∙ ap (behind (log.moved_both one.value) one.events) (passes-same (measure w) one.world (passes-lower.less w tt goes) ∙ ap passes_from (sym led))

-- the last pass
pub passes-last : (w : WorldState) → log.is_last_pass w (log.round_pass w) ≡ true → passes_from w ≡ log.round_pass w
passes-last w last =
    let more : suc (measure w) ≡ pass_bound w = omega arith in
    ap (λ k. log.round_passes k w) (sym more) ∙ up_to-last log.moved_both log.unmoved log.is_last_pass log.round_pass (measure w) w last

-- the world after the give-ups and the injections of a pass of a settle
abbrev pub after_injections : WorldState → WorldState
after_injections w = (steps (after_all w (map GiveUp (addresses w))) (map Inject (addresses w))).1

-- within a pass: along the give-ups, the injections, the clear and the replays
pub pass-given_up : (w v : WorldState) → IsPartWay w (map GiveUp (addresses w)) v → IsPartWay w (log.round_pass w).events v
unfolding log.round_pass
pass-given_up w v p = way-front w v (map GiveUp (addresses w)) (log.injected (addresses w) (after_all w (map GiveUp (addresses w)))).events p

-- along what follows the give-ups
pass-on : (w t v : WorldState) → t ≡ after_all w (map GiveUp (addresses w)) → IsPartWay t (log.injected (addresses w) t).events v → IsPartWay w (log.round_pass w).events v
unfolding log.round_pass
pass-on w t v is p =
    let given : WorldState = after_all w (map GiveUp (addresses w)) in
    way-behind w given v (map GiveUp (addresses w)) (log.injected (addresses w) given).events refl (subst (λ x. IsPartWay x (log.injected (addresses w) x).events v) is p)

pub pass-injects : (w t v : WorldState) → t ≡ after_all w (map GiveUp (addresses w)) → IsPartWay t (map Inject (addresses w)) v → IsPartWay w (log.round_pass w).events v
pass-injects w t v is p =
    let one : Log log.Moved = log.cleared (map Inject (addresses w)) t in
    let u : WorldState = (steps t (map Inject (addresses w))).1 in
    pass-on w t v is
    (way-front t v one.events (log.replays (serials one.world) one.world).events (way-front t v (map Inject (addresses w)) (log.clear u).events p))

pub pass-clear : (w u v : WorldState) → u ≡ after_injections w → IsPartWay u (log.clear u).events v → IsPartWay w (log.round_pass w).events v
pass-clear w u v is p =
    let t : WorldState = after_all w (map GiveUp (addresses w)) in
    let one : Log log.Moved = log.cleared (map Inject (addresses w)) t in
    let here : WorldState = after_injections w in
    pass-on w t v refl
    (way-front t v one.events (log.replays (serials one.world) one.world).events
    (way-behind t here v (map Inject (addresses w)) (log.clear here).events (steps-after t (map Inject (addresses w))) (subst (λ x. IsPartWay x (log.clear x).events v) is p)))

pub pass-replays : (w u x v : WorldState) → u ≡ after_injections w → x ≡ (log.clear u).world → IsPartWay x (log.replays (serials x) x).events v → IsPartWay w (log.round_pass w).events v
pass-replays w u x v is cleared p =
    let t : WorldState = after_all w (map GiveUp (addresses w)) in
    let one : Log log.Moved = log.cleared (map Inject (addresses w)) t in
    let led : x ≡ one.world = cleared ∙ ap (λ y. (log.clear y).world) is in
    pass-on w t v refl
    (way-behind t one.world v one.events (log.replays (serials one.world) one.world).events (cleared-row byte_clears (map Inject (addresses w)) (all-map IsByteEvent Inject (λ h. tt) (addresses w)) t).there
    (subst (λ y. IsPartWay y (log.replays (serials y) y).events v) led p))

-- along the replay of the first of some serials
pub replays-within : (s : ℕ) (ss : List ℕ) (w v : WorldState) → IsPartWay w (Replay s ∷ (log.clear (step w (Replay s)).1).events) v → IsPartWay w (log.replays (s ∷ ss) w).events v
replays-within s ss w v p =
    let one : Log log.Moved = log.cleared (Replay s ∷ []) w in way-front w v one.events (log.replays ss one.world).events p

-- along the clear after a replay
pub replay-clear : (s : ℕ) (w u v : WorldState) → u ≡ (step w (Replay s)).1 → IsPartWay u (log.clear u).events v → IsPartWay w (Replay s ∷ (log.clear (step w (Replay s)).1).events) v
replay-clear s w u v is p = way-step w (step w (Replay s)).1 v (Replay s) (log.clear (step w (Replay s)).1).events refl (subst (λ y. IsPartWay y (log.clear y).events v) is p)

-- expiries inject nothing and leave limbo as it is
abbrev IsLevel : WorldState → WorldState → Type 0
IsLevel w v = measure v ≡ measure w

expire-level : (h peer : ℕ) (w : WorldState) → IsLevel w (step w (Expire h peer)).1
unfolding expired
expire-level h peer w = by (nat_lt 0 (unacknowledged_to (node_at w h) peer))
  where
    by : (b : Bool) → IsLevel w (if b then (let r : Effect × WorldState = (Expired, with_node w h (node_expired (node_at w h) peer)) in r) else (Idle, w)).1
    by true = refl
    by false = refl

along-level : Along IsLevel (λ e. (w : WorldState) → IsLevel w (step w e).1)
along-level = record { same = λ w. refl; both = λ u v w a b. b ∙ a; event = λ w e level. level w }

-- along the expiries of a round, and along its passes
pub round-expiries : (w v : WorldState) → IsPartWay w (expiries w) v → IsPartWay w (log.round w).events v
unfolding log.round
round-expiries w v p = way-front w v (expiries w) (log.round_passes (pass_bound w) (after_all w (expiries w))).events p

pub round-on : (w u : WorldState) → u ≡ after_all w (expiries w) → log.round w ≡ behind (λ a. a) (expiries w) (passes_from u)
unfolding log.round
round-on w u is =
    let t : WorldState = after_all w (expiries w) in
    let level : measure t ≡ measure w = expiries-along IsLevel (λ e. (x : WorldState) → IsLevel x (step x e).1) along-level expire-level w in
    ap (behind (λ a. a) (expiries w)) (passes-same (pass_bound w) t (omega (arith, level)) ∙ ap passes_from (sym is))

pub round-passes : (w u v : WorldState) → u ≡ after_all w (expiries w) → IsPartWay u (passes_from u).events v → IsPartWay w (log.round w).events v
round-passes w u v is p =
    way-as w v (log.round w).events (expiries w ++ (passes_from u).events) (ap (λ l. l.events) (round-on w u is)) (way-behind w u v (expiries w) (passes_from u).events is p)

-- rounds lower what is left over
abbrev is_last : WorldState → Log log.Rounds → Bool
is_last before r = is_last_round before r.world

pub going : (w : WorldState) → Going w (log.round w).world
going w = round_going w

rounds-lower : Lowers is_last log.one_round HasSenders left_over
rounds-lower = record {
  keeps = λ w m e. going_senders w (log.round w).world (going w) m;
  less = λ w m e. not_last-less w (log.round w).world (going w) m e;
}

-- the rounds from a world on
abbrev pub rounds_from : WorldState → Log log.Rounds
rounds_from w = log.rounds (round_bound w) w

-- within a round
pub rounds-within : (w v : WorldState) → IsPartWay w (log.round w).events v → IsPartWay w (rounds_from w).events v
rounds-within w v p = up_to-within log.rounds_both (record { rounds = 0; resets = 0 }) is_last log.one_round (round_bound w) w v (omega arith) p

-- after a round that wasn't the last come the rounds of the world that it left
pub rounds-on : (w next : WorldState) → HasSenders w → is_last_round w (log.round w).world ≡ false → next ≡ (log.round w).world
    → rounds_from w ≡ behind (log.rounds_both (log.one_round w).value) (log.round w).events (rounds_from next)
rounds-on w next m goes led =
    let one : Log log.Rounds = log.one_round w in
    let more : suc (left_over w) ≡ round_bound w = omega arith in
    let low = rounds-lower.less w m goes in
    let same : log.rounds (left_over w) one.world ≡ rounds_from one.world =
    up_to-enough log.rounds_both (record { rounds = 0; resets = 0 }) is_last log.one_round HasSenders left_over rounds-lower (left_over w) (round_bound one.world) one.world (rounds-lower.keeps w m goes) low (omega arith) in
    ap (λ k. log.rounds k w) (sym more) ∙ up_to-on log.rounds_both (record { rounds = 0; resets = 0 }) is_last log.one_round (left_over w) w goes
    ∙ ap (behind (log.rounds_both one.value) one.events) (same ∙ ap rounds_from (sym led))

-- the last round
pub rounds-last : (w : WorldState) → is_last_round w (log.round w).world ≡ true → rounds_from w ≡ log.one_round w
rounds-last w last =
    let more : suc (left_over w) ≡ round_bound w = omega arith in
    ap (λ k. log.rounds k w) (sym more) ∙ up_to-last log.rounds_both (record { rounds = 0; resets = 0 }) is_last log.one_round (left_over w) w last

-- along the clear of a settle, and along its rounds
pub settle-clear : (w v : WorldState) → IsPartWay w (log.clear w).events v → IsPartWay w (log.settle w).events v
unfolding log.settle
settle-clear w v p = way-front w v (log.clear w).events (rounds_from (log.clear w).world).events p

pub settle-rounds : (w u v : WorldState) → u ≡ (log.clear w).world → IsPartWay u (rounds_from u).events v → IsPartWay w (log.settle w).events v
unfolding log.settle
settle-rounds w u v is p =
    way-behind w (log.clear w).world v (log.clear w).events (rounds_from (log.clear w).world).events (clear-row byte_clears w).there
    (subst (λ x. IsPartWay x (rounds_from x).events v) is p)
