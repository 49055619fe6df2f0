-- A hop, a run of hops and a probe that is carried to its end leave the cables.
use Rattle.std.proofs.Common.{◌≡◌, ℕ, ℤ, Bool, List, Option, Some, None, refl, sym, ap, subst, ◌∙◌}
use Rattle.std.specs.Prelude.{Result, Ok, Err, IfOk, IfSome, IfNone, OnErr}
use Rattle.world_defs.specs.Links.{LinkState}
use Rattle.link_model.specs.Hop.{IsRun}
use Rattle.link_model.specs.declared.hop.Hop.{Hop}
use Rattle.link_model.specs.declared.hop.Hop.TheVariants.{Moved, Blocked, Untried}
use Rattle.world_defs.specs.declared.event.Event.TheVariants.{Ask, Inject, Advance}
use Rattle.world_defs.specs.declared.effect.Effect.{Effect}
use Rattle.world_defs.specs.declared.effect.Effect.TheVariants.{Injected}
use Rattle.world_defs.specs.World.{WorldState, with_links}
use Rattle.world_defs.specs.Step.{step, asked}
use Rattle.world_defs.proofs.Kept.{step-cables}
use Rattle.fab_world.specs.Held.{IsMoment}
use Rattle.fab_world.specs.declared.machine.probing.Probed.{Probed}
use Rattle.fab_world.specs.Carried.{IsCarriedIn}
use Rattle.fab_world.specs.Hop.{IsHopIn, IsRunIn}
use Rattle.fab_world.proofs.Hopping.{hop-later, run-later, moved-in}
use Rattle.fab_world.proofs.Moments.{later-moment}
use Rattle.fab_world.proofs.Reaching.{IsReachedNow, hop-reached, run-reached}
use Rattle.fab_world.proofs.Stepped.{IsStepped, stepped, IsStill, still}

advance-cables : (w v : WorldState) (c : ℕ) (x : Effect) → step w (Advance c) ≡ (x, v) → v.links.cables ≡ w.links.cables
advance-cables w v c x is = ap (λ (p : Effect × WorldState). p.1.links.cables) (sym is) ∙ step-cables w (Advance c) refl

hop-cables : (w v : WorldState) (c : ℕ) (h : Hop) → IsHopIn w c h v → v.links.cables ≡ w.links.cables
hop-cables w v c (Moved next) is = advance-cables w v c _ is
hop-cables w v c (Blocked next) is = advance-cables w v c _ is
hop-cables w v c Untried is = ap (λ (u : WorldState). u.links.cables) is.0

pub hop-still : (w v : WorldState) (c : ℕ) (h : Hop) → IsMoment w → IsReachedNow w → IsHopIn w c h v → IsStill w v
hop-still w v c h m reached is = still w v m (later-moment w v m (hop-later w v c h is)) (hop-reached w v c h reached is) (hop-cables w v c h is)

along-cables : (w : WorldState) (c : ℕ) (links : LinkState) (hops at : ℕ) → IsRun w.links c hops at links → links.cables ≡ w.links.cables
along-cables w c links hops at IsRun.not_begun = refl
along-cables w c links hops at (IsRun.further {hops = n} {at = b} {next = d} {now = now} {after = after} before went) =
    advance-cables (with_links w now) (with_links w after) b _ (moved-in w now after b d went) ∙ along-cables w c now n b before

pub run-still : (w v : WorldState) (c hops at : ℕ) → IsMoment w → IsReachedNow w → IsRunIn w c hops at v → IsStill w v
run-still w v c hops at m reached is = still w v m (later-moment w v m (run-later w v c hops at is)) (run-reached w v c hops at reached is) (along-cables w c v.links hops at is.0)

-- ---- a probe that is carried to its end at once
abbrev happened : Effect → Result Effect (Unit {0})
happened x = Ok x

pub probe-still : {E : Type 0} (w v : WorldState) (h : ℕ) (walk : List ℤ) (looped : Bool) (r : Result (Option Probed) E) → IsMoment w → IsReachedNow w
    → IfOk r (λ o. IfSome o (λ p. IsCarriedIn (asked w h walk looped).1 h p.number p.hops p.effect v)) → IfOk r (λ o. IfNone o (v ≡ w)) → OnErr r (v ≡ w) → IsStill w v
probe-still w v h walk looped (Ok (Some p)) m reached carried none err =
    let u : WorldState = (step w (Ask h walk looped)).1 in
    let asks : IsStepped w u = stepped w u (Ask h walk looped) (happened (step w (Ask h walk looped)).0) tt m reached refl tt in
    let injects : IsStepped u carried.entered = stepped u carried.entered (Inject h) (happened (Injected p.number)) tt asks.moment asks.reached carried.injects tt in
    let runs : IsStill carried.entered carried.ran = run-still carried.entered carried.ran carried.c p.hops carried.at injects.moment injects.reached carried.run in
    let leaves : IsStepped carried.ran v = stepped carried.ran v (Advance carried.at) (happened p.effect) tt runs.moment runs.reached carried.leaves tt in
    still w v m leaves.moment leaves.reached (ap (λ (l : LinkState). l.cables) carried.links ∙ step-cables w (Ask h walk looped) refl)
probe-still w v h walk looped (Ok None) m reached carried none err = subst (IsStill w) (sym none) (still w w m m reached refl)
probe-still w v h walk looped (Err e) m reached carried none err = subst (IsStill w) (sym err) (still w w m m reached refl)
