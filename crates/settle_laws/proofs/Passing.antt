-- One pass in which no planned fault strikes: what may be on its way in it comes before its end.
use Rattle.std.proofs.Common.{◌≡◌, ◌≤◌, ℕ, true, List, [], ◌∷◌, map, Some, None, refl, sym, ap, ◌∙◌, subst, arith}
use Rattle.net_defs.specs.Network.{Network}
use Rattle.world_defs.specs.Links.{is_idle}
use Rattle.gm_defs.specs.Fragment.{Fragment as FragmentOf}
use Rattle.gm_defs.specs.declared.frame.ConnectionKey.{ConnectionKey}
use Rattle.world_defs.specs.declared.event.Event.{Event}
use Rattle.world_defs.specs.declared.event.Event.TheVariants.{Inject, Advance, Replay, Reset, GiveUp}
use Rattle.world_defs.specs.declared.effect.Effect.{Effect}
use Rattle.world_defs.specs.Logs.{drain, clear, replays, round_pass}
use Rattle.world_defs.specs.World.{WorldState, addresses}
use Rattle.world_defs.specs.Step.{planned_strikes, sent_out, step, steps, after_all}
use Rattle.world_defs.specs.Drain.{channels_of, resets_of}
use Rattle.world_defs.specs.Settle.{serials}
use Rattle.world_laws.specs.Reached.{IsOfDrain, IsOfSettle}
use Rattle.world_defs.proofs.Kept.{step-cables}
use Rattle.world_laws.proofs.Rounds.{Going}
use Rattle.world_laws.proofs.Clearing.{clear-idle}
use Rattle.world_defs.proofs.LogRows.{all-map}
use Rattle.world_laws.proofs.Along.{Along, steps-along, after_all-along, drain-along, clear-along, round_pass-along}
use Rattle.world_laws.proofs.Reached.{settles-of}
use Rattle.world_defs.specs.Acts.{IsReached}
use Rattle.settle_laws.proofs.Views.{advance-is, InjectOf, inject-is}
use Rattle.settle_laws.proofs.Ways.{OnWay}
use Rattle.settle_laws.proofs.Staged.{IsBare, given_up-bare, given_up-links, sending-bare}
use Rattle.world_defs.proofs.Strikes.{injection-nodes}
use Rattle.settle_laws.proofs.CalmWorlds.{WorldCalm, IsCalm, event-calm, along-calm, replays-calm}
use Rattle.settle_laws.proofs.Plain.{IsPlain, idle-empty, idle-plain, inject-plain}
use Rattle.settle_laws.proofs.Still.{Still, calm-still}
use Rattle.settle_laws.proofs.Facts.{Facts, IsReadable}
use Rattle.settle_laws.proofs.Kept.{along-going, event-going, along-facts, Unstruck, event-unstruck, along-unstruck}
use Rattle.settle_laws.proofs.Whole.{IsWhole, whole-same}
use Rattle.settle_laws.proofs.Lively.{Lively, advance-lively}
use Rattle.settle_laws.proofs.Injecting.{inject-lively}

-- a drain after injections leaves idle links
abbrev pub PlainDrainsIdle : Type 0
PlainDrainsIdle = (n : Network) (w : WorldState) → IsReached n w → IsPlain w.links → is_idle (drain w).world.links ≡ true

inject-bare : (w : WorldState) (h : ℕ) (r : Effect × WorldState) → InjectOf w h r → IsBare w → IsBare r.1
inject-bare w h r (InjectOf.idle e s) is = subst IsBare (sym s) is
inject-bare w h r (InjectOf.sends c out chan e none allowed x s) is = subst IsBare (sym s) (sending-bare w (planned_strikes (sent_out w h c out) c) h out (injection-nodes w h c out) is)

-- unbroken routes stay so where no planned fault strikes
pub unstruck-whole : (key : ConnectionKey) (w v : WorldState) → Unstruck w v → v.struck ≤ w.struck → IsWhole key w → IsWhole key v
unstruck-whole key w v u few is = whole-same key w v (u.cables few) u.adopted is

-- while hosts inject
record Sending (n : Network) (key : ConnectionKey) (k : ℕ) (fragment : FragmentOf) (w : WorldState) : Type 0 where
  facts : Facts n key k fragment w
  whole : IsWhole key w
  bare : IsBare w
  plain : IsPlain w.links
  lively : Lively key k fragment w

-- while packets run out
record Draining (n : Network) (key : ConnectionKey) (k : ℕ) (fragment : FragmentOf) (w : WorldState) : Type 0 where
  facts : Facts n key k fragment w
  lively : Lively key k fragment w

module _ (flows : PlainDrainsIdle) (n : Network) (key : ConnectionKey) (k : ℕ) (fragment : FragmentOf) (readable : IsReadable fragment.message) where
  one-sending : (w : WorldState) (h : ℕ) → (step w (Inject h)).1.struck ≤ w.struck → Sending n key k fragment w → Sending n key k fragment (step w (Inject h)).1
  one-sending w h few s = record {
    facts = (along-facts n key k fragment).event w (Inject h) tt s.facts;
    whole = unstruck-whole key w (step w (Inject h)).1 (event-unstruck w (Inject h) tt) few s.whole;
    bare = inject-bare w h (step w (Inject h)) (inject-is w h) s.bare;
    plain = inject-plain w h (step w (Inject h)) s.bare (inject-is w h) few s.plain;
    lively = inject-lively n key k fragment w h (step w (Inject h)) s.facts s.bare (inject-is w h) few s.whole s.lively;
  }

  all-sending : (w : WorldState) (hs : List ℕ) → (steps w (map Inject hs)).1.struck ≤ w.struck → Sending n key k fragment w → Sending n key k fragment (steps w (map Inject hs)).1
  all-sending w [] few s = s
  all-sending w (h ∷ hs) few s =
      let next : WorldState = (step w (Inject h)).1 in
      let up = (event-going w (Inject h) tt).rises in
      let more = (steps-along Going IsOfSettle along-going next (map Inject hs) (all-map IsOfSettle Inject (λ j. tt) hs)).rises in
      all-sending next hs (omega (arith, few, up)) (one-sending w h (omega (arith, few, more)) s)

  advance-draining : (w : WorldState) (e : Event) → IsOfDrain e → Draining n key k fragment w → Draining n key k fragment (step w e).1
  advance-draining w (Advance c) q d = record {
    facts = (along-facts n key k fragment).event w (Advance c) tt d.facts;
    lively = advance-lively n key k fragment w (step w (Advance c)).1 d.facts readable c (advance-is w c) (event-calm w (Advance c) tt) (step-cables w (Advance c) refl) d.lively;
  }
  advance-draining w _ q d = absurd q

  along-draining : Along (λ w v. Draining n key k fragment w → Draining n key k fragment v) IsOfDrain
  along-draining = record { same = λ w d. d; both = λ u v w f g d. g (f d); event = advance-draining }

  drained : (w : WorldState) → Draining n key k fragment w → Draining n key k fragment (drain w).world
  drained w d = drain-along (λ w v. Draining n key k fragment w → Draining n key k fragment v) IsOfDrain along-draining (λ c. tt) w d

  -- nothing is on its way in idle links
  no-way : (payload : List ℕ) (to : ℕ) (w : WorldState) → is_idle w.links ≡ true → OnWay payload to w → ⊥
  no-way payload to w idle o = let bad : None ≡ Some o.held = sym (idle-empty w.links.channels idle o.channel) ∙ o.there in cc

  settled-down : (w : WorldState) → is_idle w.links ≡ true → Lively key k fragment w → Still key k fragment w
  settled-down w idle (Lively.still s) = s
  settled-down w idle (Lively.frame o) = absurd (no-way _ key.dst w idle o)
  settled-down w idle (Lively.ack next more most o) = absurd (no-way _ key.src w idle o)

  clear-still : (w : WorldState) → Sending n key k fragment w → Still key k fragment (clear w).world
  unfolding clear
  clear-still w s =
      let d : WorldState = (drain w).world in
      let idle : is_idle d.links ≡ true = flows n w s.facts.reached s.plain in
      let down = drained w (record { facts = s.facts; lively = s.lively }) in
      let calm = steps-along WorldCalm IsCalm along-calm d (resets_of d) (all-map IsCalm Reset (λ c. tt) (channels_of d)) in
      calm-still key k fragment d (steps d (resets_of d)).1 calm down.facts.low (settled-down d idle down.lively)

  clear-facts : (w : WorldState) → Facts n key k fragment w → Facts n key k fragment (clear w).world
  clear-facts w f = clear-along (λ w v. Facts n key k fragment w → Facts n key k fragment v) IsOfSettle (along-facts n key k fragment) settles-of.clears w f

  pub pass-facts : (w : WorldState) → Facts n key k fragment w → Facts n key k fragment (round_pass w).world
  pass-facts w f = round_pass-along (λ w v. Facts n key k fragment w → Facts n key k fragment v) IsOfSettle (along-facts n key k fragment) settles-of w f

  pub pass-still : (w : WorldState) → is_idle w.links ≡ true → (round_pass w).world.struck ≤ w.struck → Facts n key k fragment w → IsWhole key w → Still key k fragment w → Still key k fragment (round_pass w).world
  unfolding round_pass
  pass-still w idle few f whole s =
      let t : WorldState = after_all w (map GiveUp (addresses w)) in
      let u : WorldState = (steps t (map Inject (addresses w))).1 in
      let v : WorldState = (clear u).world in
      let last : WorldState = (replays (serials v) v).world in
      let calm : WorldCalm w t = after_all-along WorldCalm IsCalm along-calm w (map GiveUp (addresses w)) (all-map IsCalm GiveUp (λ h. tt) (addresses w)) in
      let first = (after_all-along Going IsOfSettle along-going w (map GiveUp (addresses w)) (all-map IsOfSettle GiveUp (λ h. tt) (addresses w))).rises in
      let sends = (steps-along Going IsOfSettle along-going t (map Inject (addresses w)) (all-map IsOfSettle Inject (λ j. tt) (addresses w))).rises in
      let mid = (clear-along Going IsOfSettle along-going settles-of.clears u).rises in
      let end = (replays-going (serials v) v).rises in
      let up : Unstruck w t = after_all-along Unstruck IsOfSettle along-unstruck w (map GiveUp (addresses w)) (all-map IsOfSettle GiveUp (λ h. tt) (addresses w)) in
      let start : Sending n key k fragment t = record {
        facts = after_all-along (λ w v. Facts n key k fragment w → Facts n key k fragment v) IsOfSettle (along-facts n key k fragment) w (map GiveUp (addresses w)) (all-map IsOfSettle GiveUp (λ h. tt) (addresses w)) f;
        whole = unstruck-whole key w t up (omega (arith, few, sends, mid, end)) whole;
        bare = given_up-bare w;
        plain = idle-plain t.links (ap is_idle (given_up-links w (addresses w)) ∙ idle);
        lively = Lively.still (calm-still key k fragment w t calm f.low s);
      } in
      let sent : Sending n key k fragment u = all-sending t (addresses w) (omega (arith, few, first, mid, end)) start in
      let low = (clear-facts u sent.facts).low in
      calm-still key k fragment v last (replays-calm (serials v) v) low (clear-still u sent)
    where
      replays-going : (ss : List ℕ) (x : WorldState) → Going x (replays ss x).world
      replays-going [] x = along-going.same x
      replays-going (y ∷ ys) x =
          let p : WorldState = (step x (Replay y)).1 in
          let q : WorldState = (clear p).world in
          along-going.both x p (replays ys q).world (event-going x (Replay y) tt) (along-going.both p q (replays ys q).world (clear-along Going IsOfSettle along-going settles-of.clears p) (replays-going ys q))

-- a pass ends with idle links
replays-idle : (ss : List ℕ) (w : WorldState) → is_idle w.links ≡ true → is_idle (replays ss w).world.links ≡ true
replays-idle [] w e = e
replays-idle (s ∷ ss) w e = let u : WorldState = (step w (Replay s)).1 in replays-idle ss (clear u).world (clear-idle u)

pub pass-idle : (w : WorldState) → is_idle (round_pass w).world.links ≡ true
unfolding round_pass
pass-idle w =
    let u : WorldState = (steps (after_all w (map GiveUp (addresses w))) (map Inject (addresses w))).1 in
    replays-idle (serials (clear u).world) (clear u).world (clear-idle u)
