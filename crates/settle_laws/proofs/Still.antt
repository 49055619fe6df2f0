-- Where a connection may stand between passes, and that what hosts hear leaves it there.
use Rattle.std.proofs.Common.{◌≡◌, ◌<◌, ◌≤◌, ℕ, true, false, length, ap, ◌∙◌, arith}
use Rattle.gm_defs.specs.Fragment.{Fragment as FragmentOf}
use Rattle.gm_defs.specs.declared.frame.ConnectionKey.{ConnectionKey}
use Rattle.gm_defs.specs.Connection.{SenderState}
use Rattle.world_defs.specs.Lane.{LaneState}
use Rattle.world_defs.specs.Node.{sending_lane, taking_lane, lane_at, port_at}
use Rattle.world_defs.specs.Hearing.{port_fits}
use Rattle.world_defs.specs.World.{WorldState, node_at}
use Rattle.world_defs.specs.Traffic.{sender_on, taken_on}
use Rattle.settle_laws.proofs.Calm.{SenderCalm, TakerCalm}
use Rattle.settle_laws.proofs.CalmWorlds.{WorldCalm}

-- Of the fragment of a number: it is acknowledged; or it is the next to send; or it was taken, and an acknowledgement is owed; or it is the next to take and its message's first, and no token fits the message.
pub data Still (key : ConnectionKey) (k : ℕ) (fragment : FragmentOf) (v : WorldState) : Type 0 where
  risen : k < (sender_on v key).base → Still key k fragment v
  again : (sender_on v key).cursor ≡ k → Still key k fragment v
  owed : k < taken_on v key → (lane_at (node_at v key.dst) (taking_lane key)).owes ≡ true → Still key k fragment v
  waits : taken_on v key ≡ k → fragment.offset ≡ 0 → port_fits (port_at (node_at v key.dst) fragment.message.dport) (length fragment.message.body) fragment.message.prio ≡ false → Still key k fragment v

base-rises : (s t : SenderState) → SenderCalm s t → s.base ≤ t.base
base-rises s t (SenderCalm.same e) = let d : t.base ≡ s.base = ap (λ x. x.base) e in omega (arith, d)
base-rises s t (SenderCalm.risen r) = omega (arith, r)

taken-rises : (p q : LaneState) → TakerCalm p q → p.taken ≤ q.taken
taken-rises p q (TakerCalm.keeps e f) = omega (arith, e)
taken-rises p q (TakerCalm.takes l o) = omega (arith, l)

pub calm-base : (w v : WorldState) (key : ConnectionKey) → WorldCalm w v → (sender_on w key).base ≤ (sender_on v key).base
calm-base w v key l = base-rises (sender_on w key) (sender_on v key) ((l.nodes key.src).senders (sending_lane key))

pub calm-taken : (w v : WorldState) (key : ConnectionKey) → WorldCalm w v → taken_on w key ≤ taken_on v key
calm-taken w v key l = taken-rises (lane_at (node_at w key.dst) (taking_lane key)) (lane_at (node_at v key.dst) (taking_lane key)) ((l.nodes key.dst).takers (taking_lane key))

module _ (key : ConnectionKey) (k : ℕ) (fragment : FragmentOf) (w v : WorldState) (l : WorldCalm w v) (low : k ≤ (sender_on w key).base) where
  again-calm : SenderCalm (sender_on w key) (sender_on v key) → (sender_on w key).cursor ≡ k → Still key k fragment v
  again-calm (SenderCalm.same e) c = Still.again (ap (λ x. x.cursor) e ∙ c)
  again-calm (SenderCalm.risen r) c = Still.risen (omega (arith, low, r))

  owed-calm : TakerCalm (lane_at (node_at w key.dst) (taking_lane key)) (lane_at (node_at v key.dst) (taking_lane key)) → k < taken_on w key → (lane_at (node_at w key.dst) (taking_lane key)).owes ≡ true → Still key k fragment v
  owed-calm (TakerCalm.keeps e f) t o = Still.owed (omega (arith, t, e)) (f o)
  owed-calm (TakerCalm.takes r o) t p = Still.owed (omega (arith, t, r)) o

  waits-calm : TakerCalm (lane_at (node_at w key.dst) (taking_lane key)) (lane_at (node_at v key.dst) (taking_lane key)) → taken_on w key ≡ k → fragment.offset ≡ 0 → port_fits (port_at (node_at w key.dst) fragment.message.dport) (length fragment.message.body) fragment.message.prio ≡ false → Still key k fragment v
  waits-calm (TakerCalm.keeps e f) t o p = Still.waits (e ∙ t) o ((l.nodes key.dst).ports fragment.message.dport (length fragment.message.body) fragment.message.prio p)
  waits-calm (TakerCalm.takes r a) t o p = Still.owed (omega (arith, t, r)) a

  pub calm-still : Still key k fragment w → Still key k fragment v
  calm-still (Still.risen r) = let up = calm-base w v key l in Still.risen (omega (arith, r, up))
  calm-still (Still.again c) = again-calm ((l.nodes key.src).senders (sending_lane key)) c
  calm-still (Still.owed t o) = owed-calm ((l.nodes key.dst).takers (taking_lane key)) t o
  calm-still (Still.waits t o p) = waits-calm ((l.nodes key.dst).takers (taking_lane key)) t o p
