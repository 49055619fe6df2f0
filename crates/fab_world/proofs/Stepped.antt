-- What an event leaves of a world, whether it happened or ran out of memory.
use Rattle.std.proofs.Common.{◌≡◌, ◌≤◌, ◌+◌, ◌*◌, false, length, refl, sym, ap, ◌∙◌, arith}
use Rattle.std.specs.Prelude.{Some, Result, Ok, Err, OnErr, IfOk}
use Rattle.world_defs.specs.History.{CableHistory, fabric_now}
use Rattle.world_defs.specs.Crossed.{life_channels}
use Rattle.world_defs.specs.Later.{OnlyPulled, IsLater as AreLater}
use Rattle.world_defs.proofs.CablesKept.{length-set-wire}
use Rattle.world_defs.proofs.CablesLater.{PullAt, pull_at-view, later-on, later-kept, pulled-on}
use Rattle.world_defs.specs.Cables.{is_plug}
use Rattle.world_defs.specs.declared.event.Event.{Event}
use Rattle.world_defs.specs.declared.effect.Effect.{Effect}
use Rattle.world_defs.specs.World.{WorldState, fabric_of, host_count}
use Rattle.world_defs.specs.Step.{step}
use Rattle.world_defs.specs.EightBits.{IsByteEvent}
use Rattle.world_defs.proofs.Kept.{step-pulled, step-later as cables-later}
use Rattle.fab_world.specs.Held.{IsMoment, IsLater}
use Rattle.fab_world.proofs.Moments.{step-later, later-moment, later-hosts, later-adopted}
use Rattle.fab_world.proofs.Reaching.{IsReachedNow, step-reached}

-- A moment that is reached, with later cables, as many hosts, no fewer channels, and the same adopted routes.
pub record IsStepped (w v : WorldState) : Type 0 where
  pub moment : IsMoment v
  pub reached : IsReachedNow v
  pub cables : AreLater w.links.cables v.links.cables
  pub hosts : host_count v ≡ host_count w
  pub channels : length w.links.channels ≤ length v.links.channels
  pub adopted : v.adopted ≡ w.adopted

-- the cables after a step, or after one that ran out of memory
later-cables : {E : Type 0} (w v : WorldState) (e : Event) (r : Result Effect E) → IfOk r (λ x. step w e ≡ (x, v)) → OnErr r (v ≡ w) → AreLater w.links.cables v.links.cables
later-cables w v e (Ok x) ok err = rw (sym (ap (λ (p : Effect × WorldState). p.1) ok)) (cables-later w e)
later-cables w v e (Err y) ok err = rw err AreLater.still

-- a world has two channels for each cable that was named
more-channels : (w v : WorldState) → IsMoment w → IsMoment v → AreLater w.links.cables v.links.cables → length w.links.channels ≤ length v.links.channels
more-channels w v m n l =
    let before = m.world.links.slots in
    let after = n.world.links.slots in
    let more = (later-kept l).channels in
    omega (arith, before, after, more)

pub stepped : {E : Type 0} (w v : WorldState) (e : Event) (r : Result Effect E) → IsByteEvent e → IsMoment w → IsReachedNow w → IfOk r (λ x. step w e ≡ (x, v)) → OnErr r (v ≡ w) → IsStepped w v
stepped w v e r low m is ok err =
    let l : IsLater w v = step-later w v e r ok err in
    let cables : AreLater w.links.cables v.links.cables = later-cables w v e r ok err in
    let moment : IsMoment v = later-moment w v m l in
    record {
      moment = moment;
      reached = step-reached w v e r low is ok err;
      cables = cables;
      hosts = later-hosts w v m l;
      channels = more-channels w v m moment cables;
      adopted = later-adopted w v l;
    }

-- ---- events that aren't plugs
pub only-pulled : {E : Type 0} (w v : WorldState) (e : Event) (r : Result Effect E) → is_plug e ≡ false → IfOk r (λ x. step w e ≡ (x, v)) → OnErr r (v ≡ w) → OnlyPulled w.links.cables v.links.cables
only-pulled w v e (Ok x) not ok err = rw (sym (ap (λ (p : Effect × WorldState). p.1) ok)) (step-pulled w e not)
only-pulled w v e (Err y) not ok err = rw err OnlyPulled.still

-- pulls leave as many channels
pull_at-channels : {h g : CableHistory} → PullAt h g → life_channels g ≡ life_channels h
pull_at-channels PullAt.none = refl
pull_at-channels {h = h} (PullAt.takes k w there here) = ap (λ n. 2 * n) (length-set-wire h.wires k (record w { pulled = Some (h.changes + 1) }))

pulled-channels : {h g : CableHistory} → OnlyPulled h g → life_channels g ≡ life_channels h
pulled-channels OnlyPulled.still = refl
pulled-channels {h = h} (OnlyPulled.pulls e rest) = pulled-channels rest ∙ pull_at-channels (pull_at-view h e)

pub same-channels : (w v : WorldState) → IsMoment w → IsMoment v → OnlyPulled w.links.cables v.links.cables → length v.links.channels ≡ length w.links.channels
same-channels w v m n pulled = n.world.links.slots ∙ pulled-channels pulled ∙ sym m.world.links.slots

-- ---- calls that leave the cables
-- A moment that is reached, with the same cables, and as many hosts and channels.
pub record IsStill (w v : WorldState) : Type 0 where
  pub moment : IsMoment v
  pub reached : IsReachedNow v
  pub cables : v.links.cables ≡ w.links.cables
  pub fabric : fabric_of v ≡ fabric_of w
  pub hosts : host_count v ≡ host_count w
  pub channels : length v.links.channels ≡ length w.links.channels

pub still : (w v : WorldState) → IsMoment w → IsMoment v → IsReachedNow v → v.links.cables ≡ w.links.cables → IsStill w v
still w v m n reached same = record {
  moment = n;
  reached = reached;
  cables = same;
  fabric = ap fabric_now same;
  hosts = n.world.hosts ∙ ap (λ (h : CableHistory). length h.hosts) same ∙ sym m.world.hosts;
  channels = n.world.links.slots ∙ ap life_channels same ∙ sym m.world.links.slots;
}
