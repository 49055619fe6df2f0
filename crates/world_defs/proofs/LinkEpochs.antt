-- No step of the links but an acceptance begins an epoch of them, so no event does.
use Rattle.std.proofs.Common.{◌≡◌, ◌+◌, ℕ, Bool, true, false, not, ◌&&◌, List, [], ◌∷◌, ◌++◌, Option, Some, None, is_some, refl, ◌∙◌, true≢false}
use Rattle.net_defs.specs.declared.vertex.End.{End}
use Rattle.world_defs.specs.History.{may_plug, with_plugged}
use Rattle.world_defs.specs.Crossed.{leaving}
use Rattle.packet_defs.specs.Burst.{flipped, may_flip}
use Rattle.world_defs.specs.declared.moved.Course.{Course}
use Rattle.world_defs.specs.declared.moved.Course.TheVariants.{Arrives, Enters, Drops}
use Rattle.world_defs.specs.declared.replayed.Replayed.TheVariants.{Back, Busy}
use Rattle.world_defs.specs.Links.{Held, Caught, LinkState, packet_in, with_packet, emptied, put}
use Rattle.world_defs.specs.Advance.{course, entered, gone_on, advance_of}
use Rattle.world_defs.specs.Fault.{repeat_of, hold_of, is_used_up, with_caught, flip_of, caught_as, released, replay_of, pull_by, plug}
use Rattle.world_defs.specs.LinkStep.{Step, Put, Advance, Lose, Reset, Repeat, Hold, Flip, Replay, Pull, Plug, Accept, stepped}
use Rattle.world_defs.proofs.Idling.{pick}
use Rattle.world_defs.specs.declared.event.Event.{Event}
use Rattle.world_defs.specs.declared.effect.Effect.{Effect}
use Rattle.world_defs.specs.Node.{Outgoing, packet_for}
use Rattle.world_defs.specs.World.{WorldState}
use Rattle.world_defs.specs.Step.{planned_strikes, sent_out}
use Rattle.world_defs.specs.declared.fault.Fault.{Fault}
use Rattle.world_defs.specs.declared.fault.Fault.TheVariants.{Lose as LoseFault}
use Rattle.world_defs.proofs.Views.{LinksChange, Change}
use Rattle.world_defs.proofs.Strikes.{fault_step, Strike, strike_view}

pick-epoch : {X : Type 0} (k : ℕ) (t : Bool) (x y : X × LinkState) → x.1.epoch ≡ k → y.1.epoch ≡ k → (pick t x y).1.epoch ≡ k
pick-epoch k true x y e f = e
pick-epoch k false x y e f = f

entered-epoch : (s : LinkState) (c : ℕ) (held : Held) (next : ℕ) (o : Option Held) → (entered s c held next o).1.epoch ≡ s.epoch
entered-epoch s c held next None = refl
entered-epoch s c held next (Some other) = refl

gone_on-epoch : (s : LinkState) (c : ℕ) (held : Held) (to : Course) → (gone_on s c held to).1.epoch ≡ s.epoch
gone_on-epoch s c held (Arrives h) = refl
gone_on-epoch s c held (Enters next) = entered-epoch s c held next (packet_in (emptied s c) next)
gone_on-epoch s c held (Drops why) = refl

advance_of-epoch : (s : LinkState) (c : ℕ) (o : Option Held) → (advance_of s c o).1.epoch ≡ s.epoch
advance_of-epoch s c None = refl
advance_of-epoch s c (Some held) = gone_on-epoch s c held (course s.cables c held.wire)

repeat_of-epoch : (s : LinkState) (c : ℕ) (o : Option Held) → (repeat_of s c o).1.epoch ≡ s.epoch
repeat_of-epoch s c None = refl
repeat_of-epoch s c (Some held) = pick-epoch s.epoch (is_used_up s) (None, s) (Some s.next_serial, with_caught s c held) refl refl

hold_of-epoch : (s : LinkState) (c : ℕ) (o : Option Held) → (hold_of s c o).1.epoch ≡ s.epoch
hold_of-epoch s c None = refl
hold_of-epoch s c (Some held) = pick-epoch s.epoch (is_used_up s) (None, s) (Some s.next_serial, with_caught (emptied s c) c held) refl refl

flip_of-epoch : (s : LinkState) (c bit pattern : ℕ) (o : Option Held) → (flip_of s c bit pattern o).1.epoch ≡ s.epoch
flip_of-epoch s c bit pattern None = refl
flip_of-epoch s c bit pattern (Some held) =
    let p : Option Held = Some (record held { wire = flipped held.wire bit pattern; marked = true }) in
    pick-epoch s.epoch (not held.marked && may_flip held.wire bit pattern) (true, with_packet s c p) (false, s) refl refl

replay_of-epoch : (s : LinkState) (serial : ℕ) (o : Option Caught) → (replay_of s serial o).1.epoch ≡ s.epoch
replay_of-epoch s serial None = refl
replay_of-epoch s serial (Some caught) =
    pick-epoch s.epoch (is_some (packet_in s caught.channel)) (Busy caught.channel, s) (Back caught.channel, released s serial caught) refl refl

put-epoch : (s : LinkState) (c : ℕ) (wire : List ℕ) → (put s c wire).1.epoch ≡ s.epoch
put-epoch s c wire =
    let p : Option Held = Some (record { wire = wire; marked = false; born = s.epoch }) in
    pick-epoch s.epoch (is_some (packet_in s c)) (false, s) (true, with_packet s c p) refl refl

pull_by-epoch : (s : LinkState) (o : Option ℕ) → (pull_by s o).1.epoch ≡ s.epoch
pull_by-epoch s None = refl
pull_by-epoch s (Some c) = refl

plug-epoch : (s : LinkState) (a b : End) → (plug s a b).1.epoch ≡ s.epoch
plug-epoch s a b =
    pick-epoch s.epoch (may_plug s.cables a b) (true, record s { cables = with_plugged s.cables a b; channels = s.channels ++ None ∷ None ∷ [] }) (false, s) refl refl

abbrev pub is_accept : Step → Bool
is_accept Accept = true
is_accept _ = false

pub stepped-epoch : (s : LinkState) (x : Step) → is_accept x ≡ false → (stepped s x).epoch ≡ s.epoch
stepped-epoch s (Put c wire) packets = put-epoch s c wire
stepped-epoch s (Advance c) packets = advance_of-epoch s c (packet_in s c)
stepped-epoch s (Lose c) packets = refl
stepped-epoch s (Reset c) packets = refl
stepped-epoch s (Repeat c) packets = repeat_of-epoch s c (packet_in s c)
stepped-epoch s (Hold c) packets = hold_of-epoch s c (packet_in s c)
stepped-epoch s (Flip c bit pattern) packets = flip_of-epoch s c bit pattern (packet_in s c)
stepped-epoch s (Replay serial) packets = replay_of-epoch s serial (caught_as s serial)
stepped-epoch s (Pull e) packets = pull_by-epoch s (leaving s.cables e)
stepped-epoch s (Plug a b) packets = plug-epoch s a b
stepped-epoch s Accept packets = absurd (true≢false packets)

-- every event
fault-no_accept : (c : ℕ) (f : Fault) → is_accept (fault_step c f) ≡ false
fault-no_accept c LoseFault = refl
fault-no_accept c _ = refl

links-no_accept : {w : WorldState} {e : Event} {x : Effect} {s : Step} → LinksChange w e x s → is_accept s ≡ false
links-no_accept (LinksChange.moves packet next d e f g) = refl
links-no_accept _ = refl

strike-epoch : {w v : WorldState} {c : ℕ} → Strike w c v → v.links.epoch ≡ w.links.epoch
strike-epoch (Strike.spares e) = refl
strike-epoch (Strike.misses f e k) = refl
strike-epoch {w = w} {c = c} (Strike.strikes f e k) = stepped-epoch w.links (fault_step c f) (fault-no_accept c f)

injection-epoch : (w : WorldState) (h c : ℕ) (out : Outgoing) → (planned_strikes (sent_out w h c out) c).links.epoch ≡ w.links.epoch
unfolding sent_out
injection-epoch w h c out = strike-epoch (strike_view (sent_out w h c out) c) ∙ stepped-epoch w.links (Put c (packet_for h (w.injected + 1) out)) refl

pub change-epoch : {w : WorldState} {e : Event} {r : Effect × WorldState} → Change w e r → r.1.links.epoch ≡ w.links.epoch
change-epoch Change.idle = refl
change-epoch (Change.blocked packet next d e) = refl
change-epoch {w = w} (Change.links {s = s} k) = stepped-epoch w.links s (links-no_accept k)
change-epoch {w = w} (Change.drops {c = c} packet why d e f) = stepped-epoch w.links (Advance c) refl
change-epoch {w = w} (Change.arrives {c = c} packet h d e f g) = stepped-epoch w.links (Advance c) refl
change-epoch (Change.host k) = refl
change-epoch {w = w} (Change.injects {h = h} c out d e f g o) = injection-epoch w h c out
change-epoch (Change.calls k) = refl
