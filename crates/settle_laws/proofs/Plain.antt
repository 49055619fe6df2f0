-- After a give-up of every host only packets of connections enter idle links, and no flip has met them.
use Rattle.std.proofs.Common.{◌≡◌, ◌≤◌, ◌+◌, ℕ, zero, suc, true, false, ℤ, List, [], ◌∷◌, get_or, Option, Some, None, is_none, refl, sym, ◌∙◌, subst, true≢false}
use Rattle.std.specs.List.{list_all}
use Rattle.std.proofs.lemmas.Option.{same_Some}
use Rattle.packet_defs.specs.declared.kind.Kind.TheVariants.{Gm}
use Rattle.packet_defs.specs.Packet.{packet_of}
use Rattle.world_defs.specs.Links.{Held, LinkState, packet_in, with_packet, is_idle}
use Rattle.gm_defs.specs.Body.{frame_bytes, ack_bytes}
use Rattle.gm_defs.specs.Connection.{ack_on}
use Rattle.world_defs.specs.declared.effect.Effect.{Effect}
use Rattle.world_defs.specs.Node.{takes_from, Outgoing, Probe, TablePart, Reply, PartAnswer, FrameAnswer, Fragment, packet_for}
use Rattle.world_defs.specs.Step.{planned_strikes, sent_out}
use Rattle.world_defs.specs.World.{WorldState, node_at}
use Rattle.world_laws.proofs.Lists.{at-set}
use Rattle.settle_laws.proofs.Views.{InjectOf, unstruck-links}
use Rattle.settle_laws.proofs.Staged.{IsToPeer, to_send-peer, IsBare}

-- a packet of a connection, as it was built in this epoch or what switches left of it
pub record IsPlainPacket (epoch : ℕ) (held : Held) : Type 0 where
  pub unmarked : held.marked ≡ false
  pub born : held.born ≡ epoch
  pub turns : List ℤ
  pub payload : List ℕ
  pub wire : held.wire ≡ packet_of turns Gm payload

-- all packets in channels
pub record IsPlain (s : LinkState) : Type 0 where
  pub packets : (c : ℕ) (held : Held) → packet_in s c ≡ Some held → IsPlainPacket s.epoch held

-- idle links have none
pub idle-empty : (ps : List (Option Held)) → list_all is_none ps ≡ true → (c : ℕ) → get_or ps c None ≡ None
idle-empty [] e c = refl
idle-empty (None ∷ ps) e zero = refl
idle-empty (None ∷ ps) e (suc c) = idle-empty ps e c
idle-empty (Some held ∷ ps) e c = absurd (true≢false (sym e))

pub idle-plain : (s : LinkState) → is_idle s ≡ true → IsPlain s
idle-plain s e = record { packets = λ c held there. let bad : None ≡ Some held = sym (idle-empty s.channels e c) ∙ there in cc }

-- one channel is written
set-plain : (s : LinkState) (c : ℕ) (p : Option Held) → IsPlain s → ((held : Held) → p ≡ Some held → IsPlainPacket s.epoch held) → IsPlain (with_packet s c p)
set-plain s c p is new = record {
  packets = λ d. at-set (λ (x y : Option Held). ((held : Held) → x ≡ Some held → IsPlainPacket s.epoch held) → (held : Held) → y ≡ Some held → IsPlainPacket s.epoch held) (λ x f. f) s.channels c d p None (λ f. new) (is.packets d);
}

-- an injection
sent-plain : (host h number : ℕ) (w : WorldState) (out : Outgoing) → IsToPeer host (node_at w host) out → IsPlainPacket w.links.epoch (record { wire = packet_for h number out; marked = false; born = w.links.epoch })
unfolding packet_for
sent-plain host h number w (FrameAnswer lane next by) is = record { unmarked = refl; born = refl; turns = by; payload = ack_bytes (ack_on (takes_from h lane) next); wire = refl }
sent-plain host h number w (Fragment lane head part by) is = record { unmarked = refl; born = refl; turns = by; payload = frame_bytes head part; wire = refl }
sent-plain host h number w (Probe walk looped) is = absurd is
sent-plain host h number w (TablePart part by) is = absurd is
sent-plain host h number w (Reply r) is = absurd is
sent-plain host h number w (PartAnswer r) is = absurd is

pub inject-plain : (w : WorldState) (h : ℕ) (r : Effect × WorldState) → IsBare w → InjectOf w h r → r.1.struck ≤ w.struck → IsPlain w.links → IsPlain r.1.links
inject-plain w h r bare (InjectOf.idle e s) t is = subst (λ x. IsPlain x.links) (sym s) is
inject-plain w h r bare (InjectOf.sends c out chan e none allowed x s) t is =
    let v : WorldState = planned_strikes (sent_out w h c out) c in
    let few : v.struck ≤ w.struck = subst (λ z. z.struck ≤ w.struck) s t in
    let new : Held = record { wire = packet_for h (w.injected + 1) out; marked = false; born = w.links.epoch } in
    let plain : IsPlainPacket w.links.epoch new = sent-plain h h (w.injected + 1) w out (to_send-peer h (node_at w h) (bare.each h) out e) in
    subst (λ x. IsPlain x.links) (sym s) (subst IsPlain (sym (unstruck-links w h c out none few)) (set-plain w.links c (Some new) is (λ y q. subst (IsPlainPacket w.links.epoch) (same_Some new y q) plain)))
