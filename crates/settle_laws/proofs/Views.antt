-- What an advance and an injection make of a world, case by case.
use Rattle.std.proofs.Common.{◌≡◌, ◌≤◌, ◌+◌, ℕ, Bool, true, false, List, set, Option, Some, None, is_some, refl, ap, ◌∙◌, arith, if◌then◌else◌}
use Rattle.net_defs.specs.Route.{host_port}
use Rattle.world_defs.specs.Crossed.{leaving}
use Rattle.packet_defs.specs.Packet.{stripped}
use Rattle.world_defs.specs.declared.moved.Why.{Why}
use Rattle.world_defs.specs.declared.moved.Course.TheVariants.{Arrives, Enters, Drops}
use Rattle.world_defs.specs.Links.{Held, LinkState, packet_in, with_packet, emptied, put}
use Rattle.world_defs.specs.declared.event.Event.TheVariants.{Inject, Advance}
use Rattle.world_defs.specs.declared.effect.Effect.{Effect}
use Rattle.world_defs.specs.declared.effect.Effect.TheVariants.{Idle, Injected}
use Rattle.world_defs.specs.Node.{Outgoing, to_send, packet_for}
use Rattle.world_defs.specs.Hearing.{hear}
use Rattle.world_defs.specs.World.{WorldState, host_count, node_at, keeps_out}
use Rattle.world_defs.specs.Advance.{course}
use Rattle.world_defs.specs.Step.{planned_strikes, sent_out, step}
use Rattle.world_defs.proofs.Views.{LinksChange, Change, view}
use Rattle.world_defs.proofs.Strikes.{Strike, strike_view}

-- a packet that goes on without its front
abbrev pub stripped_of : Held → Held
stripped_of held = record held { wire = stripped held.wire }

-- an advance leaves the world as it is, or a packet enters the next channel, is dropped on the way, or is heard
pub data AdvanceOf (w : WorldState) (c : ℕ) (v : WorldState) : Type 0 where
  stays : v ≡ w → AdvanceOf w c v
  enters : (held : Held) (next : ℕ) → packet_in w.links c ≡ Some held → course w.links.cables c held.wire ≡ Enters next → packet_in (emptied w.links c) next ≡ None → v.links ≡ with_packet (emptied w.links c) next (Some (stripped_of held)) → v.nodes ≡ w.nodes → AdvanceOf w c v
  drops : (held : Held) (why : Why) → packet_in w.links c ≡ Some held → course w.links.cables c held.wire ≡ Drops why → v.links ≡ emptied w.links c → v.nodes ≡ w.nodes → AdvanceOf w c v
  hears : (held : Held) (h : ℕ) → packet_in w.links c ≡ Some held → course w.links.cables c held.wire ≡ Arrives h → v.links ≡ emptied w.links c → v.nodes ≡ set w.nodes h (hear h (host_count w) (node_at w h) held.wire).1 → AdvanceOf w c v

advance-of : {w : WorldState} {c : ℕ} {r : Effect × WorldState} → Change w (Advance c) r → AdvanceOf w c r.1
advance-of Change.idle = AdvanceOf.stays refl
advance-of (Change.blocked packet next d e) = AdvanceOf.stays refl
advance-of (Change.links (LinksChange.moves packet next e g free d)) = AdvanceOf.enters packet next e g free d refl
advance-of (Change.drops packet why e g d) = AdvanceOf.drops packet why e g d refl
advance-of (Change.arrives packet h e g d k) = AdvanceOf.hears packet h e g d refl
advance-of (Change.host k) = elim k [ ]
advance-of (Change.calls k) = elim k [ ]

pub advance-is : (w : WorldState) (c : ℕ) → AdvanceOf w c (step w (Advance c)).1
advance-is w c = advance-of (view w (Advance c))

-- an injection is idle, or a packet enters an empty channel and a planned fault may strike
pub data InjectOf (w : WorldState) (h : ℕ) (r : Effect × WorldState) : Type 0 where
  idle : r.0 ≡ Idle → r.1 ≡ w → InjectOf w h r
  sends : (c : ℕ) (out : Outgoing) → leaving w.links.cables (host_port h) ≡ Some c → to_send h (node_at w h) ≡ Some out → packet_in w.links c ≡ None → keeps_out w c out ≡ false → r.0 ≡ Injected (w.injected + 1) → r.1 ≡ planned_strikes (sent_out w h c out) c → InjectOf w h r

inject-of : {w : WorldState} {h : ℕ} {r : Effect × WorldState} → Change w (Inject h) r → InjectOf w h r
inject-of Change.idle = InjectOf.idle refl refl
inject-of (Change.links k) = elim k [ ]
inject-of (Change.host k) = elim k [ ]
inject-of (Change.injects c out d e f g o) = InjectOf.sends c out d e f o refl refl
inject-of (Change.calls k) = elim k [ ]

pub inject-is : (w : WorldState) (h : ℕ) → InjectOf w h (step w (Inject h))
inject-is w h = inject-of (view w (Inject h))

-- where no planned fault struck, the packet stands in its channel
strike-links : {u v : WorldState} {c : ℕ} → Strike u c v → v.struck ≤ u.struck → v.links ≡ u.links
strike-links (Strike.spares e) few = refl
strike-links (Strike.misses f e k) few = refl
strike-links (Strike.strikes f e k) few = absurd (omega (arith, few))

put-empty : (s : LinkState) (c : ℕ) (wire : List ℕ) → packet_in s c ≡ None → (put s c wire).1 ≡ with_packet s c (Some (record { wire = wire; marked = false; born = s.epoch }))
put-empty s c wire e =
    let p : Option Held = Some (record { wire = wire; marked = false; born = s.epoch }) in
    by (is_some (packet_in s c)) (ap is_some e) p
  where
    by : (t : Bool) → t ≡ false → (p : Option Held) → (if t then (let r : Bool × LinkState = (false, s) in r) else (true, with_packet s c p)).1 ≡ with_packet s c p
    by true d p = cc
    by false d p = refl

pub unstruck-links : (w : WorldState) (h c : ℕ) (out : Outgoing) → packet_in w.links c ≡ None → (planned_strikes (sent_out w h c out) c).struck ≤ w.struck
    → (planned_strikes (sent_out w h c out) c).links ≡ with_packet w.links c (Some (record { wire = packet_for h (w.injected + 1) out; marked = false; born = w.links.epoch }))
unfolding sent_out
unstruck-links w h c out none e = strike-links (strike_view (sent_out w h c out) c) e ∙ put-empty w.links c (packet_for h (w.injected + 1) out) none
