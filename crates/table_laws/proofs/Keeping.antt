-- What holds of each packet, and stays with moves and flips, holds after every act, if it holds of what is injected once that counts as sent.
use Rattle.std.proofs.Common.{◌≡◌, ◌<◌, ◌+◌, ℕ, Bool, true, false, if◌then◌else◌, List, set, Some, None, IfSome, Ok, refl, sym, ap, ◌∙◌, subst}
use Rattle.net_defs.specs.Route.{host_port}
use Rattle.world_defs.specs.Crossed.{leaving}
use Rattle.packet_defs.specs.declared.kind.Kind.{Kind}
use Rattle.packet_defs.specs.Packet.{difference}
use Rattle.packet_defs.specs.Host.{decode}
use Rattle.packet_defs.proofs.Packets.{packet_of-difference}
use Rattle.world_defs.specs.Links.{Held, LinkState, packet_in}
use Rattle.world_defs.specs.Fault.{accept}
use Rattle.world_defs.specs.LinkStep.{Step, Put as PutLinks, Advance as AdvanceLinks}
use Rattle.world_defs.proofs.Shapes.{stepped-cables}
use Rattle.world_defs.specs.declared.event.Event.{Event}
use Rattle.world_defs.specs.declared.effect.Effect.{Effect}
use Rattle.world_defs.specs.declared.fault.Fault.{Fault}
use Rattle.world_defs.specs.declared.fault.Fault.TheVariants.{Lose as LoseFault, Repeat as RepeatFault, Hold as HoldFault, Flip as FlipFault, Pull as PullFault}
use Rattle.world_defs.specs.EightBits.{IsByteFault, IsByteEvent, HasByteFaults}
use Rattle.world_defs.specs.Node.{Outgoing, to_send, packet_for, after_sending}
use Rattle.world_defs.specs.World.{WorldState, last_count, node_at, keeps_out, keeps_epoch}
use Rattle.world_defs.specs.Step.{planned_strikes, sent_out}
use Rattle.world_defs.specs.Acts.{Act, Happens, Plans, Adopts, acted, IsByteAct}
use Rattle.world_defs.proofs.Views.{LinksChange, Change, view}
use Rattle.world_defs.proofs.Strikes.{fault_step, Strike, strike_view, injection-nodes}
use Rattle.world_defs.proofs.Kept.{planned_one}
use Rattle.table_laws.specs.Packets.{Built, IsHonest, IsGoodStep}
use Rattle.table_laws.proofs.Medium.{Holds, Carries, stepped-holds, honest-read}

-- what arrives is read as what was built
pub holds-read : (G : Kind → List ℕ → Type 0) (s : LinkState) (c : ℕ) (held : Held) → Holds (λ c. IsHonest G) s → packet_in s c ≡ Some held → (k : Kind) (body : List ℕ) → decode held.wire ≡ Ok (k, body) → G k body
holds-read G s c held is e k body d = honest-read G held k body (subst (λ o. IfSome o (IsHonest G)) e (is.in_channels c)) d

-- a packet as it was built
pub new-honest : (G : Kind → List ℕ → Type 0) (wire : List ℕ) {epoch : ℕ} → Built G wire → IsHonest G (record { wire = wire; marked = false; born = epoch })
new-honest G wire b = record { mark = ap difference b.written ∙ packet_of-difference b.route b.kind b.payload; built = λ e. b }

-- what holds of what is read may be less
pub honest-more : (G H : Kind → List ℕ → Type 0) (held : Held) → ((k : Kind) (body : List ℕ) → G k body → H k body) → IsHonest G held → IsHonest H held
honest-more G H held more is = record {
  mark = is.mark;
  built = λ m. let b = is.built m in record { route = b.route; kind = b.kind; payload = b.payload; written = b.written; good = more b.kind b.payload b.good };
}

-- the steps of the links
links-good : (F : ℕ → Held → Type 0) (epoch : ℕ) {w : WorldState} {e : Event} {x : Effect} {s : Step} → LinksChange w e x s → IsByteEvent e → IsGoodStep F epoch s
links-good F epoch (LinksChange.moves packet next d e f g) low = tt
links-good F epoch (LinksChange.loses k) low = tt
links-good F epoch (LinksChange.resets k) low = tt
links-good F epoch (LinksChange.repeats k) low = tt
links-good F epoch (LinksChange.holds k) low = tt
links-good F epoch (LinksChange.flips k) low = low
links-good F epoch (LinksChange.replays k) low = tt
links-good F epoch (LinksChange.pulls k) low = tt
links-good F epoch (LinksChange.plugs k) low = tt

fault-good : (F : ℕ → Held → Type 0) (epoch c : ℕ) (f : Fault) → IsByteFault f → IsGoodStep F epoch (fault_step c f)
fault-good F epoch c LoseFault low = tt
fault-good F epoch c RepeatFault low = tt
fault-good F epoch c HoldFault low = tt
fault-good F epoch c (FlipFault bit pattern) low = low
fault-good F epoch c (PullFault at) low = tt

-- a host's packet enters its empty channel, and counts as sent
pub record Enters (w v : WorldState) (h c : ℕ) (out : Outgoing) : Type 0 where
  pub cable : leaving w.links.cables (host_port h) ≡ Some c
  pub sends : to_send h (node_at w h) ≡ Some out
  pub room : packet_in w.links c ≡ None
  pub left : w.injected < last_count
  pub allowed : keeps_out w c out ≡ false
  pub nodes : v.nodes ≡ set w.nodes h (after_sending (node_at w h) out)

-- what holds of a new packet, once it counts as sent
abbrev pub HoldsOfNew : (ℕ → Held → Type 0) → WorldState → WorldState → Type 0
HoldsOfNew F w v = (h c : ℕ) (out : Outgoing) → Enters w v h c out → F c (record { wire = packet_for h (w.injected + 1) out; marked = false; born = w.links.epoch })

strike-holds : (F : ℕ → Held → Type 0) {w v : WorldState} {c : ℕ} → Carries w.links.cables F → Holds F w.links → HasByteFaults w → Strike w c v → Holds F v.links
strike-holds F carries is low (Strike.spares e) = is
strike-holds F carries is low (Strike.misses f e k) = is
strike-holds F {w = w} {c = c} carries is low (Strike.strikes f e k) =
    stepped-holds F w.links (fault_step c f) carries (fault-good F w.links.epoch c f (subst (λ o. IfSome o IsByteFault) e (planned_one w.injected w.plan low))) is

-- an adoption may accept the cables
pub accepted-holds : (F : ℕ → Held → Type 0) (s : LinkState) (keeps : Bool) → Holds F s → Holds F (if keeps then s else accept s)
accepted-holds F s true is = is
accepted-holds F s false is = record { in_channels = is.in_channels; in_limbo = is.in_limbo }

module _ (F : ℕ → Held → Type 0) (w : WorldState) (carries : Carries w.links.cables F) (links : Holds F w.links) (plan : HasByteFaults w) where
  injection-holds : (h c : ℕ) (out : Outgoing) → F c (record { wire = packet_for h (w.injected + 1) out; marked = false; born = w.links.epoch }) → Holds F (planned_strikes (sent_out w h c out) c).links
  unfolding sent_out
  injection-holds h c out new =
      let x : Step = PutLinks c (packet_for h (w.injected + 1) out) in
      strike-holds F (subst (λ h. Carries h F) (sym (stepped-cables w.links x refl)) carries) (stepped-holds F w.links x carries new links) plan (strike_view (sent_out w h c out) c)

  change-holds : {e : Event} {r : Effect × WorldState} → Change w e r → IsByteEvent e → HoldsOfNew F w r.1 → Holds F r.1.links
  change-holds Change.idle low new = links
  change-holds (Change.blocked packet next d e) low new = links
  change-holds (Change.links {s = s} k) low new = stepped-holds F w.links s carries (links-good F w.links.epoch k low) links
  change-holds (Change.drops {c = c} packet why d e f) low new = stepped-holds F w.links (AdvanceLinks c) carries tt links
  change-holds (Change.arrives {c = c} packet h d e f g) low new = stepped-holds F w.links (AdvanceLinks c) carries tt links
  change-holds (Change.host k) low new = links
  change-holds (Change.injects {h = h} c out d e f g o) low new = injection-holds h c out (new h c out (record { cable = d; sends = e; room = f; left = g; allowed = o; nodes = injection-nodes w h c out }))
  change-holds (Change.calls k) low new = links

  -- every act
  pub acted-holds : (a : Act) → IsByteAct a → HoldsOfNew F w (acted w a) → Holds F (acted w a).links
  acted-holds (Happens e) low new = change-holds (view w e) low new
  acted-holds (Plans ahead fault) low new = links
  acted-holds (Adopts mapper routes) low new = accepted-holds F w.links (keeps_epoch w routes) links
