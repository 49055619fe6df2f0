-- An injection into idle links, and the drain after it.
use Rattle.std.proofs.Common.{◌≡◌, ◌≢◌, ◌<◌, ◌≤◌, ◌+◌, ℕ, Bool, true, false, ◌||◌, nat_eq, nat_le, List, [], set, ◌⊎◌, inl, inr, Option, Some, None, is_some, refl, sym, ap, ◌∙◌, subst, arith, if◌then◌else◌}
use Rattle.std.specs.Map.{lookup}
use Rattle.std.proofs.lemmas.Bool.Decides.{nat_tests}
use Rattle.net_defs.specs.Route.{host_port}
use Rattle.packet_defs.specs.Packet.{difference}
use Rattle.world_defs.specs.declared.moved.Moved.{Moved}
use Rattle.world_defs.specs.Crossed.{leaving, life_channels, is_standing}
use Rattle.world_defs.proofs.CablesLater.{pulled-later, later-kept}
use Rattle.world_defs.proofs.ForLife.{leaving_has_its_end}
use Rattle.world_defs.specs.Links.{Held, LinkState, packet_in, with_packet, put, is_idle}
use Rattle.world_defs.specs.declared.effect.Effect.{Effect}
use Rattle.world_defs.specs.declared.effect.Effect.TheVariants.{Idle, Injected}
use Rattle.world_defs.specs.Node.{Outgoing, to_send, packet_for, after_sending}
use Rattle.world_defs.specs.World.{WorldState, last_count, node_at, keeps_out}
use Rattle.world_defs.specs.Step.{planned_strikes, sent_out, inject_one, inject_into, injected}
use Rattle.world_defs.specs.Asking.{is_used_up}
use Rattle.world_defs.specs.Logs as log
use Rattle.world_defs.proofs.LogViews.{Sent, drained_after, sends}
use Rattle.world_laws.proofs.Resting.{idle-drain}
use Rattle.world_defs.specs.EightBits.{HasByteFaults}
use Rattle.ask_laws.proofs.Lone.{IsBare, HasLone, is-bare, has-lone, put-lone, bare-empty, bare-idle, Goes, going}
use Rattle.ask_laws.proofs.Drained.{told, Lands, lone-drain}
use Rattle.ask_laws.proofs.Struck.{StrikeKeeps, Outcome, StruckSo, planned-so}

-- the packet of what is sent
abbrev pub new_held : WorldState → ℕ → Outgoing → Held
new_held w h out = record { wire = packet_for h (w.injected + 1) out; marked = false; born = w.links.epoch }

-- The world once a packet is in its channel.
pub record IsOut (w : WorldState) (h c : ℕ) (out : Outgoing) (u : WorldState) : Type 0 where
  pub cables : u.links.cables ≡ w.links.cables
  pub lone : HasLone u.links c (new_held w h out)
  pub nodes : u.nodes ≡ set w.nodes h (after_sending (node_at w h) out)
  pub clients : u.clients ≡ w.clients
  pub adopted : u.adopted ≡ w.adopted
  pub plan : u.plan ≡ w.plan
  pub injected : u.injected ≡ w.injected + 1
  pub struck : u.struck ≡ w.struck
  pub harmed : u.harmed ≡ w.harmed

put-in : (s : LinkState) (c : ℕ) (wire : List ℕ) → IsBare s → (put s c wire).1 ≡ with_packet s c (Some (record { wire = wire; marked = false; born = s.epoch }))
put-in s c wire e =
    let p : Option Held = Some (record { wire = wire; marked = false; born = s.epoch }) in
    let none : packet_in s c ≡ None = ap (λ t. packet_in t c) (is-bare s e) ∙ bare-empty s c in
    ap (λ o. (if◌then◌else◌ {A = Bool × LinkState} (is_some o) (false, s) (true, with_packet s c p)).1) none

sent-out : (w : WorldState) (h c : ℕ) (out : Outgoing) → IsBare w.links → IsOut w h c out (sent_out w h c out)
unfolding sent_out
sent-out w h c out e =
    let wire : List ℕ = packet_for h (w.injected + 1) out in
    let l = put-in w.links c wire e in
    let held : Held = new_held w h out in
    record {
      cables = ap (λ t. t.cables) l;
      lone = subst (λ t. HasLone t c held) (sym l) (put-lone w.links c held e);
      nodes = refl;
      clients = refl;
      adopted = refl;
      plan = refl;
      injected = refl;
      struck = refl;
      harmed = refl;
    }

-- What became of the packet: it went its way as it was sent; a pull took its cable, or another; a fault took it; or a
-- fault spoilt it, and it went some way.
pub data Flight (w : WorldState) (h c : ℕ) (out : Outgoing) (s : Sent) : Type 0 where
  lands : (u v : WorldState) (m : Moved (List ℕ)) → IsOut w h c out u → StrikeKeeps u v → v.links.cables ≡ w.links.cables → v.harmed ≡ w.harmed → Goes w.links.cables c (packet_for h (w.injected + 1) out) m → Lands v m (s.effects, s.world) → Flight w h c out s
  cut_off : (u v : WorldState) → IsOut w h c out u → StrikeKeeps u v → w.links.cables.changes < v.links.cables.changes → v.harmed ≡ w.harmed → IsBare v.links → is_standing v.links.cables c ≡ false → told s.effects ≡ [] → s.world ≡ v → Flight w h c out s
  cut_on : (u v : WorldState) (m : Moved (List ℕ)) → IsOut w h c out u → StrikeKeeps u v → w.links.cables.changes < v.links.cables.changes → v.harmed ≡ w.harmed → is_standing v.links.cables c ≡ is_standing w.links.cables c → Goes v.links.cables c (packet_for h (w.injected + 1) out) m → Lands v m (s.effects, s.world) → Flight w h c out s
  lost : (u v : WorldState) → IsOut w h c out u → StrikeKeeps u v → w.harmed < v.harmed → lookup (nat_eq (w.injected + 1)) w.plan ≢ None → IsBare v.links → told s.effects ≡ [] → s.world ≡ v → Flight w h c out s
  marred : (u v : WorldState) (wire : List ℕ) (m : Moved (List ℕ)) → IsOut w h c out u → StrikeKeeps u v → w.harmed < v.harmed → lookup (nat_eq (w.injected + 1)) w.plan ≢ None → (HasByteFaults w → difference (packet_for h (w.injected + 1) out) ≡ 0 → 0 < difference wire) → Goes w.links.cables c wire m → Lands v m (s.effects, s.world) → Flight w h c out s

-- why nothing was sent
pub data Unsent (w : WorldState) (h : ℕ) (used : Bool) : Type 0 where
  no_cable : used ≡ false → leaving w.links.cables (host_port h) ≡ None → Unsent w h used
  no_packet : to_send h (node_at w h) ≡ None → Unsent w h used
  none_left : used ≡ true → last_count ≤ w.injected → Unsent w h used
  kept_out : used ≡ false → (c : ℕ) (out : Outgoing) → leaving w.links.cables (host_port h) ≡ Some c → to_send h (node_at w h) ≡ Some out → keeps_out w c out ≡ true → Unsent w h used

pub data Sending (w : WorldState) (h : ℕ) (s : Sent) : Type 0 where
  unsent : Unsent w h s.used_up → s.number ≡ None → told s.effects ≡ [] → s.world ≡ w → Sending w h s
  sent : (c : ℕ) (out : Outgoing) → leaving w.links.cables (host_port h) ≡ Some c → to_send h (node_at w h) ≡ Some out → w.injected < last_count → s.used_up ≡ false → s.number ≡ Some (w.injected + 1) → Flight w h c out s → Sending w h s

-- nothing to drain
still : (w : WorldState) (h : ℕ) (used : Bool) → IsBare w.links → Unsent w h used → Sending w h (drained_after used (Idle, w))
still w h used e why =
    let d = idle-drain w (ap is_idle (is-bare w.links e) ∙ bare-idle w.links) in
    Sending.unsent why refl (ap (λ l. told l.value) d) (ap (λ l. l.world) d)

lone-flight : (w : WorldState) (h c : ℕ) (out : Outgoing) (used : Bool) (u v : WorldState) → leaving w.links.cables (host_port h) ≡ Some c → IsOut w h c out u → StruckSo u v c (new_held w h out) → Flight w h c out (drained_after used (Injected (w.injected + 1), v))
lone-flight w h c out used u v at o k = by k.outcome
  where
    low : c < life_channels v.links.cables
    low =
        let more = (later-kept (pulled-later k.keeps.pulled)).channels in
        let first : c < life_channels u.links.cables = subst (λ x. c < life_channels x) (sym o.cables) (leaving_has_its_end w.links.cables (host_port h) c at).there in
        omega (arith, more, first)

    more : v.harmed ≡ u.harmed + 1 → w.harmed < v.harmed
    more e = let a = o.harmed in omega (arith, e, a)

    planned : lookup (nat_eq u.injected) u.plan ≢ None → lookup (nat_eq (w.injected + 1)) w.plan ≢ None
    planned some none = some (ap (λ n. lookup (nat_eq n) u.plan) o.injected ∙ ap (lookup (nat_eq (w.injected + 1))) o.plan ∙ none)

    by : Outcome u v c (new_held w h out) → Flight w h c out (drained_after used (Injected (w.injected + 1), v))
    by (Outcome.intact l s e) =
        let g = going v.links.cables c (packet_for h (w.injected + 1) out) in
        let cables = s ∙ o.cables in
        Flight.lands u v g.end o k.keeps cables (e ∙ o.harmed) (subst (λ x. Goes x c (packet_for h (w.injected + 1) out) g.end) cables g.goes) (lone-drain v g.end c (new_held w h out) low (has-lone v.links c (new_held w h out) l) g.goes)
    by (Outcome.cut (inl (b, gone)) rise e) =
        let d = idle-drain v (ap is_idle (is-bare v.links b) ∙ bare-idle v.links) in
        let more : w.links.cables.changes < v.links.cables.changes = subst (λ x. x.changes < v.links.cables.changes) o.cables rise in
        Flight.cut_off u v o k.keeps more (e ∙ o.harmed) b gone (ap (λ l. told l.value) d) (ap (λ l. l.world) d)
    by (Outcome.cut (inr (l, stays)) rise e) =
        let g = going v.links.cables c (packet_for h (w.injected + 1) out) in
        let more : w.links.cables.changes < v.links.cables.changes = subst (λ x. x.changes < v.links.cables.changes) o.cables rise in
        Flight.cut_on u v g.end o k.keeps more (e ∙ o.harmed) (stays ∙ ap (λ x. is_standing x c) o.cables) g.goes (lone-drain v g.end c (new_held w h out) low (has-lone v.links c (new_held w h out) l) g.goes)
    by (Outcome.gone b s e some) =
        let d = idle-drain v (ap is_idle (is-bare v.links b) ∙ bare-idle v.links) in
        Flight.lost u v o k.keeps (more e) (planned some) b (ap (λ l. told l.value) d) (ap (λ l. l.world) d)
    by (Outcome.marred new l s d e some) =
        let g = going v.links.cables c new.wire in
        let cables = s ∙ o.cables in
        Flight.marred u v new.wire g.end o k.keeps (more e) (planned some) (λ all none. d (subst (λ p. HasByteFaults (record u { plan = p })) (sym o.plan) all) refl none) (subst (λ x. Goes x c new.wire g.end) cables g.goes) (lone-drain v g.end c new low (has-lone v.links c new l) g.goes)

one : (w : WorldState) (h c : ℕ) (used : Bool) (o : Option Outgoing) → IsBare w.links → leaving w.links.cables (host_port h) ≡ Some c → to_send h (node_at w h) ≡ o → used ≡ nat_le last_count w.injected → Sending w h (drained_after used (inject_one w h c o))
one w h c used None e at is u = still w h used e (Unsent.no_packet is)
one w h c used (Some out) e at is u = by (is_some (packet_in w.links c)) (nat_le last_count w.injected) (keeps_out w c out) empty refl refl
  where
    empty : is_some (packet_in w.links c) ≡ false
    empty = ap (λ t. is_some (packet_in t c)) (is-bare w.links e) ∙ ap is_some (bare-empty w.links c)

    by : (a b k : Bool) → a ≡ false → nat_le last_count w.injected ≡ b → keeps_out w c out ≡ k → Sending w h (drained_after used (if a || b || k then (let r : Effect × WorldState = (Idle, w) in r) else (Injected (w.injected + 1), planned_strikes (sent_out w h c out) c)))
    by true b k p q o = cc
    by false true k p q o = still w h used e (Unsent.none_left (u ∙ q) (grind (arith, nat_tests)))
    by false false true p q o = still w h used e (Unsent.kept_out (u ∙ q) c out at is o)
    by false false false p q kept =
        let o = sent-out w h c out e in
        let low : c < life_channels (sent_out w h c out).links.cables = subst (λ x. c < life_channels x) (sym o.cables) (leaving_has_its_end w.links.cables (host_port h) c at).there in
        Sending.sent c out at is (grind (arith, nat_tests)) (u ∙ q) refl (lone-flight w h c out used (sent_out w h c out) (planned_strikes (sent_out w h c out) c) at o (planned-so (sent_out w h c out) c (new_held w h out) low o.lone))

into : (w : WorldState) (h : ℕ) (o : Option ℕ) → IsBare w.links → leaving w.links.cables (host_port h) ≡ o → Sending w h (drained_after (is_used_up w h) (inject_into w h o))
into w h None e at = still w h (is_used_up w h) e (Unsent.no_cable (rw at refl) at)
into w h (Some c) e at = one w h c (is_used_up w h) (to_send h (node_at w h)) e at refl (rw at refl)

pub sending : (w : WorldState) (h : ℕ) → IsBare w.links → Sending w h (sends w h)
unfolding log.sends injected
sending w h e = into w h (leaving w.links.cables (host_port h)) e refl
