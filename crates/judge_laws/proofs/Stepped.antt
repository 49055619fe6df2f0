-- The words of a single event name ends and hosts of the fabric.
use Rattle.std.proofs.Common.{◌≡◌, ◌<◌, ◌≤◌, ◌/◌, ◌%◌, ◌&&◌, ℕ, zero, suc, Bool, true, false, not, cond, List, [], ◌∷◌, map, length, nat_eq, nat_lt, nat_le, Option, Some, None, option_map, is_some, refl, sym, ap, ◌∙◌, subst, true≢false, arith, if◌then◌else◌}
use Rattle.std.specs.Prelude.{slice_get, IfSome}
use Rattle.std.specs.Option.{option_map_or}
use Rattle.std.specs.Map.{lookup}
use Rattle.std.specs.List.{AllByRecursion, filter}
use Rattle.std.proofs.lemmas.Bool.Decides.{nat_tests}
use Rattle.net_defs.specs.declared.vertex.Vertex.{Vertex}
use Rattle.net_defs.specs.declared.vertex.Vertex.TheVariants.{Host, Switch}
use Rattle.net_defs.specs.declared.vertex.End.{End}
use Rattle.net_defs.specs.Network.{Network, has_port, ports_of, ends_of}
use Rattle.world_defs.specs.declared.wire.Wire.{Wire}
use Rattle.world_defs.specs.History.{CableHistory, IsHistory, IsDated, is_in_place, stood_at, is_pulled_after, fabric_at}
use Rattle.world_defs.specs.Crossed.{leaving, is_new, life_tail, is_standing, life_channels}
use Rattle.fabric_file.proofs.Names.{all-nth, vertex-there}
use Rattle.world_defs.specs.declared.moved.Course.TheVariants.{Arrives, Enters, Drops}
use Rattle.world_defs.specs.declared.replayed.Replayed.{Replayed}
use Rattle.world_defs.specs.declared.replayed.Replayed.TheVariants.{Back, Busy}
use Rattle.world_defs.specs.declared.turned.Turned.{Turned}
use Rattle.world_defs.specs.declared.turned.Turned.TheVariants.{Out, OutOfRange as TurnedTooFar, NotRoute as NoTurn}
use Rattle.world_defs.specs.declared.moved.Why.TheVariants.{NewCable}
use Rattle.world_defs.specs.Kinds.{is_mapping}
use Rattle.world_defs.specs.Advance.{course, course_at, course_into, course_out, course_by_channel}
use Rattle.world_defs.specs.Fault.{replay, replay_of, released, caught_as}
use Rattle.world_defs.specs.Links.{LinkState, Caught, packet_in}
use Rattle.world_defs.specs.Shape.{IsLinks}
use Rattle.world_defs.specs.LinkStep.{Step, Advance as AdvanceLinks, Replay as ReplayLinks, stepped}
use Rattle.world_defs.proofs.Shapes.{stepped-cables}
use Rattle.lawful_laws.proofs.Ahead.{next-stands}
use Rattle.fab_script.specs.Ranges.{IsHost, IsEnd}
use Rattle.world_defs.specs.declared.event.Event.{Event}
use Rattle.world_defs.specs.declared.effect.Effect.{Effect}
use Rattle.world_defs.specs.Node.{NodeState}
use Rattle.world_defs.specs.World.{WorldState, host_count, node_at, with_links, with_node}
use Rattle.world_defs.specs.declared.arrival.Arrival.{Arrival}
use Rattle.world_defs.specs.Hearing.{hear}
use Rattle.world_defs.specs.Step.{step}
use Rattle.world_defs.proofs.Views.{Change, LinksChange, HostChange, ArrivalChange, view}
use Rattle.run_defs.specs.Outcome.{tail_of, words_of}
use Rattle.judge_laws.proofs.Doing.{end-same}
use Rattle.judge_laws.proofs.Fits.{AreWordsIn}

-- what holds of the ends of all cables that pass a test holds of one that does
of-passing : (P : End → Type 0) (test : Wire → Bool) (ws : List Wire) (i : ℕ) (w : Wire) → AllByRecursion P (ends_of (map (λ x. x.cable) (filter test ws))) → slice_get ws i ≡ Some w → test w ≡ true → P w.cable.a × P w.cable.b
of-passing P test [] i w all e passes = cc
of-passing P test (x ∷ ws) zero w all e passes =
    let one : x ≡ w = cc in
    let own : test x ≡ true = ap test one ∙ passes in
    let two = subst (λ t. AllByRecursion P (ends_of (map (λ (y : Wire). y.cable) (cond t (x ∷ filter test ws) (filter test ws))))) own all in
    subst (λ (y : Wire). P y.cable.a × P y.cable.b) one (two.0, two.1.0)
of-passing P test (x ∷ ws) (suc i) w all e passes = of-passing P test ws i w (skip (test x) all) e passes
  where
    skip : (t : Bool) → AllByRecursion P (ends_of (map (λ (y : Wire). y.cable) (cond t (x ∷ filter test ws) (filter test ws)))) → AllByRecursion P (ends_of (map (λ (y : Wire). y.cable) (filter test ws)))
    skip true all = all.1.1
    skip false all = all

-- each cable was in place after the change that plugged it
stood-once : (changes : ℕ) (w : Wire) → IsDated changes w → stood_at w.plugged w ≡ true
stood-once changes w d = by w.pulled d.pulled
  where
    itself : nat_le w.plugged w.plugged ≡ true
    itself = grind (arith, nat_tests)

    by : (o : Option ℕ) → IfSome o (λ change. (w.plugged < change) × (change ≤ changes)) → (nat_le w.plugged w.plugged && is_pulled_after w.plugged o) ≡ true
    by None later = λ i. itself i && true
    by (Some change) later = let low = later.0 in let after : nat_lt w.plugged change ≡ true = grind (arith, nat_tests) in λ i. itself i && after i

-- a packet that leaves a switch arrives at no host
no-arrival : (h : CableHistory) (s : ℕ) (wire : List ℕ) (t : Turned) (a : ℕ) → course_out h s wire t ≡ Arrives a → ⊥
no-arrival h s wire (Out port) a e = by (leaving h (record { v = Switch s; p = port })) e
  where
    passes : (t : Bool) (next : ℕ) → (if t then Drops NewCable else Enters next) ≡ Arrives a → ⊥
    passes true next e = cc
    passes false next e = cc

    by : (o : Option ℕ) → course_by_channel h wire o ≡ Arrives a → ⊥
    by None e = cc
    by (Some next) e = passes (is_new h next && not (is_mapping wire)) next e
no-arrival h s wire TurnedTooFar a e = cc
no-arrival h s wire NoTurn a e = cc

module _ (n : Network) (h : CableHistory) (is : IsHistory h) (hosts : h.hosts ≡ n.hosts) (switches : h.switches ≡ n.switches) where
  -- its ends are ports of the fabric
  wire-ends : (i : ℕ) (w : Wire) → slice_get h.wires i ≡ Some w → IsEnd n w.cable.a × IsEnd n w.cable.b
  wire-ends i w e =
      let dated = all-nth (IsDated h.changes) h.wires i w is.dated e in
      let k : Network = fabric_at h w.plugged in
      let two = of-passing (λ d. has_port k d ≡ true) (stood_at w.plugged) h.wires i w (is.fabrics w.plugged).cabled_ports e (stood-once h.changes w dated) in
      (sym (end-same n k w.cable.a.v w.cable.a.p hosts switches) ∙ two.0, sym (end-same n k w.cable.b.v w.cable.b.p hosts switches) ∙ two.1)

  -- the end that a channel leaves, and the one that it enters
  tail-of-wire : (c : ℕ) (w : Wire) → slice_get h.wires (c / 2) ≡ Some w → IsEnd n (tail_of (life_tail h c))
  tail-of-wire c w e =
      let two = wire-ends (c / 2) w e in
      subst (λ o. IsEnd n (tail_of (option_map (λ (x : Wire). if nat_eq (c % 2) 0 then x.cable.a else x.cable.b) o))) (sym e) (by (nat_eq (c % 2) 0) two.0 two.1)
    where
      by : (t : Bool) → IsEnd n w.cable.a → IsEnd n w.cable.b → IsEnd n (if t then w.cable.a else w.cable.b)
      by true one other = one
      by false one other = other

  wire-standing : (c : ℕ) → is_standing h c ≡ true → (w : Wire) × (slice_get h.wires (c / 2) ≡ Some w)
  wire-standing c e = by (slice_get h.wires (c / 2)) refl e
    where
      by : (o : Option Wire) → slice_get h.wires (c / 2) ≡ o → option_map_or is_in_place o false ≡ true → (w : Wire) × (slice_get h.wires (c / 2) ≡ Some w)
      by None p e = absurd (true≢false (sym e))
      by (Some w) p e = (w, p)

  there-at : (ws : List Wire) (i : ℕ) → i < length ws → (w : Wire) × (slice_get ws i ≡ Some w)
  there-at [] i l = absurd (omega arith)
  there-at (w ∷ ws) zero l = (w, refl)
  there-at (w ∷ ws) (suc i) l = there-at ws i (omega arith)

  pub standing-named : (c : ℕ) → is_standing h c ≡ true → IsEnd n (tail_of (life_tail h c))
  standing-named c e = let w = wire-standing c e in tail-of-wire c w.0 w.1

  pub channel-named : (c : ℕ) → c < life_channels h → IsEnd n (tail_of (life_tail h c))
  channel-named c low = let w = there-at h.wires (c / 2) (omega arith) in tail-of-wire c w.0 w.1

  -- a host at which a packet arrives
  pub arrived-host : (c a : ℕ) (wire : List ℕ) → course h c wire ≡ Arrives a → IsHost n a
  arrived-host c a wire e = by (slice_get h.wires (c / 2)) refl e
    where
      at : (v : Vertex) (p : ℕ) → nat_lt p (ports_of n v) ≡ true → course_at h v p wire ≡ Arrives a → IsHost n a
      at (Host b) p there e = let one : b ≡ a = cc in subst (IsHost n) one (vertex-there n (Host b) p there)
      at (Switch s) p there e = absurd (no-arrival h s wire _ a e)

      by : (o : Option Wire) → slice_get h.wires (c / 2) ≡ o → course_into h (option_map (λ (x : Wire). if nat_eq (c % 2) 0 then x.cable.b else x.cable.a) o) wire ≡ Arrives a → IsHost n a
      by None p e = cc
      by (Some w) p e = end (nat_eq (c % 2) 0) (wire-ends (c / 2) w p) e
        where
          end : (t : Bool) → IsEnd n w.cable.a × IsEnd n w.cable.b → course_into h (Some (if t then w.cable.b else w.cable.a)) wire ≡ Arrives a → IsHost n a
          end true two e = at w.cable.b.v w.cable.b.p two.1 e
          end false two e = at w.cable.a.v w.cable.a.p two.0 e

-- the channel of a packet that was put aside
caught-low : (count serial : ℕ) (es : List (ℕ × Caught)) → AllByRecursion (λ x. x.1.channel < count) es → IfSome (lookup (nat_eq serial) es) (λ x. x.channel < count)
caught-low count serial [] all = tt
caught-low count serial (x ∷ es) all = by (nat_eq serial x.0) (caught-low count serial es all.1)
  where
    by : (t : Bool) → IfSome (lookup (nat_eq serial) es) (λ y. y.channel < count) → IfSome (if t then Some x.1 else lookup (nat_eq serial) es) (λ y. y.channel < count)
    by true rest = all.0
    by false rest = rest

-- a replay, by whether its channel is full
abbrev replay_by : LinkState → ℕ → Caught → Bool → Replayed × LinkState
replay_by s serial x full = if full then (Busy x.channel, s) else (Back x.channel, released s serial x)

back-by : (s : LinkState) (serial c count : ℕ) (o : Option Caught) → IfSome o (λ x. x.channel < count) → (replay_of s serial o).0 ≡ Back c → c < count
back-by s serial c count None low e = cc
back-by s serial c count (Some x) low e = by (is_some (packet_in s x.channel)) e
  where
    by : (t : Bool) → (replay_by s serial x t).0 ≡ Back c → c < count
    by true e = cc
    by false e = let one : x.channel ≡ c = cc in subst (λ k. k < count) one low

back-channel : (s : LinkState) (serial c : ℕ) → IsLinks s → (replay s serial).0 ≡ Back c → c < life_channels s.cables
back-channel s serial c links e =
    subst (λ k. c < k) links.slots (back-by s serial c (length s.channels) (caught_as s serial) (caught-low (length s.channels) serial s.limbo links.from_channels) e)

module _ (n : Network) (w : WorldState) (links : IsLinks w.links) (is : IsHistory w.links.cables) (hosts : w.links.cables.hosts ≡ n.hosts) (switches : w.links.cables.switches ≡ n.switches) where
  -- what is named after an event that leaves the cables is named before it
  named-after : (s : Step) (c : ℕ) → (stepped w.links s).cables ≡ w.links.cables → IsEnd n (tail_of (life_tail w.links.cables c)) → IsEnd n (tail_of (life_tail (stepped w.links s).cables c))
  named-after s c same there = subst (λ h. IsEnd n (tail_of (life_tail h c))) (sym same) there

  links-named : {e : Event} {x : Effect} {s : Step} → LinksChange w e x s → AreWordsIn n (words_of (with_links w (stepped w.links s)) x)
  links-named (LinksChange.moves {c = c} packet next d e f g) =
      named-after (AdvanceLinks c) next (stepped-cables w.links (AdvanceLinks c) refl) (standing-named n w.links.cables is hosts switches next (next-stands w.links.cables c packet.wire next e))
  links-named (LinksChange.replays {serial = serial} {c = c} e) =
      named-after (ReplayLinks serial) c (stepped-cables w.links (ReplayLinks serial) refl) (channel-named n w.links.cables is hosts switches c (back-channel w.links serial c links e))
  links-named _ = tt

  host-named : (v : WorldState) {e : Event} {x : Effect} {h : ℕ} {m : NodeState} → HostChange w e x h m → AreWordsIn n (words_of v x)
  host-named v HostChange.asks = tt
  host-named v _ = tt

  arrival-named : (v : WorldState) {h : ℕ} {a : Arrival} {x : Effect} {count : ℕ} → IsHost n h → ArrivalChange w h a x count → AreWordsIn n (words_of v x)
  arrival-named v there ArrivalChange.heard = there
  arrival-named v there ArrivalChange.dropped = tt
  arrival-named v there ArrivalChange.not_mine = tt

  change-named : {e : Event} {r : Effect × WorldState} → Change w e r → AreWordsIn n (words_of r.1 r.0)
  change-named (Change.blocked {c = c} packet next d e) = standing-named n w.links.cables is hosts switches next (next-stands w.links.cables c packet.wire next e)
  change-named (Change.links k) = links-named k
  change-named (Change.arrives {c = c} {x = x} {count = count} packet h d e f g) =
      arrival-named (record (with_node (with_links w (stepped w.links (AdvanceLinks c))) h (hear h (host_count w) (node_at w h) packet.wire).1) { dropped = count }) (arrived-host n w.links.cables is hosts switches c h packet.wire e) g
  change-named (Change.host {h = h} {m = m} k) = host-named (with_node w h m) k
  change-named _ = tt

  pub step-named : (e : Event) → AreWordsIn n (words_of (step w e).1 (step w e).0)
  step-named e = change-named (view w e)
