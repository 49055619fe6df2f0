-- After a give-up of every host nothing is staged, and what a host sends then goes to a peer by its active table's route.
use Rattle.std.proofs.Common.{◌≡◌, ◌<◌, ◌+◌, ◌≤◌, ℕ, zero, suc, Bool, true, false, ◌||◌, ℤ, List, [], ◌∷◌, map, length, get_or, set, nat_lt, is_some, Option, Some, None, option_map, refl, sym, ap, ◌∙◌, subst, arith, if◌then◌else◌}
use Rattle.std.specs.List.{AllByRecursion, range_with_len}
use Rattle.std.proofs.lemmas.Bool.Decides.{nat_tests}
use Rattle.std.proofs.lemmas.List.{get_or-set_same, get_or_past}
use Rattle.std.proofs.Math.ListN.{length-set}
use Rattle.net_defs.proofs.Growing.{no_some}
use Rattle.gm_defs.specs.declared.frame.FrameHead.{FrameHead}
use Rattle.gm_defs.specs.Fragment.{frame_of}
use Rattle.gm_defs.specs.Connection.{due}
use Rattle.gm_defs.proofs.Choices.{then-some, if-some, map-some}
use Rattle.world_defs.specs.declared.event.Event.TheVariants.{GiveUp}
use Rattle.world_defs.specs.declared.effect.Effect.{Effect}
use Rattle.world_defs.specs.declared.effect.Effect.TheVariants.{GaveUp, Idle}
use Rattle.world_defs.specs.Node.{NodeState, Outgoing, Probe, TablePart, Reply, PartAnswer, FrameAnswer, Fragment, sends_on, lane_at, lane_route, outgoing_staged, owed_on, due_on, due_frame, either, first_some, lanes_of, to_send, after_sending, new_node, has_staged, given_up}
use Rattle.world_defs.specs.World.{WorldState, node_at, with_node, addresses}
use Rattle.world_defs.specs.Step.{gave_up, step, after_all}
use Rattle.world_laws.specs.Idle.{HasNothingStaged}
use Rattle.world_laws.proofs.Lists.{at-set}
use Rattle.world_laws.proofs.Draining.{range-all}

-- what goes to a peer, by the route of the active table: an acknowledgement that is owed, with the number of fragments taken, or the due fragment
pub record IsOwed (n : NodeState) (lane next : ℕ) (by : List ℤ) : Type 0 where
  pub low : lane < length n.lanes
  pub owes : (lane_at n lane).owes ≡ true
  pub count : next ≡ (lane_at n lane).taken
  pub route : lane_route n lane ≡ Some by

pub record IsDueOn (host : ℕ) (n : NodeState) (lane : ℕ) (head : FrameHead) (part : List ℕ) (by : List ℤ) : Type 0 where
  pub number : ℕ
  pub low : lane < length n.lanes
  pub due : due (lane_at n lane).sender ≡ Some number
  pub frame : frame_of (sends_on host lane) (lane_at n lane).sent number ≡ Some (head, part)
  pub route : lane_route n lane ≡ Some by

abbrev pub IsToPeer : ℕ → NodeState → Outgoing → Type 0
IsToPeer host n (FrameAnswer lane next by) = IsOwed n lane next by
IsToPeer host n (Fragment lane head part by) = IsDueOn host n lane head part by
IsToPeer host n (Probe walk looped) = ⊥
IsToPeer host n (TablePart part by) = ⊥
IsToPeer host n (Reply r) = ⊥
IsToPeer host n (PartAnswer a) = ⊥

either-holds : {A : Type 0} (P : A → Type 0) (a b : Option A) → ((x : A) → a ≡ Some x → P x) → ((x : A) → b ≡ Some x → P x) → (x : A) → either a b ≡ Some x → P x
either-holds P (Some y) b f g x e = f x e
either-holds P None b f g x e = g x e

first_some-holds : {A : Type 0} (P : A → Type 0) (f : ℕ → Option A) (a k : ℕ) → ((j : ℕ) (x : A) → j < a + k → f j ≡ Some x → P x) → (x : A) → first_some f (range_with_len a k) ≡ Some x → P x
first_some-holds P f a zero all x e = cc
first_some-holds P f a (suc k) all x e =
    either-holds P (f a) (first_some f (range_with_len (a + 1) k)) (λ y. all a y (omega arith)) (first_some-holds P f (a + 1) k (λ j y l. all j y (omega (arith, l)))) x e

module _ (host : ℕ) (n : NodeState) where
  owed-out : (lane : ℕ) (x : Outgoing) → lane < length n.lanes → owed_on n lane ≡ Some x → IsToPeer host n x
  owed-out lane x low e =
      let t = if-some (lane_at n lane).owes (option_map (λ by. FrameAnswer lane (lane_at n lane).taken by) (lane_route n lane)) x e in
      let m = map-some (λ by. FrameAnswer lane (lane_at n lane).taken by) (lane_route n lane) x t.1 in
      subst (IsToPeer host n) m.1.1 (record { low = low; owes = t.0; count = refl; route = m.1.0 })

  due-out : (lane : ℕ) (x : Outgoing) → lane < length n.lanes → due_on host n lane ≡ Some x → IsToPeer host n x
  due-out lane x low e =
      let f = then-some (λ f. option_map (λ by. Fragment lane f.0 f.1 by) (lane_route n lane)) (due_frame host n lane) x e in
      let d = then-some (λ seq. frame_of (sends_on host lane) (lane_at n lane).sent seq) (due (lane_at n lane).sender) f.0 f.1.0 in
      let m = map-some (λ by. Fragment lane f.0.0 f.0.1 by) (lane_route n lane) x f.1.1 in
      subst (IsToPeer host n) m.1.1 (record { number = d.0; low = low; due = d.1.0; frame = d.1.1; route = m.1.0 })

  lanes-out : (x : Outgoing) → either (first_some (owed_on n) (lanes_of n)) (first_some (due_on host n) (lanes_of n)) ≡ Some x → IsToPeer host n x
  lanes-out x e =
      either-holds (IsToPeer host n) (first_some (owed_on n) (lanes_of n)) _
      (first_some-holds (IsToPeer host n) (owed_on n) 0 (length n.lanes) (λ lane y l. owed-out lane y (omega (arith, l))))
      (first_some-holds (IsToPeer host n) (due_on host n) 0 (length n.lanes) (λ lane y l. due-out lane y (omega (arith, l))))
      x e

  -- with nothing staged
  pub to_send-peer : HasNothingStaged n → (x : Outgoing) → to_send host n ≡ Some x → IsToPeer host n x
  unfolding to_send
  to_send-peer is x e =
      let rest : Option Outgoing = either (first_some (owed_on n) (lanes_of n)) (first_some (due_on host n) (lanes_of n)) in
      let same : to_send host n ≡ rest =
      ap (λ o. either (option_map outgoing_staged o) (either (option_map Reply n.reply) (either (option_map PartAnswer n.part_ack) rest))) is.no_probe_or_part
      ∙ ap (λ o. either (option_map Reply o) (either (option_map PartAnswer n.part_ack) rest)) is.no_reply
      ∙ ap (λ o. either (option_map PartAnswer o) rest) is.no_part_ack in
      lanes-out x (sym same ∙ e)

-- no host has anything staged
pub record IsBare (w : WorldState) : Type 0 where
  pub each : (h : ℕ) → HasNothingStaged (node_at w h)

given-up : (n : NodeState) → HasNothingStaged (given_up n)
given-up n = record { no_probe_or_part = refl; no_reply = refl; no_part_ack = refl }

-- a host that gave up
gave-up-here : (w : WorldState) (h : ℕ) (a b c : Bool) → is_some (node_at w h).staged ≡ a → is_some (node_at w h).reply ≡ b → is_some (node_at w h).part_ack ≡ c → h < length w.nodes
    → HasNothingStaged (node_at (if a || b || c then (let r : Effect × WorldState = (GaveUp, with_node w h (given_up (node_at w h))) in r) else (Idle, w)).1 h)
gave-up-here w h true b c d e f low = subst HasNothingStaged (sym (get_or-set_same w.nodes h (given_up (node_at w h)) (new_node 0) low)) (given-up (node_at w h))
gave-up-here w h false true c d e f low = subst HasNothingStaged (sym (get_or-set_same w.nodes h (given_up (node_at w h)) (new_node 0) low)) (given-up (node_at w h))
gave-up-here w h false false true d e f low = subst HasNothingStaged (sym (get_or-set_same w.nodes h (given_up (node_at w h)) (new_node 0) low)) (given-up (node_at w h))
gave-up-here w h false false false d e f low = record { no_probe_or_part = no_some (node_at w h).staged d; no_reply = no_some (node_at w h).reply e; no_part_ack = no_some (node_at w h).part_ack f }

record GaveUpSo (w v : WorldState) (h : ℕ) : Type 0 where
  count : length v.nodes ≡ length w.nodes
  here : h < length w.nodes → HasNothingStaged (node_at v h)
  stays : (j : ℕ) → HasNothingStaged (node_at w j) → HasNothingStaged (node_at v j)

gave-up-so : (w : WorldState) (h : ℕ) → GaveUpSo w (step w (GiveUp h)).1 h
unfolding gave_up
gave-up-so w h = record {
  count = by (has_staged (node_at w h));
  here = gave-up-here w h (is_some (node_at w h).staged) (is_some (node_at w h).reply) (is_some (node_at w h).part_ack) refl refl refl;
  stays = λ j. stay j (has_staged (node_at w h));
}
  where
    after : Bool → WorldState
    after t = (if t then (let r : Effect × WorldState = (GaveUp, with_node w h (given_up (node_at w h))) in r) else (Idle, w)).1

    by : (t : Bool) → length (after t).nodes ≡ length w.nodes
    by true = length-set w.nodes h (given_up (node_at w h))
    by false = refl

    stay : (j : ℕ) (t : Bool) → HasNothingStaged (node_at w j) → HasNothingStaged (node_at (after t) j)
    stay j true is = at-set (λ a b. HasNothingStaged a → HasNothingStaged b) (λ a i. i) w.nodes h j (given_up (node_at w h)) (new_node 0) (λ i. given-up (node_at w h)) is
    stay j false is = is

-- and all of them
all-count : (w : WorldState) (hs : List ℕ) → length (after_all w (map GiveUp hs)).nodes ≡ length w.nodes
all-count w [] = refl
all-count w (h ∷ hs) = all-count (step w (GiveUp h)).1 hs ∙ (gave-up-so w h).count

all-stays : (w : WorldState) (hs : List ℕ) (j : ℕ) → HasNothingStaged (node_at w j) → HasNothingStaged (node_at (after_all w (map GiveUp hs)) j)
all-stays w [] j is = is
all-stays w (h ∷ hs) j is = all-stays (step w (GiveUp h)).1 hs j ((gave-up-so w h).stays j is)

all-given : (w v : WorldState) (hs : List ℕ) → v ≡ after_all w (map GiveUp hs) → AllByRecursion (λ h. h < length w.nodes → HasNothingStaged (node_at v h)) hs
all-given w v [] e = tt
all-given w v (h ∷ hs) e =
    let next : WorldState = (step w (GiveUp h)).1 in
    let s = gave-up-so w h in (
      (λ low. subst (λ x. HasNothingStaged (node_at x h)) (sym e) (all-stays next hs h (s.here low))),
      subst (λ k. AllByRecursion (λ j. j < k → HasNothingStaged (node_at v j)) hs) s.count (all-given next v hs e),
    )

pub given_up-bare : (w : WorldState) → IsBare (after_all w (map GiveUp (addresses w)))
given_up-bare w = record { each = λ h. by h (nat_lt h (length w.nodes)) refl }
  where
    v : WorldState
    v = after_all w (map GiveUp (addresses w))

    by : (h : ℕ) (t : Bool) → nat_lt h (length w.nodes) ≡ t → HasNothingStaged (node_at v h)
    by h true t = let low : h < length w.nodes = grind (arith, nat_tests) in range-all (λ j. j < length w.nodes → HasNothingStaged (node_at v j)) (length w.nodes) (all-given w v (addresses w) refl) h low low
    by h false t =
        let past : length w.nodes ≤ h = grind (arith, nat_tests) in
        let count = all-count w (addresses w) in
        let none : node_at v h ≡ new_node 0 = get_or_past v.nodes h (new_node 0) (omega (arith, past, count)) in
        subst HasNothingStaged (sym none) (record { no_probe_or_part = refl; no_reply = refl; no_part_ack = refl })

-- give-ups leave the links alone
gave_up-links : (w : WorldState) (h : ℕ) → (step w (GiveUp h)).1.links ≡ w.links
unfolding gave_up
gave_up-links w h = by (has_staged (node_at w h))
  where
    by : (t : Bool) → (if t then (let r : Effect × WorldState = (GaveUp, with_node w h (given_up (node_at w h))) in r) else (Idle, w)).1.links ≡ w.links
    by true = refl
    by false = refl

pub given_up-links : (w : WorldState) (hs : List ℕ) → (after_all w (map GiveUp hs)).links ≡ w.links
given_up-links w [] = refl
given_up-links w (h ∷ hs) = given_up-links (step w (GiveUp h)).1 hs ∙ gave_up-links w h

-- sending stages nothing
sent-bare : (n : NodeState) (out : Outgoing) → HasNothingStaged n → HasNothingStaged (after_sending n out)
unfolding after_sending
sent-bare n (Probe walk looped) is = record { no_probe_or_part = refl; no_reply = is.no_reply; no_part_ack = is.no_part_ack }
sent-bare n (TablePart part by) is = record { no_probe_or_part = refl; no_reply = is.no_reply; no_part_ack = is.no_part_ack }
sent-bare n (Reply r) is = record { no_probe_or_part = is.no_probe_or_part; no_reply = refl; no_part_ack = is.no_part_ack }
sent-bare n (PartAnswer a) is = record { no_probe_or_part = is.no_probe_or_part; no_reply = is.no_reply; no_part_ack = refl }
sent-bare n (FrameAnswer lane next by) is = record { no_probe_or_part = is.no_probe_or_part; no_reply = is.no_reply; no_part_ack = is.no_part_ack }
sent-bare n (Fragment lane head part by) is = record { no_probe_or_part = is.no_probe_or_part; no_reply = is.no_reply; no_part_ack = is.no_part_ack }

pub sending-bare : (w v : WorldState) (h : ℕ) (out : Outgoing) → v.nodes ≡ set w.nodes h (after_sending (node_at w h) out) → IsBare w → IsBare v
sending-bare w v h out e is = record {
  each = λ j. subst (λ l. HasNothingStaged (get_or l j (new_node 0))) (sym e)
      (at-set (λ a b. HasNothingStaged a → HasNothingStaged b) (λ a i. i) w.nodes h j (after_sending (node_at w h) out) (new_node 0) (sent-bare (node_at w h) out) (is.each j));
}
