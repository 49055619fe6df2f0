-- What a host sends: an acknowledgement says how many fragments it has taken, and a fragment is the due one.
use Rattle.std.proofs.Common.{◌≡◌, ◌+◌, ◌<◌, ℕ, zero, suc, Bool, true, false, ℤ, List, length, Option, Some, None, option_map, refl, arith, subst, if◌then◌else◌}
use Rattle.std.specs.List.{range_with_len}
use Rattle.std.proofs.lemmas.Option.{same_Some}
use Rattle.gm_defs.specs.declared.frame.FrameHead.{FrameHead}
use Rattle.gm_defs.specs.Fragment.{frame_of}
use Rattle.gm_defs.specs.Connection.{due}
use Rattle.gm_defs.proofs.Choices.{then-some}
use Rattle.world_defs.specs.Node.{NodeState, Staged, StagedReply, StagedAck, StagedProbe, StagedPart, Outgoing, Probe, TablePart, Reply, PartAnswer, FrameAnswer, Fragment, sends_on, lane_at, lane_route, outgoing_staged, owed_on, due_on, due_frame, either, first_some, lanes_of, to_send}

-- a fragment that is due on a lane
pub record IsDue (host : ℕ) (n : NodeState) (lane : ℕ) (head : FrameHead) (part : List ℕ) : Type 0 where
  pub number : ℕ
  pub low : lane < length n.lanes
  pub due : due (lane_at n lane).sender ≡ Some number
  pub frame : frame_of (sends_on host lane) (lane_at n lane).sent number ≡ Some (head, part)

-- what a host may send
abbrev pub IsOut : ℕ → NodeState → Outgoing → Type 0
IsOut host n (Fragment lane head part by) = IsDue host n lane head part
IsOut host n (FrameAnswer lane next by) = (lane < length n.lanes) × (next ≡ (lane_at n lane).taken)
IsOut host n (Probe walk looped) = Unit {0}
IsOut host n (TablePart part by) = Unit {0}
IsOut host n (Reply r) = Unit {0}
IsOut host n (PartAnswer a) = Unit {0}

either-holds : {A : Type 0} (P : A → Type 0) (a b : Option A) → ((x : A) → a ≡ Some x → P x) → ((x : A) → b ≡ Some x → P x) → (x : A) → either a b ≡ Some x → P x
either-holds P (Some y) b f g x e = f x e
either-holds P None b f g x e = g x e

first_some-holds : {A : Type 0} (P : A → Type 0) (f : ℕ → Option A) (a k : ℕ) → ((j : ℕ) (x : A) → j < a + k → f j ≡ Some x → P x) → (x : A) → first_some f (range_with_len a k) ≡ Some x → P x
first_some-holds P f a zero all x e = cc
first_some-holds P f a (suc k) all x e =
    either-holds P (f a) (first_some f (range_with_len (a + 1) k)) (λ y. all a y (omega arith)) (first_some-holds P f (a + 1) k (λ j y l. all j y (omega (arith, l)))) x e

module _ (host : ℕ) (n : NodeState) where
  staged-out : (s : Option Staged) (x : Outgoing) → option_map outgoing_staged s ≡ Some x → IsOut host n x
  staged-out None x e = cc
  staged-out (Some (StagedProbe walk looped)) x e = subst (IsOut host n) (same_Some (Probe walk looped) x e) tt
  staged-out (Some (StagedPart part by)) x e = subst (IsOut host n) (same_Some (TablePart part by) x e) tt

  reply-out : (s : Option StagedReply) (x : Outgoing) → option_map Reply s ≡ Some x → IsOut host n x
  reply-out None x e = cc
  reply-out (Some r) x e = subst (IsOut host n) (same_Some (Reply r) x e) tt

  answer-out : (s : Option StagedAck) (x : Outgoing) → option_map PartAnswer s ≡ Some x → IsOut host n x
  answer-out None x e = cc
  answer-out (Some a) x e = subst (IsOut host n) (same_Some (PartAnswer a) x e) tt

  owed-out : (lane : ℕ) (b : Bool) (r : Option (List ℤ)) (x : Outgoing) → lane < length n.lanes → (if b then option_map (λ by. FrameAnswer lane (lane_at n lane).taken by) r else None) ≡ Some x → IsOut host n x
  owed-out lane true None x low e = cc
  owed-out lane true (Some by) x low e = subst (IsOut host n) (same_Some (FrameAnswer lane (lane_at n lane).taken by) x e) (low, refl)
  owed-out lane false r x low e = cc

  routed-out : (lane : ℕ) (f : FrameHead × List ℕ) (r : Option (List ℤ)) (x : Outgoing) → IsDue host n lane f.0 f.1 → option_map (λ by. Fragment lane f.0 f.1 by) r ≡ Some x → IsOut host n x
  routed-out lane f None x is e = cc
  routed-out lane f (Some by) x is e = subst (IsOut host n) (same_Some (Fragment lane f.0 f.1 by) x e) is

  due-out : (lane : ℕ) (x : Outgoing) → lane < length n.lanes → due_on host n lane ≡ Some x → IsOut host n x
  due-out lane x low e =
      let f = then-some (λ f. option_map (λ by. Fragment lane f.0 f.1 by) (lane_route n lane)) (due_frame host n lane) x e in
      let d = then-some (λ seq. frame_of (sends_on host lane) (lane_at n lane).sent seq) (due (lane_at n lane).sender) f.0 f.1.0 in
      routed-out lane f.0 (lane_route n lane) x (record { number = d.0; low = low; due = d.1.0; frame = d.1.1 }) f.1.1

  pub to_send-out : (x : Outgoing) → to_send host n ≡ Some x → IsOut host n x
  unfolding to_send
  to_send-out x e =
      either-holds (IsOut host n) (option_map outgoing_staged n.staged) _ (staged-out n.staged)
      (either-holds (IsOut host n) (option_map Reply n.reply) _ (reply-out n.reply)
      (either-holds (IsOut host n) (option_map PartAnswer n.part_ack) _ (answer-out n.part_ack)
      (either-holds (IsOut host n) (first_some (owed_on n) (lanes_of n)) _
      (first_some-holds (IsOut host n) (owed_on n) 0 (length n.lanes) (λ lane y l. owed-out lane (lane_at n lane).owes (lane_route n lane) y (omega (arith, l))))
      (first_some-holds (IsOut host n) (due_on host n) 0 (length n.lanes) (λ lane y l. due-out lane y (omega (arith, l)))))))
      x e
