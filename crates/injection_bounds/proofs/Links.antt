-- What each step of the links brings: a copy and a flip at most one more answer, and no other step anything.
use Rattle.std.proofs.Common.{◌≡◌, ◌≤◌, ◌+◌, ◌*◌, ◌/◌, ℕ, Bool, true, false, not, ◌&&◌, ℤ, List, [], ◌∷◌, ◌++◌, map, set, nat_eq, Option, Some, None, is_some, append_assoc, refl, sym, ap, arith}
use Rattle.packet_defs.specs.Host.{body_of}
use Rattle.packet_defs.specs.Packet.{front_turn, stripped}
use Rattle.packet_defs.specs.Burst.{flipped, may_flip}
use Rattle.world_defs.specs.declared.moved.Course.{Course}
use Rattle.world_defs.specs.declared.moved.Course.TheVariants.{Arrives, Enters, Drops}
use Rattle.world_defs.specs.declared.replayed.Replayed.TheVariants.{Back, Busy}
use Rattle.net_defs.specs.declared.vertex.End.{End}
use Rattle.world_defs.specs.History.{may_plug, with_plugged}
use Rattle.world_defs.specs.Crossed.{leaving, life_head}
use Rattle.world_defs.specs.Links.{Held, Caught, LinkState, packet_in, with_packet, emptied, put}
use Rattle.world_defs.specs.Advance.{course, entered, gone_on, advance_of}
use Rattle.world_defs.specs.Fault.{repeat_of, hold_of, is_used_up, with_caught, flip_of, caught_as, released, replay_of, pulled, pull_by, plug}
use Rattle.world_defs.specs.LinkStep.{Step, Put, Advance, Lose, Reset, Repeat, Hold, Flip, Replay, Pull, Plug, Accept, stepped}
use Rattle.world_defs.proofs.Idling.{pick}
use Rattle.world_defs.proofs.HopsLeft.{course_into-enters}
use Rattle.world_defs.specs.Kinds.{unrouted}
use Rattle.world_defs.specs.Hearing.{packet_read}
use Rattle.world_defs.specs.World.{sum_of}
use Rattle.injection_bounds.specs.Credit.{wire_credit, slot_credit, caught_credit, links_credit}
use Rattle.injection_bounds.proofs.Sums.{set-sum, push-sum, removed-sum, filtered-sum}
use Rattle.injection_bounds.proofs.Packets.{asks-few, stripped-credit}

-- what a step may bring
abbrev pub step_cost : Step → ℕ
step_cost (Put c wire) = wire_credit wire
step_cost (Advance c) = 0
step_cost (Lose c) = 0
step_cost (Reset c) = 0
step_cost (Repeat c) = 1
step_cost (Hold c) = 0
step_cost (Flip c bit pattern) = 1
step_cost (Replay serial) = 0
step_cost (Pull e) = 0
step_cost (Plug a b) = 0
step_cost Accept = 0

wire-few : (wire : List ℕ) → wire_credit wire ≤ 1
wire-few wire = asks-few (packet_read (body_of (unrouted wire)))

-- a write to a channel
pub written-credit : (s : LinkState) (c : ℕ) (p : Option Held) → links_credit (with_packet s c p) + slot_credit (packet_in s c) ≤ links_credit s + slot_credit p
written-credit s c p = let h = set-sum slot_credit s.channels c p None refl in omega (arith, h)

-- a packet leaves its channel
pub emptied-credit : (s : LinkState) (c : ℕ) (held : Held) → packet_in s c ≡ Some held → links_credit (emptied s c) + wire_credit held.wire ≤ links_credit s
emptied-credit s c held e =
    let h = written-credit s c None in
    let k : slot_credit (packet_in s c) ≡ wire_credit held.wire = ap slot_credit e in
    omega (arith, h, k)

-- a packet comes into limbo
caught-credit : (s : LinkState) (c : ℕ) (held : Held) → links_credit (with_caught s c held) ≡ links_credit s + wire_credit held.wire
caught-credit s c held = let h = push-sum caught_credit s.limbo (s.next_serial, record { channel = c; held = held }) in omega (arith, h)

module _ (s : LinkState) where
  abbrev Brings : ℕ → LinkState → Type 0
  Brings k t = links_credit t ≤ links_credit s + k

  rests : (k : ℕ) → Brings k s
  rests k = omega arith

  one-of : {X : Type 0} (k : ℕ) (b : Bool) (x y : X × LinkState) → Brings k x.1 → Brings k y.1 → Brings k (pick b x y).1
  one-of k true x y f g = f
  one-of k false x y f g = g

  put-brings : (c : ℕ) (wire : List ℕ) → Brings (wire_credit wire) (put s c wire).1
  put-brings c wire =
      let new : Held = record { wire = wire; marked = false; born = s.epoch } in
      one-of (wire_credit wire) (is_some (packet_in s c)) (false, s) (true, with_packet s c (Some new)) (rests (wire_credit wire)) (let h = written-credit s c (Some new) in omega (arith, h))

  lose-brings : (c : ℕ) → Brings 0 (emptied s c)
  lose-brings c = let h = written-credit s c None in omega (arith, h)

  repeat-brings : (c : ℕ) (o : Option Held) → Brings 1 (repeat_of s c o).1
  repeat-brings c None = rests 1
  repeat-brings c (Some held) =
      one-of 1 (is_used_up s) (None, s) (Some s.next_serial, with_caught s c held) (rests 1) (let h = caught-credit s c held in let k = wire-few held.wire in omega (arith, h, k))

  hold-brings : (c : ℕ) (o : Option Held) → packet_in s c ≡ o → Brings 0 (hold_of s c o).1
  hold-brings c None e = rests 0
  hold-brings c (Some held) e =
      one-of 0 (is_used_up s) (None, s) (Some s.next_serial, with_caught (emptied s c) c held) (rests 0)
      (let h = caught-credit (emptied s c) c held in let k = emptied-credit s c held e in omega (arith, h, k))

  flip-brings : (c bit pattern : ℕ) (o : Option Held) → Brings 1 (flip_of s c bit pattern o).1
  flip-brings c bit pattern None = rests 1
  flip-brings c bit pattern (Some held) =
      let new : Held = record held { wire = flipped held.wire bit pattern; marked = true } in
      one-of 1 (not held.marked && may_flip held.wire bit pattern) (true, with_packet s c (Some new)) (false, s)
      (let h = written-credit s c (Some new) in let k = wire-few (flipped held.wire bit pattern) in omega (arith, h, k)) (rests 1)

  replay-brings : (serial : ℕ) (o : Option Caught) → caught_as s serial ≡ o → Brings 0 (replay_of s serial o).1
  replay-brings serial None e = rests 0
  replay-brings serial (Some x) e =
      one-of 0 (is_some (packet_in s x.channel)) (Busy x.channel, s) (Back x.channel, released s serial x) (rests 0)
      (let h = set-sum slot_credit s.channels x.channel (Some x.held) None refl in
      let k = removed-sum (λ y. wire_credit y.held.wire) (nat_eq serial) s.limbo x e in
      omega (arith, h, k))

  entered-brings : (c next : ℕ) (held : Held) (turn : ℤ) (o : Option Held) → packet_in s c ≡ Some held → front_turn held.wire ≡ Some turn → Brings 0 (entered s c held next o).1
  entered-brings c next held turn None e t =
      let h = emptied-credit s c held e in
      let k = stripped-credit held.wire turn t in
      let m = written-credit (emptied s c) next (Some (record held { wire = stripped held.wire })) in
      omega (arith, h, k, m)
  entered-brings c next held turn (Some other) e t = rests 0

  gone_on-brings : (c : ℕ) (held : Held) (to : Course) → packet_in s c ≡ Some held → course s.cables c held.wire ≡ to → Brings 0 (gone_on s c held to).1
  gone_on-brings c held (Arrives h) e g = lose-brings c
  gone_on-brings c held (Enters next) e g = let t = course_into-enters s.cables (life_head s.cables c) held.wire next g in entered-brings c next held t.0 (packet_in (emptied s c) next) e t.1
  gone_on-brings c held (Drops why) e g = lose-brings c

  advance-brings : (c : ℕ) (o : Option Held) → packet_in s c ≡ o → Brings 0 (advance_of s c o).1
  advance-brings c None e = rests 0
  advance-brings c (Some held) e = gone_on-brings c held (course s.cables c held.wire) e refl

  -- a pulled cable takes its packets along, and a plugged one brings none
  pulled-brings : (k : ℕ) → Brings 0 (pulled s k)
  pulled-brings k =
      let first = set-sum slot_credit s.channels (2 * k) None None refl in
      let second = set-sum slot_credit (set s.channels (2 * k) None) (2 * k + 1) None None refl in
      let kept = filtered-sum caught_credit (λ e. not (nat_eq (e.1.channel / 2) k)) s.limbo in
      omega (arith, first, second, kept)

  pull-brings : (o : Option ℕ) → Brings 0 (pull_by s o).1
  pull-brings None = rests 0
  pull-brings (Some c) = pulled-brings (c / 2)

  plug-brings : (a b : End) → Brings 0 (plug s a b).1
  plug-brings a b =
      let one = push-sum slot_credit s.channels None in
      let two = push-sum slot_credit (s.channels ++ None ∷ []) None in
      let both : s.channels ++ None ∷ None ∷ [] ≡ (s.channels ++ None ∷ []) ++ None ∷ [] = sym (append_assoc s.channels (None ∷ []) (None ∷ [])) in
      let more : sum_of (map slot_credit (s.channels ++ None ∷ None ∷ [])) ≡ sum_of (map slot_credit ((s.channels ++ None ∷ []) ++ None ∷ [])) = ap (λ l. sum_of (map slot_credit l)) both in
      one-of 0 (may_plug s.cables a b) (true, record s { cables = with_plugged s.cables a b; channels = s.channels ++ None ∷ None ∷ [] }) (false, s) (omega (arith, one, two, more)) (rests 0)

  pub stepped-credit : (x : Step) → links_credit (stepped s x) ≤ links_credit s + step_cost x
  stepped-credit (Put c wire) = put-brings c wire
  stepped-credit (Advance c) = advance-brings c (packet_in s c) refl
  stepped-credit (Lose c) = lose-brings c
  stepped-credit (Reset c) = lose-brings c
  stepped-credit (Repeat c) = repeat-brings c (packet_in s c)
  stepped-credit (Hold c) = hold-brings c (packet_in s c) refl
  stepped-credit (Flip c bit pattern) = flip-brings c bit pattern (packet_in s c)
  stepped-credit (Replay serial) = replay-brings serial (caught_as s serial) refl
  stepped-credit (Pull e) = pull-brings (leaving s.cables e)
  stepped-credit (Plug a b) = plug-brings a b
  stepped-credit Accept = rests 0
