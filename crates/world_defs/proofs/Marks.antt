-- Marks stay true: a strip keeps a difference, and a burst makes one.
use Rattle.std.proofs.Common.{◌≡◌, ◌<◌, ◌≤◌, ◌+◌, ◌*◌, ◌/◌, ℕ, zero, suc, Bool, true, false, not, ◌&&◌, nat_lt, nat_eq, ℤ, List, [], ◌∷◌, ◌++◌, length, get_or, set, replicate, Option, Some, None, is_some, IfSome, refl, sym, ◌∙◌, subst, arith, true≢false, if◌then◌else◌}
use Rattle.std.specs.List.{AllByRecursion, filter}
use Rattle.std.specs.Map.{lookup}
use Rattle.std.proofs.lemmas.Bool.Decides.{nat_tests}
use Rattle.net_defs.specs.declared.vertex.End.{End}
use Rattle.net_defs.specs.Network.{Network}
use Rattle.net_defs.proofs.Distinct.{all-push}
use Rattle.net_defs.proofs.Ends.{both}
use Rattle.packet_defs.specs.Packet.{difference, front_turn, stripped}
use Rattle.packet_defs.specs.Burst.{flipped, may_flip}
use Rattle.packet_defs.proofs.Packets.{strip_keeps}
use Rattle.packet_defs.proofs.Bursts.{flip-seen}
use Rattle.world_defs.specs.declared.moved.Course.{Course}
use Rattle.world_defs.specs.declared.moved.Course.TheVariants.{Arrives, Enters, Drops}
use Rattle.world_defs.specs.declared.replayed.Replayed.TheVariants.{Back, Busy}
use Rattle.world_defs.specs.History.{first_history, may_plug, with_plugged}
use Rattle.world_defs.specs.Crossed.{leaving, life_channels, life_head}
use Rattle.world_defs.specs.Links.{Held, Caught, LinkState, empty_links, packet_in, with_packet, emptied, put}
use Rattle.world_defs.specs.Advance.{course, entered, gone_on, advance_of}
use Rattle.world_defs.specs.Fault.{repeat_of, hold_of, is_used_up, with_caught, flip_of, caught_as, released, replay_of, pull_by, plug}
use Rattle.world_defs.specs.LinkStep.{Step, Put, Advance, Lose, Reset, Repeat, Hold, Flip, Replay, Pull, Plug, Accept, stepped, stepped_all}
use Rattle.world_defs.specs.Mark.{Tells, HasTrueMark, HasTrueMarks, IsFair}
use Rattle.world_defs.proofs.Idling.{pick}
use Rattle.world_defs.proofs.HopsLeft.{course_into-enters}
use Rattle.world_defs.proofs.Shapes.{all-removed}

-- a write, a read and a removal keep what holds of each
all-set : (P : Option Held → Type 0) (ps : List (Option Held)) (c : ℕ) (p : Option Held) → AllByRecursion P ps → P p → AllByRecursion P (set ps c p)
all-set P [] c p all here = tt
all-set P (q ∷ ps) zero p all here = (here, all.1)
all-set P (q ∷ ps) (suc c) p all here = (all.0, all-set P ps c p all.1 here)

at : (P : Option Held → Type 0) (ps : List (Option Held)) (c : ℕ) → AllByRecursion P ps → P None → P (get_or ps c None)
at P [] c all none = none
at P (q ∷ ps) zero all none = all.0
at P (q ∷ ps) (suc c) all none = at P ps c all.1 none

looked_up : (P : Caught → Type 0) (test : ℕ → Bool) (es : List (ℕ × Caught)) → AllByRecursion (λ e. P e.1) es → IfSome (lookup test es) P
looked_up P test [] all = tt
looked_up P test (e ∷ es) all = by (test e.0) (looked_up P test es all.1)
  where
    by : (t : Bool) → IfSome (lookup test es) P → IfSome (if t then Some e.1 else lookup test es) P
    by true rest = all.0
    by false rest = rest

-- the mark of a channel's packet
mark_at : (s : LinkState) (c : ℕ) (held : Held) → HasTrueMarks s → packet_in s c ≡ Some held → HasTrueMark held
mark_at s c held is e = subst (λ o. IfSome o HasTrueMark) e (at (λ o. IfSome o HasTrueMark) s.channels c is.in_channels tt)

with_packet-marks : (s : LinkState) (c : ℕ) (p : Option Held) → HasTrueMarks s → IfSome p HasTrueMark → HasTrueMarks (with_packet s c p)
with_packet-marks s c p is here = record { in_channels = all-set (λ o. IfSome o HasTrueMark) s.channels c p is.in_channels here; in_limbo = is.in_limbo }

pick-marks : {X : Type 0} (t : Bool) (x y : X × LinkState) → HasTrueMarks x.1 → HasTrueMarks y.1 → HasTrueMarks (pick t x y).1
pick-marks true x y k m = k
pick-marks false x y k m = m

-- a turn is at the front of a packet of at least two bytes
two_bytes : (wire : List ℕ) (turn : ℤ) → front_turn wire ≡ Some turn → 2 ≤ length wire
two_bytes [] turn e = cc
two_bytes (byte ∷ []) turn e = cc
two_bytes (byte ∷ next ∷ wire) turn e = omega arith

tells-stripped : (marked : Bool) (wire : List ℕ) (turn : ℤ) → front_turn wire ≡ Some turn → Tells marked wire → Tells marked (stripped wire)
tells-stripped true wire turn e is = subst (λ x. 0 < x) (sym (strip_keeps wire (two_bytes wire turn e))) is
tells-stripped false wire turn e is = strip_keeps wire (two_bytes wire turn e) ∙ is

entered-marks : (s : LinkState) (c : ℕ) (held : Held) (next : ℕ) (turn : ℤ) (o : Option Held) → HasTrueMarks s → HasTrueMark held → front_turn held.wire ≡ Some turn → HasTrueMarks (entered s c held next o).1
entered-marks s c held next turn None is here e =
    with_packet-marks (emptied s c) next (Some (record held { wire = stripped held.wire })) (with_packet-marks s c None is tt) (tells-stripped held.marked held.wire turn e here)
entered-marks s c held next turn (Some other) is here e = is

gone_on-marks : (s : LinkState) (c : ℕ) (held : Held) (to : Course) → HasTrueMarks s → HasTrueMark held → course s.cables c held.wire ≡ to → HasTrueMarks (gone_on s c held to).1
gone_on-marks s c held (Arrives h) is here e = with_packet-marks s c None is tt
gone_on-marks s c held (Enters next) is here e =
    let t = course_into-enters s.cables (life_head s.cables c) held.wire next e in
    entered-marks s c held next t.0 (packet_in (emptied s c) next) is here t.1
gone_on-marks s c held (Drops why) is here e = with_packet-marks s c None is tt

advance_of-marks : (s : LinkState) (c : ℕ) (o : Option Held) → HasTrueMarks s → packet_in s c ≡ o → HasTrueMarks (advance_of s c o).1
advance_of-marks s c None is e = is
advance_of-marks s c (Some held) is e = gone_on-marks s c held (course s.cables c held.wire) is (mark_at s c held is e) refl

with_caught-marks : (s : LinkState) (c : ℕ) (held : Held) → HasTrueMarks s → HasTrueMark held → HasTrueMarks (with_caught s c held)
with_caught-marks s c held is here = record {
  in_channels = is.in_channels;
  in_limbo = all-push (λ e. HasTrueMark e.1.held) s.limbo (s.next_serial, record { channel = c; held = held }) is.in_limbo here;
}

repeat_of-marks : (s : LinkState) (c : ℕ) (o : Option Held) → HasTrueMarks s → packet_in s c ≡ o → HasTrueMarks (repeat_of s c o).1
repeat_of-marks s c None is e = is
repeat_of-marks s c (Some held) is e = pick-marks (is_used_up s) (None, s) (Some s.next_serial, with_caught s c held) is (with_caught-marks s c held is (mark_at s c held is e))

hold_of-marks : (s : LinkState) (c : ℕ) (o : Option Held) → HasTrueMarks s → packet_in s c ≡ o → HasTrueMarks (hold_of s c o).1
hold_of-marks s c None is e = is
hold_of-marks s c (Some held) is e =
    pick-marks (is_used_up s) (None, s) (Some s.next_serial, with_caught (emptied s c) c held) is (with_caught-marks (emptied s c) c held (with_packet-marks s c None is tt) (mark_at s c held is e))

-- a flip of a packet without mark makes a difference
flipped-tells : (marked : Bool) (wire : List ℕ) (bit pattern : ℕ) → pattern < 256 → Tells marked wire → (not marked && may_flip wire bit pattern) ≡ true → 0 < difference (flipped wire bit pattern)
flipped-tells true wire bit pattern h is e = absurd (true≢false (sym e))
flipped-tells false wire bit pattern h is e =
    let two = both (nat_lt 0 pattern) (nat_lt (bit + 7) (8 * length wire)) e in
    let some = two.0 in
    let room = two.1 in
    flip-seen wire bit pattern is (grind (arith, nat_tests)) h (grind (arith, nat_tests))

flip_of-marks : (s : LinkState) (c bit pattern : ℕ) (o : Option Held) → HasTrueMarks s → packet_in s c ≡ o → pattern < 256 → HasTrueMarks (flip_of s c bit pattern o).1
flip_of-marks s c bit pattern None is e h = is
flip_of-marks s c bit pattern (Some held) is e h = by (not held.marked && may_flip held.wire bit pattern) refl
  where
    by : (t : Bool) → (not held.marked && may_flip held.wire bit pattern) ≡ t → HasTrueMarks (pick t (true, with_packet s c (Some (record held { wire = flipped held.wire bit pattern; marked = true }))) (false, s)).1
    by true m = with_packet-marks s c (Some (record held { wire = flipped held.wire bit pattern; marked = true })) is (flipped-tells held.marked held.wire bit pattern h (mark_at s c held is e) m)
    by false m = is

released-marks : (s : LinkState) (serial : ℕ) (caught : Caught) → HasTrueMarks s → HasTrueMark caught.held → HasTrueMarks (released s serial caught)
released-marks s serial caught is here = record {
  in_channels = all-set (λ o. IfSome o HasTrueMark) s.channels caught.channel (Some caught.held) is.in_channels here;
  in_limbo = all-removed (λ e. HasTrueMark e.1.held) (nat_eq serial) s.limbo is.in_limbo;
}

replay_of-marks : (s : LinkState) (serial : ℕ) (o : Option Caught) → HasTrueMarks s → IfSome o (λ caught. HasTrueMark caught.held) → HasTrueMarks (replay_of s serial o).1
replay_of-marks s serial None is here = is
replay_of-marks s serial (Some caught) is here =
    pick-marks (is_some (packet_in s caught.channel)) (Busy caught.channel, s) (Back caught.channel, released s serial caught) is (released-marks s serial caught is here)

put-marks : (s : LinkState) (c : ℕ) (wire : List ℕ) → HasTrueMarks s → difference wire ≡ 0 → HasTrueMarks (put s c wire).1
put-marks s c wire is e =
    let p : Option Held = Some (record { wire = wire; marked = false; born = s.epoch }) in
    pick-marks (is_some (packet_in s c)) (false, s) (true, with_packet s c p) is (with_packet-marks s c p is e)

-- limbo without some of it
all-filtered : (P : ℕ × Caught → Type 0) (test : ℕ × Caught → Bool) (es : List (ℕ × Caught)) → AllByRecursion P es → AllByRecursion P (filter test es)
all-filtered P test [] all = tt
all-filtered P test (e ∷ es) all = by (test e) (all-filtered P test es all.1)
  where
    by : (t : Bool) → AllByRecursion P (filter test es) → AllByRecursion P (if t then e ∷ filter test es else filter test es)
    by true rest = (all.0, rest)
    by false rest = rest

pull_by-marks : (s : LinkState) (o : Option ℕ) → HasTrueMarks s → HasTrueMarks (pull_by s o).1
pull_by-marks s None is = is
pull_by-marks s (Some c) is = record {
  in_channels = all-set (λ o. IfSome o HasTrueMark) (set s.channels (2 * (c / 2)) None) (2 * (c / 2) + 1) None (all-set (λ o. IfSome o HasTrueMark) s.channels (2 * (c / 2)) None is.in_channels tt) tt;
  in_limbo = all-filtered (λ e. HasTrueMark e.1.held) (λ e. not (nat_eq (e.1.channel / 2) (c / 2))) s.limbo is.in_limbo;
}

plug-marks : (s : LinkState) (a b : End) → HasTrueMarks s → HasTrueMarks (plug s a b).1
plug-marks s a b is =
    let new : LinkState = record s { cables = with_plugged s.cables a b; channels = s.channels ++ None ∷ None ∷ [] } in
    pick-marks (may_plug s.cables a b) (true, new) (false, s) (record { in_channels = all-two s.channels is.in_channels; in_limbo = is.in_limbo }) is
  where
    all-two : (ps : List (Option Held)) → AllByRecursion (λ o. IfSome o HasTrueMark) ps → AllByRecursion (λ o. IfSome o HasTrueMark) (ps ++ None ∷ None ∷ [])
    all-two [] all = (tt, (tt, tt))
    all-two (p ∷ ps) all = (all.0, all-two ps all.1)

stepped-marks : (s : LinkState) (x : Step) → IsFair x → HasTrueMarks s → HasTrueMarks (stepped s x)
stepped-marks s (Put c wire) fair is = put-marks s c wire is fair
stepped-marks s (Advance c) fair is = advance_of-marks s c (packet_in s c) is refl
stepped-marks s (Lose c) fair is = with_packet-marks s c None is tt
stepped-marks s (Reset c) fair is = with_packet-marks s c None is tt
stepped-marks s (Repeat c) fair is = repeat_of-marks s c (packet_in s c) is refl
stepped-marks s (Hold c) fair is = hold_of-marks s c (packet_in s c) is refl
stepped-marks s (Flip c bit pattern) fair is = flip_of-marks s c bit pattern (packet_in s c) is refl fair
stepped-marks s (Replay serial) fair is = replay_of-marks s serial (caught_as s serial) is (looked_up (λ caught. HasTrueMark caught.held) (nat_eq serial) s.limbo is.in_limbo)
stepped-marks s (Pull e) fair is = pull_by-marks s (leaving s.cables e) is
stepped-marks s (Plug a b) fair is = plug-marks s a b is
stepped-marks s Accept fair is = record { in_channels = is.in_channels; in_limbo = is.in_limbo }

-- after all steps
pub stepped_all-marks : (s : LinkState) (xs : List Step) → AllByRecursion IsFair xs → HasTrueMarks s → HasTrueMarks (stepped_all s xs)
stepped_all-marks s [] fair is = is
stepped_all-marks s (x ∷ xs) fair is = stepped_all-marks (stepped s x) xs fair.1 (stepped-marks s x fair.0 is)

no_packets : (k : ℕ) → AllByRecursion (λ o. IfSome o HasTrueMark) (replicate {A = Option Held} k None)
no_packets zero = tt
no_packets (suc k) = (tt, no_packets k)

pub empty-marks : (n : Network) → HasTrueMarks (empty_links n)
empty-marks n = record { in_channels = no_packets (life_channels (first_history n)); in_limbo = tt }
