-- What isn't possible changes nothing, and what stuck links are.
use Rattle.std.proofs.Common.{◌≡◌, ◌<◌, ◌≤◌, ℕ, zero, suc, Bool, true, false, not, ◌&&◌, List, [], ◌∷◌, ◌++◌, length, get_or, Option, Some, None, is_some, is_none, IsSome, refl, sym, ap, subst, arith, true≢false, if◌then◌else◌, ⊎_elim}
use Rattle.std.specs.List.{list_all}
use Rattle.std.proofs.lemmas.List.{get_or_past}
use Rattle.std.proofs.lemmas.Bool.{cases_lt}
use Rattle.net_defs.proofs.Ends.{both}
use Rattle.net_defs.proofs.Growing.{no_some}
use Rattle.net_defs.specs.declared.vertex.End.{End}
use Rattle.world_defs.specs.History.{may_plug, with_plugged}
use Rattle.world_defs.specs.Crossed.{leaving}
use Rattle.packet_defs.specs.Burst.{flipped, may_flip}
use Rattle.world_defs.specs.declared.replayed.Replayed.TheVariants.{Back, Busy}
use Rattle.world_defs.specs.Links.{Held, Caught, LinkState, packet_in, with_packet, emptied, is_idle, put}
use Rattle.world_defs.specs.Advance.{advance_of, advance}
use Rattle.world_defs.specs.Fault.{lose, repeat_of, repeat, hold_of, hold, is_used_up, with_caught, flip_of, flip, caught_as, released, replay_of, replay, pull_by, pull, plug}
use Rattle.world_defs.specs.Hops.{changes, is_still_below, is_stuck}
use Rattle.world_defs.specs.LinkLaws.{is_idle_replay}
use Rattle.world_defs.proofs.Slots.{set-same}
use Rattle.world_defs.proofs.HopsLeft.{advance-still, still-advance}

-- one of two answers, each with the links after it
abbrev pub pick : {X : Type 0} → Bool → X × LinkState → X × LinkState → X × LinkState
pick t x y = if t then x else y

pub put-refused : (s : LinkState) (c : ℕ) (wire : List ℕ) → (put s c wire).0 ≡ false → (put s c wire).1 ≡ s
put-refused s c wire e = by (is_some (packet_in s c)) e
  where
    by : (t : Bool) → (pick t (false, s) (true, with_packet s c (Some (record { wire = wire; marked = false; born = s.epoch })))).0 ≡ false → (pick t (false, s) (true, with_packet s c (Some (record { wire = wire; marked = false; born = s.epoch })))).1 ≡ s
    by true e = refl
    by false e = absurd (true≢false e)

pub lose-idle : (s : LinkState) (c : ℕ) → (lose s c).0 ≡ false → (lose s c).1 ≡ s
lose-idle s c e = ap (λ l. record s { channels = l }) (set-same s.channels c None (no_some (packet_in s c) e))

repeat_of-idle : (s : LinkState) (c : ℕ) (o : Option Held) → (repeat_of s c o).0 ≡ None → (repeat_of s c o).1 ≡ s
repeat_of-idle s c None e = refl
repeat_of-idle s c (Some held) e = by (is_used_up s) e
  where
    by : (t : Bool) → (pick t (None, s) (Some s.next_serial, with_caught s c held)).0 ≡ None → (pick t (None, s) (Some s.next_serial, with_caught s c held)).1 ≡ s
    by true e = refl
    by false e = cc

pub repeat-idle : (s : LinkState) (c : ℕ) → (repeat s c).0 ≡ None → (repeat s c).1 ≡ s
repeat-idle s c e = repeat_of-idle s c (packet_in s c) e

hold_of-idle : (s : LinkState) (c : ℕ) (o : Option Held) → (hold_of s c o).0 ≡ None → (hold_of s c o).1 ≡ s
hold_of-idle s c None e = refl
hold_of-idle s c (Some held) e = by (is_used_up s) e
  where
    by : (t : Bool) → (pick t (None, s) (Some s.next_serial, with_caught (emptied s c) c held)).0 ≡ None → (pick t (None, s) (Some s.next_serial, with_caught (emptied s c) c held)).1 ≡ s
    by true e = refl
    by false e = cc

pub hold-idle : (s : LinkState) (c : ℕ) → (hold s c).0 ≡ None → (hold s c).1 ≡ s
hold-idle s c e = hold_of-idle s c (packet_in s c) e

flip_of-idle : (s : LinkState) (c bit pattern : ℕ) (o : Option Held) → (flip_of s c bit pattern o).0 ≡ false → (flip_of s c bit pattern o).1 ≡ s
flip_of-idle s c bit pattern None e = refl
flip_of-idle s c bit pattern (Some held) e = by (not held.marked && may_flip held.wire bit pattern) e
  where
    new : LinkState
    new = with_packet s c (Some (record held { wire = flipped held.wire bit pattern; marked = true }))

    by : (t : Bool) → (pick t (true, new) (false, s)).0 ≡ false → (pick t (true, new) (false, s)).1 ≡ s
    by true e = absurd (true≢false e)
    by false e = refl

pub flip-idle : (s : LinkState) (c bit pattern : ℕ) → (flip s c bit pattern).0 ≡ false → (flip s c bit pattern).1 ≡ s
flip-idle s c bit pattern e = flip_of-idle s c bit pattern (packet_in s c) e

replay_of-idle : (s : LinkState) (serial : ℕ) (o : Option Caught) → is_idle_replay (replay_of s serial o).0 ≡ true → (replay_of s serial o).1 ≡ s
replay_of-idle s serial None e = refl
replay_of-idle s serial (Some caught) e = by (is_some (packet_in s caught.channel)) e
  where
    by : (t : Bool) → is_idle_replay (pick t (Busy caught.channel, s) (Back caught.channel, released s serial caught)).0 ≡ true → (pick t (Busy caught.channel, s) (Back caught.channel, released s serial caught)).1 ≡ s
    by true e = refl
    by false e = absurd (true≢false (sym e))

pub replay-idle : (s : LinkState) (serial : ℕ) → is_idle_replay (replay s serial).0 ≡ true → (replay s serial).1 ≡ s
replay-idle s serial e = replay_of-idle s serial (caught_as s serial) e

pull_by-idle : (s : LinkState) (o : Option ℕ) → (pull_by s o).0 ≡ false → (pull_by s o).1 ≡ s
pull_by-idle s None e = refl
pull_by-idle s (Some c) e = absurd (true≢false e)

pub pull-idle : (s : LinkState) (e : End) → (pull s e).0 ≡ false → (pull s e).1 ≡ s
pull-idle s e is = pull_by-idle s (leaving s.cables e) is

pub plug-idle : (s : LinkState) (a b : End) → (plug s a b).0 ≡ false → (plug s a b).1 ≡ s
plug-idle s a b e = by (may_plug s.cables a b) e
  where
    new : LinkState
    new = record s { cables = with_plugged s.cables a b; channels = s.channels ++ None ∷ None ∷ [] }

    by : (t : Bool) → (pick t (true, new) (false, s)).0 ≡ false → (pick t (true, new) (false, s)).1 ≡ s
    by true e = absurd (true≢false e)
    by false e = refl

-- some slot is full
full_slot : (ps : List (Option Held)) → list_all is_none ps ≡ false → (c : ℕ) × IsSome (get_or ps c None)
full_slot [] e = absurd (true≢false e)
full_slot (None ∷ ps) e = let r = full_slot ps e in (suc r.0, r.1)
full_slot (Some p ∷ ps) e = (0, refl)

full_slot-not_idle : (ps : List (Option Held)) (c : ℕ) → IsSome (get_or ps c None) → list_all is_none ps ≡ false
full_slot-not_idle [] c is = absurd (true≢false (sym is))
full_slot-not_idle (None ∷ ps) zero is = absurd (true≢false (sym is))
full_slot-not_idle (Some p ∷ ps) zero is = refl
full_slot-not_idle (None ∷ ps) (suc c) is = full_slot-not_idle ps c is
full_slot-not_idle (Some p ∷ ps) (suc c) is = refl

not-false : (b : Bool) → not b ≡ true → b ≡ false
not-false true e = absurd (true≢false (sym e))
not-false false e = refl

still_below : (s : LinkState) (n : ℕ) → is_still_below s n ≡ true → (c : ℕ) → c < n → changes (advance s c).0 ≡ false
still_below s zero e c h = absurd (omega arith)
still_below s (suc n) e c h =
    let two = both (not (changes (advance s n).0)) (is_still_below s n) e in
    ⊎_elim (λ low. still_below s n two.1 c low) (λ high. let same : n ≡ c = omega (arith, high) in subst (λ d. changes (advance s d).0 ≡ false) same (not-false _ two.0)) (cases_lt c n)

all_still : (s : LinkState) (n : ℕ) → ((c : ℕ) → changes (advance s c).0 ≡ false) → is_still_below s n ≡ true
all_still s zero still = refl
all_still s (suc n) still = rw (still n, all_still s n still) refl

past_the_channels : (s : LinkState) (c : ℕ) → length s.channels ≤ c → (advance s c).1 ≡ s
past_the_channels s c h = let none : packet_in s c ≡ None = get_or_past s.channels c None h in ap (λ o. (advance_of s c o).1) none

pub stuck-still : (s : LinkState) → is_stuck s ≡ true → ((c : ℕ) × IsSome (packet_in s c)) × ((c : ℕ) → (advance s c).1 ≡ s)
stuck-still s e =
    let two = both (not (is_idle s)) (is_still_below s (length s.channels)) e in (
      full_slot s.channels (not-false _ two.0),
      (λ c. ⊎_elim (λ low. advance-still s c (still_below s (length s.channels) two.1 c low)) (λ high. past_the_channels s c high) (cases_lt c (length s.channels))),
    )

pub still-stuck : (s : LinkState) (c : ℕ) → IsSome (packet_in s c) → ((d : ℕ) → (advance s d).1 ≡ s) → is_stuck s ≡ true
still-stuck s c is still =
    rw (full_slot-not_idle s.channels c is, all_still s (length s.channels) (λ d. still-advance s d (still d))) refl
