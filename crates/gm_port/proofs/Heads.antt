-- What a head by the rules says of its fragment, and the room of a token that fits.
use Rattle.std.proofs.Common.{◌≡◌, ◌≤◌, ◌-◌, ℕ, Bool, true, ◌&&◌, min, nat_eq, nat_lt, nat_le, Option, Some, None, refl, sym, subst, true≢false, arith}
use Rattle.std.proofs.lemmas.Bool.Decides.{nat_tests}
use Rattle.gm_defs.specs.declared.frame.FrameHead.{FrameHead}
use Rattle.gm_defs.specs.Body.{piece, message_limit, number_limit, is_prio, is_offset, is_head}
use Rattle.gm_defs.specs.Token.{Provided, room, is_size, size_for_length, fits}
use Rattle.gm_defs.proofs.Choices.{both}
use Rattle.gm_defs.proofs.Sizes.{size-least}
use Rattle.gm_defs.proofs.Numbers.{offset-within}

-- a fragment begins within its message, and has the bytes up to its end or to the next piece
pub record IsWithin (h : FrameHead) : Type 0 where
  pub offset : h.offset ≤ h.total
  pub len : h.len ≡ min piece (h.total - h.offset)

pub head-within : (h : FrameHead) → is_head h ≡ true → IsWithin h
head-within h e =
    let ports : Bool = nat_lt h.sport 8 && nat_lt h.dport 8 && is_prio h.prio in
    let len = both (ports && nat_lt h.seq number_limit && nat_le h.total message_limit && is_offset h.total h.offset) (nat_eq h.len (min piece (h.total - h.offset))) e in
    let offset = both (ports && nat_lt h.seq number_limit && nat_le h.total message_limit) (is_offset h.total h.offset) len.0 in
    record { offset = offset-within h.total h.offset offset.1; len = let k = len.1 in grind (arith, nat_tests) }

-- a token that fits has room for the message
pub fits-room : (len prio : ℕ) (r : Provided) → fits r.size r.prio len prio ≡ true → len ≤ room r.size
fits-room len prio r e = by (size_for_length len) refl (both (is_size r.size (size_for_length len)) (nat_eq r.prio prio) e).0
  where
    by : (o : Option ℕ) → size_for_length len ≡ o → is_size r.size o ≡ true → len ≤ room r.size
    by None f g = absurd (true≢false (sym g))
    by (Some least) f g =
        let same : r.size ≡ least = grind (arith, nat_tests) in
        subst (λ (n : ℕ). len ≤ room n) (sym same) (size-least len least f).has_room
