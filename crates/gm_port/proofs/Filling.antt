-- What tokens of a port are filling with stays right: a fragment fills its token on, and no other begins for its host and priority.
use Rattle.std.proofs.Common.{◌≡◌, ◌<◌, ◌≤◌, ◌-◌, ℕ, Bool, true, false, ◌&&◌, nat_eq, List, [], ◌∷◌, length, Some, None, IfSome, refl, sym, ap, ◌∙◌, subst, arith, length-append}
use Rattle.std.specs.List.{AllByRecursion, filter}
use Rattle.std.proofs.lemmas.Bool.Decides.{nat_tests}
use Rattle.net_defs.proofs.Distinct.{all-push}
use Rattle.gm_defs.specs.declared.frame.FrameHead.{FrameHead}
use Rattle.gm_defs.specs.Body.{piece, is_last}
use Rattle.gm_defs.specs.Token.{Provided, PortState, room, is_size, size_for_length, fits, IsFilling, IsFillingRight, AreFilling, is_from, is_filling_for, takes_at, taker}
use Rattle.gm_defs.specs.Port.{with_first, filling_with, going_on_with}
use Rattle.gm_defs.proofs.Choices.{both}
use Rattle.gm_defs.proofs.Found.{IsSplit, split, all-left, all-replaced, all-found, filter-append, filter-none, none-passes, replaced-other, replaced-first, replaced-count, without-count}
use Rattle.gm_defs.proofs.Takers.{IsFound, found, IsTaker, passes-taker, Delivery, delivery}
use Rattle.gm_port.specs.Laws.{OpeningFillsRight, ProvidingFillsRight, DeliveringFillsRight}
use Rattle.gm_port.proofs.Bytes.{fragment-in-place}
use Rattle.gm_port.proofs.Heads.{IsWithin, head-within, fits-room}

pub opened-filling : OpeningFillsRight
opened-filling sends recvs = record { right = tt; once = λ src prio. omega arith }

not-filling : (src prio : ℕ) (r : Provided) → r.filling ≡ None → is_filling_for src prio r ≡ false
not-filling src prio r e = ap (λ o. is_from src o && nat_eq r.prio prio) e

pub provided-filling : ProvidingFillsRight
provided-filling p r is none = record {
  right = all-push IsFillingRight p.provided r is.right (subst (λ o. IfSome o (IsFilling r)) (sym none) tt);
  once = λ src prio.
      let old = is.once src prio in
      let one : filter (is_filling_for src prio) (r ∷ []) ≡ [] = filter-none (is_filling_for src prio) r [] (not-filling src prio r none) in
      let all = ap length (filter-append (is_filling_for src prio) p.provided (r ∷ [])) ∙ length-append (filter (is_filling_for src prio) p.provided) (filter (is_filling_for src prio) (r ∷ [])) in
      let zero = ap length one in
      omega (arith, old, all, zero);
}

-- the token that takes a fragment has its priority, and room for its message
module _ (p : PortState) (h : FrameHead) (r : Provided) (is : AreFilling p) (e : taker p h ≡ Some r) where
  is-taker : IsTaker p h r
  is-taker = passes-taker p h r (IsFound.passes (found (takes_at p h) p.provided r e))

  equal : (a b : ℕ) → nat_eq a b ≡ true → a ≡ b
  equal a b e = grind (arith, nat_tests)

  pub taker-prio : r.prio ≡ h.prio
  taker-prio = by is-taker
    where
      by : IsTaker p h r → r.prio ≡ h.prio
      by (IsTaker.opens a b c d) = equal r.prio h.prio (both (is_size r.size (size_for_length h.total)) (nat_eq r.prio h.prio) d).1
      by (IsTaker.goes_on f a b c d k g) = g

  pub taker-fits : fits r.size r.prio h.total r.prio ≡ true
  taker-fits = by is-taker
    where
      by : IsTaker p h r → fits r.size r.prio h.total r.prio ≡ true
      by (IsTaker.opens a b c d) = ap (fits r.size r.prio h.total) taker-prio ∙ d
      by (IsTaker.goes_on f a b c d k g) =
          let right : IsFilling r f = subst (λ o. IfSome o (IsFilling r)) b (all-found IsFillingRight (takes_at p h) p.provided r is.right e) in
          ap (λ n. fits r.size r.prio n r.prio) (sym d) ∙ right.right_size

  pub taker-roomy : AllByRecursion (λ x. room x.size ≤ length x.buffer) p.provided → h.total ≤ length r.buffer
  taker-roomy sized =
      let long = all-found (λ (x : Provided). room x.size ≤ length x.buffer) (takes_at p h) p.provided r sized e in
      let wide = fits-room h.total r.prio r taker-fits in
      omega (arith, long, wide)

-- a token is filling on
module _ (p : PortState) (h : FrameHead) (part : List ℕ) (r : Provided) (is : AreFilling p) (sized : AllByRecursion (λ x. room x.size ≤ length x.buffer) p.provided) (inside : IsWithin h) (long : length part ≡ h.len) (e : taker p h ≡ Some r) (earlier : is_last h.total h.offset ≡ false) where
  left-over : piece < h.total - h.offset
  left-over = grind (arith, nat_tests)

  right-after : IsFillingRight (filling_with h part r)
  right-after =
      let a = inside.offset in
      let b = inside.len in
      let c = left-over in
      let wide = taker-roomy p h r is e sized in
      let same = (fragment-in-place r.buffer part h.offset (omega (arith, a, b, c, long, wide))).same_length in
      record {
        right_size = taker-fits p h r is e;
        begun = omega (arith, b, c, long);
        not_whole = omega (arith, b, c, long);
        roomy = omega (arith, same, wide);
      }

  -- of another host or priority as many as before
  count-other : (src prio : ℕ) → (nat_eq h.src src && nat_eq h.prio prio) ≡ false → length (filter (is_filling_for src prio) (with_first (takes_at p h) (filling_with h part r) p.provided)) ≡ length (filter (is_filling_for src prio) p.provided)
  count-other src prio other = ap length (replaced-other (takes_at p h) (is_filling_for src prio) p.provided r (split (takes_at p h) p.provided r e) (filling_with h part r) before behind)
    where
      prio-is : r.prio ≡ h.prio
      prio-is = taker-prio p h r is e

      before : is_filling_for src prio r ≡ false
      before = by (is-taker p h r is e)
        where
          by : IsTaker p h r → is_filling_for src prio r ≡ false
          by (IsTaker.opens a b c d) = not-filling src prio r c
          by (IsTaker.goes_on f a b c d k g) = ap (λ o. is_from src o && nat_eq r.prio prio) b ∙ (λ i. nat_eq (c i) src && nat_eq (g i) prio) ∙ other

      behind : is_filling_for src prio (filling_with h part r) ≡ false
      behind = (λ i. nat_eq h.src src && nat_eq (prio-is i) prio) ∙ other

  same : (a b : ℕ) → a ≡ b → nat_eq a b ≡ true
  same a b e = grind (arith, nat_tests)

  -- of its own one
  count-own : length (filter (is_filling_for h.src h.prio) (with_first (takes_at p h) (filling_with h part r) p.provided)) ≤ 1
  count-own = by (is-taker p h r is e)
    where
      own : is_filling_for h.src h.prio (filling_with h part r) ≡ true
      own = λ i. same h.src h.src refl i && same r.prio h.prio (taker-prio p h r is e) i

      at : IsSplit (takes_at p h) p.provided r
      at = split (takes_at p h) p.provided r e

      by : IsTaker p h r → length (filter (is_filling_for h.src h.prio) (with_first (takes_at p h) (filling_with h part r) p.provided)) ≤ 1
      by (IsTaker.opens a b c d) =
          let none = none-passes (is_filling_for h.src h.prio) p.provided b in
          let one = ap length (replaced-first (takes_at p h) (is_filling_for h.src h.prio) p.provided r at (filling_with h part r) (not-filling h.src h.prio r c) own none) in
          omega (arith, one)
      by (IsTaker.goes_on f a b c d k g) =
          let mine : is_filling_for h.src h.prio r ≡ true = ap (λ o. is_from h.src o && nat_eq r.prio h.prio) b ∙ (λ i. same f.src h.src c i && same r.prio h.prio g i) in
          let count = replaced-count (takes_at p h) (is_filling_for h.src h.prio) p.provided r at (filling_with h part r) mine own in
          let old = is.once h.src h.prio in
          omega (arith, count, old)

  once-after : (src prio : ℕ) → length (filter (is_filling_for src prio) (with_first (takes_at p h) (filling_with h part r) p.provided)) ≤ 1
  once-after src prio = by (nat_eq h.src src) (nat_eq h.prio prio) refl refl
    where
      by : (a b : Bool) → nat_eq h.src src ≡ a → nat_eq h.prio prio ≡ b → length (filter (is_filling_for src prio) (with_first (takes_at p h) (filling_with h part r) p.provided)) ≤ 1
      by true true f g =
          let src-is : h.src ≡ src = grind (arith, nat_tests) in
          let prio-is : h.prio ≡ prio = grind (arith, nat_tests) in
          subst (λ x. length (filter (is_filling_for x prio) (with_first (takes_at p h) (filling_with h part r) p.provided)) ≤ 1) src-is
          (subst (λ x. length (filter (is_filling_for h.src x) (with_first (takes_at p h) (filling_with h part r) p.provided)) ≤ 1) prio-is count-own)
      by true false f g = let count = count-other src prio (λ i. f i && g i) in let old = is.once src prio in omega (arith, count, old)
      by false b f g = let count = count-other src prio (λ i. f i && nat_eq h.prio prio) in let old = is.once src prio in omega (arith, count, old)

  filling-after : AreFilling (going_on_with p h part r)
  filling-after = record { right = all-replaced IsFillingRight (takes_at p h) p.provided r (filling_with h part r) e (λ old. right-after) is.right; once = once-after }

pub delivered-filling : DeliveringFillsRight
delivered-filling p h part is sized rules long = by (delivery p h part)
  where
    by : {q : PortState} → Delivery p h part q → AreFilling q
    by (Delivery.missed e) = is
    by (Delivery.ends r e t) = record {
      right = all-left IsFillingRight (takes_at p h) p.provided is.right;
      once = λ src prio.
          let fewer = without-count (takes_at p h) (is_filling_for src prio) p.provided r (split (takes_at p h) p.provided r e) in
          let old = is.once src prio in
          omega (arith, fewer, old);
    }
    by (Delivery.goes_on r e t) = filling-after p h part r is sized (head-within h rules) long e t
