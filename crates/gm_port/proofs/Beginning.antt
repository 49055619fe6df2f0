-- Which provided token takes a fragment, where it is known that none is filling, or doesn't count.
use Rattle.std.proofs.Common.{◌≡◌, ℕ, zero, suc, Bool, true, false, ◌||◌, ◌&&◌, not, true≢false, nat_eq, List, [], ◌∷◌, ◌++◌, Option, Some, None, is_some, refl, sym, ap, ◌∙◌, if◌then◌else◌}
use Rattle.std.specs.Prelude.{position, slice_get}
use Rattle.std.specs.List.{AllByRecursion, list_any, remove}
use Rattle.gm_defs.specs.declared.frame.FrameHead.{FrameHead}
use Rattle.gm_defs.specs.declared.token.Filling.{Filling}
use Rattle.gm_defs.specs.Token.{is_from, is_filling_for, is_free_for, holds_before, takes}
use Rattle.gm_port.specs.declared.event.ProvidedToken.{ProvidedToken}
use Rattle.gm_port.specs.Held.{provided_of}
use Rattle.gm_port.specs.Lists.{IsFillingOnlyIf, taking_here}

-- none of these is filling
abbrev NoneFills : List ProvidedToken → Type 0
NoneFills rs = AllByRecursion (λ r. is_some r.filling ≡ false) rs

none-from : (src : ℕ) (o : Option Filling) → is_some o ≡ false → is_from src o ≡ false
none-from src None e = refl
none-from src (Some f) e = absurd (true≢false e)

none-begun : (src prio : ℕ) (rs : List ProvidedToken) → NoneFills rs → list_any (λ x. is_filling_for src prio (provided_of x)) rs ≡ false
none-begun src prio [] none = refl
none-begun src prio (r ∷ rs) none =
    ap (λ b. (b && nat_eq r.prio prio) || list_any (λ x. is_filling_for src prio (provided_of x)) rs) (none-from src r.filling none.0) ∙ none-begun src prio rs none.1

-- the token is the same as by the test whether its message has begun
pub taken_begun : (h : FrameHead) (rs : List ProvidedToken) (may_fill begun : Bool) → IsFillingOnlyIf may_fill rs
    → begun ≡ (may_fill && (nat_eq h.offset 0 && list_any (λ x. is_filling_for h.src h.prio (provided_of x)) rs)) → position (λ r. takes h begun (provided_of r)) rs ≡ position (taking_here h rs) rs
taken_begun h rs false begun only e =
    ap (λ b. position (λ r. takes h b (provided_of r)) rs) (e ∙ sym (none-begun h.src h.prio rs (only refl)))
taken_begun h rs true begun only e = by (nat_eq h.offset 0) refl
  where
    by : (t : Bool) → nat_eq h.offset 0 ≡ t → position (λ r. takes h begun (provided_of r)) rs ≡ position (taking_here h rs) rs
    by true first = ap (λ b. position (λ r. takes h b (provided_of r)) rs) (e ∙ ap (λ t. t && list_any (λ x. is_filling_for h.src h.prio (provided_of x)) rs) first)
    by false later = λ i. position (λ r. same r i) rs
      where
        same : (r : ProvidedToken) → takes h begun (provided_of r) ≡ taking_here h rs r
        same r =
            let held : Bool = holds_before h r.filling && nat_eq r.prio h.prio in
            ap (λ t. if t then not begun && is_free_for h.total h.prio (provided_of r) else held) later
            ∙ sym (ap (λ t. if t then not (list_any (λ x. is_filling_for h.src h.prio (provided_of x)) rs) && is_free_for h.total h.prio (provided_of r) else held) later)

-- one token more, and one less
pub fills-more : (rs : List ProvidedToken) (r : ProvidedToken) (may_fill : Bool) → IsFillingOnlyIf may_fill rs → IsFillingOnlyIf (may_fill || is_some r.filling) (rs ++ r ∷ [])
fills-more rs r true only e = absurd (true≢false e)
fills-more rs r false only e = more rs (only refl)
  where
    more : (xs : List ProvidedToken) → NoneFills xs → NoneFills (xs ++ r ∷ [])
    more [] none = (e, tt)
    more (x ∷ xs) none = (none.0, more xs none.1)

pub fills-less : (rs : List ProvidedToken) (i : ℕ) (r : ProvidedToken) (may_fill : Bool) → slice_get rs i ≡ Some r → IsFillingOnlyIf may_fill rs → IsFillingOnlyIf may_fill (remove rs i)
fills-less rs i r may_fill at only e = less rs i at (only e)
  where
    less : (xs : List ProvidedToken) (k : ℕ) → slice_get xs k ≡ Some r → NoneFills xs → NoneFills (remove xs k)
    less [] k e none = cc
    less (x ∷ xs) zero e none = none.1
    less (x ∷ xs) (suc k) e none = (none.0, less xs k e none.1)
