-- Frames of which the first are as callers see them.
use Rattle.std.proofs.Common.{◌≡◌, ◌<◌, ◌≤◌, ℕ, zero, suc, List, [], ◌∷◌, length, map, set, refl, ap, arith}
use Rattle.port_align.specs.declared.frame.ClassFrame.{ClassFrame}
use Rattle.replicate_merge.specs.declared.heads.Head.{Head}
use Rattle.replicate_merge.specs.Heads.{seen_frame}
use Rattle.replicate_merge.specs.Ways.{frame_at}

-- the first so many as callers see them, and the others as they are
abbrev pub seen_first : List Head → ℕ → List ClassFrame → List ClassFrame
seen_first hs zero fs = fs
seen_first hs (suc n) [] = []
seen_first hs (suc n) (f ∷ fs) = seen_frame hs f ∷ seen_first hs n fs

pub first-length : (hs : List Head) (n : ℕ) (fs : List ClassFrame) → length (seen_first hs n fs) ≡ length fs
first-length hs zero fs = refl
first-length hs (suc n) [] = refl
first-length hs (suc n) (f ∷ fs) = ap (λ k. suc k) (first-length hs n fs)

-- the next is as it is
pub first-next : (hs : List Head) (n : ℕ) (fs : List ClassFrame) → frame_at (seen_first hs n fs) n ≡ frame_at fs n
first-next hs zero fs = refl
first-next hs (suc n) [] = refl
first-next hs (suc n) (f ∷ fs) = first-next hs n fs

pub first-set : (hs : List Head) (n : ℕ) (fs : List ClassFrame) → n < length fs → set (seen_first hs n fs) n (seen_frame hs (frame_at fs n)) ≡ seen_first hs (suc n) fs
first-set hs zero [] l = absurd (omega arith)
first-set hs zero (f ∷ fs) l = refl
first-set hs (suc n) [] l = absurd (omega arith)
first-set hs (suc n) (f ∷ fs) l = ap (λ (xs : List ClassFrame). seen_frame hs f ∷ xs) (first-set hs n fs (omega arith))

pub first-all : (hs : List Head) (n : ℕ) (fs : List ClassFrame) → length fs ≤ n → seen_first hs n fs ≡ map (seen_frame hs) fs
first-all hs zero [] l = refl
first-all hs zero (f ∷ fs) l = absurd (omega arith)
first-all hs (suc n) [] l = refl
first-all hs (suc n) (f ∷ fs) l = ap (λ (xs : List ClassFrame). seen_frame hs f ∷ xs) (first-all hs n fs (omega arith))
