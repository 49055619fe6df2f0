-- The laws of offsets: they are a group, as far as sums stay from -15 to 15, and frames are aligned by it.
use Rattle.std.specs.Prelude.{◌≡◌, ℤ, pos, ◌+ℤ◌, neg_ℤ, Some}
use Rattle.net_defs.specs.Turn.{IsTurn}
use Rattle.port_align.specs.declared.frame.ClassFrame.{ClassFrame}
use Rattle.port_align.specs.Offset.{composed, apart}

-- 0 changes nothing
abbrev pub ZeroIsNeutral : Type 0
ZeroIsNeutral = (k : ℤ) → IsTurn k → (composed k (pos 0) ≡ Some k) × (composed (pos 0) k ≡ Some k)

-- each offset has one back
abbrev pub EachHasItsInverse : Type 0
EachHasItsInverse = (k : ℤ) → IsTurn k → IsTurn (neg_ℤ k) × (composed k (neg_ℤ k) ≡ Some (pos 0))

-- the order of two offsets doesn't matter
abbrev pub OrderIsFree : Type 0
OrderIsFree = (j k : ℤ) → composed j k ≡ composed k j

-- nor how three are grouped, where both groups have a sum
abbrev pub GroupingIsFree : Type 0
GroupingIsFree = (i j k a b : ℤ) → composed i j ≡ Some a → composed j k ≡ Some b → composed a k ≡ composed i b

-- a frame is aligned with itself by 0
abbrev pub OwnIsZero : Type 0
OwnIsZero = (u : ClassFrame) → apart u u ≡ Some (pos 0)

-- the other way round by the inverse
abbrev pub OtherWayIsInverse : Type 0
OtherWayIsInverse = (u v : ClassFrame) (k : ℤ) → apart u v ≡ Some k → apart v u ≡ Some (neg_ℤ k)

-- and over a third frame by the sum
abbrev pub OverAThirdIsSum : Type 0
OverAThirdIsSum = (u v w : ClassFrame) (j k : ℤ) → apart u v ≡ Some j → apart v w ≡ Some k → apart u w ≡ Some (j +ℤ k)
