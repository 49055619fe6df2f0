-- Turns of a walk that are looked up one by one.
use Rattle.std.specs.Prelude.{◌≡◌, ◌⊎◌, ℕ, ◌+◌, ◌*◌, ◌<◌, ◌≤◌, ℤ, pos, ◌-ℤ◌, Bool, true, ◌||◌, List, [], ◌∷◌, ◌++◌}
use Rattle.std.specs.Prelude.{length, if◌then◌else◌}
use Rattle.net_defs.specs.Turn.{IsTurn}
use Rattle.journal_defs.specs.Tree.{Node}
use Rattle.journal_defs.specs.Tree.Node.{Reached}
use Rattle.journal_defs.specs.declared.entry.Entry.{Entry}
use Rattle.probe.specs.Keeping.{has_walk}
use Rattle.replicate_merge.specs.declared.way.Way.{Way}
use Rattle.replicate_merge.specs.declared.way.Way.TheVariants.{Cable}
use Rattle.replicate_merge.specs.Ways.{Has, node_at}
use Rattle.replicate_merge.specs.Longer.{IsNewWay}

-- a walk is one of either list
abbrev pub is_known : List (List ℤ) → List (List ℤ) → List ℤ → Bool
is_known walks orphans w = has_walk walks w || has_walk orphans w

-- how many of these turns of a walk are known
abbrev pub known_among : List (List ℤ) → List (List ℤ) → List ℤ → List ℤ → ℕ
known_among walks orphans w [] = 0
known_among walks orphans w (t ∷ ts) = (if is_known walks orphans (w ++ t ∷ []) then 1 else 0)
    + known_among walks orphans w ts

-- A way leads between a node and the one behind it by a turn.
pub data IsBehind (ns : List Node) (walk : List ℤ) (n : ℕ) (p : ℤ) (w : Way) : Type 0 where
  down : (x : ℕ) → x < length ns → node_at ns x ≡ Reached (walk ++ p ∷ []) → w ≡ Cable n p x (pos 0)
      → IsBehind ns walk n p w
  up : (x : ℕ) → x < length ns → node_at ns x ≡ Reached (walk ++ p ∷ []) → w ≡ Cable x (pos 0) n p
      → IsBehind ns walk n p w

-- no node stands twice
abbrev pub AreOnce : List Node → Type 0
AreOnce ns = (m n : ℕ) → m < length ns → n < length ns → node_at ns m ≡ node_at ns n → m ≡ n

-- The ways between a node and each behind it were added, by the first so many turns from -15 on.
pub record AddsBelow (ns : List Node) (walk : List ℤ) (n count : ℕ) (old new : List Way) : Type 0 where
  pub few : length new ≤ length old + 2 * count
  pub kept : (w : Way) → Has old w → Has new w
  pub only : (w : Way) → Has new w → Has old w ⊎ ((p : ℤ) × IsBehind ns walk n p w)
  pub all : (k : ℕ) → k < count → (w : Way) → IsBehind ns walk n (pos k -ℤ pos 15) w → Has new w

-- The ways that an entry adds: all of them where nodes behind it were looked for, or where there are none.
pub record AreNewWays (ns : List Node) (e : Entry) (n : ℕ) (ahead : Bool) (ways : List Way) : Type 0 where
  pub few : length ways ≤ 65
  pub only : (w : Way) → Has ways w → IsNewWay ns e n w
  pub behind : ahead ≡ true → (p : ℤ) (w : Way) → IsTurn p → IsBehind ns e.walk n p w → Has ways w
  pub others : (w : Way) → IsNewWay ns e n w → Has ways w ⊎ ((p : ℤ) × IsBehind ns e.walk n p w)
