-- How the whole tree is asked: what was found is kept, and each switch among it is expanded in its turn.
use Rattle.std.specs.Prelude.{◌≡◌, ◌⊎◌, ℕ, ◌+◌, ◌-◌, ◌*◌, ◌<◌, ◌≤◌, ℤ, Bool, true, ◌&&◌, not, List, [], ◌∷◌, ◌++◌}
use Rattle.std.specs.Prelude.{length, nat_lt, slice_get, take, Some, if◌then◌else◌}
use Rattle.net_defs.specs.declared.place.Answer.TheVariants.{Switch}
use Rattle.net_defs.specs.Network.{Network}
use Rattle.journal_defs.specs.declared.entry.Entry.{Entry}
use Rattle.journal_defs.specs.Walks.{walk_below}
use Rattle.journal_defs.specs.Tree.{is_asked, is_found}
use Rattle.journal_defs.specs.Growth.{crossed, IsEndedAtLimit}
use Rattle.mapper.specs.Turns.{turn_at}
use Rattle.circ_defs.specs.Circuit.{circuit_answer}
use Rattle.circ_defs.specs.Asking.{IsTreeGrowing, IsTreeEnded, found_of}

-- the mapper's host and what was found are as many nodes as are kept
abbrev pub is_full : List Entry → Bool
is_full found = nat_lt 65534 (length found)

-- an answer that finds something where no more is kept ends the asking
abbrev pub goes_on : List Entry → Entry → Bool
goes_on found e = not (is_found e.answer && is_full found)

-- what is kept after one more entry
abbrev pub kept_after : List Entry → Entry → List Entry
kept_after found e = if is_found e.answer then (if is_full found then found else found ++ e ∷ []) else found

-- a walk with its circuit answer
abbrev pub told : Network → ℕ → List ℤ → Entry
told n host w = record { walk = w; answer = circuit_answer n host w }

-- A tree that is under way: what was found of it, and how often was asked.
pub record IsKept (n : Network) (host depth : ℕ) (found : List Entry) (asks : ℕ) : Type 0 where
  pub journal : List Entry
  pub growing : IsTreeGrowing n host depth journal
  pub found_is : found ≡ found_of journal
  pub asks_is : asks ≡ length journal
  pub few : length found < 65536

-- the walk by turn number i of the entry at place b, which is a switch that is near enough
pub record IsChild (depth : ℕ) (found : List Entry) (b i : ℕ) (x : List ℤ) : Type 0 where
  pub entry : Entry
  pub there : slice_get found b ≡ Some entry
  pub switch : entry.answer ≡ Switch
  pub near : crossed entry.walk < depth
  pub turn : i < 30
  pub is : x ≡ entry.walk ++ turn_at i ∷ []

-- the entry at a place found a switch that is near enough, by this walk
pub record IsOpen (depth : ℕ) (found : List Entry) (at : ℕ) (w : List ℤ) : Type 0 where
  pub entry : Entry
  pub there : slice_get found at ≡ Some entry
  pub switch : entry.answer ≡ Switch
  pub near : crossed entry.walk < depth
  pub is : w ≡ entry.walk

-- a walk up to its last turn
abbrev pub front_of : List ℤ → List ℤ
front_of w = take (length w - 1) w

-- the entry at a place isn't one to expand
abbrev pub IsShut : ℕ → List Entry → ℕ → Type 0
IsShut depth found at = (w : List ℤ) → ¬ IsOpen depth found at w

-- turn i of entry b comes before turn k of entry at
abbrev pub IsEarlier : ℕ → ℕ → ℕ → ℕ → Type 0
IsEarlier at k b i = (b < at) ⊎ ((b ≡ at) × (i < k))

-- a walk was asked before turn k of entry at
pub record IsAskedBefore (depth : ℕ) (found : List Entry) (at k : ℕ) (x : List ℤ) : Type 0 where
  pub b : ℕ
  pub i : ℕ
  pub child : IsChild depth found b i x
  pub earlier : IsEarlier at k b i

-- Turn k of entry at is asked next: all before it are asked, and nothing else.
pub record IsAsking (n : Network) (host depth : ℕ) (found : List Entry) (asks at k : ℕ) : Type 0 where
  pub tree : IsKept n host depth found asks
  pub started : is_asked tree.journal [] ≡ true
  pub rising : (a b : ℕ) (d e : Entry) → a < b → slice_get found a ≡ Some d → slice_get found b ≡ Some e
      → walk_below d.walk e.walk ≡ true
  pub done : (b i : ℕ) (x : List ℤ) → IsChild depth found b i x → IsEarlier at k b i → is_asked tree.journal x ≡ true
  pub only : (x : List ℤ) → is_asked tree.journal x ≡ true → (x ≡ []) ⊎ IsAskedBefore depth found at k x
  pub asked_few : asks ≤ 1 + 30 * at + k

-- the last of so many asks made one node more than are kept
pub record IsPassed (n : Network) (host depth asks : ℕ) : Type 0 where
  pub journal : List Entry
  pub growing : IsTreeGrowing n host depth journal
  pub passed : IsEndedAtLimit journal
  pub asks_is : asks ≡ length journal

-- every walk of the tree was asked: its found entries, and the number of asks
pub record IsWhole (n : Network) (host depth : ℕ) (found : List Entry) (asks : ℕ) : Type 0 where
  pub journal : List Entry
  pub growing : IsTreeGrowing n host depth journal
  pub ended : IsTreeEnded depth journal
  pub found_is : found ≡ found_of journal
  pub asks_is : asks ≡ length journal
