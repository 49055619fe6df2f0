-- Far ends in memory: 31 places for each number, of which one end is kept beside the number and more in a row.
use Rattle.std.specs.Prelude.{◌≡◌, ◌≢◌, ◌⊎◌, ℕ, ◌+◌, ◌*◌, ◌/◌, ◌%◌, ◌<◌, ◌≤◌, nat_eq, if◌then◌else◌, List, []}
use Rattle.std.specs.Prelude.{◌∷◌, length, map, slice_index_or, Option, Some, None}
use Rattle.std.specs.List.{range_with_len}
use Rattle.port_align.specs.declared.end.NodePort.{NodePort}
use Rattle.port_align.specs.declared.table.Known.{Known}
use Rattle.port_align.specs.declared.table.Known.TheVariants.{Nothing, One, Row}

-- The far ends by place, and for how many numbers, and for how many places of rows, there is room.
pub record EndTable : Type 0 where
  pub items : List (Option NodePort)
  pub number_room : ℕ
  pub row_room : ℕ

-- There is room for one number more, and for a row of each.
pub record HasRoomForNumber (t : EndTable) : Type 0 where
  pub numbers : length t.items + 31 ≤ 31 * t.number_room
  pub rows : length t.items + 31 ≤ t.row_room

-- what is known of a number
abbrev pub known_at : List Known → ℕ → Known
known_at ks n = slice_index_or ks n Nothing

-- one end is known, at a place
abbrev pub one_at : ℕ → NodePort → Known
one_at i e = One i e.port e.node

-- what is known at a place of a number of which this is known
abbrev pub look : List (Option NodePort) → Known → ℕ → Option NodePort
look rows Nothing i = None
look rows (One p q n) i = if nat_eq p i then Some (record { node = n; port = q }) else None
look rows (Row r) i = slice_index_or rows (31 * r + i) None

-- what is known of a number with at most one end
abbrev pub alone : ℕ → Option NodePort → Known
alone i None = Nothing
alone i (Some e) = one_at i e

-- what is known at a place
abbrev pub entry : List Known → List (Option NodePort) → ℕ → Option NodePort
entry ks rows k = look rows (known_at ks (k / 31)) (k % 31)

-- what is known at all places, 31 a number
abbrev pub dense : List Known → List (Option NodePort) → List (Option NodePort)
dense ks rows = map (entry ks rows) (range_with_len 0 (31 * length ks))

-- a place is before a first one, or not before a last
abbrev pub IsOutside : ℕ → ℕ → ℕ → Type 0
IsOutside first end i = (i < first) ⊎ (end ≤ i)

-- an end that is alone has a place
abbrev pub HasPlace : Known → Type 0
HasPlace known = (p : ℕ) (e : NodePort) → known ≡ one_at p e → p < 31

-- nothing stands outside of these places of a number of which this is known
abbrev pub IsSpanOf : Known → ℕ → ℕ → Type 0
IsSpanOf known first end = (rows : List (Option NodePort)) (i : ℕ) → i < 31 → IsOutside first end i
    → look rows known i ≡ None

-- one for a number with a row
abbrev pub rows_of : Known → ℕ
rows_of Nothing = 0
rows_of (One p q n) = 0
rows_of (Row r) = 1

-- how many numbers have a row
abbrev pub row_count : List Known → ℕ
row_count [] = 0
row_count (k ∷ ks) = rows_of k + row_count ks

-- Each row is that of one number, there are no others, and an end that is alone has a place.
pub record AreRowsOf (ks : List Known) (rows : List (Option NodePort)) : Type 0 where
  pub counted : length rows ≡ 31 * row_count ks
  pub inside : (n r : ℕ) → known_at ks n ≡ Row r → 31 * r + 31 ≤ length rows
  pub turns : (n p : ℕ) (e : NodePort) → known_at ks n ≡ one_at p e → p < 31
  pub apart : (m n r : ℕ) → known_at ks m ≡ Row r → known_at ks n ≡ Row r → m ≡ n

-- At one place of a number stands this, and everywhere else what stood there.
pub record PutsAt (n i : ℕ) (end : Option NodePort) (ks : List Known) (rows : List (Option NodePort)) (new : List Known)
    (news : List (Option NodePort)) : Type 0 where
  pub same : length new ≡ length ks
  pub sound : AreRowsOf new news
  pub here : look news (known_at new n) i ≡ end
  pub beside : (k : ℕ) → k < 31 → i ≢ k → look news (known_at new n) k ≡ look rows (known_at ks n) k
  pub other : (m k : ℕ) → k < 31 → n ≢ m → look news (known_at new m) k ≡ look rows (known_at ks m) k

-- 31 places more, and nothing is known of them: at each place stands what stood there before, or nothing.
pub record AddsPlaces (old new : List (Option NodePort)) : Type 0 where
  pub more : length new ≡ length old + 31
  pub same : (k : ℕ) → slice_index_or new k None ≡ slice_index_or old k None

-- A row more, of this number, in which two ends stand.
pub record AddsRow (at place : ℕ) (first second : Option NodePort) (old new : List (Option NodePort))
    (row : ℕ) : Type 0 where
  pub last : 31 * row ≡ length old
  pub more : length new ≡ length old + 31
  pub first_end : slice_index_or new (31 * row + at) None ≡ first
  pub second_end : slice_index_or new (31 * row + place) None ≡ second
  pub other : (k : ℕ) → 31 * row + at ≢ k → 31 * row + place ≢ k
      → slice_index_or new k None ≡ slice_index_or old k None
