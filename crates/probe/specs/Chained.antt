-- Chains of walks by buckets.
use Rattle.std.specs.Prelude.{◌≡◌, ◌≢◌, ℕ, zero, suc, ◌+◌, ◌*◌, ◌%◌, ◌<◌, ◌≤◌, ℤ, pos, ◌+ℤ◌, List, [], ◌∷◌, length}
use Rattle.std.specs.Prelude.{slice_get, slice_index_or, Some, if◌then◌else◌, nat_eq, unsigned_abs}

-- a hash with one turn more
abbrev pub mixed : ℕ → ℤ → ℕ
mixed hash turn = (1000003 * hash + unsigned_abs (turn +ℤ pos 128)) % 4294967296

-- a hash with more turns
abbrev pub hash_of : ℕ → List ℤ → ℕ
hash_of hash [] = hash
hash_of hash (turn ∷ turns) = hash_of (mixed hash turn) turns

-- the bucket of a walk, among so many
abbrev pub bucket_of : ℕ → List ℤ → ℕ
bucket_of buckets walk = hash_of 0 walk % buckets

-- the bucket of the walk at a place
abbrev pub bucket_at : ℕ → List (List ℤ) → ℕ → ℕ
bucket_at buckets walks at = bucket_of buckets (slice_index_or walks at [])

-- the latest of the first so many walks that is in a bucket, as place + 1; 0 where none is
abbrev pub latest_below : ℕ → List (List ℤ) → ℕ → ℕ → ℕ
latest_below buckets walks bucket zero = 0
latest_below buckets walks bucket (suc at) = if nat_eq (bucket_at buckets walks at) bucket then suc at
    else latest_below buckets walks bucket at

-- The latest walk of each bucket, and the one before each walk in its bucket.
pub record IsChained (walks : List (List ℤ)) (latest before : List ℕ) : Type 0 where
  pub counted : length before ≡ length walks
  pub latest_walk : (bucket : ℕ) → bucket < length latest
      → slice_get latest bucket ≡ Some (latest_below (length latest) walks bucket (length walks))
  pub walk_before : (at : ℕ) → at < length walks → slice_get before at
      ≡ Some (latest_below (length latest) walks (bucket_at (length latest) walks at) at)

-- A place, counted from 1, of a chain in which a walk is looked for: it stands there or before, if at all.
pub record IsInChain (buckets : ℕ) (walks : List (List ℤ)) (turns : List ℤ) (place : ℕ) : Type 0 where
  pub within : place ≤ length walks
  pub own : latest_below buckets walks (bucket_of buckets turns) place ≡ place
  pub passed : (at : ℕ) → place ≤ at → slice_get walks at ≢ Some turns

-- At a place, counted from 1, stands a walk that is another than this.
pub record IsOther (walks : List (List ℤ)) (place : ℕ) (turns : List ℤ) : Type 0 where
  pub at : ℕ
  pub place_at : place ≡ at + 1
  pub there : at < length walks
  pub other : slice_get walks at ≢ Some turns
