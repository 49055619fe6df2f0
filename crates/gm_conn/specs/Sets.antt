-- The sets of a host's lanes by which the next one is found, as marks of their numbers.
use Rattle.std.specs.Prelude.{◌≡◌, ℕ, ◌*◌, ◌^◌, ◌<◌, ◌≤◌, Bool, List, length, slice_index_or, nat_lt, is_some}
use Rattle.gm_defs.specs.Connection.{unacknowledged}
use Rattle.number_marks.specs.Marks.{mark_at, IsWritten}
use Rattle.number_marks.specs.Least.{mark_of}
use Rattle.gm_conn.specs.Lane.{HostLane, due_frame, AreNumbered}
use Rattle.gm_conn.specs.Lanes.{AreOf, nobody}

-- The lanes that owe an acknowledgement, those on which a frame is due, and those with something unacknowledged.
pub record Sets : Type 0 where
  pub owing : List ℕ
  pub due : List ℕ
  pub unacked : List ℕ

-- a lane owes an acknowledgement
abbrev pub is_owing : HostLane → Bool
is_owing p = p.state.owes

-- a frame is due on a lane
abbrev pub is_due : HostLane → Bool
is_due p = is_some (due_frame p)

-- something isn't acknowledged on a lane
abbrev pub is_unacked : HostLane → Bool
is_unacked p = nat_lt 0 (unacknowledged p.state.sender)

-- The words of each set are few, so that a lane's number is.
pub record AreFew (owing due unacked : List ℕ) : Type 0 where
  pub of_owing : length owing ≤ 2 ^ 12
  pub of_due : length due ≤ 2 ^ 12
  pub of_unacked : length unacked ≤ 2 ^ 12

-- A number has its place in each set.
pub record HasRoom (s : Sets) (n : ℕ) : Type 0 where
  pub of_owing : n < 64 * length s.owing
  pub of_due : n < 64 * length s.due
  pub of_unacked : n < 64 * length s.unacked

-- A set has room for so many numbers, and none of them.
pub record IsBareFor (words : List ℕ) (count : ℕ) : Type 0 where
  pub room : count ≤ 64 * length words
  pub bare : (k : ℕ) → mark_at words k ≡ 0

-- No number is in any set, and there is room for so many.
pub record AreBare (s : Sets) (count : ℕ) : Type 0 where
  pub owing : IsBareFor s.owing count
  pub due : IsBareFor s.due count
  pub unacked : IsBareFor s.unacked count

-- A number is in each set exactly where the lane passes its test; for other numbers nothing changes. The lane's own
-- numbers are in order.
pub record IsNoted (old new : Sets) (n : ℕ) (p : HostLane) : Type 0 where
  pub owing : IsWritten old.owing new.owing n (mark_of (is_owing p))
  pub due : IsWritten old.due new.due n (mark_of (is_due p))
  pub unacked : IsWritten old.unacked new.unacked n (mark_of (is_unacked p))
  pub numbered : AreNumbered p.state

-- The marked numbers are those of the lanes that pass a test, and each lane has its place.
pub record IsSetOf (test : HostLane → Bool) (ps : List HostLane) (words : List ℕ) : Type 0 where
  pub room : length ps ≤ 64 * length words
  pub marks : (k : ℕ) → mark_at words k ≡ mark_of (test (slice_index_or ps k nobody))

-- The lanes are those of the host, their numbers are in order, and the sets are of those that pass each test.
pub record AreTold (host hosts : ℕ) (ps : List HostLane) (s : Sets) : Type 0 where
  pub lanes : AreOf host hosts ps
  pub numbered : (lane : ℕ) → AreNumbered (slice_index_or ps lane nobody).state
  pub owing : IsSetOf is_owing ps s.owing
  pub due : IsSetOf is_due ps s.due
  pub unacked : IsSetOf is_unacked ps s.unacked
