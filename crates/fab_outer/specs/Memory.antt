-- What the source and the sink over memory do at a call.
use Rattle.std.specs.Prelude.{◌≡◌, ℕ, Bool, List, length, drop, min, nat_eq, if◌then◌else◌}
use Rattle.std.specs.List.{list_any}
use Rattle.fab_outer.specs.Fault.{one_more}

-- the bytes that are left, the most that go at a call, the numbers of the calls that fail, and how many calls were
-- made and failed
pub record SourceState : Type 0 where
  pub left : List ℕ
  pub piece : ℕ
  pub fail : List ℕ
  pub calls : ℕ
  pub failed : ℕ

-- the same of a sink, with the bytes that it took and how many more it takes without memory
pub record SinkState : Type 0 where
  pub taken : List ℕ
  pub room : ℕ
  pub piece : ℕ
  pub fail : List ℕ
  pub calls : ℕ
  pub failed : ℕ

-- whether the next call is one that fails; the first call has number 1
abbrev pub fails_next : List ℕ → ℕ → Bool
fails_next fail calls = list_any (λ call. nat_eq call (one_more calls)) fail

-- the source after a call that fails
abbrev pub source_failed : SourceState → SourceState
source_failed s = record s { calls = one_more s.calls; failed = one_more s.failed }

-- how many bytes go into so much room
abbrev pub amount : SourceState → ℕ → ℕ
amount s room = min s.piece (min room (length s.left))

-- the source after a call that moves bytes into so much room
abbrev pub source_moved : SourceState → ℕ → SourceState
source_moved s room = record s { left = drop (amount s room) s.left; calls = one_more s.calls }

-- how many of so many bytes a sink takes at a call
abbrev pub portion : SinkState → ℕ → ℕ
portion s len = min s.piece len

-- what a call that fails or not changes of a sink, beside the bytes
pub record IsSinkStep (old : SinkState) (failed : Bool) (new : SinkState) : Type 0 where
  pub same_piece : new.piece ≡ old.piece
  pub same_fail : new.fail ≡ old.fail
  pub one_call : new.calls ≡ one_more old.calls
  pub counted : new.failed ≡ (if failed then one_more old.failed else old.failed)
