-- A printed number of 64 bits is read again.
use Rattle.std.proofs.Common.{◌≡◌, ◌-◌, ◌^◌, ℕ, Some, arith}
use Rattle.std.specs.Prelude.{decimal}
use Rattle.line_table.specs.Said.{value_said}
use Rattle.line_table.proofs.Numbers.{within-read}
use Rattle.judge_laws.specs.Lines.{IsCounted}

pub counted-read : (v : ℕ) → IsCounted v → value_said (decimal v) ≡ Some v
counted-read v fits = within-read (2 ^ 64 - 1) v (omega arith) fits
