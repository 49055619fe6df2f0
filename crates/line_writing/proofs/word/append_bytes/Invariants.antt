use Rattle.std.proofs.Common.{◌≡◌, ◌≤◌, ◌+◌, ◌-◌, ◌++◌, length, take}
use Rattle.std.specs.Prelude.{vec_len, vec_capacity}
use Rattle.line_writing.proofs.word.append_bytes.Given as goal

abbrev pub invariant-loop-byte : goal.invariant-loop-byte
invariant-loop-byte l = (l.text.items ≡ l.initial.text.items ++ take l.byte-index l.bytes)
    × (vec_len l.text + (length l.bytes - l.byte-index) ≤ vec_capacity l.text)
