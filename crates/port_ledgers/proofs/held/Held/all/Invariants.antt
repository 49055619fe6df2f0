-- The tokens so far, and room for the others.
use Rattle.std.proofs.Common.{◌≡◌, vec_len, vec_capacity}
use Rattle.std.specs.List.{range_with_len}
use Rattle.port_ledgers.proofs.held.Held.all.Given as goal

abbrev pub invariant-loop-token : goal.invariant-loop-token
invariant-loop-token l = record {
  all : l.tokens.items ≡ range_with_len 0 l.token;
  len : vec_len l.tokens ≡ l.token;
  capacity : vec_capacity l.tokens ≡ vec_capacity l.initial.tokens;
}
