use Rattle.std.proofs.Common.{◌≡◌, vec_len, vec_capacity}
use Rattle.gm_tokens.specs.Minted.{tokens}
use Rattle.gm_tokens.proofs.bank.mint_recvs.Given as goal

abbrev pub invariant-loop-number : goal.invariant-loop-number
invariant-loop-number l = record {
  minted : l.room.items ≡ tokens l.host l.port l.number;
  len : vec_len l.room ≡ l.number;
  capacity : vec_capacity l.room ≡ vec_capacity l.initial.room;
}
