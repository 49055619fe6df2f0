-- The pieces of a message.
use Rattle.std.proofs.Common.{◌≡◌, ◌≤◌, ◌+◌, ◌*◌, ℕ, zero, suc, [], ◌∷◌, ◌++◌, length, take, drop, sym, ap, ◌∙◌, arith}
use Rattle.std.proofs.lemmas.List.{take-append-drop, drop_all, take_all, drop-drop}
use Rattle.gm_defs.specs.declared.message.Message.{Message}
use Rattle.gm_defs.specs.Body.{piece}
use Rattle.gm_defs.specs.Fragment.{piece_count, pieces_from, joined}
use Rattle.gm_defs.specs.Laws.{PiecesMakeMessage, ShortIsOnePiece}

joined-from : (m : Message) (k offset : ℕ) → length m.body ≤ offset + k * piece → joined (pieces_from m k offset) ≡ drop offset m.body
joined-from m zero offset h = sym (drop_all offset m.body (grind (arith)))
joined-from m (suc k) offset h =
    ap (λ rest. take piece (drop offset m.body) ++ rest) (joined-from m k (offset + piece) (grind (arith)) ∙ sym (drop-drop piece offset m.body))
    ∙ take-append-drop piece (drop offset m.body)

enough : (n : ℕ) → n ≤ 0 + piece_count n * piece
enough n = grind (arith)

pub joined-pieces : PiecesMakeMessage
joined-pieces m = joined-from m (piece_count (length m.body)) 0 (enough (length m.body))

one : (n : ℕ) → n ≤ piece → piece_count n ≡ 1
one n h = grind (arith)

pub short-pieces : ShortIsOnePiece
short-pieces m h = ap (λ k. pieces_from m k 0) (one (length m.body) h) ∙ ap (λ part. record { message = m; offset = 0; part = part } ∷ []) (take_all piece m.body h)
