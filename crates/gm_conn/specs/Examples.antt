-- A pair and a sender for worked examples.
use Rattle.std.specs.Prelude.{[], ◌∷◌}
use Rattle.gm_defs.specs.Connection.{connection}
use Rattle.gm_conn.specs.declared.desc.Desc.{Desc}
use Rattle.gm_conn.specs.declared.event.PairMsg.{PairMsg}
use Rattle.gm_conn.specs.declared.event.PairEvent.TheVariants.{Offer, Emit}
use Rattle.gm_conn.specs.Halves.{Outgoing, outgoing}
use Rattle.gm_conn.specs.Pair.{PairState, new_pair, after_all}

-- two messages
abbrev pub first_message : PairMsg
first_message = record { total = 1 }

-- the second of them
abbrev pub second_message : PairMsg
second_message = record { total = 2 }

-- both were offered and emitted
abbrev pub two_emitted : PairState
two_emitted = after_all (new_pair (connection 0 1 1)) (Offer 1 ∷ Offer 2 ∷ Emit ∷ Emit ∷ [])

-- two descriptors; the first is acknowledged, the second due again
abbrev pub done : Desc
done = record { ticket = 7; sport = 0; dport = 1; prio = 1; total = 1 }

-- the descriptor that waits behind it
abbrev pub late : Desc
late = record { ticket = 8; sport = 2; dport = 3; prio = 1; total = 1016 }

-- the sender with both
abbrev pub half_done : Outgoing
half_done = outgoing (connection 0 1 1) (record { base = 1; cursor = 1; top = 2; next = 2 }) (done ∷ late ∷ []) 0

-- the first fragment of a message of two was sent and the second is due; both were sent before
abbrev pub two_pieces : Outgoing
two_pieces = outgoing (connection 0 1 1) (record { base = 0; cursor = 1; top = 2; next = 2 })
    (record { ticket = 9; sport = 0; dport = 1; prio = 1; total = 1017 } ∷ []) 0

-- a pair whose only message has two fragments, both emitted
abbrev pub long_emitted : PairState
long_emitted = after_all (new_pair (connection 0 1 1)) (Offer 1017 ∷ Emit ∷ Emit ∷ [])
