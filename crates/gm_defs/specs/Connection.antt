-- The numbers of a connection, from one host to another and of one priority. Its fragments are numbered from 0.
use Rattle.std.specs.Prelude.{ℕ, ◌+◌, ◌-◌, ◌≤◌, Bool, ◌&&◌, nat_lt, nat_le, nat_eq, max, if◌then◌else◌, Option, Some}
use Rattle.std.specs.Prelude.{None}
use Rattle.gm_defs.specs.declared.frame.Ack.{Ack}
use Rattle.gm_defs.specs.declared.frame.ConnectionKey.{ConnectionKey}
use Rattle.gm_defs.specs.declared.frame.GmBody.{GmBody}
use Rattle.gm_defs.specs.declared.frame.GmBody.TheVariants.{Frame, Ack as Acknowledges}
use Rattle.gm_defs.specs.declared.token.Took.{Took}
use Rattle.gm_defs.specs.declared.token.Took.TheVariants.{NotNext, NoToken, Part, Whole}
use Rattle.gm_defs.specs.Body.{number_limit}

-- a connection by its hosts and its priority
abbrev pub connection : ℕ → ℕ → ℕ → ConnectionKey
connection src dst prio = record { src = src; dst = dst; prio = prio }

-- The connection that a body belongs to: a frame's goes from its sender to its receiver, an acknowledgement's the
-- other way.
abbrev pub key_of : GmBody → ConnectionKey
key_of (Frame h) = connection h.src h.dst h.prio
key_of (Acknowledges a) = connection a.dst a.src a.prio

-- the acknowledgement that goes back on a connection, where so many fragments were taken
abbrev pub ack_on : ConnectionKey → ℕ → Ack
ack_on c taken = record { src = c.dst; dst = c.src; prio = c.prio; next = taken }

-- A sender has the first number that isn't acknowledged, the next to send, one past the greatest ever sent, and one
-- past the last offered.
pub record SenderState : Type 0 where
  pub base : ℕ
  pub cursor : ℕ
  pub top : ℕ
  pub next : ℕ

-- A sender's numbers rise in order, up to the limit.
pub record IsSender (s : SenderState) : Type 0 where
  pub base_below : s.base ≤ s.cursor
  pub cursor_below : s.cursor ≤ s.top
  pub top_below : s.top ≤ s.next
  pub in_range : s.next ≤ number_limit

-- the most fragments that are sent and not acknowledged
abbrev pub window : ℕ
window = 8

-- nothing offered, from a first number on
abbrev pub starting : ℕ → SenderState
starting first = record { base = first; cursor = first; top = first; next = first }

-- the number that is due
abbrev pub due : SenderState → Option ℕ
due s = if nat_lt s.cursor s.next && nat_lt s.cursor (s.base + window) then Some s.cursor else None

-- the due fragment is sent
abbrev pub sent_one : SenderState → SenderState
sent_one s = record s { cursor = s.cursor + 1; top = max s.top (s.cursor + 1) }

-- an acknowledgement is taken where it says more than is known, and no more than was sent
abbrev pub is_taken : SenderState → ℕ → Bool
is_taken s n = nat_lt s.base n && nat_le n s.top

-- then it is the new base, and nothing below it is sent again
abbrev pub acknowledged : SenderState → ℕ → SenderState
acknowledged s n = if is_taken s n then record s { base = n; cursor = max s.cursor n } else s

-- what isn't acknowledged is sent again
abbrev pub expired : SenderState → SenderState
expired s = record s { cursor = s.base }

-- how many fragments aren't acknowledged, sent or not
abbrev pub unacknowledged : SenderState → ℕ
unacknowledged s = s.next - s.base

-- so many fragments more would need a number above the greatest
abbrev pub is_spent : SenderState → ℕ → Bool
is_spent s count = nat_lt number_limit (s.next + count)

-- so many fragments are offered
abbrev pub offered : SenderState → ℕ → SenderState
offered s count = record s { next = s.next + count }

-- what was taken, by whether it was the last fragment of its message
abbrev pub taken_as : Bool → Took
taken_as last = if last then Whole else Part

-- a receiver that has taken so many fragments makes this of a number, with or without a token that takes the fragment,
-- and with the last fragment of its message or with an earlier one
abbrev pub took : ℕ → ℕ → Bool → Bool → Took
took taken seq fits last = if nat_eq seq taken then if fits then taken_as last else NoToken else NotNext

-- how many it has taken then
abbrev pub taken_after : ℕ → Took → ℕ
taken_after taken Whole = taken + 1
taken_after taken Part = taken + 1
taken_after taken NoToken = taken
taken_after taken NotNext = taken
