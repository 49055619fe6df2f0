-- What holds of every sender, and of every pair after every list of events.
use Rattle.std.specs.Prelude.{◌≡◌, ℕ, ◌-◌, true, List, length, slice_get, Some}
use Rattle.std.specs.List.{AllByRecursion}
use Rattle.gm_defs.specs.declared.message.Message.{Message}
use Rattle.gm_defs.specs.declared.frame.ConnectionKey.{ConnectionKey}
use Rattle.gm_defs.specs.Body.{is_prio}
use Rattle.gm_defs.specs.Fragment.{Fragment, fragments, whole_below, head_of}
use Rattle.gm_defs.specs.Connection.{due}
use Rattle.gm_conn.specs.declared.event.PairEvent.{PairEvent}
use Rattle.gm_conn.specs.declared.desc.Desc.{Desc}
use Rattle.gm_conn.specs.Halves.{Outgoing, IsOutgoing, WaitsFor, due_frame}
use Rattle.gm_conn.specs.Pair.{new_pair, after_all, IsFair, IsInOrder}

-- whatever is lost, repeated and delayed, what was taken is a prefix of what was offered
abbrev pub PairInOrder : Type 0
PairInOrder = (c : ConnectionKey) (events : List PairEvent) → is_prio c.prio ≡ true → AllByRecursion IsFair events
    → IsInOrder (after_all (new_pair c) events)

-- a sender whose descriptors are of the last messages of those whose fragments it has numbered has due the frame of
-- the fragment of that number, with the ticket of its message's descriptor
abbrev pub DueIsOfMessage : Type 0
DueIsOfMessage =
    (w : Outgoing) (sent : List Message) (n : ℕ) (f : Fragment) → IsOutgoing w → WaitsFor w sent
    → length (fragments sent) ≡ w.numbers.next → due w.numbers ≡ Some n → slice_get (fragments sent) n ≡ Some f
    → (d : Desc) × (slice_get w.waiting (whole_below sent n - (length sent - length w.waiting)) ≡ Some d)
    × (due_frame w ≡ Some (record { head = head_of w.key n f; ticket = d.ticket }))
