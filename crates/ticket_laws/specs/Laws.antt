-- What holds of the sends, tickets and unfinished messages of any host that is ticketed.
use Rattle.std.specs.Prelude.{◌≡◌, ◌-◌, ℕ, List, length, replicate, slice_get, Result, Option, Some, option_map}
use Rattle.gm_defs.specs.declared.frame.FrameHead.{FrameHead}
use Rattle.gm_defs.specs.declared.frame.GmBody.{GmBody}
use Rattle.gm_defs.specs.declared.frame.Malformed.{Malformed}
use Rattle.gm_defs.specs.Fragment.{whole_below}
use Rattle.gm_defs.specs.Connection.{IsSender}
use Rattle.gm_defs.specs.Token.{PortState}
use Rattle.world_defs.specs.Lane.{Ticket, new_lane}
use Rattle.world_defs.specs.Node.{NodeState, lane_count, lane_at, due_frame, new_node}
use Rattle.world_defs.specs.Hearing.{messages_read, hear_body}
use Rattle.ticket_laws.specs.Host.{AreTicketed, Begins, AllApart, IsTicketed, IsBacked, IsInBuffer}

-- a host is ticketed before anything happened
abbrev pub NewIsTicketed : Type 0
NewIsTicketed = (hosts : ℕ) → IsTicketed Begins (new_node hosts).ports (new_node hosts).lanes

-- it stays so whatever body of messages it hears, where the numbers of its lanes are in order
abbrev pub HeardStaysTicketed : Type 0
HeardStaysTicketed = (host hosts : ℕ) (n : NodeState)
    → length n.lanes ≡ lane_count hosts → ((lane : ℕ) → IsSender (lane_at n lane).sender)
    → IsTicketed Begins n.ports n.lanes → (payload : List ℕ) (b : Result GmBody Malformed)
    → IsTicketed Begins (hear_body host hosts n (messages_read payload b)).1.ports
    (hear_body host hosts n (messages_read payload b)).1.lanes

-- a host that forgets what its lanes sent is backed, whatever its queues hold
abbrev pub ForgottenIsBacked : Type 0
ForgottenIsBacked = (count : ℕ) (ports : List (Option PortState)) → AllApart ports
    → IsBacked Begins ports (replicate count new_lane)

-- a host that is backed stays so whatever body of messages it hears, where the numbers of its lanes are in order
abbrev pub HeardStaysBacked : Type 0
HeardStaysBacked = (host hosts : ℕ) (n : NodeState)
    → length n.lanes ≡ lane_count hosts → ((lane : ℕ) → IsSender (lane_at n lane).sender)
    → IsBacked Begins n.ports n.lanes → (payload : List ℕ) (b : Result GmBody Malformed)
    → IsBacked Begins (hear_body host hosts n (messages_read payload b)).1.ports
    (hear_body host hosts n (messages_read payload b)).1.lanes

-- the bytes of a fragment that is due stand in the buffer of its ticket's send where the host is backed, too
abbrev pub BackedIsInBuffer : Type 0
BackedIsInBuffer = (host : ℕ) (n : NodeState) (lane : ℕ) → IsSender (lane_at n lane).sender
    → IsBacked Begins n.ports n.lanes → (h : FrameHead) (t : Ticket)
    → option_map (λ (f : FrameHead × List ℕ). f.0) (due_frame host n lane) ≡ Some h
    → slice_get (lane_at n lane).pending (whole_below (lane_at n lane).sent h.seq
    - whole_below (lane_at n lane).sent (lane_at n lane).sender.base) ≡ Some t → IsInBuffer host n lane h t

-- The ticket of a fragment that is due waits behind as many others as messages before it aren't finished; where each
-- buffer begins with its message's bytes, the fragment's bytes stand in that of the ticket's send.
abbrev pub DueIsInBuffer : Type 0
DueIsInBuffer = (host : ℕ) (n : NodeState) (lane : ℕ) → IsSender (lane_at n lane).sender
    → AreTicketed Begins n.ports n.lanes → (h : FrameHead) (t : Ticket)
    → option_map (λ (f : FrameHead × List ℕ). f.0) (due_frame host n lane) ≡ Some h
    → slice_get (lane_at n lane).pending (whole_below (lane_at n lane).sent h.seq
    - whole_below (lane_at n lane).sent (lane_at n lane).sender.base) ≡ Some t → IsInBuffer host n lane h t
