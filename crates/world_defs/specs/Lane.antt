-- A lane of a host: its connections with one peer of one priority, what it sends there and what it takes from there.
use Rattle.std.specs.Prelude.{ℕ, ◌-◌, Bool, true, false, List, [], ◌∷◌, ◌++◌, length, take, drop}
use Rattle.gm_defs.specs.declared.message.Message.{Message}
use Rattle.gm_defs.specs.declared.token.Took.{Took}
use Rattle.gm_defs.specs.declared.token.Took.TheVariants.{NotNext, NoToken, Part, Whole}
use Rattle.gm_defs.specs.Fragment.{piece_count, whole_below}
use Rattle.gm_defs.specs.Connection.{SenderState, starting, sent_one, acknowledged, expired, offered, taken_after}

-- A ticket names the port and the token of a send that isn't finished.
pub record Ticket : Type 0 where
  pub port : ℕ
  pub token : ℕ

-- The numbers of the sender, the messages accepted for the peer, those of them that aren't finished, in order; the
-- messages taken whole from the peer, the bytes that came so far of the one that is taken in part, how many of its
-- fragments were taken, and whether it is owed an acknowledgement. All are of one priority.
pub record LaneState : Type 0 where
  pub sender : SenderState
  pub sent : List Message
  pub pending : List Ticket
  pub got : List Message
  pub coming : List ℕ
  pub taken : ℕ
  pub owes : Bool

-- nothing sent, nothing taken
abbrev pub new_lane : LaneState
new_lane = record {
  sender = starting 0;
  sent = [];
  pending = [];
  got = [];
  coming = [];
  taken = 0;
  owes = false;
}

-- a message was accepted for the peer
abbrev pub with_message : LaneState → Message → Ticket → LaneState
with_message l m ticket = record l {
  sender = offered l.sender (piece_count (length m.body));
  sent = l.sent ++ m ∷ [];
  pending = l.pending ++ ticket ∷ [];
}

-- how many messages an acknowledgement finishes: those whose last fragment it is the first to acknowledge
abbrev pub finished_by : LaneState → ℕ → ℕ
finished_by l next = whole_below l.sent (acknowledged l.sender next).base - whole_below l.sent l.sender.base

-- an acknowledgement came: the numbers go on, and what is finished waits no more
abbrev pub lane_acknowledged : LaneState → ℕ → LaneState
lane_acknowledged l next = record l {
  sender = acknowledged l.sender next;
  pending = drop (finished_by l next) l.pending;
}

-- the sends that it finished
abbrev pub tickets_finished : LaneState → ℕ → List Ticket
tickets_finished l next = take (finished_by l next) l.pending

-- what isn't acknowledged is sent again
abbrev pub lane_expired : LaneState → LaneState
lane_expired l = record l { sender = expired l.sender }

-- the due fragment was sent
abbrev pub lane_sent_one : LaneState → LaneState
lane_sent_one l = record l { sender = sent_one l.sender }

-- the acknowledgement was sent
abbrev pub lane_answered : LaneState → LaneState
lane_answered l = record l { owes = false }

-- a message whose last bytes these are, after those that came before
abbrev pub ending : List ℕ → Message → Message
ending coming m = record m { body = coming ++ m.body }

-- the message of a frame, here with the bytes of its fragment alone, joins those taken whole where that was its last
abbrev pub got_after : List Message → List ℕ → Took → Message → List Message
got_after got coming NotNext m = got
got_after got coming NoToken m = got
got_after got coming Part m = got
got_after got coming Whole m = got ++ ending coming m ∷ []

-- the bytes of the message that is taken in part: an earlier fragment's come to them, and the last one leaves none
abbrev pub coming_after : List ℕ → Took → Message → List ℕ
coming_after coming NotNext m = coming
coming_after coming NoToken m = coming
coming_after coming Part m = coming ++ m.body
coming_after coming Whole m = []

-- a frame came, and this was made of it: whatever it is, an acknowledgement is owed
abbrev pub lane_after : LaneState → Took → Message → LaneState
lane_after l t m = record l {
  got = got_after l.got l.coming t m;
  coming = coming_after l.coming t m;
  taken = taken_after l.taken t;
  owes = true;
}
