-- The accepted messages that weren't received.
use Rattle.std.specs.Prelude.{◌≡◌, ℕ, Bool, false, ◌&&◌, List, [], ◌∷◌, ◌++◌, map, length, drop, nat_eq}
use Rattle.std.specs.Prelude.{if◌then◌else◌, unwrap_or}
use Rattle.std.specs.Map.{lookup}
use Rattle.port_ledgers.specs.declared.lane.Lane.{Lane}
use Rattle.port_ledgers.specs.declared.lane.SentMessage.{SentMessage}
use Rattle.port_ledgers.specs.Told.{Told, is_lane, sent_message, sent_told, received_told}
use Rattle.port_ledgers.specs.Bytes.{counts_up}

-- the messages that wait on a lane, by the queues of lanes
abbrev pub waiting : List (Lane × List SentMessage) → Lane → List SentMessage
waiting q k = unwrap_or (lookup (is_lane k) q) []

-- On each lane what was sent is what was received, and then what waits.
pub record AreWaiting (past : List Told) (q : List (Lane × List SentMessage)) : Type 0 where
  pub each : (k : Lane) → sent_told k past ≡ received_told k past ++ map (sent_message k) (waiting q k)

-- one lane's messages are replaced, and the others' stay
pub record IsPut (before after : List (Lane × List SentMessage)) (l : Lane) (ms : List SentMessage) : Type 0 where
  pub each : (k : Lane) → waiting after k ≡ (if is_lane l k then ms else waiting before k)

-- the first message that waits is from this port and has these bytes
abbrev pub is_next : ℕ → List ℕ → List SentMessage → Bool
is_next sport body [] = false
is_next sport body (m ∷ ms) = nat_eq m.sport sport && nat_eq m.len (length body) && counts_up m.seed body

-- what waits after a message came: the first doesn't any more where it is that message
abbrev pub after_message : ℕ → List ℕ → List SentMessage → List SentMessage
after_message sport body ms = if is_next sport body ms then drop 1 ms else ms
