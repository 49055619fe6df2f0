-- Each injection is paid for: by an act that brings credit into the world.
use Rattle.std.specs.Prelude.{ℕ, ◌+◌, ◌-◌, ◌*◌, ◌≤◌, List, [], ◌∷◌, if◌then◌else◌}
use Rattle.net_defs.specs.Network.{Network}
use Rattle.gm_defs.specs.Fragment.{piece_count}
use Rattle.gm_defs.specs.Port.{is_too_long}
use Rattle.world_defs.specs.declared.event.Event.{Event}
use Rattle.world_defs.specs.declared.event.Event.TheVariants.{Ask, Part, Inject, Advance, Lose, Repeat, Hold, Flip}
use Rattle.world_defs.specs.declared.event.Event.TheVariants.{Replay}
use Rattle.world_defs.specs.declared.event.Event.TheVariants.{Reset, Expire, GiveUp, Begin, Close, Provide, Send}
use Rattle.world_defs.specs.declared.event.Event.TheVariants.{Poll, Revoke, Pull, Plug}
use Rattle.world_defs.specs.Node.{NodeState, lane_of, lane_at}
use Rattle.world_defs.specs.World.{WorldState, new_world, node_at}
use Rattle.world_defs.specs.Acts.{Act, Happens, Plans, Adopts, acted, acted_all}
use Rattle.injection_bounds.specs.Credit.{credit}

-- how many fragments of a lane were sent and aren't acknowledged
abbrev pub sent_ahead : NodeState → ℕ → ℕ
sent_ahead n lane = (lane_at n lane).sender.cursor - (lane_at n lane).sender.base

-- the credit that a message of this length brings, if it is accepted: two for each of its pieces
abbrev pub send_cost : ℕ → ℕ
send_cost len = if is_too_long len then 0 else 2 * piece_count len

-- The most credit that an event brings: a staged probe or part is sent and answered, a copy and a flip may ask for one
-- more answer, and what was sent is sent again. No injection, advance, replay, pull or plug brings any.
abbrev pub event_cost : WorldState → Event → ℕ
event_cost w (Ask h walk looped) = 2
event_cost w (Part dst part) = 2
event_cost w (Inject h) = 0
event_cost w (Advance c) = 0
event_cost w (Lose c) = 0
event_cost w (Repeat c) = 1
event_cost w (Hold c) = 0
event_cost w (Flip c bit pattern) = 1
event_cost w (Replay serial) = 0
event_cost w (Reset c) = 0
event_cost w (Expire h peer) =
    2 * (sent_ahead (node_at w h) (lane_of peer 0) + sent_ahead (node_at w h) (lane_of peer 1))
event_cost w (GiveUp h) = 0
event_cost w (Begin h port sends recvs) = 0
event_cost w (Close h port) = 0
event_cost w (Provide h port size prio) = 0
event_cost w (Send h port dest dport prio len seed) = send_cost len
event_cost w (Poll h port) = 0
event_cost w (Revoke h) = 0
event_cost w (Pull at) = 0
event_cost w (Plug a b) = 0

-- the most credit that an act brings: a plan brings its fault
abbrev pub cost : WorldState → Act → ℕ
cost w (Happens e) = event_cost w e
cost w (Plans ahead fault) = 1
cost w (Adopts mapper routes) = 0

-- the most that acts in order bring
abbrev pub costs : WorldState → List Act → ℕ
costs w [] = 0
costs w (a ∷ acts) = cost w a + costs (acted w a) acts

-- what was injected, and what is in store
abbrev pub account : WorldState → ℕ
account w = w.injected + credit w

-- Acts inject no more than they and the credit before them pay for.
abbrev pub InjectionsArePaid : Type 0
InjectionsArePaid = (w : WorldState) (acts : List Act) → account (acted_all w acts) ≤ account w + costs w acts

-- so from a fabric's new world on there are no more injections than acts paid for
abbrev pub InjectionsAreOfActs : Type 0
InjectionsAreOfActs = (n : Network) (acts : List Act)
    → (acted_all (new_world n) acts).injected ≤ costs (new_world n) acts
