-- Worlds for worked examples: the two hosts at one switch, mapped, routed and set up.
use Rattle.std.specs.Prelude.{ℕ, ℤ, pos, negsuc, false, List, [], ◌∷◌, ◌++◌, map, codes, Option}
use Rattle.std.specs.List.{range_with_len}
use Rattle.net_defs.specs.declared.route.Route.{Route}
use Rattle.net_defs.specs.Examples.{two_hosts}
use Rattle.world_defs.specs.Links.{Held}
use Rattle.gm_defs.specs.Body.{frame_bytes}
use Rattle.world_defs.specs.Mapping.{RoutePart}
use Rattle.gm_defs.specs.Examples.{message, abc}
use Rattle.world_defs.specs.declared.event.Event.{Event}
use Rattle.world_defs.specs.declared.event.Event.TheVariants.{Inject, Advance, Lose as LoseEvent, Flip as FlipEvent}
use Rattle.world_defs.specs.declared.event.Event.TheVariants.{Begin, Close, Provide, Send, Poll, Revoke}
use Rattle.world_defs.specs.declared.effect.Effect.{Effect}
use Rattle.world_defs.specs.declared.effect.Effect.TheVariants.{Said}
use Rattle.world_defs.specs.declared.effect.Said.TheVariants.{Received}
use Rattle.world_defs.specs.declared.fault.Fault.{Fault}
use Rattle.world_defs.specs.declared.fault.Fault.TheVariants.{Lose, Repeat, Hold, Flip}
use Rattle.world_defs.specs.Table.{Adoption, TableState, part_for}
use Rattle.world_defs.specs.Lane.{new_lane}
use Rattle.world_defs.specs.Node.{lane_of, with_lane}
use Rattle.world_defs.specs.World.{WorldState, new_world, node_at, with_node, adopted_by, planned}
use Rattle.world_defs.specs.Step.{step, steps, after_all}
use Rattle.world_defs.specs.Log.{Log}
use Rattle.world_defs.specs.Logs.{Rounds, settle, AskedAll, asks, install}

-- the turns from -15 to 15 other than 0
abbrev pub onward : List ℤ
onward = map (λ k. negsuc k) (14 ∷ 13 ∷ 12 ∷ 11 ∷ 10 ∷ 9 ∷ 8 ∷ 7 ∷ 6 ∷ 5 ∷ 4 ∷ 3 ∷ 2 ∷ 1 ∷ 0 ∷ [])
    ++ map pos (range_with_len 1 15)

-- the empty walk, and one turn from where it ends
abbrev pub walks_of_setup : List (List ℤ)
walks_of_setup = [] ∷ map (λ t. t ∷ []) onward

-- the 31 answers to host 0, with one try each
abbrev pub setup_map : Log AskedAll
setup_map = asks 0 0 1 walks_of_setup (new_world two_hosts)

-- the routes of the two hosts: from port 4 of the switch to port 7, and back
abbrev pub setup_routes : List Route
setup_routes = record { from = 0; to = 1; walk = pos 3 ∷ [] } ∷ record { from = 1; to = 0; walk = negsuc 2 ∷ [] } ∷ []

-- host 0 adopts them
abbrev pub setup_adoption : Adoption
setup_adoption = record { mapper = 0; epoch = 1; at = 0; routes = setup_routes }

-- how many hosts have their tables once they are installed, and the world then
abbrev pub setup_install : Log ℕ
setup_install = install setup_adoption (0 ∷ 1 ∷ []) 1 (adopted_by setup_map.world 0 setup_routes)

-- the two hosts with their tables
abbrev pub setup : WorldState
setup = setup_install.world

-- ports 0 of host 0 and 1 of host 1 with so many tokens, and so many buffers of 8 bytes provided
abbrev pub opened : ℕ → ℕ → List Event → List Event
opened sends recvs rest = Begin 0 0 sends 0 ∷ Begin 1 1 0 recvs ∷ rest

-- host 1 provides a buffer of 8 bytes, for messages of a priority
abbrev pub provide : ℕ → Event
provide prio = Provide 1 1 4 prio

-- a message of a priority from port 0 of host 0 to port 1 of host 1
abbrev pub send_of : ℕ → ℕ → ℕ → Event
send_of prio len seed = Send 0 0 1 1 prio len seed

-- a message of priority 0
abbrev pub send : ℕ → ℕ → Event
send len seed = send_of 0 len seed

-- host 1 takes an event of its port
abbrev pub poll_receiver : Event
poll_receiver = Poll 1 1

-- host 0 takes an event of its port
abbrev pub poll_sender : Event
poll_sender = Poll 0 0

-- faults for injections so far ahead
abbrev pub planned_all : WorldState → List (ℕ × Fault) → List ℕ × WorldState
planned_all w [] = ([], w)
planned_all w (f ∷ fs) = (
  (planned w f.0 f.1).0 ∷ (planned_all (planned w f.0 f.1).1 fs).0,
  (planned_all (planned w f.0 f.1).1 fs).1,
)

-- a message of a priority and of these bytes came into the buffer of a token
abbrev pub received_of : ℕ → ℕ → List ℕ → Effect
received_of prio token body = Said (Received token 0 0 prio body)

-- a message of priority 0
abbrev pub received : ℕ → List ℕ → Effect
received token body = received_of 0 token body

-- three messages; the first frame is copied, the second is lost, the fourth packet is held
abbrev pub three_calls : List Effect × WorldState
three_calls = steps setup (opened 3 3 (provide 0 ∷ provide 0 ∷ provide 0 ∷ send 1 10 ∷ send 1 20 ∷ send 1 30 ∷ []))

-- the faults of their injections
abbrev pub three_plans : List ℕ × WorldState
three_plans = planned_all three_calls.1 ((1, Repeat) ∷ (2, Lose) ∷ (4, Hold) ∷ [])

-- the settle of the three messages
abbrev pub three_settled : Log Rounds
three_settled = settle three_plans.1

-- host 1 takes all three
abbrev pub three_polls : List Effect × WorldState
three_polls = steps three_settled.world (poll_receiver ∷ poll_receiver ∷ poll_receiver ∷ [])

-- one message of the bytes `ABC`, the frame of which is flipped in its route byte and in its type
abbrev pub abc_calls : List Effect × WorldState
abc_calls = steps setup (opened 1 1 (provide 0 ∷ send 3 65 ∷ []))

-- its first frame is injected
abbrev pub abc_injected : WorldState
abc_injected = (step abc_calls.1 (Inject 0)).1

-- the settle of the message whose frame is flipped
abbrev pub abc_settled : Log Rounds
abc_settled = settle (planned abc_calls.1 1 (Flip 6 193)).1

-- host 1 takes the message, and host 0 its token
abbrev pub abc_polls : List Effect × WorldState
abc_polls = steps abc_settled.world (poll_receiver ∷ poll_sender ∷ [])

-- a message for which no token fits, until one is provided
abbrev pub waiting : Log Rounds
waiting = settle (steps setup (opened 1 2 (provide 1 ∷ send 2 1 ∷ []))).1

-- nothing came, and a token that fits is provided
abbrev pub provided_late : List Effect × WorldState
provided_late = steps waiting.world (poll_receiver ∷ provide 0 ∷ [])

-- the settle once a token fits
abbrev pub served : Log Rounds
served = settle provided_late.1

-- host 1 takes the message that waited
abbrev pub served_poll : List Effect × WorldState
served_poll = steps served.world (poll_receiver ∷ [])

-- a message of each priority, and a token for that of priority 1 alone
abbrev pub two_priorities : List Effect × WorldState
two_priorities = steps setup (opened 2 1 (provide 1 ∷ send_of 0 1 1 ∷ send_of 1 1 2 ∷ []))

-- their settle
abbrev pub priorities_settled : Log Rounds
priorities_settled = settle two_priorities.1

-- host 1 takes the one that came
abbrev pub priorities_polls : List Effect × WorldState
priorities_polls = steps priorities_settled.world (poll_receiver ∷ poll_receiver ∷ [])

-- two messages, step by step: the channels of host 0 are 0 and 1, and 3 leads from the switch to host 1
abbrev pub stepwise : List Effect × WorldState
stepwise =
    steps (steps setup (opened 2 2 (provide 0 ∷ provide 0 ∷ send 1 1 ∷ send 1 2 ∷ []))).1
    (Inject 0 ∷ Advance 0 ∷ Inject 0 ∷ Inject 0 ∷ Advance 0 ∷ Advance 3 ∷ Advance 0 ∷ LoseEvent 3 ∷ [])

-- the settle of the two messages
abbrev pub stepwise_settled : Log Rounds
stepwise_settled = settle stepwise.1

-- host 1 takes both
abbrev pub stepwise_polls : List Effect × WorldState
stepwise_polls = steps stepwise_settled.world (poll_receiver ∷ poll_receiver ∷ [])

-- the two hosts with their tables, installed on the new world
abbrev pub ready : WorldState
ready = (install setup_adoption (0 ∷ 1 ∷ []) 1 (adopted_by (new_world two_hosts) 0 setup_routes)).world

-- the message `ABC` was sent to a token that fits, and its frame is in the channel that leaves host 0
abbrev pub on_its_way : WorldState
on_its_way = after_all ready (opened 1 1 (provide 0 ∷ send 3 65 ∷ Inject 0 ∷ []))

-- that frame: a route byte, the type, the body, and the CRC byte
abbrev pub abc_frame : Held
abc_frame = record { wire = 131 ∷ 0 ∷ 8 ∷ frame_bytes abc (codes "ABC") ++ 146 ∷ []; marked = false; born = 1 }

-- the frame has gone on to the second channel of its route
abbrev pub further_on : WorldState
further_on = (step on_its_way (Advance 0)).1

-- the frame there, without its route byte
abbrev pub abc_further_on : Held
abc_further_on = record { wire = 0 ∷ 8 ∷ frame_bytes abc (codes "ABC") ++ 6 ∷ []; marked = false; born = 1 }

-- the frame was flipped in its route byte and in its type
abbrev pub spoiled : WorldState
spoiled = (step on_its_way (FlipEvent 0 6 193)).1

-- host 1 has put an empty message into its port, which host 0 didn't send
abbrev pub forged : WorldState
forged = with_node on_its_way 1 (with_lane (node_at on_its_way 1) (lane_of 0 0)
    (record new_lane { got = message [] ∷ [] }))

-- a message waits for a token that fits, after a settle
abbrev pub unserved : WorldState
unserved = (settle (after_all ready (opened 1 2 (provide 1 ∷ send 2 1 ∷ [])))).world

-- A message of two fragments and a buffer of 2,040 bytes for it: its first fragment comes, and host 1 would close its
-- port.
abbrev pub long_calls : List Effect × WorldState
long_calls = steps ready
    (opened 1 1 (Provide 1 1 11 0 ∷ send 1017 5 ∷ Inject 0 ∷ Advance 0 ∷ Advance 3 ∷ Close 1 1 ∷ []))

-- its settle
abbrev pub long_settled : Log Rounds
long_settled = settle long_calls.1

-- host 1 takes it
abbrev pub long_polls : List Effect × WorldState
long_polls = steps long_settled.world (poll_receiver ∷ [])

-- host 0 gives up the first epoch
abbrev pub given_up_by_one : List Effect × WorldState
given_up_by_one = steps ready (Revoke 0 ∷ [])

-- and then host 1 too
abbrev pub given_up_by_both : List Effect × WorldState
given_up_by_both = steps given_up_by_one.1 (Revoke 1 ∷ [])

-- host 1 adopts the routes again, and so begins the second epoch
abbrev pub second_epoch : WorldState
second_epoch = adopted_by given_up_by_both.1 1 setup_routes

-- the routes as host 1 adopted them
abbrev pub second_adoption : Adoption
second_adoption = record { mapper = 1; epoch = 2; at = 0; routes = setup_routes }

-- the part that host 1 got in the first epoch
abbrev pub first_part : Option RoutePart
first_part = part_for setup_adoption 1 0

-- the part that host 0 gets in the second
abbrev pub second_part : Option RoutePart
second_part = part_for second_adoption 0 0

-- the tables of both hosts
abbrev pub tables_in : WorldState → List TableState
tables_in w = map (λ n. n.table) w.nodes
