-- Worlds for worked examples: cables of the two hosts at one switch are pulled and plugged.
use Rattle.std.specs.Prelude.{ℕ, pos, false, List, [], ◌∷◌}
use Rattle.net_defs.specs.declared.vertex.End.{End}
use Rattle.net_defs.specs.Examples.{two_hosts, host_end, switch_end}
use Rattle.world_defs.specs.declared.event.Event.{Event}
use Rattle.world_defs.specs.declared.event.Event.TheVariants.{Ask, Inject, Repeat, Revoke, Pull, Plug}
use Rattle.world_defs.specs.declared.effect.Effect.{Effect}
use Rattle.world_defs.specs.declared.fault.Fault.TheVariants.{Pull as PullFault}
use Rattle.world_defs.specs.World.{WorldState, new_world, adopted_by, adoption_of, planned}
use Rattle.world_defs.specs.Step.{step, steps, after_all}
use Rattle.world_defs.specs.Log.{Log}
use Rattle.world_defs.specs.Logs.{Rounds, settle, AskedAll, asks, install}
use Rattle.world_defs.specs.Examples.{walks_of_setup, setup_routes, setup, ready, opened, provide, send, poll_receiver}
use Rattle.world_defs.specs.Examples.{on_its_way}

-- the port of host 1, and that of the switch to which it is cabled
abbrev pub b_end : End
b_end = host_end 1

abbrev pub s_end : End
s_end = switch_end 0 5

-- host 1 loses its cable, and a pull at the other end of it finds none
abbrev pub parted : List Effect × WorldState
parted = steps (new_world two_hosts) (Pull b_end ∷ Pull s_end ∷ [])

-- three plugs that aren't possible, since a port has a cable, the two are equal, or there is no such port; and one that
-- is
abbrev pub plugs : List Effect × WorldState
plugs = steps parted.1
    (Plug b_end (switch_end 0 2) ∷ Plug b_end b_end ∷ Plug b_end (switch_end 0 8) ∷ Plug b_end (switch_end 0 6) ∷ [])

-- the cable of host 0 is pulled, with the frame on it and a copy in limbo that was taken from it
abbrev pub taken_away : WorldState
taken_away = after_all on_its_way (Repeat 0 ∷ Pull (host_end 0) ∷ [])

-- the cable of host 1 is pulled while the frame is on that of host 0
abbrev pub cut_off : WorldState
cut_off = (step on_its_way (Pull s_end)).1

-- and host 1 gets a new one
abbrev pub renewed : WorldState
renewed = (step cut_off (Plug b_end s_end)).1

-- host 0 has a message to send
abbrev pub to_be_sent : WorldState
to_be_sent = after_all ready (opened 1 1 (provide 0 ∷ send 3 65 ∷ []))

-- and no cable
abbrev pub uncabled : WorldState
uncabled = (step to_be_sent (Pull (host_end 0))).1

-- and then a new one, into which its message doesn't go
abbrev pub kept_in : List Effect × WorldState
kept_in = steps uncabled (Plug (host_end 0) (switch_end 0 2) ∷ Inject 0 ∷ [])

-- but a probe does
abbrev pub probed : List Effect × WorldState
probed = steps kept_in.1 (Ask 0 (pos 3 ∷ []) false ∷ Inject 0 ∷ [])

-- at the injection of its message the cable at a port is pulled
abbrev pub pulled_at_once : End → List Effect × WorldState
pulled_at_once at = steps (planned to_be_sent 1 (PullFault at)).1 (Inject 0 ∷ [])

-- the 31 answers to host 0, where the cable of host 1 is pulled at the 37th injection, the probe that would reach it
abbrev pub parting_map : Log AskedAll
parting_map = asks 0 0 1 walks_of_setup (planned (new_world two_hosts) 37 (PullFault s_end)).1

-- after the set-up, a message of host 0, and the cable of host 1 is pulled before it is sent
abbrev pub cut_calls : List Effect × WorldState
cut_calls = steps setup (opened 1 1 (provide 0 ∷ send 1 7 ∷ Pull s_end ∷ []))

-- its settle
abbrev pub cut_settled : Log Rounds
cut_settled = settle cut_calls.1

-- host 1 gets a new cable, and the world is settled again
abbrev pub renewed_settled : Log Rounds
renewed_settled = settle (step cut_settled.world (Plug b_end s_end)).1

-- the map of the fabric as it stands then, after two changes
abbrev pub second_map : Log AskedAll
second_map = asks 2 0 1 walks_of_setup renewed_settled.world

-- both hosts give up the first epoch
abbrev pub given_up : List Effect × WorldState
given_up = steps second_map.world (Revoke 0 ∷ Revoke 1 ∷ [])

-- the routes are adopted and installed anew
abbrev pub second_install : Log ℕ
second_install =
    install (adoption_of given_up.1 0 setup_routes) (0 ∷ 1 ∷ []) 1 (adopted_by given_up.1 0 setup_routes)

-- the settle then
abbrev pub second_settled : Log Rounds
second_settled = settle second_install.world

-- host 1 takes the message
abbrev pub second_poll : List Effect × WorldState
second_poll = steps second_settled.world (poll_receiver ∷ [])
