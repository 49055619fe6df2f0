-- Where a walk leads (relative turns, SPAA 1997), what is true of its end, and the channels that it crosses.
use Rattle.std.specs.Prelude.{ℕ, ◌+◌, ◌*◌, ℤ, pos, ◌+ℤ◌, int_le, int_lt, nat_abs, ◌&&◌, List, [], ◌∷◌, ◌++◌}
use Rattle.std.specs.Prelude.{if◌then◌else◌, IsTrue, IfSome, Option, Some, None, option_map, option_and_then}
use Rattle.std.specs.Prelude.{option_to_list}
use Rattle.net_defs.specs.declared.vertex.Vertex.{Vertex}
use Rattle.net_defs.specs.declared.vertex.Vertex.TheVariants.{Host, Switch}
use Rattle.net_defs.specs.declared.vertex.End.{End}
use Rattle.net_defs.specs.declared.vertex.Cable.{Cable}
use Rattle.net_defs.specs.declared.place.Place.{Place}
use Rattle.net_defs.specs.declared.place.Place.TheVariants.{Host as AtHost, Switch as AtSwitch, Nothing as Stuck}
use Rattle.net_defs.specs.declared.place.Answer.{Answer}
use Rattle.net_defs.specs.declared.place.Answer.TheVariants.{Host as IsHost, Switch as IsSwitch, Nothing as IsNothing}
use Rattle.net_defs.specs.Network.{Network, ports_of, has_vertex, has_port, far, same_end}

-- the port that a turn leaves by, at a switch of so many ports that was entered by a port
abbrev pub leaving_port : ℕ → ℕ → ℤ → Option ℕ
leaving_port ports entry turn =
    if int_le (pos 0) (pos entry +ℤ turn) && int_lt (pos entry +ℤ turn) (pos ports)
    then Some (nat_abs (pos entry +ℤ turn)) else None

-- the end that a turn leaves by: none at a host, which takes no turn
abbrev pub exit_at : Network → Vertex → ℕ → ℤ → Option End
exit_at n (Host h) entry turn = None
exit_at n (Switch s) entry turn = option_map (λ p.
    record { v = Switch s; p = p }) (leaving_port (ports_of n (Switch s)) entry turn)

-- the end that is entered next, from the end entered last
abbrev pub turned : Network → Option End → ℤ → Option End
turned n None turn = None
turned n (Some e) turn = option_and_then (far n) (exit_at n e.v e.p turn)

-- the end that is entered last
abbrev pub entered_after : Network → Option End → List ℤ → Option End
entered_after n entered [] = entered
entered_after n entered (turn ∷ turns) = entered_after n (turned n entered turn) turns

-- a walk ends at a host, or at a switch that it entered by this port
abbrev pub place_at_vertex : Vertex → ℕ → Place
place_at_vertex (Host h) p = AtHost h
place_at_vertex (Switch s) p = AtSwitch s p

-- a walk ends at the end that it entered last, and is stuck where it entered none
abbrev pub place_at : Option End → Place
place_at None = Stuck
place_at (Some e) = place_at_vertex e.v e.p

-- a place is at a vertex of the fabric, unless the walk is stuck
abbrev pub IsPlaceOf : Network → Place → Type 0
IsPlaceOf n (AtHost h) = IsTrue (has_vertex n (Host h))
IsPlaceOf n (AtSwitch s p) = IsTrue (has_vertex n (Switch s))
IsPlaceOf n Stuck = Unit {0}

-- an end that was entered is a port of the fabric
abbrev pub IsEntered : Network → Option End → Type 0
IsEntered n entered = IfSome entered (λ e. IsTrue (has_port n e))

-- the port of a host
abbrev pub host_port : ℕ → End
host_port host = record { v = Host host; p = 0 }

-- The place of a walk from a host: a walk starts at the far end of its host's cable.
abbrev pub place : Network → ℕ → List ℤ → Place
place n host turns = place_at (entered_after n (far n (host_port host)) turns)

-- what a mapper may be told of a place
abbrev pub answer_at : Place → Answer
answer_at (AtHost h) = IsHost h
answer_at (AtSwitch s p) = IsSwitch
answer_at Stuck = IsNothing

-- the true answer to a walk
abbrev pub answer : Network → ℕ → List ℤ → Answer
answer n host turns = answer_at (place n host turns)

-- The channel that leaves by an end: cable k, counted from the first of these, has channel 2k from its first end and
-- 2k + 1 back.
abbrev pub channel_out : ℕ → List Cable → End → Option ℕ
channel_out k [] e = None
channel_out k (c ∷ cs) e = if same_end c.a e then Some (2 * k) else if same_end c.b e then Some (2 * k + 1)
    else channel_out (k + 1) cs e

-- the channel of the fabric that leaves by an end
abbrev pub channel_from : Network → End → Option ℕ
channel_from n e = channel_out 0 n.cables e

-- the channel that leaves by an end, if there is one
abbrev pub crossing : Network → Option End → List ℕ
crossing n exit = option_to_list (option_and_then (channel_from n) exit)

-- the end by which a packet leaves that left by an end before and then takes a turn
abbrev pub next_exit : Network → Option End → ℤ → Option End
next_exit n exit turn = option_and_then (λ e. exit_at n e.v e.p turn) (option_and_then (far n) exit)

-- the channels that are crossed from an exit on
abbrev pub channels_after : Network → Option End → List ℤ → List ℕ
channels_after n exit [] = crossing n exit
channels_after n exit (turn ∷ turns) = crossing n exit ++ channels_after n (next_exit n exit turn) turns

-- the channels that a walk from a host crosses, in order
abbrev pub channels_of : Network → ℕ → List ℤ → List ℕ
channels_of n host turns = channels_after n (Some (host_port host)) turns
