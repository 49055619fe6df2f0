-- The channels of cables that come and go: cable k has channel 2k, from its first end to its second, and 2k + 1 back,
-- also once it was pulled.
use Rattle.std.specs.Prelude.{ℕ, ◌+◌, ◌*◌, ◌/◌, ◌%◌, ℤ, Bool, false, not, ◌&&◌, nat_eq, List, [], ◌∷◌, ◌++◌, length}
use Rattle.std.specs.Prelude.{slice_get, if◌then◌else◌, Option, Some, None, option_map, option_and_then, option_to_list}
use Rattle.std.specs.Option.{option_map_or}
use Rattle.net_defs.specs.declared.vertex.End.{End}
use Rattle.net_defs.specs.Network.{same_end}
use Rattle.net_defs.specs.Route.{host_port, next_exit}
use Rattle.world_defs.specs.declared.wire.Wire.{Wire}
use Rattle.world_defs.specs.History.{CableHistory, fabric_by, stood_at, is_in_place, is_new_wire, with_pulled}

-- the channel that leaves by an end over the first of these cables that passes a test, the cables before these being k
abbrev pub channel_by : (Wire → Bool) → ℕ → List Wire → End → Option ℕ
channel_by test k [] e = None
channel_by test k (w ∷ ws) e =
    if test w && same_end w.cable.a e then Some (2 * k) else if test w && same_end w.cable.b e then Some (2 * k + 1)
    else channel_by test (k + 1) ws e

-- the channel that leaves by an end, over a cable in place
abbrev pub leaving : CableHistory → End → Option ℕ
leaving h e = channel_by is_in_place 0 h.wires e

-- the channels that are crossed from an exit on, over cables that pass a test: up to the first end without one
abbrev pub channels_by : CableHistory → (Wire → Bool) → Option End → List ℤ → List ℕ
channels_by h test exit [] = option_to_list (option_and_then (channel_by test 0 h.wires) exit)
channels_by h test exit (turn ∷ turns) =
    option_to_list (option_and_then (channel_by test 0 h.wires) exit)
    ++ channels_by h test (next_exit (fabric_by h test) exit turn) turns

-- the channels that a walk from a host crossed in the fabric as it stood after so many changes
abbrev pub channels_at : CableHistory → ℕ → ℕ → List ℤ → List ℕ
channels_at h k host turns = channels_by h (stood_at k) (Some (host_port host)) turns

-- the number of channels, those of pulled cables too
abbrev pub life_channels : CableHistory → ℕ
life_channels h = 2 * length h.wires

-- the end that a channel leaves
abbrev pub life_tail : CableHistory → ℕ → Option End
life_tail h c = option_map (λ w. if nat_eq (c % 2) 0 then w.cable.a else w.cable.b) (slice_get h.wires (c / 2))

-- the end that a channel enters
abbrev pub life_head : CableHistory → ℕ → Option End
life_head h c = option_map (λ w. if nat_eq (c % 2) 0 then w.cable.b else w.cable.a) (slice_get h.wires (c / 2))

-- a channel is over a cable in place
abbrev pub is_standing : CableHistory → ℕ → Bool
is_standing h c = option_map_or is_in_place (slice_get h.wires (c / 2)) false

-- a channel is over a new cable
abbrev pub is_new : CableHistory → ℕ → Bool
is_new h c = option_map_or (is_new_wire h) (slice_get h.wires (c / 2)) false

-- a channel is over a cable that was pulled since the cables were accepted
abbrev pub is_cut : CableHistory → ℕ → Bool
is_cut h c = option_map_or (λ w. stood_at h.accepted w && not (is_in_place w)) (slice_get h.wires (c / 2)) false

-- the cable of a channel is pulled, if there is one
abbrev pub pulled_with : CableHistory → Option ℕ → CableHistory
pulled_with h None = h
pulled_with h (Some c) = with_pulled h (c / 2)

-- The cable at a port is pulled, if it has one: never one that was pulled before, whose dates stay.
abbrev pub pulled_at : CableHistory → End → CableHistory
pulled_at h e = pulled_with h (leaving h e)
