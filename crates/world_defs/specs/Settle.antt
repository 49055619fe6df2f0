-- What a settle is made of: what is unacknowledged, the expiries, when passes and rounds end, and what bounds them.
use Rattle.std.specs.Prelude.{ℕ, ◌+◌, ◌*◌, ◌-◌, Bool, not, ◌&&◌, ◌||◌, List, [], ◌∷◌, ◌++◌, map, length}
use Rattle.std.specs.Prelude.{nat_eq, nat_lt}
use Rattle.std.specs.List.{list_any, list_all, filter}
use Rattle.world_defs.specs.declared.event.Event.{Event}
use Rattle.world_defs.specs.declared.event.Event.TheVariants.{Expire}
use Rattle.world_defs.specs.Node.{lane_of, lane_at, unacknowledged_to}
use Rattle.world_defs.specs.World.{WorldState, node_at, addresses, last_count, has_to_send, sum_of}

-- how many fragments of a host's connections aren't acknowledged
abbrev pub unacknowledged_from : WorldState → ℕ → ℕ
unacknowledged_from w h = sum_of (map (unacknowledged_to (node_at w h)) (addresses w))

-- how many fragments aren't acknowledged, over all hosts
abbrev pub unacknowledged_in : WorldState → ℕ
unacknowledged_in w = sum_of (map (unacknowledged_from w) (addresses w))

-- an expiry for each peer to which something isn't acknowledged, of either priority
abbrev pub expiries_of : WorldState → ℕ → List Event
expiries_of w h = map (Expire h) (filter (λ p. nat_lt 0 (unacknowledged_to (node_at w h) p)) (addresses w))

-- the expiries of these hosts, in order
abbrev pub expiries_of_all : WorldState → List ℕ → List Event
expiries_of_all w [] = []
expiries_of_all w (h ∷ hs) = expiries_of w h ++ expiries_of_all w hs

-- the expiries of each two hosts, by host and then by peer
abbrev pub expiries : WorldState → List Event
expiries w = expiries_of_all w (addresses w)

-- the serials in limbo, rising
abbrev pub serials : WorldState → List ℕ
serials w = map (λ e. e.0) w.links.limbo

-- nothing is in limbo, and no host has anything to send that its cable takes
abbrev pub is_quiet : WorldState → Bool
is_quiet w = list_all (λ h. not (has_to_send w h)) (addresses w) && nat_eq (length w.links.limbo) 0

-- each pass but the last injects or replays; each injection adds at most one packet to limbo
abbrev pub pass_bound : WorldState → ℕ
pass_bound w = 2 * (last_count - w.injected) + length w.links.limbo + 1

-- the first number that isn't acknowledged, from a host to a peer, of a priority
abbrev pub base_of : WorldState → ℕ → ℕ → ℕ → ℕ
base_of w h peer prio = (lane_at (node_at w h) (lane_of peer prio)).sender.base

-- a base from a host to a peer rose, of either priority
abbrev pub rose_to : WorldState → WorldState → ℕ → ℕ → Bool
rose_to before w h peer = nat_lt (base_of before h peer 0) (base_of w h peer 0) || nat_lt (base_of before h peer 1)
    (base_of w h peer 1)

-- some connection's base rose
abbrev pub base_rose : WorldState → WorldState → Bool
base_rose before w = list_any (λ h. list_any (rose_to before w h) (addresses w)) (addresses w)

-- a round helped: a base rose, or a planned fault struck
abbrev pub has_helped : WorldState → WorldState → Bool
has_helped before w = base_rose before w || nat_lt before.struck w.struck

-- a round is the last where nothing is unacknowledged after it, or where it didn't help
abbrev pub is_last_round : WorldState → WorldState → Bool
is_last_round before w = nat_eq (unacknowledged_in w) 0 || not (has_helped before w)

-- each round but the last lowers the fragments that aren't acknowledged, or the planned faults
abbrev pub round_bound : WorldState → ℕ
round_bound w = unacknowledged_in w + length w.plan + 1
