-- What a world is, and how it is read and changed.
use Rattle.std.specs.Prelude.{ℕ, ◌+◌, ◌-◌, ◌^◌, Bool, false, not, ◌&&◌, List, [], ◌∷◌, length, min, replicate, find}
use Rattle.std.specs.Prelude.{slice_index_or, slice_set, nat_eq, if◌then◌else◌, Option, Some, None}
use Rattle.std.specs.Option.{option_map_or}
use Rattle.std.specs.List.{list_any, range_with_len}
use Rattle.std.specs.Map.{remove_entry}
use Rattle.std.specs.BTreeMap.{insert_entry}
use Rattle.std.specs.Ordering.{nat_cmp}
use Rattle.net_defs.specs.declared.route.Route.{Route}
use Rattle.net_defs.specs.Network.{Network}
use Rattle.net_defs.specs.Route.{host_port}
use Rattle.world_defs.specs.History.{fabric_now}
use Rattle.world_defs.specs.Crossed.{leaving, is_new}
use Rattle.world_defs.specs.Links.{LinkState, empty_links}
use Rattle.world_defs.specs.Fault.{accept}
use Rattle.world_defs.specs.declared.fault.Fault.{Fault}
use Rattle.world_defs.specs.declared.standing.Standing.{Standing}
use Rattle.world_defs.specs.Table.{Adoption, whole_table, has_revoked, epoch_in, keeps_in, may_adopt_in, adopted_in}
use Rattle.world_defs.specs.Node.{NodeState, Outgoing, is_message, to_send, new_node, port_count}
use Rattle.world_defs.specs.Client.{ClientState}

-- A world has the links with their cables, the hosts by address, the clients by host and port, where it is open, the
-- adopted routes, and the planned faults by injection. It counts injections, dropped packets and planned faults that
-- struck, and of these those that lost, held or flipped their packet.
pub record WorldState : Type 0 where
  pub links : LinkState
  pub nodes : List NodeState
  pub clients : List (List (Option ClientState))
  pub adopted : Option Adoption
  pub plan : List (ℕ × Fault)
  pub injected : ℕ
  pub dropped : ℕ
  pub struck : ℕ
  pub harmed : ℕ

-- the fabric of a world, as it stands
abbrev pub fabric_of : WorldState → Network
fabric_of w = fabric_now w.links.cables

-- the number of hosts
abbrev pub host_count : WorldState → ℕ
host_count w = length w.nodes

-- the world of a fabric before anything happened
abbrev pub new_world : Network → WorldState
new_world n = record {
  links = empty_links n;
  nodes = replicate (length n.hosts) (new_node (length n.hosts));
  clients = replicate (length n.hosts) (replicate port_count None);
  adopted = None;
  plan = [];
  injected = 0;
  dropped = 0;
  struck = 0;
  harmed = 0;
}

-- the last value of a count of 64 bits
abbrev pub last_count : ℕ
last_count = 2 ^ 64 - 1

-- a count that is one greater, and stays at its last value
abbrev pub counted : ℕ → ℕ
counted n = min (n + 1) last_count

-- a host
abbrev pub node_at : WorldState → ℕ → NodeState
node_at w h = slice_index_or w.nodes h (new_node 0)

-- the world with this host at an address
abbrev pub with_node : WorldState → ℕ → NodeState → WorldState
with_node w h n = record w { nodes = slice_set w.nodes h n }

-- the world with these links
abbrev pub with_links : WorldState → LinkState → WorldState
with_links w l = record w { links = l }

-- the client of a host's port
abbrev pub client_at : WorldState → ℕ → ℕ → Option ClientState
client_at w h port = slice_index_or (slice_index_or w.clients h []) port None

-- the world with this client of a host's port, or without one
abbrev pub with_client : WorldState → ℕ → ℕ → Option ClientState → WorldState
with_client w h port c = record w { clients = slice_set w.clients h (slice_set (slice_index_or w.clients h []) port c) }

-- one packet more was dropped
abbrev pub with_drop : WorldState → WorldState
with_drop w = record w { dropped = counted w.dropped }

-- the faults, by rising injection, without that of this one
abbrev pub without_fault : ℕ → List (ℕ × Fault) → List (ℕ × Fault)
without_fault number fs = remove_entry (nat_eq number) fs

-- the faults, by rising injection, with one for this injection, in the place of an earlier one
abbrev pub with_fault : ℕ → Fault → List (ℕ × Fault) → List (ℕ × Fault)
with_fault number fault fs = insert_entry nat_cmp fs number fault

-- a fault is planned for an injection so far ahead, in place of one planned for it before; the answer is that
-- injection's number
abbrev pub planned : WorldState → ℕ → Fault → ℕ × WorldState
planned w ahead fault = (w.injected + ahead, record w { plan = with_fault (w.injected + ahead) fault w.plan })

-- the numbers of the peers
abbrev pub addresses : WorldState → List ℕ
addresses w = range_with_len 0 (host_count w)

-- the epoch of the adopted set; 0 before the first adoption
abbrev pub epoch_of : WorldState → ℕ
epoch_of w = epoch_in w.adopted

-- the first host that hasn't given up an epoch
abbrev pub first_unrevoked : WorldState → ℕ → Option ℕ
first_unrevoked w epoch = find (λ h. not (has_revoked epoch (node_at w h).table)) (addresses w)

-- some host has given up an epoch
abbrev pub is_any_revoked : WorldState → ℕ → Bool
is_any_revoked w epoch = list_any (λ h. has_revoked epoch (node_at w h).table) (addresses w)

-- how a world stands to the epoch of its adopted set
abbrev pub standing_of : WorldState → Standing
standing_of w = record {
  unrevoked = first_unrevoked w (epoch_of w);
  revoked = is_any_revoked w (epoch_of w);
  changes = w.links.cables.changes;
}

-- a world keeps its epoch where these routes are adopted
abbrev pub keeps_epoch : WorldState → List Route → Bool
keeps_epoch w routes = keeps_in (standing_of w) routes w.adopted

-- routes may be adopted in a world, as far as its epoch goes
abbrev pub may_adopt : WorldState → List Route → Bool
may_adopt w routes = may_adopt_in (standing_of w) routes w.adopted

-- what an adoption of routes by a mapper leaves adopted
abbrev pub adoption_of : WorldState → ℕ → List Route → Adoption
adoption_of w mapper routes = adopted_in (standing_of w) mapper routes w.adopted

-- a set of routes is adopted by a mapper, whose table is whole at once; where that begins an epoch, no cable is new any
-- more
abbrev pub adopted_by : WorldState → ℕ → List Route → WorldState
adopted_by w mapper routes =
    record (with_node w mapper
    (record (node_at w mapper) { table = whole_table routes mapper (adoption_of w mapper routes).epoch })) {
      links = if keeps_epoch w routes then w.links else accept w.links;
      adopted = Some (adoption_of w mapper routes);
    }

-- a new cable keeps out what its host sends on adopted routes
abbrev pub keeps_out : WorldState → ℕ → Outgoing → Bool
keeps_out w c out = is_new w.links.cables c && is_message out

-- what a host sends first may go into its channel
abbrev pub may_send : WorldState → ℕ → Option Outgoing → Bool
may_send w c None = false
may_send w c (Some out) = not (keeps_out w c out)

-- A host has something to send: not where it has no cable, nor where its cable is new and it has messages alone.
abbrev pub has_to_send : WorldState → ℕ → Bool
has_to_send w h =
    option_map_or (λ c. may_send w c (to_send h (node_at w h))) (leaving w.links.cables (host_port h)) false

-- the sum of numbers
abbrev pub sum_of : List ℕ → ℕ
sum_of [] = 0
sum_of (x ∷ xs) = x + sum_of xs
