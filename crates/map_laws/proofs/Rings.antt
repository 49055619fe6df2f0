-- The depths of the worked fabrics, by the laws.
use Rattle.std.proofs.Common.{◌≡◌, ◌≤◌, ℕ, List, true, refl, arith, rules, inl}
use Rattle.net_defs.specs.declared.vertex.Vertex.TheVariants.{Host, Switch}
use Rattle.net_defs.specs.Network.{Network, IsFabric, has_vertex}
use Rattle.net_defs.specs.Examples.{self_cabled}
use Rattle.journal_defs.specs.declared.entry.Entry.{Entry}
use Rattle.journal_defs.specs.Fabrics.{parallel, line, ring_of_four, lonely_ring}
use Rattle.journal_defs.specs.Growth.{IsGrown, IsClosed}
use Rattle.journal_defs.specs.Truth.{IsTrueJournal}
use Rattle.journal_defs.specs.Part.{Path}
use Rattle.journal_defs.specs.Part.Path.{here, over}
use Rattle.journal_defs.specs.Depth.{IsSmallEnough, enough_depth}
use Rattle.map_laws.specs.GrowthExamples.{Closes, StaysOpen, looped, unrolled_ring}
use Rattle.map_laws.proofs.Covers.{cover-open}
use Rattle.map_laws.proofs.Depth.{depth_suffices, by-depth}
use Rattle.map_laws.proofs.Existence.{grown_journal_exists}
use Rattle.map_laws.proofs.Near.{few-by-count}
use Rattle.map_laws.proofs.Tight.{looped_is_fabric}

closes : (n : Network) (host depth : ℕ) → IsFabric n → has_vertex n (Host host) ≡ true → enough_depth n host ≤ depth → IsSmallEnough n host → Closes n host depth
closes n host depth f h deep small =
    let j = grown_journal_exists n host depth f in
    (j.0, j.1, depth_suffices n host depth j.0 f h deep small j.1 j.2)

lonely_ring_fabric : IsFabric lonely_ring
lonely_ring_fabric = record { few_hosts = omega arith; few_switches = omega arith; names_apart = search rules; port_counts = search rules; cabled_ports = search rules; ports_once = search rules }

ring_of_four_fabric : IsFabric ring_of_four
ring_of_four_fabric = record { few_hosts = omega arith; few_switches = omega arith; names_apart = search rules; port_counts = search rules; cabled_ports = search rules; ports_once = search rules }

line_fabric : IsFabric line
line_fabric = record { few_hosts = omega arith; few_switches = omega arith; names_apart = search rules; port_counts = search rules; cabled_ports = search rules; ports_once = search rules }

parallel_fabric : IsFabric parallel
parallel_fabric = record { few_hosts = omega arith; few_switches = omega arith; names_apart = search rules; port_counts = search rules; cabled_ports = search rules; ports_once = search rules }

self_cabled_fabric : IsFabric self_cabled
self_cabled_fabric = record { few_hosts = omega arith; few_switches = omega arith; names_apart = search rules; port_counts = search rules; cabled_ports = search rules; ports_once = search rules }

unrolled_ring_fabric : IsFabric unrolled_ring
unrolled_ring_fabric = record { few_hosts = omega arith; few_switches = omega arith; names_apart = search rules; port_counts = search rules; cabled_ports = search rules; ports_once = search rules }

pub lonely_ring_closes : Closes lonely_ring 0 7
lonely_ring_closes = closes lonely_ring 0 7 lonely_ring_fabric refl (omega arith) (inl (omega arith))

pub ring_of_four_closes : Closes ring_of_four 0 6
ring_of_four_closes = closes ring_of_four 0 6 ring_of_four_fabric refl (omega arith) (inl (omega arith))

pub line_closes : Closes line 0 7
line_closes = closes line 0 7 line_fabric refl (omega arith) (inl (omega arith))

pub parallel_closes : Closes parallel 0 5
parallel_closes = closes parallel 0 5 parallel_fabric refl (omega arith) (inl (omega arith))

pub self_cabled_closes : Closes self_cabled 0 5
self_cabled_closes = closes self_cabled 0 5 self_cabled_fabric refl (omega arith) (inl (omega arith))

pub looped_closes : Closes looped 0 3
looped_closes = closes looped 0 3 looped_is_fabric refl (omega arith) (inl (omega arith))

-- To depth 4 the ring's journal is that of the line, where the sixth switch lies four cables away.
to_the_end : Path unrolled_ring (Host 0) 4 (Switch 5)
to_the_end = over (over (over (over here 0 2 refl) 0 1 refl) 0 1 refl) 0 1 refl

ring-open : (j : List Entry) → IsTrueJournal lonely_ring 0 j → IsGrown 0 4 j → ¬ IsClosed 0 j
ring-open j all g =
    let kept = few-by-count lonely_ring 0 4 j lonely_ring_fabric refl all g.growing (omega arith) in
    cover-open lonely_ring unrolled_ring 0 3 5 j unrolled_ring_fabric refl all g.growing (by-depth 0 4 j kept g.ended) refl to_the_end refl

pub lonely_ring_open : StaysOpen lonely_ring 0 4
lonely_ring_open =
    let j = grown_journal_exists lonely_ring 0 4 lonely_ring_fabric in
    (j.0, j.1, j.2, ring-open j.0 j.1 j.2)
