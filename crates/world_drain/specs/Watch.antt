-- What a mapper looks for in what happens.
use Rattle.std.specs.Prelude.{ℕ, ◌+◌, Bool, false, ◌&&◌, ◌||◌, nat_eq, List, [], ◌∷◌, Option, Some, None}
use Rattle.std.specs.Prelude.{if◌then◌else◌}
use Rattle.world_defs.specs.declared.effect.Effect.{Effect}
use Rattle.world_defs.specs.declared.effect.Effect.TheVariants.{Arrived}
use Rattle.world_defs.specs.declared.heard.Heard.TheVariants.{RoutesAck}
use Rattle.world_defs.specs.Node.{either}
use Rattle.world_defs.specs.Drain.{changes}
use Rattle.world_defs.specs.Asking.{probed_host, reply_in, returned_in}
use Rattle.world_defs.specs.Install.{has_part_come}
use Rattle.world_drain.specs.declared.seen.AwaitedPart.{AwaitedPart}
use Rattle.world_drain.specs.declared.seen.Watch.{Watch}
use Rattle.world_drain.specs.declared.seen.Seen.{Seen}

-- the host of the awaited part heard a part
abbrev pub came_in : Option AwaitedPart → List Effect → Bool
came_in None xs = false
came_in (Some p) xs = has_part_come p.dst xs

-- the epoch of the first acknowledgement of a host's part that the mapper heard
abbrev pub acked_epoch : ℕ → ℕ → ℕ → List Effect → Option ℕ
acked_epoch mapper dst part [] = None
acked_epoch mapper dst part (Arrived h (RoutesAck epoch from p) ∷ xs) =
    if nat_eq h mapper && nat_eq from dst && nat_eq p part then Some epoch else acked_epoch mapper dst part xs
acked_epoch mapper dst part (_ ∷ xs) = acked_epoch mapper dst part xs

-- the epoch of the first acknowledgement of the awaited part that a mapper heard
abbrev pub acknowledged_in : ℕ → Option AwaitedPart → List Effect → Option ℕ
acknowledged_in mapper None xs = None
acknowledged_in mapper (Some p) xs = acked_epoch mapper p.dst p.part xs

-- what a mapper that watches sees in effects
abbrev pub seen_in : Watch → List Effect → Seen
seen_in watch xs = record {
  changes = changes xs;
  probed = probed_host xs;
  replied = reply_in watch.mapper watch.number xs;
  returned = returned_in watch.mapper watch.number xs;
  came = came_in watch.part xs;
  acknowledged = acknowledged_in watch.mapper watch.part xs;
}

-- what is seen first, and then what is seen after it
abbrev pub seen_then : Seen → Seen → Seen
seen_then a b = record {
  changes = a.changes + b.changes;
  probed = either a.probed b.probed;
  replied = either a.replied b.replied;
  returned = a.returned || b.returned;
  came = a.came || b.came;
  acknowledged = either a.acknowledged b.acknowledged;
}

-- a mapper heard of its own probe, where that was injected
abbrev pub is_own : ℕ → Option ℕ → (host number : ℕ) → Bool
is_own mapper None host number = false
is_own mapper (Some own) host number = nat_eq host mapper && nat_eq number own

-- a host is that of the awaited part
abbrev pub is_awaited_host : Option AwaitedPart → ℕ → Bool
is_awaited_host None host = false
is_awaited_host (Some p) host = nat_eq host p.dst

-- a mapper heard the acknowledgement of the awaited part from its host
abbrev pub is_own_ack : ℕ → Option AwaitedPart → (host from part : ℕ) → Bool
is_own_ack mapper None host from part = false
is_own_ack mapper (Some p) host from part = nat_eq host mapper && nat_eq from p.dst && nat_eq part p.part
