-- The hosts before have nothing to send, so those from here on decide.
use Rattle.std.proofs.Common.{◌≡◌, ◌-◌, not}
use Rattle.std.specs.List.{list_all, range_with_len}
use Rattle.world_defs.specs.World.{host_count, addresses, has_to_send}
use Rattle.world_drain.proofs.passes.none_sends.Given as goal

abbrev pub invariant-loop-host : goal.invariant-loop-host
invariant-loop-host l =
    list_all (λ h. not (has_to_send l.w h)) (range_with_len l.from (host_count l.w - l.from)) ≡ list_all (λ h. not (has_to_send l.w h)) (addresses l.w)

abbrev pub decreases-loop-host : goal.decreases-loop-host
decreases-loop-host l = host_count l.w - l.from
