use Rattle.fab_world.proofs.Resting.{new-watched}
use Rattle.fab_world.proofs.machine.Machine.new.Goals as goal

pub invariant_of-result : goal.invariant_of-result
invariant_of-result c =
    new-watched c.in-Ok.hosts.items c.hosts-count.result c.in_ok-marks.marks c.in-Ok.ensures.hosts c.in-Ok.ensures.states c.in_ok-marks.ensures.awake c.in_ok-marks.ensures.busy
