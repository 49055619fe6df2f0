use Rattle.std.proofs.Common.{subst}
use Rattle.world_defs.specs.History.{fabric_at}
use Rattle.world_defs.specs.Sound.{IsSound}
use Rattle.world_defs.specs.Traffic.{IsHonestTraffic}
use Rattle.message_laws.specs.Windows.{HasWindows}
use Rattle.message_laws.specs.Filling.{HasTiedParts}
use Rattle.message_laws.proofs.Sound.{reached-sound}
use Rattle.message_laws.proofs.Windows.{windows-hold}
use Rattle.message_laws.proofs.Honest.{traffic-honest}
use Rattle.message_laws.proofs.Matched.{queue-unfinished}
use Rattle.message_laws.proofs.Buffers.{provided-untouched}
use Rattle.message_laws.proofs.Fillings.{coming-tied}
use Rattle.fab_world.specs.Moments.{AreBuffersUntouched, AreQueuesUnfinished}
use Rattle.fab_world.proofs.world.World.moment.Goals as goal

pub returns-clause-sound : goal.returns-clause-sound
returns-clause-sound c = let w = c.self.inside.machine in subst IsSound c.self.view_is (reached-sound (fabric_at w.links.cables 0) w c.self.invariant.2)

pub returns-clause-windows : goal.returns-clause-windows
returns-clause-windows c = let w = c.self.inside.machine in subst HasWindows c.self.view_is (windows-hold (fabric_at w.links.cables 0) w c.self.invariant.2)

pub returns-clause-honest : goal.returns-clause-honest
returns-clause-honest c = let w = c.self.inside.machine in subst IsHonestTraffic c.self.view_is (traffic-honest (fabric_at w.links.cables 0) w c.self.invariant.2)

pub returns-clause-unfinished : goal.returns-clause-unfinished
returns-clause-unfinished c = let w = c.self.inside.machine in subst AreQueuesUnfinished c.self.view_is (queue-unfinished (fabric_at w.links.cables 0) w c.self.invariant.2)

pub returns-clause-untouched : goal.returns-clause-untouched
returns-clause-untouched c = let w = c.self.inside.machine in subst AreBuffersUntouched c.self.view_is (provided-untouched (fabric_at w.links.cables 0) w c.self.invariant.2)

pub returns-clause-parts : goal.returns-clause-parts
returns-clause-parts c = let w = c.self.inside.machine in subst HasTiedParts c.self.view_is (coming-tied (fabric_at w.links.cables 0) w c.self.invariant.2)
