-- What a world must be for a settle to end settled.
use Rattle.world_defs.specs.History.{fabric_at}
use Rattle.world_defs.specs.World.{WorldState}
use Rattle.world_defs.specs.Acts.{IsReached}

-- a world can settle where acts that may happen lead to it from the new one of the fabric that its cables made at first
pub record CanSettle (w : WorldState) : Type 0 where
  pub reached : IsReached (fabric_at w.links.cables 0) w
