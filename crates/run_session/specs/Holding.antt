-- What a session's parts hold: the world of its slot, which is empty only while a map is made, and the links of walks.
use Rattle.std.specs.Prelude.{◌≡◌, ◌≤◌, [], Option, Some, None}
use Rattle.world_defs.specs.History.{CableHistory, fabric_at}
use Rattle.world_defs.specs.Links.{empty_links}
use Rattle.world_defs.specs.World.{WorldState, new_world}
use Rattle.run_session.specs.declared.walking.WalkLinks.{WalkLinks}

-- the world that a slot has; of an empty one this is a world of nothing, which no session shows
abbrev pub world_in : Option WorldState → WorldState
world_in None = new_world (record { hosts = []; switches = []; cables = [] })
world_in (Some w) = w

-- Links for walks: those, without packets, of the fabric as it stood when they were made.
pub record AreWalkLinks (h : CableHistory) (l : WalkLinks) : Type 0 where
  pub past : l.made ≤ h.changes
  pub empty : l.links ≡ empty_links (fabric_at h l.made)
