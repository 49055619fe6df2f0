-- What is left of a fabric when the cable at a port is taken away.
use Rattle.std.specs.Prelude.{Bool, ◌||◌, List, [], ◌∷◌, if◌then◌else◌}
use Rattle.net_defs.specs.declared.vertex.End.{End}
use Rattle.net_defs.specs.declared.vertex.Cable.{Cable}
use Rattle.net_defs.specs.Network.{Network, same_end}

-- one of the cable's ends is this one
abbrev pub ends_at : End → Cable → Bool
ends_at e c = same_end c.a e || same_end c.b e

-- the cables without the first of those that end at a port
abbrev pub without_end : List Cable → End → List Cable
without_end [] e = []
without_end (c ∷ cs) e = if ends_at e c then cs else c ∷ without_end cs e

-- the fabric without the cable at a port: itself, where no cable ends there
abbrev pub without_cable : Network → End → Network
without_cable n e = record n { cables = without_end n.cables e }
