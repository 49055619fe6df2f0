-- The core of a mapper's part: what no cable between two switches cuts off from all hosts (after Mainwaring et al.,
-- SPAA 1997, in a narrower sense).
use Rattle.std.specs.Prelude.{◌≡◌, ℕ, List}
use Rattle.net_defs.specs.declared.vertex.Vertex.{Vertex}
use Rattle.net_defs.specs.declared.vertex.Vertex.TheVariants.{Host, Switch}
use Rattle.net_defs.specs.declared.vertex.End.{End}
use Rattle.net_defs.specs.Network.{Network}
use Rattle.journal_defs.specs.Part.{IsInPart}
use Rattle.circ_defs.specs.Ways.{Joins, Step, IsWay, IsOneOf, cables_on}
use Rattle.circ_defs.specs.PathList.{Ear, IsPathList, cables_of}

-- A vertex on a side without hosts: a cable between two switches leads to the side that holds it, and each way from
-- there to a host crosses that cable.
pub record IsCutOff (n : Network) (x : Vertex) : Type 0 where
  pub bridge : ℕ
  pub from : End
  pub to : End
  pub joins : Joins n bridge from to
  pub s : ℕ
  pub t : ℕ
  pub from_switch : from.v ≡ Switch s
  pub to_switch : to.v ≡ Switch t
  pub steps : List Step
  pub way : IsWay n to.v steps x
  pub beside : ¬ IsOneOf bridge (cables_on steps)
  pub hostless : (h : ℕ) (ss : List Step) → IsWay n to.v ss (Host h) → IsOneOf bridge (cables_on ss)

-- a vertex of the core: one of the mapper's part that isn't cut off
pub record IsCore (n : Network) (host : ℕ) (x : Vertex) : Type 0 where
  pub in_part : IsInPart n host x
  pub kept : ¬ IsCutOff n x

-- a cable of the core: one between two of its vertices
pub record IsCoreCable (n : Network) (host k : ℕ) : Type 0 where
  pub from : End
  pub to : End
  pub joins : Joins n k from to
  pub first : IsCore n host from.v
  pub second : IsCore n host to.v

-- a path list of the core: its paths part the core's cables
pub record ArePathsOfCore (n : Network) (host : ℕ) (es : List Ear) : Type 0 where
  pub list : IsPathList n host es
  pub all : (k : ℕ) → IsCoreCable n host k → IsOneOf k (cables_of es)
  pub only : (k : ℕ) → IsOneOf k (cables_of es) → IsCoreCable n host k
