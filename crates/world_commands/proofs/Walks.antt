-- Links that are empty before a walk: their cables are those of the fabric.
use Rattle.std.proofs.Common.{◌≡◌, ◌∙◌, sym, ap}
use Rattle.net_defs.specs.Network.{Network}
use Rattle.world_defs.specs.Links.{LinkState, bare_links, empty_links}
use Rattle.world_defs.specs.History.{fabric_now}
use Rattle.world_defs.proofs.First.{first_stands}

pub bare-empty : (l : LinkState) (n : Network) → l ≡ empty_links n → l ≡ bare_links l.cables
bare-empty l n empty = empty ∙ ap (λ (x : LinkState). bare_links x.cables) (sym empty)

pub now-empty : (l : LinkState) (n : Network) → l ≡ empty_links n → fabric_now l.cables ≡ n
now-empty l n empty = ap (λ (x : LinkState). fabric_now x.cables) empty ∙ (first_stands n 0).0
