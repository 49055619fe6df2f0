use Rattle.route_making.proofs.Adoptable.{kept-adoptable, kept-named, kept-rise}
use Rattle.route_making.proofs.laws.routes_of_kept_maps.Goals as goal

pub returns-clause-adoptable : goal.returns-clause-adoptable
returns-clause-adoptable c = kept-adoptable

pub returns-clause-named : goal.returns-clause-named
returns-clause-named c n l k = (kept-rise n l k, kept-named n l k)
