use Rattle.std.proofs.Common.{List, sym, ap, subst}
use Rattle.route_install.specs.Collecting.{Numbered, AreNumbered, joined_all}
use Rattle.route_install.specs.Finding.{are_rising}
use Rattle.route_install.proofs.table.Table.new.Goals as goal

pub invariant_of-result : goal.invariant_of-result
invariant_of-result c = (subst AreNumbered (sym c.new.ensures.items) tt, ap (λ (l : List Numbered). are_rising (joined_all l)) (sym c.new-2.ensures.items))
