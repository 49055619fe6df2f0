use Rattle.std.proofs.Common.{sym, subst}
use Rattle.ask_laws.specs.Premises.{HasStood}
use Rattle.world_asking.proofs.Standing.{stands-now}
use Rattle.world_asking.proofs.prober.WorldProber.new.Goals as goal

pub invariant_of-result : goal.invariant_of-result
invariant_of-result c = record {
  stood =
      subst (λ made. HasStood made c.args.world.links.cables) (sym c.changes-made.ensures)
      (stands-now c.args.world.links.cables c.moment.ensures.kept.history);
  there = c.requires.there;
  some = c.requires.some;
  few = c.requires.few;
}
