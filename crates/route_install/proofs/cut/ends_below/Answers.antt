use Rattle.std.proofs.Common.{sym, arith}
use Rattle.std.proofs.lemmas.Bool.{ltb-true}
use Rattle.route_install.proofs.Cutting.{all-below}
use Rattle.route_install.proofs.cut.ends_below.Goals as goal

pub returns-in-Some : goal.returns-in-Some
returns-in-Some c true_is =
    let below = ltb-true _ _ true_is in
    all-below c.args.limit c.args.routes.now c.in-Some.r.now c.requires (sym c.in-Some.ensures.value) (omega (arith, c.from.ensures))
