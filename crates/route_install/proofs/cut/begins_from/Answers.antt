use Rattle.std.proofs.Common.{sym, arith}
use Rattle.std.proofs.lemmas.Bool.{leb-true}
use Rattle.route_install.proofs.Cutting.{begins-from}
use Rattle.route_install.proofs.cut.begins_from.Goals as goal

pub returns-in-Some : goal.returns-in-Some
returns-in-Some c true_is =
    let least = leb-true _ _ true_is in
    begins-from c.args.limit c.args.routes.now c.in-Some.r.now c.requires (sym c.in-Some.ensures.value) (omega (arith, c.from.ensures))
