use Rattle.std.proofs.Common.{◌≡◌, ◌<◌, length, not, ap, arith}
use Rattle.std.specs.Prelude.{is_some}
use Rattle.journal_defs.specs.Growth.{crossed}
use Rattle.mapper.proofs.Telling.{tells-switch}
use Rattle.mapper.proofs.opening.open_node.Goals as goal

pub returns-then-turns-from-clause-tells : goal.returns-then-turns-from-clause-tells
returns-then-turns-from-clause-tells c =
    let l : length c.turns.result.now ≡ length c.args.e.now.walk = ap length c.turns.ensures.value in
    let f = c.from.ensures in
    let near : crossed c.args.e.now.walk < c.args.depth = (let t = c.if-turns-from.true in omega arith) in
    let told = is_some c.unexpanded.result in
    tells-switch c.args.classes.now c.args.e.now c.args.depth (not told) c.in-Switch.is near c.unexpanded.ensures.tells told (λ e. ap not e) (λ e. ap not e)
