use Rattle.std.proofs.Common.{◌<◌, ◌∙◌, ap, ◌++◌, ◌∷◌, [], length, arith}
use Rattle.fabric_wiring.proofs.Wirings.{ports-next}
use Rattle.fabric_wiring.proofs.tables.ports_of.Goals as goal

pub loop-s-preserved : goal.loop-s-preserved
loop-s-preserved c =
    let low : c.loop-s.s < length c.args.f.now.switches = (let test = c.loop-s-test.true in let count = c.switches-s-end.ensures.count in omega (arith, test, count)) in
    c.in_ok-push.ensures.items ∙ ap (λ l. l ++ c.ports.result ∷ []) c.loop-s.invariant ∙ ports-next c.args.f.now.switches c.loop-s.s c.ports.result low c.ports.ensures
