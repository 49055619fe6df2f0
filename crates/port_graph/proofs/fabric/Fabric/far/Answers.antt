use Rattle.std.proofs.Common.{◌≡◌, false, sym, ap, subst, ◌∙◌, arith}
use Rattle.std.proofs.lemmas.Bool.Decides.{nat_tests}
use Rattle.net_defs.specs.Network.{IsFabric, has_port, far}
use Rattle.net_defs.specs.Route.{IsEntered}
use Rattle.net_defs.specs.declared.vertex.End.{End}
use Rattle.net_defs.proofs.Places.{far-there}
use Rattle.port_graph.proofs.Possible.{far-outside}
use Rattle.port_graph.proofs.fabric.Fabric.far.Goals as goal

pub returns-else-p-ports-clause-end : goal.returns-else-p-ports-clause-end
returns-else-p-ports-clause-end c =
    let fabric : IsFabric c.args.self.now = subst IsFabric c.self.view_is c.self.invariant in
    let out : has_port c.args.self.now (record { v = c.args.v; p = c.args.p }) ≡ false = grind (arith, nat_tests) in
    sym (far-outside c.args.self.now (record { v = c.args.v; p = c.args.p }) fabric out)

pub returns-then-p-ports-clause-there : goal.returns-then-p-ports-clause-there
returns-then-p-ports-clause-there c =
    let e : End = record { v = c.args.v; p = c.args.p } in
    let fabric : IsFabric c.args.self.now = subst IsFabric c.self.view_is c.self.invariant in
    subst (IsEntered c.args.self.now) (sym (c.far.ensures ∙ ap (λ n. far n e) c.self.view_is)) (far-there c.args.self.now e fabric)
