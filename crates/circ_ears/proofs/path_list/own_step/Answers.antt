use Rattle.std.proofs.Common.{◌≡◌, ◌∙◌, Some, None, sym, subst}
use Rattle.net_defs.specs.Route.{host_port}
use Rattle.circ_ears.specs.Taking.{step_from}
use Rattle.circ_ears.proofs.Finding.{own-below, own-found}
use Rattle.circ_ears.proofs.path_list.own_step.Goals as goal

pub returns-in-Some-clause-own : goal.returns-in-Some-clause-own
returns-in-Some-clause-own c =
    own-found c.args.f.now c.args.host c.loop-k.k c.cable.result c.in-Some.step c.cable.ensures
    (subst (λ d. step_from c.loop-k.k c.cable.result d ≡ Some c.in-Some.step) c.host_end-own.ensures (sym c.in-Some.ensures))

pub loop-k-preserved : goal.loop-k-preserved
loop-k-preserved c =
    own-below c.args.f.now (host_port c.args.host) c.loop-k.k c.cable.result c.cable.ensures
    (subst (λ d. step_from c.loop-k.k c.cable.result d ≡ None) c.host_end-own.ensures (sym c.step_from.ensures ∙ c.in_default.is))
    c.loop-k.invariant
