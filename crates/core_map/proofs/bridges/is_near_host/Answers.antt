use Rattle.std.proofs.Common.{sym, ◌∙◌}
use Rattle.core_map.proofs.Nearing.{near-host-at}
use Rattle.core_map.proofs.bridges.is_near_host.Goals as goal

pub returns-then-joins_host : goal.returns-then-joins_host
returns-then-joins_host c = λ t.
    near-host-at c.args.m.now c.cables-cables.result.now c.args.k c.loop-i.i c.args.v _ c.cables-cables.ensures.value c.cables-cables.ensures.is_map.is_map c.requires.vertex c.loop-i-test.true c.if-i-k.true (sym c.joins_host.ensures ∙ c.if-joins_host.true)
