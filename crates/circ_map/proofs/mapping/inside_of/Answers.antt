use Rattle.circ_map.proofs.Inward.{inside-ok, marked-core}
use Rattle.circ_map.proofs.mapping.inside_of.Goals as goal

pub without_outside-requires : goal.without_outside-requires
without_outside-requires c = marked-core c.in_ok-map.map c.mark_core.new.m c.in_ok-mark_core.ensures.marked

pub returns : goal.returns
returns c = inside-ok c.args.found.now.host c.args.found.now.entries c.in_ok-map.map c.mark_core.new.m c.without_outside.result c.in_ok-map.ensures c.in_ok-mark_core.ensures.marked c.without_outside.ensures.is
