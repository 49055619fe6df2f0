use Rattle.circ_map.proofs.Refusing.{journal-new, journal-next}
use Rattle.circ_map.proofs.mapping.journal_of.Goals as goal

pub put-requires : goal.put-requires
put-requires c = journal-new c.args.host c.args.found.now c.loop-at.at c.in_ok-e.e c.loop-at.journal c.requires c.in_ok-e.ensures c.loop-at.invariant

pub loop-at-preserved : goal.loop-at-preserved
loop-at-preserved c = journal-next c.args.host c.args.found.now c.loop-at.at c.in_ok-e.e c.loop-at.journal c.put.new.journal c.in_ok-e.ensures c.loop-at.invariant c.in_ok-put.ensures
