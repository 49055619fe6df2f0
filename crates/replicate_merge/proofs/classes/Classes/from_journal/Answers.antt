use Rattle.replicate_merge.proofs.Wholes.{whole-shape, whole-stands, whole-table}
use Rattle.replicate_merge.proofs.classes.Classes.from_journal.Goals as goal

pub invariant_of-result : goal.invariant_of-result
invariant_of-result c = (whole-table c.args.j.now.host c.args.j.now.entries c.in_ok-walks.walks c.in_ok-walks.ensures c.requires.few c.in_ok-joined.joined c.in_ok-joined.ensures c.in_ok-asked.asked.items c.in_ok-asked.ensures c.in_ok-orphans.orphans c.in_ok-orphans.ensures, whole-shape c.args.j.now.host c.args.j.now.entries c.in_ok-walks.walks c.in_ok-walks.ensures c.requires.few c.in_ok-joined.joined c.in_ok-joined.ensures c.in_ok-asked.asked.items c.in_ok-asked.ensures c.in_ok-orphans.orphans c.in_ok-orphans.ensures, c.in_ok-joined.ensures.closed)

pub returns : goal.returns
returns c = whole-stands c.args.j.now.host c.args.j.now.entries c.in_ok-walks.walks c.in_ok-walks.ensures c.requires.few c.in_ok-joined.joined c.in_ok-joined.ensures c.in_ok-asked.asked.items c.in_ok-asked.ensures c.in_ok-orphans.orphans c.in_ok-orphans.ensures
