use Rattle.rank_cert.proofs.Crossed.{at-place}
use Rattle.rank_cert.proofs.crossings.crossing_at.Goals as goal

pub returns-then-place-table : goal.returns-then-place-table
returns-then-place-table c m ks are = at-place m ks c.args.table.now c.args.v c.args.k c.requires are
