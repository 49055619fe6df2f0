use Rattle.std.proofs.Common.{sym, ap, ◌∙◌}
use Rattle.std.specs.Option.{option_copied}
use Rattle.gm_conn.proofs.Waiting.{waits-short}
use Rattle.gm_conn.proofs.sender.Sender.whole_at.Goals as goal

pub piece_count-pieces-requires : goal.piece_count-pieces-requires
piece_count-pieces-requires c = waits-short _ c.args.place c.in-Some.d.now c.self.invariant.kept (sym c.get.ensures ∙ ap option_copied c.in-Some.is)
