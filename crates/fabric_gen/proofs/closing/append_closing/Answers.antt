use Rattle.std.proofs.Common.{[], ◌∷◌, ◌++◌, codes}
use Rattle.std.specs.Prelude.{flat_map}
use Rattle.std.proofs.lemmas.Result.{on_ok_weaker}
use Rattle.fabric_gen.specs.Text.{below, polls_of, settle_lines}
use Rattle.fabric_gen.proofs.Lines.{line_written, lines_written}
use Rattle.fabric_gen.proofs.closing.append_closing.Goals as goal

pub returns : goal.returns
returns c =
    on_ok_weaker c.append_line.result
    (λ e.
    lines_written c.args.text.now.items c.append_settle.new.text.items c.append_line.new.text.items settle_lines (flat_map polls_of (below c.args.n) ++ (codes "end" ∷ []) ∷ [])
    c.in_ok-append_settle.ensures
    (line_written c.append_settle.new.text.items c.append_polls.new.text.items c.append_line.new.text.items (flat_map polls_of (below c.args.n)) (codes "end" ∷ [])
    c.in_ok-append_polls.ensures e))
    c.append_line.ensures
