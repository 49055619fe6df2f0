use Rattle.std.proofs.Common.{◌≤◌, length, not, arith}
use Rattle.std.specs.List.{position_or_len}
use Rattle.std.proofs.lemmas.List.Sums.{prefix_len-le-length}
use Rattle.fab_text.specs.Line.{is_line_end}
use Rattle.fab_text.proofs.line.split_line.Goals as goal

pub split_at-requires : goal.split_at-requires
split_at-requires c =
    let few : position_or_len is_line_end c.args.text.now ≤ length c.args.text.now = prefix_len-le-length (λ x. not (is_line_end x)) c.args.text.now in
    omega (arith, few, c.line_len.ensures)
