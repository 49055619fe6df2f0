use Rattle.std.proofs.Common.{rules, ◌≡◌, [], ◌∷◌, ◌++◌, Some}
use Rattle.line_table.specs.Said.{byte_said, pairs_said}
use Rattle.report_lines.proofs.Pairs.{pairs-kept}
use Rattle.report_lines.proofs.bytes.read_pairs.Goals as goal

pub pairs-preserved : goal.pairs-preserved
pairs-preserved c =
    let a = c.in-Some.a.now in
    let b = c.in-Some-split_first.b.now in
    let x = c.in-Some-byte.x in
    let cut : c.pairs.left.now ≡ a ∷ b ∷ c.in-Some-split_first.rest.now = search rules in
    let read : byte_said a b ≡ Some x = search rules in
    let pushed : c.push.new.self.items ≡ c.pairs.bytes.items ++ x ∷ [] = search rules in
    let rest = c.in-Some-split_first.rest.now in
    pairs-kept (pairs_said c.args.word.now) c.pairs.bytes.items c.push.new.self.items c.pairs.left.now rest a b x
    c.pairs.invariant cut read pushed
