use Rattle.std.proofs.Common.{◌≡◌, ◌++◌, ◌∙◌, ap, arith}
use Rattle.std.specs.Prelude.{flat_map}
use Rattle.fabric_gen.specs.Text.{below, lines_text, message_lines}
use Rattle.fabric_gen.proofs.clients.append_messages_of.Goals as goal

pub returns : goal.returns
returns c =
    let all : c.loop-m.m ≡ 4 = omega arith in
    c.loop-m.invariant ∙ ap (λ k. c.args.text.now.items ++ lines_text (flat_map (message_lines c.args.n c.args.seed c.args.i) (below k))) all
