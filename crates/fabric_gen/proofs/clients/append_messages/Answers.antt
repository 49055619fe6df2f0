use Rattle.std.proofs.Common.{◌≡◌, ◌++◌, ◌∙◌, ap, arith}
use Rattle.std.specs.Prelude.{flat_map}
use Rattle.fabric_gen.specs.Text.{below, lines_text, messages_of}
use Rattle.fabric_gen.proofs.clients.append_messages.Goals as goal

pub returns : goal.returns
returns c =
    let all : c.loop-i.i ≡ c.args.n = omega arith in
    c.loop-i.invariant ∙ ap (λ k. c.args.text.now.items ++ lines_text (flat_map (messages_of c.args.n c.args.seed) (below k))) all
