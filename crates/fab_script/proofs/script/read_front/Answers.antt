use Rattle.std.proofs.Common.{◌≡◌, ◌+◌, ◌++◌, ◌∷◌, [], is_ok, ap, ◌∙◌, if◌then◌else◌}
use Rattle.fab_text.specs.Line.{TextLine, line_count, lines_left}
use Rattle.fab_script.specs.Parts.{front_part}
use Rattle.fab_script.proofs.Parts.{part-kept, sound-command}
use Rattle.fab_script.proofs.script.read_front.Goals as goal

pub lines-preserved : goal.lines-preserved
lines-preserved c =
    let done = c.lines.commands.items in
    let command = c.in-Ok.command in
    let pushed : c.push.new.self.items ≡ done ++ command ∷ [] = c.push.ensures.items ∙ ap (λ b. if b then done ++ command ∷ [] else done) c.if-is_err.ensures.negation in
    let past = c.args.past + line_count c.args.text.now in
    let l : TextLine = record { number = c.in-Some.number; bytes = c.in-Some.line.now; after = c.next_line.new.self.text } in
    record {
      same =
          part-kept c.args.every past c.args.f.now (front_part c.args.every past c.args.f.now (lines_left c.args.left.now)) done c.push.new.self.items
          (lines_left c.lines.left) (lines_left c.next_line.new.self)
          l command
          c.lines.invariant.same c.in-Some.ensures.lines c.if-is_end.ensures c.in-Ok.ensures.reading pushed;
      some_sound = λ more. c.lines.invariant.some_sound (sound-command c.args.every c.args.f.now (lines_left c.lines.left) (lines_left c.next_line.new.self) l c.in-Some.ensures.lines c.if-is_end.ensures (ap is_ok c.in-Ok.ensures.reading));
    }
