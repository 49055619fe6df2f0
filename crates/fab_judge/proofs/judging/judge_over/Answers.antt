use Rattle.std.proofs.Common.{◌≡◌, ◌+◌, ap, ◌∙◌, refl, drop, rules, inr, Ok}
use Rattle.fab_text.specs.Line.{lines_left, line_count}
use Rattle.fab_script.specs.Parts.{script_part, PartGives}
use Rattle.fab_judge.specs.Verdicts.{IsVerdict}
use Rattle.fab_judge.proofs.Texts.{over-judged, over-accepted}
use Rattle.fab_judge.proofs.judging.judge_over.Goals as goal

pub judge_script-requires-clause-read : goal.judge_script-requires-clause-read
judge_script-requires-clause-read c = record { part = c.args.part; reading = c.requires.read; fabric = refl }

pub returns-in-Ok-clause-verdict : goal.returns-in-Ok-clause-verdict
returns-in-Ok-clause-verdict c =
    let t = c.args.part in
    let last = line_count c.args.text.now + 1 in
    let left = lines_left c.read_script_part.new.left in
    let at : c.numbered_from-left.result ≡ record { number = t.line + 1; text = drop t.next c.args.text.now } =
    c.numbered_from-left.ensures ∙ ap (λ xs. record { number = t.line + 1; text = xs }) c.split_at.ensures.back in
    let said : PartGives (script_part last t.fabric (lines_left c.numbered_from-left.result)) left (Ok c.in-Ok.script) = search rules in
    let verdict : IsVerdict t.fabric last c.in-Ok.script left c.judge_script.result = search rules in
    over-judged last c.args.text.now t c.numbered_from-left.result left c.in-Ok.script c.judge_script.result at said verdict

pub returns-in-Ok-clause-memory : goal.returns-in-Ok-clause-memory
returns-in-Ok-clause-memory c wanting =
    let t = c.args.part in
    let last = line_count c.args.text.now + 1 in
    let left = lines_left c.read_script_part.new.left in
    let at : c.numbered_from-left.result ≡ record { number = t.line + 1; text = drop t.next c.args.text.now } =
    c.numbered_from-left.ensures ∙ ap (λ xs. record { number = t.line + 1; text = xs }) c.split_at.ensures.back in
    let said : PartGives (script_part last t.fabric (lines_left c.numbered_from-left.result)) left (Ok c.in-Ok.script) = search rules in
    inr (over-accepted last c.args.text.now t c.numbered_from-left.result left c.in-Ok.script at said)
