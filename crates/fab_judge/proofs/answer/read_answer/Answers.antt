use Rattle.std.proofs.Common.{◌≡◌, ◌+◌, ap, sym, ◌∙◌, subst, Ok, Err}
use Rattle.std.proofs.lemmas.Result.{IfOk-weaker}
use Rattle.fab_judge.specs.Reading.{AreNumbered, begun, Gives, next_said}
use Rattle.fab_judge.specs.Past.{known_in}
use Rattle.fab_judge.specs.Answers.{GivesAnswer, more_lines}
use Rattle.fab_judge.specs.Blocks.{block_by}
use Rattle.fab_judge.proofs.AnswerLines.{answer-begins, answer-wrong, answer-stopped, read-numbered}
use Rattle.fab_judge.proofs.answer.read_answer.Goals as goal

pub returns-then-may_answer-clause-said : goal.returns-then-may_answer-clause-said
returns-then-may_answer-clause-said c =
    let r = c.args.reader.now in
    let f = c.args.f.now in
    let k = known_in c.args.past.now in
    let left = c.next_said.new.self.left in
    let now = c.read_block.new.reader.left in
    let said = subst (λ s. next_said s.past f s.left ≡ Ok ((c.in-Ok.number, c.in-Ok.line), left)) c.begin.ensures c.in-Ok.ensures.said in
    let same : c.next_said.new.self.past ≡ r.past = c.in-Ok.ensures.read.past ∙ ap (λ s. s.past) c.begin.ensures in
    let block = subst (λ p. GivesAnswer (block_by c.block_in-block.result c.in-Ok.number c.in-Ok.line k p f left) now c.read_block.result) same c.read_block.ensures.said in
    answer-begins c.args.command.now k r.past f r.left left now c.in-Ok.number c.in-Ok.line c.read_block.result said (sym c.if-may_answer.ensures)
    (subst (λ b. GivesAnswer (block_by b c.in-Ok.number c.in-Ok.line k r.past f left) now c.read_block.result) c.block_in-block.ensures block)

pub returns-then-may_answer-clause-numbered : goal.returns-then-may_answer-clause-numbered
returns-then-may_answer-clause-numbered c =
    IfOk-weaker c.read_block.result (λ a. AreNumbered c.next_said.new.self c.read_block.new.reader (more_lines a)) (λ a. AreNumbered (begun c.args.reader.now) c.read_block.new.reader (more_lines a + 1))
    (λ a h. read-numbered c.args.reader.now c.begin.new.self c.next_said.new.self c.read_block.new.reader a c.begin.ensures c.in-Ok.ensures.read h) c.read_block.ensures.numbered

pub returns-else-may_answer-clause-said : goal.returns-else-may_answer-clause-said
returns-else-may_answer-clause-said c =
    let r = c.args.reader.now in
    let f = c.args.f.now in
    let left = c.next_said.new.self.left in
    let said = subst (λ s. next_said s.past f s.left ≡ Ok ((c.in-Ok.number, c.in-Ok.line), left)) c.begin.ensures c.in-Ok.ensures.said in
    answer-wrong c.args.command.now (known_in c.args.past.now) r.past f r.left left c.in-Ok.number c.in-Ok.line said (sym c.if-may_answer.ensures)

pub returns-in-Err-clause-said : goal.returns-in-Err-clause-said
returns-in-Err-clause-said c =
    let r = c.args.reader.now in
    let f = c.args.f.now in
    let left = c.next_said.new.self.left in
    answer-stopped c.args.command.now (known_in c.args.past.now) r.past f r.left left c.in-Err.stop (subst (λ s. Gives (next_said s.past f s.left) left (Err c.in-Err.stop)) c.begin.ensures c.in-Err.ensures.said)
