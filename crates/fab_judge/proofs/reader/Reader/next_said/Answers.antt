use Rattle.std.proofs.Common.{◌≡◌, ◌++◌, ◌∷◌, [], Err, IfOk, ap, sym, subst, ◌∙◌}
use Rattle.std.proofs.lemmas.Result.{IfOk-weaker}
use Rattle.fab_text.specs.Line.{TextLine, lines_left}
use Rattle.fab_judge.specs.Reading.{ReaderState, HasRead, next_said}
use Rattle.fab_judge.proofs.Next.{next-none}
use Rattle.fab_judge.proofs.Steps.{read_one}
use Rattle.fab_judge.proofs.reader.Reader.next_said.Goals as goal

pub returns-in-None-clause-said : goal.returns-in-None-clause-said
returns-in-None-clause-said c =
    subst (λ r. next_said r.past c.args.f.now r.left ≡ Err c.self.inside.past) c.self.view_is
    (next-none c.self.inside.past c.args.f.now (lines_left c.self.inside.left) c.in-None.ensures.lines.0)

pub returns-in-Some-clause-read : goal.returns-in-Some-clause-read
returns-in-Some-clause-read c =
    let l : TextLine = record { number = c.in-Some.number; bytes = c.in-Some.line.now; after = c.next_line.new.self.text } in
    let r : ReaderState = record { past = c.self.inside.past; left = lines_left c.self.inside.left; numbers = c.self.inside.numbers.items } in
    let now = c.said_by.new.self in
    subst (λ s. IfOk c.said_by.result (λ x. HasRead s now 1)) c.self.view_is
    (IfOk-weaker c.said_by.result (λ x. now.numbers ≡ c.self.inside.numbers.items ++ c.in-Some.number ∷ []) (λ x. HasRead r now 1)
    (λ x h. read_one r now l (c.in-Some.ensures.lines ∙ ap (λ ls. l ∷ ls) (sym c.said_by.ensures.left)) h c.said_by.ensures.past) c.said_by.ensures.numbers)
