use Rattle.std.proofs.Common.{List, ◌∷◌, [], ◌∙◌, ap, sym}
use Rattle.std.proofs.lemmas.Result.{on_ok_weaker}
use Rattle.world_defs.specs.declared.effect.Effect.{Effect}
use Rattle.world_defs.specs.World.{WorldState, fabric_of}
use Rattle.run_defs.specs.declared.line.Line.TheVariants.{Step}
use Rattle.run_defs.specs.Outcome.{words_of}
use Rattle.run_defs.specs.Output.{Piece, OneLine}
use Rattle.fab_report.specs.Printed.{printed_of}
use Rattle.world_commands.specs.Cut.{IsEventLeft}
use Rattle.world_commands.proofs.Cut.{in-line}
use Rattle.world_commands.proofs.Later.{printed-before}
use Rattle.world_commands.proofs.Naming.{step-naming}
use Rattle.world_commands.proofs.stepping.event_text.Goals as goal

pub words_of-words-requires : goal.words_of-words-requires
words_of-words-requires c =
    step-naming c.args.w.now c.step.new.self c.args.event c.in-Ok.effect c.moment.ensures.kept c.in-Ok.ensures.ok c.step.ensures.cables c.step.ensures.channels

pub returns-clause-text : goal.returns-clause-text
returns-clause-text c =
    let w : WorldState = c.args.w.now in
    let v : WorldState = c.step.new.self in
    let out : Effect × WorldState → List Piece = λ r. OneLine (Step (words_of r.1 r.0)) ∷ [] in
    on_ok_weaker c.one_line.result
    (λ e.
    e ∙ ap (λ n. printed_of n (OneLine (Step c.words_of-words.result) ∷ [])) c.fabric.ensures ∙ printed-before w v c.step.ensures.cables (OneLine (Step c.words_of-words.result) ∷ [])
    ∙ ap (λ x. printed_of (fabric_of w) (OneLine (Step x) ∷ [])) c.words_of-words.ensures.words ∙ ap (λ r. printed_of (fabric_of w) (out r)) (sym c.in-Ok.ensures.ok))
    c.one_line.ensures.printed

pub returns-clause-err : goal.returns-clause-err
returns-clause-err c = in-line c.one_line.result (IsEventLeft c.args.event c.args.w.now c.step.new.self) (sym (ap (λ p. p.1) c.in-Ok.ensures.ok)) c.one_line.ensures.err
