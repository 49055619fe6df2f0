use Rattle.std.proofs.Common.{ap}
use Rattle.input_texts.specs.Reading.{AcceptedText}
use Rattle.fabric_run.proofs.Counting.{generated-so, both-ok}
use Rattle.fabric_run.proofs.generated.run_text.Goals as goal

pub returns : goal.returns
returns c =
    both-ok c.with_figures.result _ _ _ c.with_figures.ensures.same c.with_figures.ensures.told
    (λ r same told.
    generated-so c.args.n c.args.seed c.in_ok-accepted.accepted c.accepted.inside.fabric c.in_ok-session.session r.0 c.in_ok-session.figures.items c.deref.result.now c.in_ok-head.head.items r.1.items
    c.requires.some c.requires.few c.in_ok-accepted.ensures.accepted c.in_ok-session.ensures.counted c.in_ok-session.ensures.vertices
    (ap (λ (a : AcceptedText). a.network) c.accepted.view_is) c.in_ok-head.ensures c.deref.ensures.value same told)
