use Rattle.std.proofs.Common.{[], ◌∷◌, ◌++◌, ◌∙◌, decimal}
use Rattle.std.proofs.lemmas.Result.{on_ok_weaker}
use Rattle.fab_text.specs.Written.{spaced}
use Rattle.run_defs.specs.LineRows.{call_word}
use Rattle.fab_report.specs.Words.{behind, few_words}
use Rattle.fab_report.proofs.Parts.{call-words}
use Rattle.line_table.specs.Texts.{host_name}
use Rattle.fab_report.proofs.Writing.{answered, put_behind}
use Rattle.fab_report.proofs.client.client_line.Goals as goal

pub returns : goal.returns
returns c =
    let n = c.args.f.now in
    let old = c.args.text.now.items in
    let said = c.args.said.now in
    let room = c.put_call-end.new.room in
    let long = c.put_call-end.ensures.size ∙ c.deref_mut.ensures.len in
    let put = put_behind old _ room _ _ _ _ _ c.in_ok-begin.ensures.begin c.in_ok-begin.ensures.zeros c.deref_mut.ensures.value c.put_call-end.ensures.bytes long c.truncate.ensures.items in
    on_ok_weaker c.append_said.result
    (answered n old (call_word c.args.call) (host_name n c.args.host) (decimal c.args.port) said _ (call-words n c.args.call c.args.host c.args.port said)
    (put ∙ (λ i. old ++ (spaced (c.call_of.ensures.word i ∷ c.name_of-name.ensures i ∷ decimal c.args.port ∷ []) ++ behind (few_words said)))))
    c.append_said.ensures
