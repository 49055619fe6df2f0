use Rattle.std.proofs.Common.{[], ◌∷◌, ◌++◌, ◌∙◌, codes, decimal, length}
use Rattle.std.proofs.lemmas.Result.{on_ok_weaker}
use Rattle.line_table.specs.Texts.{hex_text, host_name}
use Rattle.fab_report.specs.Words.{behind}
use Rattle.fab_report.proofs.Writing.{followed_by}
use Rattle.fab_report.proofs.client.append_received.Goals as goal

pub returns : goal.returns
returns c =
    on_ok_weaker c.append_body.result
    (followed_by c.args.text.now.items
    (codes "received" ∷ codes "token" ∷ decimal c.args.token ∷ codes "from" ∷ host_name c.args.f.now c.args.from ∷ decimal c.args.sport ∷ [])
    (codes "prio" ∷ decimal c.args.prio ∷ codes "len" ∷ decimal (length c.args.body.now) ∷ codes "bytes" ∷ hex_text c.args.body.now ∷ [])
    (c.in_ok-append_behind.ensures
    ∙ (λ i. c.args.text.now.items ++ behind (codes "received" ∷ codes "token" ∷ decimal (c.from.ensures i) ∷ codes "from" ∷ c.name_of.ensures i ∷ decimal (c.from-2.ensures i) ∷ []))))
    c.append_body.ensures
