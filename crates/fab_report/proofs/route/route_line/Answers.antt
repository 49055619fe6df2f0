use Rattle.std.proofs.Common.{[], ◌∷◌, ◌++◌, ◌∙◌, codes, refl, sym, append_assoc}
use Rattle.std.specs.Prelude.{flat_map}
use Rattle.fab_text.specs.Written.{spaced}
use Rattle.line_table.specs.Texts.{host_name, turn_text}
use Rattle.fab_report.proofs.Writing.{put_behind, routed}
use Rattle.fab_report.proofs.route.route_line.Goals as goal

pub returns : goal.returns
returns c =
    let n = c.args.f.now in
    let old = c.args.text.now.items in
    let turns = flat_map (λ t. 32 ∷ turn_text t) in
    let room = c.put_route-end.new.room in
    let long = c.put_route-end.ensures.size ∙ c.deref_mut.ensures.len in
    let put = put_behind old _ room _ _ _ _ _ c.in_ok-begin.ensures.begin c.in_ok-begin.ensures.zeros c.deref_mut.ensures.value c.put_route-end.ensures.bytes long c.truncate.ensures.items in
    let ends = spaced (codes "route" ∷ host_name n c.args.from ∷ host_name n c.args.to ∷ []) in
    routed n old c.args.from c.args.to c.args.walk.now {t = old ++ ends} refl
    (put
    ∙ (λ i. old ++ (spaced (codes "route" ∷ c.name_of-sender.ensures i ∷ c.name_of-receiver.ensures i ∷ []) ++ turns (c.turns-turns.ensures.value i)))
    ∙ sym (append_assoc old ends (turns c.args.walk.now)))
