use Rattle.std.proofs.Common.{◌≡◌, ◌*◌, ◌++◌, length, sym, ap, ◌∙◌, arith}
use Rattle.std.specs.Prelude.{option_to_list}
use Rattle.rank_cert.proofs.Places.{entries_below, entries-next, entries-all}
use Rattle.rank_cert.proofs.certifying.certify.Goals as goal

pub loop-k-preserved : goal.loop-k-preserved
loop-k-preserved c =
    let m = c.args.m.now in
    let order = c.args.order.now in
    let k = c.loop-k.k in
    c.in_ok-push_some.ensures
    ∙ ap (λ l. l ++ option_to_list c.entry_at.result) c.loop-k.invariant
    ∙ ap (λ o. entries_below m order k ++ option_to_list o) c.entry_at.ensures
    ∙ sym (entries-next m order k)

pub returns : goal.returns
returns c =
    let m = c.args.m.now in
    let order = c.args.order.now in
    let one = c.requires.one_each in
    let past = c.loop-k-test.false in
    let end = c.loop-k.auto.k-end in
    let all : c.loop-k.k ≡ 31 * length m.vertices = omega arith in
    c.new-ranks.ensures ∙ c.loop-k.invariant ∙ ap (entries_below m order) all ∙ entries-all m order
