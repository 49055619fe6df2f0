use Rattle.std.proofs.Common.{get_or, set, ◌∙◌, ap, arith}
use Rattle.world_drain.proofs.Sleeping.{woken}
use Rattle.world_drain.proofs.awake.Awake.wake.Goals as goal

pub number_at-count-requires : goal.number_at-count-requires
number_at-count-requires c =
    let low = c.requires.there in
    let rows = c.requires.awake.rows.listed in
    let row = c.from-row.ensures in
    omega (arith, low, rows, row)

pub mark_all-requires-clause-within : goal.mark_all-requires-clause-within
mark_all-requires-clause-within c =
    let low = c.requires.there in
    let listed = c.requires.awake.rows.listed in
    let rows = c.requires.awake.rows.rows in
    let number = c.number_at-count.ensures ∙ ap (λ k. get_or c.args.self.now.counts.items k 0) c.from-row.ensures in
    let few = c.requires.awake.rows.few c.args.c in
    let end = c.place_of-2.ensures in
    omega (arith, low, listed, rows, number, few, end)

pub mark_all-requires-clause-low : goal.mark_all-requires-clause-low
mark_all-requires-clause-low c = c.requires.awake.rows.low

pub put-requires : goal.put-requires
put-requires c =
    let low = c.requires.there in
    let rows = c.requires.awake.rows.listed in
    let row = c.from-row.ensures in
    omega (arith, low, rows, row)

pub returns : goal.returns
returns c =
    let a = c.args.self.now in
    let low = c.requires.there in
    let rows = c.requires.awake.rows.listed in
    let row = c.from-row.ensures in
    let first = c.place_of.ensures in
    let end = c.place_of-2.ensures in
    woken c.args.w.now.links c.args.c c.number_at-count.result a.marks.items c.mark_all.new.marks.items a.places.items a.counts.items c.put.new.numbers.items c.requires.awake
    (omega (arith, low, rows)) (c.number_at-count.ensures ∙ ap (λ k. get_or a.counts.items k 0) row) c.mark_all.ensures.size c.mark_all.ensures.kept
    (λ i above below. c.mark_all.ensures.marked i (omega (arith, above, first)) (omega (arith, below, end)))
    (c.put.ensures ∙ ap (λ k. set a.counts.items k 0) row)
