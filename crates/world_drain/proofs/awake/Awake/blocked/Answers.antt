use Rattle.std.proofs.Common.{ℕ, ◌+◌, get_or, set, ◌∙◌, ap, arith}
use Rattle.world_drain.proofs.Sleeping.{waits-below, blocked-awake}
use Rattle.world_drain.proofs.awake.Awake.blocked.Goals as goal

pub number_at-count-requires : goal.number_at-count-requires
number_at-count-requires c =
    let low = waits-below c.args.w.now.links c.args.c c.args.next c.requires.waits in
    let rows = c.requires.awake.rows.listed in
    let row = c.from-row.ensures in
    omega (arith, low, rows, row)

pub put-requires : goal.put-requires
put-requires c =
    let low = waits-below c.args.w.now.links c.args.c c.args.next c.requires.waits in
    let listed = c.requires.awake.rows.listed in
    let rows = c.requires.awake.rows.rows in
    let room = c.if-count-lt-PLACES.true in
    let place = c.place_of.ensures in
    omega (arith, low, listed, rows, room, place)

pub put-requires-then-count-lt-PLACES : goal.put-requires-then-count-lt-PLACES
put-requires-then-count-lt-PLACES c =
    let low = waits-below c.args.w.now.links c.args.c c.args.next c.requires.waits in
    let rows = c.requires.awake.rows.listed in
    let row = c.from-row.ensures in
    omega (arith, low, rows, row)

pub unmark-requires : goal.unmark-requires
unmark-requires c =
    let low = c.requires.there in
    let rows = c.requires.awake.rows.marked in
    omega (arith, low, rows)

pub returns-then-count-lt-PLACES : goal.returns-then-count-lt-PLACES
returns-then-count-lt-PLACES c =
    let a = c.args.self.now in
    let s = c.args.w.now.links in
    let count : ℕ = c.number_at-count.result in
    blocked-awake s c.args.c c.args.next count a.marks.items c.unmark.new.marks.items a.places.items a.counts.items c.requires.awake c.requires.waits c.requires.there (waits-below s c.args.c c.args.next c.requires.waits)
    (c.number_at-count.ensures ∙ ap (λ k. get_or a.counts.items k 0) c.from-row.ensures) c.if-count-lt-PLACES.true c.unmark.ensures c.put.new.numbers.items c.put-then-count-lt-PLACES.new.numbers.items
    (c.put.ensures ∙ ap (λ k. set a.places.items k c.args.c) c.place_of.ensures) (c.put-then-count-lt-PLACES.ensures ∙ ap (λ k. set a.counts.items k (count + 1)) c.from-row.ensures)

pub returns-else-count-lt-PLACES : goal.returns-else-count-lt-PLACES
returns-else-count-lt-PLACES c = c.requires.awake
