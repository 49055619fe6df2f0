use Rattle.std.proofs.Common.{arith}
use Rattle.link_model.specs.declared.hop.Hop.TheVariants.{Moved, Blocked, Untried}
use Rattle.world_drain.proofs.Sleeping.{moved-but, left-but, hop-told}
use Rattle.world_drain.proofs.awake.Awake.after.Goals as goal

pub unmark-requires : goal.unmark-requires
unmark-requires c =
    let a = c.args.self.now in
    let told = hop-told c.args.w.now.links c.args.c c.args.hop (Moved c.in-Moved.next) a.marks.items a.places.items a.counts.items c.in-Moved.is c.requires.awake in
    let low = c.requires.there in
    let rows = told.0.rows.marked in
    omega (arith, low, rows)

pub mark-requires : goal.mark-requires
mark-requires c =
    let a = c.args.self.now in
    let told = hop-told c.args.w.now.links c.args.c c.args.hop (Moved c.in-Moved.next) a.marks.items a.places.items a.counts.items c.in-Moved.is c.requires.awake in
    let low = told.1 in
    let rows = told.0.rows.marked in
    let size = c.unmark.ensures.size in
    omega (arith, low, rows, size)

pub wake-requires-clause-awake : goal.wake-requires-clause-awake
wake-requires-clause-awake c =
    let a = c.args.self.now in
    let told = hop-told c.args.w.now.links c.args.c c.args.hop (Moved c.in-Moved.next) a.marks.items a.places.items a.counts.items c.in-Moved.is c.requires.awake in
    moved-but c.args.w.now.links c.args.c c.in-Moved.next a.marks.items c.unmark.new.marks.items c.mark.new.marks.items a.places.items a.counts.items told.0 c.unmark.ensures c.mark.ensures

pub blocked-requires-clause-awake : goal.blocked-requires-clause-awake
blocked-requires-clause-awake c =
    let a = c.args.self.now in
    let told = hop-told c.args.w.now.links c.args.c c.args.hop (Blocked c.in-Blocked.next) a.marks.items a.places.items a.counts.items c.in-Blocked.is c.requires.awake in
    told.0

pub blocked-requires-clause-waits : goal.blocked-requires-clause-waits
blocked-requires-clause-waits c =
    let a = c.args.self.now in
    let told = hop-told c.args.w.now.links c.args.c c.args.hop (Blocked c.in-Blocked.next) a.marks.items a.places.items a.counts.items c.in-Blocked.is c.requires.awake in
    told.1

pub unmark-requires-in-Untried : goal.unmark-requires-in-Untried
unmark-requires-in-Untried c =
    let a = c.args.self.now in
    let told = hop-told c.args.w.now.links c.args.c c.args.hop Untried a.marks.items a.places.items a.counts.items c.in-Untried.is c.requires.awake in
    let low = c.requires.there in
    let rows = told.0.rows.marked in
    omega (arith, low, rows)

pub wake-requires-in-Untried-clause-awake : goal.wake-requires-in-Untried-clause-awake
wake-requires-in-Untried-clause-awake c =
    let a = c.args.self.now in
    let told = hop-told c.args.w.now.links c.args.c c.args.hop Untried a.marks.items a.places.items a.counts.items c.in-Untried.is c.requires.awake in
    left-but c.args.w.now.links c.args.c a.marks.items c.unmark-in-Untried.new.marks.items a.places.items a.counts.items told.0 told.1 c.unmark-in-Untried.ensures
