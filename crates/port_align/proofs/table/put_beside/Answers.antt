use Rattle.std.proofs.Common.{◌≡◌, ◌≢◌, ℕ, Some, sym, ◌∙◌, subst, set, arith}
use Rattle.port_align.specs.declared.table.Known.{Known}
use Rattle.port_align.specs.Ends.{AddsRow, PutsAt, known_at}
use Rattle.port_align.proofs.Reading.{row-room}
use Rattle.port_align.proofs.Putting.{one-short, one-beside, puts-alone, puts-second}
use Rattle.port_align.proofs.table.put_beside.Goals as goal

pub add_row-row-requires-clause-room : goal.add_row-row-requires-clause-room
add_row-row-requires-clause-room c =
    let room = row-room c.args.known.now.items c.args.number c.args.at c.args.first c.requires.there c.requires.one in
    let counted = c.requires.sound.counted in
    let cap = c.requires.room in
    omega arith

pub overflow_cast-row : goal.overflow_cast-row
overflow_cast-row c =
    let room = row-room c.args.known.now.items c.args.number c.args.at c.args.first c.requires.there c.requires.one in
    let counted = c.requires.sound.counted in
    let last = c.add_row-row.ensures.adds.last in
    let few = c.requires.few in
    omega arith

pub returns-then-from-place-clause-puts : goal.returns-then-from-place-clause-puts
returns-then-from-place-clause-puts c =
    let ks = c.args.known.now.items in
    let rows = c.args.rows.now.items in
    let e = c.from.ensures in
    let t = c.if-from-place.true in
    let same : c.args.at ≡ c.args.place = omega arith in
    subst (λ (a : Known). PutsAt c.args.number c.args.place c.args.end ks rows (set ks c.args.number a) rows) (sym c.alone.ensures)
    (puts-alone ks rows c.args.number c.args.place c.args.end c.requires.sound c.requires.there c.requires.place (one-short (known_at ks c.args.number) c.args.at c.args.first c.requires.one)
    (λ k d. one-beside rows (known_at ks c.args.number) c.args.at c.args.first k c.requires.one (λ x. d (sym same ∙ x))))

pub returns-then-is_some-clause-puts : goal.returns-then-is_some-clause-puts
returns-then-is_some-clause-puts c =
    let ks = c.args.known.now.items in
    let rows = c.args.rows.now.items in
    let e = c.from.ensures in
    let f = c.if-from-place.false in
    let two : c.args.at ≢ c.args.place = λ x. omega arith in
    puts-second ks rows c.args.number c.args.place c.args.at c.add_row-row.result c.args.end c.args.first c.add_row-row.new.rows.items c.requires.sound c.requires.there c.requires.place c.requires.at two c.requires.one
    (subst (λ (p : ℕ). AddsRow p c.args.place (Some c.args.first) c.args.end rows c.add_row-row.new.rows.items c.add_row-row.result) c.from-then-is_some.ensures c.add_row-row.ensures.adds)
