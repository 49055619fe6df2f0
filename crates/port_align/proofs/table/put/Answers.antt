use Rattle.std.proofs.Common.{◌≡◌, ℤ, List, Option, sym, ◌∙◌, ap, subst, set, to_z, of_z, w8, arith}
use Rattle.std.proofs.lemmas.Int.{ints}
use Rattle.port_align.specs.declared.end.NodePort.{NodePort}
use Rattle.port_align.specs.declared.table.Known.{Known}
use Rattle.port_align.specs.declared.table.Known.TheVariants.{Nothing}
use Rattle.port_align.specs.Ends.{PutsAt, known_at, one_at}
use Rattle.port_align.proofs.Putting.{nothing-short, nothing-known, puts-alone, puts-row}
use Rattle.port_align.proofs.table.put.Goals as goal

pub put_beside-requires-clause-one : goal.put_beside-requires-clause-one
put_beside-requires-clause-one c =
    let back : to_z w8 (of_z w8 c.in-One.port) ≡ c.in-One.port = grind (arith, ints) in
    sym c.known_of.ensures ∙ (c.in-One.is ∙ ap (λ (p : ℤ). one_at c.in-One.at (record { node = c.in-One.node; port = p })) (sym back))

pub put_beside-requires-clause-at : goal.put_beside-requires-clause-at
put_beside-requires-clause-at c = c.requires.sound.turns c.args.number c.in-One.at (record { node = c.in-One.node; port = c.in-One.port }) (sym c.known_of.ensures ∙ c.in-One.is)

pub set_row_end-requires-clause-there : goal.set_row_end-requires-clause-there
set_row_end-requires-clause-there c = c.requires.sound.inside c.args.number c.in-Row.row (sym c.known_of.ensures ∙ c.in-Row.is)

pub returns-in-Nothing-clause-puts : goal.returns-in-Nothing-clause-puts
returns-in-Nothing-clause-puts c =
    let ks = c.args.known.now.items in
    let rows = c.args.rows.now.items in
    let is : known_at ks c.args.number ≡ Nothing = sym c.known_of.ensures ∙ c.in-Nothing.is in
    subst (λ (a : Known). PutsAt c.args.number c.args.place c.args.end ks rows (set ks c.args.number a) rows) (sym c.alone.ensures)
    (puts-alone ks rows c.args.number c.args.place c.args.end c.requires.sound c.requires.there c.requires.place (nothing-short (known_at ks c.args.number) is) (λ k d. nothing-known rows (known_at ks c.args.number) k is))

pub returns-in-Row-clause-puts : goal.returns-in-Row-clause-puts
returns-in-Row-clause-puts c =
    let ks = c.args.known.now.items in
    let rows = c.args.rows.now.items in
    subst (λ (l : List (Option NodePort)). PutsAt c.args.number c.args.place c.args.end ks rows ks l) (sym c.set_row_end.ensures.items)
    (puts-row ks rows c.args.number c.args.place c.in-Row.row c.args.end c.requires.sound c.requires.place (sym c.known_of.ensures ∙ c.in-Row.is))
