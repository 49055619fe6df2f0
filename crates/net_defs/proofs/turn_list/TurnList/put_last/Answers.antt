use Rattle.std.proofs.Common.{◌≡◌, ◌-◌, ◌∙◌, ap, sym, length, slice_set, to_z, of_z, w8, arith}
use Rattle.std.proofs.lemmas.Int.{ints}
use Rattle.net_defs.specs.TurnList.{turns_in}
use Rattle.net_defs.proofs.Lasts.{put-few, put-last}
use Rattle.net_defs.proofs.turn_list.TurnList.put_last.Goals as goal

pub returns-in-Few-clause-turns : goal.returns-in-Few-clause-turns
returns-in-Few-clause-turns c =
    let range = c.ranges.turn.sfits in
    let back : to_z w8 (of_z w8 c.args.turn) ≡ c.args.turn = grind (arith, ints) in
    put-few (turns_in c.args.self.now) c.turns.result.now c.in-Few.places c.in-Few.field-0 (to_z w8 (of_z w8 c.args.turn)) c.args.turn (ap turns_in c.in-Few.is) c.turns.ensures c.requires.some back

pub returns-in-Many-clause-turns : goal.returns-in-Many-clause-turns
returns-in-Many-clause-turns c =
    let range = c.ranges.turn.sfits in
    let back : to_z w8 (of_z w8 c.args.turn) ≡ c.args.turn = grind (arith, ints) in
    let block : c.deref_mut.result.now.items ≡ turns_in c.args.self.now = ap (λ v. v.items) c.deref_mut.ensures.value ∙ sym (ap turns_in c.in-Many.is) in
    ap (λ l. slice_set l (length c.turns.result.now - 1) (to_z w8 (of_z w8 c.args.turn))) block ∙ put-last (turns_in c.args.self.now) c.turns.result.now (to_z w8 (of_z w8 c.args.turn)) c.args.turn c.turns.ensures c.requires.some back
