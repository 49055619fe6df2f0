use Rattle.std.proofs.Common.{◌≡◌, ◌+◌, ℕ, List, [], Option, Some, None, IfSome, refl, get_or, arith}
use Rattle.std.specs.Prelude.{ℤ, slice_get}
use Rattle.std.proofs.lemmas.Option.{slice_get-get_or}
use Rattle.map_defs.specs.declared.vertex.MapCable.{MapCable}
use Rattle.map_defs.specs.NetMap.{first_end, map_far}
use Rattle.fabric_map.specs.Growing.{cable_refusal}
use Rattle.map_quotient.specs.Joining.{TellsCable}
use Rattle.map_quotient.specs.Joining.JoinsBelow.{start, next}
use Rattle.map_quotient.proofs.joining.join_all.Goals as goal

pub loop-at-init : goal.loop-at-init
loop-at-init c = start c.args.map.now refl

pub join_told-requires : goal.join_told-requires
join_told-requires c = by c.told_cable-told.result (c.told_cable-told.ensures (get_or walks at []) there)
  where
    walks : List (List ℤ)
    walks = c.args.walks.now

    at : ℕ
    at = c.loop-at.at

    there : slice_get walks at ≡ Some (get_or walks at [])
    there = let below = c.loop-at-test.true in let count = c.len-at-end.ensures in slice_get-get_or walks at [] (omega arith)

    by : (o : Option MapCable) → TellsCable walks c.args.c.now c.args.vertices.now (get_or walks at []) (at + 1) o → IfSome o (λ x. map_far c.loop-at.map (first_end x) ≡ None → cable_refusal c.loop-at.map x ≡ None)
    by None told = tt
    by (Some x) told = λ free. c.requires.taken at c.loop-at.map (get_or walks at []) x c.loop-at.invariant there told free

pub loop-at-preserved : goal.loop-at-preserved
loop-at-preserved c =
    let walks : List (List ℤ) = c.args.walks.now in
    let at = c.loop-at.at in
    let below = c.loop-at-test.true in
    let count = c.len-at-end.ensures in
    let there : slice_get walks at ≡ Some (get_or walks at []) = slice_get-get_or walks at [] (omega arith) in
    next (at + 1) at c.loop-at.map c.join_told.new.map (get_or walks at []) c.told_cable-told.result refl c.loop-at.invariant there (c.told_cable-told.ensures (get_or walks at []) there) c.in_ok-join_told.ensures
