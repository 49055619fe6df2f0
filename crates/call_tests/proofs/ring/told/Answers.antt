use Rattle.std.proofs.Common.{◌≡◌, ℕ, List, length, ap, sym, subst, ◌∙◌}
use Rattle.map_defs.specs.Orientation.{IsOrder, order_of}
use Rattle.map_defs.proofs.Places.{places_are_an_order}
use Rattle.updown.specs.Oriented.{Oriented}
use Rattle.call_tests.proofs.ring.told.Goals as goal

pub certify-requires : goal.certify-requires
certify-requires c =
    let m = c.args.m.now in
    let order : c.order.result.now ≡ order_of m = c.order.ensures ∙ ap (λ (o : Oriented). o.order) c.in_ok-o.ensures in
    subst (λ (l : List ℕ). IsOrder l (length m.vertices)) (sym order) (places_are_an_order m)
