use Rattle.std.proofs.Common.{◌≡◌, length, ap, ◌∙◌, arith}
use Rattle.std.proofs.lemmas.List.{length-map}
use Rattle.journal_defs.specs.Counting.{numbers_below}
use Rattle.map_defs.specs.Orientation.{place_among}
use Rattle.journal_defs.proofs.Members.{length-numbers}
use Rattle.updown.proofs.Found.{levels-long}
use Rattle.updown.proofs.orientation.orient.Goals as goal

pub places-requires : goal.places-requires
places-requires c =
    let long = ap length (c.deref.ensures.value ∙ c.in_ok-levels.ensures) ∙ levels-long c.args.m.now in
    let few = c.vertices.ensures.is_map.few_vertices in
    omega arith

pub ups-requires : goal.ups-requires
ups-requires c =
    let long : length c.deref.result.now ≡ length c.args.m.now.vertices = ap length (c.deref.ensures.value ∙ c.in_ok-levels.ensures) ∙ levels-long c.args.m.now in
    let places = length-map (numbers_below (length c.deref.result.now)) (place_among c.deref.result.now) ∙ length-numbers (length c.deref.result.now) in
    ap length (c.deref-2.ensures.value ∙ c.in_ok-order.ensures) ∙ places ∙ long
