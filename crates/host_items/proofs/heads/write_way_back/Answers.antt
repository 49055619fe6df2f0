use Rattle.std.proofs.Common.{◌≡◌, ◌<◌, length, map, arith, ◌∙◌, ap, sym}
use Rattle.std.proofs.Math.ListN.{length-set}
use Rattle.std.proofs.lemmas.List.{take_all}
use Rattle.packet_defs.specs.RouteByte.{route_byte}
use Rattle.world_defs.specs.Node.{way_back}
use Rattle.host_items.proofs.Ways.{turn-kept, way-written, way-bytes-length}
use Rattle.host_items.proofs.heads.write_way_back.Goals as goal

pub loop-place-preserved : goal.loop-place-preserved
loop-place-preserved c =
    let turns = c.args.turns.now in
    let bytes = c.loop-place.bytes in
    let place = c.loop-place.place in
    let put = c.route_byte.result in
    let room : length bytes ≡ length turns = c.loop-place.invariant.room in
    let low : place < length turns = c.loop-place-test.true in
    let inside : place < length bytes = omega arith in
    record {
      written = way-written bytes turns place put c.opposite_at.result inside low (c.route_byte.ensures ∙ ap route_byte (turn-kept c.opposite_at.result c.opposite_at.ensures.turn)) c.opposite_at.ensures.value c.loop-place.invariant.written;
      room = length-set bytes place put ∙ room;
    }

pub returns : goal.returns
returns c =
    let turns = c.args.turns.now in
    let bytes = c.loop-place.bytes in
    let place = c.loop-place.place in
    let room : length bytes ≡ length turns = c.loop-place.invariant.room in
    let end : length turns ≡ place = omega arith in
    let way = map route_byte (way_back turns) in
    sym (take_all place bytes (omega (arith, end, room)))
    ∙ c.loop-place.invariant.written
    ∙ take_all place way (omega (arith, end, way-bytes-length turns))
