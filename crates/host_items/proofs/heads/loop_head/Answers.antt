use Rattle.std.proofs.Common.{◌+◌, ◌*◌, ◌∙◌, ◌++◌, ◌∷◌, [], take, length, sym, ap}
use Rattle.world_defs.specs.Mapping.{mapping_bytes}
use Rattle.world_defs.specs.Mapping.MappingBody.{Loopback}
use Rattle.world_defs.specs.Node.{way_back}
use Rattle.host_items.proofs.Ways.{loop-laid}
use Rattle.host_items.proofs.heads.loop_head.Goals as goal

pub returns : goal.returns
returns c =
    let turns = c.args.turns.now in
    let n = length turns in
    let one = c.put_route.new.head in
    let three = c.put_way_back.new.head in
    let four = c.put-2.new.head in
    loop-laid turns (way_back turns) (mapping_bytes (Loopback c.args.number c.args.mapper)) one c.put.new.head three four c.put-3.new.head n
    c.put_route.ensures.front
    (c.put.ensures.front ∙ ap (λ b. take n one ++ b ∷ []) c.route_byte.ensures)
    c.put_way_back.ensures.front
    (ap (λ k. take (2 * n + 1 + k) four) (sym (ap length c.type_bytes.ensures)) ∙ c.put-2.ensures.front ∙ ap (λ l. take (2 * n + 1) three ++ l) c.type_bytes.ensures)
    (ap (λ k. take (2 * n + 3 + k) c.put-3.new.head) (sym c.loop_bytes.ensures.size) ∙ c.put-3.ensures.front ∙ ap (λ l. take (2 * n + 3) four ++ l) c.loop_bytes.ensures.bytes)
