use Rattle.std.proofs.Common.{◌+◌, ◌∙◌, ◌++◌, take, length, sym, ap}
use Rattle.world_defs.specs.Mapping.{mapping_bytes}
use Rattle.world_defs.specs.Mapping.MappingBody.{HostProbe}
use Rattle.world_defs.specs.Node.{way_back}
use Rattle.host_items.proofs.Ways.{host-laid, way-length}
use Rattle.host_items.proofs.heads.host_head.Goals as goal

pub returns : goal.returns
returns c =
    let turns = c.args.turns.now in
    let n = length turns in
    let back = way_back turns in
    let one = c.put_route.new.head in
    host-laid turns back c.host_probe_front.result (mapping_bytes (HostProbe c.args.number c.args.mapper back)) one c.put.new.head c.put-2.new.head c.put_way_back.new.head n
    c.put_route.ensures.front
    (ap (λ k. take (n + k) c.put.new.head) (sym (ap length c.type_bytes.ensures)) ∙ c.put.ensures.front ∙ ap (λ l. take n one ++ l) c.type_bytes.ensures)
    (ap (λ k. take (n + 2 + k) c.put-2.new.head) (sym c.host_probe_front.ensures.size) ∙ c.put-2.ensures.front)
    c.put_way_back.ensures.front
    (c.host_probe_front.ensures.bytes back (way-length turns))
