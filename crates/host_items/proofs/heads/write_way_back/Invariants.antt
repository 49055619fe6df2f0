use Rattle.std.proofs.Common.{◌≡◌, map, take, length}
use Rattle.packet_defs.specs.RouteByte.{route_byte}
use Rattle.world_defs.specs.Node.{way_back}
use Rattle.host_items.proofs.heads.write_way_back.Given as goal

abbrev pub invariant-loop-place : goal.invariant-loop-place
invariant-loop-place l = record {
  written : take l.place l.bytes ≡ take l.place (map route_byte (way_back l.turns));
  room : length l.bytes ≡ length l.turns;
}
