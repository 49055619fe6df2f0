use Rattle.std.proofs.Common.{rules, Ok}
use Rattle.fab_text.specs.Line.{lines_left}
use Rattle.map_canon.specs.Reading.{PartGives, map_part}
use Rattle.map_canon.proofs.Placed.{part-of_fabric}
use Rattle.map_canon.proofs.reading.read_map_part.Goals as goal

pub returns-then-is_end-clause-of_fabric : goal.returns-then-is_end-clause-of_fabric
returns-then-is_end-clause-of_fabric c =
    let ls = lines_left c.args.left.now in
    let left = lines_left c.next_line.new.self in
    let map = c.into_map-map.result in
    let h : PartGives (map_part c.args.past c.args.f.now ls) left (Ok map) = search rules in
    part-of_fabric c.args.past c.args.f.now ls left (Ok map) h
