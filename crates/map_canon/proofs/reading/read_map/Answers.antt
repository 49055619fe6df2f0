-- A text is what its part is, and the lines after it.
use Rattle.std.proofs.Common.{rules, Ok, Err}
use Rattle.fab_text.specs.Line.{lines_left}
use Rattle.map_canon.specs.Reading.{PartGives}
use Rattle.map_canon.proofs.Placed.{whole_part, text_fault, text_ended}
use Rattle.map_canon.proofs.reading.read_map.Goals as goal

pub returns-in-Ok-clause-reading : goal.returns-in-Ok-clause-reading
returns-in-Ok-clause-reading c =
    let left = lines_left c.read_map_part.new.left in
    let part : PartGives (whole_part c.args.f.now c.args.text.now) left (Ok c.in-Ok.map) = search rules in
    text_ended c.args.f.now c.args.text.now left c.in-Ok.map c.ended.result part c.ended.ensures.ended

pub returns-in-Err-clause-reading : goal.returns-in-Err-clause-reading
returns-in-Err-clause-reading c =
    let left = lines_left c.read_map_part.new.left in
    let part : PartGives (whole_part c.args.f.now c.args.text.now) left (Err c.in-Err.fault) = search rules in
    text_fault c.args.f.now c.args.text.now left c.in-Err.fault part
