-- A script is what comes of its front, and of the lines after it.
use Rattle.std.proofs.Common.{rules, Ok, Err}
use Rattle.fab_text.specs.Line.{lines_left}
use Rattle.fab_script.specs.Parts.{FrontGives}
use Rattle.fab_script.proofs.Parts.{front_of, front_fault, front_whole}
use Rattle.fab_script.proofs.script.read_lines.Goals as goal

pub returns-in-Ok-clause-reading : goal.returns-in-Ok-clause-reading
returns-in-Ok-clause-reading c =
    let left = lines_left c.read_front.new.left in
    let front : FrontGives (front_of c.args.f.now c.args.line c.args.text.now) left (Ok c.in-Ok.commands) = search rules in
    front_whole c.args.f.now c.args.line c.args.text.now left c.in-Ok.commands c.finished.result front c.finished.ensures.reading

pub returns-in-Err-clause-reading : goal.returns-in-Err-clause-reading
returns-in-Err-clause-reading c =
    let left = lines_left c.read_front.new.left in
    let front : FrontGives (front_of c.args.f.now c.args.line c.args.text.now) left (Err c.in-Err.fault) = search rules in
    front_fault c.args.f.now c.args.line c.args.text.now left c.in-Err.fault front
