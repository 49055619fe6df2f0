use Rattle.std.proofs.Common.{length, ◌+◌, ◌-◌, sym, ◌∙◌}
use Rattle.fab_text.specs.Line.{lines_left, line_count}
use Rattle.fabric_file.specs.declared.reading.FabricText.{FabricText}
use Rattle.fabric_file.specs.Reading.{fabric_from}
use Rattle.fabric_file.proofs.Readings.{from-script, reading-fabric, reading-named}
use Rattle.fabric_file.proofs.reading.read_fabric.Goals as goal

pub returns-then-is_script-clause-fabric : goal.returns-then-is_script-clause-fabric
returns-then-is_script-clause-fabric c =
    let size = length c.args.text.now in
    let past = line_count c.args.text.now + 1 in
    let t : FabricText = record { fabric = c.lines.fabric; next = size - length c.next_line.new.self.text; line = c.in-Some.number } in
    reading-fabric c.args.text.now t
    ((λ i. fabric_from size past (sym c.new-fabric.ensures i) (lines_left (sym c.lines-left.ensures i)))
    ∙ c.lines.invariant.same
    ∙ from-script size past c.lines.fabric (lines_left c.lines.left) (lines_left c.next_line.new.self)
    (record { number = c.in-Some.number; bytes = c.in-Some.line.now; after = c.next_line.new.self.text }) c.in-Some.ensures.lines c.if-is_script.ensures)

pub returns-then-is_script-clause-named : goal.returns-then-is_script-clause-named
returns-then-is_script-clause-named c =
    let size = length c.args.text.now in
    let past = line_count c.args.text.now + 1 in
    let t : FabricText = record { fabric = c.lines.fabric; next = size - length c.next_line.new.self.text; line = c.in-Some.number } in
    reading-named c.args.text.now t
    ((λ i. fabric_from size past (sym c.new-fabric.ensures i) (lines_left (sym c.lines-left.ensures i)))
    ∙ c.lines.invariant.same
    ∙ from-script size past c.lines.fabric (lines_left c.lines.left) (lines_left c.next_line.new.self)
    (record { number = c.in-Some.number; bytes = c.in-Some.line.now; after = c.next_line.new.self.text }) c.in-Some.ensures.lines c.if-is_script.ensures)
