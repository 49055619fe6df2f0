use Rattle.std.proofs.Common.{Some, None, ap, ◌∙◌, if◌then◌else◌}
use Rattle.std.specs.Prelude.{is_some}
use Rattle.fab_text.specs.Line.{words_of}
use Rattle.line_table.specs.Matching.{matched}
use Rattle.report_lines.specs.declared.line.ReportLine.TheVariants.{Map}
use Rattle.report_lines.specs.Reading.{counts}
use Rattle.report_lines.proofs.Told.{told_map}
use Rattle.report_lines.proofs.maps.counted.Goals as goal

pub returns : goal.returns
returns c =
    let n = c.args.fabric.now in
    let h = c.args.host in
    let said = c.args.said in
    c.formed.ensures
    ∙ ap (λ bs. if is_some (matched n counts (words_of bs)) then Some (Map h said) else None) c.rest.ensures
    ∙ told_map h said (matched n counts (words_of c.args.args))
