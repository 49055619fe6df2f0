use Rattle.std.proofs.Common.{length}
use Rattle.report_lines.proofs.form.+formed.Given as goal

abbrev pub decreases-formed : goal.decreases-formed
decreases-formed l = length l.forms.now
