use Rattle.line_table.specs.Table.{map_form}
use Rattle.line_table.proofs.Apart.{apart-unmatched, map-rows-apart}
use Rattle.line_table.proofs.Plain.{filled-plain, map-rows-plain}
use Rattle.line_table.proofs.Spoken.{filled-spoken, map-rows-spoken}
use Rattle.line_table.proofs.laws_of_map_lines.Goals as goal

pub returns-clause-plain : goal.returns-clause-plain
returns-clause-plain c = λ n is good k vs fits. filled-plain n is good (map_form k) vs (map-rows-plain k) fits

pub returns-clause-spoken : goal.returns-clause-spoken
returns-clause-spoken c = λ n k vs fits. filled-spoken n (map_form k) vs (map-rows-spoken k) fits

pub returns-clause-apart : goal.returns-clause-apart
returns-clause-apart c = λ n is good k l vs differ fits. apart-unmatched n is good (map_form k) (map_form l) vs fits (map-rows-apart k l differ)
