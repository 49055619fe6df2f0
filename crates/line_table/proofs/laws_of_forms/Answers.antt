use Rattle.line_table.specs.Table.{form_of}
use Rattle.line_table.proofs.Apart.{apart-unmatched}
use Rattle.line_table.proofs.Filled.{filled-matched}
use Rattle.line_table.proofs.Plain.{filled-plain, rows-plain}
use Rattle.line_table.proofs.Spoken.{filled-spoken, rows-spoken}
use Rattle.line_table.proofs.laws_of_forms.Goals as goal

pub returns-clause-matched : goal.returns-clause-matched
returns-clause-matched c = λ n is good ss vs fits. filled-matched n is good ss vs fits

pub returns-clause-apart : goal.returns-clause-apart
returns-clause-apart c = λ n is good ss ts vs fits apart. apart-unmatched n is good ss ts vs fits apart

pub returns-clause-plain : goal.returns-clause-plain
returns-clause-plain c = λ n is good k vs fits. filled-plain n is good (form_of k) vs (rows-plain k) fits

pub returns-clause-spoken : goal.returns-clause-spoken
returns-clause-spoken c = λ n k vs fits. filled-spoken n (form_of k) vs (rows-spoken k) fits
