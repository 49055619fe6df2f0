use Rattle.mapping_laws.proofs.Asking.{asked_journal_exists}
use Rattle.mapping_laws.proofs.Words.{mapping_exists}
use Rattle.mapping_laws.proofs.mapping.mappings_exist.Goals as goal

pub returns-clause-journal : goal.returns-clause-journal
returns-clause-journal c = asked_journal_exists

pub returns-clause-mapping : goal.returns-clause-mapping
returns-clause-mapping c = mapping_exists
