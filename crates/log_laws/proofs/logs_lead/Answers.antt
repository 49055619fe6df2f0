use Rattle.world_defs.proofs.LogRows.{drain-row, clear-row, settle-row, ask-row, asks-row, install-row}
use Rattle.world_defs.proofs.LogRows.{byte_clears, byte_settles, byte_asks}
use Rattle.log_laws.proofs.logs_lead.Goals as goal

pub returns-clause-drain : goal.returns-clause-drain
returns-clause-drain c = drain-row byte_clears.advance

pub returns-clause-clear : goal.returns-clause-clear
returns-clause-clear c = clear-row byte_clears

pub returns-clause-settle : goal.returns-clause-settle
returns-clause-settle c = settle-row byte_settles

pub returns-clause-ask : goal.returns-clause-ask
returns-clause-ask c = ask-row byte_asks (λ h walk looped. tt)

pub returns-clause-asks : goal.returns-clause-asks
returns-clause-asks c = asks-row byte_asks (λ h walk looped. tt)

pub returns-clause-install : goal.returns-clause-install
returns-clause-install c = install-row byte_asks (λ dst part. tt)
