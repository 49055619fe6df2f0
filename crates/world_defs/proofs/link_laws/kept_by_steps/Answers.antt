use Rattle.world_defs.proofs.Shapes.{empty-links, empty-idle, stepped-cables, stepped-vertices, stepped-history, stepped-links, stepped_all-cables, stepped_all-links}
use Rattle.world_defs.proofs.link_laws.kept_by_steps.Goals as goal

pub returns-clause-empty : goal.returns-clause-empty
returns-clause-empty c = empty-links

pub returns-clause-empty_idle : goal.returns-clause-empty_idle
returns-clause-empty_idle c = empty-idle

pub returns-clause-cables : goal.returns-clause-cables
returns-clause-cables c = stepped-cables

pub returns-clause-vertices : goal.returns-clause-vertices
returns-clause-vertices c = stepped-vertices

pub returns-clause-history : goal.returns-clause-history
returns-clause-history c = stepped-history

pub returns-clause-links : goal.returns-clause-links
returns-clause-links c = stepped-links

pub returns-clause-cables_after_all : goal.returns-clause-cables_after_all
returns-clause-cables_after_all c = stepped_all-cables

pub returns-clause-links_after_all : goal.returns-clause-links_after_all
returns-clause-links_after_all c = stepped_all-links
