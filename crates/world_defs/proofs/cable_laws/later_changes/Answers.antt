use Rattle.world_defs.proofs.CablesLater.{pulled_is_later, later_on_is_later, pulled_on_is_pulled, later_keeps, later_keeps_channels, later_keeps_past, later_keeps_past_channels, pulled_leave_fewer, unchanged_is_same}
use Rattle.world_defs.proofs.cable_laws.later_changes.Goals as goal

pub returns-clause-pulled : goal.returns-clause-pulled
returns-clause-pulled c = pulled_is_later

pub returns-clause-later_on : goal.returns-clause-later_on
returns-clause-later_on c = later_on_is_later

pub returns-clause-pulled_on : goal.returns-clause-pulled_on
returns-clause-pulled_on c = pulled_on_is_pulled

pub returns-clause-kept : goal.returns-clause-kept
returns-clause-kept c = later_keeps

pub returns-clause-channels : goal.returns-clause-channels
returns-clause-channels c = later_keeps_channels

pub returns-clause-past : goal.returns-clause-past
returns-clause-past c = later_keeps_past

pub returns-clause-past_channels : goal.returns-clause-past_channels
returns-clause-past_channels c = later_keeps_past_channels

pub returns-clause-fewer : goal.returns-clause-fewer
returns-clause-fewer c = pulled_leave_fewer

pub returns-clause-unchanged : goal.returns-clause-unchanged
returns-clause-unchanged c = unchanged_is_same
