use Rattle.promise_laws.proofs.CutShort.{begun_maps_are_cut_short, cut_commands_leave_sound}
use Rattle.promise_laws.proofs.command_acts.acts_of_cut_commands.Goals as goal

pub returns-clause-begun : goal.returns-clause-begun
returns-clause-begun c = begun_maps_are_cut_short

pub returns-clause-sound : goal.returns-clause-sound
returns-clause-sound c = cut_commands_leave_sound
