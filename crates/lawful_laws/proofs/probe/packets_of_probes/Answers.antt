use Rattle.lawful_laws.proofs.ProbePackets.{probe-is_read, probe-nothing_else, gm-no_probe, part-no_probe}
use Rattle.lawful_laws.proofs.probe.packets_of_probes.Goals as goal

pub returns-clause-read : goal.returns-clause-read
returns-clause-read c = probe-is_read

pub returns-clause-nothing_else : goal.returns-clause-nothing_else
returns-clause-nothing_else c = probe-nothing_else

pub returns-clause-no_frame : goal.returns-clause-no_frame
returns-clause-no_frame c = gm-no_probe

pub returns-clause-no_part : goal.returns-clause-no_part
returns-clause-no_part c = part-no_probe
