-- The sender has lost so many finished descriptors alone.
use Rattle.gm_conn.proofs.OneLane.{SameBut}
use Rattle.gm_conn.proofs.used_lane.drop_finished.Given as goal

abbrev pub invariant-loop : goal.invariant-loop
invariant-loop l = SameBut l.counter l.initial.sender l.sender
