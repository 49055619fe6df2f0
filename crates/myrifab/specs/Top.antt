-- How the program's top call ends.
use Rattle.std.specs.Prelude.{◌≡◌, ℕ, List, Option}
use Rattle.run_defs.specs.Session.{SessionState}
use Rattle.fab_outer.specs.Fault.{Rose}
use Rattle.program_edge.specs.Edge.{Moment}
use Rattle.input_texts.specs.Forms.{form_of}
use Rattle.fabric_run.specs.declared.status.Status.{Status}
use Rattle.fabric_run.specs.declared.status.Status.TheVariants.{ReadFault, WriteFault}
use Rattle.fabric_run.specs.Ends.{RunEnds, status_number}

-- `run` answered a status, by the words, by what was read and by what its sink took: `RunEnds` says how. A failed read
-- or write is answered only where the count of faults rose. The exit status is the answer's number.
pub record TopEnds (words : List (List ℕ)) (unread unwritten : Type 0) (before now : Moment)
    (number : ℕ) : Type 0 where
  pub status : Status
  pub session : Option SessionState
  pub ends : RunEnds (form_of words) unread unwritten (record { left = before.left; taken = before.taken })
      (record { left = now.left; taken = now.taken }) status session
  pub read_fault : status ≡ ReadFault → Rose before.read_faults now.read_faults
  pub write_fault : status ≡ WriteFault → Rose before.write_faults now.write_faults
  pub numbered : number ≡ status_number status
