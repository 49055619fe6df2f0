-- How a program ends whose top call writes into a sink that keeps.
use Rattle.std.specs.Prelude.{◌≡◌, ◌⊎◌, ℕ, List, [], Option}
use Rattle.std.specs.Io.KnownBytes.{Keeps, append_known}
use Rattle.fab_outer.specs.Fault.{Rose}
use Rattle.program_edge.specs.declared.kept.KeptSink.{KeptSink}

-- what a source has left and a sink took, where they show it, and their counts of faults
pub record Moment : Type 0 where
  pub left : Option (List ℕ)
  pub read_faults : ℕ
  pub taken : Option (List ℕ)
  pub write_faults : ℕ

-- what a sink that keeps took: what the sink behind it took, and after that what is kept
abbrev pub kept_taken : {K : Type 0} → (K → Option (List ℕ)) → KeptSink K → Option (List ℕ)
kept_taken taken s = append_known (taken s.to) s.kept.items

-- The last write: what was taken stays as it was, so what was kept is written in order and nothing twice. All of it is
-- written and the exit status is the top call's, or a write failed, as the count of the sink behind says, and it is 5.
-- Where nothing was kept, nothing is done.
pub record LastWrite {K : Type 0} (taken : K → Option (List ℕ)) (faults : K → ℕ) (before now : KeptSink K)
    (number status : ℕ) : Type 0 where
  pub same : Keeps (kept_taken taken before) (kept_taken taken now)
  pub ended : ((now.kept.items ≡ []) × (status ≡ number)) ⊎ (Rose (faults before.to) (faults now.to) × (status ≡ 5))
  pub nothing : before.kept.items ≡ [] → now ≡ before

-- The top call ended over the sink that keeps, with an exit status, and the last write followed.
pub record ProgramEnds {K : Type 0} (Ends : KeptSink K → ℕ → Type 0) (taken : K → Option (List ℕ)) (faults : K → ℕ)
    (now : KeptSink K) (status : ℕ) : Type 0 where
  pub middle : KeptSink K
  pub number : ℕ
  pub ran : Ends middle number
  pub written : LastWrite taken faults middle now number status
