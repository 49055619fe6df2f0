-- The acts of a run are those of its commands: they lead to its last world, and are one list.
use Rattle.std.proofs.Common.{◌≡◌, List, [], ◌∷◌, ◌++◌, refl, sym, ◌∙◌, ap, subst}
use Rattle.std.specs.List.{AllByRecursion}
use Rattle.net_defs.specs.Network.{Network, IsFabric}
use Rattle.net_defs.proofs.Distinct.{all-push}
use Rattle.world_defs.specs.Acts.{acted_all, MayActAll}
use Rattle.run_defs.specs.declared.command.Command.{Command}
use Rattle.run_defs.specs.Output.{Piece}
use Rattle.run_defs.specs.Session.{SessionState}
use Rattle.run_defs.specs.Deed.{session_after}
use Rattle.run_defs.specs.Run.{IsDeed, Runs, IsRun}
use Rattle.run_defs.specs.Run.Runs.{ended, goes_on}
use Rattle.run_defs.proofs.Doing.{does-world}
use Rattle.run_laws.specs.Acts.{IsActOf}
use Rattle.run_laws.proofs.RunsOnce.{deed-one, runs-more}
use Rattle.promise_laws.specs.CommandActs.{acts_of, RunsAreTheirActs, ActsOfRunsAreOne}
use Rattle.promise_laws.proofs.Acting.{acted-append, may-append, deeds_are_single_acts}

-- they lead to its last world
runs-there : {s last : SessionState} {cs : List Command} {out : List Piece} → (r : Runs s cs out last) → last.world ≡ acted_all s.world (acts_of r)
runs-there ended = refl
runs-there {s = s} (goes_on d r e) = runs-there r ∙ ap (λ w. acted_all w (acts_of r)) (does-world d) ∙ sym (acted-append s.world d.deed.acts (acts_of r))

-- they may happen
runs-may : {s last : SessionState} {cs : List Command} {out : List Piece} → (n : Network) (done : List Command) (before : List Piece) → IsFabric n → AllByRecursion (IsActOf n) done → AllByRecursion (IsActOf n) cs
    → IsRun n done before s → (r : Runs s cs out last) → MayActAll s.world (acts_of r)
runs-may n done before f of_n all ran ended = tt
runs-may {s = s} n done before f of_n all ran (goes_on {c = c} {out = printed} d r e) =
    let first = (deeds_are_single_acts n done before s c d.deed f of_n all.0 ran d.is).may in
    let later = runs-may n (done ++ c ∷ []) (before ++ printed) f (all-push (IsActOf n) done c of_n all.0) all.1 (runs-more c printed ran d) r in
    may-append s.world d.deed.acts (acts_of r) first (subst (λ w. MayActAll w (acts_of r)) (does-world d) later)

pub runs_are_their_acts : RunsAreTheirActs
runs_are_their_acts n commands out last f all run = record {
  reached = record { fabric = f; acts = acts_of run; may = runs-may n [] [] f tt all ended run; leads = runs-there run };
  same = refl;
}

-- the acts of the same commands are the same
acts-one : {s t last end : SessionState} {cs : List Command} {out printed : List Piece} → s ≡ t → (r : Runs s cs out last) (q : Runs t cs printed end) → acts_of q ≡ acts_of r
acts-one p ended ended = refl
acts-one p (goes_on {c = c} d r e) (goes_on d_too r_too e_too) =
    let same : d.deed ≡ d_too.deed = deed-one d.is (subst (λ x. IsDeed x c d_too.deed) (sym p) d_too.is) in
    let on = d.leaves ∙ (λ i. session_after (p i) (same i)) ∙ sym d_too.leaves in
    let later = acts-one on r r_too in
    λ i. (sym same i).acts ++ later i

pub acts_of_runs_are_one : ActsOfRunsAreOne
acts_of_runs_are_one n commands out printed last end run again = acts-one refl run again
