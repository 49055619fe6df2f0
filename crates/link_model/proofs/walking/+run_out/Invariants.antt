use Rattle.link_model.proofs.walking.+run_out.Given as goal

abbrev pub decreases-run_out : goal.decreases-run_out
decreases-run_out l = l.steps
