use Rattle.route_install.proofs.installer.Installer.of_works.Goals as goal

pub invariant_of-result : goal.invariant_of-result
invariant_of-result c = record { few_tries = c.requires.few_tries; few_works = c.requires.few; is_at = c.requires.undone }
