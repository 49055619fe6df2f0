use Rattle.std.proofs.Common.{List, ℕ, map, not, nat_eq, ap, sym, subst, ◌∙◌}
use Rattle.std.specs.List.{filter}
use Rattle.route_install.specs.declared.installer.Work.{Work}
use Rattle.route_install.specs.Installing.{AreOpen, new_work}
use Rattle.route_install.proofs.Works.{begins}
use Rattle.route_install.proofs.installer.Installer.new.Goals as goal

pub of_works-requires : goal.of_works-requires
of_works-requires c =
    let others : List ℕ = filter (λ h. not (nat_eq h c.args.mapper)) c.args.hosts.now in
    subst (λ (ws : List Work). AreOpen ws c.args.tries) (sym (c.in_ok-works.ensures ∙ ap (λ (n : ℕ). map (new_work n) others) c.part_count-parts.ensures))
    (begins c.args.mapper c.args.hosts.now c.args.tries c.requires)
