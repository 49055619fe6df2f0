use Rattle.std.proofs.Common.{sym, ◌∙◌, subst}
use Rattle.std.specs.List.{AllByRecursion}
use Rattle.world_commands.specs.Broken.{AreHostsOf}
use Rattle.world_commands.proofs.Cabled.{pairs-hosts}
use Rattle.world_commands.proofs.remapping.print_broken.Goals as goal

-- the hosts of broken routes are there
pub append_pairs-requires : goal.append_pairs-requires
append_pairs-requires c =
    subst (AllByRecursion (AreHostsOf c.args.w.now)) (sym (c.list.ensures ∙ c.in_ok-pairs.ensures)) (pairs-hosts c.args.w.now c.moment.ensures.kept)
