use Rattle.std.proofs.Common.{◌∙◌, ap}
use Rattle.world_defs.specs.Links.{empty_links}
use Rattle.run_session.proofs.Going.{links_now}
use Rattle.run_session.proofs.walking.walk_links.Goals as goal

pub returns-clause-links : goal.returns-clause-links
returns-clause-links c =
    links_now c.args.w.now (record { links = c.in_ok-links.links; made = c.changes-made.result }) c.moment.ensures.kept c.changes-made.ensures
    (c.in_ok-links.ensures ∙ ap empty_links c.fabric.ensures)
