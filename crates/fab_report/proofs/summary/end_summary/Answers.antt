use Rattle.fab_report.proofs.Summaries.{figures_written, on-ok}
use Rattle.fab_report.proofs.summary.end_summary.Goals as goal

pub returns : goal.returns
returns c =
    on-ok c.append_settles.result _ _ c.append_settles.ensures
    (figures_written c.args.f.now c.args.figures.now c.args.text.now.items c.append_mappings.new.text.items c.append_counts.new.text.items c.append_settles.new.text.items
    c.in_ok-append_mappings.ensures c.in_ok-append_counts.ensures)
