use Rattle.std.proofs.Common.{ℕ, List, ap, ◌∙◌, ◌∷◌, [], ◌++◌}
use Rattle.std.specs.Prelude.{flat_map}
use Rattle.std.proofs.lemmas.Result.{on_ok_weaker}
use Rattle.run_defs.specs.declared.line.Line.TheVariants.{Installed}
use Rattle.run_defs.specs.LineText.{line_text}
use Rattle.run_defs.specs.Outcome.{table_line}
use Rattle.run_defs.specs.Output.{OneLine}
use Rattle.world_defs.specs.World.{fabric_of}
use Rattle.fab_report.specs.Printed.{printed_of}
use Rattle.world_commands.proofs.TableLines.{tables-told}
use Rattle.world_commands.proofs.tables.print_tables.Goals as goal

pub returns : goal.returns
returns c =
    let w = c.args.w.now in
    let first = c.put_line.new.self in
    on_ok_weaker c.follow.result
    (λ e. tables-told (fabric_of w) w (Installed c.args.acked c.args.of) c.args.hosts.now c.append_tables.new.text.items first c.follow.new.self
    (c.in_ok-put_line.ensures.printed ∙ ap (λ n. printed_of n (OneLine (Installed c.args.acked c.args.of) ∷ [])) c.fabric.ensures)
    (c.in_ok-append_tables.ensures ∙ ap (λ (t : List ℕ). t ++ flat_map (λ h. line_text (fabric_of w) (table_line w h)) c.args.hosts.now) c.new-tables.ensures.items)
    (e ∙ ap (λ (t : List ℕ). record { text = first.text ++ t; figures = first.figures }) c.deref.ensures.value))
    c.follow.ensures
