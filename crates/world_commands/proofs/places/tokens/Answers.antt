use Rattle.std.proofs.Common.{◌∙◌, None, ap, sym}
use Rattle.std.proofs.lemmas.Result.{on_ok_weaker}
use Rattle.world_defs.specs.Node.{port_at}
use Rattle.world_defs.specs.World.{WorldState, fabric_of, node_at}
use Rattle.run_defs.specs.declared.command.Command.TheVariants.{Tokens}
use Rattle.run_defs.specs.Outcome.{token_lines}
use Rattle.run_defs.specs.Output.{lines}
use Rattle.fab_report.specs.Printed.{printed_of}
use Rattle.world_commands.specs.Cut.{IsLeft}
use Rattle.world_commands.proofs.Calls.{closed_told, tokens_told}
use Rattle.world_commands.proofs.Cut.{in-line, tokens_left}
use Rattle.world_commands.proofs.Done.{tokens_so}
use Rattle.world_commands.proofs.places.tokens.Goals as goal

pub returns-in-Ok-clause-done : goal.returns-in-Ok-clause-done
returns-in-Ok-clause-done c =
    let w : WorldState = c.args.w.now in
    let at = c.args.at in
    let port = port_at (node_at w at.host) at.port in
    let counts = c.in-Some.counts in
    let told = c.print_places.new.printed in
    tokens_so w at.host at.port told (tokens_told (fabric_of w) at counts.0 counts.1 port told (sym c.in-Some.ensures) c.in-Ok.ensures)

pub returns-in_default-clause-err : goal.returns-in_default-clause-err
returns-in_default-clause-err c = tokens_left c.args.w.now c.args.at

pub returns-in-None-clause-done : goal.returns-in-None-clause-done
returns-in-None-clause-done c =
    let w : WorldState = c.args.w.now in
    let at = c.args.at in
    let port = port_at (node_at w at.host) at.port in
    let told = c.print_answer.new.printed in
    on_ok_weaker c.print_answer.result
    (λ e. tokens_so w at.host at.port told
    (closed_told (fabric_of w) at port told (sym c.in-None.ensures) (e ∙ ap (λ n. printed_of n (lines (token_lines at.host at.port None))) c.fabric.ensures)))
    c.print_answer.ensures.text

pub returns-in-None-clause-err : goal.returns-in-None-clause-err
returns-in-None-clause-err c = in-line c.print_answer.result (IsLeft (Tokens c.args.at.host c.args.at.port) c.args.w.now c.args.w.now) (tokens_left c.args.w.now c.args.at) c.print_answer.ensures.err
