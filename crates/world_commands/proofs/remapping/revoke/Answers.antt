use Rattle.std.proofs.Common.{◌∷◌, [], List, ◌∙◌, ap}
use Rattle.std.proofs.lemmas.Result.{on_ok_weaker}
use Rattle.world_defs.specs.World.{WorldState}
use Rattle.run_defs.specs.declared.command.Command.TheVariants.{Revoke}
use Rattle.run_defs.specs.declared.line.Line.TheVariants.{Revoked}
use Rattle.run_defs.specs.Output.{Piece, OneLine}
use Rattle.fab_report.specs.Printed.{printed_of}
use Rattle.world_commands.specs.Cut.{IsLeft}
use Rattle.world_commands.proofs.Cabled.{same-later, revoked_so, revoked_left}
use Rattle.world_commands.proofs.Cut.{in-line}
use Rattle.world_commands.proofs.Later.{printed-before}
use Rattle.world_commands.proofs.remapping.revoke.Goals as goal

pub returns-clause-done : goal.returns-clause-done
returns-clause-done c =
    let w : WorldState = c.args.w.now in
    let v : WorldState = c.revoked-count.new.w in
    let out : List Piece = OneLine (Revoked c.revoked-count.result) ∷ [] in
    on_ok_weaker c.one_line.result
    (λ e. revoked_so w v c.revoked-count.result c.one_line.new.printed c.revoked-count.ensures.after c.revoked-count.ensures.count
    (e ∙ ap (λ n. printed_of n out) c.fabric.ensures ∙ printed-before w v (same-later w v c.revoked-count.ensures.cables) out))
    c.one_line.ensures.printed

pub returns-clause-err : goal.returns-clause-err
returns-clause-err c =
    in-line c.one_line.result (IsLeft Revoke c.args.w.now c.revoked-count.new.w) (revoked_left c.args.w.now c.revoked-count.new.w c.revoked-count.ensures.after) c.one_line.ensures.err

pub returns-clause-cables : goal.returns-clause-cables
returns-clause-cables c = same-later c.args.w.now c.revoked-count.new.w c.revoked-count.ensures.cables
