use Rattle.std.proofs.Common.{◌≡◌, ◌∷◌, [], List, true, ◌∙◌, sym, ap, subst}
use Rattle.std.proofs.lemmas.Result.{on_ok_weaker}
use Rattle.net_defs.specs.Network.{Network, has_vertex}
use Rattle.world_defs.specs.declared.event.Event.TheVariants.{Pull as PullEvent}
use Rattle.world_defs.specs.World.{WorldState}
use Rattle.run_defs.specs.declared.command.Command.TheVariants.{Pull}
use Rattle.run_defs.specs.declared.line.Line.TheVariants.{Pull as PullLine}
use Rattle.run_defs.specs.Output.{Piece, OneLine}
use Rattle.fab_report.specs.Printed.{printed_of}
use Rattle.fab_remap.specs.Remap.{effect_of}
use Rattle.world_commands.specs.Cut.{IsLeft}
use Rattle.world_commands.proofs.Cabled.{end-stays, event-later, pulled_so, pulled_left}
use Rattle.world_commands.proofs.Cut.{in-line}
use Rattle.world_commands.proofs.Later.{printed-before}
use Rattle.world_commands.proofs.remapping.pull.Goals as goal

pub one_line-requires : goal.one_line-requires
one_line-requires c =
    let w : WorldState = c.args.w.now in
    let v : WorldState = c.pulled-done.new.w in
    let later = event-later w v (PullEvent c.args.at) (effect_of c.pulled-done.result) c.pulled-done.ensures.event in
    record { of_fabric = subst (λ (n : Network). has_vertex n c.args.at.v ≡ true) (sym c.fabric.ensures) (end-stays w v c.args.at later c.requires) }

pub returns-clause-done : goal.returns-clause-done
returns-clause-done c =
    let w : WorldState = c.args.w.now in
    let v : WorldState = c.pulled-done.new.w in
    let out : List Piece = OneLine (PullLine c.args.at c.pulled-done.result) ∷ [] in
    let later = event-later w v (PullEvent c.args.at) (effect_of c.pulled-done.result) c.pulled-done.ensures.event in
    on_ok_weaker c.one_line.result
    (λ e. pulled_so w v c.args.at c.pulled-done.result c.one_line.new.printed c.pulled-done.ensures.event (e ∙ ap (λ n. printed_of n out) c.fabric.ensures ∙ printed-before w v later out))
    c.one_line.ensures.printed

pub returns-clause-err : goal.returns-clause-err
returns-clause-err c =
    in-line c.one_line.result (IsLeft (Pull c.args.at) c.args.w.now c.pulled-done.new.w) (pulled_left c.args.w.now c.pulled-done.new.w c.args.at c.pulled-done.result c.pulled-done.ensures.event) c.one_line.ensures.err

pub returns-clause-cables : goal.returns-clause-cables
returns-clause-cables c = event-later c.args.w.now c.pulled-done.new.w (PullEvent c.args.at) (effect_of c.pulled-done.result) c.pulled-done.ensures.event
