use Rattle.std.proofs.Common.{◌∷◌, ◌∙◌, [], ap, sym, subst}
use Rattle.std.proofs.lemmas.Result.{on_ok_weaker}
use Rattle.net_defs.specs.Network.{Network}
use Rattle.net_defs.specs.Route.{place, IsPlaceOf}
use Rattle.world_defs.specs.World.{WorldState, fabric_of}
use Rattle.run_defs.specs.declared.command.Command.TheVariants.{Walk}
use Rattle.run_defs.specs.declared.line.Line.TheVariants.{Walk as WalkLine}
use Rattle.run_defs.specs.Output.{OneLine}
use Rattle.fab_report.specs.Printed.{printed_of}
use Rattle.world_commands.specs.Cut.{IsLeft}
use Rattle.world_commands.proofs.Cut.{in-line, walk_left, walked_left}
use Rattle.world_commands.proofs.Done.{walked}
use Rattle.world_commands.proofs.Walks.{bare-empty, now-empty}
use Rattle.world_commands.proofs.telling.walk.Goals as goal

pub walk_alone-requires-clause-idle : goal.walk_alone-requires-clause-idle
walk_alone-requires-clause-idle c = bare-empty c.args.links.now (fabric_of c.args.w.now) c.requires.empty

pub one_line-requires : goal.one_line-requires
one_line-requires c =
    let now = now-empty c.args.links.now (fabric_of c.args.w.now) c.requires.empty in
    record { of_fabric = subst (λ (n : Network). IsPlaceOf n c.in-Ok.end) (now ∙ sym c.fabric.ensures) c.in-Ok.ensures.there }

pub returns-clause-done : goal.returns-clause-done
returns-clause-done c =
    let w : WorldState = c.args.w.now in
    let now = now-empty c.args.links.now (fabric_of w) c.requires.empty in
    on_ok_weaker c.one_line.result
    (λ e. walked w c.args.host c.args.turns.now c.one_line.new.printed
    (e ∙ ap (λ n. printed_of n (OneLine (WalkLine c.in-Ok.end) ∷ [])) c.fabric.ensures
    ∙ ap (λ x. printed_of (fabric_of w) (OneLine (WalkLine x) ∷ [])) (c.in-Ok.ensures.place ∙ ap (λ (n : Network). place n c.args.host c.args.turns.now) now)))
    c.one_line.ensures.printed

pub returns-in_default-clause-err : goal.returns-in_default-clause-err
returns-in_default-clause-err c = walk_left c.args.w.now c.args.host c.args.turns.now

pub returns-clause-err : goal.returns-clause-err
returns-clause-err c =
    in-line c.one_line.result (IsLeft (Walk c.args.host c.args.turns.now) c.args.w.now c.args.w.now) (walked_left c.args.w.now c.args.host c.args.turns.now) c.one_line.ensures.err
