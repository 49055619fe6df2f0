use Rattle.std.proofs.Common.{sym}
use Rattle.run_defs.specs.declared.command.Command.TheVariants.{Routes}
use Rattle.run_defs.specs.Session.{SessionState}
use Rattle.world_commands.specs.Cut.{HidesNoRefusal}
use Rattle.world_commands.specs.Done.{session_of}
use Rattle.world_commands.proofs.Cut.{in-doing, in-line}
use Rattle.run_session.proofs.Leaving.{routes-unrefused, no-map-missing}
use Rattle.run_session.proofs.routing.routes.Goals as goal

pub keep_routes-requires-clause-right : goal.keep_routes-requires-clause-right
keep_routes-requires-clause-right c = c.requires.map c.in-Some.last.now (sym c.in-Some.ensures)

pub returns-in-Some-clause-unrefused : goal.returns-in-Some-clause-unrefused
returns-in-Some-clause-unrefused c =
    let w = c.args.w.now in
    let s : SessionState = session_of w c.args.last_map.now c.args.last_routes.now in
    in-doing c.keep_routes.result (HidesNoRefusal s Routes w) (routes-unrefused s c.in-Some.last.now w (sym c.in-Some.ensures)) c.keep_routes.ensures.doing

pub returns-in-None-clause-unrefused : goal.returns-in-None-clause-unrefused
returns-in-None-clause-unrefused c =
    let w = c.args.w.now in
    let s : SessionState = session_of w c.args.last_map.now c.args.last_routes.now in
    in-line c.one_line.result (HidesNoRefusal s Routes w) (no-map-missing s (sym c.in-None.ensures)) c.one_line.ensures.err
