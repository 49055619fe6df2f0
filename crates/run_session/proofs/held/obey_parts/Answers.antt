use Rattle.std.proofs.Common.{◌≡◌, ◌∙◌, Option, OnOk, OnErr, sym, ap, subst}
use Rattle.std.specs.Prelude.{IfErr}
use Rattle.world_defs.specs.Links.{is_idle}
use Rattle.world_defs.specs.World.{WorldState}
use Rattle.run_defs.specs.declared.command.Command.{Command}
use Rattle.run_defs.specs.Session.{SessionState, LastRoutes}
use Rattle.promise_laws.specs.CutShort.{IsCutShort}
use Rattle.world_commands.specs.Cut.{HidesNoRefusal}
use Rattle.world_commands.specs.Done.{session_of}
use Rattle.world_commands.proofs.Answered.{on-err}
use Rattle.world_commands.proofs.Cut.{in-doing}
use Rattle.run_session.specs.Holding.{world_in, AreWalkLinks}
use Rattle.run_session.specs.Kept.{IsLastMap, AreLastRoutes, GoesOn}
use Rattle.run_session.specs.Obeyed.{IsObeyed}
use Rattle.run_session.specs.Told.{map_of}
use Rattle.run_session.proofs.Going.{kept-over, links-over, routes-over}
use Rattle.run_session.proofs.Leaving.{map-unrefused}
use Rattle.run_session.proofs.held.obey_parts.Goals as goal

pub map_slot-requires-clause-kept : goal.map_slot-requires-clause-kept
map_slot-requires-clause-kept c =
    let there : world_in c.args.slot.now ≡ c.in-Some.world = cc (c.requires.world) in
    subst (λ (w : WorldState). IsLastMap w.links.cables c.args.last_map.now) there c.requires.kept.complete

pub obey_here-requires-clause-map : goal.obey_here-requires-clause-map
obey_here-requires-clause-map c =
    let there : world_in c.args.slot.now ≡ c.in-Some.world = cc (c.requires.world) in
    subst (λ (w : WorldState). IsLastMap w.links.cables c.args.last_map.now) there c.requires.kept.complete

pub obey_here-requires-clause-routes : goal.obey_here-requires-clause-routes
obey_here-requires-clause-routes c =
    let there : world_in c.args.slot.now ≡ c.in-Some.world = cc (c.requires.world) in
    subst (λ (w : WorldState). AreLastRoutes w.links.cables c.args.last_routes.now) there c.requires.kept.routes

pub returns-in-None-clause-kept : goal.returns-in-None-clause-kept
returns-in-None-clause-kept c =
    let there : world_in c.args.slot.now ≡ c.in-Some.world = cc (c.requires.world) in
    let complete = subst (λ (w : WorldState). IsLastMap w.links.cables c.args.last_map.now) there c.requires.kept.complete in
    kept-over c.in-Some.world c.obey_here.new.w c.args.last_map.now c.obey_here.new.last_routes c.obey_here.ensures.cables complete c.obey_here.ensures.routes

pub returns-in-None-clause-links : goal.returns-in-None-clause-links
returns-in-None-clause-links c =
    links-over c.in-Some.world c.obey_here.new.w c.obey_here.new.links c.obey_here.ensures.cables c.obey_here.ensures.links

pub returns-in-Some-map_ordered-clause-kept : goal.returns-in-Some-map_ordered-clause-kept
returns-in-Some-map_ordered-clause-kept c =
    let there : world_in c.args.slot.now ≡ c.in-Some.world = cc (c.requires.world) in
    let routes = subst (λ (w : WorldState). AreLastRoutes w.links.cables c.args.last_routes.now) there c.requires.kept.routes in
    record {
      complete = c.map_slot.ensures.kept;
      routes = λ l e. routes-over c.in-Some.world (world_in c.map_slot.new.slot) l c.map_slot.ensures.cables (routes l e);
    }

pub returns-in-Some-map_ordered-clause-links : goal.returns-in-Some-map_ordered-clause-links
returns-in-Some-map_ordered-clause-links c =
    let there : world_in c.args.slot.now ≡ c.in-Some.world = cc (c.requires.world) in
    links-over c.in-Some.world (world_in c.map_slot.new.slot) c.args.links.now c.map_slot.ensures.cables
    (subst (λ (w : WorldState). AreWalkLinks w.links.cables c.args.links.now) there c.requires.links)

pub returns-in-None-clause-obeyed : goal.returns-in-None-clause-obeyed
returns-in-None-clause-obeyed c =
    let there : world_in c.args.slot.now ≡ c.in-Some.world = cc (c.requires.world) in
    let after : SessionState = session_of c.obey_here.new.w c.args.last_map.now c.obey_here.new.last_routes in
    subst (λ (w : WorldState). OnOk c.obey_here.result (IsObeyed (session_of w c.args.last_map.now c.args.last_routes.now) c.args.c.now after c.obey_here.new.printed)) (sym there) c.obey_here.ensures.obeyed

pub returns-in-None-clause-cables : goal.returns-in-None-clause-cables
returns-in-None-clause-cables c =
    let there : world_in c.args.slot.now ≡ c.in-Some.world = cc (c.requires.world) in
    subst (λ (w : WorldState). GoesOn w c.obey_here.new.w) (sym there) c.obey_here.ensures.cables

pub returns-in-None-clause-unrefused : goal.returns-in-None-clause-unrefused
returns-in-None-clause-unrefused c =
    let there : world_in c.args.slot.now ≡ c.in-Some.world = cc (c.requires.world) in
    subst (λ (w : WorldState). IfErr c.obey_here.result (HidesNoRefusal (session_of w c.args.last_map.now c.args.last_routes.now) c.args.c.now c.obey_here.new.w)) (sym there) c.obey_here.ensures.unrefused

pub returns-in-Some-map_ordered-clause-unrefused : goal.returns-in-Some-map_ordered-clause-unrefused
returns-in-Some-map_ordered-clause-unrefused c =
    let there : world_in c.args.slot.now ≡ c.in-Some.world = cc (c.requires.world) in
    let w : WorldState = world_in c.args.slot.now in
    let v : WorldState = world_in c.map_slot.new.slot in
    let made = c.in-Some-map_ordered.ensures.made in
    in-doing c.map_slot.result (HidesNoRefusal (session_of w c.args.last_map.now c.args.last_routes.now) c.args.c.now v)
    (map-unrefused w v c.args.last_map.now c.args.last_routes.now c.args.c.now c.in-Some-map_ordered.order made.0 (ap (λ (u : WorldState). is_idle u.links) there ∙ made.1)) c.map_slot.ensures.doing

pub returns-in-None-clause-cut : goal.returns-in-None-clause-cut
returns-in-None-clause-cut c =
    let there : world_in c.args.slot.now ≡ c.in-Some.world = cc (c.requires.world) in
    subst (λ (w : WorldState). OnErr c.obey_here.result (IsCutShort (session_of w c.args.last_map.now c.args.last_routes.now) c.args.c.now c.obey_here.new.w)) (sym there) c.obey_here.ensures.cut

pub returns-in-Some-map_ordered-clause-cut : goal.returns-in-Some-map_ordered-clause-cut
returns-in-Some-map_ordered-clause-cut c =
    let there : world_in c.args.slot.now ≡ c.in-Some.world = cc (c.requires.world) in
    let v : WorldState = world_in c.map_slot.new.slot in
    let made = c.in-Some-map_ordered.ensures.made in
    let of_map = on-err {P = (found : Option LastRoutes) → IsCutShort (session_of c.in-Some.world c.args.last_map.now found) (map_of c.in-Some-map_ordered.order) v}
    {Q = IsCutShort (session_of c.in-Some.world c.args.last_map.now c.args.last_routes.now) (map_of c.in-Some-map_ordered.order) v}
    c.map_slot.result (λ cut. cut c.args.last_routes.now) c.map_slot.ensures.cut in
    subst (λ (w : WorldState). OnErr c.map_slot.result (IsCutShort (session_of w c.args.last_map.now c.args.last_routes.now) c.args.c.now v)) (sym there)
    (subst (λ (d : Command). OnErr c.map_slot.result (IsCutShort (session_of c.in-Some.world c.args.last_map.now c.args.last_routes.now) d v)) (sym made.0) of_map)
