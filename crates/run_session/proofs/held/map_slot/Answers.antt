use Rattle.std.proofs.Common.{◌≡◌, ◌∙◌, Option, Some, OnOk, OnErr, sym, ap, subst}
use Rattle.world_defs.specs.World.{WorldState}
use Rattle.run_defs.specs.Session.{LastRoutes}
use Rattle.promise_laws.specs.CutShort.{IsCutShort}
use Rattle.world_commands.specs.Done.{session_of}
use Rattle.run_session.specs.Holding.{world_in}
use Rattle.run_session.specs.Kept.{IsLastMap, GoesOn}
use Rattle.run_session.specs.Obeyed.{IsObeyed}
use Rattle.run_session.specs.Told.{map_of}
use Rattle.run_session.proofs.held.map_slot.Goals as goal

pub map-world-requires-clause-kept : goal.map-world-requires-clause-kept
map-world-requires-clause-kept c =
    let before : world_in c.args.slot.now ≡ c.in-Some.world = cc (c.requires.world) in
    subst (λ (w : WorldState). IsLastMap w.links.cables c.args.last_map.now) before c.requires.kept

pub returns-clause-world : goal.returns-clause-world
returns-clause-world c = c.replace.ensures.after ∙ ap (λ (w : WorldState). Some w) (sym (ap world_in c.replace.ensures.after))

pub returns-clause-obeyed : goal.returns-clause-obeyed
returns-clause-obeyed c =
    let before : c.in-Some.world ≡ world_in c.args.slot.now = cc (c.requires.world) in
    let after : c.map-world.result.0 ≡ world_in c.replace.new.self = sym (ap world_in c.replace.ensures.after) in
    let made = c.map-world.new.last_map in
    let p = c.map-world.new.printed in
    subst (λ (v : WorldState). OnOk c.map-world.result.1 ((found : Option LastRoutes) → IsObeyed (session_of (world_in c.args.slot.now) c.args.last_map.now found) (map_of c.args.order) (session_of v made found) p)) after
    (subst (λ (w : WorldState). OnOk c.map-world.result.1 ((found : Option LastRoutes) → IsObeyed (session_of w c.args.last_map.now found) (map_of c.args.order) (session_of c.map-world.result.0 made found) p)) before
    c.map-world.ensures.obeyed)

pub returns-clause-kept : goal.returns-clause-kept
returns-clause-kept c =
    let after : c.map-world.result.0 ≡ world_in c.replace.new.self = sym (ap world_in c.replace.ensures.after) in
    subst (λ (w : WorldState). IsLastMap w.links.cables c.map-world.new.last_map) after c.map-world.ensures.kept

pub returns-clause-cables : goal.returns-clause-cables
returns-clause-cables c =
    let before : c.in-Some.world ≡ world_in c.args.slot.now = cc (c.requires.world) in
    let after : c.map-world.result.0 ≡ world_in c.replace.new.self = sym (ap world_in c.replace.ensures.after) in
    subst (λ (v : WorldState). GoesOn (world_in c.args.slot.now) v) after (subst (λ (w : WorldState). GoesOn w c.map-world.result.0) before c.map-world.ensures.cables)

pub returns-clause-cut : goal.returns-clause-cut
returns-clause-cut c =
    let before : c.in-Some.world ≡ world_in c.args.slot.now = cc (c.requires.world) in
    let after : c.map-world.result.0 ≡ world_in c.replace.new.self = sym (ap world_in c.replace.ensures.after) in
    subst (λ (v : WorldState). OnErr c.map-world.result.1 ((found : Option LastRoutes) → IsCutShort (session_of (world_in c.args.slot.now) c.args.last_map.now found) (map_of c.args.order) v)) after
    (subst (λ (w : WorldState). OnErr c.map-world.result.1 ((found : Option LastRoutes) → IsCutShort (session_of w c.args.last_map.now found) (map_of c.args.order) c.map-world.result.0)) before
    c.map-world.ensures.cut)
