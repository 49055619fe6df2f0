use Rattle.std.proofs.Common.{◌≡◌, ◌∙◌, List, sym, ap, Some}
use Rattle.net_defs.specs.declared.route.Route.{Route}
use Rattle.world_defs.specs.World.{standing_of}
use Rattle.run_defs.specs.Session.{LastRoutes}
use Rattle.adopted_routes.specs.Adopting.{adopt_refusal}
use Rattle.run_session.proofs.Installable.{cause-none, cause-some, no-memory}
use Rattle.run_session.proofs.installing.adoption_refused.Goals as goal

pub returns-in-None : goal.returns-in-None
returns-in-None c =
    let w = c.args.w.now in
    let routes : c.l.inside.routes ≡ c.args.l.now.routes = ap (λ (x : LastRoutes). x.routes) c.l.view_is in
    cause-none c.args.l.now.routes w (ap (λ (rs : List Route). adopt_refusal (standing_of w) rs w.adopted) (sym routes) ∙ sym c.adopt_refusal.ensures ∙ c.in-None.is)

pub returns-in-Some-Unrevoked : goal.returns-in-Some-Unrevoked
returns-in-Some-Unrevoked c =
    let w = c.args.w.now in
    let routes : c.l.inside.routes ≡ c.args.l.now.routes = ap (λ (x : LastRoutes). x.routes) c.l.view_is in
    cause-some c.args.l.now.routes w _
    (ap (λ (rs : List Route). adopt_refusal (standing_of w) rs w.adopted) (sym routes) ∙ sym c.adopt_refusal.ensures ∙ c.in-Some-Unrevoked.is ∙ ap Some c.in-Some-Unrevoked.field-0-is)

pub returns-in-Some-Epochs : goal.returns-in-Some-Epochs
returns-in-Some-Epochs c =
    let w = c.args.w.now in
    let routes : c.l.inside.routes ≡ c.args.l.now.routes = ap (λ (x : LastRoutes). x.routes) c.l.view_is in
    cause-some c.args.l.now.routes w _
    (ap (λ (rs : List Route). adopt_refusal (standing_of w) rs w.adopted) (sym routes) ∙ sym c.adopt_refusal.ensures ∙ c.in-Some-Epochs.is ∙ ap Some c.in-Some-Epochs.field-0-is)

pub unreachable-requires : goal.unreachable-requires
unreachable-requires c =
    let w = c.args.w.now in
    no-memory (standing_of w) c.l.inside.routes w.adopted (sym c.adopt_refusal.ensures ∙ c.in-Some-NoMemory.is ∙ ap Some c.in-Some-NoMemory.field-0-is)
