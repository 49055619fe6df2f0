use Rattle.std.proofs.Common.{◌≡◌, ◌+◌, List, Some, None, drop, nat_eq, option_map, ap, sym, ◌∙◌}
use Rattle.std.specs.Prelude.{find}
use Rattle.world_defs.specs.Mapping.{RouteEntry}
use Rattle.route_install.specs.Collecting.{Numbered, joined_all}
use Rattle.route_install.proofs.Numbers.{found-at, first-some, first-none}
use Rattle.route_install.proofs.finding.first_route.Goals as goal

pub returns-in-Some : goal.returns-in-Some
returns-in-Some c =
    let ps : List Numbered = c.args.parts.now in
    let at = c.loop-part.part-index in
    let item : Numbered = c.part-item.result in
    let told : Some c.in-Some.walk.now ≡ option_map (λ e. e.walk) (find (λ (e : RouteEntry). nat_eq e.to c.args.to) item.1) = c.in-Some.ensures ∙ ap (λ (l : List RouteEntry). option_map (λ e. e.walk) (find (λ e. nat_eq e.to c.args.to) l)) c.entries.ensures in
    told
    ∙ first-some (λ (e : RouteEntry). e.walk) c.in-Some.walk.now (find (λ e. nat_eq e.to c.args.to) item.1) (find (λ e. nat_eq e.to c.args.to) (joined_all (drop (at + 1) ps))) told
    ∙ ap (option_map (λ (e : RouteEntry). e.walk)) (sym (c.loop-part.invariant ∙ found-at (λ e. nat_eq e.to c.args.to) at item ps c.loop-part-test.true c.part-item.is))

pub loop-part-preserved : goal.loop-part-preserved
loop-part-preserved c =
    let ps : List Numbered = c.args.parts.now in
    let at = c.loop-part.part-index in
    let item : Numbered = c.part-item.result in
    let told : None ≡ option_map (λ e. e.walk) (find (λ (e : RouteEntry). nat_eq e.to c.args.to) item.1) = c.in-None.ensures ∙ ap (λ (l : List RouteEntry). option_map (λ e. e.walk) (find (λ e. nat_eq e.to c.args.to) l)) c.entries.ensures in
    c.loop-part.invariant
    ∙ found-at (λ e. nat_eq e.to c.args.to) at item ps c.loop-part-test.true c.part-item.is
    ∙ first-none (λ (e : RouteEntry). e.walk) (find (λ e. nat_eq e.to c.args.to) item.1) (find (λ e. nat_eq e.to c.args.to) (joined_all (drop (at + 1) ps))) told
