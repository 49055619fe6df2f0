use Rattle.std.proofs.Common.{◌≡◌, List, length, nat_lt, get_or, subst}
use Rattle.std.specs.Prelude.{IfSome, is_some}
use Rattle.world_defs.specs.Mapping.{RouteEntry}
use Rattle.route_install.proofs.Rising.{looked}
use Rattle.route_install.proofs.finding.entry_in.Goals as goal

pub returns-in-Some : goal.returns-in-Some
returns-in-Some c =
    let at = c.get.ensures.lookup in
    let inside = c.get-in-Some.ensures.lookup in
    looked (λ x. x.now) (λ x. x.now) c.args.parts.now c.args.part c.args.place c.get.result c.in-Some.part c.get-in-Some.result c.in-Some.is at.0 at.1
    (subst (λ (l : List RouteEntry). is_some c.get-in-Some.result ≡ nat_lt c.args.place (length l)) c.entries.ensures inside.0)
    (subst (λ (l : List RouteEntry). IfSome c.get-in-Some.result (λ x. x.now ≡ get_or l c.args.place x.now)) c.entries.ensures inside.1)
