use Rattle.std.proofs.Common.{◌≡◌, ◌≤◌, ◌-◌, true, length, is_ok, sym, subst}
use Rattle.std.specs.Prelude.{slice_get}
use Rattle.port_graph.specs.Routes.{is_above}
use Rattle.port_graph.proofs.Routing.{rising-either, short-either}
use Rattle.port_graph.proofs.routes.RouteSet.push.Goals as goal

pub invariant_of-self : goal.invariant_of-self
invariant_of-self c =
    let above : is_above (slice_get c.self.inside.routes.items (length c.self.inside.routes.items - 1)) c.args.r ≡ true = subst (λ rs. is_above (slice_get rs (length rs - 1)) c.args.r ≡ true) (sym c.self.view_is) (sym c.if-not-is_above_last.ensures) in
    let short : length c.args.r.walk ≤ 64 = subst (λ w. length w ≤ 64) c.turns-short.ensures.value c.turns-short.ensures.short in (
      rising-either (is_ok c.push.result) c.self.inside.routes.items c.push.new.self.items c.args.r c.push.ensures.items c.self.invariant.0 above,
      short-either (is_ok c.push.result) c.self.inside.routes.items c.push.new.self.items c.args.r c.push.ensures.items c.self.invariant.1 short,
    )
