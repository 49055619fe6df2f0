use Rattle.std.proofs.Common.{List, Option, option_map, nat_eq, ℕ, sym, ap, ◌∙◌}
use Rattle.std.specs.Prelude.{find, option_and_then}
use Rattle.world_defs.specs.Mapping.{RouteEntry}
use Rattle.world_defs.specs.Table.{ActiveTable, table_route}
use Rattle.route_install.specs.Collecting.{HostTable, Numbered, joined_all, active_of}
use Rattle.route_install.proofs.table.Table.route.Goals as goal

pub returns-in-Some : goal.returns-in-Some
returns-in-Some c =
    let ps : List Numbered = c.self.inside.active.items in
    c.route_in.ensures
    ∙ ap (λ (l : List Numbered). option_map (λ (e : RouteEntry). e.walk) (find (λ e. nat_eq e.to c.args.to) (joined_all l))) c.deref.ensures.value
    ∙ ap (λ (o : Option ℕ). option_and_then (λ (a : ActiveTable). option_map (λ (e : RouteEntry). e.walk) (find (λ e. nat_eq e.to c.args.to) a.entries)) (active_of o ps)) (sym c.in-Some.is)
    ∙ ap (λ (t : HostTable). table_route t.state c.args.to) c.self.view_is
