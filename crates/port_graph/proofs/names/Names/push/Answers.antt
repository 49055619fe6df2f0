use Rattle.std.proofs.Common.{◌≡◌, ◌++◌, ◌∷◌, [], List, ℕ, false, map, ap, ◌∙◌}
use Rattle.std.specs.Prelude.{bytes_eq}
use Rattle.std.specs.List.{list_any}
use Rattle.net_defs.specs.Network.{NamedSwitch}
use Rattle.port_graph.specs.Named.{named_entry}
use Rattle.port_graph.proofs.Naming.{named-insert}
use Rattle.port_graph.proofs.names.Names.push.Goals as goal

pub returns-clause-ok : goal.returns-clause-ok
returns-clause-ok c =
    let k = c.in_ok-to_vec.field-0 in
    let es = c.self.inside.ports.entries in
    let same : k.items ≡ c.args.name.now = c.in_ok-to_vec.ensures.items_if_clones_equal (λ x y e. e) in
    let new : list_any (λ v. bytes_eq k.items v.name) (map named_entry es) ≡ false =
    ap (λ name. list_any (λ v. bytes_eq name v.name) (map named_entry es)) same ∙ ap (list_any (λ v. bytes_eq c.args.name.now v.name)) c.self.view_is ∙ c.requires in
    let entry : List ℕ → NamedSwitch = λ name. record { name = name; ports = c.args.ports } in
    ap (map named_entry) c.in_ok-insert.ensures.entries
    ∙ named-insert es k c.args.ports new
    ∙ ap (λ l. l ++ entry k.items ∷ []) c.self.view_is
    ∙ ap (λ name. c.args.self.now ++ entry name ∷ []) same
