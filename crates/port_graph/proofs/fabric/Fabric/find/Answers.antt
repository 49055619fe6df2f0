use Rattle.std.proofs.Common.{◌≡◌, option_map, ap, sym, ◌∙◌, rules}
use Rattle.std.specs.Prelude.{position, bytes_eq}
use Rattle.net_defs.specs.declared.vertex.Vertex.TheVariants.{Host, Switch}
use Rattle.net_defs.specs.Building.{vertex_named, first_of_two}
use Rattle.port_graph.proofs.Fabrics.{vertex_named-of}
use Rattle.port_graph.proofs.fabric.Fabric.find.Goals as goal

pub returns-in-Some : goal.returns-in-Some
returns-in-Some c =
    ap (λ o. first_of_two (option_map Host o) (option_map Switch (position (λ v. bytes_eq c.args.name.now v.name) c.self.inside.switches))) c.in-Some.ensures
    ∙ sym (vertex_named-of c.self.inside.hosts c.self.inside.switches c.self.inside.cabling c.args.name.now)
    ∙ ap (λ n. vertex_named n c.args.name.now) c.self.view_is

pub returns-in-None : goal.returns-in-None
returns-in-None c =
    let mapped : c.map.result ≡ option_map Switch (position (λ v. bytes_eq c.args.name.now v.name) c.self.inside.switches) = search rules in
    mapped
    ∙ ap (λ o. first_of_two (option_map Host o) (option_map Switch (position (λ v. bytes_eq c.args.name.now v.name) c.self.inside.switches))) c.in-None.ensures
    ∙ sym (vertex_named-of c.self.inside.hosts c.self.inside.switches c.self.inside.cabling c.args.name.now)
    ∙ ap (λ n. vertex_named n c.args.name.now) c.self.view_is
