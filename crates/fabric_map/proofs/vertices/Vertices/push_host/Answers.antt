use Rattle.std.proofs.Common.{◌≡◌, ◌+◌, max, length, ap, ◌∙◌, rules}
use Rattle.std.specs.Prelude.{position}
use Rattle.map_defs.specs.Routing.{is_host_named}
use Rattle.fabric_map.proofs.Listings.{index-host}
use Rattle.fabric_map.proofs.vertices.Vertices.push_host.Goals as goal

pub invariant_of-self-2 : goal.invariant_of-self-2
invariant_of-self-2 c =
    let n : c.len-vertex.result ≡ length c.self.inside.vertices.items = search rules in
    let from = c.from.ensures in
    let long : length c.lengthen.new.index.items ≡ max (c.args.h + 1) (length c.self.inside.by_address.items) = ap (λ k. length c.lengthen.new.index.items) from ∙ c.in_ok-lengthen.ensures.long ∙ ap (λ k. max (k + 1) (length c.self.inside.by_address.items)) from in
    rw (c.push_reserved.ensures.items, c.reserve-2.ensures.items, c.from-2.ensures, n)
    (index-host c.self.inside.vertices.items c.self.inside.switches c.self.inside.by_address.items c.lengthen.new.index.items c.args.h c.self.invariant long c.lengthen.ensures.kept (ap (λ m. position (is_host_named c.args.h) m.vertices) c.self.view_is ∙ c.requires.new))
