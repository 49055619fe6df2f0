use Rattle.std.proofs.Common.{ap, ◌∙◌}
use Rattle.net_defs.specs.Network.{far_end}
use Rattle.port_graph.proofs.Tables.{table-filled, table-joined}
use Rattle.port_graph.proofs.cabling.Cabling.push.Goals as goal

pub invariant_of-self-in_err-push : goal.invariant_of-self-in_err-push
invariant_of-self-in_err-push c =
    rw c.in_err-push.ensures.items (table-filled c.self.inside.cables.items c.self.inside.far.items c.resize.new.self.items _ c.self.inside.far.ok.0 c.self.invariant c.in_ok-resize.ensures.items).0

pub invariant_of-self-2 : goal.invariant_of-self-2
invariant_of-self-2 c =
    let full = table-filled c.self.inside.cables.items c.self.inside.far.items c.resize.new.self.items _ c.self.inside.far.ok.0 c.self.invariant c.in_ok-resize.ensures.items in
    rw (c.in_ok-push.ensures.items, c.place_of.ensures.place, c.place_of-2.ensures.place) (table-joined c.self.inside.cables.items c.resize.new.self.items c.args.a c.args.b full.0 full.1 c.requires.possible_a c.requires.possible_b (ap (λ cs. far_end cs c.args.a) c.self.view_is ∙ c.requires.free_a) (ap (λ cs. far_end cs c.args.b) c.self.view_is ∙ c.requires.free_b) c.requires.two)
