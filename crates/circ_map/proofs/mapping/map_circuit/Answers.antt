use Rattle.std.proofs.Common.{◌≡◌, ◌∙◌, ap, sym, subst, Ok}
use Rattle.net_defs.specs.Network.{IsFabric}
use Rattle.replicate_merge.specs.Table.{IsTrueOfOne}
use Rattle.circ_map.specs.declared.mapping.CircMapped.{CircMapped}
use Rattle.circ_map.specs.Mapping.{IsCoreWhereDeep, IsMappedBy, IsTreeMapped}
use Rattle.circ_map.specs.declared.mapping.CircEnd.TheVariants.{Whole}
use Rattle.circ_map.proofs.Inward.{mapped-core, ok-weaker, tree-mapped, whole-few, whole-once, whole-true}
use Rattle.circ_map.proofs.Turnwise.{asking-same}
use Rattle.circ_map.proofs.mapping.map_circuit.Goals as goal

pub grow-requires-clause-asking : goal.grow-requires-clause-asking
grow-requires-clause-asking g c =
    let p = g.P.CircProber in
    asking-same (p.fabric c.started.new.p) (p.fabric c.args.p.now) (p.mapper c.started.new.p) (p.mapper c.args.p.now) c.args.depth c.in_ok-tree.tree.found.items c.in_ok-tree.tree.asks 0
    (sym c.started.ensures.same_fabric) (sym c.started.ensures.same_mapper) c.in_ok-tree.ensures.asking

pub mapped-requires-clause-once : goal.mapped-requires-clause-once
mapped-requires-clause-once g c e =
    let p = g.P.CircProber in
    whole-once (p.fabric c.started.new.p) (p.mapper c.started.new.p) c.args.depth c.grow.new.tree.found.items c.grow.new.tree.asks (c.in_ok-whole.ensures.whole (ap Ok e))

pub mapped-requires-clause-true_of_one : goal.mapped-requires-clause-true_of_one
mapped-requires-clause-true_of_one g c e =
    let p = g.P.CircProber in
    let host = c.in_ok-whole.ensures.host ∙ c.in_ok-tree.ensures.host ∙ sym c.started.ensures.same_mapper in
    subst (λ h. IsTrueOfOne h c.grow.new.tree.found.items) (sym host)
    (whole-true (p.fabric c.started.new.p) (p.mapper c.started.new.p) c.args.depth c.grow.new.tree.found.items c.grow.new.tree.asks (subst (λ n. IsFabric n) (sym c.started.ensures.same_fabric) c.host-host.ensures.one_fabric) (c.in_ok-whole.ensures.whole (ap Ok e)))

pub mapped-requires-clause-few : goal.mapped-requires-clause-few
mapped-requires-clause-few g c e =
    let p = g.P.CircProber in
    whole-few (p.fabric c.started.new.p) (p.mapper c.started.new.p) c.args.depth c.grow.new.tree.found.items c.grow.new.tree.asks (c.in_ok-whole.ensures.whole (ap Ok e))

pub returns-clause-mapped : goal.returns-clause-mapped
returns-clause-mapped g c =
    let p = g.P.CircProber in
    ok-weaker (λ (m : CircMapped). IsTreeMapped c.grow.new.tree.host c.grow.new.tree.found.items c.grow.new.tree.asks c.in_ok-whole.whole m.map m.asks m.end)
    (λ (m : CircMapped). IsMappedBy (p.fabric c.args.p.now) (p.mapper c.args.p.now) c.args.depth m.map m.asks m.end) c.mapped.result
    (λ m t. tree-mapped (p.fabric c.args.p.now) (p.fabric c.started.new.p) (p.mapper c.args.p.now) (p.mapper c.started.new.p) c.grow.new.tree.host c.args.depth c.grow.new.tree.found.items c.grow.new.tree.asks c.in_ok-whole.whole m.map m.asks m.end
    c.started.ensures.same_fabric c.started.ensures.same_mapper (c.in_ok-whole.ensures.host ∙ c.in_ok-tree.ensures.host) (λ e. c.in_ok-whole.ensures.whole (ap Ok e)) (λ e. c.in_ok-whole.ensures.passed (ap Ok e)) t)
    c.mapped.ensures.told

pub returns-clause-core : goal.returns-clause-core
returns-clause-core g c =
    let p = g.P.CircProber in
    ok-weaker (λ (m : CircMapped). IsMappedBy (p.fabric c.args.p.now) (p.mapper c.args.p.now) c.args.depth m.map m.asks m.end)
    (λ (m : CircMapped). m.end ≡ Whole → IsCoreWhereDeep (p.fabric c.args.p.now) (p.mapper c.args.p.now) c.args.depth m.map) c.mapped.result
    (λ m t. mapped-core (p.fabric c.args.p.now) (p.mapper c.args.p.now) c.args.depth m.map m.asks m.end c.host-host.ensures.one_fabric t)
    (returns-clause-mapped g c)
