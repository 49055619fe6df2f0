use Rattle.std.proofs.Common.{◌<◌, sym, ◌∙◌, subst, arith}
use Rattle.std.specs.Prelude.{Ok}
use Rattle.mapper.specs.Growths.{HasGrown, IsToldOf, IsSwept}
use Rattle.mapper.proofs.Adding.{on-err}
use Rattle.mapper.proofs.Sweeping.{short-settled}
use Rattle.mapper.proofs.Starting.{grows-on, stops-on}
use Rattle.mapper.proofs.growth.grow_tree.Goals as goal

pub returns-in_err-start-clause-stopped : goal.returns-in_err-start-clause-stopped
returns-in_err-start-clause-stopped g c = on-err c.from_residual.result c.in_err-start.ensures.stopped

pub growing-init : goal.growing-init
growing-init g c =
    let k = c.in_ok-start.ensures in
    record {
      settled = k.started.settled;
      host = k.started.at_host;
      depth = k.started.to_depth;
      grown = k.started.grown;
      one_fabric = k.one_fabric;
      same_fabric = k.same_fabric;
      same_mapper = k.same_mapper;
      later = k.later;
      is_ready = k.stays_ready;
    }

pub expand_next-requires-clause-is_ready : goal.expand_next-requires-clause-is_ready
expand_next-requires-clause-is_ready g c = c.growing.invariant.is_ready

pub expand_next-requires-clause-mapper : goal.expand_next-requires-clause-mapper
expand_next-requires-clause-mapper g c = c.growing.invariant.host ∙ sym c.growing.invariant.same_mapper

pub expand_next-requires-clause-shallow : goal.expand_next-requires-clause-shallow
expand_next-requires-clause-shallow g c = let d = c.growing.invariant.depth in let s = c.requires.shallow in omega arith

pub expand_next-requires-clause-settled : goal.expand_next-requires-clause-settled
expand_next-requires-clause-settled g c = c.growing.invariant.settled

pub expand_next-requires-clause-told : goal.expand_next-requires-clause-told
expand_next-requires-clause-told g c =
    let p = g.P.Prober in
    let i = c.growing.invariant in
    let j = c.growing.tree.journal.entries in
    subst (λ h. IsToldOf (p.fabric c.growing.p) h j) (sym i.same_mapper) (subst (λ n. IsToldOf n (p.mapper c.args.p.now) j) (sym i.same_fabric) (record { is_fabric = i.one_fabric; told = i.grown.found }))

pub returns-in_err-expand_next-clause-stopped : goal.returns-in_err-expand_next-clause-stopped
returns-in_err-expand_next-clause-stopped g c =
    let p = g.P.Prober in
    let i = c.growing.invariant in
    on-err c.from_residual-in_err-expand_next.result (stops-on p.State p.asked (p.fabric c.args.p.now) (p.mapper c.args.p.now) c.args.tree.now.depth (p.state c.args.p.now) (p.state c.growing.p) (p.lost c.args.p.now) (p.lost c.growing.p) p.cut c.growing.tree (p.state c.expand_next.new.p) i.host i.depth i.grown c.in_err-expand_next.ensures.stopped)

pub growing-smaller : goal.growing-smaller
growing-smaller g c =
    let k = c.in_ok-expand_next.ensures in
    let rises : c.growing.next < c.expand_next.new.next = k.rises (λ i. Ok (c.if-branch.true i)) in
    let settled : IsSwept c.expand_next.new.tree c.expand_next.new.next = k.goes_on (λ i. Ok (c.if-branch.true i)) in
    let few = short-settled c.expand_next.new.tree c.expand_next.new.next settled in
    let within = settled.within in
    omega arith

pub growing-preserved : goal.growing-preserved
growing-preserved g c =
    let p = g.P.Prober in
    let n = p.fabric c.args.p.now in
    let i = c.growing.invariant in
    let k = c.in_ok-expand_next.ensures in
    let old = c.growing.tree in
    let new = c.expand_next.new.tree in
    let more : HasGrown p.State p.asked n old (p.state c.growing.p) (p.lost c.growing.p) new (p.state c.expand_next.new.p) (p.lost c.expand_next.new.p) = subst (λ f. HasGrown p.State p.asked f old (p.state c.growing.p) (p.lost c.growing.p) new (p.state c.expand_next.new.p) (p.lost c.expand_next.new.p)) i.same_fabric k.grown in
    let before = i.later in
    let later = k.later in
    record {
      settled = k.goes_on (λ i. Ok (c.if-branch.true i));
      host = more.host ∙ i.host;
      depth = more.depth ∙ i.depth;
      grown = grows-on p.State p.asked n (p.mapper c.args.p.now) c.args.tree.now.depth (p.state c.args.p.now) (p.state c.growing.p) (p.lost c.args.p.now) (p.lost c.growing.p) old new (p.state c.expand_next.new.p) (p.lost c.expand_next.new.p) i.host i.depth i.grown more;
      one_fabric = i.one_fabric;
      same_fabric = k.same_fabric ∙ i.same_fabric;
      same_mapper = k.same_mapper ∙ i.same_mapper;
      later = omega (arith, before, later);
      is_ready = k.stays_ready;
    }

pub returns-clause-grown : goal.returns-clause-grown
returns-clause-grown g c =
    let p = g.P.Prober in
    let n = p.fabric c.args.p.now in
    let i = c.growing.invariant in
    let k = c.in_ok-expand_next.ensures in
    let old = c.growing.tree in
    let new = c.expand_next.new.tree in
    let more : HasGrown p.State p.asked n old (p.state c.growing.p) (p.lost c.growing.p) new (p.state c.expand_next.new.p) (p.lost c.expand_next.new.p) = subst (λ f. HasGrown p.State p.asked f old (p.state c.growing.p) (p.lost c.growing.p) new (p.state c.expand_next.new.p) (p.lost c.expand_next.new.p)) i.same_fabric k.grown in
    record {
      at_host = more.host ∙ i.host;
      to_depth = more.depth ∙ i.depth;
      whole = k.ends (λ i. Ok (c.if-branch.false i));
      grown = grows-on p.State p.asked n (p.mapper c.args.p.now) c.args.tree.now.depth (p.state c.args.p.now) (p.state c.growing.p) (p.lost c.args.p.now) (p.lost c.growing.p) old new (p.state c.expand_next.new.p) (p.lost c.expand_next.new.p) i.host i.depth i.grown more;
    }
