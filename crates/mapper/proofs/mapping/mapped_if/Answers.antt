use Rattle.std.proofs.Common.{sym, subst}
use Rattle.journal_defs.specs.Truth.{IsTrueWhereFound}
use Rattle.map_laws.proofs.Assembly.{closed_map_is_right}
use Rattle.probe.specs.Keeping.{JournalState}
use Rattle.mapper.specs.Ends.{IsEnd}
use Rattle.mapper.specs.Maps.{MapsBy, IsMapIf}
use Rattle.mapper.proofs.Adding.{on-err}
use Rattle.mapper.proofs.Ending.{short-grown, stops-grown, closed-end, closed-within, deep-closed, deep-one, quotient-within}
use Rattle.mapper.proofs.mapping.mapped_if.Goals as goal

pub returns-in_err-grown-clause-stopped : goal.returns-in_err-grown-clause-stopped
returns-in_err-grown-clause-stopped g c = on-err c.from_residual.result c.in_err-grown.ensures.stopped

pub returns-in_err-mapped-clause-stopped : goal.returns-in_err-mapped-clause-stopped
returns-in_err-mapped-clause-stopped g c =
    let p = g.P.Prober in
    let k = c.in_ok-grown.ensures in
    on-err c.from_residual-in_err-mapped.result (stops-grown p.State p.asked p.cut (p.mapper c.args.p.now) c.args.depth c.in_ok-grown.grown.journal.entries (p.state c.args.p.now) (p.state c.grow.new.p) k.grown k.asked)

pub with_map-requires-clause-true_of_one : goal.with_map-requires-clause-true_of_one
with_map-requires-clause-true_of_one g c =
    let p = g.P.Prober in
    let k = c.in_ok-grown.ensures in
    record {
      fabric = p.fabric c.args.p.now;
      is_fabric = c.host-host.ensures.one_fabric;
      told = subst (λ h. IsTrueWhereFound (p.fabric c.args.p.now) h c.in_ok-grown.grown.journal.entries) (sym k.host) k.found;
    }

pub with_map-requires-clause-stands : goal.with_map-requires-clause-stands
with_map-requires-clause-stands g c = c.in_ok-grown.ensures.stands

pub with_map-requires-clause-few : goal.with_map-requires-clause-few
with_map-requires-clause-few g c = short-grown (g.P.Prober.mapper c.args.p.now) c.args.depth c.in_ok-grown.grown.journal.entries c.in_ok-grown.ensures.grown

pub with_map-requires-clause-at_limit : goal.with_map-requires-clause-at_limit
with_map-requires-clause-at_limit g c = c.in_ok-grown.ensures.at_limit

pub returns-clause-maps : goal.returns-clause-maps
returns-clause-maps g c =
    let p = g.P.Prober in
    let n = p.fabric c.args.p.now in
    let host = p.mapper c.args.p.now in
    let depth = c.args.depth in
    let j = c.in_ok-grown.grown.journal.entries in
    let m = c.in_ok-mapped.mapped in
    let here = c.host-host.ensures in
    let k = c.in_ok-grown.ensures in
    let w = c.in_ok-mapped.ensures in
    let end : IsEnd host j m.end = subst (λ h. IsEnd h j m.end) k.host w.end in
    let made : IsMapIf c.args.always host j m.map = subst (λ h. IsMapIf c.args.always h j m.map) k.host w.made in
    subst (λ (v : JournalState). MapsBy p.State p.asked n host depth (p.state c.args.p.now) (p.lost c.args.p.now) (record m { journal = v }) (p.state c.grow.new.p) (p.lost c.grow.new.p)) (sym w.journal) (record {
      same_host = k.host;
      grown = k.grown;
      led = k.asked;
      found = k.found;
      truth = k.truth;
      end = end;
      certificate = λ closed calm. closed_map_is_right n host depth j m.map here.one_fabric (k.truth calm) k.grown (closed-end host j m.end end closed) (quotient-within host j m.map c.args.always made (closed-within host j m.end end closed));
      deep = λ calm deep small. deep-closed n host depth j here.one_fabric here.there (k.truth calm) k.grown deep small m.end end;
      deeper = λ calm deep small. deep-one n host depth j here.one_fabric here.there (k.truth calm) k.grown deep small;
    })

pub returns-clause-made : goal.returns-clause-made
returns-clause-made g c =
    let host = g.P.Prober.mapper c.args.p.now in
    let k = c.in_ok-grown.ensures in
    let w = c.in_ok-mapped.ensures in
    let m = c.in_ok-mapped.mapped.map in
    subst (λ (v : JournalState). IsMapIf c.args.always host v.entries m) (sym w.journal) (subst (λ h. IsMapIf c.args.always h c.in_ok-grown.grown.journal.entries m) k.host w.made)
