use Rattle.std.proofs.Common.{length, ap, sym, subst, ◌∙◌}
use Rattle.map_defs.specs.Core.{core_of}
use Rattle.run_defs.specs.Mapped.{IsCalled}
use Rattle.mapper.proofs.Adding.{on-err}
use Rattle.mapper.proofs.Ending.{stops-grown}
use Rattle.map_making.proofs.Words.{calm}
use Rattle.map_making.proofs.Marks.{marked-right, marked-empty, made-of_fabric}
use Rattle.map_making.proofs.making.make_map.Goals as goal

pub returns-in_err-mapped-clause-stopped : goal.returns-in_err-mapped-clause-stopped
returns-in_err-mapped-clause-stopped g c = on-err c.from_residual.result c.in_err-mapped.ensures.stopped

pub returns-in_err-map-clause-stopped : goal.returns-in_err-map-clause-stopped
returns-in_err-map-clause-stopped g c =
    let p = g.P.Prober in
    let k = c.in_ok-mapped.ensures in
    on-err c.from_residual-in_err-map.result (stops-grown p.State p.asked p.cut (p.mapper c.args.p.now) c.args.depth c.in_ok-mapped.mapped.journal.entries (p.state c.args.p.now) (p.state c.map_within.new.p) k.maps.grown k.maps.led)

pub returns-clause-made : goal.returns-clause-made
returns-clause-made g c =
    let p = g.P.Prober in
    let k = c.in_ok-mapped.ensures in
    let host = p.mapper c.args.p.now in
    let j = c.in_ok-mapped.mapped.journal.entries in
    let m = c.in_ok-mapped.mapped.map in
    record {
      journal = j;
      led = k.maps.led;
      grown = k.maps.grown;
      within = λ l. record { unmarked = m; quotient = k.within.quotient l; marked = c.in_ok-map.ensures };
      beyond = λ l. marked-empty m c.in_ok-map.map (k.within.none l) c.in_ok-map.ensures;
      called = subst (λ d. IsCalled host j d c.words_of-words.result) c.drowned.ensures (c.words_of-words.ensures.called host j k.maps.end);
      asks = ap length c.entries.ensures.list;
    }

pub returns-clause-certificate : goal.returns-clause-certificate
returns-clause-certificate g c complete =
    let p = g.P.Prober in
    let k = c.in_ok-mapped.ensures in
    let m = c.in_ok-mapped.mapped.map in
    let w = c.words_of-words.ensures.complete.0 complete in
    let rest = calm (p.lost c.args.p.now) (p.lost c.map_within.new.p) c.requires.fresh (sym c.drowned.ensures ∙ w.1) in
    marked-right (p.fabric c.args.p.now) (p.mapper c.args.p.now) m c.in_ok-map.map (core_of m) c.in_ok-map.ensures (k.maps.certificate w.0 rest)

pub returns-clause-depth : goal.returns-clause-depth
returns-clause-depth g c none deep small =
    let p = g.P.Prober in
    let k = c.in_ok-mapped.ensures in
    let rest = calm (p.lost c.args.p.now) (p.lost c.map_within.new.p) c.requires.fresh none in
    c.words_of-words.ensures.complete.1 (k.maps.deep rest deep small, c.drowned.ensures ∙ none)

pub returns-clause-of_fabric : goal.returns-clause-of_fabric
returns-clause-of_fabric g c =
    let p = g.P.Prober in
    let k = c.in_ok-mapped.ensures in
    let n = p.fabric c.args.p.now in
    let host = p.mapper c.args.p.now in
    let j = c.in_ok-mapped.mapped.journal.entries in
    let m = c.in_ok-mapped.mapped.map in
    let here = c.host-host.ensures in
    made-of_fabric n host c.args.depth j m c.in_ok-map.map here.one_fabric here.there k.maps.found k.maps.grown k.within.quotient k.within.none c.in_ok-map.ensures
