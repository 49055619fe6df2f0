use Rattle.std.proofs.Common.{◌≡◌, ◌+◌, ◌<◌, [], length, true, false, sym, ◌∙◌, subst, ap, arith}
use Rattle.std.specs.Prelude.{slice_index_or}
use Rattle.circ_defs.specs.Ways.{IsPath}
use Rattle.circ_ears.specs.Search.{may_end}
use Rattle.circ_ears.specs.Trails.{end_of}
use Rattle.circ_ears.proofs.Searching.{IsSearching, searching-few, searching-first, searching-found, searching-next, searching-none}
use Rattle.circ_ears.proofs.search.search.Goals as goal

pub loop-at-init : goal.loop-at-init
loop-at-init c =
    subst (λ ws. IsSearching c.args.f.now c.args.old.now c.args.first ws 0) (sym c.in_ok-ways.ensures)
    (searching-first c.args.f.now c.args.old.now c.args.first c.hosts-count.ensures.fabric c.requires.step)

pub loop-at-preserved : goal.loop-at-preserved
loop-at-preserved c =
    let ws = c.loop-at.ways.items in
    let low : c.loop-at.at < length c.loop-at.ways.items = omega arith in
    let goes : may_end c.args.f.now c.args.old.now (end_of (slice_index_or c.loop-at.ways.items c.loop-at.at [])) ≡ false =
    ap (λ w. may_end c.args.f.now c.args.old.now (end_of w)) (sym (c.way_at.ensures ∙ ap (λ l. slice_index_or l c.loop-at.at []) c.deref.ensures.value)) ∙ sym c.stops.ensures ∙ c.if-stops.false in
    subst (λ l. IsSearching c.args.f.now c.args.old.now c.args.first l (c.loop-at.at + 1)) (sym c.in_ok-lead_over_all.ensures)
    (searching-next c.args.f.now c.args.old.now c.args.first ws c.loop-at.at c.hosts-count.ensures.fabric low goes c.loop-at.invariant)

pub loop-at-smaller : goal.loop-at-smaller
loop-at-smaller c =
    let few = searching-few c.args.f.now c.args.old.now c.args.first c.loop-at.ways.items c.loop-at.at c.hosts-count.ensures.fabric c.loop-at.invariant in
    omega arith

pub returns-then-stops-clause-found : goal.returns-then-stops-clause-found
returns-then-stops-clause-found c =
    let way : c.way_at.result.now ≡ slice_index_or c.loop-at.ways.items c.loop-at.at [] =
    c.way_at.ensures ∙ ap (λ l. slice_index_or l c.loop-at.at []) c.deref.ensures.value in
    let low : c.loop-at.at < length c.loop-at.ways.items = omega arith in
    let ends : may_end c.args.f.now c.args.old.now (end_of (slice_index_or c.loop-at.ways.items c.loop-at.at [])) ≡ true =
    ap (λ w. may_end c.args.f.now c.args.old.now (end_of w)) (sym way) ∙ sym c.stops.ensures ∙ c.if-stops.true in
    let again : c.way_at-then-stops.result.now ≡ slice_index_or c.loop-at.ways.items c.loop-at.at [] =
    c.way_at-then-stops.ensures ∙ ap (λ l. slice_index_or l c.loop-at.at []) c.deref-then-stops.ensures.value in
    subst (IsPath c.args.f.now c.args.old.now) (sym (c.in_ok-copied.ensures ∙ again))
    (searching-found c.args.f.now c.args.old.now c.args.first c.loop-at.ways.items c.loop-at.at c.requires.step c.requires.new c.requires.begins low ends c.loop-at.invariant)

pub returns-clause-none : goal.returns-clause-none
returns-clause-none c e =
    searching-none c.args.f.now c.args.old.now c.args.first c.loop-at.ways.items c.loop-at.at (omega arith) c.loop-at.invariant
