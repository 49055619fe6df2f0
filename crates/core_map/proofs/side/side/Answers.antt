use Rattle.std.proofs.Common.{◌≡◌, ◌<◌, ◌++◌, ℕ, List, true, false, length, get_or, take, drop, sym, ap, subst, ◌∙◌, arith}
use Rattle.std.specs.List.{AllByRecursion}
use Rattle.std.proofs.lemmas.List.{take_at}
use Rattle.map_defs.specs.declared.vertex.MapCable.{MapCable}
use Rattle.map_defs.specs.NetMap.{map_edges}
use Rattle.map_defs.specs.Core.{without}
use Rattle.core_map.specs.Marks.{spread_along, spreads_along}
use Rattle.core_map.proofs.Spreading.{AreReached, unmarked, along-long, along-keeps, along-falls, along-reached, along-settled, all-without}
use Rattle.core_map.proofs.Sides.{cables-low, first-reached, first-marked, first-long, side-found}
use Rattle.core_map.proofs.side.side.Goals as goal

pub spread-init : goal.spread-init
spread-init c =
    let m = c.args.m.now in
    let e = c.in_ok-marks.ensures in
    record {
      long = ap length e ∙ first-long (length m.vertices) c.args.v;
      reached = subst (AreReached (map_edges (without m.cables c.args.k)) c.args.v) (sym e) (first-reached (map_edges (without m.cables c.args.k)) (length m.vertices) c.args.v);
      marked = ap (λ l. get_or l c.args.v false) e ∙ first-marked (length m.vertices) c.args.v c.requires.vertex;
    }

pub spread_around-requires-clause-cable : goal.spread_around-requires-clause-cable
spread_around-requires-clause-cable c = subst (λ (cs : List MapCable). c.args.k < length cs) (sym c.cables-cables.ensures.value) c.requires.cable

pub spread_around-requires-clause-vertices : goal.spread_around-requires-clause-vertices
spread_around-requires-clause-vertices c =
    let m = c.args.m.now in
    let long : length c.deref_mut.result.now ≡ length m.vertices = ap length c.deref_mut.ensures.value ∙ c.spread.invariant.long in
    let low = cables-low (length m.vertices) m.cables c.cables-cables.ensures.is_map.is_map.cabled_vertices in
    subst (λ (cs : List MapCable). AllByRecursion (λ k. (k.v < length c.deref_mut.result.now) × (k.w < length c.deref_mut.result.now)) cs) (sym c.cables-cables.ensures.value)
    (subst (λ (n : ℕ). AllByRecursion (λ (k : MapCable). (k.v < n) × (k.w < n)) m.cables) (sym long) low)

pub spread-smaller : goal.spread-smaller
spread-smaller c =
    let m = c.args.m.now in
    let old = c.spread.marks.items in
    let cs = without c.cables-cables.result.now c.args.k in
    let new = c.spread_around.new.marks in
    let step : new ≡ spread_along cs old = c.spread_around.ensures.value ∙ ap (spread_along cs) c.deref_mut.ensures.value in
    let long : length new ≡ length old = ap length step ∙ along-long cs old in
    let held = c.spread.marks.ok.0 in
    let fits : length new ≡ c.spread.marks.len = omega arith in
    let same : take c.spread.marks.len (new ++ drop (length new) old) ≡ new = take_at new (drop (length new) old) c.spread.marks.len fits in
    let told : spreads_along cs old ≡ true = ap (spreads_along cs) (sym c.deref_mut.ensures.value) ∙ sym c.spread_around.ensures.told ∙ c.spread-test.true in
    let low : AllByRecursion (λ (k : MapCable). (k.v < length old) × (k.w < length old)) m.cables = subst (λ (n : ℕ). AllByRecursion (λ (k : MapCable). (k.v < n) × (k.w < n)) m.cables) (sym c.spread.invariant.long) (cables-low (length m.vertices) m.cables c.cables-cables.ensures.is_map.is_map.cabled_vertices) in
    let here : AllByRecursion (λ (k : MapCable). (k.v < length old) × (k.w < length old)) cs = subst (λ ks. AllByRecursion (λ (k : MapCable). (k.v < length old) × (k.w < length old)) (without ks c.args.k)) (sym c.cables-cables.ensures.value) (all-without (λ k. (k.v < length old) × (k.w < length old)) m.cables c.args.k low) in
    let less : unmarked new < unmarked old = subst (λ l. unmarked l < unmarked old) (sym step) (along-falls cs old here told) in
    subst (λ l. unmarked l < unmarked old) (sym same) less

pub spread-preserved : goal.spread-preserved
spread-preserved c =
    let m = c.args.m.now in
    let old = c.spread.marks.items in
    let cs = without m.cables c.args.k in
    let new = c.spread_around.new.marks in
    let step : new ≡ spread_along cs old = c.spread_around.ensures.value ∙ ap (spread_along (without c.cables-cables.result.now c.args.k)) c.deref_mut.ensures.value ∙ ap (λ ks. spread_along (without ks c.args.k) old) c.cables-cables.ensures.value in
    let long : length new ≡ length old = ap length step ∙ along-long cs old in
    let held = c.spread.marks.ok.0 in
    let fits : length new ≡ c.spread.marks.len = omega arith in
    let same : take c.spread.marks.len (new ++ drop (length new) old) ≡ new = take_at new (drop (length new) old) c.spread.marks.len fits in
    let here : take c.spread.marks.len (new ++ drop (length new) old) ≡ spread_along cs old = same ∙ step in
    record {
      long = ap length same ∙ long ∙ c.spread.invariant.long;
      reached = subst (AreReached (map_edges cs) c.args.v) (sym here) (along-reached (map_edges cs) c.args.v cs old (λ v w e. e) c.spread.invariant.reached);
      marked = ap (λ l. get_or l c.args.v false) here ∙ along-keeps cs old c.args.v c.spread.invariant.marked;
    }

pub returns : goal.returns
returns c =
    let m = c.args.m.now in
    let old = c.spread.marks.items in
    let cs = without m.cables c.args.k in
    let new = c.spread_around.new.marks in
    let step : new ≡ spread_along cs old = c.spread_around.ensures.value ∙ ap (spread_along (without c.cables-cables.result.now c.args.k)) c.deref_mut.ensures.value ∙ ap (λ ks. spread_along (without ks c.args.k) old) c.cables-cables.ensures.value in
    let long : length new ≡ length old = ap length step ∙ along-long cs old in
    let held = c.spread.marks.ok.0 in
    let fits : length new ≡ c.spread.marks.len = omega arith in
    let same : take c.spread.marks.len (new ++ drop (length new) old) ≡ new = take_at new (drop (length new) old) c.spread.marks.len fits in
    let told : spreads_along cs old ≡ false = ap (λ ks. spreads_along (without ks c.args.k) old) (sym c.cables-cables.ensures.value) ∙ ap (spreads_along (without c.cables-cables.result.now c.args.k)) (sym c.deref_mut.ensures.value) ∙ sym c.spread_around.ensures.told ∙ c.spread-test.false in
    same ∙ step ∙ (along-settled cs old told).0 ∙ side-found m c.args.k c.args.v old c.cables-cables.ensures.is_map.is_map c.requires.vertex c.spread.invariant.long c.spread.invariant.reached c.spread.invariant.marked told
