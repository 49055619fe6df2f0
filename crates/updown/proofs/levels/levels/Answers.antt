use Rattle.std.proofs.Common.{◌≡◌, ◌<◌, ◌++◌, ℕ, List, true, false, length, get_or, take, drop, sym, ap, subst, ◌∙◌, arith}
use Rattle.std.specs.List.{AllByRecursion}
use Rattle.std.proofs.lemmas.List.{take_at}
use Rattle.journal_defs.specs.Counting.{total}
use Rattle.map_defs.specs.declared.vertex.MapCable.{MapCable}
use Rattle.map_defs.specs.Orientation.{root, level}
use Rattle.updown.specs.Lowering.{lowered_along, lowers_along}
use Rattle.updown.proofs.Lowered.{IsAbove, along-long, along-below, along-falls, along-settled, along-above}
use Rattle.updown.proofs.Found.{cables-low, levels-near, first-above, first-root, first-long, levels-found}
use Rattle.updown.proofs.levels.levels.Goals as goal

pub lower-init : goal.lower-init
lower-init c =
    let m = c.args.m.now in
    let e = c.in_ok-levels.ensures in
    record {
      long = ap length e ∙ first-long (length m.vertices) (root m);
      above = subst (IsAbove (level m)) (sym e) (first-above m c.cables-cables.ensures.is_map.is_map c.requires);
      root_zero = λ some. ap (λ l. get_or l (root m) 0) e ∙ first-root m some;
    }

pub lower_all-requires : goal.lower_all-requires
lower_all-requires c =
    let m = c.args.m.now in
    let long : length c.deref_mut.result.now ≡ length m.vertices = ap length c.deref_mut.ensures.value ∙ c.lower.invariant.long in
    let low = cables-low (length m.vertices) m.cables c.cables-cables.ensures.is_map.is_map.cabled_vertices in
    subst (λ (cs : List MapCable). AllByRecursion (λ k. (k.v < length c.deref_mut.result.now) × (k.w < length c.deref_mut.result.now)) cs) (sym c.cables-cables.ensures.value)
    (subst (λ (n : ℕ). AllByRecursion (λ (k : MapCable). (k.v < n) × (k.w < n)) m.cables) (sym long) low)

pub lower-smaller : goal.lower-smaller
lower-smaller c =
    let old = c.lower.levels.items in
    let cs = c.cables-cables.result.now in
    let new = c.lower_all.new.levels in
    let step : new ≡ lowered_along cs old = c.lower_all.ensures.value ∙ ap (lowered_along cs) c.deref_mut.ensures.value in
    let long : length new ≡ length old = ap length step ∙ along-long cs old in
    let held = c.lower.levels.ok.0 in
    let fits : length new ≡ c.lower.levels.len = omega arith in
    let same : take c.lower.levels.len (new ++ drop (length new) old) ≡ new = take_at new (drop (length new) old) c.lower.levels.len fits in
    let told : lowers_along cs old ≡ true = ap (lowers_along cs) (sym c.deref_mut.ensures.value) ∙ sym c.lower_all.ensures.told ∙ c.lower-test.true in
    let less : total new < total old = subst (λ l. total l < total old) (sym step) (along-falls cs old told) in
    subst (λ l. total l < total old) (sym same) less

pub lower-preserved : goal.lower-preserved
lower-preserved c =
    let m = c.args.m.now in
    let old = c.lower.levels.items in
    let cs = c.cables-cables.result.now in
    let new = c.lower_all.new.levels in
    let is_map = c.cables-cables.ensures.is_map.is_map in
    let step : new ≡ lowered_along cs old = c.lower_all.ensures.value ∙ ap (lowered_along cs) c.deref_mut.ensures.value in
    let long : length new ≡ length old = ap length step ∙ along-long cs old in
    let held = c.lower.levels.ok.0 in
    let fits : length new ≡ c.lower.levels.len = omega arith in
    let same : take c.lower.levels.len (new ++ drop (length new) old) ≡ new = take_at new (drop (length new) old) c.lower.levels.len fits in
    let low : AllByRecursion (λ (k : MapCable). (k.v < length old) × (k.w < length old)) m.cables = subst (λ (n : ℕ). AllByRecursion (λ (k : MapCable). (k.v < n) × (k.w < n)) m.cables) (sym c.lower.invariant.long) (cables-low (length m.vertices) m.cables is_map.cabled_vertices) in
    let above : IsAbove (level m) (lowered_along m.cables old) = along-above (level m) m.cables old c.lower.invariant.above low (levels-near m is_map c.requires) in
    let here : take c.lower.levels.len (new ++ drop (length new) old) ≡ lowered_along m.cables old = same ∙ step ∙ ap (λ l. lowered_along l old) c.cables-cables.ensures.value in
    record {
      long = ap length same ∙ long ∙ c.lower.invariant.long;
      above = subst (IsAbove (level m)) (sym here) above;
      root_zero = λ some. (let zero = c.lower.invariant.root_zero some in let less = along-below m.cables old (root m) in let e = ap (λ l. get_or l (root m) 0) here in omega arith);
    }

pub returns : goal.returns
returns c =
    let m = c.args.m.now in
    let old = c.lower.levels.items in
    let cs = c.cables-cables.result.now in
    let new = c.lower_all.new.levels in
    let is_map = c.cables-cables.ensures.is_map.is_map in
    let step : new ≡ lowered_along cs old = c.lower_all.ensures.value ∙ ap (lowered_along cs) c.deref_mut.ensures.value in
    let long : length new ≡ length old = ap length step ∙ along-long cs old in
    let held = c.lower.levels.ok.0 in
    let fits : length new ≡ c.lower.levels.len = omega arith in
    let same : take c.lower.levels.len (new ++ drop (length new) old) ≡ new = take_at new (drop (length new) old) c.lower.levels.len fits in
    let told : lowers_along cs old ≡ false = ap (lowers_along cs) (sym c.deref_mut.ensures.value) ∙ sym c.lower_all.ensures.told ∙ c.lower-test.false in
    let still : lowers_along m.cables old ≡ false = ap (λ l. lowers_along l old) (sym c.cables-cables.ensures.value) ∙ told in
    same ∙ step ∙ (along-settled cs old told).0 ∙ levels-found m old is_map c.requires c.lower.invariant.long c.lower.invariant.above c.lower.invariant.root_zero still
