use Rattle.std.proofs.Common.{◌≡◌, ◌+◌, ◌-◌, ◌*◌, ℕ, inl, inr, ap, sym, ◌∙◌, arith}
use Rattle.map_quotient.specs.InOrder.{cables_below}
use Rattle.map_quotient.proofs.Reordered.{cables-next, cables-skip, cables-none, outside-none}
use Rattle.map_quotient.proofs.cables.add_cables_of.Goals.{in-Some+in_ok-push, in_default}
use Rattle.map_quotient.proofs.cables.add_cables_of.Goals as goal

pub loop-place-init : goal.loop-place-init
loop-place-init c =
    let m = c.args.map.now in
    let v : ℕ = c.args.v in
    let first : ℕ = c.span-places.result.0 in
    record {
      cables = c.requires.before ∙ cables-none m (31 * v) first (λ k low high.
          outside-none m v first c.span-places.result.1 k c.span-places.ensures.outside low (omega (arith, high, c.span-places.ensures.first)) (inl (omega (arith, low, high))));
      within = omega (arith, c.span-places.ensures.first);
    }

pub loop-place-preserved : goal.loop-place-preserved
loop-place-preserved c =
    elim c.match-cable_from.branch [
      | in-Some+in_ok-push w ↦ record {
        cables = ap (λ (x : _). x.items) w.cables-is ∙ cables-next c.args.map.now c.loop-place.place c.loop-place.cables.items w.push.new.self.items w.in-Some.cable c.loop-place.invariant.cables (sym c.cable_from.ensures ∙ w.in-Some.is) w.in_ok-push.ensures.items;
        within = omega (arith, c.loop-place-test.true, c.span-places.ensures.end);
      }
      | in_default w ↦ record {
        cables = ap (λ (x : _). x.items) w.cables-is ∙ cables-skip c.args.map.now c.loop-place.place c.loop-place.cables.items c.loop-place.invariant.cables (sym c.cable_from.ensures ∙ w.in_default.is);
        within = omega (arith, c.loop-place-test.true, c.span-places.ensures.end);
      }
    ]

pub returns : goal.returns
returns c =
    let m = c.args.map.now in
    let v : ℕ = c.args.v in
    let place : ℕ = c.loop-place.place in
    let gap : ℕ = 31 * v + 31 - place in
    let end : place + gap ≡ 31 * v + 31 = omega (arith, c.loop-place.invariant.within) in
    c.loop-place.invariant.cables ∙ cables-none m place gap (λ k low high.
    outside-none m v c.span-places.result.0 c.span-places.result.1 k c.span-places.ensures.outside (omega (arith, low, c.loop-place-test.false)) (omega (arith, high, end)) (inr (omega (arith, low, c.loop-place-test.false))))
    ∙ ap (cables_below m) end
