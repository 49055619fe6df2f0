use Rattle.std.proofs.Common.{◌≡◌, true, false, sym}
use Rattle.std.specs.Prelude.{pos, ◌-ℤ◌}
use Rattle.map_defs.specs.NetMap.{map_far}
use Rattle.map_defs.specs.Sameness.{IsMapOfPart}
use Rattle.map_sameness.specs.declared.pairing.Image.{Image}
use Rattle.map_sameness.specs.Pairing.{Meets, may_be, paired}
use Rattle.map_sameness.proofs.Meeting.{place-of, asked-met, asked-wrong, both-on_ok, none-wrong, far-none}
use Rattle.map_sameness.proofs.comparing.meet.Goals as goal

pub far_in_map-requires-clause-small : goal.far_in_map-requires-clause-small
far_in_map-requires-clause-small c = c.requires.pairing.small c.args.v c.args.i c.requires.image

pub pair_far-requires-clause-place : goal.pair_far-requires-clause-place
pair_far-requires-clause-place c =
    place-of c.args.f.now c.args.m.now c.args.pairing.now c.in-Some.end (record { v = c.args.i.vertex; p = c.args.port }) c.requires.pairing (sym c.in-Some.ensures.end)

pub returns-in-Some-far_in_map-clause-met : goal.returns-in-Some-far_in_map-clause-met
returns-in-Some-far_in_map-clause-met c =
    let n = c.args.f.now in
    let m = c.args.m.now in
    let s = c.args.pairing.now in
    let w = c.in-Some-far_in_map.other.0 in
    let j : Image = record { vertex = c.in-Some.end.v; offset = pos c.in-Some.end.p -ℤ c.in-Some-far_in_map.other.1 } in
    both-on_ok c.pair_far.result (λ is. is ≡ may_be m s w j) (c.pair_far.new.pairing ≡ paired m s w j)
    (λ is. is ≡ true → Meets n m s c.pair_far.new.pairing c.args.v c.args.i c.args.port)
    (λ is may after. asked-met n m s c.pair_far.new.pairing c.args.v c.args.i c.args.port is (record {
      end = c.in-Some.end;
      w = c.in-Some-far_in_map.other.0;
      q = c.in-Some-far_in_map.other.1;
      pairing = c.requires.pairing;
      image = c.requires.image;
      small = c.pair_far.ensures.small;
      cable = c.in-Some.ensures.end;
      led = c.in-Some-far_in_map.ensures.port;
      may = may;
      after = after;
    }))
    c.pair_far.ensures.is c.pair_far.ensures.pairs

pub returns-in-Some-far_in_map-clause-other : goal.returns-in-Some-far_in_map-clause-other
returns-in-Some-far_in_map-clause-other c =
    let n = c.args.f.now in
    let m = c.args.m.now in
    let s = c.args.pairing.now in
    let w = c.in-Some-far_in_map.other.0 in
    let j : Image = record { vertex = c.in-Some.end.v; offset = pos c.in-Some.end.p -ℤ c.in-Some-far_in_map.other.1 } in
    both-on_ok c.pair_far.result (λ is. is ≡ may_be m s w j) (c.pair_far.new.pairing ≡ paired m s w j)
    (λ is. is ≡ false → IsMapOfPart n s.host m → ⊥)
    (λ is may after. asked-wrong n m s c.pair_far.new.pairing c.args.v c.args.i c.args.port is (record {
      end = c.in-Some.end;
      w = c.in-Some-far_in_map.other.0;
      q = c.in-Some-far_in_map.other.1;
      pairing = c.requires.pairing;
      image = c.requires.image;
      small = c.pair_far.ensures.small;
      cable = c.in-Some.ensures.end;
      led = c.in-Some-far_in_map.ensures.port;
      may = may;
      after = after;
    }))
    c.pair_far.ensures.is c.pair_far.ensures.pairs

pub returns-in-None-far_in_map-clause-other : goal.returns-in-None-far_in_map-clause-other
returns-in-None-far_in_map-clause-other c =
    let m = c.args.m.now in
    λ e. none-wrong c.args.f.now m c.args.pairing.now c.args.v c.args.i c.args.port c.in-Some.end c.requires.pairing c.requires.image (sym c.in-Some.ensures.end)
    (far-none (map_far m (record { v = c.args.v; p = pos c.args.port -ℤ c.args.i.offset })) c.in-None-far_in_map.ensures.port)
