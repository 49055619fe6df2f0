use Rattle.std.proofs.Common.{ap, sym, ◌∙◌}
use Rattle.map_sameness.specs.Pairing.{Pairs}
use Rattle.map_sameness.proofs.Whole.{pairing-taken, next-compared, all-compared}
use Rattle.map_sameness.proofs.comparing.compare_all.Goals as goal

pub compare-requires : goal.compare-requires
compare-requires c = pairing-taken c.args.f.now c.args.m.now c.comparing.pairing c.next.new.self _ c.in-Some.ensures.taken c.comparing.invariant.pairing

pub comparing-preserved : goal.comparing-preserved
comparing-preserved c =
    let n = c.args.f.now in
    let m = c.args.m.now in
    let s = c.comparing.pairing in
    let r = c.next.new.self in
    let done = c.in_ok-compare.ensures.same c.if-not-branch.false in
    record {
      pairing = done.pairing;
      compared = next-compared n m s r c.compare.new.pairing c.in-Some.v c.in-Some.ensures.taken c.comparing.invariant.compared done;
      host = done.grows.host ∙ sym (ap (λ (x : Pairs). x.host) c.in-Some.ensures.taken) ∙ c.comparing.invariant.host;
    }

pub returns : goal.returns
returns c =
    all-compared c.args.f.now c.args.m.now c.comparing.pairing c.next.new.self c.args.pairing.now.host c.is_whole.result c.in_default.ensures.taken c.in_default.ensures.done
    c.comparing.invariant.pairing c.comparing.invariant.compared c.comparing.invariant.host c.is_whole.ensures
