use Rattle.std.proofs.Common.{◌≡◌, ℕ, true}
use Rattle.map_sameness.specs.Pairing.{Meets, Compares}
use Rattle.map_sameness.proofs.Meeting.{if_ok-weaker}
use Rattle.map_sameness.proofs.Whole.{stray_wrong, compares}
use Rattle.map_sameness.proofs.comparing.compare_ports.Goals as goal

pub has_stray-requires-clause-small : goal.has_stray-requires-clause-small
has_stray-requires-clause-small c = c.requires.pairing.small c.args.v c.args.i c.requires.image

pub returns-then-has_stray-clause-other : goal.returns-then-has_stray-clause-other
returns-then-has_stray-clause-other c =
    λ e. stray_wrong c.args.f.now c.args.m.now c.args.pairing.now c.args.v c.args.i c.requires.pairing c.requires.image (c.has_stray.ensures.stray c.if-has_stray.true)

pub returns-else-has_stray-clause-same : goal.returns-else-has_stray-clause-same
returns-else-has_stray-clause-same c =
    let n = c.args.f.now in
    let m = c.args.m.now in
    let s = c.args.pairing.now in
    let t = c.meet_all.new.pairing in
    if_ok-weaker c.meet_all.result (λ is. is ≡ true → (p : ℕ) → Meets n m s t c.args.v c.args.i p) (λ is. is ≡ true → Compares n m s t c.args.v)
    (λ is met e. compares n m s t c.args.v c.args.i c.requires.image (c.has_stray.ensures.none c.if-has_stray.false) (met e)) c.meet_all.ensures.met
