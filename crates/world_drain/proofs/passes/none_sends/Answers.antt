use Rattle.std.proofs.Common.{◌≡◌, ◌-◌, ◌+◌, ℕ, Bool, not, true, false, ap, sym, ◌∙◌, arith}
use Rattle.std.specs.List.{list_all, range_with_len}
use Rattle.world_defs.specs.World.{host_count, addresses, has_to_send}
use Rattle.fab_world.specs.Resting.{IsSilentIn}
use Rattle.fab_world.proofs.PassedBy.{up-to, to-end}
use Rattle.world_drain.proofs.AtRest.{silent-by, all-cut, all-end}
use Rattle.world_drain.proofs.Quiet.{all-on}
use Rattle.world_drain.proofs.passes.none_sends.Goals as goal

pub returns-then-has_to_send : goal.returns-then-has_to_send
returns-then-has_to_send c =
    let w = c.args.w.now in
    let t : ℕ → Bool = λ h. not (has_to_send w h) in
    let whole : Bool = list_all t (addresses w) in
    let P : ℕ → Type 0 = λ h. list_all t (range_with_len h (host_count w - h)) ≡ whole in
    let f = c.in-Some.ensures.found in
    let at : P c.in-Some.host = up-to (IsSilentIn w) P w c.loop-host.from (silent-by w whole) c.in-Some.host f.above f.there f.passed c.loop-host.invariant in
    let here : has_to_send w c.in-Some.host ≡ true = sym c.has_to_send.ensures ∙ c.if-has_to_send.true in
    all-cut t (host_count w) c.in-Some.host whole f.there (ap not here) at

pub loop-host-preserved : goal.loop-host-preserved
loop-host-preserved c =
    let w = c.args.w.now in
    let t : ℕ → Bool = λ h. not (has_to_send w h) in
    let whole : Bool = list_all t (addresses w) in
    let P : ℕ → Type 0 = λ h. list_all t (range_with_len h (host_count w - h)) ≡ whole in
    let f = c.in-Some.ensures.found in
    let at : P c.in-Some.host = up-to (IsSilentIn w) P w c.loop-host.from (silent-by w whole) c.in-Some.host f.above f.there f.passed c.loop-host.invariant in
    let here : has_to_send w c.in-Some.host ≡ false = sym c.has_to_send.ensures ∙ c.if-has_to_send.false in
    all-on t (host_count w) c.in-Some.host whole f.there (ap not here) at

pub returns : goal.returns
returns c =
    let w = c.args.w.now in
    let t : ℕ → Bool = λ h. not (has_to_send w h) in
    let whole : Bool = list_all t (addresses w) in
    let P : ℕ → Type 0 = λ h. list_all t (range_with_len h (host_count w - h)) ≡ whole in
    let all : P (c.loop-host.from + (host_count w - c.loop-host.from)) = to-end (IsSilentIn w) P w c.loop-host.from (silent-by w whole) c.in_default.ensures.none c.loop-host.invariant in
    all-end t (host_count w) (c.loop-host.from + (host_count w - c.loop-host.from)) whole (omega arith) all
