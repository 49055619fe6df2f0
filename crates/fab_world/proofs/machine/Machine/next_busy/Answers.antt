use Rattle.std.proofs.Common.{◌≡◌, ◌≤◌, ◌<◌, ℕ, length, subst, arith}
use Rattle.number_marks.specs.Marks.{mark_at, IsNextMark}
use Rattle.fab_world.specs.Resting.{IsSilent}
use Rattle.fab_world.proofs.Resting.{busy-next, none-marked, mark-past}
use Rattle.fab_world.proofs.machine.Machine.next_busy.Goals as goal

pub returns-in-Some-clause-found : goal.returns-in-Some-clause-found
returns-in-Some-clause-found c =
    let low : c.in-Some.host < length c.self.inside.hosts.items = omega (arith, c.if-host-len.true, c.len.ensures) in
    busy-next c.self.inside.links c.self.inside.hosts.items c.self.inside.adopted c.args.self.now c.self.inside.marks.busy c.args.from c.in-Some.host c.self.view_is c.self.invariant.busy
    (subst (λ n. IsNextMark c.self.inside.marks.busy n c.in-Some.host) c.from.ensures c.in-Some.ensures.next) low

pub returns-in_default-clause-none : goal.returns-in_default-clause-none
returns-in_default-clause-none c =
    let past : length c.self.inside.hosts.items ≤ c.in-Some.host = omega (arith, c.if-host-len.false, c.len.ensures) in
    mark-past IsSilent c.self.inside.links c.self.inside.hosts.items c.self.inside.adopted c.args.self.now c.self.inside.marks.busy c.args.from c.in-Some.host c.self.view_is c.self.invariant.busy
    (subst (λ n. IsNextMark c.self.inside.marks.busy n c.in-Some.host) c.from.ensures c.in-Some.ensures.next) past

pub returns-in_default-2-clause-none : goal.returns-in_default-2-clause-none
returns-in_default-2-clause-none c =
    none-marked IsSilent c.self.inside.links c.self.inside.hosts.items c.self.inside.adopted c.args.self.now c.self.inside.marks.busy c.args.from c.self.view_is c.self.invariant.busy
    (subst (λ n. (k : ℕ) → n ≤ k → mark_at c.self.inside.marks.busy k ≡ 0) c.from.ensures c.in_default.ensures.none)
