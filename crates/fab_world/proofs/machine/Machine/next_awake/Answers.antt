use Rattle.std.proofs.Common.{◌≡◌, ◌≤◌, ◌<◌, ℕ, length, subst, arith}
use Rattle.number_marks.specs.Marks.{mark_at, IsNextMark}
use Rattle.fab_world.specs.Resting.{IsAtRest}
use Rattle.fab_world.proofs.Resting.{awake-next, none-marked, mark-past}
use Rattle.fab_world.proofs.machine.Machine.next_awake.Goals as goal

pub returns-in-Some-clause-found : goal.returns-in-Some-clause-found
returns-in-Some-clause-found c =
    let low : c.in-Some.host < length c.self.inside.hosts.items = omega (arith, c.if-host-len.true, c.len.ensures) in
    awake-next c.self.inside.links c.self.inside.hosts.items c.self.inside.adopted c.args.self.now c.self.inside.marks.awake c.args.from c.in-Some.host c.self.view_is c.self.invariant.awake
    (subst (λ n. IsNextMark c.self.inside.marks.awake n c.in-Some.host) c.from.ensures c.in-Some.ensures.next) low

pub returns-in_default-clause-none : goal.returns-in_default-clause-none
returns-in_default-clause-none c =
    let past : length c.self.inside.hosts.items ≤ c.in-Some.host = omega (arith, c.if-host-len.false, c.len.ensures) in
    mark-past IsAtRest c.self.inside.links c.self.inside.hosts.items c.self.inside.adopted c.args.self.now c.self.inside.marks.awake c.args.from c.in-Some.host c.self.view_is c.self.invariant.awake
    (subst (λ n. IsNextMark c.self.inside.marks.awake n c.in-Some.host) c.from.ensures c.in-Some.ensures.next) past

pub returns-in_default-2-clause-none : goal.returns-in_default-2-clause-none
returns-in_default-2-clause-none c =
    none-marked IsAtRest c.self.inside.links c.self.inside.hosts.items c.self.inside.adopted c.args.self.now c.self.inside.marks.awake c.args.from c.self.view_is c.self.invariant.awake
    (subst (λ n. (k : ℕ) → n ≤ k → mark_at c.self.inside.marks.awake k ≡ 0) c.from.ensures c.in_default.ensures.none)
