use Rattle.std.proofs.Common.{◌≡◌, ◌∙◌, false, sym, subst, arith}
use Rattle.world_defs.specs.Node.{unacknowledged_to}
use Rattle.fab_world.specs.Resting.{RestsIn}
use Rattle.fab_world.proofs.Resting.{quieted, rested}
use Rattle.fab_world.proofs.Waiting.{none-waits}
use Rattle.fab_world.proofs.machine.Machine.rest_silent.Goals as goal

pub invariant_of-self : goal.invariant_of-self
invariant_of-self c =
    let none : c.is_some-waits.result ≡ false = grind arith in
    let rests : RestsIn c.args.self.now c.args.host = record {
      silent = c.requires.silent;
      acknowledged = λ peer. subst (λ n. unacknowledged_to n peer ≡ 0) c.at.ensures.state (none-waits c.at.result.now.state c.next_unacked.result c.next_unacked.ensures.none (sym c.is_some-waits.ensures ∙ none) peer);
    } in
    let quiet = quieted c.self.inside.links c.self.inside.hosts.items c.self.inside.adopted c.args.self.now c.self.inside.marks c.unmark.new.self c.args.host c.from.result c.self.view_is c.self.invariant
    c.from.ensures c.requires.silent c.unmark.ensures in
    rested c.self.inside.links c.self.inside.hosts.items c.self.inside.adopted c.args.self.now (record c.self.inside.marks { busy = c.unmark.new.self }) c.unmark-then-not-waits.new.self c.args.host
    c.from-then-not-waits.result c.self.view_is quiet c.from-then-not-waits.ensures rests c.unmark-then-not-waits.ensures

pub invariant_of-self-else-not-waits : goal.invariant_of-self-else-not-waits
invariant_of-self-else-not-waits c =
    quieted c.self.inside.links c.self.inside.hosts.items c.self.inside.adopted c.args.self.now c.self.inside.marks c.unmark.new.self c.args.host c.from.result c.self.view_is c.self.invariant
    c.from.ensures c.requires.silent c.unmark.ensures
