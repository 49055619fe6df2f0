use Rattle.std.proofs.Common.{ap, sym, subst, ◌∙◌, arith}
use Rattle.world_defs.specs.Client.{Called}
use Rattle.client_host.specs.Held.{client_in}
use Rattle.client_host.specs.Telling.{is_refused}
use Rattle.client_host.specs.Calls.{IsCallGiven, IsPolledFrom, host_of_call, port_of_call, call_of}
use Rattle.fab_world.specs.Held.{is_refusal}
use Rattle.fab_world.proofs.Answers.{on-any-err}
use Rattle.fab_world.proofs.Calling.{IsCall, call-at}
use Rattle.fab_world.proofs.Places.{IsAt, count-is, found, kept-called, call-is, called, same}
use Rattle.fab_world.proofs.Resting.{marked, still-watched, has-mark}
use Rattle.fab_world.proofs.machine.Machine.call.Goals as goal

pub index_mut-requires : goal.index_mut-requires
index_mut-requires c =
    let e = c.args.e.now in
    let k : IsCall c.args.self.now e = call-at c.args.self.now e c.requires.call c.requires.given in
    let count = count-is c.self.inside.links c.self.inside.hosts.items c.self.inside.adopted c.args.self.now c.self.view_is in
    let there = k.there in
    let at = c.from-at.ensures ∙ c.caller.ensures in
    omega (arith, count, there, at)

pub call-requires : goal.call-requires
call-requires c =
    let e = c.args.e.now in
    let k : IsCall c.args.self.now e = call-at c.args.self.now e c.requires.call c.requires.given in
    let at : IsAt c.self.inside.links c.self.inside.hosts.items c.self.inside.adopted c.args.self.now (host_of_call e) c.from-at.result c.index_mut.result.now =
    record { is = c.self.view_is; kept = c.self.invariant.hosts; below = k.there; at = c.from-at.ensures ∙ c.caller.ensures; there = c.index_mut.ensures.value } in
    subst (λ n. IsCallGiven n e) (sym (found at).hosts) k.given

pub mark-requires : goal.mark-requires
mark-requires c =
    let e = c.args.e.now in
    let k : IsCall c.args.self.now e = call-at c.args.self.now e c.requires.call c.requires.given in
    has-mark c.self.inside.links c.self.inside.hosts.items c.self.inside.adopted c.args.self.now c.self.inside.marks (host_of_call e) c.from-at.result c.self.view_is c.self.invariant k.there (c.from-at.ensures ∙ c.caller.ensures)

pub invariant_of-self : goal.invariant_of-self
invariant_of-self c =
    let e = c.args.e.now in
    let k : IsCall c.args.self.now e = call-at c.args.self.now e c.requires.call c.requires.given in
    let at : IsAt c.self.inside.links c.self.inside.hosts.items c.self.inside.adopted c.args.self.now (host_of_call e) c.from-at.result c.index_mut.result.now =
    record { is = c.self.view_is; kept = c.self.invariant.hosts; below = k.there; at = c.from-at.ensures ∙ c.caller.ensures; there = c.index_mut.ensures.value } in
    still-watched c.self.inside.marks c.call.new.self at c.self.invariant c.in_err-said.ensures.unchanged

pub invariant_of-self-2 : goal.invariant_of-self-2
invariant_of-self-2 c =
    let e = c.args.e.now in
    let k : IsCall c.args.self.now e = call-at c.args.self.now e c.requires.call c.requires.given in
    let at : IsAt c.self.inside.links c.self.inside.hosts.items c.self.inside.adopted c.args.self.now (host_of_call e) c.from-at.result c.index_mut.result.now =
    record { is = c.self.view_is; kept = c.self.invariant.hosts; below = k.there; at = c.from-at.ensures ∙ c.caller.ensures; there = c.index_mut.ensures.value } in
    marked c.self.inside.marks c.mark.new.self c.call.new.self at c.self.invariant (kept-called (port_of_call e) c.call.new.self (call_of e c.index_mut.result.now.state (client_in c.index_mut.result.now (port_of_call e))) at c.in_ok-said.ensures.after) c.mark.ensures

pub returns-in_err-said-clause-err : goal.returns-in_err-said-clause-err
returns-in_err-said-clause-err c =
    let e = c.args.e.now in
    let k : IsCall c.args.self.now e = call-at c.args.self.now e c.requires.call c.requires.given in
    let at : IsAt c.self.inside.links c.self.inside.hosts.items c.self.inside.adopted c.args.self.now (host_of_call e) c.from-at.result c.index_mut.result.now =
    record { is = c.self.view_is; kept = c.self.invariant.hosts; below = k.there; at = c.from-at.ensures ∙ c.caller.ensures; there = c.index_mut.ensures.value } in
    on-any-err c.from_residual.result (same c.call.new.self at c.in_err-said.ensures.unchanged)

pub returns-in_err-said-clause-wanting : goal.returns-in_err-said-clause-wanting
returns-in_err-said-clause-wanting c =
    let e = c.args.e.now in
    let k : IsCall c.args.self.now e = call-at c.args.self.now e c.requires.call c.requires.given in
    let at : IsAt c.self.inside.links c.self.inside.hosts.items c.self.inside.adopted c.args.self.now (host_of_call e) c.from-at.result c.index_mut.result.now =
    record { is = c.self.view_is; kept = c.self.invariant.hosts; below = k.there; at = c.from-at.ensures ∙ c.caller.ensures; there = c.index_mut.ensures.value } in
    on-any-err c.from_residual.result (ap (λ p. is_refusal p.0) k.is ∙ ap (λ (q : Called). is_refused q.said) (sym (call-is (port_of_call e) (call_of e) at)) ∙ c.in_err-said.ensures.wanting)

pub returns-in_err-said-clause-memory : goal.returns-in_err-said-clause-memory
returns-in_err-said-clause-memory c =
    let e = c.args.e.now in
    let k : IsCall c.args.self.now e = call-at c.args.self.now e c.requires.call c.requires.given in
    on-any-err c.from_residual.result (k.memory c.in_err-said.ensures.memory)

pub returns-clause-ok : goal.returns-clause-ok
returns-clause-ok c =
    let e = c.args.e.now in
    let k : IsCall c.args.self.now e = call-at c.args.self.now e c.requires.call c.requires.given in
    let at : IsAt c.self.inside.links c.self.inside.hosts.items c.self.inside.adopted c.args.self.now (host_of_call e) c.from-at.result c.index_mut.result.now =
    record { is = c.self.view_is; kept = c.self.invariant.hosts; below = k.there; at = c.from-at.ensures ∙ c.caller.ensures; there = c.index_mut.ensures.value } in
    k.is ∙ called (port_of_call e) c.call.new.self (call_of e) c.in_ok-said.said at c.in_ok-said.ensures.said c.in_ok-said.ensures.after

pub returns-clause-polled : goal.returns-clause-polled
returns-clause-polled c =
    let e = c.args.e.now in
    let k : IsCall c.args.self.now e = call-at c.args.self.now e c.requires.call c.requires.given in
    let at : IsAt c.self.inside.links c.self.inside.hosts.items c.self.inside.adopted c.args.self.now (host_of_call e) c.from-at.result c.index_mut.result.now =
    record { is = c.self.view_is; kept = c.self.invariant.hosts; below = k.there; at = c.from-at.ensures ∙ c.caller.ensures; there = c.index_mut.ensures.value } in
    k.polled c.in_ok-said.said (subst (λ n. IsPolledFrom n e c.in_ok-said.said) (found at).hosts c.in_ok-said.ensures.sender)
