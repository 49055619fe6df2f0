use Rattle.std.proofs.Common.{◌≡◌, ◌+◌, false, nat_lt, sym, ap, subst, ◌∙◌}
use Rattle.gm_defs.specs.Connection.{SenderState}
use Rattle.gm_conn.specs.Halves.{Outgoing, IsOutgoingFrom, outgoing, finished, oldest_finished, without_finished}
use Rattle.gm_conn.proofs.Finished.{oldest-of, oldest-there, oldest-out, oldest-gone, none-of, none-out, none-gone, gone-kept}
use Rattle.gm_conn.proofs.sender.Sender.take_finished.Goals as goal

-- `oldest-of` makes of the clause of `whole_at` what is known of the oldest message of the sender inside; its view is
-- the value of the clauses
pub invariant_of-self : goal.invariant_of-self
invariant_of-self c =
    let numbers : SenderState = record { base = c.self.inside.base; cursor = c.self.inside.cursor; top = c.self.inside.top; next = c.self.inside.next } in
    let w : Outgoing = outgoing c.self.inside.key numbers c.self.inside.waiting.items c.self.inside.waiting.spare in
    subst (λ ds. IsOutgoingFrom (c.self.inside.first + c.in-Some.pieces) (outgoing c.self.inside.key numbers ds c.pop_front.new.self.spare)) (sym c.pop_front.ensures.rest)
    (gone-kept w c.self.inside.first c.in-Some.pieces c.pop_front.new.self.spare c.self.invariant (oldest-of c.self.inside.first w c.args.self.now c.in-Some.pieces c.self.view_is c.self.invariant (sym c.whole_at.ensures ∙ c.in-Some.is)))

pub returns-in-Some-clause-oldest : goal.returns-in-Some-clause-oldest
returns-in-Some-clause-oldest c =
    let w : Outgoing = outgoing c.self.inside.key (record { base = c.self.inside.base; cursor = c.self.inside.cursor; top = c.self.inside.top; next = c.self.inside.next }) c.self.inside.waiting.items c.self.inside.waiting.spare in
    c.pop_front.ensures.oldest ∙ sym (oldest-out w c.in-Some.pieces (oldest-of c.self.inside.first w c.args.self.now c.in-Some.pieces c.self.view_is c.self.invariant (sym c.whole_at.ensures ∙ c.in-Some.is))) ∙ ap oldest_finished c.self.view_is

pub returns-in-Some-clause-new : goal.returns-in-Some-clause-new
returns-in-Some-clause-new c =
    let numbers : SenderState = record { base = c.self.inside.base; cursor = c.self.inside.cursor; top = c.self.inside.top; next = c.self.inside.next } in
    let w : Outgoing = outgoing c.self.inside.key numbers c.self.inside.waiting.items c.self.inside.waiting.spare in
    let h = (oldest-of c.self.inside.first w c.args.self.now c.in-Some.pieces c.self.view_is c.self.invariant (sym c.whole_at.ensures ∙ c.in-Some.is)) in
    (λ i. outgoing c.self.inside.key numbers (c.pop_front.ensures.rest i) (c.pop_front.ensures.room (oldest-there w c.in-Some.pieces h) i))
    ∙ sym (oldest-gone w c.in-Some.pieces h) ∙ ap without_finished c.self.view_is

pub returns-in-None-clause-oldest : goal.returns-in-None-clause-oldest
returns-in-None-clause-oldest c =
    let w : Outgoing = outgoing c.self.inside.key (record { base = c.self.inside.base; cursor = c.self.inside.cursor; top = c.self.inside.top; next = c.self.inside.next }) c.self.inside.waiting.items c.self.inside.waiting.spare in
    sym (none-out w (none-of c.self.inside.first w c.args.self.now c.self.view_is c.self.invariant (sym c.whole_at.ensures ∙ c.in-None.is))) ∙ ap oldest_finished c.self.view_is

pub returns-in-None-clause-new : goal.returns-in-None-clause-new
returns-in-None-clause-new c =
    let w : Outgoing = outgoing c.self.inside.key (record { base = c.self.inside.base; cursor = c.self.inside.cursor; top = c.self.inside.top; next = c.self.inside.next }) c.self.inside.waiting.items c.self.inside.waiting.spare in
    sym (none-gone c.args.self.now (subst (λ x. nat_lt 0 (finished x) ≡ false) c.self.view_is (none-of c.self.inside.first w c.args.self.now c.self.view_is c.self.invariant (sym c.whole_at.ensures ∙ c.in-None.is))))
