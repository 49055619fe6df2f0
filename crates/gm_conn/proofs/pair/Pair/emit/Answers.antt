use Rattle.std.proofs.Common.{◌++◌, ◌∷◌, [], sym, ap, ◌∙◌}
use Rattle.gm_defs.specs.declared.frame.GmBody.TheVariants.{Frame}
use Rattle.gm_conn.proofs.Stepping.{emit-done, emit-kept, emit-none}
use Rattle.gm_conn.proofs.pair.Pair.emit.Goals as goal

pub invariant_of-self-in-Some : goal.invariant_of-self-in-Some
invariant_of-self-in-Some c =
    emit-kept _ _ _ _ _ _ _ c.in-Some.due c.self.invariant (sym c.in-Some.is ∙ c.due.ensures.exact) c.mark_sent.ensures
    (c.push_reserved.ensures.items ∙ ap (λ l. l ++ Frame c.in-Some.due.head ∷ []) c.reserve.ensures.items)

pub returns-in-Some-clause-ok : goal.returns-in-Some-clause-ok
returns-in-Some-clause-ok c =
    emit-done _ _ _ _ _ _ _ c.in-Some.due _ c.self.view_is c.self.invariant (sym c.in-Some.is ∙ c.due.ensures.exact) c.mark_sent.ensures
    (c.push_reserved.ensures.items ∙ ap (λ l. l ++ Frame c.in-Some.due.head ∷ []) c.reserve.ensures.items)

pub returns-in-None-clause-ok : goal.returns-in-None-clause-ok
returns-in-None-clause-ok c = emit-none _ _ _ _ _ _ _ c.self.view_is c.self.invariant (sym c.in-None.is ∙ c.due.ensures.exact) c.reserve.ensures.items
