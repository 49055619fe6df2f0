use Rattle.std.proofs.Common.{◌<◌, ◌++◌, ◌∷◌, [], ap, sym, ◌∙◌, subst}
use Rattle.fab_judge.proofs.Below.{host-more, host-missing, host-in}
use Rattle.fab_judge.proofs.Errors.{on-any}
use Rattle.fab_judge.proofs.hosts.hosts_in.Goals as goal
use Rattle.fab_judge.proofs.hosts.hosts_in.Goals.{then-has_host+in_ok-push, else-has_host}

pub loop-h-preserved : goal.loop-h-preserved
loop-h-preserved c =
    let m = c.args.map.now in
    let h = c.loop-h.h in
    elim c.if-has_host.branch [
      | then-has_host+in_ok-push w ↦
          ap (λ v. v.items) w.hosts-is ∙ w.in_ok-push.ensures.items ∙ ap (λ l. l ++ h ∷ []) c.loop-h.invariant ∙ sym (host-more m h (sym c.has_host.ensures ∙ w.if-has_host.true))
      | else-has_host w ↦
          ap (λ v. v.items) w.hosts-is ∙ c.loop-h.invariant ∙ sym (host-missing m h (sym c.has_host.ensures ∙ w.if-has_host.false))
    ]

pub returns-in_err-push-clause-memory : goal.returns-in_err-push-clause-memory
returns-in_err-push-clause-memory c =
    let h = c.loop-h.h in
    on-any c.from_residual.result _ (host-in c.args.f.now c.args.map.now h (subst (λ n. h < n) c.hosts-h-end.ensures.count c.loop-h-test.true) (sym c.has_host.ensures ∙ c.if-has_host.true))
