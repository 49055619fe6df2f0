use Rattle.std.proofs.Common.{◌++◌, ◌∷◌, [], ap, sym, ◌∙◌}
use Rattle.route_making.proofs.Addresses.{host-more, host-missing}
use Rattle.route_making.proofs.hosts.hosts_of_map.Goals as goal
use Rattle.route_making.proofs.hosts.hosts_of_map.Goals.{then-has_host+in_ok-push, else-has_host}

pub loop-h-preserved : goal.loop-h-preserved
loop-h-preserved c =
    let m = c.args.m.now in
    let h = c.loop-h.h in
    elim c.if-has_host.branch [
      | then-has_host+in_ok-push w ↦
          ap (λ v. v.items) w.list-is ∙ w.in_ok-push.ensures.items ∙ ap (λ l. l ++ h ∷ []) c.loop-h.invariant ∙ sym (host-more m h (sym c.has_host.ensures ∙ w.if-has_host.true))
      | else-has_host w ↦
          ap (λ v. v.items) w.list-is ∙ c.loop-h.invariant ∙ sym (host-missing m h (sym c.has_host.ensures ∙ w.if-has_host.false))
    ]
