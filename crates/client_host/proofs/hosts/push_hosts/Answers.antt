use Rattle.client_host.proofs.NewHosts.{AreFirst, first-none, first-push}
use Rattle.std.proofs.Common.{◌+◌, ◌∷◌, [], ◌++◌, ◌∙◌, ap, sym, subst, arith}
use Rattle.client_host.proofs.hosts.push_hosts.Goals as goal

pub loop-host-init : goal.loop-host-init
loop-host-init c = record {
  first = subst (AreFirst c.args.hosts 0) (sym c.requires.none) (first-none c.args.hosts);
  len = c.requires.len;
  room = c.requires.room;
}

pub loop-host-preserved : goal.loop-host-preserved
loop-host-preserved c = record {
  first =
      subst (AreFirst c.args.hosts (c.loop-host.host + 1)) (ap (λ n. c.loop-host.nodes.items ++ n ∷ []) (sym c.in_ok-node.ensures) ∙ sym c.push_reserved.ensures.items)
      (first-push c.args.hosts c.loop-host.host c.loop-host.nodes.items c.loop-host.invariant.first);
  len = let more = c.push_reserved.ensures.len in let before = c.loop-host.invariant.len in omega (arith, more, before);
  room = let same = c.push_reserved.ensures.capacity in let before = c.loop-host.invariant.room in omega (arith, same, before);
}
