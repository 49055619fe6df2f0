use Rattle.std.proofs.Common.{sym, subst, ◌++◌}
use Rattle.gm_tokens.specs.Minted.{AreAll}
use Rattle.port_client.specs.Held.{tokens_of}
use Rattle.port_client.proofs.Holding.{all-held_and}
use Rattle.port_client.proofs.client.Client.end.Goals as goal

pub retire_held-requires-clause-sends : goal.retire_held-requires-clause-sends
retire_held-requires-clause-sends c =
    let b = c.self.inside.bank in
    all-held_and b.host b.port b.sends c.self.inside.minted_sends c.self.inside.sends.items c.args.sends.items c.self.invariant.sends_minted c.self.invariant.own_sends
    (subst (λ s. AreAll s.host s.port s.minted_sends (tokens_of s.host s.port s.held.sends ++ c.args.sends.items)) (sym c.self.view_is) c.requires.sends)

pub retire_held-requires-clause-recvs : goal.retire_held-requires-clause-recvs
retire_held-requires-clause-recvs c =
    let b = c.self.inside.bank in
    all-held_and b.host b.port b.recvs c.self.inside.minted_recvs c.self.inside.recvs.items c.args.recvs.items c.self.invariant.recvs_minted c.self.invariant.own_recvs
    (subst (λ s. AreAll s.host s.port s.minted_recvs (tokens_of s.host s.port s.held.recvs ++ c.args.recvs.items)) (sym c.self.view_is) c.requires.recvs)
