use Rattle.std.proofs.Common.{◌++◌, sym, subst}
use Rattle.gm_tokens.specs.Minted.{AreAll}
use Rattle.port_client.specs.Held.{tokens_of}
use Rattle.port_client.proofs.Returns.{once-all}
use Rattle.port_client.proofs.returning.retire.Goals as goal

pub end-requires-clause-sends : goal.end-requires-clause-sends
end-requires-clause-sends c =
    let k = c.args.client in
    subst (λ l. AreAll k.host k.port k.minted_sends (tokens_of k.host k.port k.held.sends ++ l)) (sym c.new-sends.ensures.items) (once-all k.host k.port k.minted_sends k.held.sends c.requires.sends)

pub end-requires-clause-recvs : goal.end-requires-clause-recvs
end-requires-clause-recvs c =
    let k = c.args.client in
    subst (λ l. AreAll k.host k.port k.minted_recvs (tokens_of k.host k.port k.held.recvs ++ l)) (sym c.new-recvs.ensures.items) (once-all k.host k.port k.minted_recvs k.held.recvs c.requires.recvs)
