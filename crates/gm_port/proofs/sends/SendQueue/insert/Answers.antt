use Rattle.std.proofs.Common.{◌∙◌}
use Rattle.gm_port.proofs.Queue.{free-at, insert-keeps, insert-seen}
use Rattle.gm_port.proofs.sends.SendQueue.insert.Goals as goal

pub put-requires : goal.put-requires
put-requires c =
    free-at _ _ c.self.inside.places c.self.inside.listed c.self.invariant c.args.self.now c.self.view_is c.args.token c.from-ticket.result (c.from-ticket.ensures ∙ c.number.ensures) c.requires.free c.requires.minted

pub invariant_of-self : goal.invariant_of-self
invariant_of-self c =
    insert-keeps _ _ c.self.inside.places c.self.inside.listed c.self.invariant c.args.self.now c.self.view_is c.args.token c.args.buffer c.from-ticket.result (c.from-ticket.ensures ∙ c.number.ensures) c.requires.own c.requires.free c.requires.minted _ c.put.ensures

pub returns-clause-sends : goal.returns-clause-sends
returns-clause-sends c =
    insert-seen _ _ c.self.inside.places c.self.inside.listed c.self.invariant c.args.self.now c.self.view_is c.args.token c.args.buffer c.from-ticket.result (c.from-ticket.ensures ∙ c.number.ensures) c.requires.own c.requires.free c.requires.minted _ c.put.ensures
