use Rattle.std.proofs.Common.{◌+◌, length, take}
use Rattle.circ_link.proofs.Meeting.{place-told, place-there}
use Rattle.circ_link.proofs.circuit.circ_place.Goals as goal

pub returns-clause-place : goal.returns-clause-place
returns-clause-place c =
    place-told c.args.f.now c.args.host c.args.turns.now (take (length c.args.turns.now + 1) c.follow-entered.new.exits) c.follow-entered.result c.held.result
    c.hosts-count.ensures.fabric c.held.ensures c.follow-entered.ensures.entered c.follow-entered.ensures.exits

pub returns-clause-there : goal.returns-clause-there
returns-clause-there c =
    place-there c.args.f.now c.args.host c.args.turns.now c.follow-entered.result c.held.result (returns-clause-place c) c.follow-entered.ensures.entered c.follow-entered.ensures.there
