use Rattle.std.proofs.Common.{map, sym, ap, ◌∙◌}
use Rattle.gm_defs.specs.Token.{has_number, received_tokens}
use Rattle.gm_port.specs.Held.{Events, event_of}
use Rattle.gm_port.proofs.Listed.{has-received}
use Rattle.gm_port.proofs.Tallies.{has_tallied}
use Rattle.gm_port.proofs.events.EventQueue.has_received.Goals as goal

pub returns-in-Some : goal.returns-in-Some
returns-in-Some c =
    has_tallied c.self.inside.received (received_tokens (map event_of c.self.inside.events.items)) c.args.number c.in-Some.known c.self.invariant.receives (sym c.has.ensures ∙ c.in-Some.is)
    ∙ ap (λ (q : Events). has_number (received_tokens q.events) c.args.number) c.self.view_is

pub returns-in-None : goal.returns-in-None
returns-in-None c =
    c.any_receive.ensures ∙ has-received c.args.number c.self.inside.events.items ∙ ap (λ (q : Events). has_number (received_tokens q.events) c.args.number) c.self.view_is
