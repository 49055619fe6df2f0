use Rattle.std.proofs.Common.{map, sym, ap, ◌∙◌}
use Rattle.gm_defs.specs.Token.{has_number}
use Rattle.gm_port.specs.Held.{Buffers}
use Rattle.gm_port.specs.Tallies.{numbers_of}
use Rattle.gm_port.proofs.Listed.{has-provided}
use Rattle.gm_port.proofs.Tallies.{has_tallied}
use Rattle.gm_port.proofs.buffers.BufferList.has.Goals as goal

pub returns-in-Some : goal.returns-in-Some
returns-in-Some c =
    has_tallied c.self.inside.tally (numbers_of c.self.inside.provided.items) c.args.number c.in-Some.known c.self.invariant.1 (sym c.has.ensures ∙ c.in-Some.is)
    ∙ ap (λ (b : Buffers). has_number (map (λ r. r.token) b.provided) c.args.number) c.self.view_is

pub returns-in-None : goal.returns-in-None
returns-in-None c =
    c.has_token.ensures ∙ has-provided c.args.number c.self.inside.provided.items ∙ ap (λ (b : Buffers). has_number (map (λ r. r.token) b.provided) c.args.number) c.self.view_is
