use Rattle.std.proofs.Common.{ℕ, sym, ap, ◌∙◌}
use Rattle.std.specs.Prelude.{slice_get}
use Rattle.gm_port.specs.Table.{is_held}
use Rattle.gm_port.proofs.Queue.{has-seen}
use Rattle.gm_port.proofs.sends.SendQueue.has.Goals as goal

pub returns : goal.returns
returns c =
    c.has.ensures ∙ ap (λ (k : ℕ). is_held (slice_get c.self.inside.places k)) c.from.ensures
    ∙ sym (has-seen _ _ c.self.inside.places c.self.inside.listed c.self.invariant c.args.self.now c.self.view_is c.args.number)
