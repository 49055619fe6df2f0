use Rattle.std.proofs.Common.{◌≡◌, ◌<◌, None, sym, subst}
use Rattle.gm_defs.specs.Token.{place_of_send}
use Rattle.gm_port.specs.Opened.{OpenPort, IsPort}
use Rattle.gm_port.proofs.Ports.{sent-port}
use Rattle.gm_port.proofs.port.Port.send.Goals as goal

pub invariant_of-self : goal.invariant_of-self
invariant_of-self c =
    sent-port c.self.inside.sends c.self.inside.buffers c.self.inside.events c.self.invariant c.args.t.number c.args.b c.insert.new.self c.insert.ensures.sends
    (subst (λ (w : OpenPort). c.args.t.number < w.state.sends) (sym c.self.view_is) c.requires.minted)
    (subst (λ (w : OpenPort). place_of_send w.state c.args.t.number ≡ None) (sym c.self.view_is) c.requires.free)

pub returns-in-None-clause-one_owner : goal.returns-in-None-clause-one_owner
returns-in-None-clause-one_owner c =
    let kept : IsPort c.insert.new.self c.self.inside.buffers c.self.inside.events =
    sent-port c.self.inside.sends c.self.inside.buffers c.self.inside.events c.self.invariant c.args.t.number c.args.b c.insert.new.self c.insert.ensures.sends
    (subst (λ (w : OpenPort). c.args.t.number < w.state.sends) (sym c.self.view_is) c.requires.minted)
    (subst (λ (w : OpenPort). place_of_send w.state c.args.t.number ≡ None) (sym c.self.view_is) c.requires.free) in
    kept.one_owner
