use Rattle.std.proofs.Common.{◌≡◌, ◌<◌, ℕ, List, None, refl, sym, ap, subst, ◌∙◌}
use Rattle.gm_defs.specs.Token.{Provided, place_of_recv}
use Rattle.gm_port.specs.Opened.{OpenPort, IsPort}
use Rattle.gm_port.specs.Refusal.{provide_refusal}
use Rattle.gm_port.proofs.Ports.{provide-sized, provided-room, provided-port}
use Rattle.gm_port.proofs.port.Port.provide.Goals as goal

pub push-requires-clause-room : goal.push-requires-clause-room
push-requires-clause-room c =
    let r : Provided = record { token = c.args.t.number; size = c.args.size; prio = c.args.prio; filling = None; buffer = c.args.b } in
    provided-room c.self.inside.sends c.self.inside.buffers c.self.inside.events c.self.invariant r
    (subst (λ (w : OpenPort). c.args.t.number < w.state.recvs) (sym c.self.view_is) c.requires.minted)
    (subst (λ (w : OpenPort). place_of_recv w.state c.args.t.number ≡ None) (sym c.self.view_is) c.requires.free)

pub invariant_of-self : goal.invariant_of-self
invariant_of-self c =
    let r : Provided = record { token = c.args.t.number; size = c.args.size; prio = c.args.prio; filling = None; buffer = c.args.b } in
    let fine : provide_refusal c.args.b c.args.size c.args.prio ≡ None = ap (λ (u : List ℕ). provide_refusal u c.args.size c.args.prio) (sym c.bytes.ensures) ∙ sym c.refuse_buffer.ensures ∙ c.in-None.is in
    provided-port c.self.inside.sends c.self.inside.buffers c.self.inside.events c.self.invariant r c.push.new.self c.push.ensures
    (subst (λ (w : OpenPort). c.args.t.number < w.state.recvs) (sym c.self.view_is) c.requires.minted)
    (subst (λ (w : OpenPort). place_of_recv w.state c.args.t.number ≡ None) (sym c.self.view_is) c.requires.free)
    (provide-sized c.args.b c.args.size c.args.prio fine) refl

pub returns-in-None-clause-one_owner : goal.returns-in-None-clause-one_owner
returns-in-None-clause-one_owner c =
    let r : Provided = record { token = c.args.t.number; size = c.args.size; prio = c.args.prio; filling = None; buffer = c.args.b } in
    let fine : provide_refusal c.args.b c.args.size c.args.prio ≡ None = ap (λ (u : List ℕ). provide_refusal u c.args.size c.args.prio) (sym c.bytes.ensures) ∙ sym c.refuse_buffer.ensures ∙ c.in-None.is in
    let kept : IsPort c.self.inside.sends c.push.new.self c.self.inside.events =
    provided-port c.self.inside.sends c.self.inside.buffers c.self.inside.events c.self.invariant r c.push.new.self c.push.ensures
    (subst (λ (w : OpenPort). c.args.t.number < w.state.recvs) (sym c.self.view_is) c.requires.minted)
    (subst (λ (w : OpenPort). place_of_recv w.state c.args.t.number ≡ None) (sym c.self.view_is) c.requires.free)
    (provide-sized c.args.b c.args.size c.args.prio fine) refl in
    kept.one_owner
