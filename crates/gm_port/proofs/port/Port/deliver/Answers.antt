use Rattle.std.proofs.Common.{◌≡◌, true, sym, ap, subst, ◌∙◌}
use Rattle.gm_defs.specs.Token.{can_take}
use Rattle.gm_defs.specs.Port.{delivered}
use Rattle.gm_port.specs.Opened.{OpenPort, IsPort}
use Rattle.gm_port.proofs.Ports.{fill-room, fill-within, fill-port, fill-seen}
use Rattle.gm_port.proofs.port.Port.deliver.Goals as goal

pub fill-requires-clause-taken : goal.fill-requires-clause-taken
fill-requires-clause-taken c = subst (λ (w : OpenPort). can_take w.state c.args.h.now ≡ true) (sym c.self.view_is) c.requires.taken

pub fill-requires-clause-room : goal.fill-requires-clause-room
fill-requires-clause-room c =
    fill-room c.self.inside.sends c.self.inside.buffers c.self.inside.events c.self.invariant c.args.h.now c.args.part.now
    (subst (λ (w : OpenPort). can_take w.state c.args.h.now ≡ true) (sym c.self.view_is) c.requires.taken) c.requires.head c.requires.part (sym c.is_last.ensures ∙ c.if-is_last.false)

pub fill-requires-clause-within : goal.fill-requires-clause-within
fill-requires-clause-within c =
    fill-within c.self.inside.sends c.self.inside.buffers c.self.inside.events c.self.invariant c.args.h.now c.args.part.now
    (subst (λ (w : OpenPort). can_take w.state c.args.h.now ≡ true) (sym c.self.view_is) c.requires.taken) c.requires.head c.requires.part (sym c.is_last.ensures ∙ c.if-is_last.false)

pub end-requires-clause-last : goal.end-requires-clause-last
end-requires-clause-last c = sym c.is_last.ensures ∙ c.if-is_last.true

pub invariant_of-self : goal.invariant_of-self
invariant_of-self c =
    fill-port c.self.inside.sends c.self.inside.buffers c.self.inside.events c.self.invariant c.args.h.now c.args.part.now
    (subst (λ (w : OpenPort). can_take w.state c.args.h.now ≡ true) (sym c.self.view_is) c.requires.taken) c.requires.head c.requires.part (sym c.is_last.ensures ∙ c.if-is_last.false)
    c.fill.new.self c.fill.ensures

pub returns-else-is_last-clause-delivered : goal.returns-else-is_last-clause-delivered
returns-else-is_last-clause-delivered c =
    let state = fill-seen c.self.inside.sends c.self.inside.buffers c.self.inside.events c.self.invariant c.args.h.now c.args.part.now
    (subst (λ (w : OpenPort). can_take w.state c.args.h.now ≡ true) (sym c.self.view_is) c.requires.taken) c.requires.head c.requires.part (sym c.is_last.ensures ∙ c.if-is_last.false)
    c.fill.new.self c.fill.ensures in
    (λ i. record { host = c.self.inside.sends.host; port = c.self.inside.sends.port; state = state i })
    ∙ ap (λ (w : OpenPort). record w { state = delivered w.state c.args.h.now c.args.part.now }) c.self.view_is

-- in both arms the new value is that of a port that keeps its invariant: its fields are the clauses `one_owner` and
-- `filling`, by the view
pub returns-else-is_last-clause-one_owner : goal.returns-else-is_last-clause-one_owner
returns-else-is_last-clause-one_owner c =
    let kept : IsPort c.self.inside.sends c.fill.new.self c.self.inside.events =
    fill-port c.self.inside.sends c.self.inside.buffers c.self.inside.events c.self.invariant c.args.h.now c.args.part.now
    (subst (λ (w : OpenPort). can_take w.state c.args.h.now ≡ true) (sym c.self.view_is) c.requires.taken) c.requires.head c.requires.part (sym c.is_last.ensures ∙ c.if-is_last.false)
    c.fill.new.self c.fill.ensures in
    kept.one_owner

pub returns-else-is_last-clause-filling : goal.returns-else-is_last-clause-filling
returns-else-is_last-clause-filling c =
    let kept : IsPort c.self.inside.sends c.fill.new.self c.self.inside.events =
    fill-port c.self.inside.sends c.self.inside.buffers c.self.inside.events c.self.invariant c.args.h.now c.args.part.now
    (subst (λ (w : OpenPort). can_take w.state c.args.h.now ≡ true) (sym c.self.view_is) c.requires.taken) c.requires.head c.requires.part (sym c.is_last.ensures ∙ c.if-is_last.false)
    c.fill.new.self c.fill.ensures in
    kept.filling
