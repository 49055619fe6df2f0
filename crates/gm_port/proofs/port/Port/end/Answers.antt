use Rattle.std.proofs.Common.{◌≡◌, true, sym, ap, subst, ◌∙◌}
use Rattle.gm_defs.specs.Token.{can_take}
use Rattle.gm_defs.specs.Port.{delivered}
use Rattle.gm_port.specs.Opened.{OpenPort, IsPort}
use Rattle.gm_port.proofs.Ports.{deliver-fits, deliver-room, deliver-port, deliver-seen}
use Rattle.gm_port.proofs.port.Port.end.Goals as goal

pub take-token-requires : goal.take-token-requires
take-token-requires c = subst (λ (w : OpenPort). can_take w.state c.args.h.now ≡ true) (sym c.self.view_is) c.requires.taken

pub fill-requires : goal.fill-requires
fill-requires c = deliver-fits c.self.inside.sends c.self.inside.buffers c.self.inside.events c.self.invariant c.args.h.now c.args.part.now c.take-token.result c.take-token.ensures.taken c.requires.head c.requires.part c.requires.last

pub push-requires-clause-room : goal.push-requires-clause-room
push-requires-clause-room c = deliver-room c.self.inside.sends c.self.inside.buffers c.self.inside.events c.self.invariant c.args.h.now c.args.part.now c.take-token.result c.take-token.ensures.taken c.requires.head c.requires.part c.requires.last

pub invariant_of-self : goal.invariant_of-self
invariant_of-self c =
    deliver-port c.self.inside.sends c.self.inside.buffers c.self.inside.events c.self.invariant c.args.h.now c.args.part.now c.take-token.result c.take-token.ensures.taken c.requires.head c.requires.part c.requires.last
    c.fill.new.self c.take-token.new.self c.push.new.self c.fill.ensures c.take-token.ensures.rest c.push.ensures

pub returns-clause-delivered : goal.returns-clause-delivered
returns-clause-delivered c =
    let state = deliver-seen c.self.inside.sends c.self.inside.buffers c.self.inside.events c.self.invariant c.args.h.now c.args.part.now c.take-token.result c.take-token.ensures.taken c.requires.head c.requires.part c.requires.last
    c.fill.new.self c.take-token.new.self c.push.new.self c.fill.ensures c.take-token.ensures.rest c.push.ensures in
    (λ i. record { host = c.self.inside.sends.host; port = c.self.inside.sends.port; state = state i })
    ∙ ap (λ (w : OpenPort). record w { state = delivered w.state c.args.h.now c.args.part.now }) c.self.view_is

pub returns-clause-one_owner : goal.returns-clause-one_owner
returns-clause-one_owner c =
    let kept : IsPort c.self.inside.sends c.take-token.new.self c.push.new.self = deliver-port c.self.inside.sends c.self.inside.buffers c.self.inside.events c.self.invariant c.args.h.now c.args.part.now c.take-token.result c.take-token.ensures.taken c.requires.head c.requires.part c.requires.last
    c.fill.new.self c.take-token.new.self c.push.new.self c.fill.ensures c.take-token.ensures.rest c.push.ensures in
    kept.one_owner

pub returns-clause-filling : goal.returns-clause-filling
returns-clause-filling c =
    let kept : IsPort c.self.inside.sends c.take-token.new.self c.push.new.self = deliver-port c.self.inside.sends c.self.inside.buffers c.self.inside.events c.self.invariant c.args.h.now c.args.part.now c.take-token.result c.take-token.ensures.taken c.requires.head c.requires.part c.requires.last
    c.fill.new.self c.take-token.new.self c.push.new.self c.fill.ensures c.take-token.ensures.rest c.push.ensures in
    kept.filling
