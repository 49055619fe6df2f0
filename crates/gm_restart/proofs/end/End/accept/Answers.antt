use Rattle.std.proofs.Common.{◌≡◌, ◌∙◌, length, Some, ap, arith}
use Rattle.std.specs.Prelude.{slice_get}
use Rattle.world_defs.specs.Client.{client_bytes}
use Rattle.gm_restart.specs.End.{HostEnd}
use Rattle.gm_restart.proofs.Calling.{bytes-counted, taken-so, accepted-so}
use Rattle.gm_restart.proofs.end.End.accept.Goals as goal

pub accept-requires-clause-fits : goal.accept-requires-clause-fits
accept-requires-clause-fits c =
    let made : c.in_ok-buffer.buffer ≡ client_bytes c.args.len c.args.seed = c.in_ok-buffer.ensures in
    let long : length c.in_ok-buffer.buffer ≡ c.args.len = ap length made ∙ bytes-counted c.args.len c.args.seed in
    omega (arith, long)

pub send-token-requires-clause-right : goal.send-token-requires-clause-right
send-token-requires-clause-right c =
    let made : c.in_ok-buffer.buffer ≡ client_bytes c.args.len c.args.seed = c.in_ok-buffer.ensures in
    let kept : c.accept.new.b ≡ client_bytes c.args.len c.args.seed = c.accept.ensures.buffer ∙ made in
    taken-so c.args.self.now.state c.args.len c.accept.new.b c.requires.right (ap length kept ∙ bytes-counted c.args.len c.args.seed)

pub returns-in-Ok-clause-ok : goal.returns-in-Ok-clause-ok
returns-in-Ok-clause-ok c =
    let made : c.in_ok-buffer.buffer ≡ client_bytes c.args.len c.args.seed = c.in_ok-buffer.ensures in
    let kept : c.accept.new.b ≡ client_bytes c.args.len c.args.seed = c.accept.ensures.buffer ∙ made in
    let first : slice_get c.self.inside.held.held.sends 0 ≡ Some c.args.token = ap (λ (e : HostEnd). slice_get e.state.client.sends 0) c.self.view_is ∙ c.requires.first in
    accepted-so c.self.inside.host c.self.inside.inc c.self.inside.known c.self.inside.lane c.accept.new.self c.self.inside.past.items c.self.inside.owes_hello c.self.inside.returned.items
    c.self.inside.held c.send-token.new.self c.args.token c.send-token.result c.args.len c.args.seed c.in_ok-buffer.buffer c.accept.new.b
    made kept c.in-Ok.ensures.ok first c.send-token.ensures.first c.send-token.ensures.port c.send-token.ensures.client c.args.self.now c.self.view_is
