use Rattle.std.proofs.Common.{◌≡◌, Some, IsSome, option_map, sym, subst}
use Rattle.gm_defs.specs.Token.{Sending}
use Rattle.gm_defs.specs.Port.{send_of}
use Rattle.host_ports.specs.Held.{unfinished_of}
use Rattle.host_ports.proofs.ports.Ports.sending.Goals as goal

pub sending-requires : goal.sending-requires
sending-requires c =
    subst (λ k. IsSome (send_of c.in-Some.open.now.state k)) (sym c.from.ensures)
    (subst (λ o. IsSome (unfinished_of o c.args.token)) c.in-Some.ensures.open c.requires.unfinished)

pub returns : goal.returns
returns c =
    subst (λ o. option_map (λ (s : Sending). s.buffer) (unfinished_of o c.args.token) ≡ Some c.sending.result.now) (sym c.in-Some.ensures.open)
    (subst (λ k. option_map (λ (s : Sending). s.buffer) (send_of c.in-Some.open.now.state k) ≡ Some c.sending.result.now) c.from.ensures c.sending.ensures)
