use Rattle.std.proofs.Common.{[], ◌∷◌, ◌++◌, ap, ◌∙◌, append_assoc}
use Rattle.std.specs.Int.{w16, w32, to_be_bytes}
use Rattle.route_parts.proofs.ack.PartAck.append.Goals as goal

pub returns-clause-bytes : goal.returns-clause-bytes
returns-clause-bytes c =
    let old = c.args.bytes.now.items in
    let a = c.args.self.now in
    let front = 5 ∷ to_be_bytes w32 a.epoch ++ to_be_bytes w16 a.host in
    c.in_ok-push.ensures.items
    ∙ ap (λ l. l ++ a.part ∷ []) (c.in_ok-extend_from_slice.ensures.items ∙ ap (λ l. old ++ l) c.front.ensures.bytes)
    ∙ append_assoc old front (a.part ∷ [])
