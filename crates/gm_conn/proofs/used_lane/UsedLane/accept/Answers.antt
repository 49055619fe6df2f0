use Rattle.std.proofs.Common.{◌≡◌, ◌∙◌, ◌++◌, ◌∷◌, [], sym, ap, subst, length, take, length-take-le, arith}
use Rattle.gm_defs.specs.declared.message.Message.{Message}
use Rattle.gm_conn.specs.declared.desc.Desc.{Desc}
use Rattle.gm_conn.specs.Halves.{Describes}
use Rattle.gm_conn.specs.Lane.{IsLane}
use Rattle.gm_conn.proofs.OneLane.{described, accepted-is, roomier-lane}
use Rattle.gm_conn.specs.MessageList.{messages_in}
use Rattle.gm_conn.proofs.used_lane.UsedLane.accept.Goals as goal

pub offer-first-requires-clause-by_rules : goal.offer-first-requires-clause-by_rules
offer-first-requires-clause-by_rules c =
    let d : Desc = record { ticket = c.from.result; sport = c.args.e.sport; dport = c.args.e.dport; prio = c.args.e.prio; total = c.args.len } in
    described c.reserve.new.self c.self.inside.sender d c.reserve.ensures.stays c.requires.sport c.requires.dport c.requires.prio
    (c.requires.lane ∙ ap (λ p. p.key.prio) (sym c.self.view_is)) c.requires.length

pub invariant_of-self-2 : goal.invariant_of-self-2
invariant_of-self-2 c =
    let v = c.reserve.new.self in
    let ms = messages_in c.self.inside.sent in
    let m : Message = c.in_ok-message.message in
    let d : Desc = record { ticket = c.from.result; sport = c.args.e.sport; dport = c.args.e.dport; prio = c.args.e.prio; total = c.args.len } in
    let is : m ≡ record { sport = c.args.e.sport; dport = c.args.e.dport; prio = c.args.e.prio; body = take c.args.len c.args.b.now } = c.in_ok-message.ensures.ok in
    let taken : length (take c.args.len c.args.b.now) ≡ c.args.len = length-take-le c.args.len c.args.b.now c.requires.fits in
    let of : Describes d m = record { sport = ap (λ x. x.sport) (sym is); dport = ap (λ x. x.dport) (sym is); prio = ap (λ x. x.prio) (sym is); total = sym taken ∙ ap (λ x. length x.body) (sym is) } in
    let old : IsLane v c.self.inside.receiver ms = roomier-lane c.self.inside.sender v c.self.inside.receiver ms c.reserve.ensures.stays c.self.invariant in
    let small = c.requires.length in
    let short = ap (λ x. length x.body) is in
    let new = c.offer-first.ensures.new in
    let sent : messages_in c.push_reserved.new.self ≡ ms ++ m ∷ [] = c.push_reserved.ensures ∙ ap (λ xs. xs ++ m ∷ []) c.make_room.ensures.items in
    let same : d.ticket ≡ c.args.token = c.from.ensures in
    let fits = c.ranges.token.fits in
    let lane : IsLane c.offer-first.new.self c.self.inside.receiver (ms ++ m ∷ []) =
    accepted-is v c.offer-first.new.self c.self.inside.receiver ms d m c.in_order.ensures old of (omega (arith, same, fits)) (omega (arith, small, short, taken))
    (ap (λ x. x.key) new) (ap (λ x. x.numbers.base) new) (ap (λ x. x.numbers.next) new) (ap (λ x. x.waiting) new) in
    subst (λ xs. IsLane c.offer-first.new.self c.self.inside.receiver xs) (sym sent) lane
