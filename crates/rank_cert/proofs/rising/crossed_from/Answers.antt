use Rattle.std.proofs.Common.{◌≡◌, ◌<◌, ◌+◌, ◌∷◌, length, drop, get_or, subst, w8, to_z, of_z}
use Rattle.std.specs.Prelude.{pos, ℤ, ◌+ℤ◌}
use Rattle.std.proofs.lemmas.Int.{to_z-of_z}
use Rattle.std.proofs.lemmas.List.{at_drop_more}
use Rattle.rank_cert.specs.Crossing.{IsCrossing}
use Rattle.rank_cert.proofs.Pairs.{turn-fits}
use Rattle.rank_cert.proofs.Crossed.{IsRisen, risen-first, risen-next, risen-last}
use Rattle.rank_cert.proofs.rising.crossed_from.Goals as goal

pub loop-turn-init : goal.loop-turn-init
loop-turn-init c m ks are is = risen-first m ks _ c.args.turns.now c.args.first is

pub loop-turn-preserved : goal.loop-turn-preserved
loop-turn-preserved c m ks are is =
    let ts = c.args.turns.now in
    let i = c.loop-turn.turn-index in
    let lt : i < length ts = c.loop-turn-test.true in
    let t : ℤ = get_or ts i (pos 0) in
    let r = c.loop-turn.invariant m ks are is in
    let next = c.in-Some.ensures m ks are in
    let at : IsRisen m ks (record { v = c.args.v; p = pos 0 }) ts (t ∷ drop (i + 1) ts) c.loop-turn.last = subst (λ l. IsRisen m ks (record { v = c.args.v; p = pos 0 }) ts l c.loop-turn.last) (at_drop_more (λ l. l) ts i (pos 0) lt) r in
    let same : to_z w8 (of_z w8 t) ≡ t = to_z-of_z w8 t (turn-fits t (c.requires i (pos 0) lt)) in
    let is : IsCrossing m ks (record { v = c.loop-turn.last.v; p = c.loop-turn.last.p +ℤ t }) c.in-Some.next = subst (λ z. IsCrossing m ks (record { v = c.loop-turn.last.v; p = c.loop-turn.last.p +ℤ z }) c.in-Some.next) same next.1 in
    risen-next m ks _ ts t (drop (i + 1) ts) c.loop-turn.last c.in-Some.next at next.0 is next.2

pub returns : goal.returns
returns c m ks are is =
    risen-last m ks _ c.args.turns.now c.loop-turn.turn-index c.loop-turn.last c.loop-turn-test.false (c.loop-turn.invariant m ks are is)
