use Rattle.std.proofs.Common.{◌≡◌, ◌<◌, ◌+◌, length, drop, get_or, pos, sym, ap, ◌∙◌, w8, to_z, of_z, ℤ}
use Rattle.std.proofs.lemmas.Int.{to_z-of_z}
use Rattle.std.proofs.lemmas.List.{at_drop_more}
use Rattle.map_defs.specs.Routing.{led_to}
use Rattle.fabric_map.specs.Table.{far_pair}
use Rattle.rank_cert.specs.Following.{unpair, next_after}
use Rattle.rank_cert.proofs.Pairs.{unpair-pair, led-step, turn-fits}
use Rattle.rank_cert.proofs.following.led_to.Goals as goal

pub loop-turn-preserved : goal.loop-turn-preserved
loop-turn-preserved c =
    let m = c.args.m.now in
    let ts = c.args.turns.now in
    let i = c.loop-turn.turn-index in
    let at = c.loop-turn.at in
    let lt : i < length ts = c.loop-turn-test.true in
    let t : ℤ = get_or ts i (pos 0) in
    let same : to_z w8 (of_z w8 t) ≡ t = to_z-of_z w8 t (turn-fits t (c.requires i (pos 0) lt)) in
    let next : c.next_port-at.result ≡ far_pair (next_after m (unpair at) t) = c.next_port-at.ensures ∙ ap (λ z. far_pair (next_after m (unpair at) z)) same in
    let step : led_to m (unpair at) (drop i ts) ≡ led_to m (next_after m (unpair at) t) (drop (i + 1) ts) = at_drop_more (led_to m (unpair at)) ts i (pos 0) lt ∙ led-step m (unpair at) t (drop (i + 1) ts) in
    ap (λ o. led_to m o (drop (i + 1) ts)) (ap unpair next ∙ unpair-pair (next_after m (unpair at) t)) ∙ sym step ∙ c.loop-turn.invariant
