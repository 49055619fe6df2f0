use Rattle.std.proofs.Common.{◌≡◌, ◌<◌, ◌+◌, length, drop, get_or, pos, None, sym, ap, ◌∙◌, w8, to_z, of_z, ℤ}
use Rattle.std.proofs.lemmas.Int.{to_z-of_z}
use Rattle.std.proofs.lemmas.List.{at_drop_more}
use Rattle.net_defs.specs.Building.{first_of_two}
use Rattle.map_defs.specs.Routing.{channels_on, led_to}
use Rattle.fabric_map.specs.Table.{far_pair}
use Rattle.rank_cert.specs.Checking.{fault_along, fault_by, ranked_at, ranked_by}
use Rattle.rank_cert.specs.Following.{unpair, next_after, channels_after}
use Rattle.rank_cert.proofs.Along.{fault-step, fault-there, ranked-there}
use Rattle.rank_cert.proofs.Pairs.{unpair-pair, led-step, turn-fits}
use Rattle.rank_cert.proofs.checking.walked.Goals as goal

pub loop-turn-preserved : goal.loop-turn-preserved
loop-turn-preserved c =
    let m = c.args.m.now in
    let ks = c.args.k.now in
    let ts = c.args.turns.now in
    let i = c.loop-turn.turn-index in
    let at = c.loop-turn.at in
    let before = c.loop-turn.before in
    let lt : i < length ts = c.loop-turn-test.true in
    let t : ℤ = get_or ts i (pos 0) in
    let same : to_z w8 (of_z w8 t) ≡ t = to_z-of_z w8 t (turn-fits t (c.requires i (pos 0) lt)) in
    let next : unpair c.next_by-at.result ≡ next_after m (unpair at) t =
    ap unpair (c.next_by-at.ensures ∙ ap (λ z. far_pair (next_after m (unpair at) z)) same) ∙ unpair-pair (next_after m (unpair at) t) in
    let step : fault_along ks before (channels_on m (unpair at) (drop i ts)) ≡ first_of_two (fault_along ks before (channels_after m (unpair at))) (fault_along ks (ranked_at ks (unpair at)) (channels_on m (next_after m (unpair at) t) (drop (i + 1) ts))) =
    at_drop_more (λ l. fault_along ks before (channels_on m (unpair at) l)) ts i (pos 0) lt ∙ fault-step m ks before (unpair at) t (drop (i + 1) ts) in
    let none : fault_along ks before (channels_after m (unpair at)) ≡ None =
    sym (c.in-None.ensures ∙ ap (fault_by before (channels_after m (unpair at))) c.rank_at-rank.ensures ∙ fault-there m ks before (unpair at)) in
    record {
      fault =
          ap (λ b. fault_along ks b (channels_on m (unpair c.next_by-at.result) (drop (i + 1) ts))) (c.ranked-before.ensures ∙ ap (ranked_by (unpair at)) c.rank_at-rank.ensures ∙ ranked-there ks (unpair at))
          ∙ ap (λ o. fault_along ks (ranked_at ks (unpair at)) (channels_on m o (drop (i + 1) ts))) next
          ∙ sym (ap (λ f. first_of_two f (fault_along ks (ranked_at ks (unpair at)) (channels_on m (next_after m (unpair at) t) (drop (i + 1) ts)))) none)
          ∙ sym step
          ∙ c.loop-turn.invariant.fault;
      led =
          ap (λ o. led_to m o (drop (i + 1) ts)) next
          ∙ sym (at_drop_more (led_to m (unpair at)) ts i (pos 0) lt ∙ led-step m (unpair at) t (drop (i + 1) ts))
          ∙ c.loop-turn.invariant.led;
    }
