-- A packet that a host puts into its channel is its injection.
use Rattle.std.proofs.Common.{◌≡◌, ◌+◌, ℕ, Bool, true, false, true≢false, not, List, Option, Some, None, refl, sym, ◌∙◌, ap, subst}
use Rattle.std.specs.Prelude.{option_map, slice_set}
use Rattle.std.specs.Option.{unwrap_or}
use Rattle.world_defs.specs.declared.effect.Effect.{Effect}
use Rattle.world_defs.specs.declared.effect.Effect.TheVariants.{Injected}
use Rattle.world_defs.specs.Table.{Adoption}
use Rattle.world_defs.specs.Node.{NodeState, Outgoing, to_send, packet_for, after_sending}
use Rattle.world_defs.specs.World.{WorldState, node_at, with_node, keeps_out, may_send}
use Rattle.world_defs.specs.Step.{inject_one, planned_strikes}
use Rattle.faulty_links.specs.Held.{LinksAndPlan, of_world, with_part, can_inject, put_under_next}
use Rattle.faulty_links.proofs.Parts.{injection_is_put}
use Rattle.nic_node.specs.Sending.{once_sent}
use Rattle.client_host.specs.Held.{ServedHost, in_state}
use Rattle.fab_world.specs.Held.{world_of}
use Rattle.fab_world.proofs.Places.{IsAt, IsThere, found, changed-under}

not-true : (b : Bool) → not b ≡ true → b ≡ false
not-true true e = absurd (true≢false (sym e))
not-true false e = refl

put-is : (links : LinksAndPlan) (hosts now : List ServedHost) (adopted : Option Adoption) (h c : ℕ) (o : Option Outgoing) (packet : List ℕ) (effect : Effect) (v : LinksAndPlan)
    → can_inject (of_world (world_of links hosts adopted)) c ≡ true → may_send (world_of links hosts adopted) c o ≡ true
    → Some packet ≡ option_map (packet_for h (links.injected + 1)) o → effect ≡ Injected (links.injected + 1)
    → ((u : WorldState) → planned_strikes (put_under_next (with_part u links) c packet) c ≡ with_part u v)
    → world_of v now adopted ≡ with_node (world_of v hosts adopted) h (once_sent (node_at (world_of links hosts adopted) h) o)
    → inject_one (world_of links hosts adopted) h c o ≡ (effect, world_of v now adopted)
put-is links hosts now adopted h c None packet effect v free may made told strikes is = cc
put-is links hosts now adopted h c (Some out) packet effect v free may made told strikes is =
    let w : WorldState = world_of links hosts adopted in
    let sent : NodeState = after_sending (node_at w h) out in
    let made_is : packet ≡ packet_for h (links.injected + 1) out = ap (λ o. unwrap_or o packet) made in
    let put = injection_is_put w h c out free (not-true (keeps_out w c out) may) in
    let struck : planned_strikes (put_under_next (with_node w h sent) c (packet_for h (links.injected + 1) out)) c ≡ with_part (with_node w h sent) v =
    ap (λ p. planned_strikes (put_under_next (with_node w h sent) c p) c) (sym made_is) ∙ strikes (with_node w h sent) in
    put ∙ ap (λ u. (Injected (links.injected + 1), u)) (struck ∙ sym is) ∙ ap (λ x. (x, world_of v now adopted)) (sym told)

-- one host's packet enters its channel
pub injected-is : {p : LinksAndPlan} {ss : List ServedHost} {o : Option Adoption} {w : WorldState} {h i : ℕ} {x : ServedHost} (c : ℕ) (q : ServedHost) (packet : List ℕ) (effect : Effect) (v : LinksAndPlan) → IsAt p ss o w h i x
    → can_inject (of_world w) c ≡ true → may_send w c (to_send h (node_at w h)) ≡ true → Some packet ≡ option_map (packet_for h (w.injected + 1)) (to_send h (node_at w h)) → effect ≡ Injected (p.injected + 1)
    → ((u : WorldState) → planned_strikes (put_under_next (with_part u p) c packet) c ≡ with_part u v)
    → q ≡ in_state x (once_sent x.state (to_send x.host x.state))
    → inject_one w h c (to_send h (node_at w h)) ≡ (effect, world_of v (slice_set ss i q) o)
injected-is {p} {ss} {o} {w} {h} {i} {x} c q packet effect v a free may made told strikes e =
    let inside : WorldState = world_of p ss o in
    let here : IsThere w h x = found a in
    let state : x.state ≡ node_at inside h = here.state ∙ ap (λ u. node_at u h) (sym a.is) in
    let sent : NodeState = once_sent (node_at inside h) (to_send h (node_at inside h)) in
    let new : q ≡ in_state x sent =
    e ∙ ap (λ k. in_state x (once_sent x.state (to_send k x.state))) here.host ∙ ap (λ n. in_state x (once_sent n (to_send h n))) state in
    subst (λ u. inject_one u h c (to_send h (node_at u h)) ≡ (effect, world_of v (slice_set ss i q) o)) a.is
    (put-is p ss (slice_set ss i q) o h c (to_send h (node_at inside h)) packet effect v
    (subst (λ u. can_inject (of_world u) c ≡ true) (sym a.is) free)
    (subst (λ u. may_send u c (to_send h (node_at u h)) ≡ true) (sym a.is) may)
    (subst (λ u. Some packet ≡ option_map (packet_for h (u.injected + 1)) (to_send h (node_at u h))) (sym a.is) made)
    told strikes
    (changed-under q sent v o a new))
