-- Part of the way along an ask: the give-ups, the tries of its host probes and of its loopback probes, and within one try.
use Rattle.std.proofs.Common.{◌≡◌, ℕ, false, List, [], map, Option, Some, None, is_some, refl, ◌∙◌, ap, subst}
use Rattle.std.specs.Prelude.{ℤ}
use Rattle.world_defs.specs.declared.event.Event.TheVariants.{Ask, Inject, GiveUp}
use Rattle.world_defs.specs.World.{WorldState, addresses}
use Rattle.world_defs.specs.Step.{step}
use Rattle.world_defs.specs.EightBits.{IsByteEvent}
use Rattle.world_defs.specs.Asking.{reply_in, probed_host, all_given_up}
use Rattle.world_defs.specs.Log.{Log}
use Rattle.world_defs.specs.Logs as log
use Rattle.world_defs.specs.Row.{IsPartWay}
use Rattle.world_defs.proofs.LogRows.{sends-row, host_try-row, tries-row, byte_asks}
use Rattle.log_laws.proofs.PartWay.{way-front, way-behind, way-step}

-- along the drain after an injection
pub sends-behind : (w u v : WorldState) (h : ℕ) → u ≡ (step w (Inject h)).1 → IsPartWay u (log.drain u).events v → IsPartWay w (log.sends h w).events v
unfolding log.sends
sends-behind w u v h is p = way-step w (step w (Inject h)).1 v (Inject h) (log.drain (step w (Inject h)).1).events refl (subst (λ x. IsPartWay x (log.drain x).events v) is p)

-- along its reply
pub host_try-reply : (mapper : ℕ) (walk : List ℤ) (h : ℕ) (w u x v : WorldState) → u ≡ (step w (Ask mapper walk false)).1 → Some h ≡ probed_host (log.sends mapper u).value.effects → x ≡ (log.sends mapper u).world → IsPartWay x (log.sends h x).events v
    → IsPartWay w (log.host_try mapper walk w).events v
unfolding log.host_try
host_try-reply mapper walk h w u x v is found led p =
    let staged : WorldState = (step w (Ask mapper walk false)).1 in
    let probe : Log log.Sent = log.sends mapper staged in
    let reply : Option ℕ → Log (log.Tried (Option ℕ)) = λ o. log.answered w None (λ r. reply_in mapper probe.value.number r.effects) probe.value o probe.world in
    let here : Some h ≡ probed_host probe.value.effects = found ∙ ap (λ y. probed_host (log.sends mapper y).value.effects) is in
    let there : x ≡ probe.world = led ∙ ap (λ y. (log.sends mapper y).world) is in
    way-step w staged v (Ask mapper walk false) _ refl
    (way-behind staged probe.world v probe.events (reply (probed_host probe.value.effects)).events (sends-row byte_asks mapper staged).there
    (subst (λ o. IsPartWay probe.world (reply o).events v) here
    (way-front probe.world v (log.sends h probe.world).events _ (subst (λ y. IsPartWay y (log.sends h y).events v) there p))))

-- along the give-ups of an ask
pub ask-given_up : (made mapper tries : ℕ) (walk : List ℤ) (w v : WorldState) → IsPartWay w (map GiveUp (addresses w)) v → IsPartWay w (log.ask made mapper tries walk w).events v
unfolding log.ask
ask-given_up made mapper tries walk w v p = way-front w v (map GiveUp (addresses w)) _ p

-- the tries of a host probe, and what follows them
abbrev hosts : ℕ → List ℤ → ℕ → WorldState → Log (log.Tried (Option ℕ))
hosts mapper walk k = log.tries is_some None (log.host_try mapper walk) k

abbrev asked : ℕ → ℕ → List ℤ → ℕ → WorldState → Log log.Asked
asked made mapper walk k w = let t : Log (log.Tried (Option ℕ)) = hosts mapper walk k w in log.asked_on made mapper walk k t.value.harmed t.value.found t.world

-- along the tries of its host probe
pub ask-hosts : (made mapper tries : ℕ) (walk : List ℤ) (w u v : WorldState) → u ≡ all_given_up w → IsPartWay u (hosts mapper walk tries u).events v → IsPartWay w (log.ask made mapper tries walk w).events v
unfolding log.ask
ask-hosts made mapper tries walk w u v is p =
    let start : WorldState = all_given_up w in
    way-behind w start v (map GiveUp (addresses w)) _ refl
    (way-front start v (hosts mapper walk tries start).events (asked made mapper walk tries start).events (subst (λ x. IsPartWay x (hosts mapper walk tries x).events v) is p))

-- along the tries of its loopback probe
pub ask-loops : (made mapper tries : ℕ) (walk : List ℤ) (w u x v : WorldState) → u ≡ all_given_up w → None ≡ (hosts mapper walk tries u).value.found → x ≡ (hosts mapper walk tries u).world
    → IsPartWay x (log.tries (λ b. b) false (log.loop_try mapper walk) tries x).events v → IsPartWay w (log.ask made mapper tries walk w).events v
unfolding log.ask
ask-loops made mapper tries walk w u x v is none led p =
    let start : WorldState = all_given_up w in
    let t : Log (log.Tried (Option ℕ)) = hosts mapper walk tries start in
    way-behind w start v (map GiveUp (addresses w)) _ refl
    (way-behind start t.world v t.events (asked made mapper walk tries start).events (tries-row IsByteEvent is_some None (log.host_try mapper walk) (host_try-row byte_asks (λ h wk l. tt) mapper walk) tries start).there
    (subst (λ o. IsPartWay t.world (log.asked_on made mapper walk tries t.value.harmed o t.world).events v) (none ∙ ap (λ y. (hosts mapper walk tries y).value.found) is)
    (way-front t.world v (log.tries (λ b. b) false (log.loop_try mapper walk) tries t.world).events []
    (subst (λ y. IsPartWay y (log.tries (λ b. b) false (log.loop_try mapper walk) tries y).events v) (led ∙ ap (λ y. (hosts mapper walk tries y).world) is) p))))
