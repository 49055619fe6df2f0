-- Part of the way along an installation: the give-ups, the hosts, and within one try.
use Rattle.std.proofs.Common.{◌≡◌, ℕ, Bool, true, false, List, map, Option, Some, None, refl, sym, ap, subst, ◌∙◌, if◌then◌else◌}
use Rattle.world_defs.specs.declared.event.Event.TheVariants.{Part, GiveUp}
use Rattle.world_defs.specs.Table.{Adoption}
use Rattle.world_defs.specs.World.{WorldState, addresses}
use Rattle.world_defs.specs.Step.{step}
use Rattle.world_defs.specs.Asking.{all_given_up}
use Rattle.world_defs.specs.Install.{has_staged_answer, is_acknowledged}
use Rattle.world_defs.specs.Log.{Log}
use Rattle.world_defs.specs.Logs as log
use Rattle.world_defs.specs.Row.{IsPartWay}
use Rattle.world_defs.proofs.LogRows.{sends-row, byte_asks}
use Rattle.log_laws.proofs.PartWay.{way-front, way-behind, way-step}

-- along the part of a try
pub part_try-sent : (mapper dst part : ℕ) (w u v : WorldState) → u ≡ (step w (Part dst part)).1 → IsPartWay u (log.sends mapper u).events v → IsPartWay w (log.part_try mapper dst part w).events v
unfolding log.part_try
part_try-sent mapper dst part w u v is p =
    let staged : WorldState = (step w (Part dst part)).1 in
    way-step w staged v (Part dst part) _ refl (way-front staged v (log.sends mapper staged).events _ (subst (λ x. IsPartWay x (log.sends mapper x).events v) is p))

-- along its acknowledgement
pub part_try-answer : (mapper dst part : ℕ) (w u x v : WorldState) → u ≡ (step w (Part dst part)).1 → x ≡ (log.sends mapper u).world → has_staged_answer (log.sends mapper u).world dst (log.sends mapper u).value.effects ≡ true
    → IsPartWay x (log.sends dst x).events v → IsPartWay w (log.part_try mapper dst part w).events v
unfolding log.part_try
part_try-answer mapper dst part w u x v is led has p =
    let staged : WorldState = (step w (Part dst part)).1 in
    let sent : Log log.Sent = log.sends mapper staged in
    let there : x ≡ sent.world = led ∙ ap (λ y. (log.sends mapper y).world) is in
    let test : true ≡ has_staged_answer sent.world dst sent.value.effects = sym has ∙ ap (λ y. has_staged_answer (log.sends mapper y).world dst (log.sends mapper y).value.effects) is in
    let answer : Option ℕ → Log (log.Tried Bool) = λ o. log.answered w false (λ ack. is_acknowledged mapper dst part ack.effects) sent.value o sent.world in
    way-step w staged v (Part dst part) _ refl
    (way-behind staged sent.world v sent.events (answer (if has_staged_answer sent.world dst sent.value.effects then Some dst else None)).events (sends-row byte_asks mapper staged).there
    (subst (λ b. IsPartWay sent.world (answer (if b then Some dst else None)).events v) test
    (way-front sent.world v (log.sends dst sent.world).events _ (subst (λ y. IsPartWay y (log.sends dst y).events v) there p))))

-- along the give-ups of an installation
pub install-given_up : (a : Adoption) (hosts : List ℕ) (tries : ℕ) (w v : WorldState) → IsPartWay w (map GiveUp (addresses w)) v → IsPartWay w (log.install a hosts tries w).events v
unfolding log.install
install-given_up a hosts tries w v way = way-front w v (map GiveUp (addresses w)) _ way

-- along its hosts
pub install-hosts : (a : Adoption) (hosts : List ℕ) (tries : ℕ) (w u v : WorldState) → u ≡ all_given_up w → IsPartWay u (log.hosts a tries hosts u).events v → IsPartWay w (log.install a hosts tries w).events v
unfolding log.install
install-hosts a hosts tries w u v is way =
    way-behind w (all_given_up w) v (map GiveUp (addresses w)) (log.hosts a tries hosts (all_given_up w)).events refl (subst (λ y. IsPartWay y (log.hosts a tries hosts y).events v) is way)
