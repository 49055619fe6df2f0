-- What asks and installations cost: two for each try.
use Rattle.std.proofs.Common.{◌≡◌, ◌≤◌, ◌+◌, ◌*◌, ℕ, zero, suc, Bool, true, false, ℤ, List, [], ◌∷◌, map, length, Option, Some, None, is_some, refl, arith}
use Rattle.world_defs.specs.declared.event.Event.{Event}
use Rattle.world_defs.specs.declared.event.Event.TheVariants.{Ask, Part, Inject, GiveUp}
use Rattle.world_defs.specs.Table.{Adoption}
use Rattle.world_defs.specs.World.{WorldState, addresses}
use Rattle.world_defs.specs.Step.{step, after_all}
use Rattle.world_defs.specs.Asking.{probed_host, all_given_up}
use Rattle.world_defs.specs.Install.{has_staged_answer, parts_of}
use Rattle.world_defs.specs.Log.{Log}
use Rattle.world_defs.specs.Logs as log
use Rattle.world_defs.proofs.LogRows.{all-map}
use Rattle.world_defs.proofs.LogViews.{drain, Sent, sends, heard_by, host_try, loop_try, Tried, tries_of, tries-by, host_tries, asked_hosts, part_sent_if, part_try, part_tries, parts_installed, parts-by, hosts_installed}
use Rattle.world_laws.proofs.Along.{Along, after_all-along, drain-along}
use Rattle.world_laws.proofs.Leaves.{IsNoCall}
use Rattle.world_laws.proofs.Rounds.{Going, along-going, fragments-fewer}
use Rattle.world_defs.specs.Acts.{Happens}
use Rattle.injection_bounds.specs.Paid.{event_cost}
use Rattle.injection_bounds.specs.Settled.{pledged}
use Rattle.injection_bounds.specs.Commands.{AskCostsFew, HasFewParts, InstallCostsFew}
use Rattle.injection_bounds.proofs.Acting.{acted-pays}

-- an event that is no client's call leaves no fragment and no fault more
pub event-pledged : (w : WorldState) (e : Event) → IsNoCall e → pledged (step w e).1 ≤ pledged w + event_cost w e
event-pledged w e q =
    let a = acted-pays w (Happens e) in
    let g : Going w (step w e).1 = along-going.event w e q in
    let f = fragments-fewer w (step w e).1 g in
    let p = g.planned in
    let r = g.rises in
    omega (arith, a, f, p, r)

-- events that cost nothing
abbrev IsStill : Event → Type 0
IsStill e = IsNoCall e × ((w : WorldState) → event_cost w e ≡ 0)

abbrev NoDearer : WorldState → WorldState → Type 0
NoDearer u v = pledged v ≤ pledged u

along-still : Along NoDearer IsStill
along-still = record {
  same = λ w. omega arith;
  both = λ u v w a b. omega (arith, a, b);
  event = λ w e q. let a = event-pledged w e q.0 in let b = q.1 w in omega (arith, a, b);
}

give_ups-pledged : (w : WorldState) (hs : List ℕ) → pledged (after_all w (map GiveUp hs)) ≤ pledged w
give_ups-pledged w hs = after_all-along NoDearer IsStill along-still w (map GiveUp hs) (all-map IsStill GiveUp (λ h. (tt, λ v. refl)) hs)

sends-pledged : (w : WorldState) (h : ℕ) → pledged (sends w h).world ≤ pledged w
unfolding log.sends
sends-pledged w h =
    let u : WorldState = (step w (Inject h)).1 in
    along-still.both w u (drain u).1 (along-still.event w (Inject h) (tt, λ v. refl)) (drain-along NoDearer IsStill along-still (λ c. (tt, λ v. refl)) u)

host_try-pledged : (mapper : ℕ) (walk : List ℤ) (w : WorldState) → pledged (host_try mapper walk w).world ≤ pledged w + 2
unfolding log.host_try
host_try-pledged mapper walk w = by (probed_host probe.effects)
  where
    staged : WorldState
    staged = (step w (Ask mapper walk false)).1

    probe : Sent
    probe = sends staged mapper

    first : pledged probe.world ≤ pledged w + 2
    first = let a = sends-pledged staged mapper in let b = event-pledged w (Ask mapper walk false) tt in omega (arith, a, b)

    by : (o : Option ℕ) → pledged (heard_by w mapper probe o).world ≤ pledged w + 2
    by None = first
    by (Some h) = let a = sends-pledged probe.world h in omega (arith, first, a)

loop_try-pledged : (mapper : ℕ) (walk : List ℤ) (w : WorldState) → pledged (loop_try mapper walk w).world ≤ pledged w + 2
unfolding log.loop_try
loop_try-pledged mapper walk w =
    let staged : WorldState = (step w (Ask mapper walk true)).1 in
    let a = sends-pledged staged mapper in
    let b = event-pledged w (Ask mapper walk true) tt in
    omega (arith, a, b)

part_try-pledged : (mapper dst part : ℕ) (w : WorldState) → pledged (part_try mapper dst part w).world ≤ pledged w + 2
unfolding log.part_try
part_try-pledged mapper dst part w = by (has_staged_answer sent.world dst sent.effects)
  where
    staged : WorldState
    staged = (step w (Part dst part)).1

    sent : Sent
    sent = sends staged mapper

    first : pledged sent.world ≤ pledged w + 2
    first = let a = sends-pledged staged mapper in let b = event-pledged w (Part dst part) tt in omega (arith, a, b)

    by : (b : Bool) → pledged (part_sent_if w mapper dst part sent b).world ≤ pledged w + 2
    by true = let a = sends-pledged sent.world dst in omega (arith, first, a)
    by false = first

tries-pledged : {A : Type 0} (is_found : A → Bool) (nothing : A) (one : WorldState → Log (log.Tried A)) → ((w : WorldState) → pledged (one w).world ≤ pledged w + 2) → (tries : ℕ) (w : WorldState) → pledged (tries_of is_found nothing one tries w).world ≤ pledged w + 2 * tries
tries-pledged is_found nothing one each zero w = omega arith
tries-pledged is_found nothing one each (suc n) w =
    let here = each w in
    let rest = tries-pledged is_found nothing one each n (one w).world in
    tries-by is_found nothing one n w (λ t. pledged t.world ≤ pledged w + 2 * suc n) (λ e. omega (arith, here)) (λ e. omega (arith, here, rest))

pub ask-costs : AskCostsFew
unfolding log.ask
ask-costs w made mapper tries walk few = by hosts.found
  where
    start : WorldState
    start = all_given_up w

    hosts : Tried (Option ℕ)
    hosts = host_tries mapper walk tries start

    first : pledged hosts.world ≤ pledged w + 2 * tries
    first =
        let a = give_ups-pledged w (addresses w) in
        let b = tries-pledged is_some None (log.host_try mapper walk) (host_try-pledged mapper walk) tries start in
        omega (arith, a, b)

    by : (o : Option ℕ) → pledged (asked_hosts made mapper walk tries hosts.harmed hosts.world o).world ≤ pledged w + 32
    by (Some h) = omega (arith, first, few)
    by None = let a = tries-pledged (λ b. b) false (log.loop_try mapper walk) (loop_try-pledged mapper walk) tries hosts.world in omega (arith, first, few, a)

-- an installation
parts-pledged : (mapper dst tries : ℕ) (ps : List ℕ) (w : WorldState) → tries ≤ 8 → pledged (parts_installed mapper dst tries ps w).1 ≤ pledged w + 16 * length ps
parts-pledged mapper dst tries [] w few = omega arith
parts-pledged mapper dst tries (p ∷ ps) w few =
    let first = tries-pledged (λ b. b) false (log.part_try mapper dst p) (part_try-pledged mapper dst p) tries w in
    let rest = parts-pledged mapper dst tries ps (part_tries mapper dst tries p w).world few in
    parts-by mapper dst tries p ps w (λ r. pledged r.1 ≤ pledged w + 16 * length (p ∷ ps)) (λ e. omega (arith, few, first, rest)) (λ e. omega (arith, few, first))

hosts-pledged : (a : Adoption) (tries : ℕ) (hs : List ℕ) (w : WorldState) → tries ≤ 8 → HasFewParts a → pledged (hosts_installed a tries hs w).1 ≤ pledged w + 256 * length hs
hosts-pledged a tries [] w few parts = omega arith
hosts-pledged a tries (h ∷ hs) w few parts =
    let ps : List ℕ = parts_of a h in
    let low = parts h in
    let first = parts-pledged a.mapper h tries ps w few in
    let rest = hosts-pledged a tries hs (parts_installed a.mapper h tries ps w).1 few parts in
    omega (arith, first, low, rest)

pub install-costs : InstallCostsFew
unfolding log.install
install-costs a hosts tries w few parts =
    let first = give_ups-pledged w (addresses w) in
    let rest = hosts-pledged a tries hosts (all_given_up w) few parts in
    omega (arith, first, rest)
