-- What an ask comes to: the laws.
use Rattle.std.proofs.Common.{◌≡◌, ◌<◌, ◌≤◌, ℕ, zero, suc, Bool, true, false, not, ◌&&◌, ◌||◌, nat_lt, ℤ, List, Option, Some, None, is_some, ◌⊎◌, inl, inr, refl, sym, ap, ◌∙◌, subst, arith, true≢false}
use Rattle.std.proofs.lemmas.Bool.{cases_lt}
use Rattle.std.proofs.lemmas.Bool.Decides.{nat_tests}
use Rattle.net_defs.specs.declared.place.Place.{Place}
use Rattle.net_defs.specs.declared.place.Place.TheVariants.{Host as AtHostPlace, Switch as AtSwitch, Nothing as Stuck}
use Rattle.net_defs.specs.declared.place.Answer.TheVariants.{Switch as IsSwitch, Nothing as IsNothing}
use Rattle.net_defs.specs.Network.{Network}
use Rattle.net_defs.specs.Route.{place, answer_at, answer}
use Rattle.world_defs.specs.History.{fabric_at}
use Rattle.world_defs.proofs.CablesLater.{pulled-later, later-kept}
use Rattle.world_defs.specs.World.{WorldState, last_count}
use Rattle.world_defs.specs.Asking.{loop_answer, is_changed, all_given_up}
use Rattle.world_defs.specs.declared.event.Event.{Event}
use Rattle.world_defs.specs.declared.event.Event.TheVariants.{Ask, Inject, Advance, GiveUp}
use Rattle.world_defs.specs.Log.{Log}
use Rattle.world_defs.specs.Logs as log
use Rattle.world_defs.specs.Cables.{is_plug}
use Rattle.world_defs.proofs.LogRows.{ask-row}
use Rattle.world_defs.proofs.LogViews.{tried_to, tries-by, Tried, tries_of, host_tries, loop_tries, Asked, asked_loops, asked_hosts, ask}
use Rattle.world_laws.proofs.Along.{row-along}
use Rattle.world_laws.proofs.Reached.{row-kept}
use Rattle.world_laws.proofs.Unplanned.{Unplanned, is_change, along-unplanned}
use Rattle.ask_laws.specs.Premises.{CanAsk}
use Rattle.ask_laws.specs.Kept.{IsAskKept, AskKeeps, CanAskAgain}
use Rattle.ask_laws.specs.Row.{IsOfAsk}
use Rattle.ask_laws.specs.Truth.{AskIsTrueOrDrowns, QuietAskIsHeard, DrownedAskFoundNothing, DrownedAskWasHarmed}
use Rattle.ask_laws.proofs.Along.{ask-events, ask-idle}
use Rattle.ask_laws.proofs.Stood.{stood-pulled, IsMissing}
use Rattle.ask_laws.proofs.Ready.{Ready, kept-same, kept-both, kept-start, ready-start}
use Rattle.ask_laws.proofs.Tries.{Premises, IsQuietTo, IsTry, below}
use Rattle.ask_laws.proofs.HostTries.{HostIs, NoHost, host-try}
use Rattle.ask_laws.proofs.LoopTries.{AtASwitch, NoSwitch, loop-try}

-- Tries up to the first that finds something.
record IsTries {A : Type 0} (n : Network) (made mapper : ℕ) (is_found : A → Bool) (Sound : A → Type 0) (Absent : Type 0) (tries : ℕ) (w : WorldState) (t : Tried A) : Type 0 where
  ready : Ready n made mapper t.world
  kept : IsAskKept w t.world
  sound : is_found t.found ≡ true → Sound t.found
  missed : is_found t.found ≡ false → (t.harmed ≡ true) ⊎ IsMissing made t.world Absent
  unharmed : is_found t.found ≡ false → 0 < tries → IsQuietTo w t.world → t.harmed ≡ false

both-harmed : {Absent : Type 0} (a b : Bool) → (a ≡ true) ⊎ Absent → (b ≡ true) ⊎ Absent → ((a && b) ≡ true) ⊎ Absent
both-harmed a b (inl p) (inl q) = inl (rw (p, q) refl)
both-harmed a b (inl p) (inr q) = inr q
both-harmed a b (inr p) q = inr p

-- what is missing stays so
rises : (w v : WorldState) → IsAskKept w v → w.links.cables.changes ≤ v.links.cables.changes
rises w v k = let kept = later-kept (pulled-later k.pulled) in kept.changes

still-missing : (made : ℕ) (w v : WorldState) (Absent : Type 0) (harmed : Bool) → IsAskKept w v → (harmed ≡ true) ⊎ IsMissing made w Absent → (harmed ≡ true) ⊎ IsMissing made v Absent
still-missing made w v Absent harmed k (inl p) = inl p
still-missing made w v Absent harmed k (inr (inl more)) = let rise = rises w v k in inr (inl (omega (arith, more, rise)))
still-missing made w v Absent harmed k (inr (inr absent)) = inr (inr absent)

-- a quiet stretch is quiet up to each world on the way, and from it
quiet-first : (w u v : WorldState) → IsAskKept w u → IsAskKept u v → IsQuietTo w v → IsQuietTo w u
quiet-first w u v k l (IsQuietTo.unplanned none left) = let e = l.injected in IsQuietTo.unplanned (λ number a b. none number a (omega (arith, e, b))) (omega (arith, e, left))
quiet-first w u v k l (IsQuietTo.unharmed same left) =
    let e = l.injected in
    let a = k.harmed in
    let b = l.harmed in
    IsQuietTo.unharmed (omega (arith, same, a, b)) (omega (arith, e, left))

quiet-last : (w u v : WorldState) → IsAskKept w u → IsAskKept u v → IsQuietTo w v → IsQuietTo u v
quiet-last w u v k l (IsQuietTo.unplanned none left) = let i = k.injected in IsQuietTo.unplanned (λ number a b. k.unplanned number (none number (omega (arith, i, a)) b)) left
quiet-last w u v k l (IsQuietTo.unharmed same left) = let a = k.harmed in let b = l.harmed in IsQuietTo.unharmed (omega (arith, same, a, b)) left

tries-so : {A : Type 0} (n : Network) (made mapper : ℕ) (is_found : A → Bool) (Sound : A → Type 0) (Absent : Type 0) (nothing : A) (one : WorldState → Log (log.Tried A)) → is_found nothing ≡ false → ((w : WorldState) → Ready n made mapper w → IsTry n made mapper is_found Sound Absent w (tried_to (one w))) → (tries : ℕ) (w : WorldState) → Ready n made mapper w → IsTries n made mapper is_found Sound Absent tries w (tries_of is_found nothing one tries w)
tries-so n made mapper is_found Sound Absent nothing one none each zero w r =
    record { ready = r; kept = kept-same w; sound = λ e. absurd (true≢false (sym e ∙ none)); missed = λ e. inl refl; unharmed = λ e some q. absurd (omega (arith, some)) }
tries-so {A} n made mapper is_found Sound Absent nothing one none each (suc k) w r =
    let t : Tried A = tried_to (one w) in
    let rest : Tried A = tries_of is_found nothing one k t.world in
    let first = each w r in
    let others = tries-so n made mapper is_found Sound Absent nothing one none each k t.world first.ready in
    tries-by is_found nothing one k w (IsTries n made mapper is_found Sound Absent (suc k) w)
    (λ e. record {
      ready = first.ready;
      kept = first.kept;
      sound = first.sound;
      missed = λ f. absurd (true≢false (sym e ∙ f));
      unharmed = λ f some q. absurd (true≢false (sym e ∙ f));
    })
    (λ e. record {
      ready = others.ready;
      kept = kept-both w t.world rest.world first.kept others.kept;
      sound = others.sound;
      missed = λ f. both-harmed t.harmed rest.harmed (still-missing made t.world rest.world Absent t.harmed others.kept (first.missed e)) (others.missed f);
      unharmed = λ f some q. ap (λ x. x && rest.harmed) (first.unharmed e (quiet-first w t.world rest.world first.kept others.kept q));
    })

-- What an ask comes to.
record IsAsk (n : Network) (made mapper : ℕ) (walk : List ℤ) (tries : ℕ) (w : WorldState) (a : Asked) : Type 0 where
  kept : IsAskKept w a.world
  answers : (a.answer ≡ answer n mapper walk) ⊎ ((a.answer ≡ IsNothing) × (a.drowned ≡ true))
  heard : 0 < tries → IsQuietTo w a.world → a.world.links.cables.changes ≤ made → a.drowned ≡ false

abbrev AreHostTries : Network → ℕ → ℕ → List ℤ → ℕ → WorldState → Tried (Option ℕ) → Type 0
AreHostTries n made mapper walk tries w t = IsTries n made mapper is_some (HostIs n mapper walk) (NoHost n mapper walk) tries w t

abbrev AreLoopTries : Network → ℕ → ℕ → List ℤ → ℕ → WorldState → Tried Bool → Type 0
AreLoopTries n made mapper walk tries w t = IsTries n made mapper (λ b. b) (λ b. AtASwitch n mapper walk) (NoSwitch n mapper walk) tries w t

-- where neither is there, the walk is stuck
neither : (n : Network) (mapper : ℕ) (walk : List ℤ) → NoHost n mapper walk → NoSwitch n mapper walk → IsNothing ≡ answer n mapper walk
neither n mapper walk a b = by (place n mapper walk) refl
  where
    by : (p : Place) → place n mapper walk ≡ p → IsNothing ≡ answer n mapper walk
    by (AtHostPlace h) e = absurd (a h e)
    by (AtSwitch s q) e = absurd (b s q e)
    by Stuck e = sym (ap answer_at e)

switch-answer : (n : Network) (mapper : ℕ) (walk : List ℤ) → AtASwitch n mapper walk → IsSwitch ≡ answer n mapper walk
switch-answer n mapper walk (AtASwitch.at_switch s p e) = sym (ap answer_at e)

last-true : (a b : Bool) → b ≡ true → (a || b) ≡ true
last-true true b e = refl
last-true false b e = e

middle-true : (a c b : Bool) → c ≡ true → ((a || c) || b) ≡ true
middle-true true c b e = refl
middle-true false c b e = rw e refl

drowns : (n : Network) (mapper : ℕ) (walk : List ℤ) (a c b : Bool) → (a ≡ true) ⊎ ((c ≡ true) ⊎ NoHost n mapper walk) → (b ≡ true) ⊎ ((c ≡ true) ⊎ NoSwitch n mapper walk) → (IsNothing ≡ answer n mapper walk) ⊎ (((a || c) || b) ≡ true)
drowns n mapper walk a c b (inl p) q = inr (rw p refl)
drowns n mapper walk a c b (inr (inl p)) q = inr (middle-true a c b p)
drowns n mapper walk a c b (inr (inr p)) (inl q) = inr (last-true (a || c) b q)
drowns n mapper walk a c b (inr (inr p)) (inr (inl q)) = inr (middle-true a c b q)
drowns n mapper walk a c b (inr (inr p)) (inr (inr q)) = inl (neither n mapper walk p q)

-- cables went, or they didn't
changed : (made : ℕ) (v : WorldState) (Absent : Type 0) (harmed : Bool) → (harmed ≡ true) ⊎ IsMissing made v Absent → (harmed ≡ true) ⊎ ((is_changed made v ≡ true) ⊎ Absent)
changed made v Absent harmed (inl p) = inl p
changed made v Absent harmed (inr (inl more)) = inr (inl (below made v.links.cables.changes more))
changed made v Absent harmed (inr (inr absent)) = inr (inr absent)

unchanged : (made changes : ℕ) → changes ≤ made → nat_lt made changes ≡ false
unchanged made changes low = grind (arith, nat_tests)

loops-so : (n : Network) (made mapper : ℕ) (walk : List ℤ) (tries : ℕ) (w u : WorldState) (harmed : Bool) (t : Tried Bool) → IsAskKept w u → (harmed ≡ true) ⊎ IsMissing made u (NoHost n mapper walk) → (0 < tries → IsQuietTo w u → harmed ≡ false) → AreLoopTries n made mapper walk tries u t → IsAsk n made mapper walk tries w (asked_loops made harmed t)
loops-so n made mapper walk tries w u harmed t k missed unharmed loops = by t.found refl
  where
    went : Bool
    went = is_changed made t.world

    more : IsAskKept w t.world
    more = kept-both w u t.world k loops.kept

    said : (IsNothing ≡ answer n mapper walk) ⊎ (((harmed || went) || t.harmed) ≡ true) → (IsNothing ≡ answer n mapper walk) ⊎ ((IsNothing ≡ IsNothing) × (((harmed || went) || t.harmed) ≡ true))
    said (inl e) = inl e
    said (inr e) = inr (refl, e)

    by : (b : Bool) → t.found ≡ b → IsAsk n made mapper walk tries w (record { answer = loop_answer t.found; drowned = not t.found && ((harmed || went) || t.harmed); world = t.world })
    by true e = record {
      kept = more;
      answers = inl (ap loop_answer e ∙ switch-answer n mapper walk (loops.sound e));
      heard = λ some q low. ap (λ b. not b && ((harmed || went) || t.harmed)) e;
    }
    by false e =
        let first = changed made t.world (NoHost n mapper walk) harmed (still-missing made u t.world (NoHost n mapper walk) harmed loops.kept missed) in
        let last = changed made t.world (NoSwitch n mapper walk) t.harmed (loops.missed e) in
        record {
          kept = more;
          answers = subst (λ b. (loop_answer b ≡ answer n mapper walk) ⊎ ((loop_answer b ≡ IsNothing) × ((not b && ((harmed || went) || t.harmed)) ≡ true))) (sym e) (said (drowns n mapper walk harmed went t.harmed first last));
          heard = λ some q low.
              let a : harmed ≡ false = unharmed some (quiet-first w u t.world k loops.kept q) in
              let b : t.harmed ≡ false = loops.unharmed e some (quiet-last w u t.world k loops.kept q) in
              let c : went ≡ false = unchanged made t.world.links.cables.changes low in
              rw (e, a, b, c) refl;
        }

hosts-so : (n : Network) (made mapper : ℕ) (walk : List ℤ) (tries : ℕ) (w : WorldState) (t : Tried (Option ℕ)) → Premises n mapper walk → IsAskKept w t.world → AreHostTries n made mapper walk tries w t → IsAsk n made mapper walk tries w (asked_hosts made mapper walk tries t.harmed t.world t.found)
hosts-so n made mapper walk tries w t p k hosts = by t.found refl
  where
    by : (o : Option ℕ) → t.found ≡ o → IsAsk n made mapper walk tries w (asked_hosts made mapper walk tries t.harmed t.world o)
    by (Some h) e =
        let at : place n mapper walk ≡ AtHostPlace h = subst (HostIs n mapper walk) e (hosts.sound (ap is_some e)) in
        record { kept = k; answers = inl (sym (ap answer_at at)); heard = λ some q low. refl }
    by None e =
        loops-so n made mapper walk tries w t.world t.harmed (loop_tries mapper walk tries t.world) k (hosts.missed (ap is_some e)) (hosts.unharmed (ap is_some e))
        (tries-so n made mapper (λ b. b) (λ b. AtASwitch n mapper walk) (NoSwitch n mapper walk) false (log.loop_try mapper walk) refl (λ v r. loop-try n made mapper walk v p r) tries t.world hosts.ready)

-- the start is aside
from-start : (n : Network) (made mapper : ℕ) (walk : List ℤ) (tries : ℕ) (w : WorldState) (a : Asked) → IsAsk n made mapper walk tries (all_given_up w) a → IsAsk n made mapper walk tries w a
from-start n made mapper walk tries w a is = record {
  kept = kept-both w (all_given_up w) a.world (kept-start w) is.kept;
  answers = is.answers;
  heard = λ some q low. is.heard some (quiet-last w (all_given_up w) a.world (kept-start w) is.kept q) low;
}

premises : (made : ℕ) (w : WorldState) (mapper : ℕ) (walk : List ℤ) → CanAsk made w mapper walk → Premises (fabric_at w.links.cables made) mapper walk
premises made w mapper walk can =
    let a = can.is_host in
    let b = can.world.hosts in
    let s = can.stood.history in
    record { fabric = s.fabrics made; is_host = omega (arith, a, b); turns = can.turns; few_turns = can.few_turns }

ask-so : (made : ℕ) (w : WorldState) (mapper tries : ℕ) (walk : List ℤ) → CanAsk made w mapper walk → IsAsk (fabric_at w.links.cables made) made mapper walk tries w (ask made mapper tries walk w)
unfolding log.ask
ask-so made w mapper tries walk can =
    let n : Network = fabric_at w.links.cables made in
    let start : WorldState = all_given_up w in
    let p = premises made w mapper walk can in
    let hosts : AreHostTries n made mapper walk tries start (host_tries mapper walk tries start) = tries-so n made mapper is_some (HostIs n mapper walk) (NoHost n mapper walk) None (log.host_try mapper walk) refl (λ v r. host-try n made mapper walk v p r) tries start (ready-start made w mapper walk can) in
    from-start n made mapper walk tries w (asked_hosts made mapper walk tries (host_tries mapper walk tries start).harmed (host_tries mapper walk tries start).world (host_tries mapper walk tries start).found) (hosts-so n made mapper walk tries start (host_tries mapper walk tries start) p hosts.kept hosts)

pub ask-keeps : AskKeeps
ask-keeps made w mapper tries walk can = (ask-so made w mapper tries walk can).kept

pub ask-true : AskIsTrueOrDrowns
ask-true made w mapper tries walk can = (ask-so made w mapper tries walk can).answers

-- no event of an ask pulls or plugs by itself
pub ask-unplanned : (made : ℕ) (w : WorldState) (mapper tries : ℕ) (walk : List ℤ) → Unplanned w (ask made mapper tries walk w).world
ask-unplanned made w mapper tries walk =
    row-along along-unplanned (ask-row {Q = λ e. is_change e ≡ false} (record { advance = λ c. refl; inject = λ h. refl; give_up = λ h. refl }) (λ h walk looped. refl) made mapper tries walk w)

pub ask-heard : QuietAskIsHeard
ask-heard made w mapper tries walk can some same unplanned left =
    let u = ask-unplanned made w mapper tries walk in
    let calm : (ask made mapper tries walk w).world.links.cables.changes ≡ w.links.cables.changes = ap (λ x. x.changes) (u.cables unplanned) in
    (ask-so made w mapper tries walk can).heard some (IsQuietTo.unplanned unplanned left) (omega (arith, calm, same))

pub ask-harmed : DrownedAskWasHarmed
ask-harmed made w mapper tries walk can some drowned = by (cases_lt w.harmed v.harmed) (cases_lt v.injected last_count) (cases_lt made v.links.cables.changes)
  where
    v : WorldState
    v = (ask made mapper tries walk w).world

    all : IsAsk (fabric_at w.links.cables made) made mapper walk tries w (ask made mapper tries walk w)
    all = ask-so made w mapper tries walk can

    by : (w.harmed < v.harmed) ⊎ (v.harmed ≤ w.harmed) → (v.injected < last_count) ⊎ (last_count ≤ v.injected) → (made < v.links.cables.changes) ⊎ (v.links.cables.changes ≤ made) → (w.harmed < v.harmed) ⊎ ((last_count ≤ v.injected) ⊎ (made < v.links.cables.changes))
    by (inl more) left went = inl more
    by (inr same) (inr most) went = inr (inl most)
    by (inr same) (inl left) (inl went) = inr (inr went)
    by (inr same) (inl left) (inr low) =
        let h = all.kept.harmed in
        absurd (true≢false (sym drowned ∙ all.heard some (IsQuietTo.unharmed (omega (arith, h, same)) left) low))

-- only an answer of nothing drowns
loops-nothing : (made : ℕ) (harmed : Bool) (t : Tried Bool) → (asked_loops made harmed t).drowned ≡ true → (asked_loops made harmed t).answer ≡ IsNothing
loops-nothing made harmed t = by t.found
  where
    by : (b : Bool) → (not b && ((harmed || is_changed made t.world) || t.harmed)) ≡ true → loop_answer b ≡ IsNothing
    by true e = absurd (true≢false (sym e))
    by false e = refl

hosts-nothing : (made mapper : ℕ) (walk : List ℤ) (tries : ℕ) (harmed : Bool) (w : WorldState) (o : Option ℕ) → (asked_hosts made mapper walk tries harmed w o).drowned ≡ true → (asked_hosts made mapper walk tries harmed w o).answer ≡ IsNothing
hosts-nothing made mapper walk tries harmed w (Some h) e = absurd (true≢false (sym e))
hosts-nothing made mapper walk tries harmed w None e = loops-nothing made harmed (loop_tries mapper walk tries w) e

pub ask-nothing : DrownedAskFoundNothing
unfolding log.ask
ask-nothing made w mapper tries walk e =
    let hosts : Tried (Option ℕ) = host_tries mapper walk tries (all_given_up w) in hosts-nothing made mapper walk tries hosts.harmed hosts.world hosts.found e

-- no event of an ask plugs
asks-no_plug : (e : Event) → IsOfAsk e → is_plug e ≡ false
asks-no_plug (Ask h walk looped) q = refl
asks-no_plug (Inject h) q = refl
asks-no_plug (Advance c) q = refl
asks-no_plug (GiveUp h) q = refl
asks-no_plug _ q = absurd q

pub ask-again : CanAskAgain
ask-again made w mapper tries walk next can other =
    let v : WorldState = (ask made mapper tries walk w).world in
    let k : IsAskKept w v = ask-keeps made w mapper tries walk can in
    let hosts = k.hosts in
    let is_host = other.is_host in
    record {
      stood = stood-pulled made k.pulled other.stood;
      world = (row-kept asks-no_plug (ask-events w made mapper tries walk)).world other.world;
      idle = ask-idle w made mapper tries walk other.world other.idle;
      is_host = omega (arith, hosts, is_host);
      turns = other.turns;
      few_turns = other.few_turns;
      byte_flips = k.byte_flips other.byte_flips;
    }
