-- What asks in a row come to, by the walks.
use Rattle.std.proofs.Common.{◌≡◌, ◌≢◌, ◌<◌, ◌≤◌, ◌+◌, ◌*◌, ℕ, Bool, true, false, List, [], ◌∷◌, length, nat_eq, ◌⊎◌, inl, inr, None, refl, ap, subst, arith, if◌then◌else◌, sym, ◌∙◌}
use Rattle.std.specs.Prelude.{ℤ}
use Rattle.std.specs.List.{AllByRecursion}
use Rattle.std.specs.Map.{lookup}
use Rattle.net_defs.specs.declared.place.Answer.{Answer}
use Rattle.net_defs.specs.declared.place.Answer.TheVariants.{Nothing}
use Rattle.net_defs.specs.Network.{Network}
use Rattle.net_defs.specs.Route.{answer}
use Rattle.net_defs.specs.Turn.{IsTurn}
use Rattle.journal_defs.specs.Truth.{IsTrueJournal, IsTrueWhereFound}
use Rattle.world_defs.specs.History.{fabric_at}
use Rattle.world_defs.proofs.CablesLater.{pulled-later, later-kept, later-past}
use Rattle.world_defs.specs.World.{WorldState, last_count}
use Rattle.ask_laws.specs.Premises.{CanAsk}
use Rattle.ask_laws.specs.Kept.{IsAskKept}
use Rattle.ask_laws.proofs.Answering.{ask-keeps, ask-again, ask-true, ask-unplanned, ask-heard, ask-harmed}
use Rattle.ask_laws.proofs.Few.{ask-few}
use Rattle.ask_laws.proofs.Ready.{kept-same, kept-both}
use Rattle.world_defs.specs.Log.{Log}
use Rattle.world_defs.specs.Logs as log
use Rattle.world_defs.proofs.LogViews.{Asked, asked_to, ask}

-- a test as a count of one or none
abbrev one_if : Bool → ℕ
one_if b = if b then 1 else 0

-- a walk that a probe can carry
pub record IsCarried (walk : List ℤ) : Type 0 where
  pub turns : AllByRecursion IsTurn walk
  pub few : length walk ≤ 64

-- a host that can ask by the empty walk can ask by each of these
pub ask-by : (made : ℕ) (w : WorldState) (host : ℕ) (walk : List ℤ) → CanAsk made w host [] → IsCarried walk → CanAsk made w host walk
ask-by made w host walk can is = record {
  stood = can.stood;
  world = can.world;
  idle = can.idle;
  is_host = can.is_host;
  turns = is.turns;
  few_turns = is.few;
  byte_flips = can.byte_flips;
}

-- no fault is planned from one world to another, and injections are left there
pub record IsQuietFor (w v : WorldState) : Type 0 where
  pub unplanned : (number : ℕ) → w.injected < number → number ≤ v.injected → lookup (nat_eq number) w.plan ≡ None
  pub left : v.injected < last_count

-- what asks in a row came to
pub record AreAsked (made host tries : ℕ) (w : WorldState) (walks : List (List ℤ)) (l : Log log.AskedAll) : Type 0 where
  pub kept : IsAskKept w l.world
  pub can : CanAsk made l.world host []
  pub found : IsTrueWhereFound (fabric_at w.links.cables made) host l.value.entries
  pub truth : l.value.drowned ≡ 0 → IsTrueJournal (fabric_at w.links.cables made) host l.value.entries
  pub heard : 0 < tries → w.links.cables.changes ≡ made → IsQuietFor w l.world → l.value.drowned ≡ 0
  pub harmed : 0 < tries → l.world.injected < last_count → 0 < l.value.drowned → (w.harmed < l.world.harmed) ⊎ (made < l.world.links.cables.changes)
  pub few : tries ≤ 8 → l.world.injected ≤ w.injected + 24 * length walks

answer-there : (n : Network) (host : ℕ) (walk : List ℤ) (x : Answer) (drowned : Bool) → (x ≡ answer n host walk) ⊎ ((x ≡ Nothing) × (drowned ≡ true)) → x ≢ Nothing → x ≡ answer n host walk
answer-there n host walk x drowned (inl e) some = e
answer-there n host walk x drowned (inr p) some = absurd (some p.0)

answer-true : (n : Network) (host : ℕ) (walk : List ℤ) (x : Answer) (drowned : Bool) (k : ℕ) → (x ≡ answer n host walk) ⊎ ((x ≡ Nothing) × (drowned ≡ true)) → one_if drowned + k ≡ 0 → x ≡ answer n host walk
answer-true n host walk x drowned k (inl e) none = e
answer-true n host walk x drowned k (inr p) none = let one : one_if drowned ≡ 1 = ap one_if p.1 in absurd (omega (arith, none, one))

rest-none : (drowned : Bool) (k : ℕ) → one_if drowned + k ≡ 0 → k ≡ 0
rest-none drowned k none = omega (arith, none)

none-both : (drowned : Bool) (k : ℕ) → drowned ≡ false → k ≡ 0 → one_if drowned + k ≡ 0
none-both drowned k a b = let one : one_if drowned ≡ 0 = ap one_if a in omega (arith, one, b)

-- an ask, and those after it
ask-push : (made host tries : ℕ) (walk : List ℤ) (walks : List (List ℤ)) (w : WorldState) → CanAsk made w host [] → IsCarried walk → ((u : WorldState) → CanAsk made u host [] → AreAsked made host tries u walks (log.asks made host tries walks u)) → AreAsked made host tries w (walk ∷ walks) (log.asks made host tries (walk ∷ walks) w)
ask-push made host tries walk walks w can is others = record {
  kept = kept-both w a.world rest.world kept r.kept;
  can = r.can;
  found = (answer-there n host walk a.answer a.drowned answers, subst (λ k. IsTrueWhereFound k host rest.value.entries) past r.found);
  truth = λ none. (answer-true n host walk a.answer a.drowned rest.value.drowned answers none, subst (λ k. IsTrueJournal k host rest.value.entries) past (r.truth (rest-none a.drowned rest.value.drowned none)));
  heard = λ some same quiet. none-both a.drowned rest.value.drowned (first some same quiet) (r.heard some (ap (λ h. h.changes) (calm quiet) ∙ same) (later quiet));
  harmed = λ some left more. by some left a.drowned refl more;
  few = λ low. (let one = ask-few w made host tries walk in let more = r.few low in let same = ap (λ x. x.world.injected) is_log in omega (arith, one, more, low, same));
}
  where
    n : Network
    n = fabric_at w.links.cables made

    a : Asked
    a = asked_to (log.ask made host tries walk w)

    is_log : ask made host tries walk w ≡ a
    is_log = refl

    rest : Log log.AskedAll
    rest = log.asks made host tries walks a.world

    here : CanAsk made w host walk
    here = ask-by made w host walk can is

    kept : IsAskKept w a.world
    kept = subst (λ x. IsAskKept w x.world) is_log (ask-keeps made w host tries walk here)

    -- the fabric as it stood when the mapper was made
    past : fabric_at a.world.links.cables made ≡ n
    past = later-past made can.stood.made (pulled-later kept.pulled)

    r : AreAsked made host tries a.world walks rest
    r = others a.world (subst (λ x. CanAsk made x.world host []) is_log (ask-again made w host tries walk [] here can))

    answers : (a.answer ≡ answer n host walk) ⊎ ((a.answer ≡ Nothing) × (a.drowned ≡ true))
    answers = subst (λ x. (x.answer ≡ answer n host walk) ⊎ ((x.answer ≡ Nothing) × (x.drowned ≡ true))) is_log (ask-true made w host tries walk here)

    first : 0 < tries → w.links.cables.changes ≡ made → IsQuietFor w rest.world → a.drowned ≡ false
    first some unchanged quiet =
        let up = r.kept.injected in
        let left = quiet.left in
        let same = ap (λ x. x.world.injected) is_log in
        ap (λ x. x.drowned) (sym is_log) ∙ ask-heard made w host tries walk here some unchanged (λ number low high. quiet.unplanned number low (omega (arith, high, up, same))) (omega (arith, up, left, same))

    -- no cable goes where no fault is planned
    calm : IsQuietFor w rest.world → a.world.links.cables ≡ w.links.cables
    calm quiet = let up = r.kept.injected in (ask-unplanned made w host tries walk).cables (λ number low high. quiet.unplanned number low (omega (arith, high, up)))

    by : 0 < tries → rest.world.injected < last_count → (drowned : Bool) → a.drowned ≡ drowned → 0 < one_if drowned + rest.value.drowned → (w.harmed < rest.world.harmed) ⊎ (made < rest.world.links.cables.changes)
    by some left true e more =
        struck (subst (λ x. (w.harmed < x.world.harmed) ⊎ ((last_count ≤ x.world.injected) ⊎ (made < x.world.links.cables.changes))) is_log (ask-harmed made w host tries walk here some (ap (λ x. x.drowned) is_log ∙ e)))
      where
        struck : (w.harmed < a.world.harmed) ⊎ ((last_count ≤ a.world.injected) ⊎ (made < a.world.links.cables.changes)) → (w.harmed < rest.world.harmed) ⊎ (made < rest.world.links.cables.changes)
        struck (inl low) = let up = r.kept.harmed in inl (omega (arith, low, up))
        struck (inr (inl spent)) = let up = r.kept.injected in absurd (omega (arith, left, spent, up))
        struck (inr (inr went)) = let up = (later-kept (pulled-later r.kept.pulled)).changes in inr (omega (arith, went, up))
    by some left false e more =
        let none : one_if false ≡ 0 = refl in
        after (r.harmed some left (omega (arith, none, more)))
      where
        after : (a.world.harmed < rest.world.harmed) ⊎ (made < rest.world.links.cables.changes) → (w.harmed < rest.world.harmed) ⊎ (made < rest.world.links.cables.changes)
        after (inl more_harmed) = let up = kept.harmed in inl (omega (arith, up, more_harmed))
        after (inr went) = inr went

    later : IsQuietFor w rest.world → IsQuietFor a.world rest.world
    later quiet = let up = kept.injected in record { unplanned = λ number low high. kept.unplanned number (quiet.unplanned number (omega (arith, low, up)) high); left = quiet.left }

pub asks-so : (made host tries : ℕ) (walks : List (List ℤ)) (w : WorldState) → CanAsk made w host [] → AllByRecursion IsCarried walks → AreAsked made host tries w walks (log.asks made host tries walks w)
asks-so made host tries [] w can all = record {
  kept = kept-same w;
  can = can;
  found = tt;
  truth = λ none. tt;
  heard = λ some same quiet. refl;
  harmed = λ some left more. absurd (omega (arith, more));
  few = λ low. omega arith;
}
asks-so made host tries (walk ∷ walks) w can all = ask-push made host tries walk walks w can all.0 (λ u c. asks-so made host tries walks u c all.1)
