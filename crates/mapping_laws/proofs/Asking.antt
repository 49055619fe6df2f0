-- Asks can be made until their journal has grown: what an ask finds is there, so such a journal exists.
use Rattle.std.proofs.Common.{◌≡◌, ◌≢◌, ◌≤◌, ℕ, Bool, true, false, ◌&&◌, nat_le, List, [], ◌∷◌, ◌++◌, map, length, ◌⊎◌, inl, inr, refl, sym, ap, ◌∙◌, subst, arith, if◌then◌else◌}
use Rattle.std.specs.Prelude.{ℤ}
use Rattle.std.specs.List.{AllByRecursion, list_all}
use Rattle.std.proofs.lemmas.Bool.{and_parts}
use Rattle.std.proofs.lemmas.Bool.Decides.{nat_tests}
use Rattle.net_defs.specs.declared.place.Answer.{Answer}
use Rattle.net_defs.specs.declared.place.Answer.TheVariants.{Nothing}
use Rattle.net_defs.specs.Route.{answer}
use Rattle.net_defs.specs.Turn.{is_turn, IsTurn}
use Rattle.journal_defs.specs.declared.entry.Entry.{Entry}
use Rattle.map_laws.specs.Laws.{IsTold, TellsTruth}
use Rattle.map_laws.proofs.Existence.{told_journal_exists}
use Rattle.world_defs.specs.History.{fabric_at}
use Rattle.world_defs.proofs.CablesLater.{pulled-later, later-past}
use Rattle.world_defs.proofs.Now.{last_is_now, now_is_fabric}
use Rattle.world_defs.specs.World.{WorldState, fabric_of}
use Rattle.world_defs.specs.Log.{Log}
use Rattle.world_defs.specs.Logs as log
use Rattle.ask_laws.proofs.Answering.{ask-true}
use Rattle.mapping_laws.specs.Laws.{CanMap}
use Rattle.mapping_laws.specs.Asked.{AskedJournalExists}
use Rattle.mapping_laws.proofs.Asks.{IsCarried, AreAsked, ask-by, asks-so}
use Rattle.mapping_laws.proofs.Made.{carried, start}

-- whether a probe can carry a walk
abbrev fits : List ℤ → Bool
fits x = nat_le (length x) 64 && list_all is_turn x

turns-all : (x : List ℤ) → list_all is_turn x ≡ true → AllByRecursion IsTurn x
turns-all [] e = tt
turns-all (t ∷ x) e = let parts = and_parts (is_turn t) (list_all is_turn x) e in (parts.0, turns-all x parts.1)

all-turns : (x : List ℤ) → AllByRecursion IsTurn x → list_all is_turn x ≡ true
all-turns [] all = refl
all-turns (t ∷ x) all = ap (λ b. b && list_all is_turn x) all.0 ∙ all-turns x all.1

few-so : (k : ℕ) → nat_le k 64 ≡ true → k ≤ 64
few-so k e = grind (arith, nat_tests)

so-few : (k : ℕ) → k ≤ 64 → nat_le k 64 ≡ true
so-few k e = grind (arith, nat_tests)

fits-carried : (x : List ℤ) → fits x ≡ true → IsCarried x
fits-carried x e =
    let parts = and_parts (nat_le (length x) 64) (list_all is_turn x) e in
    record { turns = turns-all x parts.1; few = few-so (length x) parts.0 }

carried-fits : (x : List ℤ) → IsCarried x → fits x ≡ true
carried-fits x is = ap (λ b. b && list_all is_turn x) (so-few (length x) is.few) ∙ all-turns x is.turns

all-carried : (ws : List (List ℤ)) → list_all fits ws ≡ true → AllByRecursion IsCarried ws
all-carried [] e = tt
all-carried (x ∷ ws) e = let parts = and_parts (fits x) (list_all fits ws) e in (fits-carried x parts.0, all-carried ws parts.1)

-- the walks of a journal
abbrev walks_of : List Entry → List (List ℤ)
walks_of j = map (λ (e : Entry). e.walk) j

-- what is answered to a walk after a journal: the answer of an ask in the world after the asks of that journal
abbrev tell : ℕ → ℕ → ℕ → WorldState → List Entry → List ℤ → Answer
tell made host tries w j x = if list_all fits (walks_of j) && fits x then (log.ask made host tries x (log.asks made host tries (walks_of j) w).world).value.answer else Nothing

tells-truth : (host depth tries : ℕ) (w : WorldState) → CanMap host depth w → TellsTruth (fabric_of w) host (tell w.links.cables.changes host tries w)
tells-truth host depth tries w can j x = by (list_all fits (walks_of j) && fits x) refl
  where
    made : ℕ
    made = w.links.cables.changes

    v : WorldState
    v = (log.asks made host tries (walks_of j) w).world

    a : Answer
    a = (log.ask made host tries x v).value.answer

    there : AreAsked made host tries w (walks_of j) (log.asks made host tries (walks_of j) w) → IsCarried x → a ≢ Nothing → a ≡ answer (fabric_of w) host x
    there so is some = of (ask-true made v host tries x (ask-by made v host x so.can is))
      where
        past : fabric_at v.links.cables made ≡ fabric_of w
        past = later-past made (omega arith) (pulled-later so.kept.pulled) ∙ last_is_now w.links.cables made can.history (omega arith)

        of : (a ≡ answer (fabric_at v.links.cables made) host x) ⊎ ((a ≡ Nothing) × ((log.ask made host tries x v).value.drowned ≡ true)) → a ≡ answer (fabric_of w) host x
        of (inl e) = e ∙ ap (λ n. answer n host x) past
        of (inr p) = absurd (some p.0)

    by : (b : Bool) → list_all fits (walks_of j) && fits x ≡ b → (if b then a else Nothing) ≢ Nothing → (if b then a else Nothing) ≡ answer (fabric_of w) host x
    by true p some =
        let parts = and_parts (list_all fits (walks_of j)) (fits x) p in
        there (asks-so made host tries (walks_of j) w (start host depth w can) (all-carried (walks_of j) parts.0)) (fits-carried x parts.1) some
    by false p some = absurd (some refl)

-- the walks up to an entry are carried
all-fit : (xs : List Entry) (e : Entry) (ys : List Entry) → AllByRecursion IsCarried (walks_of (xs ++ e ∷ ys)) → list_all fits (walks_of xs) && fits e.walk ≡ true
all-fit [] e ys all = carried-fits e.walk all.0
all-fit (x ∷ xs) e ys all = ap (λ b. (b && list_all fits (walks_of xs)) && fits e.walk) (carried-fits x.walk all.0) ∙ all-fit xs e ys all.1

-- one ask more
asked-last : (made host tries : ℕ) (xs : List Entry) (e : Entry) (w : WorldState) → (log.asks made host tries (walks_of (xs ++ e ∷ [])) w).world ≡ (log.ask made host tries e.walk (log.asks made host tries (walks_of xs) w).world).world
asked-last made host tries [] e w = refl
asked-last made host tries (x ∷ xs) e w = asked-last made host tries xs e (log.ask made host tries x.walk w).world

append-assoc : (xs : List Entry) (e : Entry) (ys : List Entry) → (xs ++ e ∷ []) ++ ys ≡ xs ++ e ∷ ys
append-assoc [] e ys = refl
append-assoc (x ∷ xs) e ys = ap (λ l. x ∷ l) (append-assoc xs e ys)

-- asks of a journal that is answered so have its entries
entries-are : (made host tries : ℕ) (w : WorldState) (before rest : List Entry)
    → ((xs : List Entry) (e : Entry) (ys : List Entry) → before ++ rest ≡ xs ++ e ∷ ys → e.answer ≡ (log.ask made host tries e.walk (log.asks made host tries (walks_of xs) w).world).value.answer)
    → (log.asks made host tries (walks_of rest) (log.asks made host tries (walks_of before) w).world).value.entries ≡ rest
entries-are made host tries w before [] told = refl
entries-are made host tries w before (e ∷ rest) told =
    let v : WorldState = (log.asks made host tries (walks_of before) w).world in
    let l : Log log.Asked = log.ask made host tries e.walk v in
    let here : e.answer ≡ l.value.answer = told before e rest refl in
    let next : (log.asks made host tries (walks_of (before ++ e ∷ [])) w).world ≡ l.world = asked-last made host tries before e w in
    let later = entries-are made host tries w (before ++ e ∷ []) rest (λ xs d ys p. told xs d ys (sym (append-assoc before e rest) ∙ p)) in
    let behind : (log.asks made host tries (walks_of rest) l.world).value.entries ≡ rest = subst (λ u. (log.asks made host tries (walks_of rest) u).value.entries ≡ rest) next later in
    let one : (let d : Entry = record { walk = e.walk; answer = l.value.answer } in d) ≡ e = ap (λ x. (let d : Entry = record { walk = e.walk; answer = x } in d)) (sym here) in
    ap (λ d. d ∷ (log.asks made host tries (walks_of rest) l.world).value.entries) one ∙ ap (λ es. e ∷ es) behind

pub asked_journal_exists : AskedJournalExists
asked_journal_exists host depth tries w can =
    let made : ℕ = w.links.cables.changes in
    let h = told_journal_exists (fabric_of w) host depth (tell made host tries w) (now_is_fabric w.links.cables can.history) (tells-truth host depth tries w can) in
    let j : List Entry = h.0 in
    let all : AllByRecursion IsCarried (walks_of j) = carried host depth j can.shallow h.3.growing in
    let came : Log log.AskedAll = log.asks made host tries (walks_of j) w in
    let same : came.value.entries ≡ j = entries-are made host tries w [] j (λ xs e ys p. answered made j xs e ys h.1 p (subst (λ l. AllByRecursion IsCarried (walks_of l)) p all)) in
    record {
      journal = j;
      drowned = came.value.drowned;
      after = came.world;
      asked = ap (λ es. (let r : log.AskedAll = record { entries = es; drowned = came.value.drowned } in r)) same;
      led = refl;
      grown = h.3;
      found = h.2;
    }
  where
    answered : (made : ℕ) (j xs : List Entry) (e : Entry) (ys : List Entry) → IsTold (tell made host tries w) j → j ≡ xs ++ e ∷ ys → AllByRecursion IsCarried (walks_of (xs ++ e ∷ ys)) → e.answer ≡ (log.ask made host tries e.walk (log.asks made host tries (walks_of xs) w).world).value.answer
    answered made j xs e ys told p all =
        told.told xs e ys p ∙ ap (λ b. if b then (log.ask made host tries e.walk (log.asks made host tries (walks_of xs) w).world).value.answer else Nothing) (all-fit xs e ys all)
