-- A map that was begun and stopped is part of the way along the asks of the journal that grows there: its own journal is the beginning of that one.
use Rattle.std.proofs.Common.{◌≡◌, ◌⊎◌, ◌≤◌, ℕ, inl, inr, List, [], ◌∷◌, ◌++◌, map, length, refl, sym, ◌∙◌, ap, subst, arith, append_assoc, append-nil}
use Rattle.std.specs.Prelude.{ℤ}
use Rattle.std.proofs.lemmas.List.{map-append}
use Rattle.journal_defs.specs.declared.entry.Entry.{Entry}
use Rattle.journal_defs.specs.Tree.{nodes, reached}
use Rattle.journal_defs.specs.Growth.{IsGrowing, IsGrown, IsEndedByDepth, IsEndedAtLimit, NextAsk, node_limit}
use Rattle.journal_defs.specs.Growth.IsGrowing.{nothing, more}
use Rattle.journal_defs.proofs.Asking.{next_ask_is_unique, no_ask_at_the_end}
use Rattle.map_laws.proofs.Asks.{ByLast, by_last, push-parts}
use Rattle.map_laws.proofs.Asks.ByLast.{empty, pushed}
use Rattle.map_laws.proofs.OneJournal.{reached-more}
use Rattle.world_defs.specs.declared.event.Event.{Event}
use Rattle.world_defs.specs.EightBits.{IsByteEvent}
use Rattle.world_defs.specs.World.{WorldState}
use Rattle.world_defs.specs.Sound.{IsPrefix}
use Rattle.world_defs.specs.Log.{Log}
use Rattle.world_defs.specs.Logs as log
use Rattle.world_defs.specs.Row.{IsPartWay}
use Rattle.world_defs.proofs.LogRows.{asks-row, byte_asks}
use Rattle.log_laws.proofs.PartWay.{way-start, way-front, way-behind, way-as}
use Rattle.promise_laws.specs.CutShort.{IsBegunMap}
use Rattle.promise_laws.specs.CutShort.IsBegunMap.{stopped_between, stopped_within}

-- the walks of a journal
abbrev walks_of : List Entry → List (List ℤ)
walks_of j = map (λ (e : Entry). e.walk) j

-- a journal keeps the limit of nodes, or passes it with its last entry
abbrev IsKept : List Entry → Type 0
IsKept j = (length (nodes j) ≤ node_limit) ⊎ IsEndedAtLimit j

-- then it keeps the limit before each of its entries
kept-before : (before : List Entry) (e : Entry) (rest : List Entry) → IsKept (before ++ e ∷ rest) → length (nodes before) ≤ node_limit
kept-before before e rest (inl few) = let longer = reached-more before (e ∷ rest) in omega (arith, few, longer)
kept-before before e rest (inr q) = by (by_last (e ∷ rest))
  where
    by : ByLast (e ∷ rest) → length (nodes before) ≤ node_limit
    by (empty none) = cc
    by (pushed r x s) =
        let split : q.before ++ q.last ∷ [] ≡ (before ++ r) ++ x ∷ [] = sym q.whole ∙ ap (λ l. before ++ l) s ∙ sym (append_assoc before r (x ∷ [])) in
        let same : length (reached q.before) ≡ length (reached (before ++ r)) = ap (λ l. length (reached l)) (push-parts q.before (before ++ r) q.last x split).0 in
        let kept = q.kept in
        let longer = reached-more before r in
        omega (arith, same, kept, longer)

-- each entry of a growing journal was the next ask after those before it
ask-at : (host depth : ℕ) (l j : List Entry) (e : Entry) (rest : List Entry) → IsGrowing host depth l → l ≡ j ++ e ∷ rest → NextAsk host depth j e.walk
ask-at host depth l j e rest (nothing) is = absurd (none j (sym is))
  where
    none : (i : List Entry) → i ++ e ∷ rest ≡ [] → ⊥
    none [] p = cc
    none (x ∷ i) p = cc
ask-at host depth l j e rest (more before f g next whole) is = by (by_last rest) (λ r. ask-at host depth before j e r g)
  where
    by : ByLast rest → ((r : List Entry) → before ≡ j ++ e ∷ r → NextAsk host depth j e.walk) → NextAsk host depth j e.walk
    by (empty p) again =
        let parts = push-parts before j f e (sym whole ∙ is ∙ ap (λ r. j ++ e ∷ r) p) in
        subst (λ (x : Entry). NextAsk host depth j x.walk) parts.1 (subst (λ i. NextAsk host depth i f.walk) parts.0 next)
    by (pushed r x p) again =
        let split : before ++ f ∷ [] ≡ (j ++ e ∷ r) ++ x ∷ [] = sym whole ∙ is ∙ ap (λ q. j ++ e ∷ q) p ∙ sym (append_assoc j (e ∷ r) (x ∷ [])) in
        again r (push-parts before (j ++ e ∷ r) f x split).0

-- the first entry of these is of a walk
data StartsWith (x : List ℤ) (rest : List Entry) : Type 0 where
  starts : (e : Entry) (tail : List Entry) → rest ≡ e ∷ tail → e.walk ≡ x → StartsWith x rest

-- a journal that has grown goes on with the next ask from each beginning that keeps the limit of nodes
grown-next : (host depth : ℕ) (i rest : List Entry) (x : List ℤ) → IsGrown host depth (i ++ rest) → length (nodes i) ≤ node_limit → NextAsk host depth i x → StartsWith x rest
grown-next host depth i [] x g kept ask = absurd (by (subst (λ j. IsEndedByDepth host depth j ⊎ IsEndedAtLimit j) (append-nil i) g.ended))
  where
    by : IsEndedByDepth host depth i ⊎ IsEndedAtLimit i → ⊥
    by (inl p) = no_ask_at_the_end host depth i x ask p
    by (inr q) = let passed = q.passed in omega (arith, kept, passed)
grown-next host depth i (e ∷ tail) x g kept ask =
    starts e tail refl (next_ask_is_unique host depth i e.walk x (ask-at host depth (i ++ e ∷ tail) i e tail g.growing refl) ask)

same-entry : (d e : Entry) (xs ys : List Entry) → d ∷ xs ≡ e ∷ ys → d ≡ e
same-entry d e xs ys same = cc

same-rest : (d e : Entry) (xs ys : List Entry) → d ∷ xs ≡ e ∷ ys → xs ≡ ys
same-rest d e xs ys same = cc

-- the entry that an ask in a world makes
abbrev entry_of : ℕ → ℕ → ℕ → WorldState → List ℤ → Entry
entry_of made host tries u x = record { walk = x; answer = (log.ask made host tries x u).value.answer }

-- asks in a row from a world answer their own journal
abbrev Answers : ℕ → ℕ → ℕ → WorldState → List Entry → Type 0
Answers made host tries u j = (log.asks made host tries (walks_of j) u).value.entries ≡ j

answers-first : (made host tries : ℕ) (u : WorldState) (e : Entry) (j : List Entry) → Answers made host tries u (e ∷ j) → entry_of made host tries u e.walk ≡ e
answers-first made host tries u e j is = same-entry (entry_of made host tries u e.walk) e (log.asks made host tries (walks_of j) (log.ask made host tries e.walk u).world).value.entries j is

answers-rest : (made host tries : ℕ) (u : WorldState) (e : Entry) (j : List Entry) → Answers made host tries u (e ∷ j) → Answers made host tries (log.ask made host tries e.walk u).world j
answers-rest made host tries u e j is = same-rest (entry_of made host tries u e.walk) e (log.asks made host tries (walks_of j) (log.ask made host tries e.walk u).world).value.entries j is

-- of asks in a row from a world, which grow after a journal, those that have grown begin with the others
asked-front : (made host depth tries : ℕ) (before i j : List Entry) (u : WorldState) → Answers made host tries u i → Answers made host tries u j → IsGrowing host depth (before ++ i) → IsKept (before ++ i) → IsGrown host depth (before ++ j) → IsPrefix i j
asked-front made host depth tries before [] j u a b g k h = record { rest = j; both = refl }
asked-front made host depth tries before (e ∷ i) j u a b g k h =
    of (grown-next host depth before j e.walk h (kept-before before e i k) (ask-at host depth (before ++ e ∷ i) before e i g refl))
    (λ tail b2 h2. asked-front made host depth tries (before ++ e ∷ []) i tail v (answers-rest made host tries u e i a) b2 (subst (IsGrowing host depth) one g) (subst IsKept one k) h2)
  where
    v : WorldState
    v = (log.ask made host tries e.walk u).world

    one : before ++ e ∷ i ≡ (before ++ e ∷ []) ++ i
    one = sym (append_assoc before (e ∷ []) i)

    of : StartsWith e.walk j → ((tail : List Entry) → Answers made host tries v tail → IsGrown host depth ((before ++ e ∷ []) ++ tail) → IsPrefix i tail) → IsPrefix (e ∷ i) j
    of (starts f tail is walk) again =
        let b1 : Answers made host tries u (f ∷ tail) = subst (Answers made host tries u) is b in
        let same : f ≡ e = sym (answers-first made host tries u f tail b1) ∙ ap (entry_of made host tries u) walk ∙ answers-first made host tries u e i a in
        let there : j ≡ e ∷ tail = is ∙ ap (λ x. x ∷ tail) same in
        let h2 : IsGrown host depth ((before ++ e ∷ []) ++ tail) = subst (IsGrown host depth) (ap (λ l. before ++ l) there ∙ sym (append_assoc before (e ∷ []) tail)) h in
        let p = again tail (subst (λ x. Answers made host tries (log.ask made host tries x u).world tail) walk (answers-rest made host tries u f tail b1)) h2 in
        record { rest = p.rest; both = there ∙ ap (λ l. e ∷ l) p.both }

-- the events of asks in a row, and of those after them
asks-append : (made host tries : ℕ) (xs ys : List (List ℤ)) (w : WorldState) → (log.asks made host tries (xs ++ ys) w).events ≡ (log.asks made host tries xs w).events ++ (log.asks made host tries ys (log.asks made host tries xs w).world).events
asks-append made host tries [] ys w = refl
asks-append made host tries (x ∷ xs) ys w =
    let one : Log log.Asked = log.ask made host tries x w in
    let more : Log log.AskedAll = log.asks made host tries xs one.world in
    ap (λ l. one.events ++ l) (asks-append made host tries xs ys one.world) ∙ sym (append_assoc one.events more.events (log.asks made host tries ys more.world).events)

-- part of the way along asks after others
way-asks : (made host tries : ℕ) (w u v : WorldState) (i rest : List Entry) → u ≡ (log.asks made host tries (walks_of i) w).world → IsPartWay u (log.asks made host tries (walks_of rest) u).events v
    → IsPartWay w (log.asks made host tries (walks_of (i ++ rest)) w).events v
way-asks made host tries w u v i rest is p =
    let first : List Event = (log.asks made host tries (walks_of i) w).events in
    let mid : WorldState = (log.asks made host tries (walks_of i) w).world in
    let behind : List Event = (log.asks made host tries (walks_of rest) mid).events in
    way-as w v (log.asks made host tries (walks_of (i ++ rest)) w).events (first ++ behind)
    (ap (λ l. (log.asks made host tries l w).events) (map-append (λ (e : Entry). e.walk) i rest) ∙ asks-append made host tries (walks_of i) (walks_of rest) w)
    (way-behind w mid v first behind (asks-row {Q = IsByteEvent} byte_asks (λ h walk looped. tt) made host tries (walks_of i) w).there
    (subst (λ x. IsPartWay x (log.asks made host tries (walks_of rest) x).events v) is p))

-- within the next ask after them
way-within : (made host tries : ℕ) (w u v : WorldState) (i rest : List Entry) (x : List ℤ) → u ≡ (log.asks made host tries (walks_of i) w).world → IsPartWay u (log.ask made host tries x u).events v → StartsWith x rest
    → IsPartWay w (log.asks made host tries (walks_of (i ++ rest)) w).events v
way-within made host tries w u v i rest x is way (starts e tail same walk) =
    let first : IsPartWay u (log.ask made host tries e.walk u).events v = subst (λ y. IsPartWay u (log.ask made host tries y u).events v) (sym walk) way in
    let here : IsPartWay u (log.asks made host tries (walks_of (e ∷ tail)) u).events v =
    way-front u v (log.ask made host tries e.walk u).events (log.asks made host tries (walks_of tail) (log.ask made host tries e.walk u).world).events first in
    way-asks made host tries w u v i rest is (subst (λ r. IsPartWay u (log.asks made host tries (walks_of r) u).events v) (sym same) here)

pub begun-way : (host depth tries : ℕ) (w v : WorldState) (j : List Entry) → IsGrown host depth j → Answers w.links.cables.changes host tries w j
    → IsBegunMap host depth tries w v → IsPartWay w (log.asks w.links.cables.changes host tries (walks_of j) w).events v
begun-way host depth tries w v j grown asked (stopped_between i g kept is led) =
    let p : IsPrefix i j = asked-front w.links.cables.changes host depth tries [] i j w is asked g kept grown in
    subst (λ l. IsPartWay w (log.asks w.links.cables.changes host tries (walks_of l) w).events v) (sym p.both)
    (way-asks w.links.cables.changes host tries w v v i p.rest led (way-start v (log.asks w.links.cables.changes host tries (walks_of p.rest) v).events))
begun-way host depth tries w v j grown asked (stopped_within i x u g kept is led ask way) =
    let p : IsPrefix i j = asked-front w.links.cables.changes host depth tries [] i j w is asked g (inl kept) grown in
    subst (λ l. IsPartWay w (log.asks w.links.cables.changes host tries (walks_of l) w).events v) (sym p.both)
    (way-within w.links.cables.changes host tries w u v i p.rest x led way (grown-next host depth i p.rest x (subst (IsGrown host depth) p.both grown) kept ask))
