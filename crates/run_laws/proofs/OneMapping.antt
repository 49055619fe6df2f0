-- A mapping is one, as each answer follows from the asks before it. So every mapping of the two hosts is the known one.
use Rattle.std.proofs.Common.{◌≡◌, ◌≤◌, ◌⊎◌, inl, inr, ℕ, List, [], ◌∷◌, ◌++◌, map, refl, sym, ap, ◌∙◌, subst, arith}
use Rattle.std.specs.Prelude.{ℤ}
use Rattle.net_defs.specs.declared.place.Answer.{Answer}
use Rattle.net_defs.specs.Examples.{two_hosts}
use Rattle.journal_defs.specs.declared.entry.Entry.{Entry}
use Rattle.journal_defs.specs.Growth.{IsGrown, IsEndedAtLimit}
use Rattle.journal_defs.specs.Examples.{two_hosts_journal, answer_to_turn}
use Rattle.journal_defs.proofs.OneSwitch.{one-switch-grows, one-switch-rests}
use Rattle.journal_defs.proofs.Grown.{two_hosts_closed}
use Rattle.map_defs.specs.NetMap.{NetMap}
use Rattle.map_defs.specs.Core.{core_of}
use Rattle.map_defs.specs.Quotient.{IsQuotient}
use Rattle.map_laws.specs.Laws.{IsTold}
use Rattle.map_laws.proofs.OneJournal.{told_journal_is_one}
use Rattle.map_laws.proofs.OneMap.{quotient_is_one}
use Rattle.world_defs.specs.World.{WorldState, new_world}
use Rattle.world_defs.specs.Logs as log
use Rattle.run_defs.specs.declared.line.MapWords.{MapWords}
use Rattle.run_defs.specs.declared.line.MapWords.TheVariants.{Complete}
use Rattle.run_defs.specs.Mapped.{IsMapped, IsMarkedMap, IsCalled}
use Rattle.run_defs.specs.Mapped.IsCalled.{too_many_nodes, too_shallow, doubted, right}
use Rattle.run_defs.specs.Examples.{mapped_world, setup_map}
use Rattle.run_defs.proofs.Mapping.{two_hosts_mapped}
use Rattle.mapping_laws.proofs.Made.{at-limit}
use Rattle.run_laws.specs.Laws.{MappingIsOne}
use Rattle.run_laws.specs.TwoHosts.{MappingIsComplete}

-- the walks of a journal
abbrev walks_of : List Entry → List (List ℤ)
walks_of j = map (λ e. e.walk) j

-- the world after a journal's asks
abbrev behind : ℕ → ℕ → ℕ → WorldState → List Entry → WorldState
behind made host tries w j = (log.asks made host tries (walks_of j) w).world

same_entry : (d e : Entry) (xs ys : List Entry) → d ∷ xs ≡ e ∷ ys → d ≡ e
same_entry d e xs ys same = cc

same_rest : (d e : Entry) (xs ys : List Entry) → d ∷ xs ≡ e ∷ ys → xs ≡ ys
same_rest d e xs ys same = cc

-- an entry's answer is the ask's in the world after those before it
answer-told : (made host tries : ℕ) (w : WorldState) (before : List Entry) (e : Entry) (rest : List Entry) → (log.asks made host tries (walks_of (before ++ e ∷ rest)) w).value.entries ≡ before ++ e ∷ rest
    → e.answer ≡ (log.ask made host tries e.walk (behind made host tries w before)).value.answer
answer-told made host tries w [] e rest same =
    let a = log.ask made host tries e.walk w in
    let one = same_entry (record { walk = e.walk; answer = a.value.answer }) e (log.asks made host tries (walks_of rest) a.world).value.entries rest same in
    sym (ap (λ (x : Entry). x.answer) one)
answer-told made host tries w (b ∷ before) e rest same =
    let a = log.ask made host tries b.walk w in
    answer-told made host tries a.world before e rest
    (same_rest (record { walk = b.walk; answer = a.value.answer }) b (log.asks made host tries (walks_of (before ++ e ∷ rest)) a.world).value.entries (before ++ e ∷ rest) same)

-- what a world answers a host that asks with so many tries
abbrev tell : ℕ → ℕ → ℕ → WorldState → List Entry → List ℤ → Answer
tell made host tries w before walk = (log.ask made host tries walk (behind made host tries w before)).value.answer

journal-told : (made host tries : ℕ) (w : WorldState) (j : List Entry) → (log.asks made host tries (walks_of j) w).value.entries ≡ j → IsTold (tell made host tries w) j
journal-told made host tries w j same = record {
  told = λ before e rest is. answer-told made host tries w before e rest (subst (λ l. (log.asks made host tries (walks_of l) w).value.entries ≡ l) is same);
}

-- the words of a map are one
words-one : (host : ℕ) (j : List Entry) (drowned : ℕ) (x y : MapWords) → IsCalled host j drowned x → IsCalled host j drowned y → x ≡ y
words-one host j drowned x y (too_many_nodes l) (too_many_nodes k) = refl
words-one host j drowned x y (too_many_nodes l) (too_shallow k c) = absurd (k l)
words-one host j drowned x y (too_many_nodes l) (doubted k c d) = absurd (k l)
words-one host j drowned x y (too_many_nodes l) (right k c d) = absurd (k l)
words-one host j drowned x y (too_shallow l c) (too_many_nodes k) = absurd (l k)
words-one host j drowned x y (too_shallow l c) (too_shallow k d) = refl
words-one host j drowned x y (too_shallow l c) (doubted k b d) = absurd (c b)
words-one host j drowned x y (too_shallow l c) (right k b d) = absurd (c b)
words-one host j drowned x y (doubted l c d) (too_many_nodes k) = absurd (l k)
words-one host j drowned x y (doubted l c d) (too_shallow k b) = absurd (b c)
words-one host j drowned x y (doubted l c d) (doubted k b e) = refl
words-one host j drowned x y (doubted l c d) (right k b e) = absurd (omega arith)
words-one host j drowned x y (right l c d) (too_many_nodes k) = absurd (l k)
words-one host j drowned x y (right l c d) (too_shallow k b) = absurd (b c)
words-one host j drowned x y (right l c d) (doubted k b e) = absurd (omega arith)
words-one host j drowned x y (right l c d) (right k b e) = refl

-- so is the map of a journal, with its core marked
maps-one : (host : ℕ) (j : List Entry) (p q m k : NetMap) → IsQuotient host j p → IsQuotient host j q → m ≡ record p { core = core_of p } → k ≡ record q { core = core_of q } → m ≡ k
maps-one host j p q m k of_p of_q e f = e ∙ ap (λ (z : NetMap). record z { core = core_of z }) (quotient_is_one host j p q of_p of_q) ∙ sym f

-- a map that is made of a grown journal
record IsKept (host : ℕ) (j : List Entry) (m : NetMap) : Type 0 where
  within : ¬ IsEndedAtLimit j → IsMarkedMap host j m
  beyond : IsEndedAtLimit j → m ≡ record { vertices = []; cables = []; core = [] }

-- is one, also where there is none
kept-one : (host : ℕ) (j : List Entry) (m k : NetMap) → IsEndedAtLimit j ⊎ (¬ IsEndedAtLimit j) → IsKept host j m → IsKept host j k → m ≡ k
kept-one host j m k (inl l) a b = a.beyond l ∙ sym (b.beyond l)
kept-one host j m k (inr l) a b =
    let p = a.within l in
    let q = b.within l in
    maps-one host j p.unmarked q.unmarked m k p.quotient q.quotient p.marked q.marked

pub mapping_is_one : MappingIsOne
mapping_is_one host depth tries before v w j l m k x y first second =
    let here : IsTold (tell before.links.cables.changes host tries before) j = journal-told before.links.cables.changes host tries before j (ap (λ (a : log.AskedAll). a.entries) first.asked) in
    let there : IsTold (tell before.links.cables.changes host tries before) l = journal-told before.links.cables.changes host tries before l (ap (λ (a : log.AskedAll). a.entries) second.asked) in
    let one : j ≡ l = told_journal_is_one (tell before.links.cables.changes host tries before) host depth j l here there first.grown second.grown in
    let both = sym first.asked ∙ ap (λ i. (log.asks before.links.cables.changes host tries (walks_of i) before).value) one ∙ second.asked in
    let drowned : first.drowned ≡ second.drowned = ap (λ (a : log.AskedAll). a.drowned) both in (
      first.led ∙ ap (λ i. (log.asks before.links.cables.changes host tries (walks_of i) before).world) one ∙ sym second.led,
      one,
      kept-one host l m k (at-limit host depth l second.grown) (subst (λ i. IsKept host i m) one (record { within = first.within; beyond = first.beyond })) (record { within = second.within; beyond = second.beyond }),
      words-one host l second.drowned x y (subst (λ n. IsCalled host l n x) drowned (subst (λ i. IsCalled host i first.drowned x) one first.called)) second.called,
    )

-- the journal of the two hosts has grown to every depth from two cables on
grown-to : (depth : ℕ) → 2 ≤ depth → IsGrown 0 depth two_hosts_journal
grown-to depth deep = record {
  growing = one-switch-grows 0 depth answer_to_turn (omega arith);
  ended = inl (record { started = refl; at_rest = one-switch-rests answer_to_turn; expanded = λ w s l. two_hosts_closed w s; kept = omega arith });
}

known : (depth : ℕ) → 2 ≤ depth → IsMapped 0 depth 1 (new_world two_hosts) mapped_world two_hosts_journal setup_map Complete
known depth deep = record {
  drowned = two_hosts_mapped.drowned;
  asked = two_hosts_mapped.asked;
  led = two_hosts_mapped.led;
  grown = grown-to depth deep;
  within = two_hosts_mapped.within;
  beyond = two_hosts_mapped.beyond;
  called = two_hosts_mapped.called;
}

pub mapping_is_complete : MappingIsComplete
mapping_is_complete depth after j m words deep is = mapping_is_one 0 depth 1 (new_world two_hosts) after mapped_world j two_hosts_journal m setup_map words Complete is (known depth deep)
