-- Over every fabric there is the journal that grows to a depth.
use Rattle.std.proofs.Common.{◌≡◌, ◌≢◌, ◌∙◌, ◌<◌, ◌≤◌, ◌+◌, ℕ, zero, suc, List, [], ◌∷◌, ◌++◌, length, length-append, refl, arith, ◌⊎◌, inl, inr}
use Rattle.std.proofs.lemmas.Bool.{cases_order}
use Rattle.std.specs.Prelude.{ℤ}
use Rattle.net_defs.specs.declared.place.Answer.{Answer}
use Rattle.net_defs.specs.declared.place.Answer.TheVariants.{Nothing}
use Rattle.net_defs.specs.Network.{Network, IsFabric}
use Rattle.net_defs.specs.Route.{answer}
use Rattle.net_defs.proofs.Distinct.{all-push}
use Rattle.journal_defs.specs.declared.entry.Entry.{Entry}
use Rattle.journal_defs.specs.Tree.{nodes}
use Rattle.journal_defs.specs.Growth.{IsGrowing, IsGrown, NextAsk, node_limit}
use Rattle.journal_defs.specs.Growth.IsGrowing.{nothing, more}
use Rattle.journal_defs.specs.Truth.{IsTrueWhereFound}
use Rattle.map_laws.specs.Laws.{IsTold, TellsTruth, ToldJournalExists, GrownJournalExists}
use Rattle.map_laws.proofs.Few.{asks_are_few}
use Rattle.map_laws.proofs.OneJournal.{told-push, told-true}
use Rattle.map_laws.proofs.Next.{Next, next}
use Rattle.map_laws.proofs.Next.Next.{asks, ends}

record HasGrown (n : Network) (host depth : ℕ) (tell : List Entry → List ℤ → Answer) : Type 0 where
  pub journal : List Entry
  pub told : IsTold tell journal
  pub found : IsTrueWhereFound n host journal
  pub grown : IsGrown host depth journal

-- as long as a journal keeps the node limit, its asks are few
bounded : (host depth : ℕ) (j : List Entry) → IsGrowing host depth j → length (nodes j) ≤ node_limit → length j < 1966052
bounded host depth j g l = let few = asks_are_few host depth j g in omega arith

-- how a journal goes on: told, true where it found something, growing, within the limit, and with an ask fewer to come
abbrev GoesOn : Network → ℕ → ℕ → (List Entry → List ℤ → Answer) → ℕ → ℕ → Type 0
GoesOn n host depth tell bound m = (i : List Entry) → IsTold tell i → IsTrueWhereFound n host i → IsGrowing host depth i → length (nodes i) ≤ node_limit → bound ≤ m + length i → HasGrown n host depth tell

pushed : (n : Network) (host depth : ℕ) (tell : List Entry → List ℤ → Answer) (bound m : ℕ) (j : List Entry) (e : Entry) → TellsTruth n host tell → IsTold tell j → IsTrueWhereFound n host j → IsGrowing host depth j → length (nodes j) ≤ node_limit → bound ≤ suc m + length j → e.answer ≡ tell j e.walk → NextAsk host depth j e.walk → GoesOn n host depth tell bound m → HasGrown n host depth tell
pushed n host depth tell bound m j e true_told t found g kept l a ask rest = limit (cases_order (length (nodes (j ++ e ∷ []))) node_limit)
  where
    growing : IsGrowing host depth (j ++ e ∷ [])
    growing = more j e g ask refl

    told : IsTold tell (j ++ e ∷ [])
    told = told-push tell j e t a

    here : e.answer ≢ Nothing → e.answer ≡ answer n host e.walk
    here p = a ∙ true_told j e.walk (λ q. p (a ∙ q))

    truth : IsTrueWhereFound n host (j ++ e ∷ [])
    truth = all-push (λ (x : Entry). x.answer ≢ Nothing → x.answer ≡ answer n host x.walk) j e found here

    longer : length (j ++ e ∷ []) ≡ length j + 1
    longer = length-append j (e ∷ [])

    limit : (length (nodes (j ++ e ∷ [])) ≡ node_limit) ⊎ ((length (nodes (j ++ e ∷ [])) < node_limit) ⊎ (node_limit < length (nodes (j ++ e ∷ [])))) → HasGrown n host depth tell
    limit (inl p) = rest (j ++ e ∷ []) told truth growing (omega arith) (let k = longer in omega arith)
    limit (inr (inl p)) = rest (j ++ e ∷ []) told truth growing (omega arith) (let k = longer in omega arith)
    limit (inr (inr p)) = record { journal = j ++ e ∷ []; told = told; found = truth; grown = record { growing = growing; ended = inr (record { before = j; last = e; whole = refl; kept = kept; passed = p }) } }

grow : (n : Network) (host depth : ℕ) (tell : List Entry → List ℤ → Answer) (bound m : ℕ) → IsFabric n → TellsTruth n host tell → ((i : List Entry) → IsGrowing host depth i → length (nodes i) ≤ node_limit → length i < bound) → GoesOn n host depth tell bound m
grow n host depth tell bound zero f true_told few j t found g kept l = let short = few j g kept in absurd (omega arith)
grow n host depth tell bound (suc m) f true_told few j t found g kept l = by (next n host depth j f found g) (grow n host depth tell bound m f true_told few)
  where
    by : Next host depth j → GoesOn n host depth tell bound m → HasGrown n host depth tell
    by (ends s r x) rest = record { journal = j; told = t; found = found; grown = record { growing = g; ended = inl (record { started = s; at_rest = r; expanded = x; kept = kept }) } }
    by (asks x a) rest = pushed n host depth tell bound m j (record { walk = x; answer = tell j x }) true_told t found g kept l refl a rest

pub told_journal_exists : ToldJournalExists
told_journal_exists n host depth tell f true_told =
    let start : IsTold tell [] = record { told = λ before e rest p. absurd (none before e rest p) } in
    let h = grow n host depth tell 1966052 1966052 f true_told (bounded host depth) [] start tt nothing (omega arith) (omega arith) in
    (h.journal, h.told, h.found, h.grown)
  where
    none : (before : List Entry) (e : Entry) (rest : List Entry) → [] ≡ before ++ e ∷ rest → ⊥
    none [] e rest p = cc
    none (x ∷ before) e rest p = cc

pub grown_journal_exists : GrownJournalExists
grown_journal_exists n host depth f =
    let h = told_journal_exists n host depth (λ i w. answer n host w) f (λ i w p. refl) in
    (h.0, told-true n host h.0 h.1, h.3)
