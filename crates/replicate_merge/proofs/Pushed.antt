-- What a push of an entry gives, by what stands in front of the entry's walk.
use Rattle.std.proofs.Common.{◌≡◌, ◌≢◌, ◌<◌, ◌⊎◌, inl, inr, ℕ, List, [], ◌∷◌, ◌++◌, true, false, length, Some, refl, ap, sym, ◌∙◌, subst, true≢false}
use Rattle.std.specs.Prelude.{ℤ, All, slice_get}
use Rattle.std.proofs.lemmas.List.Elements.{All-pop}
use Rattle.std.proofs.lemmas.Option.{get_or_from_slice_get, slice_get_within}
use Rattle.net_defs.specs.declared.place.Answer.{Answer}
use Rattle.net_defs.specs.declared.place.Answer.TheVariants.{Host as HostAnswer, Switch, Nothing}
use Rattle.net_defs.specs.Turn.{IsTurn}
use Rattle.journal_defs.specs.declared.entry.Entry.{Entry}
use Rattle.journal_defs.specs.Tree.{Node, IsNode, is_found, nodes}
use Rattle.journal_defs.specs.Tree.Node.{Mapper, Reached}
use Rattle.probe.specs.Keeping.{has_walk}
use Rattle.replicate_merge.specs.Between.{AddsEntry, CountsTurn, HasSeenFrames, IsBetween, looking_ahead, turns_of, with_orphan}
use Rattle.replicate_merge.specs.Next.{HasNext, IsNext, StandsForNext}
use Rattle.replicate_merge.specs.Table.{ClassTable, StandsFor}
use Rattle.replicate_merge.proofs.Nexts.{between-same}
use Rattle.replicate_merge.proofs.Nodes.{at-node}
use Rattle.replicate_merge.proofs.Orphans.{has-last, has-left, has-more, orphans-next}
use Rattle.replicate_merge.proofs.Telling.{last-turn, not-empty}
use Rattle.replicate_merge.proofs.Stands.{number-kept, stands-ahead, stands-first, stands-turned, turns-few}

module _ (old mid : ClassTable) (e : Entry) (adds : AddsEntry old e mid) where
  pub pushed-first : e.walk ≡ [] → StandsForNext old e mid
  pushed-first empty host j stands next = stands-first host j e mid next (adds host j stands next) empty

  pub pushed-ahead : (front : List ℤ) (t : ℤ) → e.walk ≡ front ++ t ∷ [] → ((n : ℕ) → slice_get old.nodes n ≢ Some (Reached front)) → StandsForNext old e (looking_ahead mid)
  pushed-ahead front t is none host j stands next = stands-ahead host j e mid next (adds host j stands next) front t is (λ n g. none n (ap (λ (ns : List Node). slice_get ns n) stands.numbered ∙ g))

  module _ (n : ℕ) (front : List ℤ) (t : ℤ) (is : e.walk ≡ front ++ t ∷ []) (at : slice_get old.nodes n ≡ Some (Reached front)) where
    at-mid : (j : List Entry) → old.nodes ≡ nodes j → mid.nodes ≡ nodes (j ++ e ∷ []) → slice_get mid.nodes n ≡ Some (Reached front)
    at-mid j before after = ap (λ (ns : List Node). slice_get ns n) after ∙ number-kept j e n (Reached front) (ap (λ (ns : List Node). slice_get ns n) (sym before) ∙ at)

    pub turn-there : HasNext old e → n < length mid.nodes
    turn-there x = let b = adds x.host x.journal x.stands x.next in slice_get_within mid.nodes n (Reached front) (at-mid x.journal x.stands.numbered b.numbered)

    pub turn-few : HasNext old e → turns_of mid n < 255
    turn-few x = let b = adds x.host x.journal x.stands x.next in turns-few x.host x.journal e mid x.next b n front t is (at-mid x.journal x.stands.numbered b.numbered)

    pub pushed-turned : All IsTurn e.walk → (new : ClassTable) → CountsTurn n t mid new → StandsForNext old e new
    pushed-turned turns new counts host j stands next =
        let b = adds host j stands next in
        let turn : IsTurn t = (All-pop IsTurn e.walk front (Some t) is turns).1 in
        stands-turned host j e mid next b n front t is (at-mid j stands.numbered b.numbered) new (λ some. (turn, some)) counts

-- what an entry that found nothing adds
module _ (old : ClassTable) (e : Entry) (lost : is_found e.answer ≡ false) (seen : HasSeenFrames old) where
  plain : (host : ℕ) (j : List Entry) → StandsFor host j old → IsNext host j e → ((w : List ℤ) (t : ℤ) → e.walk ≡ w ++ t ∷ [] → IsNode j (Reached w)) → IsBetween host j e old
  plain host j stands next front = between-same host j e old old.kept.orphans stands next lost seen (orphans-next j e old.kept.orphans old.kept.orphans old.kept.ahead next.fresh stands.kept.orphans (λ w h. inl h) (λ w h. h) (λ w t q n. inl (front w t q)))

  pub adds-first : e.walk ≡ [] → AddsEntry old e old
  adds-first empty host j stands next = plain host j stands next (λ w t q. absurd (not-empty w t (sym q ∙ empty)))

  pub adds-behind : (n : ℕ) (front : List ℤ) (t : ℤ) → e.walk ≡ front ++ t ∷ [] → slice_get old.nodes n ≡ Some (Reached front) → AddsEntry old e old
  adds-behind n front t is at host j stands next = plain host j stands next (λ w s q. subst (λ v. IsNode j (Reached v)) (last-turn front w t s (sym is ∙ q)).0 node)
    where
      there : slice_get (nodes j) n ≡ Some (Reached front)
      there = ap (λ (ns : List Node). slice_get ns n) (sym stands.numbered) ∙ at

      node : IsNode j (Reached front)
      node = subst (λ u. IsNode j u) (get_or_from_slice_get (nodes j) n (Reached front) Mapper there) (at-node j next.once n (slice_get_within (nodes j) n (Reached front) there))

  pub adds-orphan : e.answer ≡ Nothing → AddsEntry old e (with_orphan e.walk old)
  adds-orphan nothing host j stands next = between-same host j e old (old.kept.orphans ++ e.walk ∷ []) stands next lost seen (orphans-next j e old.kept.orphans (old.kept.orphans ++ e.walk ∷ []) old.kept.ahead next.fresh stands.kept.orphans only (λ w h. has-left old.kept.orphans e.walk w h) (λ w t q n. inr (has-last old.kept.orphans e.walk)))
    where
      only : (w : List ℤ) → has_walk (old.kept.orphans ++ e.walk ∷ []) w ≡ true → (has_walk old.kept.orphans w ≡ true) ⊎ ((e.walk ≡ w) × (e.answer ≡ Nothing))
      only w h = by (has-more old.kept.orphans e.walk w h)
        where
          by : (has_walk old.kept.orphans w ≡ true) ⊎ (e.walk ≡ w) → (has_walk old.kept.orphans w ≡ true) ⊎ ((e.walk ≡ w) × (e.answer ≡ Nothing))
          by (inl a) = inl a
          by (inr b) = inr (b, nothing)

-- what isn't found is nothing
pub lost-answer : (a : Answer) → is_found a ≡ false → a ≡ Nothing
lost-answer (HostAnswer h) e = absurd (true≢false e)
lost-answer Switch e = absurd (true≢false e)
lost-answer Nothing e = refl
