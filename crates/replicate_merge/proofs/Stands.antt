-- An entry more: its turn is counted, and the classes stand for the journal with it.
use Rattle.std.proofs.Common.{◌≡◌, ◌≢◌, ◌<◌, ◌⊎◌, inl, inr, ℕ, ◌+◌, List, [], ◌∷◌, ◌++◌, Bool, true, false, length, map, set, Some, refl, ap, sym, ◌∙◌, subst, true≢false, arith, length-append, if◌then◌else◌}
use Rattle.std.specs.Prelude.{ℤ, pos, is_some, slice_get}
use Rattle.std.specs.List.{AllByRecursion}
use Rattle.std.proofs.Math.ListN.{length-set}
use Rattle.std.proofs.lemmas.List.{map-append}
use Rattle.std.proofs.lemmas.Option.{get_or_from_slice_get, slice_get-get_or, slice_get_within}
use Rattle.net_defs.specs.Network.{Apart}
use Rattle.net_defs.specs.Turn.{same_turns}
use Rattle.net_defs.proofs.Distinct.{apart-push}
use Rattle.net_defs.proofs.Turns.{same_turns-refl}
use Rattle.journal_defs.specs.declared.entry.Entry.{Entry}
use Rattle.journal_defs.specs.Growth.{IsExpanded}
use Rattle.journal_defs.specs.Tree.{Node, IsJournal, IsNode, answered, is_asked, is_found, nodes}
use Rattle.journal_defs.specs.Tree.Node.{Mapper, Reached}
use Rattle.journal_defs.specs.Walks.{IsOnward}
use Rattle.map_laws.proofs.Keeping.{asked-kept, keeps-append}
use Rattle.port_align.specs.declared.frame.ClassFrame.{ClassFrame}
use Rattle.replicate_merge.specs.Asked.{CountsAsked, HasOrphans, asked_turns}
use Rattle.replicate_merge.specs.Between.{CountsTurn, IsBetween, number_of, turned, turns_of}
use Rattle.replicate_merge.specs.Between.CountsTurn.{is_back, is_last, is_more}
use Rattle.replicate_merge.specs.Heads.{MarksNames}
use Rattle.replicate_merge.specs.Kept.{Kept, IsKept}
use Rattle.replicate_merge.specs.Next.{IsNext}
use Rattle.replicate_merge.specs.Table.{ClassTable, StandsFor}
use Rattle.replicate_merge.specs.Ways.{node_at}
use Rattle.replicate_merge.proofs.Added.{item-place}
use Rattle.replicate_merge.proofs.Counting.{at-most-thirty, count-next, count-zero, expanded-thirty, thirty-expanded}
use Rattle.replicate_merge.proofs.Lists.{item-left}
use Rattle.replicate_merge.proofs.Longer.{nodes-more, nodes-same}
use Rattle.replicate_merge.proofs.Nodes.{at-node, nodes-once}
use Rattle.replicate_merge.proofs.Orphans.{orphans-done}
use Rattle.replicate_merge.proofs.Rounds.{kept-stands}
use Rattle.replicate_merge.proofs.Telling.{last-turn, not-empty}
use Rattle.replicate_merge.proofs.Turned.{marks-same, marks-set, walk-cases}
use Rattle.replicate_merge.proofs.Turns.{counts-kept, counts-turned, empty-turn, expanded-down, expanded-up, other-turn}

-- a walk that wasn't asked stands in no entry
never-asked : (j : List Entry) (w : List ℤ) → is_asked j w ≡ false → AllByRecursion (λ v. w ≢ v) (map (λ (x : Entry). x.walk) j)
never-asked [] w e = tt
never-asked (x ∷ j) w e = by (same_turns x.walk w) refl e (never-asked j w)
  where
    by : (b : Bool) → same_turns x.walk w ≡ b → is_some (if b then Some x.answer else answered j w) ≡ false → (is_asked j w ≡ false → AllByRecursion (λ v. w ≢ v) (map (λ (x : Entry). x.walk) j)) → (w ≢ x.walk) × AllByRecursion (λ v. w ≢ v) (map (λ (x : Entry). x.walk) j)
    by true p f rest = absurd (true≢false f)
    by false p f rest = ((λ q. true≢false (sym (same_turns-refl x.walk) ∙ ap (same_turns x.walk) (sym q) ∙ p)), rest f)

pub journal-push : (j : List Entry) (e : Entry) → IsJournal j → is_asked j e.walk ≡ false → IsJournal (j ++ e ∷ [])
journal-push j e once fresh = subst Apart (sym (map-append (λ (x : Entry). x.walk) j (e ∷ []))) (apart-push (map (λ (x : Entry). x.walk) j) e.walk once (never-asked j e.walk fresh))

-- the nodes before an entry keep their numbers
pub number-kept : (j : List Entry) (e : Entry) (n : ℕ) (u : Node) → slice_get (nodes j) n ≡ Some u → slice_get (nodes (j ++ e ∷ [])) n ≡ Some u
number-kept j e n u at = by (is_found e.answer) refl
  where
    by : (b : Bool) → is_found e.answer ≡ b → slice_get (nodes (j ++ e ∷ [])) n ≡ Some u
    by true f = ap (λ (ns : List Node). slice_get ns n) (nodes-more j e f) ∙ item-left (nodes j) (Reached e.walk) u n at
    by false f = ap (λ (ns : List Node). slice_get ns n) (nodes-same j e f) ∙ at

module _ (host : ℕ) (j : List Entry) (e : Entry) (c : ClassTable) (next : IsNext host j e) (b : IsBetween host j e c) where
  abbrev later : List Entry
  later = j ++ e ∷ []

  once : IsJournal later
  once = journal-push j e next.once next.fresh

  abbrev counted : List ℕ → List Bool → Bool → ClassTable
  counted asked marks ahead = record c { expanded = marks; kept = record c.kept { asked = asked; ahead = ahead } }

  finish : (asked : List ℕ) (marks : List Bool) (ahead : Bool) → CountsAsked later c.nodes asked → MarksNames later c.nodes c.kept.frames c.kept.heads marks → length marks ≡ length c.kept.names → HasOrphans later c.kept.orphans ahead → StandsFor host later (counted asked marks ahead)
  finish asked marks ahead counts marked count orphans = subst (λ (fs : List ClassFrame). StandsFor host later (record { nodes = c.nodes; frames = fs; expanded = marks; kept = kept })) (sym b.frames) (kept-stands host later c.nodes kept marks b.numbered once is)
    where
      kept : Kept
      kept = record c.kept { asked = asked; ahead = ahead }

      is : IsKept host later c.nodes (record c.kept { asked = asked; ahead = ahead }) marks
      is = record {
        ways = b.ways;
        are = b.are;
        settled = record { truth = b.settled.truth; knows = b.settled.knows; heads = b.settled.heads; headed = b.settled.headed; table = b.settled.table; counted = count; marked = marked };
        asked = counts;
        orphans = orphans;
      }

  there : (n : ℕ) (w : List ℤ) → n < length c.nodes → node_at c.nodes n ≡ Reached w → slice_get c.nodes n ≡ Some (Reached w)
  there n w l is = slice_get-get_or c.nodes n Mapper l ∙ ap (λ u. Some u) is

  up : (n : ℕ) (w : List ℤ) → n < length c.nodes → node_at c.nodes n ≡ Reached w → IsExpanded j w → IsExpanded later w
  up n w l is x = record { asked = λ t on. asked-kept j later (keeps-append j (e ∷ [])) (w ++ t ∷ []) (x.asked t on) }

  -- the entry is a turn of none of the nodes, or by turn 0
  unturned : (ahead : Bool) → HasOrphans later c.kept.orphans ahead → ((n : ℕ) (w : List ℤ) → slice_get c.nodes n ≡ Some (Reached w) → asked_turns later w ≡ asked_turns j w) → StandsFor host later (counted c.kept.asked c.expanded ahead)
  unturned ahead orphans same = finish c.kept.asked c.expanded ahead (counts-kept j e c.nodes c.kept.asked same b.asked) (marks-same j later c.nodes c.kept.frames c.kept.heads c.expanded up down b.settled.marked) b.settled.counted orphans
    where
      down : (n : ℕ) (w : List ℤ) → n < length c.nodes → node_at c.nodes n ≡ Reached w → IsExpanded later w → IsExpanded j w
      down n w l is x = thirty-expanded j w (sym (same n w (there n w l is)) ∙ expanded-thirty later w x)

  -- an entry in front of which is the mapper's host
  pub stands-first : e.walk ≡ [] → StandsFor host later c
  stands-first empty = unturned c.kept.ahead (orphans-done j e c.kept.orphans c.kept.ahead b.orphans b.none (λ w t q. absurd (not-empty w t (sym q ∙ empty)))) (λ n w g. empty-turn j e w empty)

  node-there : (n : ℕ) (w : List ℤ) → slice_get c.nodes n ≡ Some (Reached w) → IsNode later (Reached w)
  node-there n w g =
      let ns-there : slice_get (nodes later) n ≡ Some (Reached w) = ap (λ (ns : List Node). slice_get ns n) (sym b.numbered) ∙ g in
      subst (λ u. IsNode later u) (get_or_from_slice_get (nodes later) n (Reached w) Mapper ns-there) (at-node later once n (slice_get_within (nodes later) n (Reached w) ns-there))

  -- an entry that was asked ahead of its front
  pub stands-ahead : (front : List ℤ) (t : ℤ) → e.walk ≡ front ++ t ∷ [] → ((n : ℕ) → slice_get (nodes j) n ≢ Some (Reached front)) → StandsFor host later (counted c.kept.asked c.expanded true)
  stands-ahead front t is none = unturned true b.orphans (λ n w g. other-turn j e front w t is (λ q. never n w g q))
    where
      own : (w : List ℤ) → front ≡ w → Reached e.walk ≡ Reached w → ⊥
      own w q r =
          let same : e.walk ≡ w = cc in
          let long : length e.walk ≡ length (front ++ t ∷ []) = ap length is in
          let short : length front ≡ length e.walk = ap length (q ∙ sym same) in
          let more = length-append front (t ∷ []) in
          omega arith

      new : (n : ℕ) (w : List ℤ) → front ≡ w → slice_get (nodes later) n ≡ Some (Reached w) → (f : Bool) → is_found e.answer ≡ f → ⊥
      new n w q g false f = none n (ap (λ (ns : List Node). slice_get ns n) (sym (nodes-same j e f)) ∙ g ∙ ap (λ v. Some (Reached v)) (sym q))
      new n w q g true f = by (item-place (nodes j) (Reached e.walk) (Reached w) n (ap (λ (ns : List Node). slice_get ns n) (sym (nodes-more j e f)) ∙ g))
        where
          by : (slice_get (nodes j) n ≡ Some (Reached w)) ⊎ ((n ≡ length (nodes j)) × (Reached e.walk ≡ Reached w)) → ⊥
          by (inl old) = none n (old ∙ ap (λ v. Some (Reached v)) (sym q))
          by (inr last) = own w q last.1

      never : (n : ℕ) (w : List ℤ) → slice_get c.nodes n ≡ Some (Reached w) → front ≡ w → ⊥
      never n w g q = new n w q (ap (λ (ns : List Node). slice_get ns n) (sym b.numbered) ∙ g) (is_found e.answer) refl

  once-there : (n k : ℕ) (w : List ℤ) → slice_get c.nodes n ≡ Some (Reached w) → slice_get c.nodes k ≡ Some (Reached w) → n ≡ k
  once-there n k w g h =
      let one = get_or_from_slice_get c.nodes n (Reached w) Mapper g in
      let two = get_or_from_slice_get c.nodes k (Reached w) Mapper h in
      subst (λ (ns : List Node). (m o : ℕ) → m < length ns → o < length ns → node_at ns m ≡ node_at ns o → m ≡ o) (sym b.numbered) (nodes-once later once) n k (slice_get_within c.nodes n (Reached w) g) (slice_get_within c.nodes k (Reached w) h) (one ∙ sym two)

  -- an entry behind a node
  module _ (n : ℕ) (front : List ℤ) (t : ℤ) (is : e.walk ≡ front ++ t ∷ []) (at : slice_get c.nodes n ≡ Some (Reached front)) where
    orphans : HasOrphans later c.kept.orphans c.kept.ahead
    orphans = orphans-done j e c.kept.orphans c.kept.ahead b.orphans b.none (λ w s q. subst (λ v. IsNode later (Reached v)) (last-turn front w t s (sym is ∙ q)).0 (node-there n front at))

    -- as many of its turns are counted as were asked before
    pub turns-before : turns_of c n ≡ asked_turns j front
    turns-before = get_or_from_slice_get c.kept.asked n (asked_turns j front) 0 (b.asked.each n front at)

    pub turns-few : turns_of c n < 255
    turns-few = let e = turns-before in let f = at-most-thirty j front in omega arith

    module _ (on : IsOnward t) where
      turns-now : asked_turns later front ≡ turns_of c n + 1
      turns-now = count-next j e front t is next.fresh on ∙ ap (λ k. k + 1) (sym turns-before)

      counts : CountsAsked later c.nodes (set c.kept.asked n (turns_of c n + 1))
      counts = subst (λ k. CountsAsked later c.nodes (set c.kept.asked n (k + 1))) (sym turns-before) (counts-turned j e front t is next.fresh c.nodes c.kept.asked n once-there at on b.asked)

      stands-more : turns_of c n + 1 ≢ 30 → StandsFor host later (turned n c.expanded c)
      stands-more few = finish (set c.kept.asked n (turns_of c n + 1)) c.expanded c.kept.ahead counts (marks-same j later c.nodes c.kept.frames c.kept.heads c.expanded up down b.settled.marked) b.settled.counted orphans
        where
          down : (m : ℕ) (w : List ℤ) → m < length c.nodes → node_at c.nodes m ≡ Reached w → IsExpanded later w → IsExpanded j w
          down m w l q x = by (walk-cases w front)
            where
              by : (w ≡ front) ⊎ (w ≢ front) → IsExpanded j w
              by (inl same) = absurd (few (sym turns-now ∙ expanded-thirty later front (subst (λ v. IsExpanded later v) same x)))
              by (inr other) = expanded-down j e front t is next.fresh w other x

      stands-last : turns_of c n + 1 ≡ 30 → StandsFor host later (turned n (set c.expanded (number_of c n) true) c)
      stands-last all = finish (set c.kept.asked n (turns_of c n + 1)) (set c.expanded (number_of c n) true) c.kept.ahead counts marks (length-set c.expanded (number_of c n) true ∙ b.settled.counted) orphans
        where
          marks : MarksNames later c.nodes c.kept.frames c.kept.heads (set c.expanded (number_of c n) true)
          marks = marks-set j later c.nodes c.kept.frames c.kept.heads c.kept.names c.expanded b.settled.heads b.settled.counted (λ m o k l q. once-there' m o k l q) n front (slice_get_within c.nodes n (Reached front) at) (get_or_from_slice_get c.nodes n (Reached front) Mapper at) (thirty-expanded later front (turns-now ∙ all)) (λ w x. expanded-up j e front t is next.fresh w x) (λ w d x. expanded-down j e front t is next.fresh w d x) b.settled.marked
            where
              once-there' : (m o : ℕ) → m < length c.nodes → o < length c.nodes → node_at c.nodes m ≡ node_at c.nodes o → m ≡ o
              once-there' = subst (λ (ns : List Node). (m o : ℕ) → m < length ns → o < length ns → node_at ns m ≡ node_at ns o → m ≡ o) (sym b.numbered) (nodes-once later once)

    pub stands-turned : (new : ClassTable) → (t ≢ pos 0 → IsOnward t) → CountsTurn n t c new → StandsFor host later new
    stands-turned new on (is_back zero same) = subst (λ (x : ClassTable). StandsFor host later x) (sym same) (unturned c.kept.ahead orphans (λ m w g. count-zero j e front w t is (λ o. o.1 zero)))
    stands-turned new on (is_more some few same) = subst (λ (x : ClassTable). StandsFor host later x) (sym same) (stands-more (on some) few)
    stands-turned new on (is_last some all same) = subst (λ (x : ClassTable). StandsFor host later x) (sym same) (stands-last (on some) all)
