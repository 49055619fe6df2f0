-- An entry more: the tables between its node and the count of its turn.
use Rattle.std.proofs.Common.{◌≡◌, ◌<◌, ◌⊎◌, inl, inr, ℕ, ◌+◌, ◌^◌, List, [], ◌∷◌, ◌++◌, Bool, true, false, ◌||◌, length, map, nat_eq, Option, Some, None, refl, ap, sym, ◌∙◌, subst, true≢false, arith, length-append, if◌then◌else◌}
use Rattle.std.specs.Prelude.{ℤ, pos, ◌+ℤ◌, is_some}
use Rattle.std.proofs.lemmas.Bool.{false≢true}
use Rattle.std.proofs.lemmas.Bool.Decides.{Decides-eqb}
use Rattle.std.proofs.lemmas.Int.{ints}
use Rattle.std.proofs.lemmas.List.{map-append}
use Rattle.net_defs.specs.declared.place.Answer.{Answer}
use Rattle.net_defs.specs.declared.place.Answer.TheVariants.{Host as HostAnswer, Switch, Nothing}
use Rattle.net_defs.specs.Turn.{IsTurn}
use Rattle.journal_defs.specs.declared.entry.Entry.{Entry}
use Rattle.journal_defs.specs.Replicates.Replicates.{same}
use Rattle.journal_defs.specs.Tree.{Node, IsJournal, IsNode, Leads, answered, has_found, is_asked, is_found, nodes}
use Rattle.journal_defs.specs.Tree.Node.{Mapper, Reached}
use Rattle.journal_defs.specs.Tree.Leads.{onward}
use Rattle.journal_defs.specs.Walks.{onward_turns}
use Rattle.map_laws.proofs.Keeping.{answered-last, keeps-append, node-kept}
use Rattle.probe.specs.Keeping.{has_walk}
use Rattle.replicate_merge.specs.declared.settling.Joined.{Joined}
use Rattle.replicate_merge.specs.declared.way.Way.{Way}
use Rattle.replicate_merge.specs.Adding.{known_at}
use Rattle.replicate_merge.specs.Asked.{CountsAsked, HasOrphans, asked_among, asked_turns}
use Rattle.replicate_merge.specs.Between.{IsBetween}
use Rattle.replicate_merge.specs.Growing.{IsGrowing}
use Rattle.replicate_merge.specs.Heads.{seen_frame}
use Rattle.replicate_merge.specs.Kept.{Kept, IsShaped}
use Rattle.replicate_merge.specs.Longer.{IsNewWay}
use Rattle.replicate_merge.specs.Next.{IsNext}
use Rattle.replicate_merge.specs.Seen.{class_table, kept_of}
use Rattle.replicate_merge.specs.Nodes.{nodes_of}
use Rattle.replicate_merge.specs.Onward.{AreNewWays, AreOnce, IsBehind, is_known, known_among}
use Rattle.replicate_merge.specs.Onward.IsBehind.{down, up}
use Rattle.replicate_merge.specs.Rounds.{IsSettlingIn}
use Rattle.replicate_merge.specs.Table.{ClassTable, IsTable, StandsFor}
use Rattle.replicate_merge.specs.Ways.{AreWays, Has, IsWay, node_at}
use Rattle.replicate_merge.proofs.Counting.{expanded-thirty, thirty-expanded}
use Rattle.replicate_merge.proofs.Finding.{few-walks}
use Rattle.replicate_merge.proofs.Longer.{know-same, longer-ways, new-way, nodes-more, nodes-same, ways-same}
use Rattle.replicate_merge.proofs.Nodes.{at-node, nodes-once}
use Rattle.replicate_merge.proofs.Orphans.{node-known, orphans-next, walk-known}
use Rattle.replicate_merge.proofs.Ranges.{port-turn}
use Rattle.replicate_merge.proofs.Shapes.{shape-kept, table-kept}
use Rattle.replicate_merge.proofs.Telling.{adds, count-nodes, keeps}
use Rattle.replicate_merge.proofs.Turns.{counts-added}

nodes-push : (walks : List (List ℤ)) (w : List ℤ) → nodes_of (walks ++ w ∷ []) ≡ nodes_of walks ++ Reached w ∷ []
nodes-push walks w = ap (λ us. Mapper ∷ us) (map-append Reached walks (w ∷ []))

pub nodes-pushed : (walks new : List (List ℤ)) (w : List ℤ) → new ≡ walks ++ w ∷ [] → nodes_of new ≡ nodes_of walks ++ Reached w ∷ []
nodes-pushed walks new w e = ap (λ ws. nodes_of ws) e ∙ nodes-push walks w

-- no node of a journal stands twice
pub once-of : (j : List Entry) (ns : List Node) → ns ≡ nodes j → IsJournal j → AreOnce ns
once-of j ns numbered once = subst (λ (ms : List Node). AreOnce ms) (sym numbered) (nodes-once j once)

bool-same : (a b : Bool) → (a ≡ true → b ≡ true) → (b ≡ true → a ≡ true) → a ≡ b
bool-same true b f g = sym (f refl)
bool-same false true f g = g refl
bool-same false false f g = refl

or-from : (a b : Bool) → (a ≡ true) ⊎ (b ≡ true) → (a || b) ≡ true
or-from true b e = refl
or-from false b (inl e) = absurd (false≢true e)
or-from false b (inr e) = e

or-parts : (a b : Bool) → (a || b) ≡ true → (a ≡ true) ⊎ (b ≡ true)
or-parts true b e = inl refl
or-parts false b e = inr e

asked-found : (o : Option Answer) → has_found o ≡ true → is_some o ≡ true
asked-found None e = absurd (false≢true e)
asked-found (Some a) e = refl

-- a walk that wasn't asked is no node
pub not-node : (j : List Entry) (w : List ℤ) → is_asked j w ≡ false → IsNode j (Reached w) → ⊥
not-node j w fresh node = true≢false (sym (asked-found (answered j w) node) ∙ fresh)

none-among : (j : List Entry) (w ts : List ℤ) → ((t : ℤ) → is_asked j (w ++ t ∷ []) ≡ true → ⊥) → asked_among j w ts ≡ 0
none-among j w [] never = refl
none-among j w (t ∷ ts) never = by (is_asked j (w ++ t ∷ [])) refl (none-among j w ts never)
  where
    by : (b : Bool) → is_asked j (w ++ t ∷ []) ≡ b → asked_among j w ts ≡ 0 → (if b then 1 else 0) + asked_among j w ts ≡ 0
    by true p rest = absurd (never t p)
    by false p rest = omega arith

same-among : (walks orphans : List (List ℤ)) (j : List Entry) (w ts : List ℤ) → ((t : ℤ) → is_known walks orphans (w ++ t ∷ []) ≡ is_asked j (w ++ t ∷ [])) → known_among walks orphans w ts ≡ asked_among j w ts
same-among walks orphans j w [] is = refl
same-among walks orphans j w (t ∷ ts) is = (λ i. (if is t i then 1 else 0) + same-among walks orphans j w ts is i)

module _ (host : ℕ) (j : List Entry) (e : Entry) (walks : List (List ℤ)) (t : Joined) (asked : List ℕ) (orphans : List (List ℤ)) (ahead : Bool) (stands : StandsFor host j (class_table walks (kept_of t asked orphans ahead) t.heads.marks.items)) (next : IsNext host j e) (found : is_found e.answer ≡ true) (more : List Way) (news : AreNewWays (nodes_of walks) e (length walks + 1) ahead more) (count : ℕ) (looked : ahead ≡ true → count ≡ known_among walks orphans e.walk onward_turns) (unseen : ahead ≡ false → count ≡ 0) where
  abbrev later : List Entry
  later = j ++ e ∷ []

  abbrev ns : List Node
  ns = nodes_of walks

  has : HasOrphans j orphans ahead
  has = stands.kept.orphans

  numbered : ns ≡ nodes j
  numbered = stands.numbered

  known-asked : (s : ℤ) → is_known walks orphans (e.walk ++ s ∷ []) ≡ is_asked j (e.walk ++ s ∷ [])
  known-asked s = bool-same (is_known walks orphans (e.walk ++ s ∷ [])) (is_asked j (e.walk ++ s ∷ [])) up (back (answered j (e.walk ++ s ∷ [])) refl)
    where
      up : is_known walks orphans (e.walk ++ s ∷ []) ≡ true → is_asked j (e.walk ++ s ∷ []) ≡ true
      up k = by (or-parts (has_walk walks (e.walk ++ s ∷ [])) (has_walk orphans (e.walk ++ s ∷ [])) k)
        where
          by : (has_walk walks (e.walk ++ s ∷ []) ≡ true) ⊎ (has_walk orphans (e.walk ++ s ∷ []) ≡ true) → is_asked j (e.walk ++ s ∷ []) ≡ true
          by (inl h) = asked-found (answered j (e.walk ++ s ∷ [])) (walk-known j walks numbered next.once (e.walk ++ s ∷ []) h)
          by (inr h) = ap is_some (has.only (e.walk ++ s ∷ []) h)

      known-node : has_found (answered j (e.walk ++ s ∷ [])) ≡ true → is_known walks orphans (e.walk ++ s ∷ []) ≡ true
      known-node n = or-from (has_walk walks (e.walk ++ s ∷ [])) (has_walk orphans (e.walk ++ s ∷ [])) (inl (node-known j walks numbered (e.walk ++ s ∷ []) n))

      back : (o : Option Answer) → answered j (e.walk ++ s ∷ []) ≡ o → is_some (answered j (e.walk ++ s ∷ [])) ≡ true → is_known walks orphans (e.walk ++ s ∷ []) ≡ true
      back None p a = absurd (false≢true (sym (ap is_some p) ∙ a))
      back (Some (HostAnswer h)) p a = known-node (ap has_found p)
      back (Some Switch) p a = known-node (ap has_found p)
      back (Some Nothing) p a = or-from (has_walk walks (e.walk ++ s ∷ [])) (has_walk orphans (e.walk ++ s ∷ [])) (by (has.each e.walk s p))
        where
          by : IsNode j (Reached e.walk) ⊎ (has_walk orphans (e.walk ++ s ∷ []) ≡ true) → (has_walk walks (e.walk ++ s ∷ []) ≡ true) ⊎ (has_walk orphans (e.walk ++ s ∷ []) ≡ true)
          by (inl n) = absurd (not-node j e.walk next.fresh n)
          by (inr h) = inr h

  -- the count is that of the turns that are asked
  count-is : count ≡ asked_turns j e.walk
  count-is = by ahead refl
    where
      by : (b : Bool) → ahead ≡ b → count ≡ asked_turns j e.walk
      by true p = looked p ∙ same-among walks orphans j e.walk onward_turns known-asked
      by false p = unseen p ∙ sym (none-among j e.walk onward_turns (λ s a. not-node j e.walk next.fresh (has.none p e.walk s a)))

  number-is : length walks + 1 ≡ length ns
  number-is = let c = count-nodes walks in omega arith

  new-node : IsNode later (Reached e.walk)
  new-node = ap has_found (answered-last j e next.fresh) ∙ found

  pub growing : IsGrowing host j e ns stands.kept.ways t more (nat_eq count 30)
  growing = record {
    settled = stands.kept.settled;
    truth = next.true_of_one;
    node = new-node;
    own = (λ p. thirty-expanded j e.walk (sym count-is ∙ (Decides-eqb count 30).0 p), λ x. (Decides-eqb count 30).1 (count-is ∙ expanded-thirty j e.walk x));
    each = λ w h. new-way host j e ns numbered next.once next.fresh found w (subst (λ n. IsNewWay ns e n w) number-is (news.only w h));
  }

  -- a node behind the new one is reached by a turn
  old-node : (x : ℕ) (p : ℤ) → x < length ns → node_at ns x ≡ Reached (e.walk ++ p ∷ []) → IsNode j (Reached (e.walk ++ p ∷ []))
  old-node x p l at = subst (λ u. IsNode j u) at (subst (λ (ms : List Node). x < length ms → IsNode j (node_at ms x)) (sym numbered) (at-node j next.once x) l)

  behind-node : (p : ℤ) (w : Way) → IsBehind ns e.walk (length walks + 1) p w → IsNode j (Reached (e.walk ++ p ∷ []))
  behind-node p w (down x l at q) = old-node x p l at
  behind-node p w (up x l at q) = old-node x p l at

  behind-turn : (p : ℤ) → IsNode j (Reached (e.walk ++ p ∷ [])) → IsTurn p
  behind-turn p node =
      let leads : Leads later (Reached e.walk) p (Reached (e.walk ++ p ∷ [])) (pos 0) = onward new-node (node-kept j later (keeps-append j (e ∷ [])) (Reached (e.walk ++ p ∷ [])) node) refl in
      let turn = port-turn host later (Reached e.walk) (Reached e.walk) (Reached (e.walk ++ p ∷ [])) (pos 0) p (pos 0) next.true_of_one (same new-node) leads in
      let zero : p +ℤ pos 0 ≡ p = omega (arith, ints) in
      subst (λ s. IsTurn s) zero turn

  behind-there : (p : ℤ) (w : Way) → IsBehind ns e.walk (length walks + 1) p w → Has more w
  behind-there p w b = by ahead refl
    where
      node : IsNode j (Reached (e.walk ++ p ∷ []))
      node = behind-node p w b

      by : (x : Bool) → ahead ≡ x → Has more w
      by true q = news.behind q p w (behind-turn p node) b
      by false q = absurd (not-node j e.walk next.fresh (has.none q e.walk p (asked-found (answered j (e.walk ++ p ∷ [])) node)))

  new-there : (w : Way) → IsNewWay ns e (length ns) w → Has more w
  new-there w n = by (news.others w (subst (λ k. IsNewWay ns e k w) (sym number-is) n))
    where
      by : Has more w ⊎ ((p : ℤ) × IsBehind ns e.walk (length walks + 1) p w) → Has more w
      by (inl h) = h
      by (inr b) = behind-there b.0 w b.1

  module _ (after : List (List ℤ)) (pushed : after ≡ walks ++ e.walk ∷ []) (new : Joined) (settled : IsSettlingIn host (j ++ e ∷ []) j (nodes_of after) (stands.kept.ways ++ more) new []) where
    ns-after : nodes_of after ≡ ns ++ Reached e.walk ∷ []
    ns-after = nodes-pushed walks after e.walk pushed

    counts : (counted : List ℕ) → counted ≡ asked ++ count ∷ [] → CountsAsked j (nodes_of after) counted
    counts counted is = subst (λ (ms : List Node). CountsAsked j ms counted) (sym ns-after) (subst (λ (ks : List ℕ). CountsAsked j (ns ++ Reached e.walk ∷ []) ks) (sym is) (counts-added j ns asked e.walk count count-is stands.kept.asked))

    all-ways : AreWays host later (nodes_of after) (stands.kept.ways ++ more)
    all-ways =
        subst (λ (ms : List Node). AreWays host later ms (stands.kept.ways ++ more)) (sym ns-after)
        (longer-ways host j e ns numbered next.once next.fresh found stands.kept.ways (stands.kept.ways ++ more) stands.kept.are (λ w h. keeps stands.kept.ways more w h) (λ w n. adds stands.kept.ways more w (new-there w n)) (λ w h. subst (λ (ms : List Node). IsWay host later ms w) ns-after (settled.knows.ways w h)))

    pub between-grown : (counted : List ℕ) → counted ≡ asked ++ count ∷ [] → IsBetween host j e (class_table after (kept_of new counted orphans ahead) new.heads.marks.items)
    between-grown counted is = record {
      numbered = ns-after ∙ ap (λ ms. ms ++ Reached e.walk ∷ []) numbered ∙ sym (nodes-more j e found);
      frames = refl;
      ways = stands.kept.ways ++ more;
      are = all-ways;
      settled = settled;
      asked = counts counted is;
      orphans = orphans-next j e orphans orphans ahead next.fresh has (λ w h. inl h) (λ w h. h) (λ w s p n. absurd (false≢true (sym (ap is_found n) ∙ found)));
      none = has.none;
    }

    few-nodes : length (nodes_of after) < 2 ^ 32
    few-nodes =
        let few = next.few in
        let l = few-walks j walks numbered in
        let c = count-nodes walks in
        let a : length (nodes_of after) ≡ length (ns ++ Reached e.walk ∷ []) = ap length ns-after in
        let b = length-append ns (Reached e.walk ∷ []) in
        omega arith

    pub table-grown : (kept : Kept) → IsTable (record { nodes = nodes_of after; frames = map (seen_frame new.heads.heads.items) new.frames.items; expanded = new.heads.marks.items; kept = kept })
    table-grown kept = table-kept host later j (nodes_of after) (stands.kept.ways ++ more) new.frames.items new.ends.items new.hosts.items new.heads.heads.items new.heads.names.items new.heads.marks.items settled kept few-nodes

    pub shape-grown : (counted : List ℕ) → counted ≡ asked ++ count ∷ [] → IsShaped (kept_of new counted orphans ahead)
    shape-grown counted is = shape-kept host later j (nodes_of after) (stands.kept.ways ++ more) new.frames.items new.ends.items new.hosts.items new.heads.heads.items new.heads.names.items new.heads.marks.items settled counted orphans ahead (counts counted is)

-- an entry that found nothing
pub between-same : (host : ℕ) (j : List Entry) (e : Entry) (c : ClassTable) (orphans : List (List ℤ)) → StandsFor host j c → IsNext host j e → is_found e.answer ≡ false → c.frames ≡ map (seen_frame c.kept.heads) c.kept.frames → HasOrphans (j ++ e ∷ []) orphans true → IsBetween host j e (record c { kept = record c.kept { orphans = orphans } })
between-same host j e c orphans stands next lost frames has =
    let k = stands.kept in
    record {
      numbered = stands.numbered ∙ sym (nodes-same j e lost);
      frames = frames;
      ways = k.ways;
      are = ways-same host j (j ++ e ∷ []) (keeps-append j (e ∷ [])) c.nodes each k.ways k.are;
      settled = record {
        truth = next.true_of_one;
        knows = know-same host j (j ++ e ∷ []) (keeps-append j (e ∷ [])) c.nodes each k.ways c.kept.frames (known_at c.kept.hosts c.kept.ends) [] k.settled.knows;
        heads = k.settled.heads;
        headed = k.settled.headed;
        table = k.settled.table;
        counted = k.settled.counted;
        marked = k.settled.marked;
      };
      asked = k.asked;
      orphans = has;
      none = k.orphans.none;
    }
  where
    each : (m : ℕ) → m < length c.nodes → IsNode j (node_at c.nodes m)
    each m l = subst (λ (ms : List Node). m < length ms → IsNode j (node_at ms m)) (sym stands.numbered) (at-node j next.once m) l
