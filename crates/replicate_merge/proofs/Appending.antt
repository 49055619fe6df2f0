-- A node appended to the classes in memory, for each journal for which they stand.
use Rattle.std.proofs.Common.{◌≡◌, ℕ, ◌+◌, List, [], ◌∷◌, ◌++◌, Bool, true, false, length, nat_eq, refl, ap, sym, ◌∙◌, subst}
use Rattle.std.specs.Prelude.{ℤ}
use Rattle.journal_defs.specs.declared.entry.Entry.{Entry}
use Rattle.journal_defs.specs.Tree.{is_found, nodes}
use Rattle.journal_defs.specs.Walks.{onward_turns}
use Rattle.probe.specs.Keeping.{has_walk}
use Rattle.replicate_merge.specs.declared.settling.Joined.{Joined}
use Rattle.replicate_merge.specs.declared.way.Way.{Way}
use Rattle.replicate_merge.specs.Between.{AddsEntry}
use Rattle.replicate_merge.specs.Growing.{Grows, MayGrow}
use Rattle.replicate_merge.specs.Kept.{IsShaped}
use Rattle.replicate_merge.specs.Next.{HasNext}
use Rattle.replicate_merge.specs.Seen.{class_table, kept_of}
use Rattle.replicate_merge.specs.Nodes.{nodes_of}
use Rattle.replicate_merge.specs.Onward.{AreNewWays, AreOnce, known_among}
use Rattle.replicate_merge.specs.Steps.{SameItems}
use Rattle.replicate_merge.specs.Table.{ClassTable, IsTable, StandsFor}
use Rattle.replicate_merge.proofs.Nexts.{between-grown, growing, nodes-pushed, not-node, once-of, shape-grown, table-grown}
use Rattle.replicate_merge.proofs.Orphans.{not-orphan, walk-known}
use Rattle.replicate_merge.proofs.Reading.{same-table}

-- what the next entry's walk is to the walks in memory
module _ (old : ClassTable) (e : Entry) (walks : List (List ℤ)) (t : Joined) (asked : List ℕ) (orphans : List (List ℤ)) (ahead : Bool) (view : class_table walks (kept_of t asked orphans ahead) t.heads.marks.items ≡ old) (x : HasNext old e) where
  numbered : nodes_of walks ≡ nodes x.journal
  numbered = ap (λ (c : ClassTable). c.nodes) view ∙ x.stands.numbered

  pub once-in : AreOnce (nodes_of walks)
  once-in = once-of x.journal (nodes_of walks) numbered x.next.once

  pub new-walk : has_walk walks e.walk ≡ false
  new-walk = by (has_walk walks e.walk) refl
    where
      by : (b : Bool) → has_walk walks e.walk ≡ b → has_walk walks e.walk ≡ false
      by false p = p
      by true p = absurd (not-node x.journal e.walk x.next.fresh (walk-known x.journal walks numbered x.next.once e.walk p))

  pub few-names : length t.heads.names.items ≡ length t.heads.marks.items
  few-names = subst (λ (c : ClassTable). length c.kept.names ≡ length c.expanded) (sym view) (sym x.stands.kept.settled.counted)

-- nor is it one of the orphans
pub new-orphan : (old : ClassTable) (e : Entry) → HasNext old e → has_walk old.kept.orphans e.walk ≡ false
new-orphan old e x = not-orphan x.journal old.kept.orphans old.kept.ahead e.walk x.stands.kept.orphans x.next.fresh

module _ (old : ClassTable) (e : Entry) (walks : List (List ℤ)) (t room : Joined) (asked : List ℕ) (orphans : List (List ℤ)) (ahead : Bool) (view : class_table walks (kept_of t asked orphans ahead) t.heads.marks.items ≡ old) (same : SameItems t room) (found : is_found e.answer ≡ true) (turns : List ℤ) (value : turns ≡ e.walk) (more : List Way)
    (ways : AreNewWays (nodes_of walks) (record { walk = turns; answer = e.answer }) (length walks + 1) ahead more) (count : ℕ) (looked : ahead ≡ true → count ≡ known_among walks orphans turns onward_turns) (unseen : ahead ≡ false → count ≡ 0) (after : List (List ℤ)) (pushed : after ≡ walks ++ turns ∷ []) where
  here : (host : ℕ) (j : List Entry) → StandsFor host j old → StandsFor host j (class_table walks (kept_of room asked orphans ahead) room.heads.marks.items)
  here host j s = subst (λ (c : ClassTable). StandsFor host j c) (sym (same-table walks t room asked orphans ahead same ∙ view)) s

  news : AreNewWays (nodes_of walks) e (length walks + 1) ahead more
  news = subst (λ w. AreNewWays (nodes_of walks) (record { walk = w; answer = e.answer }) (length walks + 1) ahead more) value ways

  looked-at : ahead ≡ true → count ≡ known_among walks orphans e.walk onward_turns
  looked-at a = looked a ∙ ap (λ w. known_among walks orphans w onward_turns) value

  walk-pushed : after ≡ walks ++ e.walk ∷ []
  walk-pushed = pushed ∙ ap (λ w. walks ++ w ∷ []) value

  pub node-may : HasNext old e → MayGrow (nodes_of after) room more (nat_eq count 30)
  node-may x = record {
    host = x.host;
    journal = x.journal;
    entry = e;
    before = nodes_of walks;
    ways = (here x.host x.journal x.stands).kept.ways;
    after = nodes-pushed walks after e.walk walk-pushed;
    is = growing x.host x.journal e walks room asked orphans ahead (here x.host x.journal x.stands) x.next found more news count looked-at unseen;
  }

  module _ (new : Joined) (grows : Grows (nodes_of after) more (nat_eq count 30) room new) (counted : List ℕ) (counts : counted ≡ asked ++ count ∷ []) where
    pub node-adds : AddsEntry old e (class_table after (kept_of new counted orphans ahead) new.heads.marks.items)
    node-adds host j stands next =
        let s = here host j stands in
        let g = growing host j e walks room asked orphans ahead s next found more news count looked-at unseen in
        between-grown host j e walks room asked orphans ahead s next found more news count looked-at unseen after walk-pushed new (grows host j e (nodes_of walks) s.kept.ways (nodes-pushed walks after e.walk walk-pushed) g) counted counts

    pub node-table : HasNext old e → IsTable (class_table after (kept_of new counted orphans ahead) new.heads.marks.items)
    node-table x =
        let s = here x.host x.journal x.stands in
        let g = growing x.host x.journal e walks room asked orphans ahead s x.next found more news count looked-at unseen in
        table-grown x.host x.journal e walks room asked orphans ahead s x.next found more news count looked-at unseen after walk-pushed new (grows x.host x.journal e (nodes_of walks) s.kept.ways (nodes-pushed walks after e.walk walk-pushed) g) (kept_of new counted orphans ahead)

    pub node-shape : HasNext old e → IsShaped (kept_of new counted orphans ahead)
    node-shape x =
        let s = here x.host x.journal x.stands in
        let g = growing x.host x.journal e walks room asked orphans ahead s x.next found more news count looked-at unseen in
        shape-grown x.host x.journal e walks room asked orphans ahead s x.next found more news count looked-at unseen after walk-pushed new (grows x.host x.journal e (nodes_of walks) s.kept.ways (nodes-pushed walks after e.walk walk-pushed) g) counted counts
