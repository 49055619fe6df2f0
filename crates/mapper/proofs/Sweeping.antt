-- The nodes of a journal taken one after another are the nodes that are to be expanded, in their order.
use Rattle.std.proofs.Common.{◌≡◌, ◌<◌, ◌≤◌, ◌+◌, ℕ, zero, suc, List, [], ◌∷◌, ◌++◌, length, length-append, Bool, true, false, true≢false, Some, sym, ◌∙◌, subst, ap, refl, arith, if◌then◌else◌, ◌⊎◌, inl, inr}
use Rattle.std.specs.Prelude.{ℤ, slice_get, Result, Ok, nat_le}
use Rattle.std.specs.declared.alloc.AllocError.{AllocError}
use Rattle.std.proofs.lemmas.Bool.{cases_order}
use Rattle.std.proofs.lemmas.Bool.Decides.{nat_tests}
use Rattle.net_defs.specs.declared.place.Answer.{Answer}
use Rattle.net_defs.specs.declared.place.Answer.TheVariants.{Switch}
use Rattle.net_defs.specs.Network.{Network}
use Rattle.journal_defs.specs.declared.entry.Entry.{Entry}
use Rattle.net_defs.specs.Turn.{same_turns}
use Rattle.journal_defs.specs.Walks.{turns_below, walk_below}
use Rattle.journal_defs.specs.Tree.{IsSwitchNode, answered, is_asked, nodes}
use Rattle.journal_defs.specs.Tree.Node.{Reached}
use Rattle.journal_defs.specs.Growth.{IsGrowing, IsAtRest, IsExpanded, IsChosen, IsEndedAtLimit, HasExpanded, crossed, node_limit}
use Rattle.net_defs.proofs.Turns.{same_turns-true}
use Rattle.journal_defs.proofs.Order.{below-parts, below-trans, below-irrefl}
use Rattle.map_laws.proofs.Keeping.{Keeps, keeps-append, asked-kept, has_expanded-kept}
use Rattle.map_laws.proofs.Asks.{growing-once, switch-node, expanded-has}
use Rattle.map_laws.proofs.Few.{asks_are_few}
use Rattle.replicate_merge.specs.Table.{StandsFor}
use Rattle.mapper.specs.Growths.{HasGrown, IsUnderWay, ExpandsOrFills, IsNextOpen, AreExpanded, IsSwept, IsWhole}
use Rattle.mapper.specs.Growths.ExpandsOrFills.{expands, fills}
use Rattle.mapper.specs.declared.tree.Tree.{Tree}
use Rattle.mapper.proofs.Rising.{rising}
use Rattle.mapper.proofs.Telling.{entry-answered}

-- where a walk with an answer stands
pub record StandsAt (j : List Entry) (w : List ℤ) (a : Answer) : Type 0 where
  pub place : ℕ
  pub entry : Entry
  pub there : slice_get j place ≡ Some entry
  pub walk : entry.walk ≡ w
  pub answer : entry.answer ≡ a

pub stands-at : (j : List Entry) (w : List ℤ) (a : Answer) → answered j w ≡ Some a → StandsAt j w a
stands-at [] w a e = cc
stands-at (x ∷ j) w a e = by (same_turns x.walk w) refl e (stands-at j w a)
  where
    by : (b : Bool) → same_turns x.walk w ≡ b → (if b then Some x.answer else answered j w) ≡ Some a → (answered j w ≡ Some a → StandsAt j w a) → StandsAt (x ∷ j) w a
    by true p f rest = record { place = 0; entry = x; there = refl; walk = same_turns-true x.walk w p; answer = (let one : x.answer ≡ a = cc in one) }
    by false p f rest = let s = rest f in record { place = suc s.place; entry = s.entry; there = s.there; walk = s.walk; answer = s.answer }

pub slice-within : (j : List Entry) (i : ℕ) (d : Entry) → slice_get j i ≡ Some d → i < length j
slice-within [] i d e = cc
slice-within (x ∷ j) zero d e = omega arith
slice-within (x ∷ j) (suc i) d e = let l = slice-within j i d e in omega arith

slice-left : (j l : List Entry) (i : ℕ) → i < length j → slice_get (j ++ l) i ≡ slice_get j i
slice-left [] l i b = absurd (omega arith)
slice-left (x ∷ j) l zero b = refl
slice-left (x ∷ j) l (suc i) b = slice-left j l i (omega arith)

-- of two entries the one of the lesser walk stands before the other
lesser-place : (host depth : ℕ) (j : List Entry) (i k : ℕ) (d e : Entry) → IsGrowing host depth j → slice_get j i ≡ Some d → slice_get j k ≡ Some e → walk_below d.walk e.walk ≡ true → i < k
lesser-place host depth j i k d e g a b low = by (cases_order i k)
  where
    by : (i ≡ k) ⊎ ((i < k) ⊎ (k < i)) → i < k
    by (inl p) =
        let both : Some d ≡ Some e = sym a ∙ ap (slice_get j) p ∙ b in
        let one : d ≡ e = cc in
        absurd (true≢false (sym low ∙ ap (λ (x : Entry). walk_below x.walk e.walk) one ∙ below-irrefl e.walk))
    by (inr (inl l)) = l
    by (inr (inr l)) = absurd (true≢false (sym (below-trans d.walk e.walk d.walk low ((rising host depth j g).rising k i e d b a l)) ∙ below-irrefl d.walk))

-- no entry before the next open place is to be expanded
before-open : (host depth : ℕ) (j : List Entry) (next to : ℕ) → AreExpanded host depth j 0 next → AreExpanded host depth j next to → AreExpanded host depth j 0 to
before-open host depth j next to a b = record { each = λ i e l m there. by i e m there (cases_order i next) }
  where
    by : (i : ℕ) (e : Entry) → i < to → slice_get j i ≡ Some e → (i ≡ next) ⊎ ((i < next) ⊎ (next < i)) → e.answer ≡ Switch → crossed e.walk < depth → HasExpanded host j (Reached e.walk)
    by i e m there (inl p) = b.each i e (omega arith) m there
    by i e m there (inr (inl p)) = a.each i e (omega arith) p there
    by i e m there (inr (inr p)) = b.each i e (omega arith) m there

shorter : (v w : List ℤ) → walk_below v w ≡ true → length v ≤ length w
shorter v w e = by (below-parts v w e)
  where
    by : (length v < length w) ⊎ ((length v ≡ length w) × (turns_below v w ≡ true)) → length v ≤ length w
    by (inl l) = omega arith
    by (inr p) = let q = p.0 in omega arith

module _ (t : Tree) (next : ℕ) (settled : IsSwept t next) where
  -- the entry at the next open place is the node that is chosen
  pub open-chosen : (place : ℕ) → IsNextOpen t.journal.host t.depth t.journal.entries next place → (w : List ℤ) (e : Entry) → slice_get t.journal.entries place ≡ Some e → e.walk ≡ w → IsChosen t.journal.host t.depth t.journal.entries w
  open-chosen place o w e at is = subst (IsChosen host depth j) (ap (λ (x : Entry). x.walk) one ∙ is) (record {
    switch = entry-answered j place o.is_open.entry (growing-once host depth j settled.under_way.growing) o.is_open.there ∙ ap Some o.is_open.is_open.switch;
    near = o.is_open.is_open.near;
    fresh = o.is_open.is_open.fresh;
    lesser = λ v s low. before v low (stands-at j v Switch s);
  })
    where
      host : ℕ
      host = t.journal.host

      depth : ℕ
      depth = t.depth

      j : List Entry
      j = t.journal.entries

      one : o.is_open.entry ≡ e
      one = let both : Some o.is_open.entry ≡ Some e = sym o.is_open.there ∙ at in cc

      before : (v : List ℤ) → walk_below v o.is_open.entry.walk ≡ true → StandsAt j v Switch → HasExpanded host j (Reached v)
      before v low s =
          let all = before-open host depth j next place settled.expanded o.first in
          let low_here : walk_below s.entry.walk o.is_open.entry.walk ≡ true = subst (λ u. walk_below u o.is_open.entry.walk ≡ true) (sym s.walk) low in
          let l = lesser-place host depth j s.place place s.entry o.is_open.entry settled.under_way.growing s.there o.is_open.there low_here in
          let short = shorter s.entry.walk o.is_open.entry.walk low_here in
          let near = o.is_open.is_open.near in
          subst (λ u. HasExpanded host j (Reached u)) s.walk (all.each s.place s.entry (omega arith) l s.there s.answer (omega arith))

  -- a tree of which no entry is to be expanded has grown
  pub settled-whole : AreExpanded t.journal.host t.depth t.journal.entries next (length t.journal.entries) → IsWhole t
  settled-whole rest = record {
    stands = settled.under_way.stands;
    counted = settled.under_way.counted;
    grown = record {
      growing = settled.under_way.growing;
      ended = inl (record {
        started = settled.started;
        at_rest = settled.rest;
        expanded = λ w s near. at w near (stands-at t.journal.entries w Switch s);
        kept = (let c = settled.under_way.counted in let k = settled.under_way.kept in omega arith);
      });
    };
  }
    where
      at : (w : List ℤ) → crossed w < t.depth → StandsAt t.journal.entries w Switch → HasExpanded t.journal.host t.journal.entries (Reached w)
      at w near s =
          let all = before-open t.journal.host t.depth t.journal.entries next (length t.journal.entries) settled.expanded rest in
          subst (λ u. HasExpanded t.journal.host t.journal.entries (Reached u)) s.walk (all.each s.place s.entry (omega arith) (slice-within t.journal.entries s.place s.entry s.there) s.there s.answer (subst (λ u. crossed u < t.depth) (sym s.walk) near))

  -- once the node at the next open place is expanded, the tree is settled up to the next place
  module _ (S : Type 0) (asked : S → List ℤ → Answer → S → Type 0) (n : Network) (new : Tree) (before after : S) (lost now : ℕ) (g : HasGrown S asked n t before lost new after now) where
    pub open-settled : (place : ℕ) → IsNextOpen t.journal.host t.depth t.journal.entries next place → (w : List ℤ) (e : Entry) → slice_get t.journal.entries place ≡ Some e → e.walk ≡ w → IsUnderWay new → IsAtRest new.journal.entries → IsExpanded new.journal.entries w → IsSwept new (place + 1)
    open-settled place o w e at is under rest x = record {
      under_way = under;
      rest = rest;
      started = subst (λ i. is_asked i [] ≡ true) (sym g.entries) (asked-kept j (j ++ g.more) (keeps-append j g.more) [] settled.started);
      within = (let l = ap length g.entries in let m = length-append j g.more in let h = slice-within j place e at in omega arith);
      expanded = record { each = λ i d a b there sw near. every i d b there sw (subst (λ k. crossed d.walk < k) g.depth near) };
    }
      where
        j : List Entry
        j = t.journal.entries

        host : ℕ
        host = t.journal.host

        keeps : Keeps j new.journal.entries
        keeps = subst (Keeps j) (sym g.entries) (keeps-append j g.more)

        all : AreExpanded host t.depth j 0 place
        all = before-open host t.depth j next place settled.expanded o.first

        old : (i : ℕ) (d : Entry) → i < length j → slice_get new.journal.entries i ≡ Some d → slice_get j i ≡ Some d
        old i d l there = sym (slice-left j g.more i l) ∙ ap (λ l. slice_get l i) (sym g.entries) ∙ there

        to_new : (u : List ℤ) → HasExpanded host new.journal.entries (Reached u) → HasExpanded new.journal.host new.journal.entries (Reached u)
        to_new u h = subst (λ a. HasExpanded a new.journal.entries (Reached u)) (sym g.host) h

        here : (d : Entry) → slice_get j place ≡ Some d → d.answer ≡ Switch → HasExpanded host new.journal.entries (Reached d.walk)
        here d there sw =
            let both : Some d ≡ Some e = sym there ∙ at in
            let one : d ≡ e = cc in
            let same : d.walk ≡ w = ap (λ (y : Entry). y.walk) one ∙ is in
            let node : IsSwitchNode new.journal.entries d.walk = keeps.kept d.walk Switch (entry-answered j place d (growing-once host t.depth j settled.under_way.growing) there ∙ ap Some sw) in
            expanded-has host new.journal.entries d.walk (switch-node new.journal.entries d.walk node) (subst (IsExpanded new.journal.entries) (sym same) x)

        by : (i : ℕ) (d : Entry) → slice_get j i ≡ Some d → d.answer ≡ Switch → crossed d.walk < t.depth → (i ≡ place) ⊎ ((i < place) ⊎ (place < i)) → i < place + 1 → HasExpanded host new.journal.entries (Reached d.walk)
        by i d there sw near (inl p) b = here d (subst (λ k. slice_get j k ≡ Some d) p there) sw
        by i d there sw near (inr (inl p)) b = has_expanded-kept j new.journal.entries keeps host (Reached d.walk) (all.each i d (omega arith) p there sw near)
        by i d there sw near (inr (inr p)) b = absurd (omega arith)

        every : (i : ℕ) (d : Entry) → i < place + 1 → slice_get new.journal.entries i ≡ Some d → d.answer ≡ Switch → crossed d.walk < t.depth → HasExpanded new.journal.host new.journal.entries (Reached d.walk)
        every i d b there sw near =
            let h = slice-within j place e at in
            to_new d.walk (by i d (old i d (omega arith) there) sw near (cases_order i place) b)

    -- a tree that passed the limit has grown
    pub filled-whole : StandsFor new.journal.host new.journal.entries new.classes → new.nodes ≡ length (nodes new.journal.entries) → IsEndedAtLimit new.journal.entries → IsWhole new
    filled-whole s c l = record {
      stands = s;
      counted = c;
      grown = record {
        growing = subst (λ h. IsGrowing h new.depth new.journal.entries) (sym g.host) (subst (λ d. IsGrowing t.journal.host d new.journal.entries) (sym g.depth) (subst (IsGrowing t.journal.host t.depth) (sym g.entries) g.by_asks.growing));
        ended = inr l;
      };
    }

-- within the limit of nodes a journal is short
pub short-journal : (host depth : ℕ) (j : List Entry) → IsGrowing host depth j → length (nodes j) ≤ node_limit → length j < 4294967295
short-journal host depth j g l = let few = asks_are_few host depth j g in omega arith

pub short-settled : (t : Tree) (next : ℕ) → IsSwept t next → length t.journal.entries < 4294967295
short-settled t next s = short-journal t.journal.host t.depth t.journal.entries s.under_way.growing (let a = s.under_way.counted in let b = s.under_way.kept in omega arith)

-- an answer of this value
abbrev Gives : Result Bool AllocError → Bool → Type 0
Gives r b = r ≡ Ok b

-- what the test of the limit says after a node was expanded
module _ (S : Type 0) (asked : S → List ℤ → Answer → S → Type 0) (n : Network) (t : Tree) (next : ℕ) (settled : IsSwept t next) (new : Tree) (before after : S) (lost now : ℕ) (g : HasGrown S asked n t before lost new after now) where
  pub goes-settled : (place : ℕ) → IsNextOpen t.journal.host t.depth t.journal.entries next place → (w : List ℤ) (e : Entry) → slice_get t.journal.entries place ≡ Some e → e.walk ≡ w → ExpandsOrFills new w → Gives (Ok (nat_le new.nodes 65536)) true → IsSwept new (place + 1)
  goes-settled place o w e at is (expands u r x) ok = open-settled t next settled S asked n new before after lost now g place o w e at is u r x
  goes-settled place o w e at is (fills s c l) ok = absurd (let few : new.nodes ≤ 65536 = within ok in let p = l.passed in omega arith)
    where
      within : Gives (Ok (nat_le new.nodes 65536)) true → new.nodes ≤ 65536
      within f = let one : nat_le new.nodes 65536 ≡ true = cc in grind (arith, nat_tests)

  pub goes-whole : (w : List ℤ) → ExpandsOrFills new w → Gives (Ok (nat_le new.nodes 65536)) false → IsWhole new
  goes-whole w (fills s c l) ok = filled-whole t next settled S asked n new before after lost now g s c l
  goes-whole w (expands u r x) ok = absurd (let many : 65536 < new.nodes = beyond ok in let k = u.kept in omega arith)
    where
      beyond : Gives (Ok (nat_le new.nodes 65536)) false → 65536 < new.nodes
      beyond f = let one : nat_le new.nodes 65536 ≡ false = cc in grind (arith, nat_tests)
