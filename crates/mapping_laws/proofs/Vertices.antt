-- The least nodes of a journal's classes, in their order, where classes can be decided: each node has one of its class among them.
use Rattle.std.proofs.Common.{◌≡◌, ◌<◌, ℕ, zero, suc, Bool, true, false, List, [], ◌∷◌, ◌⊎◌, inl, inr, Some, refl, sym, ◌∙◌, subst, true≢false, arith}
use Rattle.std.specs.Prelude.{ℤ, pos, ◌+ℤ◌, slice_get}
use Rattle.std.specs.List.{AllByRecursion}
use Rattle.journal_defs.specs.declared.entry.Entry.{Entry}
use Rattle.journal_defs.specs.Tree.{Node, IsNode, node_below}
use Rattle.journal_defs.specs.Tree.Node.{Mapper, Reached}
use Rattle.journal_defs.specs.Replicates.{Replicates}
use Rattle.journal_defs.specs.Replicates.Replicates.{same, along}
use Rattle.journal_defs.proofs.Members.{IsMember, member-map, member-place, all-member, all-from-members}
use Rattle.journal_defs.proofs.Order.{below-trans}
use Rattle.journal_defs.proofs.Standing.{replicates-nodes}
use Rattle.map_laws.proofs.Classes.{all_nodes, HasClasses, classes, one-or-not}
use Rattle.map_laws.proofs.Few.{node-found}
use Rattle.map_laws.proofs.Full.{AreOne}
use Rattle.map_laws.proofs.Looking.{Each, Among, look, IsOrder, Least, least}
use Rattle.map_defs.specs.Quotient.{IsLeastNode, HasVertex}
use Rattle.map_defs.proofs.TwoHosts.{itself_not_below}
use Rattle.map_laws.proofs.Least.{not_apart-nodes}
use Rattle.map_laws.proofs.OneMap.{place-member}
use Rattle.mapping_laws.specs.Maps.{HasLeastNodes, LeastNodesExist}

-- nodes in their order
node-through : (u v w : Node) → node_below u v ≡ true → node_below v w ≡ true → node_below u w ≡ true
node-through u v Mapper e f = f
node-through u Mapper (Reached w) e f = absurd (true≢false (sym e))
node-through Mapper (Reached v) (Reached w) e f = refl
node-through (Reached u) (Reached v) (Reached w) e f = below-trans u v w e f

node_order : IsOrder (λ u v. node_below u v ≡ true)
node_order = record { never = λ u b. true≢false (sym b ∙ itself_not_below u); through = node-through; either = λ u v. by u v (node_below u v) refl }
  where
    by : (u v : Node) (b : Bool) → node_below u v ≡ b → (node_below u v ≡ true) ⊎ ¬ (node_below u v ≡ true)
    by u v true e = inl e
    by u v false e = inr (λ l. true≢false (sym l ∙ e))

abbrev AreSorted : List Node → Type 0
AreSorted [] = Unit {0}
AreSorted (u ∷ us) = AllByRecursion (λ x. node_below u x ≡ true) us × AreSorted us

-- the elements of a list that something holds of, in order
record Collected (P : Node → Type 0) (us : List Node) : Type 0 where
  pub list : List Node
  pub sorted : AreSorted list
  pub each : (u : Node) → IsMember u list → P u
  pub whole : (u : Node) → IsMember u us → P u → IsMember u list

-- a node more in an ordered list
record Inserted (u : Node) (us : List Node) : Type 0 where
  pub list : List Node
  pub sorted : AreSorted list
  pub here : IsMember u list
  pub kept : (x : Node) → IsMember x us → IsMember x list
  pub only : (x : Node) → IsMember x list → (x ≡ u) ⊎ IsMember x us

all-behind : (u v : Node) (us : List Node) → node_below u v ≡ true → AllByRecursion (λ x. node_below v x ≡ true) us → AllByRecursion (λ x. node_below u x ≡ true) us
all-behind u v [] e all = tt
all-behind u v (x ∷ us) e all = (node-through u v x e all.0, all-behind u v us e all.1)

insert : (u : Node) (us : List Node) → AreSorted us → Inserted u us
insert u [] s = record { list = u ∷ []; sorted = (tt, tt); here = inl refl; kept = λ x m. absurd m; only = λ x m. m }
insert u (v ∷ us) s = by (node_below u v) (node_below v u) refl refl (insert u us s.1)
  where
    by : (a b : Bool) → node_below u v ≡ a → node_below v u ≡ b → Inserted u us → Inserted u (v ∷ us)
    by true b e f r = record { list = u ∷ v ∷ us; sorted = ((e, all-behind u v us e s.0), s); here = inl refl; kept = λ x m. inr m; only = λ x m. m }
    by false true e f r = record {
      list = v ∷ r.list;
      sorted = (all-from-members (λ x. node_below v x ≡ true) r.list (λ x m. later x (r.only x m)), r.sorted);
      here = inr r.here;
      kept = λ x m. keep x m;
      only = λ x m. either x m;
    }
      where
        later : (x : Node) → (x ≡ u) ⊎ IsMember x us → node_below v x ≡ true
        later x (inl p) = subst (λ y. node_below v y ≡ true) (sym p) f
        later x (inr m) = all-member (λ y. node_below v y ≡ true) x us s.0 m

        keep : (x : Node) → (x ≡ v) ⊎ IsMember x us → IsMember x (v ∷ r.list)
        keep x (inl p) = inl p
        keep x (inr m) = inr (r.kept x m)

        either : (x : Node) → (x ≡ v) ⊎ IsMember x r.list → (x ≡ u) ⊎ IsMember x (v ∷ us)
        either x (inl p) = inr (inl p)
        either x (inr m) = of (r.only x m)
          where
            of : (x ≡ u) ⊎ IsMember x us → (x ≡ u) ⊎ IsMember x (v ∷ us)
            of (inl p) = inl p
            of (inr k) = inr (inr k)
    by false false e f r = record { list = v ∷ us; sorted = s; here = inl (not_apart-nodes u v e f); kept = λ x m. m; only = λ x m. inr m }

collect : (P : Node → Type 0) (us : List Node) → ((u : Node) → P u ⊎ ¬ P u) → Collected P us
collect P [] either = record { list = []; sorted = tt; each = λ u m. absurd m; whole = λ u m p. absurd m }
collect P (u ∷ us) either = by (either u) (collect P us either)
  where
    by : P u ⊎ ¬ P u → Collected P us → Collected P (u ∷ us)
    by (inr none) c = record { list = c.list; sorted = c.sorted; each = c.each; whole = λ x m p. of x m p }
      where
        of : (x : Node) → (x ≡ u) ⊎ IsMember x us → P x → IsMember x c.list
        of x (inl e) p = absurd (none (subst P e p))
        of x (inr m) p = c.whole x m p
    by (inl here) c = record { list = more.list; sorted = more.sorted; each = λ x m. held x (more.only x m); whole = λ x m p. of x m p }
      where
        more : Inserted u c.list
        more = insert u c.list c.sorted

        held : (x : Node) → (x ≡ u) ⊎ IsMember x c.list → P x
        held x (inl e) = subst P (sym e) here
        held x (inr m) = c.each x m

        of : (x : Node) → (x ≡ u) ⊎ IsMember x us → P x → IsMember x more.list
        of x (inl e) p = subst (λ y. IsMember y more.list) (sym e) more.here
        of x (inr m) p = more.kept x (c.whole x m p)

-- places of an ordered list
places-sorted : (us : List Node) (v w : ℕ) (u x : Node) → AreSorted us → v < w → slice_get us v ≡ Some u → slice_get us w ≡ Some x → node_below u x ≡ true
places-sorted [] v w u x s l e f = cc
places-sorted (y ∷ us) v zero u x s l e f = absurd (omega (arith, l))
places-sorted (y ∷ us) zero (suc w) u x s l e f = let one : y ≡ u = cc in subst (λ z. node_below z x ≡ true) one (all-member (λ z. node_below y z ≡ true) x us s.0 (place-member us w x f))
places-sorted (y ∷ us) (suc v) (suc w) u x s l e f = places-sorted us v w u x s.1 (omega (arith, l)) e f

module _ (host : ℕ) (j : List Entry) (c : HasClasses host j) where
  listed : (u : Node) → IsNode j u → IsMember u (all_nodes j)
  listed Mapper e = inl refl
  listed (Reached w) e = inr (member-map Reached w _ (node-found j w e))

  is_node-or-not : (u : Node) → IsNode j u ⊎ ¬ IsNode j u
  is_node-or-not u = by (one-or-not host j u u c)
    where
      by : AreOne host j u u ⊎ ¬ AreOne host j u u → IsNode j u ⊎ ¬ IsNode j u
      by (inl one) = inl (replicates-nodes host j u u one.offset one.one_class).0
      by (inr none) = inr (λ node. none (record { offset = pos 0; one_class = same node }))

  -- whether a node is the least of its class
  least-or-not : (u : Node) → IsLeastNode host j u ⊎ ¬ IsLeastNode host j u
  least-or-not u = by (is_node-or-not u) (look (λ v. ¬ (AreOne host j u v × (node_below v u ≡ true))) (λ v. AreOne host j u v × (node_below v u ≡ true)) (all_nodes j) (λ v m. one v (one-or-not host j u v c) (node_below v u) refl))
    where
      one : (v : Node) → AreOne host j u v ⊎ ¬ AreOne host j u v → (b : Bool) → node_below v u ≡ b → (¬ (AreOne host j u v × (node_below v u ≡ true))) ⊎ (AreOne host j u v × (node_below v u ≡ true))
      one v (inl a) true e = inr (a, e)
      one v (inl a) false e = inl (λ both. true≢false (sym both.1 ∙ e))
      one v (inr d) b e = inl (λ both. d both.0)

      lower : Each (λ v. ¬ (AreOne host j u v × (node_below v u ≡ true))) (all_nodes j) → (v : Node) (k : ℤ) → Replicates host j u v k → (b : Bool) → node_below v u ≡ b → node_below v u ≡ false
      lower none v k r true e = absurd (none v (listed v (replicates-nodes host j u v k r).1) (record { offset = k; one_class = r }, e))
      lower none v k r false e = e

      by : IsNode j u ⊎ ¬ IsNode j u → Each (λ v. ¬ (AreOne host j u v × (node_below v u ≡ true))) (all_nodes j) ⊎ Among (all_nodes j) (λ v. AreOne host j u v × (node_below v u ≡ true)) → IsLeastNode host j u ⊎ ¬ IsLeastNode host j u
      by (inr no_node) r = inr (λ is. no_node is.node)
      by (inl node) (inl none) = inl (record { node = node; least = λ v k r. lower none v k r (node_below v u) refl })
      by (inl node) (inr a) = inr (λ is. true≢false (sym a.holds.1 ∙ is.least a.item a.holds.0.offset a.holds.0.one_class))

  abbrev chosen : Collected (IsLeastNode host j) (all_nodes j)
  chosen = collect (IsLeastNode host j) (all_nodes j) least-or-not

  -- the least node of a class is among them
  class-least : (u : Node) → IsNode j u → (x : Node) × AreOne host j u x × IsLeastNode host j x
  class-least u node = by (least (λ v w. node_below v w ≡ true) node_order (λ v. ¬ AreOne host j u v) (AreOne host j u) (all_nodes j) (λ v m. turned (one-or-not host j u v c)))
    where
      turned : {v : Node} → AreOne host j u v ⊎ ¬ AreOne host j u v → (¬ AreOne host j u v) ⊎ AreOne host j u v
      turned (inl a) = inr a
      turned (inr d) = inl d

      by : Each (λ v. ¬ AreOne host j u v) (all_nodes j) ⊎ Least (λ v w. node_below v w ≡ true) (all_nodes j) (λ v. ¬ AreOne host j u v) (AreOne host j u) → (x : Node) × AreOne host j u x × IsLeastNode host j x
      by (inl none) = absurd (none u (listed u node) (record { offset = pos 0; one_class = same node }))
      by (inr l) = (l.item, l.holds, record { node = (replicates-nodes host j u l.item l.holds.offset l.holds.one_class).1; least = λ v k r. lower v k r (node_below v l.item) refl })
        where
          lower : (v : Node) (k : ℤ) → Replicates host j l.item v k → (b : Bool) → node_below v l.item ≡ b → node_below v l.item ≡ false
          lower v k r true e = absurd (l.lesser v (listed v (replicates-nodes host j l.item v k r).1) e (record { offset = l.holds.offset +ℤ k; one_class = along l.holds.one_class r }))
          lower v k r false e = e

  covered : (u : Node) → IsNode j u → HasVertex host j chosen.list u
  covered u node =
      let x = class-least u node in
      let place = member-place x.0 chosen.list (chosen.whole x.0 (listed x.0 x.2.node) x.2) in
      record { vertex = place.0; offset = x.1.offset; is_of = record { least_node = x.0; there = place.1; one_class = x.1.one_class } }

  pub least-nodes : HasLeastNodes host j
  least-nodes = record {
    least = chosen.list;
    each_least = λ v u e. chosen.each u (place-member chosen.list v u e);
    in_order = λ v w u x l e f. places-sorted chosen.list v w u x chosen.sorted l e f;
    covered = covered;
  }

pub least_nodes_exist : LeastNodesExist
least_nodes_exist n host j f found = least-nodes host j (classes n host j f found)
