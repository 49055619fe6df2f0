-- The asking of a tree ends: the walks of a tree stand in a finite list, and each that was asked is another.
use Rattle.std.proofs.Common.{◌≡◌, ◌<◌, ◌≤◌, ◌+◌, ◌*◌, ℕ, zero, suc, Bool, true, false, List, [], ◌∷◌, ◌++◌, map, length, ◌⊎◌, inl, inr, refl, sym, ◌∙◌, subst, true≢false, arith, length-append}
use Rattle.std.specs.Prelude.{ℤ}
use Rattle.std.proofs.lemmas.Bool.{cases_order}
use Rattle.std.proofs.lemmas.List.{length-map}
use Rattle.net_defs.specs.Network.{Network}
use Rattle.journal_defs.specs.declared.entry.Entry.{Entry}
use Rattle.journal_defs.specs.Walks.{walk_below, IsOnward, onward_turns}
use Rattle.journal_defs.specs.Tree.{IsSwitchNode, is_asked, nodes, reached}
use Rattle.journal_defs.specs.Growth.{crossed, node_limit}
use Rattle.journal_defs.proofs.Members.{IsMember, member-left, member-right, member-map, all-member}
use Rattle.journal_defs.proofs.Counted.{onward-member, all-onward}
use Rattle.journal_defs.proofs.Order.{below-irrefl, below-trans}
use Rattle.map_laws.proofs.Asks.{ByLast, by_last, not_empty, push-parts, switch-node, walks}
use Rattle.map_laws.proofs.Asks.ByLast.{empty, pushed}
use Rattle.map_laws.proofs.Few.{found_walks, found-length, node-found, member-asked}
use Rattle.map_laws.proofs.Looking.{Each, IsOrder, Least, least}
use Rattle.map_laws.proofs.Pigeons.{no-more}
use Rattle.circ_defs.specs.Circuit.{circuit_answer}
use Rattle.circ_defs.specs.Asking.{IsOfTree, IsNextOfTree, IsTreeGrowing}
use Rattle.circ_defs.specs.Asking.IsOfTree.{first, onward}
use Rattle.circ_defs.specs.Asking.IsTreeGrowing.{nothing, more}
use Rattle.circ_laws.proofs.Growing.{growing-once, growing-only}
use Rattle.circ_laws.specs.Laws.{IsTreeStopped}
use Rattle.mapping_laws.specs.Trees.{TreeExists}
use Rattle.mapping_laws.proofs.Closed.{switch-or-not}

walk_order : IsOrder (λ v w. walk_below v w ≡ true)
walk_order = record { never = λ w b. true≢false (sym b ∙ below-irrefl w); through = below-trans; either = λ v w. by v w (walk_below v w) refl }
  where
    by : (v w : List ℤ) (b : Bool) → walk_below v w ≡ b → (walk_below v w ≡ true) ⊎ ¬ (walk_below v w ≡ true)
    by v w true e = inl e
    by v w false e = inr (λ l. true≢false (sym l ∙ e))

-- the 30 walks behind each of these
abbrev behind : List (List ℤ) → List (List ℤ)
behind [] = []
behind (w ∷ ws) = map (λ t. w ++ t ∷ []) onward_turns ++ behind ws

-- the walks that a tree may ask, and others
abbrev tree_walks : List Entry → List (List ℤ)
tree_walks j = [] ∷ behind (found_walks j)

record IsBehind (ws : List (List ℤ)) (x : List ℤ) : Type 0 where
  pub before : List ℤ
  pub turn : ℤ
  pub member : IsMember before ws
  pub onward : IsOnward turn
  pub is : x ≡ before ++ turn ∷ []

append-member : (x : List ℤ) (xs ys : List (List ℤ)) → IsMember x (xs ++ ys) → IsMember x xs ⊎ IsMember x ys
append-member x [] ys m = inr m
append-member x (z ∷ xs) ys (inl e) = inl (inl e)
append-member x (z ∷ xs) ys (inr m) = by (append-member x xs ys m)
  where
    by : IsMember x xs ⊎ IsMember x ys → IsMember x (z ∷ xs) ⊎ IsMember x ys
    by (inl k) = inl (inr k)
    by (inr k) = inr k

map-member : (w x : List ℤ) (ts : List ℤ) → IsMember x (map (λ t. w ++ t ∷ []) ts) → (t : ℤ) × IsMember t ts × (x ≡ w ++ t ∷ [])
map-member w x [] m = absurd m
map-member w x (t ∷ ts) (inl e) = (t, inl refl, e)
map-member w x (t ∷ ts) (inr m) = let k = map-member w x ts m in (k.0, inr k.1, k.2)

member-behind : (ws : List (List ℤ)) (x : List ℤ) → IsMember x (behind ws) → IsBehind ws x
member-behind [] x m = absurd m
member-behind (w ∷ ws) x m = by (append-member x (map (λ t. w ++ t ∷ []) onward_turns) (behind ws) m) (member-behind ws x)
  where
    by : IsMember x (map (λ t. w ++ t ∷ []) onward_turns) ⊎ IsMember x (behind ws) → (IsMember x (behind ws) → IsBehind ws x) → IsBehind (w ∷ ws) x
    by (inl k) rest = let p = map-member w x onward_turns k in record { before = w; turn = p.0; member = inl refl; onward = all-member IsOnward p.0 onward_turns all-onward p.1; is = p.2 }
    by (inr k) rest = let b = rest k in record { before = b.before; turn = b.turn; member = inr b.member; onward = b.onward; is = b.is }

behind-member : (ws : List (List ℤ)) (w : List ℤ) (t : ℤ) → IsMember w ws → IsOnward t → IsMember (w ++ t ∷ []) (behind ws)
behind-member [] w t m o = absurd m
behind-member (v ∷ ws) w t (inl e) o = member-left (w ++ t ∷ []) (map (λ s. v ++ s ∷ []) onward_turns) (behind ws) (subst (λ u. IsMember (w ++ t ∷ []) (map (λ s. u ++ s ∷ []) onward_turns)) e (member-map (λ s. w ++ s ∷ []) t onward_turns (onward-member t o)))
behind-member (v ∷ ws) w t (inr m) o = member-right (w ++ t ∷ []) (map (λ s. v ++ s ∷ []) onward_turns) (behind ws) (behind-member ws w t m o)

behind-length : (ws : List (List ℤ)) → length (behind ws) ≡ 30 * length ws
behind-length [] = refl
behind-length (w ∷ ws) =
    let here : length (map (λ t. w ++ t ∷ []) onward_turns) ≡ 30 = length-map onward_turns (λ t. w ++ t ∷ []) in
    let both = length-append (map (λ t. w ++ t ∷ []) onward_turns) (behind ws) in
    let rest = behind-length ws in
    omega (arith, here, both, rest)

-- a walk of a tree is among these
of_tree-listed : (depth : ℕ) (j : List Entry) (x : List ℤ) → IsOfTree depth j x → IsMember x (tree_walks j)
of_tree-listed depth j x (first e) = inl e
of_tree-listed depth j x (onward w t s near o e) = inr (subst (λ y. IsMember y (behind (found_walks j))) (sym e) (behind-member (found_walks j) w t (node-found j w (switch-node j w s)) o))

-- what comes next in a tree
data Next (depth : ℕ) (j : List Entry) : Type 0 where
  asks : (x : List ℤ) → IsNextOfTree depth j x → Next depth j
  ends : ((x : List ℤ) → IsOfTree depth j x → is_asked j x ≡ true) → Next depth j

-- a walk that needn't be asked, and one that is to be
abbrev Done : ℕ → List Entry → List ℤ → Type 0
Done depth j x = IsOfTree depth j x → is_asked j x ≡ true

abbrev Open : ℕ → List Entry → List ℤ → Type 0
Open depth j x = IsOfTree depth j x × (is_asked j x ≡ false)

next : (depth : ℕ) (j : List Entry) → Next depth j
next depth j = by (least (λ v w. walk_below v w ≡ true) walk_order (Done depth j) (Open depth j) (tree_walks j) decide)
  where
    asked-or-not : (x : List ℤ) → IsOfTree depth j x → (b : Bool) → is_asked j x ≡ b → Done depth j x ⊎ Open depth j x
    asked-or-not x of true e = inl (λ o. e)
    asked-or-not x of false e = inr (of, e)

    -- no other switch is behind it
    only : (x w : List ℤ) (t : ℤ) → x ≡ w ++ t ∷ [] → (IsSwitchNode j w → crossed w < depth → ⊥) → IsOfTree depth j x → is_asked j x ≡ true
    only x w t is none (first e) = absurd (not_empty w t (sym is ∙ e))
    only x w t is none (onward v s switch near on e) =
        let same : v ≡ w = (push-parts v w s t (sym e ∙ is)).0 in
        absurd (none (subst (IsSwitchNode j) same switch) (subst (λ u. crossed u < depth) same near))

    of_behind : (x : List ℤ) (b : IsBehind (found_walks j) x) → IsSwitchNode j b.before ⊎ ¬ IsSwitchNode j b.before → (crossed b.before ≡ depth) ⊎ ((crossed b.before < depth) ⊎ (depth < crossed b.before)) → Done depth j x ⊎ Open depth j x
    of_behind x b (inl s) (inr (inl near)) = asked-or-not x (onward b.before b.turn s near b.onward b.is) (is_asked j x) refl
    of_behind x b (inr d) near = inl (only x b.before b.turn b.is (λ s n. d s))
    of_behind x b (inl s) (inl e) = inl (only x b.before b.turn b.is (λ t n. absurd (omega (arith, e, n))))
    of_behind x b (inl s) (inr (inr l)) = inl (only x b.before b.turn b.is (λ t n. absurd (omega (arith, l, n))))

    decide : (x : List ℤ) → IsMember x (tree_walks j) → Done depth j x ⊎ Open depth j x
    decide x (inl e) = asked-or-not x (first e) (is_asked j x) refl
    decide x (inr m) = let b = member-behind (found_walks j) x m in of_behind x b (switch-or-not j b.before) (cases_order (crossed b.before) depth)

    by : Each (Done depth j) (tree_walks j) ⊎ Least (λ v w. walk_below v w ≡ true) (tree_walks j) (Done depth j) (Open depth j) → Next depth j
    by (inl all) = ends (λ x of. all x (of_tree-listed depth j x of) of)
    by (inr l) = asks l.item (record { of_tree = l.holds.0; unasked = l.holds.1; least = λ y of none. lower y of none (walk_below y l.item) refl })
      where
        lower : (y : List ℤ) → IsOfTree depth j y → is_asked j y ≡ false → (b : Bool) → walk_below y l.item ≡ b → walk_below y l.item ≡ false
        lower y of none true e = absurd (true≢false (sym (l.lesser y (of_tree-listed depth j y of) e of) ∙ none))
        lower y of none false e = e

-- each walk of a tree's journal is among its walks, so they are few
asked-listed : (n : Network) (host depth : ℕ) (j : List Entry) (x : List ℤ) → IsTreeGrowing n host depth j → is_asked j x ≡ true → IsMember x (tree_walks j)
asked-listed n host depth j x g asked = by (by_last x)
  where
    by : ByLast x → IsMember x (tree_walks j)
    by (empty e) = inl e
    by (pushed w t is) =
        let on = growing-only n host depth j w t g (subst (λ y. is_asked j y ≡ true) is asked) in
        inr (subst (λ y. IsMember y (behind (found_walks j))) (sym is) (behind-member (found_walks j) w t (node-found j w (switch-node j w on.switch)) on.onward))

walk-of : (x : List ℤ) (j : List Entry) → IsMember x (walks j) → (e : Entry) × IsMember e j × (x ≡ e.walk)
walk-of x [] m = absurd m
walk-of x (e ∷ j) (inl p) = (e, inl refl, p)
walk-of x (e ∷ j) (inr m) = let k = walk-of x j m in (k.0, inr k.1, k.2)

few : (n : Network) (host depth : ℕ) (j : List Entry) → IsTreeGrowing n host depth j → length j ≤ 1 + 30 * length (reached j)
few n host depth j g =
    let most = no-more (walks j) (tree_walks j) (growing-once n host depth j g) (λ x m. listed x (walk-of x j m)) in
    let long : length (walks j) ≡ length j = length-map j (λ (e : Entry). e.walk) in
    let all = behind-length (found_walks j) in
    let same = found-length j in
    omega (arith, most, long, all, same)
  where
    listed : (x : List ℤ) → (e : Entry) × IsMember e j × (x ≡ e.walk) → IsMember x (tree_walks j)
    listed x k = asked-listed n host depth j x g (subst (λ y. is_asked j y ≡ true) (sym k.2) (member-asked j k.0 k.1))

-- a tree that came to its end
record HasTree (n : Network) (host depth : ℕ) : Type 0 where
  pub journal : List Entry
  pub growing : IsTreeGrowing n host depth journal
  pub stopped : IsTreeStopped depth journal

-- how a journal goes on: growing, within the limit, and with an ask fewer to come
abbrev GoesFurther : Network → ℕ → ℕ → ℕ → ℕ → Type 0
GoesFurther n host depth bound m = (i : List Entry) → IsTreeGrowing n host depth i → length (nodes i) ≤ node_limit → bound ≤ m + length i → HasTree n host depth

pushes : (n : Network) (host depth bound m : ℕ) (j : List Entry) (e : Entry) → IsTreeGrowing n host depth j → length (nodes j) ≤ node_limit → bound ≤ suc m + length j → e.answer ≡ circuit_answer n host e.walk → IsNextOfTree depth j e.walk → GoesFurther n host depth bound m → HasTree n host depth
pushes n host depth bound m j e g kept l told ask rest = limit (cases_order (length (nodes (j ++ e ∷ []))) node_limit)
  where
    growing : IsTreeGrowing n host depth (j ++ e ∷ [])
    growing = more j e g ask told refl

    longer : length (j ++ e ∷ []) ≡ length j + 1
    longer = length-append j (e ∷ [])

    limit : (length (nodes (j ++ e ∷ [])) ≡ node_limit) ⊎ ((length (nodes (j ++ e ∷ [])) < node_limit) ⊎ (node_limit < length (nodes (j ++ e ∷ [])))) → HasTree n host depth
    limit (inl p) = rest (j ++ e ∷ []) growing (omega arith) (let k = longer in omega arith)
    limit (inr (inl p)) = rest (j ++ e ∷ []) growing (omega arith) (let k = longer in omega arith)
    limit (inr (inr p)) = record { journal = j ++ e ∷ []; growing = growing; stopped = inr (record { before = j; last = e; whole = refl; kept = kept; passed = p }) }

grow : (n : Network) (host depth bound m : ℕ) → ((i : List Entry) → IsTreeGrowing n host depth i → length (nodes i) ≤ node_limit → length i < bound) → GoesFurther n host depth bound m
grow n host depth bound zero short j g kept l = let s = short j g kept in absurd (omega arith)
grow n host depth bound (suc m) short j g kept l = by (next depth j) (grow n host depth bound m short)
  where
    by : Next depth j → GoesFurther n host depth bound m → HasTree n host depth
    by (ends all) rest = record { journal = j; growing = g; stopped = inl (record { asked = all; kept = kept }) }
    by (asks x a) rest = pushes n host depth bound m j (record { walk = x; answer = circuit_answer n host x }) g kept l refl a rest

pub tree_exists : TreeExists
tree_exists n host depth =
    let h = grow n host depth 1966052 1966052 (λ i g kept. (let f = few n host depth i g in omega arith)) [] nothing (omega arith) (omega arith) in
    (h.journal, h.growing, h.stopped)
