-- How many asks a growing journal has: 30 for each node that is begun, and one more.
use Rattle.std.proofs.Common.{◌≡◌, ◌≢◌, ◌≤◌, ◌+◌, ◌*◌, ℕ, suc, List, [], ◌∷◌, ◌++◌, map, length, Bool, true, false, Some, is_some, sym, ◌∙◌, subst, ap, true≢false, refl, arith, length-append, if◌then◌else◌, ◌⊎◌, inl, inr}
use Rattle.std.specs.Prelude.{ℤ, negsuc}
use Rattle.std.specs.List.{AllByRecursion}
use Rattle.std.proofs.lemmas.Bool.{false≢true}
use Rattle.std.proofs.lemmas.List.{length-map}
use Rattle.net_defs.specs.Network.{Apart}
use Rattle.net_defs.proofs.Distinct.{all-weaker}
use Rattle.journal_defs.specs.declared.entry.Entry.{Entry}
use Rattle.journal_defs.specs.Walks.{IsOnward, onward_turns}
use Rattle.net_defs.specs.Turn.{same_turns}
use Rattle.journal_defs.specs.Tree.{IsNode, is_asked, answered, reached, is_found, has_found}
use Rattle.journal_defs.specs.Tree.Node.{Reached}
use Rattle.journal_defs.specs.Growth.{IsGrowing, IsBegun, NextAsk}
use Rattle.journal_defs.specs.Growth.IsGrowing.{nothing, more}
use Rattle.journal_defs.specs.Growth.NextAsk.{first, goes_on, begins}
use Rattle.journal_defs.proofs.Members.{IsMember, member-left, member-right, member-map, all-member}
use Rattle.net_defs.proofs.Turns.{same_turns-true, same_turns-refl}
use Rattle.journal_defs.proofs.Counted.{onward-member}
use Rattle.map_laws.specs.Laws.{AsksAreFew}
use Rattle.map_laws.proofs.Keeping.{keeps-append, begun-kept}
use Rattle.map_laws.proofs.Asks.{HasTree, growing-tree, growing-once, walks, ByLast, by_last, first-unbegun, switch-node, expanded-has}
use Rattle.map_laws.proofs.Asks.ByLast.{empty, pushed}
use Rattle.map_laws.proofs.Phases.{begun-push, chosen-begun}
use Rattle.map_laws.proofs.Pigeons.{no-more}

-- the walks that found something, in the journal's order
abbrev pub found_walks : List Entry → List (List ℤ)
found_walks [] = []
found_walks (e ∷ j) = if is_found e.answer then e.walk ∷ found_walks j else found_walks j

pub found-length : (j : List Entry) → length (reached j) ≡ length (found_walks j)
found-length [] = refl
found-length (e ∷ j) = by (is_found e.answer) (found-length j)
  where
    by : (b : Bool) → length (reached j) ≡ length (found_walks j) → length (if b then Reached e.walk ∷ reached j else reached j) ≡ length (if b then e.walk ∷ found_walks j else found_walks j)
    by true r = ap suc r
    by false r = r

-- what holds of each entry's walk that found something
pub found-all : (P : List ℤ → Type 0) (j : List Entry) → AllByRecursion (λ e. is_found e.answer ≡ true → P e.walk) j → AllByRecursion P (found_walks j)
found-all P [] all = tt
found-all P (e ∷ j) all = by (is_found e.answer) refl (found-all P j all.1)
  where
    by : (b : Bool) → is_found e.answer ≡ b → AllByRecursion P (found_walks j) → AllByRecursion P (if b then e.walk ∷ found_walks j else found_walks j)
    by true p r = (all.0 p, r)
    by false p r = r

apart-found : (x : List ℤ) (j : List Entry) → AllByRecursion (λ y. x ≢ y) (walks j) → AllByRecursion (λ y. x ≢ y) (found_walks j)
apart-found x j all = found-all (λ y. x ≢ y) j (by j all)
  where
    by : (i : List Entry) → AllByRecursion (λ y. x ≢ y) (walks i) → AllByRecursion (λ e. is_found e.answer ≡ true → x ≢ e.walk) i
    by [] a = tt
    by (e ∷ i) a = ((λ f. a.0), by i a.1)

pub found-once : (j : List Entry) → Apart (walks j) → Apart (found_walks j)
found-once [] a = tt
found-once (e ∷ j) a = by (is_found e.answer) (found-once j a.1)
  where
    by : (b : Bool) → Apart (found_walks j) → Apart (if b then e.walk ∷ found_walks j else found_walks j)
    by true r = (apart-found e.walk j a.0, r)
    by false r = r

-- a node's walk is one of these
pub node-found : (j : List Entry) (w : List ℤ) → IsNode j (Reached w) → IsMember w (found_walks j)
node-found [] w e = false≢true e
node-found (x ∷ j) w e = by (same_turns x.walk w) refl e (is_found x.answer) refl (node-found j w)
  where
    by : (s : Bool) → same_turns x.walk w ≡ s → has_found (if s then Some x.answer else answered j w) ≡ true → (f : Bool) → is_found x.answer ≡ f → (IsNode j (Reached w) → IsMember w (found_walks j)) → IsMember w (if f then x.walk ∷ found_walks j else found_walks j)
    by true p q true r rest = inl (sym (same_turns-true x.walk w p))
    by true p q false r rest = absurd (true≢false (sym q ∙ r))
    by false p q true r rest = inr (rest q)
    by false p q false r rest = rest q

-- the walk of an entry was asked
pub member-asked : (j : List Entry) (e : Entry) → IsMember e j → is_asked j e.walk ≡ true
member-asked [] e m = absurd m
member-asked (x ∷ j) e (inl p) = ap (λ b. is_some (if b then Some x.answer else answered j e.walk)) (ap (λ (y : Entry). same_turns x.walk y.walk) p ∙ same_turns-refl x.walk)
member-asked (x ∷ j) e (inr m) = by (same_turns x.walk e.walk) (member-asked j e m)
  where
    by : (b : Bool) → is_asked j e.walk ≡ true → is_some (if b then Some x.answer else answered j e.walk) ≡ true
    by true r = refl
    by false r = r

-- the nodes that are begun, each once
pub record AreBegun (j : List Entry) (ws : List (List ℤ)) : Type 0 where
  pub once : Apart ws
  pub each : AllByRecursion (IsBegun j) ws
  pub whole : (w : List ℤ) → IsBegun j w → IsMember w ws

-- an ask that goes on leaves them
begun-same : (j : List Entry) (e : Entry) (w : List ℤ) (t : ℤ) (ws : List (List ℤ)) → HasTree j → IsBegun j w → e.walk ≡ w ++ t ∷ [] → AreBegun j ws → AreBegun (j ++ e ∷ []) ws
begun-same j e w t ws tree b is a = record {
  once = a.once;
  each = all-weaker (IsBegun j) (IsBegun (j ++ e ∷ [])) ws (λ v c. begun-kept j (j ++ e ∷ []) (keeps-append j (e ∷ [])) v c) a.each;
  whole = λ v c. by v (begun-push j e w v t tree is c);
}
  where
    by : (v : List ℤ) → IsBegun j v ⊎ (v ≡ w) → IsMember v ws
    by v (inl c) = a.whole v c
    by v (inr p) = a.whole v (subst (IsBegun j) (sym p) b)

-- an ask that begins a node adds it
begun-more : (j : List Entry) (e : Entry) (w : List ℤ) (t : ℤ) (ws : List (List ℤ)) → HasTree j → IsBegun (j ++ e ∷ []) w → ¬ IsBegun j w → e.walk ≡ w ++ t ∷ [] → AreBegun j ws → AreBegun (j ++ e ∷ []) (w ∷ ws)
begun-more j e w t ws tree now new is a = record {
  once = (all-weaker (IsBegun j) (λ v. w ≢ v) ws (λ v c p. new (subst (IsBegun j) (sym p) c)) a.each, a.once);
  each = (now, all-weaker (IsBegun j) (IsBegun (j ++ e ∷ [])) ws (λ v c. begun-kept j (j ++ e ∷ []) (keeps-append j (e ∷ [])) v c) a.each);
  whole = λ v c. by v (begun-push j e w v t tree is c);
}
  where
    by : (v : List ℤ) → IsBegun j v ⊎ (v ≡ w) → IsMember v (w ∷ ws)
    by v (inl c) = inr (a.whole v c)
    by v (inr p) = inl p

-- after any ask
begun-after : (host depth : ℕ) (j : List Entry) (e : Entry) (ws : List (List ℤ)) → HasTree j → NextAsk host depth j e.walk → AreBegun j ws → (vs : List (List ℤ)) × AreBegun (j ++ e ∷ []) vs
begun-after host depth j e ws tree (first a b) begun = ([], record { once = tt; each = tt; whole = λ w c. absurd (first-unbegun j e w a b c) })
begun-after host depth j e ws tree (goes_on w t b l least is) begun = (ws, begun-same j e w t ws tree b is begun)
begun-after host depth j e ws tree (begins w rest c is) begun =
    (w ∷ ws, begun-more j e w (negsuc 14) ws tree (chosen-begun host depth j e w c is) (λ b. c.fresh (expanded-has host j w b.node (rest.expanded w b))) is begun)

pub are-begun : (host depth : ℕ) (j : List Entry) → IsGrowing host depth j → (ws : List (List ℤ)) × AreBegun j ws
are-begun host depth j (nothing) = ([], record { once = tt; each = tt; whole = λ w b. absurd (false≢true b.asked) })
are-begun host depth j (more before e g ask is) =
    let rest = are-begun host depth before g in
    subst (λ i. (ws : List (List ℤ)) × AreBegun i ws) (sym is) (begun-after host depth before e rest.0 (growing-tree host depth before g) ask rest.1)

-- the asks that these nodes have
abbrev children : List (List ℤ) → List (List ℤ)
children [] = []
children (w ∷ ws) = map (λ t. w ++ t ∷ []) onward_turns ++ children ws

children-length : (ws : List (List ℤ)) → length (children ws) ≡ 30 * length ws
children-length [] = refl
children-length (w ∷ ws) =
    let rest = children-length ws in
    let here = length-map onward_turns (λ t. w ++ t ∷ []) in
    let thirty : length onward_turns ≡ 30 = refl in
    length-append (map (λ t. w ++ t ∷ []) onward_turns) (children ws) ∙ sum (length (map (λ t. w ++ t ∷ []) onward_turns)) (length (children ws)) (length ws) (here ∙ thirty) rest
  where
    sum : (a b c : ℕ) → a ≡ 30 → b ≡ 30 * c → a + b ≡ 30 * suc c
    sum a b c p q = omega arith

child-member : (w : List ℤ) (t : ℤ) (ws : List (List ℤ)) → IsOnward t → IsMember w ws → IsMember (w ++ t ∷ []) (children ws)
child-member w t [] on m = absurd m
child-member w t (v ∷ ws) on (inl e) = member-left (w ++ t ∷ []) (map (λ s. v ++ s ∷ []) onward_turns) (children ws) (subst (λ x. IsMember (x ++ t ∷ []) (map (λ s. v ++ s ∷ []) onward_turns)) (sym e) (member-map (λ s. v ++ s ∷ []) t onward_turns (onward-member t on)))
child-member w t (v ∷ ws) on (inr m) = member-right (w ++ t ∷ []) (map (λ s. v ++ s ∷ []) onward_turns) (children ws) (child-member w t ws on m)

-- each ask is the first or a turn of a node that is begun
ask-listed : (j : List Entry) (ws : List (List ℤ)) (w : List ℤ) → HasTree j → AreBegun j ws → is_asked j w ≡ true → IsMember w ([] ∷ children ws)
ask-listed j ws w tree begun asked = by (by_last w)
  where
    by : ByLast w → IsMember w ([] ∷ children ws)
    by (empty e) = inl e
    by (pushed v t e) =
        let up = tree.parent v t (subst (λ x. is_asked j x ≡ true) e asked) in
        let b : IsBegun j v = record { node = switch-node j v up.switch; turn = t; onward = up.onward; asked = subst (λ x. is_asked j x ≡ true) e asked } in
        inr (subst (λ x. IsMember x (children ws)) (sym e) (child-member v t ws up.onward (begun.whole v b)))

walk-member : (j : List Entry) (w : List ℤ) → IsMember w (walks j) → is_asked j w ≡ true
walk-member [] w m = absurd m
walk-member (x ∷ j) w m = by (same_turns x.walk w) refl m (walk-member j w)
  where
    by : (b : Bool) → same_turns x.walk w ≡ b → (w ≡ x.walk) ⊎ IsMember w (walks j) → (IsMember w (walks j) → is_asked j w ≡ true) → is_some (if b then Some x.answer else answered j w) ≡ true
    by true p q rest = refl
    by false p (inl e) rest = absurd (true≢false (sym (ap (same_turns x.walk) e ∙ same_turns-refl x.walk) ∙ p))
    by false p (inr i) rest = rest i

pub asks-of-begun : (host depth : ℕ) (j : List Entry) (ws : List (List ℤ)) → IsGrowing host depth j → AreBegun j ws → length j ≤ 1 + 30 * length ws
asks-of-begun host depth j ws g begun =
    let most = no-more (walks j) ([] ∷ children ws) (growing-once host depth j g) (λ w m. ask-listed j ws w (growing-tree host depth j g) begun (walk-member j w m)) in
    let long = children-length ws in
    let same = length-map j (λ (e : Entry). e.walk) in
    by (length j) (length (walks j)) (length (children ws)) (length ws) same most long
  where
    by : (a b c d : ℕ) → b ≡ a → b ≤ suc c → c ≡ 30 * d → a ≤ 1 + 30 * d
    by a b c d p q r = omega arith

pub asks_are_few : AsksAreFew
asks_are_few host depth j g =
    let begun = are-begun host depth j g in
    let asks = asks-of-begun host depth j begun.0 g begun.1 in
    let most = no-more begun.0 (found_walks j) begun.1.once (λ w m. node-found j w (all-member (IsBegun j) w begun.0 begun.1.each m).node) in
    let same = found-length j in
    by (length j) (length begun.0) (length (found_walks j)) (length (reached j)) asks most same
  where
    by : (a b c d : ℕ) → a ≤ 1 + 30 * b → b ≤ c → d ≡ c → a ≤ 1 + 30 * d
    by a b c d p q r = omega arith
