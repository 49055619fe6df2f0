-- The tree is asked in order, turn by turn and entry by entry.
use Rattle.std.proofs.Common.{◌≡◌, ◌≢◌, ◌<◌, ◌≤◌, ◌+◌, ◌-◌, ℕ, suc, List, [], ◌∷◌, ◌++◌, length, take, Bool, true, false, not, ◌&&◌, Some, sym, ◌∙◌, subst, ap, refl, arith, true≢false, ◌⊎◌, inl, inr, if◌then◌else◌, is_some}
use Rattle.std.specs.Prelude.{ℤ, slice_get}
use Rattle.std.proofs.Math.Seq.{take-append_seam}
use Rattle.std.proofs.lemmas.Bool.{false≢true, cases_order}
use Rattle.std.proofs.lemmas.Bool.Decides.{nat_tests}
use Rattle.std.proofs.lemmas.Option.{slice_get_within}
use Rattle.std.proofs.lemmas.List.{length-append}
use Rattle.net_defs.specs.declared.place.Answer.TheVariants.{Switch}
use Rattle.net_defs.specs.Network.{Network}
use Rattle.journal_defs.specs.declared.entry.Entry.{Entry}
use Rattle.journal_defs.specs.Walks.{walk_below, IsOnward}
use Rattle.journal_defs.specs.Tree.{IsJournal, IsSwitchNode, answered, is_asked, is_found, nodes}
use Rattle.journal_defs.specs.Growth.{crossed}
use Rattle.journal_defs.proofs.Order.{below-irrefl, below-trans}
use Rattle.map_laws.proofs.Asks.{not_empty, push-parts}
use Rattle.map_laws.proofs.Keeping.{asked-kept, asked-last, asked-push, keeps-append}
use Rattle.mapper.specs.Turns.{turn_at}
use Rattle.mapper.proofs.Orders.{below-empty, below-last, below-onward}
use Rattle.mapper.proofs.Turning.{turn-onward, turn-place, turn-rises, turns-apart}
use Rattle.circ_defs.specs.Circuit.{circuit_answer}
use Rattle.circ_defs.specs.Asking.{IsNextOfTree, IsOfTree, IsTreeGrowing, found_of}
use Rattle.circ_defs.specs.Asking.IsOfTree.{first, onward}
use Rattle.circ_defs.specs.Asking.IsTreeGrowing.{nothing, more}
use Rattle.circ_laws.proofs.Growing.{growing-once}
use Rattle.circ_map.specs.Growing.{IsAskedBefore, IsAsking, IsChild, IsEarlier, IsOpen, IsPassed, IsShut, IsWhole, front_of, goes_on, is_full, kept_after, told}
use Rattle.circ_map.proofs.Finding.{IsOldOrLast, answered-found, found-at, found_of-push, get-old, get-push, nodes-length}
use Rattle.circ_map.proofs.Finding.IsOldOrLast.{old, last}

below-not : (v w : List ℤ) → walk_below v w ≡ true → walk_below w v ≡ false
below-not v w e = by (walk_below w v) refl
  where
    by : (b : Bool) → walk_below w v ≡ b → walk_below w v ≡ false
    by true p = absurd (true≢false (sym (below-trans v w v e p) ∙ below-irrefl v))
    by false p = p

-- the place of a walk's entry has one entry
one-entry : (found : List Entry) (k : ℕ) (d e : Entry) → slice_get found k ≡ Some d → slice_get found k ≡ Some e → d ≡ e
one-entry found k d e p q = let two : Some d ≡ Some e = sym p ∙ q in cc

module _ (n : Network) (host depth : ℕ) (found : List Entry) (asks at k : ℕ) (x : List ℤ) (a : IsAsking n host depth found asks at k) (c : IsChild depth found at k x) where
  j : List Entry
  j = a.tree.journal

  once : IsJournal a.tree.journal
  once = growing-once n host depth a.tree.journal a.tree.growing

  answered-at : (b : ℕ) (e : Entry) → slice_get found b ≡ Some e → answered a.tree.journal e.walk ≡ Some e.answer
  answered-at b e p = answered-found a.tree.journal b e once (subst (λ l. slice_get l b ≡ Some e) a.tree.found_is p)

  -- the walk is of the tree, and new
  of_tree : IsOfTree depth a.tree.journal x
  of_tree = onward c.entry.walk (turn_at k) (answered-at at c.entry c.there ∙ ap Some c.switch) c.near (turn-onward k c.turn) c.is

  not-before : (y : List ℤ) (b i : ℕ) → IsChild depth found b i y → IsEarlier at k b i → y ≢ x
  not-before y b i d (inl l) e =
      let parts = push-parts d.entry.walk c.entry.walk (turn_at i) (turn_at k) (sym d.is ∙ e ∙ c.is) in
      true≢false (sym (subst (λ w. walk_below w c.entry.walk ≡ true) parts.0 (a.rising b at d.entry c.entry l d.there c.there)) ∙ below-irrefl c.entry.walk)
  not-before y b i d (inr l) e =
      let parts = push-parts d.entry.walk c.entry.walk (turn_at i) (turn_at k) (sym d.is ∙ e ∙ c.is) in
      turns-apart i k l.1 parts.1

  unasked : is_asked a.tree.journal x ≡ false
  unasked = by (is_asked a.tree.journal x) refl
    where
      known : (x ≡ []) ⊎ IsAskedBefore depth found at k x → ⊥
      known (inl e) = not_empty c.entry.walk (turn_at k) (sym c.is ∙ e)
      known (inr d) = not-before x d.b d.i d.child d.earlier refl

      by : (b : Bool) → is_asked a.tree.journal x ≡ b → is_asked a.tree.journal x ≡ false
      by true p = absurd (known (a.only x p))
      by false p = p

  -- a walk of the tree that isn't asked comes no sooner
  later : (y : List ℤ) (b i : ℕ) → IsChild depth found b i y → is_asked a.tree.journal y ≡ false → walk_below y x ≡ false
  later y b i d new = by (cases_order b at) (cases_order i k)
    where
      asked : IsEarlier at k b i → walk_below y x ≡ false
      asked l = absurd (true≢false (sym (a.done b i y d l) ∙ new))

      one : b ≡ at → d.entry ≡ c.entry
      one e = one-entry found at d.entry c.entry (subst (λ z. slice_get found z ≡ Some d.entry) e d.there) c.there

      after : k < i → b ≡ at → walk_below y x ≡ false
      after l e = below-not x y (subst (λ z. walk_below z y ≡ true) (sym c.is) (subst (λ z. walk_below (c.entry.walk ++ turn_at k ∷ []) z ≡ true) (sym (d.is ∙ ap (λ (z : Entry). z.walk ++ turn_at i ∷ []) (one e))) (below-last c.entry.walk (turn_at k) (turn_at i) (turn-rises k i l))))

      self : i ≡ k → b ≡ at → walk_below y x ≡ false
      self p e = subst (λ z. walk_below z x ≡ false) (c.is ∙ ap (λ (z : Entry). z.walk ++ turn_at k ∷ []) (sym (one e)) ∙ ap (λ m. d.entry.walk ++ turn_at m ∷ []) (sym p) ∙ sym d.is) (below-irrefl x)

      by : (b ≡ at) ⊎ ((b < at) ⊎ (at < b)) → (i ≡ k) ⊎ ((i < k) ⊎ (k < i)) → walk_below y x ≡ false
      by (inr (inl l)) o = asked (inl l)
      by (inl e) (inr (inl l)) = asked (inr (e, l))
      by (inl e) (inl p) = self p e
      by (inl e) (inr (inr l)) = after l e
      by (inr (inr l)) o = below-not x y (subst (λ z. walk_below z y ≡ true) (sym c.is) (subst (λ z. walk_below (c.entry.walk ++ turn_at k ∷ []) z ≡ true) (sym d.is) (below-onward c.entry.walk d.entry.walk (turn_at k) (turn_at i) (a.rising at b c.entry d.entry l c.there d.there))))

  child-of : (w : List ℤ) (s : ℤ) (y : List ℤ) → IsSwitchNode a.tree.journal w → crossed w < depth → IsOnward s → y ≡ w ++ s ∷ [] → (b : ℕ) × ((i : ℕ) × IsChild depth found b i y)
  child-of w s y switch near on is =
      let f = found-at a.tree.journal w Switch switch refl in
      let t = turn-place s on in (
        f.place,
        (
          t.place,
          record {
            entry = f.entry;
            there = subst (λ l. slice_get l f.place ≡ Some f.entry) (sym a.tree.found_is) f.there;
            switch = f.answer;
            near = subst (λ v. crossed v < depth) (sym f.walk) near;
            turn = t.few;
            is = is ∙ ap (λ v. v ++ s ∷ []) (sym f.walk) ∙ ap (λ z. f.entry.walk ++ z ∷ []) (sym t.is);
          },
        ),
      )

  pub next : IsNextOfTree depth a.tree.journal x
  next = record { of_tree = of_tree; unasked = unasked; least = least }
    where
      least : (y : List ℤ) → IsOfTree depth a.tree.journal y → is_asked a.tree.journal y ≡ false → walk_below y x ≡ false
      least y (first e) new = absurd (true≢false (sym (subst (λ z. is_asked a.tree.journal z ≡ true) (sym e) a.started) ∙ new))
      least y (onward w s switch near on is) new = let d = child-of w s y switch near on is in later y d.0 d.1.0 d.1.1 new

  -- what was found stands before it
  before-x : (b : ℕ) (d : Entry) → slice_get found b ≡ Some d → walk_below d.walk x ≡ true
  before-x b d p = by (a.only d.walk (ap is_some (answered-at b d p)))
    where
      by : (d.walk ≡ []) ⊎ IsAskedBefore depth found at k d.walk → walk_below d.walk x ≡ true
      by (inl e) = subst (λ z. walk_below z x ≡ true) (sym e) (subst (λ z. walk_below [] z ≡ true) (sym c.is) (below-empty c.entry.walk (turn_at k)))
      by (inr f) = which f.earlier
        where
          which : IsEarlier at k f.b f.i → walk_below d.walk x ≡ true
          which (inl l) = subst (λ z. walk_below z x ≡ true) (sym f.child.is) (subst (λ z. walk_below (f.child.entry.walk ++ turn_at f.i ∷ []) z ≡ true) (sym c.is) (below-onward f.child.entry.walk c.entry.walk (turn_at f.i) (turn_at k) (a.rising f.b at f.child.entry c.entry l f.child.there c.there)))
          which (inr l) =
              let one : f.child.entry ≡ c.entry = one-entry found at f.child.entry c.entry (subst (λ z. slice_get found z ≡ Some f.child.entry) l.0 f.child.there) c.there in
              subst (λ z. walk_below z x ≡ true) (sym (f.child.is ∙ ap (λ (z : Entry). z.walk ++ turn_at f.i ∷ []) one)) (subst (λ z. walk_below (c.entry.walk ++ turn_at f.i ∷ []) z ≡ true) (sym c.is) (below-last c.entry.walk (turn_at f.i) (turn_at k) (turn-rises f.i k l.1)))

  -- what is found after the ask
  pub record IsGrownTo (g : List Entry) : Type 0 where
    pub is : g ≡ found_of (a.tree.journal ++ told n host x ∷ [])
    pub few : length g < 65536
    pub on : (b : ℕ) (e : Entry) → slice_get found b ≡ Some e → slice_get g b ≡ Some e
    pub back : (b : ℕ) (e : Entry) → b < length found → slice_get g b ≡ Some e → slice_get found b ≡ Some e
    pub rising : (b d : ℕ) (e f : Entry) → b < d → slice_get g b ≡ Some e → slice_get g d ≡ Some f → walk_below e.walk f.walk ≡ true

  pub growing-on : IsTreeGrowing n host depth (a.tree.journal ++ told n host x ∷ [])
  growing-on = more a.tree.journal (told n host x) a.tree.growing next refl refl

  asked-on : (y : List ℤ) → is_asked a.tree.journal y ≡ true → is_asked (a.tree.journal ++ told n host x ∷ []) y ≡ true
  asked-on y e = asked-kept a.tree.journal (a.tree.journal ++ told n host x ∷ []) (keeps-append a.tree.journal (told n host x ∷ [])) y e

  child-on : (g : List Entry) (b i : ℕ) (y : List ℤ) → IsGrownTo g → IsChild depth found b i y → IsChild depth g b i y
  child-on g b i y r d = record { entry = d.entry; there = r.on b d.entry d.there; switch = d.switch; near = d.near; turn = d.turn; is = d.is }

  child-back : (g : List Entry) (b i : ℕ) (y : List ℤ) → IsGrownTo g → b < length found → IsChild depth g b i y → IsChild depth found b i y
  child-back g b i y r l d = record { entry = d.entry; there = r.back b d.entry l d.there; switch = d.switch; near = d.near; turn = d.turn; is = d.is }

  pub asking-on : (g : List Entry) → IsGrownTo g → IsAsking n host depth g (asks + 1) at (k + 1)
  asking-on g r = record {
    tree = record {
      journal = a.tree.journal ++ told n host x ∷ [];
      growing = growing-on;
      found_is = r.is;
      asks_is = ap (λ m. m + 1) a.tree.asks_is ∙ sym (length-append a.tree.journal (told n host x ∷ []));
      few = r.few;
    };
    started = asked-on [] a.started;
    rising = r.rising;
    done = done;
    only = only;
    asked_few = (let l = a.asked_few in omega arith);
  }
    where
      low : at < length found
      low = slice_get_within found at c.entry c.there

      at_last : (i : ℕ) (y : List ℤ) → IsChild depth found at i y → i ≡ k → x ≡ y
      at_last i y d e =
          let one : d.entry ≡ c.entry = one-entry found at d.entry c.entry d.there c.there in
          c.is ∙ ap (λ (z : Entry). z.walk ++ turn_at k ∷ []) (sym one) ∙ ap (λ m. d.entry.walk ++ turn_at m ∷ []) (sym e) ∙ sym d.is

      done : (b i : ℕ) (y : List ℤ) → IsChild depth g b i y → IsEarlier at (k + 1) b i → is_asked (a.tree.journal ++ told n host x ∷ []) y ≡ true
      done b i y d (inl l) = asked-on y (a.done b i y (child-back g b i y r (let m = low in omega arith) d) (inl l))
      done b i y d (inr l) = by (cases_order i k)
        where
          own : IsChild depth found at i y
          own = subst (λ z. IsChild depth found z i y) l.0 (child-back g b i y r (let e = l.0 in let m = low in omega arith) d)

          by : (i ≡ k) ⊎ ((i < k) ⊎ (k < i)) → is_asked (a.tree.journal ++ told n host x ∷ []) y ≡ true
          by (inl e) = subst (λ z. is_asked (a.tree.journal ++ told n host x ∷ []) z ≡ true) (at_last i y own e) (asked-last a.tree.journal (told n host x))
          by (inr (inl m)) = asked-on y (a.done at i y own (inr (refl, m)))
          by (inr (inr m)) = absurd (let e = l.1 in omega arith)

      weaker : (b i : ℕ) → IsEarlier at k b i → IsEarlier at (k + 1) b i
      weaker b i (inl l) = inl l
      weaker b i (inr l) = inr (l.0, (let m = l.1 in omega arith))

      only : (y : List ℤ) → is_asked (a.tree.journal ++ told n host x ∷ []) y ≡ true → (y ≡ []) ⊎ IsAskedBefore depth g at (k + 1) y
      only y e = by (asked-push a.tree.journal (told n host x) y e)
        where
          kept : (y ≡ []) ⊎ IsAskedBefore depth found at k y → (y ≡ []) ⊎ IsAskedBefore depth g at (k + 1) y
          kept (inl p) = inl p
          kept (inr p) = inr (record { b = p.b; i = p.i; child = child-on g p.b p.i y r p.child; earlier = weaker p.b p.i p.earlier })

          by : (is_asked a.tree.journal y ≡ true) ⊎ (x ≡ y) → (y ≡ []) ⊎ IsAskedBefore depth g at (k + 1) y
          by (inl p) = kept (a.only y p)
          by (inr p) = inr (record { b = at; i = k; child = subst (IsChild depth g at k) p (child-on g at k x r c); earlier = inr (refl, omega arith) })

  push-is : found_of (a.tree.journal ++ told n host x ∷ []) ≡ (if is_found (circuit_answer n host x) then found ++ told n host x ∷ [] else found)
  push-is = found_of-push a.tree.journal (told n host x) ∙ ap (λ l. if is_found (circuit_answer n host x) then l ++ told n host x ∷ [] else l) (sym a.tree.found_is)

  nothing-more : is_found (circuit_answer n host x) ≡ false → IsGrownTo found
  nothing-more e = record { is = sym (push-is ∙ ap (λ b. if b then found ++ told n host x ∷ [] else found) e); few = a.tree.few; on = λ b d p. p; back = λ b d l p. p; rising = a.rising }

  one-more : is_found (circuit_answer n host x) ≡ true → is_full found ≡ false → IsGrownTo (found ++ told n host x ∷ [])
  one-more e full = record {
    is = sym (push-is ∙ ap (λ b. if b then found ++ told n host x ∷ [] else found) e);
    few = (let s : length (found ++ told n host x ∷ []) ≡ length found + 1 = length-append found (told n host x ∷ []) in let l : length found ≤ 65534 = grind (arith, nat_tests) in omega arith);
    on = λ b d p. get-old found (told n host x) d b p;
    back = λ b d l p. back b d l (get-push found (told n host x) d b p);
    rising = λ b d f g l p q. rising b d f g l (get-push found (told n host x) f b p) (get-push found (told n host x) g d q);
  }
    where
      back : (b : ℕ) (d : Entry) → b < length found → IsOldOrLast found (told n host x) d b → slice_get found b ≡ Some d
      back b d l (old p) = p
      back b d l (last p q) = absurd (omega arith)

      rising : (b d : ℕ) (f g : Entry) → b < d → IsOldOrLast found (told n host x) f b → IsOldOrLast found (told n host x) g d → walk_below f.walk g.walk ≡ true
      rising b d f g l (old p) (old q) = a.rising b d f g l p q
      rising b d f g l (old p) (last q r) = subst (λ (z : Entry). walk_below f.walk z.walk ≡ true) r (before-x b f p)
      rising b d f g l (last p r) (old q) = absurd (let m = slice_get_within found d g q in omega arith)
      rising b d f g l (last p r) (last q s) = absurd (omega arith)

  -- after the ask, the next turn is asked next, or the limit is passed
  pub asking-next : goes_on found (told n host x) ≡ true → IsAsking n host depth (kept_after found (told n host x)) (asks + 1) at (k + 1)
  asking-next e = by (is_found (circuit_answer n host x)) refl (is_full found) refl e
    where
      by : (b : Bool) → is_found (circuit_answer n host x) ≡ b → (f : Bool) → is_full found ≡ f → not (b && f) ≡ true → IsAsking n host depth (if b then (if f then found else found ++ told n host x ∷ []) else found) (asks + 1) at (k + 1)
      by true p true q g = absurd (false≢true g)
      by true p false q g = asking-on (found ++ told n host x ∷ []) (one-more p q)
      by false p true q g = asking-on found (nothing-more p)
      by false p false q g = asking-on found (nothing-more p)

  pub asking-passed : goes_on found (told n host x) ≡ false → IsPassed n host depth (asks + 1)
  asking-passed e = by (is_found (circuit_answer n host x)) refl (is_full found) refl e
    where
      by : (b : Bool) → is_found (circuit_answer n host x) ≡ b → (f : Bool) → is_full found ≡ f → not (b && f) ≡ false → IsPassed n host depth (asks + 1)
      by true p true q g =
          let kept : length (nodes a.tree.journal) ≡ suc (length found) = nodes-length a.tree.journal ∙ ap (λ l. suc (length l)) (sym a.tree.found_is) in
          let is : found_of (a.tree.journal ++ told n host x ∷ []) ≡ found ++ told n host x ∷ [] = push-is ∙ ap (λ b. if b then found ++ told n host x ∷ [] else found) p in
          let now : length (nodes (a.tree.journal ++ told n host x ∷ [])) ≡ suc (length (found ++ told n host x ∷ [])) = nodes-length (a.tree.journal ++ told n host x ∷ []) ∙ ap (λ l. suc (length l)) is in
          let s : length (found ++ told n host x ∷ []) ≡ length found + 1 = length-append found (told n host x ∷ []) in
          let full : 65534 < length found = grind (arith, nat_tests) in
          let few = a.tree.few in
          record {
            journal = a.tree.journal ++ told n host x ∷ [];
            growing = growing-on;
            passed = record { before = a.tree.journal; last = told n host x; whole = refl; kept = omega arith; passed = omega arith };
            asks_is = ap (λ m. m + 1) a.tree.asks_is ∙ sym (length-append a.tree.journal (told n host x ∷ []));
          }
      by true p false q g = absurd (true≢false g)
      by false p f q g = absurd (true≢false g)

-- after an entry's last turn comes the next entry
pub asking-entry : (n : Network) (host depth : ℕ) (found : List Entry) (asks at : ℕ) → IsAsking n host depth found asks at 30 → IsAsking n host depth found asks (at + 1) 0
asking-entry n host depth found asks at a = record {
  tree = a.tree;
  started = a.started;
  rising = a.rising;
  done = λ b i x c l. a.done b i x c (done b i x c l);
  only = λ x e. only x (a.only x e);
  asked_few = (let l = a.asked_few in omega arith);
}
  where
    done : (b i : ℕ) (x : List ℤ) → IsChild depth found b i x → IsEarlier (at + 1) 0 b i → IsEarlier at 30 b i
    done b i x c (inl l) = by (cases_order b at)
      where
        by : (b ≡ at) ⊎ ((b < at) ⊎ (at < b)) → IsEarlier at 30 b i
        by (inl e) = inr (e, c.turn)
        by (inr (inl m)) = inl m
        by (inr (inr m)) = absurd (omega arith)
    done b i x c (inr l) = absurd (let m = l.1 in omega arith)

    earlier : (b i : ℕ) → IsEarlier at 30 b i → IsEarlier (at + 1) 0 b i
    earlier b i (inl l) = inl (omega arith)
    earlier b i (inr l) = inl (let e = l.0 in omega arith)

    only : (x : List ℤ) → (x ≡ []) ⊎ IsAskedBefore depth found at 30 x → (x ≡ []) ⊎ IsAskedBefore depth found (at + 1) 0 x
    only x (inl e) = inl e
    only x (inr p) = inr (record { b = p.b; i = p.i; child = p.child; earlier = earlier p.b p.i p.earlier })

-- an entry that isn't to be expanded is passed over
pub asking-shut : (n : Network) (host depth : ℕ) (found : List Entry) (asks at : ℕ) → IsShut depth found at → IsAsking n host depth found asks at 0 → IsAsking n host depth found asks (at + 1) 0
asking-shut n host depth found asks at shut a = asking-entry n host depth found asks at (record {
  tree = a.tree;
  started = a.started;
  rising = a.rising;
  done = λ b i x c l. a.done b i x c (done b i x c l);
  only = λ x e. only x (a.only x e);
  asked_few = (let l = a.asked_few in omega arith);
})
  where
    done : (b i : ℕ) (x : List ℤ) → IsChild depth found b i x → IsEarlier at 30 b i → IsEarlier at 0 b i
    done b i x c (inl l) = inl l
    done b i x c (inr l) = absurd (shut c.entry.walk (record { entry = c.entry; there = subst (λ z. slice_get found z ≡ Some c.entry) l.0 c.there; switch = c.switch; near = c.near; is = refl }))

    earlier : (b i : ℕ) → IsEarlier at 0 b i → IsEarlier at 30 b i
    earlier b i (inl l) = inl l
    earlier b i (inr l) = absurd (let m = l.1 in omega arith)

    only : (x : List ℤ) → (x ≡ []) ⊎ IsAskedBefore depth found at 0 x → (x ≡ []) ⊎ IsAskedBefore depth found at 30 x
    only x (inl e) = inl e
    only x (inr p) = inr (record { b = p.b; i = p.i; child = p.child; earlier = earlier p.b p.i p.earlier })

-- where all entries are passed, the tree is whole
pub asking-whole : (n : Network) (host depth : ℕ) (found : List Entry) (asks at : ℕ) → length found ≤ at → IsAsking n host depth found asks at 0 → IsWhole n host depth found asks
asking-whole n host depth found asks at all a = record {
  journal = a.tree.journal;
  growing = a.tree.growing;
  ended = record { asked = asked; kept = (let e : length (nodes a.tree.journal) ≡ suc (length found) = nodes-length a.tree.journal ∙ ap (λ l. suc (length l)) (sym a.tree.found_is) in let f = a.tree.few in omega arith) };
  found_is = a.tree.found_is;
  asks_is = a.tree.asks_is;
}
  where
    asked : (x : List ℤ) → IsOfTree depth a.tree.journal x → is_asked a.tree.journal x ≡ true
    asked x (first e) = subst (λ z. is_asked a.tree.journal z ≡ true) (sym e) a.started
    asked x (onward w s switch near on is) =
        let f = found-at a.tree.journal w Switch switch refl in
        let t = turn-place s on in
        let there : slice_get found f.place ≡ Some f.entry = subst (λ l. slice_get l f.place ≡ Some f.entry) (sym a.tree.found_is) f.there in
        let low = slice_get_within found f.place f.entry there in
        a.done f.place t.place x (record {
          entry = f.entry;
          there = there;
          switch = f.answer;
          near = subst (λ v. crossed v < depth) (sym f.walk) near;
          turn = t.few;
          is = is ∙ ap (λ v. v ++ s ∷ []) (sym f.walk) ∙ ap (λ z. f.entry.walk ++ z ∷ []) (sym t.is);
        }) (inl (omega arith))

-- after the empty walk the first entry is asked next
pub asking-first : (n : Network) (host depth : ℕ) → IsAsking n host depth (kept_after [] (told n host [])) 1 0 0
asking-first n host depth = by (is_found (circuit_answer n host [])) refl
  where
    next : IsNextOfTree depth [] []
    next = record { of_tree = first refl; unasked = refl; least = λ y o u. least y o }
      where
        least : (y : List ℤ) → IsOfTree depth [] y → walk_below y [] ≡ false
        least y (first e) = ap (λ v. walk_below v []) e
        least y (onward w t s l o e) = cc

    growing : IsTreeGrowing n host depth (told n host [] ∷ [])
    growing = more [] (told n host []) nothing next refl refl

    few : (f : List Entry) → length f ≤ 1 → length f < 65536
    few f l = omega arith

    asking : (f : List Entry) → f ≡ found_of (told n host [] ∷ []) → length f ≤ 1 → IsAsking n host depth f 1 0 0
    asking f is l = record {
      tree = record { journal = told n host [] ∷ []; growing = growing; found_is = is; asks_is = refl; few = few f l };
      started = asked-last [] (told n host []);
      rising = λ a b d e m p q. absurd (let x = slice_get_within f b e q in omega arith);
      done = λ b i x c e. absurd (none b i e);
      only = λ x e. only x (asked-push [] (told n host []) x e);
      asked_few = omega arith;
    }
      where
        none : (b i : ℕ) → IsEarlier 0 0 b i → ⊥
        none b i (inl m) = absurd (omega arith)
        none b i (inr m) = absurd (let x = m.1 in omega arith)

        only : (x : List ℤ) → (is_asked [] x ≡ true) ⊎ ([] ≡ x) → (x ≡ []) ⊎ IsAskedBefore depth f 0 0 x
        only x (inl e) = absurd (false≢true e)
        only x (inr e) = inl (sym e)

    by : (b : Bool) → is_found (circuit_answer n host []) ≡ b → IsAsking n host depth (if is_found (circuit_answer n host []) then told n host [] ∷ [] else []) 1 0 0
    by b e = asking (if is_found (circuit_answer n host []) then told n host [] ∷ [] else []) refl (short (is_found (circuit_answer n host [])))
      where
        short : (b : Bool) → length (if b then told n host [] ∷ [] else []) ≤ 1
        short true = omega arith
        short false = omega arith

-- an open entry stays where it is
pub open-kept : (depth : ℕ) (found : List Entry) (at : ℕ) (w : List ℤ) (e : Entry) → IsOpen depth found at w → IsOpen depth (kept_after found e) at w
open-kept depth found at w e o = by (is_found e.answer) (is_full found)
  where
    by : (b f : Bool) → IsOpen depth (if b then (if f then found else found ++ e ∷ []) else found) at w
    by true true = o
    by true false = record { entry = o.entry; there = get-old found e o.entry at o.there; switch = o.switch; near = o.near; is = o.is }
    by false f = o

-- its walk with a turn more
pub open-child : (depth : ℕ) (found : List Entry) (at k : ℕ) (w : List ℤ) → IsOpen depth found at w → k < 30 → IsChild depth found at k (w ++ turn_at k ∷ [])
open-child depth found at k w o l = record { entry = o.entry; there = o.there; switch = o.switch; near = o.near; turn = l; is = ap (λ v. v ++ turn_at k ∷ []) o.is }

module _ (n o : Network) (host h depth : ℕ) (found after : List Entry) (asks count at k : ℕ) (front w : List ℤ) (goes : Bool) (a : IsAsking n host depth found asks at k) (opened : IsOpen depth found at front) (l : k < 30) (fabric : o ≡ n) (mapper : h ≡ host) (walk : w ≡ front ++ turn_at k ∷ []) (is : goes ≡ goes_on found (told o h w)) (kept : after ≡ kept_after found (told o h w)) (counted : count ≡ asks + 1) where
  same-told : told o h w ≡ told n host (front ++ turn_at k ∷ [])
  same-told = ap (λ m. told m h w) fabric ∙ ap (λ i. told n i w) mapper ∙ ap (told n host) walk

  -- the next turn is asked next
  pub turn-next : goes ≡ true → IsAsking n host depth after count at (k + 1)
  turn-next e =
      subst (λ g. IsAsking n host depth g count at (k + 1)) (sym (kept ∙ ap (kept_after found) same-told))
      (subst (λ c. IsAsking n host depth (kept_after found (told n host (front ++ turn_at k ∷ []))) c at (k + 1)) (sym counted)
      (asking-next n host depth found asks at k (front ++ turn_at k ∷ []) a (open-child depth found at k front opened l) (sym (is ∙ ap (goes_on found) same-told) ∙ e)))

  pub turn-passed : goes ≡ false → IsPassed n host depth count
  turn-passed e = subst (IsPassed n host depth) (sym counted) (asking-passed n host depth found asks at k (front ++ turn_at k ∷ []) a (open-child depth found at k front opened l) (sym (is ∙ ap (goes_on found) same-told) ∙ e))

  pub turn-open : IsOpen depth after at front
  turn-open = subst (λ g. IsOpen depth g at front) (sym kept) (open-kept depth found at front (told o h w) opened)

-- the first ask
pub turn-first : (n : Network) (host depth : ℕ) (found after : List Entry) (count : ℕ) (w : List ℤ) → found ≡ [] → w ≡ [] → after ≡ kept_after found (told n host w) → count ≡ 1 → IsAsking n host depth after count 0 0
turn-first n host depth found after count w none empty kept counted =
    subst (λ g. IsAsking n host depth g count 0 0) (sym (kept ∙ ap (λ l. kept_after l (told n host w)) none ∙ ap (λ v. kept_after [] (told n host v)) empty))
    (subst (λ c. IsAsking n host depth (kept_after [] (told n host [])) c 0 0) (sym counted) (asking-first n host depth))

-- the prober's fabric and host stay as they were
pub asking-same : (n o : Network) (host h depth : ℕ) (found : List Entry) (asks at : ℕ) → o ≡ n → h ≡ host → IsAsking o h depth found asks at 0 → IsAsking n host depth found asks at 0
asking-same n o host h depth found asks at f m a = subst (λ z. IsAsking z host depth found asks at 0) f (subst (λ z. IsAsking o z depth found asks at 0) m a)

-- a walk with a turn more, up to its last turn
pub front-onward : (f w : List ℤ) (t : ℤ) → w ≡ f ++ t ∷ [] → front_of w ≡ f
front-onward f w t is =
    let long : length w ≡ length f + 1 = ap length is ∙ length-append f (t ∷ []) in
    let one : length w - 1 ≡ length f = omega arith in
    ap (λ k. take k w) one ∙ ap (take (length f)) is ∙ take-append_seam f (t ∷ [])

pub some-onward : (f w : List ℤ) (t : ℤ) → w ≡ f ++ t ∷ [] → 0 < length w
some-onward f w t is = let long : length w ≡ length f + 1 = ap length is ∙ length-append f (t ∷ []) in omega arith
