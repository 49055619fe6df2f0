-- Nodes reached along the rings of classes, and two rings made one.
use Rattle.std.proofs.Common.{◌≡◌, ◌≢◌, ◌<◌, ◌⊎◌, inl, inr, ℕ, zero, suc, ◌+◌, List, [], ◌∷◌, ◌++◌, true, false, length, set, refl, ap, sym, ◌∙◌, subst, arith, nat_eq, if◌then◌else◌, length-append, get_or-set_other, get_or-set_same}
use Rattle.std.specs.Prelude.{ℤ}
use Rattle.std.proofs.Math.ListN.{length-set}
use Rattle.std.proofs.lemmas.Bool.{cases_eq}
use Rattle.std.proofs.lemmas.Bool.Decides.{nat_tests}
use Rattle.port_align.specs.declared.frame.ClassFrame.{ClassFrame}
use Rattle.replicate_merge.specs.Ways.{AreJoined, frame_at, moved, own_frame}
use Rattle.replicate_merge.specs.Rings.{Along, AreRings, InClass, IsMoving, class_size, next_at, spliced}
use Rattle.replicate_merge.specs.Rings.Along.{here, on}
use Rattle.replicate_merge.proofs.Lists.{get-last, get-left}
use Rattle.replicate_merge.proofs.Together.{moved-class, moved-other}

module _ (next : List ℕ) (P : ℕ → Type 0) (z : ℕ) where
  -- of the kind, and another node
  abbrev pub Other : ℕ → Type 0
  Other m = P m × (m ≢ z)

  choose : (m k : ℕ) → k ≡ z → P m → Along next Other (next_at next m) k → (m ≡ z) ⊎ (m ≢ z) → Along next Other m k
  choose m k e p rest (inl s) = subst (λ x. Along next Other m x) (s ∙ sym e) (here m)
  choose m k e p rest (inr d) = on m k (p, d) rest

  -- up to the first time at the node
  pub up-to : (a n : ℕ) → n ≡ z → Along next P a n → Along next Other a n
  up-to a n e (here m) = here m
  up-to a n e (on m k p rest) = choose m k e p (up-to (next_at next m) k e rest) (cases_eq m z)

  pick : (m k : ℕ) → P m → Along next Other (next_at next m) k ⊎ Along next Other (next_at next z) k → (m ≡ z) ⊎ (m ≢ z) → Along next Other m k ⊎ Along next Other (next_at next z) k
  pick m k p (inr x) c = inr x
  pick m k p (inl x) (inl s) = inr (subst (λ y. Along next Other (next_at next y) k) s x)
  pick m k p (inl x) (inr d) = inl (on m k (p, d) x)

  -- never at the node, or from the last time there
  pub past : (a n : ℕ) → Along next P a n → Along next Other a n ⊎ Along next Other (next_at next z) n
  past a n (here m) = inl (here m)
  past a n (on m k p rest) = pick m k p (past (next_at next m) k rest) (cases_eq m z)

  stuck : (a n : ℕ) → a ≡ z → Along next Other a n → n ≡ z
  stuck a n e (here m) = e
  stuck a n e (on m k p rest) = absurd (p.1 e)

  -- from the node itself
  pub from-here : (n : ℕ) → Along next P z n → (n ≡ z) ⊎ Along next Other (next_at next z) n
  from-here n path = by (past z n path)
    where
      by : Along next Other z n ⊎ Along next Other (next_at next z) n → (n ≡ z) ⊎ Along next Other (next_at next z) n
      by (inl x) = inl (stuck z n refl x)
      by (inr x) = inr x

-- the same nodes in other rings
pub over : (next later : List ℕ) (P Q : ℕ → Type 0) → ((m : ℕ) → P m → Q m × (next_at next m ≡ next_at later m)) → (a n : ℕ) → Along next P a n → Along later Q a n
over next later P Q f a n (here m) = here m
over next later P Q f a n (on m k p rest) = on m k (f m p).0 (subst (λ x. Along later Q x k) (f m p).1 (over next later P Q f (next_at next m) k rest))

-- one way after another
pub and-on : (next : List ℕ) (P : ℕ → Type 0) (a b c : ℕ) → Along next P a b → Along next P b c → Along next P a c
and-on next P a b c (here m) q = q
and-on next P a b c (on m k p rest) q = on m c p (and-on next P (next_at next m) k c rest q)

-- the last node of a way that can't go on
pub ended : (next : List ℕ) (P : ℕ → Type 0) (a n : ℕ) → (P a → ⊥) → Along next P a n → n ≡ a
ended next P a n f (here m) = refl
ended next P a n f (on m k p rest) = absurd (f p)

-- no nodes
pub no-rings : AreRings [] []
no-rings = record {
  same = refl;
  inside = λ n l. absurd (omega arith);
  each = λ n l. absurd (omega arith);
  closed = λ n l. absurd (omega arith);
}

-- a node more, in a ring of its own
module _ (fs : List ClassFrame) (next : List ℕ) (r : AreRings fs next) where
  abbrev pub more : List ClassFrame
  more = fs ++ own_frame (length fs) ∷ []

  abbrev pub longer : List ℕ
  longer = next ++ length fs ∷ []

  count : length more ≡ length fs + 1
  count = length-append fs (own_frame (length fs) ∷ [])

  old_frame : (n : ℕ) → n < length fs → frame_at more n ≡ frame_at fs n
  old_frame n l = get-left fs (own_frame (length fs)) (own_frame 0) n l

  new_frame : (n : ℕ) → n ≡ length fs → frame_at more n ≡ own_frame (length fs)
  new_frame n e = get-last fs (own_frame (length fs)) (own_frame 0) n e

  old_next : (n : ℕ) → n < length fs → next_at longer n ≡ next_at next n
  old_next n l = get-left next (length fs) 0 n (let s = r.same in omega arith)

  new_next : (n : ℕ) → n ≡ length fs → next_at longer n ≡ length fs
  new_next n e = get-last next (length fs) 0 n (e ∙ sym r.same)

  carry : (class m : ℕ) → InClass fs class m → InClass more class m × (next_at next m ≡ next_at longer m)
  carry class m p = (((let c = count in let l = p.0 in omega arith), ap (λ (f : ClassFrame). f.class) (old_frame m p.0) ∙ p.1), sym (old_next m p.0))

  split : (n : ℕ) → n < length more → (n ≡ length fs) ⊎ (n < length fs)
  split n l = by (cases_eq n (length fs))
    where
      by : (n ≡ length fs) ⊎ (n ≢ length fs) → (n ≡ length fs) ⊎ (n < length fs)
      by (inl e) = inl e
      by (inr d) = inr (let c = count in omega arith)

  pub ring-added : AreRings more longer
  ring-added = record {
    same = length-append next (length fs ∷ []) ∙ (let s = r.same in let c = count in omega arith);
    inside = λ n l. inside n (split n l);
    each = λ n l. each n (split n l);
    closed = λ n l e. closed n e (split n l);
  }
    where
      inside : (n : ℕ) → (n ≡ length fs) ⊎ (n < length fs) → next_at longer n < length more
      inside n (inl e) = let v = new_next n e in let c = count in omega arith
      inside n (inr l) = let v = old_next n l in let i = r.inside n l in let c = count in omega arith

      each : (n : ℕ) → (n ≡ length fs) ⊎ (n < length fs) → Along longer (InClass more (frame_at more n).class) (frame_at more n).class n
      each n (inl e) =
          let class : (frame_at more n).class ≡ n = ap (λ (f : ClassFrame). f.class) (new_frame n e) ∙ sym e in
          subst (λ k. Along longer (InClass more k) k n) (sym class) (here n)
      each n (inr l) =
          let class : (frame_at more n).class ≡ (frame_at fs n).class = ap (λ (f : ClassFrame). f.class) (old_frame n l) in
          subst (λ k. Along longer (InClass more k) k n) (sym class) (over next longer (InClass fs (frame_at fs n).class) (InClass more (frame_at fs n).class) (carry (frame_at fs n).class) (frame_at fs n).class n (r.each n l))

      closed : (n : ℕ) → (frame_at more n).class ≡ n → (n ≡ length fs) ⊎ (n < length fs) → Along longer (InClass more n) (next_at longer n) n
      closed n c (inl e) = subst (λ k. Along longer (InClass more n) k n) (sym (new_next n e ∙ sym e)) (here n)
      closed n c (inr l) =
          let class : (frame_at fs n).class ≡ n = ap (λ (f : ClassFrame). f.class) (sym (old_frame n l)) ∙ c in
          subst (λ k. Along longer (InClass more n) k n) (sym (old_next n l)) (over next longer (InClass fs n) (InClass more n) (carry n) (next_at next n) n (r.closed n l class))

less : (a b c : ℕ) → a ≡ 0 → b ≡ 1 → a + c < b + c
less a b c none one = omega arith

-- how many nodes have a class, once one of them has another
pub size-less : (class : ℕ) (fs : List ClassFrame) (n : ℕ) (f : ClassFrame) → n < length fs → (frame_at fs n).class ≡ class → f.class ≢ class → class_size class (set fs n f) < class_size class fs
size-less class [] n f l is d = absurd (omega arith)
size-less class (g ∷ fs) zero f l is d =
    let same : nat_eq g.class class ≡ true = grind (arith, nat_tests) in
    let other : nat_eq f.class class ≡ false = grind (arith, nat_tests) in
    less (if nat_eq f.class class then 1 else 0) (if nat_eq g.class class then 1 else 0) (class_size class fs) (ap (λ b. if b then 1 else 0) other) (ap (λ b. if b then 1 else 0) same)
size-less class (g ∷ fs) (suc n) f l is d = let a = size-less class fs n f (omega arith) is d in omega arith

-- the frames of a class moved one after another, along its ring
module _ (from to : ℕ) (by : ℤ) (next : List ℕ) (old : List ClassFrame) (two : from ≢ to) where
  pub moving-none : AreRings old next → from < length old → IsMoving from to by next old old from
  moving-none r inside = record {
    same = refl;
    inside = inside;
    each = λ n l. inl refl;
    left = λ n l e. subst (λ c. Along next (InClass old c) c n) e (r.each n l);
  }

  module _ (now : List ClassFrame) (node : ℕ) (m : IsMoving from to by next old now node) where
    -- a frame that has still the class wasn't moved
    pub unmoved : (n : ℕ) → n < length old → (frame_at now n).class ≡ from → frame_at now n ≡ frame_at old n
    unmoved n l class = at (m.each n l)
      where
        in_old : frame_at now n ≡ moved from to by (frame_at old n) → ((frame_at old n).class ≡ from) ⊎ ((frame_at old n).class ≢ from) → frame_at now n ≡ frame_at old n
        in_old e (inl c) = absurd (two (sym class ∙ ap (λ (f : ClassFrame). f.class) (e ∙ moved-class from to by (frame_at old n) c)))
        in_old e (inr d) = e ∙ moved-other from to by (frame_at old n) d

        at : (frame_at now n ≡ frame_at old n) ⊎ (frame_at now n ≡ moved from to by (frame_at old n)) → frame_at now n ≡ frame_at old n
        at (inl e) = e
        at (inr e) = in_old e (cases_eq (frame_at old n).class from)

    -- the node's frame is moved
    module _ (r : AreRings old next) (class : (frame_at now node).class ≡ from) where
      abbrev pub step : List ClassFrame
      step = set now node (moved from to by (frame_at now node))

      within : node < length now
      within = let s = m.same in let i = m.inside in omega arith

      there : frame_at step node ≡ moved from to by (frame_at now node)
      there = get_or-set_same now node (moved from to by (frame_at now node)) (own_frame 0) within

      other : (n : ℕ) → n ≢ node → frame_at step n ≡ frame_at now n
      other n d = get_or-set_other now node n (moved from to by (frame_at now node)) (own_frame 0) d

      gone : (frame_at step node).class ≢ from
      gone e = two (sym e ∙ ap (λ (f : ClassFrame). f.class) (there ∙ moved-class from to by (frame_at now node) class))

      carries : (x : ℕ) → InClass now from x × (x ≢ node) → InClass step from x × (next_at next x ≡ next_at next x)
      carries x p = (((let s = length-set now node (moved from to by (frame_at now node)) in let l = p.0.0 in omega arith), ap (λ (f : ClassFrame). f.class) (other x p.1) ∙ p.0.1), refl)

      pub moving-step : IsMoving from to by next old step (next_at next node)
      moving-step = record {
        same = length-set now node (moved from to by (frame_at now node)) ∙ m.same;
        inside = r.inside node m.inside;
        each = λ n l. each n l (cases_eq n node);
        left = λ n l e. left n l e (cases_eq n node);
      }
        where
          each : (n : ℕ) → n < length old → (n ≡ node) ⊎ (n ≢ node) → (frame_at step n ≡ frame_at old n) ⊎ (frame_at step n ≡ moved from to by (frame_at old n))
          each n l (inl e) = inr (subst (λ x. frame_at step x ≡ moved from to by (frame_at old x)) (sym e) (there ∙ ap (moved from to by) (unmoved node m.inside class)))
          each n l (inr d) = at (m.each n l)
            where
              at : (frame_at now n ≡ frame_at old n) ⊎ (frame_at now n ≡ moved from to by (frame_at old n)) → (frame_at step n ≡ frame_at old n) ⊎ (frame_at step n ≡ moved from to by (frame_at old n))
              at (inl s) = inl (other n d ∙ s)
              at (inr s) = inr (other n d ∙ s)

          left : (n : ℕ) → n < length old → (frame_at step n).class ≡ from → (n ≡ node) ⊎ (n ≢ node) → Along next (InClass step from) (next_at next node) n
          left n l e (inl s) = absurd (gone (subst (λ x. (frame_at step x).class ≡ from) s e))
          left n l e (inr d) = at (from-here next (InClass now from) node n (m.left n l (ap (λ (f : ClassFrame). f.class) (sym (other n d)) ∙ e)))
            where
              at : (n ≡ node) ⊎ Along next (Other next (InClass now from) node) (next_at next node) n → Along next (InClass step from) (next_at next node) n
              at (inl s) = absurd (d s)
              at (inr p) = over next next (Other next (InClass now from) node) (InClass step from) carries (next_at next node) n p

      pub moving-less : class_size from step < class_size from now
      moving-less = size-less from now node (moved from to by (frame_at now node)) within class (λ e. gone (ap (λ (f : ClassFrame). f.class) there ∙ e))

    -- the ring is walked through
    pub moving-all : (frame_at now node).class ≢ from → AreJoined from to by old now
    moving-all done = record { same = m.same; each = λ n l. each n l (m.each n l) (cases_eq (frame_at old n).class from) }
      where
        each : (n : ℕ) → n < length old → (frame_at now n ≡ frame_at old n) ⊎ (frame_at now n ≡ moved from to by (frame_at old n)) → ((frame_at old n).class ≡ from) ⊎ ((frame_at old n).class ≢ from) → frame_at now n ≡ moved from to by (frame_at old n)
        each n l (inr e) c = e
        each n l (inl e) (inr d) = e ∙ sym (moved-other from to by (frame_at old n) d)
        each n l (inl e) (inl c) =
            let class : (frame_at now n).class ≡ from = ap (λ (f : ClassFrame). f.class) e ∙ c in
            let last : n ≡ node = ended next (InClass now from) node n (λ p. done p.1) (m.left n l class) in
            absurd (done (subst (λ x. (frame_at now x).class ≡ from) last class))

-- two rings made one, once the frames of the one class are those of the other
module _ (from to : ℕ) (by : ℤ) (fs now : List ClassFrame) (next : List ℕ) (r : AreRings fs next) (join : AreJoined from to by fs now) (two : from ≢ to) (is_from : from < length fs) (is_to : to < length fs) (first : (frame_at fs from).class ≡ from) (second : (frame_at fs to).class ≡ to) where
  abbrev pub later : List ℕ
  later = spliced from to next

  abbrev pub half : List ℕ
  half = set next from (next_at next to)

  after_to : next_at later to ≡ next_at next from
  after_to = get_or-set_same half to (next_at next from) 0 (let a = length-set next from (next_at next to) in let s = r.same in omega arith)

  after_from : next_at later from ≡ next_at next to
  after_from = get_or-set_other half to from (next_at next from) 0 two ∙ get_or-set_same next from (next_at next to) 0 (let s = r.same in omega arith)

  after : (n : ℕ) → n ≢ from → n ≢ to → next_at next n ≡ next_at later n
  after n a b = sym (get_or-set_other half to n (next_at next from) 0 b ∙ get_or-set_other next from n (next_at next to) 0 a)

  count_now : length now ≡ length fs
  count_now = join.same

  class_from : (n : ℕ) → n < length fs → (frame_at fs n).class ≡ from → (frame_at now n).class ≡ to
  class_from n l e = ap (λ (f : ClassFrame). f.class) (join.each n l ∙ moved-class from to by (frame_at fs n) e)

  class_other : (n : ℕ) → n < length fs → (frame_at fs n).class ≢ from → (frame_at now n).class ≡ (frame_at fs n).class
  class_other n l d = ap (λ (f : ClassFrame). f.class) (join.each n l ∙ moved-other from to by (frame_at fs n) d)

  in_now : (n : ℕ) → n < length fs → n < length now
  in_now n l = let c = count_now in omega arith

  same_class : (m n : ℕ) → m ≡ n → (frame_at fs m).class ≡ (frame_at fs n).class
  same_class m n e = ap (λ k. (frame_at fs k).class) e

  out : (m : ℕ) → InClass fs from m × (m ≢ from) → InClass now to m × (next_at next m ≡ next_at later m)
  out m p = ((in_now m p.0.0, class_from m p.0.0 p.0.1), after m p.1 (λ e. two (sym p.0.1 ∙ same_class m to e ∙ second)))

  into : (m : ℕ) → InClass fs to m × (m ≢ to) → InClass now to m × (next_at next m ≡ next_at later m)
  into m p = ((in_now m p.0.0, class_other m p.0.0 (λ e. two (sym e ∙ p.0.1)) ∙ p.0.1), after m (λ e. two (sym first ∙ sym (same_class m from e) ∙ p.0.1)) p.1)

  rest : (class : ℕ) → class ≢ from → class ≢ to → (m : ℕ) → InClass fs class m → InClass now class m × (next_at next m ≡ next_at later m)
  rest class a b m p = (
    (in_now m p.0, class_other m p.0 (λ e. a (sym p.1 ∙ e)) ∙ p.1),
    after m (λ e. a (sym p.1 ∙ same_class m from e ∙ first)) (λ e. b (sym p.1 ∙ same_class m to e ∙ second)),
  )

  in_from : InClass now to from
  in_from = (in_now from is_from, class_from from is_from first)

  in_to : InClass now to to
  in_to = (in_now to is_to, class_other to is_to (λ e. two (sym e ∙ second)) ∙ second)

  loop : Along later (InClass now to) (next_at next from) from
  loop = over next later (Other next (InClass fs from) from) (InClass now to) out (next_at next from) from (up-to next (InClass fs from) from (next_at next from) from refl (r.closed from is_from first))

  back : Along later (InClass now to) (next_at next to) to
  back = over next later (Other next (InClass fs to) to) (InClass now to) into (next_at next to) to (up-to next (InClass fs to) to (next_at next to) to refl (r.closed to is_to second))

  enter : (n : ℕ) → Along later (InClass now to) (next_at next from) n → Along later (InClass now to) to n
  enter n p = on to n in_to (subst (λ x. Along later (InClass now to) x n) (sym after_to) p)

  leave : (n : ℕ) → Along later (InClass now to) (next_at next to) n → Along later (InClass now to) from n
  leave n p = on from n in_from (subst (λ x. Along later (InClass now to) x n) (sym after_from) p)

  through : (n : ℕ) → Along later (InClass now to) (next_at next to) n → Along later (InClass now to) (next_at next from) n
  through n p = and-on later (InClass now to) (next_at next from) from n loop (leave n p)

  of_from : (n : ℕ) → n < length fs → (frame_at fs n).class ≡ from → Along later (InClass now to) to n
  of_from n l e = at (from-here next (InClass fs from) from n (subst (λ c. Along next (InClass fs c) c n) e (r.each n l)))
    where
      at : (n ≡ from) ⊎ Along next (Other next (InClass fs from) from) (next_at next from) n → Along later (InClass now to) to n
      at (inl x) = subst (λ y. Along later (InClass now to) to y) (sym x) (enter from loop)
      at (inr q) = enter n (over next later (Other next (InClass fs from) from) (InClass now to) out (next_at next from) n q)

  of_to : (n : ℕ) → n < length fs → (frame_at fs n).class ≡ to → Along later (InClass now to) to n
  of_to n l e = at (from-here next (InClass fs to) to n (subst (λ c. Along next (InClass fs c) c n) e (r.each n l)))
    where
      at : (n ≡ to) ⊎ Along next (Other next (InClass fs to) to) (next_at next to) n → Along later (InClass now to) to n
      at (inl x) = subst (λ y. Along later (InClass now to) to y) (sym x) (here to)
      at (inr q) = enter n (through n (over next later (Other next (InClass fs to) to) (InClass now to) into (next_at next to) n q))

  pub rings-spliced : AreRings now later
  rings-spliced = record {
    same = length-set half to (next_at next from) ∙ length-set next from (next_at next to) ∙ r.same ∙ sym count_now;
    inside = λ n l. inside n (let c = count_now in omega arith) (cases_eq n from) (cases_eq n to);
    each = λ n l. let inside : n < length fs = (let c = count_now in omega arith) in each n inside (cases_eq (frame_at fs n).class from) (cases_eq (frame_at fs n).class to);
    closed = λ n l e. let inside : n < length fs = (let c = count_now in omega arith) in closed n inside e (cases_eq n to);
  }
    where
      inside : (n : ℕ) → n < length fs → (n ≡ from) ⊎ (n ≢ from) → (n ≡ to) ⊎ (n ≢ to) → next_at later n < length now
      inside n l a (inl e) = let v : next_at later n ≡ next_at next from = ap (next_at later) e ∙ after_to in let i = r.inside from is_from in let c = count_now in omega arith
      inside n l (inl e) (inr d) = let v : next_at later n ≡ next_at next to = ap (next_at later) e ∙ after_from in let i = r.inside to is_to in let c = count_now in omega arith
      inside n l (inr a) (inr b) = let v = after n a b in let i = r.inside n l in let c = count_now in omega arith

      each : (n : ℕ) → n < length fs → ((frame_at fs n).class ≡ from) ⊎ ((frame_at fs n).class ≢ from) → ((frame_at fs n).class ≡ to) ⊎ ((frame_at fs n).class ≢ to) → Along later (InClass now (frame_at now n).class) (frame_at now n).class n
      each n l (inl e) b = subst (λ c. Along later (InClass now c) c n) (sym (class_from n l e)) (of_from n l e)
      each n l (inr a) (inl e) = subst (λ c. Along later (InClass now c) c n) (sym (class_other n l a ∙ e)) (of_to n l e)
      each n l (inr a) (inr b) = subst (λ c. Along later (InClass now c) c n) (sym (class_other n l a)) (over next later (InClass fs (frame_at fs n).class) (InClass now (frame_at fs n).class) (rest (frame_at fs n).class a b) (frame_at fs n).class n (r.each n l))

      root : (n : ℕ) → n < length fs → (frame_at now n).class ≡ n → n ≢ to → (frame_at fs n).class ≢ from
      root n l e d c = d (sym e ∙ class_from n l c)

      closed : (n : ℕ) → n < length fs → (frame_at now n).class ≡ n → (n ≡ to) ⊎ (n ≢ to) → Along later (InClass now n) (next_at later n) n
      closed n l e (inl s) = subst (λ x. Along later (InClass now x) (next_at later x) x) (sym s) (subst (λ x. Along later (InClass now to) x to) (sym after_to) (through to back))
      closed n l e (inr d) =
          let a = root n l e d in
          let class : (frame_at fs n).class ≡ n = sym (class_other n l a) ∙ e in
          let b : n ≢ from = λ s. a (same_class n from s ∙ first) in
          subst (λ x. Along later (InClass now n) x n) (after n b d) (over next later (InClass fs n) (InClass now n) (rest n b d) (next_at next n) n (r.closed n l class))
