-- The lists of cabled ports: what they have, and that the first port of a list that leads near is the least.
use Rattle.std.proofs.Common.{◌≡◌, ◌<◌, ◌≤◌, ◌+◌, ℕ, zero, suc, List, [], ◌∷◌, ◌++◌, length, get_or, Bool, true, false, not, Option, Some, None, refl, ap, sym, ◌∙◌, subst, arith, ◌⊎◌, inl, inr, nat_le, if◌then◌else◌, add-one}
use Rattle.std.specs.Prelude.{option_map, option_and_then, option_to_list}
use Rattle.std.proofs.lemmas.Bool.{false≢true, cases_order}
use Rattle.std.proofs.lemmas.List.{length-map, get_or_past}
use Rattle.journal_defs.specs.Counting.{numbers_below}
use Rattle.journal_defs.proofs.Members.{IsMember, member-left, member-right, length-numbers}
use Rattle.map_defs.specs.NetMap.{NetMap, MapPort, IsMap, map_far}
use Rattle.map_defs.specs.Orientation.{is_up}
use Rattle.fabric_map.proofs.Ends.{port-holds}
use Rattle.updown.proofs.Filters.{map-at}
use Rattle.route_calc.specs.declared.entered.Entered.{Entered}
use Rattle.route_calc.specs.declared.entered.Exit.{Exit}
use Rattle.route_calc.specs.First.{first_below, or_at}
use Rattle.route_calc.specs.Reaching.{leads_over, leads_near, least_exit, port_of_place}
use Rattle.route_calc.specs.Ways.{entered_by, turned_by, best_turn}
use Rattle.route_calc.specs.Far.{far_at}
use Rattle.route_calc.specs.Exits.{exit_at, exits_below, exits_of, all_exits, exits_at}
use Rattle.route_calc.specs.Turning.{leads_within, first_exit, turn_by}
use Rattle.route_calc.proofs.First.{Says, first-says, first-zero, first-more}

pub exits-none : (m : NetMap) (order : List ℕ) (v : ℕ) → exits_below m order v 0 ≡ []
unfolding exits_below
exits-none m order v = refl

exits-next : (m : NetMap) (order : List ℕ) (v k : ℕ) → exits_below m order v (suc k) ≡ exits_below m order v k ++ option_to_list (exit_at m order v k)
unfolding exits_below
exits-next m order v k = refl

pub exits-more : (m : NetMap) (order : List ℕ) (v k : ℕ) → exits_below m order v (k + 1) ≡ exits_below m order v k ++ option_to_list (exit_at m order v k)
exits-more m order v k = ap (exits_below m order v) (add-one k) ∙ exits-next m order v k

-- a port of a list stands at one of its places
pub record Placed (m : NetMap) (order : List ℕ) (v n : ℕ) (x : Exit) : Type 0 where
  pub at : ℕ
  pub low : at < n
  pub is : exit_at m order v at ≡ Some x

append-member : (x : Exit) (xs : List Exit) (o : Option Exit) → IsMember x (xs ++ option_to_list o) → IsMember x xs ⊎ (o ≡ Some x)
append-member x [] None i = absurd i
append-member x [] (Some y) (inl e) = inr (ap Some (sym e))
append-member x [] (Some y) (inr i) = absurd i
append-member x (y ∷ ys) o (inl e) = inl (inl e)
append-member x (y ∷ ys) o (inr i) = by (append-member x ys o i)
  where
    by : IsMember x ys ⊎ (o ≡ Some x) → IsMember x (y ∷ ys) ⊎ (o ≡ Some x)
    by (inl j) = inl (inr j)
    by (inr e) = inr e

pub exits-placed : (m : NetMap) (order : List ℕ) (v n : ℕ) (x : Exit) → IsMember x (exits_below m order v n) → Placed m order v n x
exits-placed m order v zero x i = absurd (subst (IsMember x) (exits-none m order v) i)
exits-placed m order v (suc n) x i = by (append-member x (exits_below m order v n) (exit_at m order v n) (subst (IsMember x) (exits-next m order v n) i)) (exits-placed m order v n x)
  where
    by : IsMember x (exits_below m order v n) ⊎ (exit_at m order v n ≡ Some x) → (IsMember x (exits_below m order v n) → Placed m order v n x) → Placed m order v (suc n) x
    by (inl j) rest = let p = rest j in record { at = p.at; low = (let l = p.low in omega arith); is = p.is }
    by (inr e) rest = record { at = n; low = omega arith; is = e }

some-member : (x : Exit) (o : Option Exit) → o ≡ Some x → IsMember x (option_to_list o)
some-member x None e = cc
some-member x (Some y) e = inl (let same : y ≡ x = cc in sym same)

-- each cabled port at a place is one of the list
pub placed-exits : (m : NetMap) (order : List ℕ) (v n k : ℕ) (x : Exit) → k < n → exit_at m order v k ≡ Some x → IsMember x (exits_below m order v n)
placed-exits m order v zero k x l e = absurd (omega arith)
placed-exits m order v (suc n) k x l e = subst (IsMember x) (sym (exits-next m order v n)) (by (cases_order k n) (λ a. placed-exits m order v n k x a e))
  where
    by : (k ≡ n) ⊎ ((k < n) ⊎ (n < k)) → (k < n → IsMember x (exits_below m order v n)) → IsMember x (exits_below m order v n ++ option_to_list (exit_at m order v n))
    by (inl p) rest = member-right x (exits_below m order v n) (option_to_list (exit_at m order v n)) (some-member x (exit_at m order v n) (ap (exit_at m order v) (sym p) ∙ e))
    by (inr (inl a)) rest = member-left x (exits_below m order v n) (option_to_list (exit_at m order v n)) (rest a)
    by (inr (inr a)) rest = absurd (omega arith)

-- what is no vertex has no cabled port
no-exit : (m : NetMap) (order : List ℕ) (v k : ℕ) → IsMap m → length m.vertices ≤ v → exit_at m order v k ≡ None
no-exit m order v k r past = by (map_far m (port_of_place v k)) refl
  where
    by : (o : Option MapPort) → map_far m (port_of_place v k) ≡ o → exit_at m order v k ≡ None
    by None e = rw e refl
    by (Some f) e = let low : v < length m.vertices = port-holds (λ (d : MapPort). d.v < length m.vertices) m.cables (port_of_place v k) f r.cabled_vertices e in absurd (omega arith)

no-exits : (m : NetMap) (order : List ℕ) (v n : ℕ) → IsMap m → length m.vertices ≤ v → exits_below m order v n ≡ []
no-exits m order v zero r past = exits-none m order v
no-exits m order v (suc n) r past =
    exits-next m order v n ∙ ap (λ o. exits_below m order v n ++ option_to_list o) (no-exit m order v n r past) ∙ ap (λ l. l ++ []) (no-exits m order v n r past)

-- the list of all has that of each vertex
pub exits-index : (m : NetMap) (order : List ℕ) (es : List (List Exit)) (v : ℕ) (d : List Exit) → es ≡ all_exits m order → v < length m.vertices → get_or es v d ≡ exits_of m order v
exits-index m order es v d e low = ap (λ xs. get_or xs v d) e ∙ map-at (exits_of m order) (length m.vertices) v d low

pub exits-long : (m : NetMap) (order : List ℕ) → length (all_exits m order) ≡ length m.vertices
exits-long m order = length-map (numbers_below (length m.vertices)) (exits_of m order) ∙ length-numbers (length m.vertices)

pub exits-any : (m : NetMap) (order : List ℕ) (v : ℕ) → IsMap m → exits_at (all_exits m order) v ≡ exits_of m order v
exits-any m order v r = by (cases_order v (length m.vertices))
  where
    outside : length m.vertices ≤ v → exits_at (all_exits m order) v ≡ exits_of m order v
    outside l = get_or_past (all_exits m order) v [] (let s = exits-long m order in let n : length (all_exits m order) ≤ v = omega arith in n) ∙ sym (no-exits m order v 31 r l)

    by : (v ≡ length m.vertices) ⊎ ((v < length m.vertices) ⊎ (length m.vertices < v)) → exits_at (all_exits m order) v ≡ exits_of m order v
    by (inl e) = outside (omega arith)
    by (inr (inl a)) = exits-index m order (all_exits m order) v [] refl a
    by (inr (inr a)) = outside (omega arith)

-- within so many channels
abbrev pub within : List ℕ → ℕ → ℕ → Bool → Bool
within far left v down = nat_le (far_at far v down) left

-- the first of two
abbrev or_exit : Option Exit → Option Exit → Option Exit
or_exit None y = y
or_exit (Some x) y = Some x

first-append : (far : List ℕ) (left : ℕ) (down : Bool) (xs ys : List Exit) → first_exit far left down (xs ++ ys) ≡ or_exit (first_exit far left down xs) (first_exit far left down ys)
first-append far left down [] ys = refl
first-append far left down (x ∷ xs) ys = by (leads_within far left down x) (first-append far left down xs ys)
  where
    by : (b : Bool) → first_exit far left down (xs ++ ys) ≡ or_exit (first_exit far left down xs) (first_exit far left down ys) → (if b then Some x else first_exit far left down (xs ++ ys)) ≡ or_exit (if b then Some x else first_exit far left down xs) (first_exit far left down ys)
    by true e = refl
    by false e = e

-- the port of an answer
abbrev exit_of : NetMap → List ℕ → ℕ → Option ℕ → Option Exit
exit_of m order v o = option_and_then (exit_at m order v) o

-- the exit at a far end
abbrev over_to : NetMap → List ℕ → ℕ → ℕ → Option MapPort → Option Exit
over_to m order v k o = option_map (λ e. record { port = (port_of_place v k).p; next = e }) (option_map (λ f. let x : Entered = record { v = f.v; port = f.p; down = not (is_up m order (port_of_place v k)) } in x) o)

one-over : (m : NetMap) (order far : List ℕ) (left : ℕ) (down : Bool) (v k : ℕ) (o : Option MapPort) → first_exit far left down (option_to_list (over_to m order v k o)) ≡ (if leads_over (within far left) down (is_up m order (port_of_place v k)) o then over_to m order v k o else None)
one-over m order far left down v k None = refl
one-over m order far left down v k (Some f) = refl

if-of : (m : NetMap) (order : List ℕ) (v k : ℕ) (b : Bool) → exit_of m order v (if b then Some k else None) ≡ (if b then exit_at m order v k else None)
if-of m order v k true = refl
if-of m order v k false = refl

-- a port that passes is there
passing : (m : NetMap) (order far : List ℕ) (left : ℕ) (down : Bool) (v k : ℕ) (y : Option Exit) → leads_near m order (within far left) down (port_of_place v k) ≡ true → or_exit (exit_at m order v k) y ≡ exit_at m order v k
passing m order far left down v k y e = by (map_far m (port_of_place v k)) refl e
  where
    by : (o : Option MapPort) → map_far m (port_of_place v k) ≡ o → leads_over (within far left) down (is_up m order (port_of_place v k)) o ≡ true → or_exit (exit_at m order v k) y ≡ exit_at m order v k
    by None f g = absurd (false≢true g)
    by (Some x) f g = rw f refl

-- the first port of a list that leads so near is that of the least place
pub first-of : (m : NetMap) (order far : List ℕ) (left : ℕ) (down : Bool) (v n : ℕ) → first_exit far left down (exits_below m order v n) ≡ exit_of m order v (first_below n (λ k. leads_near m order (within far left) down (port_of_place v k)))
first-of m order far left down v zero =
    ap (first_exit far left down) (exits-none m order v) ∙ ap (exit_of m order v) (sym (first-zero (λ k. leads_near m order (within far left) down (port_of_place v k))))
first-of m order far left down v (suc n) =
    ap (first_exit far left down) (exits-next m order v n)
    ∙ first-append far left down (exits_below m order v n) (option_to_list (exit_at m order v n))
    ∙ ap (λ o. or_exit o (first_exit far left down (option_to_list (exit_at m order v n)))) (first-of m order far left down v n)
    ∙ by (first_below n test) (first-says n test)
    ∙ ap (exit_of m order v) (sym (first-more n test))
  where
    test : ℕ → Bool
    test k = leads_near m order (within far left) down (port_of_place v k)

    by : (o : Option ℕ) → Says n test o → or_exit (exit_of m order v o) (first_exit far left down (option_to_list (exit_at m order v n))) ≡ exit_of m order v (or_at o (test n) n)
    by (Some j) s = passing m order far left down v j (first_exit far left down (option_to_list (exit_at m order v n))) s.1
    by None s = one-over m order far left down v n (map_far m (port_of_place v n)) ∙ sym (if-of m order v n (test n))

turned-over : (m : NetMap) (order : List ℕ) (e : Entered) (k : ℕ) (o : Option Entered) → entered_by m order (port_of_place e.v k) ≡ o → turn_by e (exit_at m order e.v k) ≡ turned_by m order e (Some k)
turned-over m order e k None f = rw f refl
turned-over m order e k (Some x) f = rw f refl

turned : (m : NetMap) (order : List ℕ) (e : Entered) (o : Option ℕ) → turn_by e (exit_of m order e.v o) ≡ turned_by m order e o
turned m order e None = refl
turned m order e (Some k) = turned-over m order e k (entered_by m order (port_of_place e.v k)) refl

-- so its turn is the best one
pub first-turn : (m : NetMap) (order far : List ℕ) (left : ℕ) (e : Entered) → turn_by e (first_exit far left e.down (exits_of m order e.v)) ≡ best_turn m order (within far left) e
first-turn m order far left e = ap (turn_by e) (first-of m order far left e.down e.v 31) ∙ turned m order e (least_exit m order (within far left) e.v e.down)
