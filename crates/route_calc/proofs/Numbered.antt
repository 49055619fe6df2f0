-- Vertices that are numbered as they stand in the order.
use Rattle.std.proofs.Common.{◌≡◌, ◌<◌, ◌≤◌, ◌+◌, ℕ, List, [], ◌∷◌, length, Bool, true, false, not, ◌||◌, nat_lt, nat_le, Some, refl, ap, sym, ◌∙◌, subst, arith, ◌⊎◌, inl, inr, if◌then◌else◌}
use Rattle.std.specs.List.{list_all}
use Rattle.std.proofs.lemmas.Bool.{and_parts, cases_order, false≢true}
use Rattle.std.proofs.lemmas.Bool.Decides.{nat_tests}
use Rattle.journal_defs.proofs.Members.{IsMember}
use Rattle.map_defs.specs.NetMap.{NetMap, MapPort, map_far, is_switch_vertex}
use Rattle.map_defs.specs.Orientation.{is_up}
use Rattle.map_defs.proofs.Levels.{switch-there}
use Rattle.route_calc.specs.declared.entered.Exit.{Exit}
use Rattle.route_calc.specs.Reaching.{port_of_place}
use Rattle.route_calc.specs.Exits.{exit_at, exits_of}
use Rattle.route_calc.specs.Lowering.{IsNumbered, AreNumbered, leads_in_order}
use Rattle.route_calc.proofs.Listed.{placed-exits}

all-hold : (p : Exit → Bool) (xs : List Exit) (x : Exit) → list_all p xs ≡ true → IsMember x xs → p x ≡ true
all-hold p [] x e i = absurd i
all-hold p (y ∷ ys) x e (inl s) = ap p s ∙ (and_parts (p y) (list_all p ys) e).0
all-hold p (y ∷ ys) x e (inr i) = all-hold p ys x (and_parts (p y) (list_all p ys) e).1 i

less : (a b : ℕ) → nat_lt a b ≡ true → a < b
less a b e = grind (arith, nat_tests)

most : (a b : ℕ) → nat_le a b ≡ true → a ≤ b
most a b e = grind (arith, nat_tests)

-- one port by what its list says
pub numbered-by : (m : NetMap) (order : List ℕ) (v : ℕ) (xs : List Exit) → xs ≡ exits_of m order v → list_all (leads_in_order m v) xs ≡ true → IsNumbered m order v
numbered-by m order v xs are e = record { up = up; down = down }
  where
    some_at : (k : ℕ) (f : MapPort) → map_far m (port_of_place v k) ≡ Some f → exit_at m order v k ≡ Some (record { port = (port_of_place v k).p; next = record { v = f.v; port = f.p; down = not (is_up m order (port_of_place v k)) } })
    some_at k f g = rw g refl

    holds : (k : ℕ) (f : MapPort) → k < 31 → map_far m (port_of_place v k) ≡ Some f → leads_in_order m v (record { port = (port_of_place v k).p; next = record { v = f.v; port = f.p; down = not (is_up m order (port_of_place v k)) } }) ≡ true
    holds k f l leads =
        let x : Exit = record { port = (port_of_place v k).p; next = record { v = f.v; port = f.p; down = not (is_up m order (port_of_place v k)) } } in
        all-hold (leads_in_order m v) xs x e (subst (IsMember x) (sym are) (placed-exits m order v 31 k x l (some_at k f leads)))

    up : (k : ℕ) (f : MapPort) → k < 31 → is_switch_vertex m v ≡ true → is_switch_vertex m f.v ≡ true → map_far m (port_of_place v k) ≡ Some f → is_up m order (port_of_place v k) ≡ true → f.v < v
    up k f l here there leads u = less f.v v (sym (λ i. not (there i) || (if not (u i) then nat_le v f.v else nat_lt f.v v)) ∙ holds k f l leads)

    down : (k : ℕ) (f : MapPort) → k < 31 → is_switch_vertex m v ≡ true → is_switch_vertex m f.v ≡ true → map_far m (port_of_place v k) ≡ Some f → is_up m order (port_of_place v k) ≡ false → v ≤ f.v
    down k f l here there leads u = most v f.v (sym (λ i. not (there i) || (if not (u i) then nat_le v f.v else nat_lt f.v v)) ∙ holds k f l leads)

-- a host doesn't count
pub numbered-host : (m : NetMap) (order : List ℕ) (v : ℕ) → is_switch_vertex m v ≡ false → IsNumbered m order v
numbered-host m order v host = record { up = λ k e l here. absurd (false≢true (sym host ∙ here)); down = λ k e l here. absurd (false≢true (sym host ∙ here)) }

-- one more vertex
pub numbered-more : (m : NetMap) (order : List ℕ) (n : ℕ) → ((v : ℕ) → v < n → IsNumbered m order v) → IsNumbered m order n → (v : ℕ) → v < n + 1 → IsNumbered m order v
numbered-more m order n all one v l = by (cases_order v n)
  where
    by : (v ≡ n) ⊎ ((v < n) ⊎ (n < v)) → IsNumbered m order v
    by (inl e) = subst (IsNumbered m order) (sym e) one
    by (inr (inl a)) = all v a
    by (inr (inr a)) = absurd (omega arith)

-- and those of all vertices
pub numbered-all : (m : NetMap) (order : List ℕ) (n : ℕ) → length m.vertices ≤ n → ((v : ℕ) → v < n → IsNumbered m order v) → AreNumbered m order
numbered-all m order n long all v = by (is_switch_vertex m v) refl
  where
    by : (b : Bool) → is_switch_vertex m v ≡ b → IsNumbered m order v
    by true e = all v (let l = switch-there m.vertices v e in let w : v < n = omega arith in w)
    by false e = numbered-host m order v e
