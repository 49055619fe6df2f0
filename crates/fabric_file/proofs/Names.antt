-- Names and numbers that were printed, and the vertices that they name.
use Rattle.std.proofs.Common.{◌≡◌, ◌≢◌, ◌<◌, ◌≤◌, ℕ, zero, suc, ◌+◌, ◌-◌, ◌^◌, List, [], ◌∷◌, ◌++◌, Bool, true, false, ◌&&◌, ◌||◌, map, length, nat_le, nat_lt, Some, None, option_map, Ok, Err, refl, ap, sym, subst, ◌∙◌, true≢false, arith, if◌then◌else◌}
use Rattle.std.specs.Prelude.{position, bytes_eq, decimal}
use Rattle.std.specs.Option.{option_map_or}
use Rattle.std.specs.List.{AllByRecursion, list_all, list_any, slice_get}
use Rattle.std.specs.Char.{digit_value}
use Rattle.std.specs.Str.Parse.{AllDigits}
use Rattle.std.proofs.lemmas.Bool.Decides.{nat_tests}
use Rattle.std.proofs.lemmas.Fmt.{decimal_is_IsNumeral}
use Rattle.std.proofs.lemmas.Slice.Eq.{bytes_eq-Decides}
use Rattle.net_defs.specs.declared.vertex.Vertex.{Vertex}
use Rattle.net_defs.specs.declared.vertex.Vertex.TheVariants.{Host, Switch}
use Rattle.net_defs.specs.declared.vertex.Cable.{Cable}
use Rattle.net_defs.specs.declared.vertex.End.{End}
use Rattle.net_defs.specs.Network.{Network, NamedSwitch, Apart, ends_of, names, has_vertex, ports_of, is_port_count}
use Rattle.net_defs.specs.Building.{vertex_named, name_of, first_of_two}
use Rattle.net_defs.proofs.Ends.{both}
use Rattle.net_defs.proofs.Growing.{no_some}
use Rattle.port_graph.proofs.Naming.{position-map}
use Rattle.port_graph.proofs.Fabrics.{is_some-position}
use Rattle.fab_text.specs.Word.{is_digit, is_name_byte, name_test}
use Rattle.fab_text.specs.declared.fault.NumFault.TheVariants.{NotNumber, TooLarge}
use Rattle.fab_text.specs.Fault.{as_kind}
use Rattle.fabric_file.specs.Declaring.{number_word}
use Rattle.fabric_file.specs.Reading.{AreNamed}
use Rattle.fabric_file.specs.Plain.{is_plain}
use Rattle.fabric_file.proofs.PlainWords.{number-plain, number-read}
use Rattle.fabric_file.proofs.Cutting.{position-cons}

abbrev pub IsNamed : List ℕ → Type 0
IsNamed name = name_test name ≡ true

-- a small number is printed and read as what it is
abbrev pub IsFine : ℕ → Type 0
IsFine p = (number_word (decimal p) ≡ Ok p) × (is_plain (decimal p) ≡ true)

pub small-fine : (p : ℕ) → p ≤ 16 → IsFine p
small-fine p h = (ap as_kind (number-read (2 ^ 32 - 1) p (omega arith) (omega arith)), number-plain p)

-- what holds of each element holds of one by its place
pub all-nth : {X : Type 0} (P : X → Type 0) (xs : List X) (i : ℕ) (x : X) → AllByRecursion P xs → slice_get xs i ≡ Some x → P x
all-nth P [] i x all e = cc
all-nth P (y ∷ ys) zero x all e = let same : y ≡ x = cc in subst P same all.0
all-nth P (y ∷ ys) (suc i) x all e = all-nth P ys i x all.1 e

-- a place within the length has an element
pub nth-there : {X : Type 0} (xs : List X) (i : ℕ) → nat_lt i (length xs) ≡ true → (x : X) × (slice_get xs i ≡ Some x)
nth-there [] i e = absurd (grind (arith, nat_tests))
nth-there (y ∷ ys) zero e = (y, refl)
nth-there (y ∷ ys) (suc i) e = nth-there ys i (grind (arith, nat_tests))

pub nth-map : {X Y : Type 0} (f : X → Y) (xs : List X) (i : ℕ) → slice_get (map f xs) i ≡ option_map f (slice_get xs i)
nth-map f [] i = refl
nth-map f (y ∷ ys) zero = refl
nth-map f (y ∷ ys) (suc i) = nth-map f ys i

-- elements that are apart: the parts before and after a place
pub all-at : {X : Type 0} (P : X → Type 0) (xs ys : List X) (y : X) → AllByRecursion P (xs ++ y ∷ ys) → P y
all-at P [] ys y all = all.0
all-at P (x ∷ xs) ys y all = all-at P xs ys y all.1

pub all-behind : {X : Type 0} (P : X → Type 0) (xs ys : List X) → AllByRecursion P (xs ++ ys) → AllByRecursion P ys
all-behind P [] ys all = all
all-behind P (x ∷ xs) ys all = all-behind P xs ys all.1

pub all-before : {X : Type 0} (P : X → Type 0) (xs ys : List X) → AllByRecursion P (xs ++ ys) → AllByRecursion P xs
all-before P [] ys all = tt
all-before P (x ∷ xs) ys all = (all.0, all-before P xs ys all.1)

pub apart-behind : {X : Type 0} (xs ys : List X) → Apart (xs ++ ys) → Apart ys
apart-behind [] ys apart = apart
apart-behind (x ∷ xs) ys apart = apart-behind xs ys apart.1

pub apart-front : {X : Type 0} (xs ys : List X) → Apart (xs ++ ys) → Apart xs
apart-front [] ys apart = tt
apart-front (x ∷ xs) ys apart = (all-before (λ y. x ≢ y) xs ys apart.0, apart-front xs ys apart.1)

pub apart-before : {X : Type 0} (xs ys : List X) (y : X) → Apart (xs ++ y ∷ ys) → AllByRecursion (λ x. x ≢ y) xs
apart-before [] ys y apart = tt
apart-before (x ∷ xs) ys y apart = (all-at (λ z. x ≢ z) xs ys y apart.0, apart-before xs ys y apart.1)

apart-cross : {X : Type 0} (xs ys : List X) (i : ℕ) (y : X) → Apart (xs ++ ys) → slice_get ys i ≡ Some y → AllByRecursion (λ x. x ≢ y) xs
apart-cross [] ys i y apart e = tt
apart-cross (x ∷ xs) ys i y apart e = (all-nth (λ z. x ≢ z) ys i y (all-behind (λ z. x ≢ z) xs ys apart.0) e, apart-cross xs ys i y apart.1 e)

-- a name that differs from each isn't found
pub fresh : (name : List ℕ) (xs : List (List ℕ)) → AllByRecursion (λ x. x ≢ name) xs → list_any (bytes_eq name) xs ≡ false
fresh name [] all = refl
fresh name (x ∷ xs) all = by (bytes_eq name x) refl (fresh name xs all.1)
  where
    by : (t : Bool) → bytes_eq name x ≡ t → list_any (bytes_eq name) xs ≡ false → (t || list_any (bytes_eq name) xs) ≡ false
    by true e rest = absurd (all.0 (sym ((bytes_eq-Decides name x).0 e)))
    by false e rest = rest

-- a name is found at its place
found-at : (xs : List (List ℕ)) (i : ℕ) (x : List ℕ) → Apart xs → slice_get xs i ≡ Some x → position (bytes_eq x) xs ≡ Some i
found-at [] i x apart e = cc
found-at (y ∷ ys) zero x apart e =
    let same : y ≡ x = cc in
    let t : bytes_eq x y ≡ true = (bytes_eq-Decides x y).1 (sym same) in
    position-cons (bytes_eq x) y ys ∙ (λ i. if t i then Some 0 else option_map (λ n. 1 + n) (position (bytes_eq x) ys))
found-at (y ∷ ys) (suc i) x apart e = by (bytes_eq x y) refl (found-at ys i x apart.1 e)
  where
    by : (t : Bool) → bytes_eq x y ≡ t → position (bytes_eq x) ys ≡ Some i → position (bytes_eq x) (y ∷ ys) ≡ Some (suc i)
    by true t rest = absurd (all-nth (λ z. y ≢ z) ys i x apart.0 e (sym ((bytes_eq-Decides x y).0 t)))
    by false t rest =
        let plus : 1 + i ≡ suc i = omega arith in
        position-cons (bytes_eq x) y ys ∙ (λ j. if t j then Some 0 else option_map (λ n. 1 + n) (rest j)) ∙ ap Some plus

-- the name of a vertex has the text's form, and names it
pub name-names : (n : Network) (v : Vertex) → Apart (names n) → AreNamed n → has_vertex n v ≡ true → IsNamed (name_of n v) × (vertex_named n (name_of n v) ≡ Some v)
name-names n (Host h) apart good there =
    let nth = nth-there n.hosts h there in
    let x = nth.0 in
    let name : name_of n (Host h) ≡ x = ap (λ o. option_map_or (λ name. name) o []) nth.1 in
    let found : position (bytes_eq x) n.hosts ≡ Some h = found-at n.hosts h x (apart-front n.hosts (map (λ s. s.name) n.switches) apart) nth.1 in
    let form : IsNamed x = all-nth IsNamed n.hosts h x (all-before IsNamed n.hosts (map (λ s. s.name) n.switches) good) nth.1 in (
      subst IsNamed (sym name) form,
      ap (vertex_named n) name ∙ ap (λ o. first_of_two (option_map Host o) (option_map Switch (position (λ s. bytes_eq x s.name) n.switches))) found,
    )
name-names n (Switch s) apart good there =
    let nth = nth-there n.switches s there in
    let w = nth.0 in
    let all = map (λ s. s.name) n.switches in
    let name : name_of n (Switch s) ≡ w.name = ap (λ o. option_map_or (λ w. w.name) o []) nth.1 in
    let at : slice_get all s ≡ Some w.name = nth-map (λ s. s.name) n.switches s ∙ ap (option_map (λ s. s.name)) nth.1 in
    let found : position (λ s. bytes_eq w.name s.name) n.switches ≡ Some s =
    sym (position-map (λ s. s.name) (bytes_eq w.name) n.switches) ∙ found-at all s w.name (apart-behind n.hosts all apart) at in
    let other : position (bytes_eq w.name) n.hosts ≡ None = no_some _ (is_some-position (bytes_eq w.name) n.hosts ∙ fresh w.name n.hosts (apart-cross n.hosts all s w.name apart at)) in
    let form : IsNamed w.name = all-nth IsNamed all s w.name (all-behind IsNamed n.hosts all good) at in (
      subst IsNamed (sym name) form,
      ap (vertex_named n) name ∙ (λ i. first_of_two (option_map Host (other i)) (option_map Switch (found i))),
    )

-- a switch has at most 16 ports
pub count-small : (p : ℕ) → is_port_count p ≡ true → p ≤ 16
count-small p e = grind (arith, nat_tests)

ports-small : (ws : List NamedSwitch) (s p : ℕ) → AllByRecursion (λ w. is_port_count w.ports ≡ true) ws → nat_lt p (option_map_or (λ w. w.ports) (slice_get ws s) 0) ≡ true → p ≤ 15
ports-small [] s p all e = absurd (grind (arith, nat_tests))
ports-small (w ∷ ws) zero p all e = let k = count-small w.ports all.0 in grind (arith, nat_tests)
ports-small (w ∷ ws) (suc s) p all e = ports-small ws s p all.1 e

pub port-small : (n : Network) (v : Vertex) (p : ℕ) → AllByRecursion (λ w. is_port_count w.ports ≡ true) n.switches → nat_lt p (ports_of n v) ≡ true → p ≤ 15
port-small n (Host h) p all e = by (nat_lt h (length n.hosts)) e
  where
    by : (t : Bool) → nat_lt p (if t then 1 else 0) ≡ true → p ≤ 15
    by true e = grind (arith, nat_tests)
    by false e = absurd (grind (arith, nat_tests))
port-small n (Switch s) p all e = ports-small n.switches s p all e

-- a vertex with a port is there
switch-there : (ws : List NamedSwitch) (s p : ℕ) → nat_lt p (option_map_or (λ w. w.ports) (slice_get ws s) 0) ≡ true → nat_lt s (length ws) ≡ true
switch-there [] s p e = absurd (grind (arith, nat_tests))
switch-there (w ∷ ws) zero p e = grind (arith, nat_tests)
switch-there (w ∷ ws) (suc s) p e = let k : nat_lt s (length ws) ≡ true = switch-there ws s p e in grind (arith, nat_tests)

host-there : (t : Bool) (p : ℕ) → nat_lt p (if t then 1 else 0) ≡ true → t ≡ true
host-there true p e = refl
host-there false p e = absurd (grind (arith, nat_tests))

pub vertex-there : (n : Network) (v : Vertex) (p : ℕ) → nat_lt p (ports_of n v) ≡ true → has_vertex n v ≡ true
vertex-there n (Host h) p e = host-there (nat_lt h (length n.hosts)) p e
vertex-there n (Switch s) p e = switch-there n.switches s p e

-- both ends of a cable by its number
pub ends-nth : (P : End → Type 0) (cs : List Cable) (k : ℕ) (c : Cable) → AllByRecursion P (ends_of cs) → slice_get cs k ≡ Some c → P c.a × P c.b
ends-nth P [] k c all e = cc
ends-nth P (d ∷ ds) zero c all e = let same : d ≡ c = cc in (subst (λ x. P x.a) same all.0, subst (λ x. P x.b) same all.1.0)
ends-nth P (d ∷ ds) (suc k) c all e = ends-nth P ds k c all.1.1 e
