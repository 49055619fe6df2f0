-- Names and growth, in the words of the tables that a fabric keeps.
use Rattle.std.proofs.Common.{◌≡◌, ℕ, suc, ◌+◌, List, [], ◌∷◌, ◌++◌, Bool, true, false, ◌||◌, not, cond, length, map, nat_lt, Option, Some, None, Result, Ok, Err, is_err, OnOk, is_some, option_map, refl, ap, sym, ◌∙◌, subst, true≢false, arith}
use Rattle.std.specs.Prelude.{position, bytes_eq}
use Rattle.std.specs.List.{list_any, prefix_len}
use Rattle.std.proofs.lemmas.Bool.Decides.{nat_tests}
use Rattle.std.proofs.lemmas.List.{map-append}
use Rattle.std.proofs.lemmas.List.Folds.{list_any-append}
use Rattle.net_defs.specs.declared.vertex.Vertex.TheVariants.{Host, Switch}
use Rattle.net_defs.specs.declared.vertex.Cable.{Cable}
use Rattle.net_defs.specs.Network.{Network, NamedSwitch}
use Rattle.net_defs.specs.Building.{taken, vertex_named, first_of_two}
use Rattle.port_graph.specs.Named.{network_of}
use Rattle.port_graph.proofs.Naming.{position-map}

zero_lt : (n : ℕ) → nat_lt 0 (suc n) ≡ true
zero_lt n = grind (arith, nat_tests)

suc_lt : (m n : ℕ) → nat_lt (1 + m) (suc n) ≡ nat_lt m n
suc_lt m n = grind (arith, nat_tests)

place-any : {X : Type 0} (p : X → Bool) (xs : List X) → nat_lt (prefix_len (λ x. not (p x)) xs) (length xs) ≡ list_any p xs
place-any p [] = refl
place-any p (x ∷ xs) = by (p x) (place-any p xs)
  where
    by : (b : Bool) → nat_lt (prefix_len (λ x. not (p x)) xs) (length xs) ≡ list_any p xs → nat_lt (cond (not b) (1 + prefix_len (λ x. not (p x)) xs) 0) (suc (length xs)) ≡ (b || list_any p xs)
    by true rest = zero_lt (length xs)
    by false rest = suc_lt (prefix_len (λ x. not (p x)) xs) (length xs) ∙ rest

is_some-cond : {X : Type 0} (b : Bool) (x : X) → is_some (cond b (Some x) None) ≡ b
is_some-cond true x = refl
is_some-cond false x = refl

-- a place is found where an element passes
pub is_some-position : {X : Type 0} (p : X → Bool) (xs : List X) → is_some (position p xs) ≡ list_any p xs
is_some-position p xs = is_some-cond (nat_lt (prefix_len (λ x. not (p x)) xs) (length xs)) (prefix_len (λ x. not (p x)) xs) ∙ place-any p xs

list_any-map : {X Y : Type 0} (f : X → Y) (p : Y → Bool) (xs : List X) → list_any p (map f xs) ≡ list_any (λ x. p (f x)) xs
list_any-map f p [] = refl
list_any-map f p (x ∷ xs) = ap (λ b. p (f x) || b) (list_any-map f p xs)

-- the vertex of a name, by the two tables
pub vertex_named-of : (hs ss : List NamedSwitch) (cs : List Cable) (name : List ℕ) → vertex_named (network_of hs ss cs) name ≡ first_of_two (option_map Host (position (λ v. bytes_eq name v.name) hs)) (option_map Switch (position (λ v. bytes_eq name v.name) ss))
vertex_named-of hs ss cs name = ap (λ o. first_of_two (option_map Host o) (option_map Switch (position (λ v. bytes_eq name v.name) ss))) (position-map (λ h. h.name) (bytes_eq name) hs)

-- a name is taken by a host or a switch
pub taken-of : (hs ss : List NamedSwitch) (cs : List Cable) (name : List ℕ) → taken (network_of hs ss cs) name ≡ (list_any (λ v. bytes_eq name v.name) hs || list_any (λ v. bytes_eq name v.name) ss)
taken-of hs ss cs name =
    list_any-append (bytes_eq name) (map (λ h. h.name) hs) (map (λ s. s.name) ss)
    ∙ ap (λ b. b || list_any (bytes_eq name) (map (λ s. s.name) ss)) (list_any-map (λ h. h.name) (bytes_eq name) hs)
    ∙ ap (λ b. list_any (λ v. bytes_eq name v.name) hs || b) (list_any-map (λ s. s.name) (bytes_eq name) ss)

is_some-first : (o : Option ℕ) (p : Option ℕ) → is_some (first_of_two (option_map Host o) (option_map Switch p)) ≡ (is_some o || is_some p)
is_some-first None None = refl
is_some-first None (Some s) = refl
is_some-first (Some h) p = refl

-- exactly the names that are taken have a vertex
pub taken-found : (hs ss : List NamedSwitch) (cs : List Cable) (name : List ℕ) → is_some (vertex_named (network_of hs ss cs) name) ≡ taken (network_of hs ss cs) name
taken-found hs ss cs name =
    let test : NamedSwitch → Bool = λ v. bytes_eq name v.name in
    ap is_some (vertex_named-of hs ss cs name)
    ∙ is_some-first (position test hs) (position test ss)
    ∙ (λ i. is_some-position test hs i || is_some-position test ss i)
    ∙ sym (taken-of hs ss cs name)

first_false : (a b : Bool) → (a || b) ≡ false → (a ≡ false) × (b ≡ false)
first_false true b e = absurd (true≢false e)
first_false false b e = (refl, e)

pub free_name : (hs ss : List NamedSwitch) (cs : List Cable) (name : List ℕ) → taken (network_of hs ss cs) name ≡ false → (list_any (λ v. bytes_eq name v.name) hs ≡ false) × (list_any (λ v. bytes_eq name v.name) ss ≡ false)
free_name hs ss cs name e = first_false _ _ (sym (taken-of hs ss cs name) ∙ e)

-- a host more
pub network_of-host : (hs ss : List NamedSwitch) (cs : List Cable) (h : NamedSwitch) → network_of (hs ++ h ∷ []) ss cs ≡ record { hosts = map (λ v. v.name) hs ++ h.name ∷ []; switches = ss; cables = cs }
network_of-host hs ss cs h = ap (λ l. record { hosts = l; switches = ss; cables = cs }) (map-append (λ v. v.name) hs (h ∷ []))

abbrev as_host : List ℕ → NamedSwitch
as_host name = record { name = name; ports = 1 }

-- each fabric in memory is one of two tables and cables, so exactly the names that are taken have a vertex
map-named : (names : List (List ℕ)) → map (λ v. v.name) (map as_host names) ≡ names
map-named [] = refl
map-named (n ∷ ns) = ap (λ l. n ∷ l) (map-named ns)

pub taken-named : (n : Network) (name : List ℕ) → is_some (vertex_named n name) ≡ taken n name
taken-named n name = subst (λ m. is_some (vertex_named m name) ≡ taken m name) (ap (λ l. record { hosts = l; switches = n.switches; cables = n.cables }) (map-named n.hosts)) (taken-found (map as_host n.hosts) n.switches n.cables name)

-- what an answer says at an `Ok`, of one that is no `Err`
pub on_ok : {T E : Type 0} (r : Result T E) (P : Type 0) → false ≡ is_err r → OnOk r P → P
on_ok (Ok x) P e h = h
on_ok (Err x) P e h = absurd (true≢false (sym e))
