-- The ends of a map's cables: with one cable more, and where none ends.
use Rattle.std.proofs.Common.{◌≡◌, ◌≢◌, List, [], ◌∷◌, ◌++◌, Bool, true, false, ◌||◌, not, Some, None, is_some, sym, subst, ap, ◌∙◌, true≢false, refl, nat_eq, ◌⊎◌, inl, inr, if◌then◌else◌}
use Rattle.std.specs.Prelude.{◌-ℤ◌}
use Rattle.std.specs.List.{AllByRecursion, list_all}
use Rattle.std.proofs.lemmas.Bool.{false≢true, and_parts, and_from, or_cases}
use Rattle.std.proofs.lemmas.Bool.Decides.{Decides-eqb}
use Rattle.net_defs.specs.Turn.{IsTurn, is_turn}
use Rattle.net_defs.specs.Building.{first_of_two}
use Rattle.net_defs.proofs.Distinct.{all-push}
use Rattle.journal_defs.proofs.Members.{IsMember, all-member}
use Rattle.map_defs.specs.declared.vertex.MapCable.{MapCable}
use Rattle.map_defs.specs.NetMap.{MapPort, first_end, second_end, same_port, far_port, map_ends, IsNearPort, AreNearPorts}
use Rattle.map_defs.proofs.Ports.{same_port-refl}
use Rattle.map_defs.proofs.Leading.{far-end}
use Rattle.fabric_map.specs.Growing.{is_near}

-- a cable more gives a far end where there was none
pub far_port-push : (cs : List MapCable) (c : MapCable) (d : MapPort) → far_port (cs ++ c ∷ []) d ≡ first_of_two (far_port cs d) (far_port (c ∷ []) d)
far_port-push [] c d = refl
far_port-push (x ∷ xs) c d = by (same_port (first_end x) d) (same_port (second_end x) d) (far_port-push xs c d)
  where
    by : (s t : Bool) → far_port (xs ++ c ∷ []) d ≡ first_of_two (far_port xs d) (far_port (c ∷ []) d) → (if s then Some (second_end x) else if t then Some (first_end x) else far_port (xs ++ c ∷ []) d) ≡ first_of_two (if s then Some (second_end x) else if t then Some (first_end x) else far_port xs d) (far_port (c ∷ []) d)
    by true t rest = refl
    by false true rest = refl
    by false false rest = rest

-- a port without far end is none of the ends
pub far_port-unused : (cs : List MapCable) (d : MapPort) → far_port cs d ≡ None → AllByRecursion (λ e. d ≢ e) (map_ends cs)
far_port-unused [] d none = tt
far_port-unused (c ∷ cs) d none = by (same_port (first_end c) d) (same_port (second_end c) d) refl refl none (far_port-unused cs d)
  where
    by : (s t : Bool) → same_port (first_end c) d ≡ s → same_port (second_end c) d ≡ t → (if s then Some (second_end c) else if t then Some (first_end c) else far_port cs d) ≡ None → (far_port cs d ≡ None → AllByRecursion (λ e. d ≢ e) (map_ends cs)) → AllByRecursion (λ e. d ≢ e) (map_ends (c ∷ cs))
    by true t p q n rest = cc
    by false true p q n rest = cc
    by false false p q n rest = (
      (λ same. true≢false (sym (same_port-refl d) ∙ ap (λ e. same_port e d) same ∙ p)),
      ((λ same. true≢false (sym (same_port-refl d) ∙ ap (λ e. same_port e d) same ∙ q)), rest n),
    )

-- an end has a far end
pub end-far : (cs : List MapCable) (d : MapPort) → IsMember d (map_ends cs) → is_some (far_port cs d) ≡ true
end-far [] d m = absurd m
end-far (c ∷ cs) d m = by (same_port (first_end c) d) (same_port (second_end c) d) refl refl m (end-far cs d)
  where
    by : (s t : Bool) → same_port (first_end c) d ≡ s → same_port (second_end c) d ≡ t → IsMember d (map_ends (c ∷ cs)) → (IsMember d (map_ends cs) → is_some (far_port cs d) ≡ true) → is_some (if s then Some (second_end c) else if t then Some (first_end c) else far_port cs d) ≡ true
    by true t p q n rest = refl
    by false true p q n rest = refl
    by false false p q (inl e) rest = absurd (false≢true (sym p ∙ ap (λ x. same_port x d) (sym e) ∙ same_port-refl d))
    by false false p q (inr (inl e)) rest = absurd (false≢true (sym q ∙ ap (λ x. same_port x d) (sym e) ∙ same_port-refl d))
    by false false p q (inr (inr n)) rest = rest n

-- what holds of each end holds of each far end
pub far-holds : (P : MapPort → Type 0) (cs : List MapCable) (d e : MapPort) → AllByRecursion P (map_ends cs) → far_port cs d ≡ Some e → P e
far-holds P [] d e all f = cc
far-holds P (c ∷ cs) d e all f = by (same_port (first_end c) d) (same_port (second_end c) d) f (far-holds P cs d e all.1.1)
  where
    by : (s t : Bool) → (if s then Some (second_end c) else if t then Some (first_end c) else far_port cs d) ≡ Some e → (far_port cs d ≡ Some e → P e) → P e
    by true t g rest = let one : second_end c ≡ e = cc in subst P one all.1.0
    by false true g rest = let one : first_end c ≡ e = cc in subst P one all.0
    by false false g rest = rest g

-- a port with a far end is as each end is
pub port-holds : (P : MapPort → Type 0) (cs : List MapCable) (d e : MapPort) → AllByRecursion P (map_ends cs) → far_port cs d ≡ Some e → P d
port-holds P cs d e all f = all-member P d (map_ends cs) all (far-end cs d e f)

pub map_ends-push : (cs : List MapCable) (c : MapCable) → map_ends (cs ++ c ∷ []) ≡ (map_ends cs ++ first_end c ∷ []) ++ second_end c ∷ []
map_ends-push [] c = refl
map_ends-push (x ∷ xs) c = ap (λ l. first_end x ∷ second_end x ∷ l) (map_ends-push xs c)

-- the test of nearness
pub near-port : (d e : MapPort) → is_near d e ≡ true → IsNearPort d e
near-port d e t v = by (or_cases (not (nat_eq d.v e.v)) (is_turn (d.p -ℤ e.p)) t)
  where
    by : (not (nat_eq d.v e.v) ≡ true) ⊎ (is_turn (d.p -ℤ e.p) ≡ true) → IsTurn (d.p -ℤ e.p)
    by (inl h) = absurd (true≢false (sym h ∙ ap not ((Decides-eqb d.v e.v).1 v)))
    by (inr h) = h

pub near-all : (ds : List MapPort) (e : MapPort) → list_all (λ d. is_near d e) ds ≡ true → AllByRecursion (λ d. IsNearPort d e) ds
near-all [] e t = tt
near-all (d ∷ ds) e t = let two = and_parts (is_near d e) (list_all (λ x. is_near x e) ds) t in (near-port d e two.0, near-all ds e two.1)

pub near-push : (ds : List MapPort) (e : MapPort) → AreNearPorts ds → AllByRecursion (λ d. IsNearPort d e) ds → AreNearPorts (ds ++ e ∷ [])
near-push [] e near new = (tt, tt)
near-push (d ∷ ds) e near new = (all-push (IsNearPort d) ds e near.0 new.0, near-push ds e near.1 new.1)

-- ports are near where the cabled ones of the vertex are
pub near-from : (ds : List MapPort) (d : MapPort) → AllByRecursion (λ e. e.v ≡ d.v → is_turn (e.p -ℤ d.p) ≡ true) ds → list_all (λ e. is_near e d) ds ≡ true
near-from [] d all = refl
near-from (e ∷ es) d all = and_from (is_near e d) (list_all (λ x. is_near x d) es) (here (nat_eq e.v d.v) refl) (near-from es d all.1)
  where
    here : (b : Bool) → nat_eq e.v d.v ≡ b → (not b || is_turn (e.p -ℤ d.p)) ≡ true
    here true p = all.0 ((Decides-eqb e.v d.v).0 p)
    here false p = refl

-- and not where one of them isn't
pub far-apart : (ds : List MapPort) (e d : MapPort) → IsMember e ds → e.v ≡ d.v → is_turn (e.p -ℤ d.p) ≡ false → list_all (λ x. is_near x d) ds ≡ false
far-apart ds e d m v t = by (list_all (λ x. is_near x d) ds) refl
  where
    by : (b : Bool) → list_all (λ x. is_near x d) ds ≡ b → list_all (λ x. is_near x d) ds ≡ false
    by true p = absurd (false≢true (sym t ∙ all-member (λ x. IsNearPort x d) e ds (near-all ds d p) m v))
    by false p = p
