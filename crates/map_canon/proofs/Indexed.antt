-- Switches by number, with one vertex more.
use Rattle.std.proofs.Common.{◌≡◌, ◌<◌, ◌+◌, ℕ, zero, suc, List, [], ◌∷◌, ◌++◌, Bool, true, false, length, nat_eq, Option, Some, None, Result, Ok, Err, OnOk, OnErr, refl, ap, sym, ◌∙◌, subst, arith, if◌then◌else◌, ◌⊎◌, inl, inr}
use Rattle.std.specs.Prelude.{position, slice_get}
use Rattle.std.proofs.lemmas.Bool.{cases_order}
use Rattle.std.proofs.lemmas.Bool.Decides.{nat_tests}
use Rattle.net_defs.specs.Building.{first_of_two}
use Rattle.map_defs.specs.declared.vertex.MapVertex.{MapVertex}
use Rattle.map_defs.specs.declared.vertex.MapVertex.TheVariants.{Host, Switch}
use Rattle.map_defs.specs.NetMap.{NetMap, switches_of}
use Rattle.fabric_map.specs.declared.fault.MapFault.{MapFault}
use Rattle.fabric_map.specs.Growing.{with_host, with_switch}
use Rattle.fabric_map.proofs.Listings.{position-push, switches_of-host, switches_of-switch}
use Rattle.map_canon.specs.Declaring.{is_switch_numbered, IsSwitchIndex}

first-or-none : {X : Type 0} (o : Option X) → first_of_two o None ≡ o
first-or-none None = refl
first-or-none (Some x) = refl

pub index-none : IsSwitchIndex [] []
index-none = record { counted = refl; found = λ s. refl }

pub index-host : (vs : List MapVertex) (sw : List ℕ) (h : ℕ) → IsSwitchIndex vs sw → IsSwitchIndex (vs ++ Host h ∷ []) sw
index-host vs sw h is = record {
  counted = is.counted ∙ ap length (sym (switches_of-host vs h));
  found = λ s. is.found s ∙ sym (position-push (is_switch_numbered s) vs (Host h) ∙ first-or-none (position (is_switch_numbered s) vs));
}

-- an element more
at-old : (xs : List ℕ) (x k : ℕ) → k < length xs → first_of_two (slice_get xs k) None ≡ slice_get (xs ++ x ∷ []) k
at-old [] x k l = absurd (omega arith)
at-old (y ∷ ys) x zero l = refl
at-old (y ∷ ys) x (suc k) l = at-old ys x k (omega arith)

at-new : (xs : List ℕ) (x k : ℕ) → k ≡ length xs → first_of_two (slice_get xs k) (Some x) ≡ slice_get (xs ++ x ∷ []) k
at-new [] x zero e = refl
at-new [] x (suc k) e = absurd (omega arith)
at-new (y ∷ ys) x zero e = absurd (omega arith)
at-new (y ∷ ys) x (suc k) e = at-new ys x k (omega arith)

at-past : (xs : List ℕ) (x k : ℕ) → length xs < k → first_of_two (slice_get xs k) None ≡ slice_get (xs ++ x ∷ []) k
at-past [] x zero l = absurd (omega arith)
at-past [] x (suc k) l = refl
at-past (y ∷ ys) x zero l = absurd (omega arith)
at-past (y ∷ ys) x (suc k) l = at-past ys x k (omega arith)

at-more : (xs : List ℕ) (x n k : ℕ) → n ≡ length xs → first_of_two (slice_get xs k) (if nat_eq n k then Some x else None) ≡ slice_get (xs ++ x ∷ []) k
at-more xs x n k e = by (cases_order k (length xs))
  where
    by : (k ≡ length xs) ⊎ ((k < length xs) ⊎ (length xs < k)) → first_of_two (slice_get xs k) (if nat_eq n k then Some x else None) ≡ slice_get (xs ++ x ∷ []) k
    by (inl f) = let t : nat_eq n k ≡ true = grind (arith, nat_tests) in ap (λ b. first_of_two (slice_get xs k) (if b then Some x else None)) t ∙ at-new xs x k f
    by (inr (inl l)) = let t : nat_eq n k ≡ false = grind (arith, nat_tests) in ap (λ b. first_of_two (slice_get xs k) (if b then Some x else None)) t ∙ at-old xs x k l
    by (inr (inr l)) = let t : nat_eq n k ≡ false = grind (arith, nat_tests) in ap (λ b. first_of_two (slice_get xs k) (if b then Some x else None)) t ∙ at-past xs x k l

length-one : {X : Type 0} (xs : List X) (x : X) → length (xs ++ x ∷ []) ≡ length xs + 1
length-one [] x = refl
length-one (y ∷ ys) x = let e = length-one ys x in omega arith

pub index-switch : (vs : List MapVertex) (sw : List ℕ) → IsSwitchIndex vs sw → IsSwitchIndex (vs ++ Switch (length (switches_of vs)) ∷ []) (sw ++ length vs ∷ [])
index-switch vs sw is = record {
  counted = length-one sw (length vs) ∙ ap (λ n. n + 1) is.counted ∙ sym (ap length (switches_of-switch vs (length (switches_of vs))) ∙ length-one (switches_of vs) (length (switches_of vs)));
  found = λ s.
      sym (at-more sw (length vs) (length (switches_of vs)) s (sym is.counted))
      ∙ ap (λ o. first_of_two o (if nat_eq (length (switches_of vs)) s then Some (length vs) else None)) (is.found s)
      ∙ sym (position-push (is_switch_numbered s) vs (Switch (length (switches_of vs))));
}

-- a host that the map took, or refused
pub host-kept : (old new : NetMap) (sw : List ℕ) (h : ℕ) (r : Result ℕ MapFault) → IsSwitchIndex old.vertices sw → OnOk r (new ≡ with_host old h) → OnErr r (new ≡ old) → IsSwitchIndex new.vertices sw
host-kept old new sw h (Ok v) is ok err = subst (λ m. IsSwitchIndex m.vertices sw) (sym ok) (index-host old.vertices sw h is)
host-kept old new sw h (Err e) is ok err = subst (λ m. IsSwitchIndex m.vertices sw) (sym err) is

-- a switch that the map took
pub switch-kept : (old new : NetMap) (before sw : List ℕ) (mark : Bool) (v : ℕ) → IsSwitchIndex old.vertices before → new ≡ with_switch old mark → v ≡ length old.vertices → sw ≡ before ++ v ∷ [] → IsSwitchIndex new.vertices sw
switch-kept old new before sw mark v is e f g =
    subst (λ m. IsSwitchIndex m.vertices sw) (sym e)
    (subst (IsSwitchIndex (old.vertices ++ Switch (length (switches_of old.vertices)) ∷ [])) (sym (g ∙ ap (λ k. before ++ k ∷ []) f)) (index-switch old.vertices before is))
