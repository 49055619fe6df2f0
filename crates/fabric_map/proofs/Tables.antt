-- The table of far ends: where a port stands in it, and after one more cable.
use Rattle.std.proofs.Common.{◌≡◌, ◌≢◌, ◌<◌, ℕ, ◌+◌, ◌-◌, ◌*◌, List, [], ◌∷◌, ◌++◌, Bool, true, false, length, get_or, set, Option, Some, None, is_some, refl, ap, sym, ◌∙◌, subst, true≢false, arith, get_or-set_other, get_or-set_same}
use Rattle.std.specs.Prelude.{ℤ, pos, negsuc, ◌+ℤ◌, ◌-ℤ◌, nat_abs, int_le}
use Rattle.std.specs.List.{AllByRecursion}
use Rattle.std.proofs.Math.ListN.{length-set}
use Rattle.std.proofs.lemmas.Bool.{and_from, false≢true}
use Rattle.std.proofs.lemmas.Bool.Decides.{nat_tests}
use Rattle.std.proofs.lemmas.Int.{ints}
use Rattle.net_defs.specs.Turn.{is_turn, IsTurn}
use Rattle.net_defs.specs.Building.{first_of_two}
use Rattle.net_defs.proofs.Distinct.{all-push}
use Rattle.journal_defs.proofs.Members.{IsMember, all-member, all-from-members}
use Rattle.map_defs.specs.declared.vertex.MapCable.{MapCable}
use Rattle.map_defs.specs.NetMap.{MapPort, first_end, second_end, same_port, far_port, map_ends}
use Rattle.map_defs.proofs.Ports.{same_port-true, same_port-refl}
use Rattle.map_defs.proofs.Leading.{far-end}
use Rattle.port_align.specs.declared.end.NodePort.{NodePort}
use Rattle.fabric_map.specs.Table.{place_of_port, far_pair, far_end, entry, IsTableOf}
use Rattle.fabric_map.specs.Growing.{are_near}
use Rattle.fabric_map.proofs.Ends.{far_port-push, map_ends-push, end-far, near-from, far-apart}

low-turn : (k : ℕ) → is_turn (pos k) ≡ true → k < 16
low-turn k e = grind (arith, nat_tests)

low-fall : (k : ℕ) → is_turn (negsuc k) ≡ true → k < 15
low-fall k e = grind (arith, nat_tests)

-- the place of a port among those of its vertex
pub shift : (p : ℤ) → IsTurn p → (nat_abs (p +ℤ pos 15) < 31) × (p ≡ pos (nat_abs (p +ℤ pos 15)) -ℤ pos 15)
shift (pos k) t =
    let s = low-turn k t in
    let e : pos k +ℤ pos 15 ≡ pos (k + 15) = omega (arith, ints) in
    (subst (λ z. nat_abs z < 31) (sym e) (let l : k + 15 < 31 = omega arith in l), subst (λ z. pos k ≡ pos (nat_abs z) -ℤ pos 15) (sym e) (let l : pos k ≡ pos (k + 15) -ℤ pos 15 = omega (arith, ints) in l))
shift (negsuc k) t =
    let s = low-fall k t in
    let e : negsuc k +ℤ pos 15 ≡ pos (14 - k) = omega (arith, ints) in
    (subst (λ z. nat_abs z < 31) (sym e) (let l : 14 - k < 31 = omega arith in l), subst (λ z. negsuc k ≡ pos (nat_abs z) -ℤ pos 15) (sym e) (let l : negsuc k ≡ pos (14 - k) -ℤ pos 15 = omega (arith, ints) in l))

pub place-same : (d e : MapPort) → IsTurn d.p → IsTurn e.p → place_of_port d ≡ place_of_port e → d ≡ e
place-same d e i j same =
    let a = shift d.p i in
    let b = shift e.p j in
    let a0 = a.0 in
    let b0 = b.0 in
    let v : d.v ≡ e.v = omega arith in
    let k : nat_abs (d.p +ℤ pos 15) ≡ nat_abs (e.p +ℤ pos 15) = omega arith in
    let p : d.p ≡ e.p = a.1 ∙ ap (λ n. pos n -ℤ pos 15) k ∙ sym b.1 in
    λ x. record { v = v x; p = p x }

-- a port stands within the places of its vertex
pub place-below : (d : MapPort) (n : ℕ) → IsTurn d.p → d.v < n → place_of_port d < 31 * n
place-below d n i l = let a = (shift d.p i).0 in omega arith

-- what a table has at a port after a write at another, and at that one
write_other : (table : List (Option NodePort)) (d e : MapPort) (v : Option NodePort) → IsTurn d.p → IsTurn e.p → d ≢ e → get_or (set table (place_of_port d) v) (place_of_port e) None ≡ get_or table (place_of_port e) None
write_other table d e v i j differ = get_or-set_other table (place_of_port d) (place_of_port e) v None (λ same. differ (place-same d e i j (sym same)))

write_same : (table : List (Option NodePort)) (d : MapPort) (v : Option NodePort) → place_of_port d < length table → get_or (set table (place_of_port d) v) (place_of_port d) None ≡ v
write_same table d v lt = get_or-set_same table (place_of_port d) v None lt

first_or_none : (o : Option MapPort) → o ≡ first_of_two o None
first_or_none None = refl
first_or_none (Some x) = refl

-- the table after one more cable
pub table-joined : (cs : List MapCable) (table : List (Option NodePort)) (c : MapCable) → IsTableOf cs table → IsTurn c.p → IsTurn c.q → place_of_port (first_end c) < length table → place_of_port (second_end c) < length table → far_port cs (first_end c) ≡ None → far_port cs (second_end c) ≡ None → first_end c ≢ second_end c
    → IsTableOf (cs ++ c ∷ []) (set (set table (place_of_port (first_end c)) (Some (record { node = c.w; port = c.q }))) (place_of_port (second_end c)) (Some (record { node = c.v; port = c.p })))
table-joined cs table c is ta tb la lb na nb differ = record {
  turns = subst (AllByRecursion (λ d. IsTurn d.p)) (sym (map_ends-push cs c)) (all-push (λ d. IsTurn d.p) (map_ends cs ++ first_end c ∷ []) (second_end c) (all-push (λ d. IsTurn d.p) (map_ends cs) (first_end c) is.turns ta) tb);
  far_ends = λ e te. by e te (same_port (first_end c) e) (same_port (second_end c) e) refl refl ∙ ap far_end (sym (far_port-push cs c e));
}
  where
    by : (e : MapPort) → IsTurn e.p → (s t : Bool) → same_port (first_end c) e ≡ s → same_port (second_end c) e ≡ t → entry (set (set table (place_of_port (first_end c)) (Some (record { node = c.w; port = c.q }))) (place_of_port (second_end c)) (Some (record { node = c.v; port = c.p }))) e ≡ far_end (first_of_two (far_port cs e) (far_port (c ∷ []) e))
    by e te true t is_a is_b =
        let same : first_end c ≡ e = same_port-true (first_end c) e is_a in
        let none : far_port cs e ≡ None = subst (λ d. far_port cs d ≡ None) same na in
        let written : get_or (set (set table (place_of_port (first_end c)) (Some (record { node = c.w; port = c.q }))) (place_of_port (second_end c)) (Some (record { node = c.v; port = c.p }))) (place_of_port (first_end c)) None ≡ Some (record { node = c.w; port = c.q }) =
        write_other (set table (place_of_port (first_end c)) (Some (record { node = c.w; port = c.q }))) (second_end c) (first_end c) (Some (record { node = c.v; port = c.p })) tb ta (λ q. differ (sym q)) ∙ write_same table (first_end c) (Some (record { node = c.w; port = c.q })) la in
        subst (λ d. get_or (set (set table (place_of_port (first_end c)) (Some (record { node = c.w; port = c.q }))) (place_of_port (second_end c)) (Some (record { node = c.v; port = c.p }))) (place_of_port d) None ≡ Some (record { node = c.w; port = c.q })) same written ∙ rw (none, is_a) refl
    by e te false true is_a is_b =
        let same : second_end c ≡ e = same_port-true (second_end c) e is_b in
        let none : far_port cs e ≡ None = subst (λ d. far_port cs d ≡ None) same nb in
        let written : get_or (set (set table (place_of_port (first_end c)) (Some (record { node = c.w; port = c.q }))) (place_of_port (second_end c)) (Some (record { node = c.v; port = c.p }))) (place_of_port (second_end c)) None ≡ Some (record { node = c.v; port = c.p }) =
        write_same (set table (place_of_port (first_end c)) (Some (record { node = c.w; port = c.q }))) (second_end c) (Some (record { node = c.v; port = c.p })) (subst (λ n. place_of_port (second_end c) < n) (sym (length-set table (place_of_port (first_end c)) (Some (record { node = c.w; port = c.q })))) lb) in
        subst (λ d. get_or (set (set table (place_of_port (first_end c)) (Some (record { node = c.w; port = c.q }))) (place_of_port (second_end c)) (Some (record { node = c.v; port = c.p }))) (place_of_port d) None ≡ Some (record { node = c.v; port = c.p })) same written ∙ rw (none, is_a, is_b) refl
    by e te false false is_a is_b =
        let far_a : first_end c ≢ e = λ q. true≢false (sym (same_port-refl e) ∙ ap (λ d. same_port d e) (sym q) ∙ is_a) in
        let far_b : second_end c ≢ e = λ q. true≢false (sym (same_port-refl e) ∙ ap (λ d. same_port d e) (sym q) ∙ is_b) in
        write_other (set table (place_of_port (first_end c)) (Some (record { node = c.w; port = c.q }))) (second_end c) e (Some (record { node = c.v; port = c.p })) tb te far_b
        ∙ write_other table (first_end c) e (Some (record { node = c.w; port = c.q })) ta te far_a
        ∙ is.far_ends e te
        ∙ ap far_end (rw (is_a, is_b) (first_or_none (far_port cs e)))

-- no cable ends outside the ports of the table
pub far-outside : (cs : List MapCable) (d : MapPort) → AllByRecursion (λ e. IsTurn e.p) (map_ends cs) → is_turn d.p ≡ false → far_port cs d ≡ None
far-outside cs d turns out = by (far_port cs d) refl
  where
    by : (o : Option MapPort) → far_port cs d ≡ o → far_port cs d ≡ None
    by None f = f
    by (Some e) f = absurd (false≢true (sym out ∙ all-member (λ x. IsTurn x.p) d (map_ends cs) turns (far-end cs d e f)))

-- the port at a place of a vertex
abbrev pub port_of_place : ℕ → ℕ → MapPort
port_of_place v k = record { v = v; p = pos k -ℤ pos 15 }

-- each cabled port of a vertex is near, where those at all its places are
pub near-by_places : (cs : List MapCable) (d : MapPort) → AllByRecursion (λ e. IsTurn e.p) (map_ends cs) → ((k : ℕ) → k < 31 → is_some (far_port cs (port_of_place d.v k)) ≡ true → is_turn ((pos k -ℤ pos 15) -ℤ d.p) ≡ true) → are_near cs d ≡ true
near-by_places cs d turns each = near-from (map_ends cs) d (all-from-members (λ e. e.v ≡ d.v → is_turn (e.p -ℤ d.p) ≡ true) (map_ends cs) one)
  where
    one : (e : MapPort) → IsMember e (map_ends cs) → e.v ≡ d.v → is_turn (e.p -ℤ d.p) ≡ true
    one e m v =
        let s = shift e.p (all-member (λ x. IsTurn x.p) e (map_ends cs) turns m) in
        let same : e ≡ port_of_place d.v (nat_abs (e.p +ℤ pos 15)) = (let q = s.1 in λ i. record { v = v i; p = q i }) in
        let far : is_some (far_port cs (port_of_place d.v (nat_abs (e.p +ℤ pos 15)))) ≡ true = subst (λ x. is_some (far_port cs x) ≡ true) same (end-far cs e m) in
        subst (λ z. is_turn (z -ℤ d.p) ≡ true) (sym s.1) (each (nat_abs (e.p +ℤ pos 15)) s.0 far)

-- and one that isn't near is enough
pub not-near : (cs : List MapCable) (d : MapPort) (q : ℤ) → is_some (far_port cs (record { v = d.v; p = q })) ≡ true → is_turn (q -ℤ d.p) ≡ false → are_near cs d ≡ false
not-near cs d q far t = by (far_port cs (record { v = d.v; p = q })) refl far
  where
    by : (o : Option MapPort) → far_port cs (record { v = d.v; p = q }) ≡ o → is_some o ≡ true → are_near cs d ≡ false
    by None f e = absurd (false≢true e)
    by (Some x) f e = far-apart (map_ends cs) (record { v = d.v; p = q }) d (far-end cs (record { v = d.v; p = q }) x f) refl t

pub some-pair : (o : Option MapPort) → is_some (far_pair o) ≡ is_some o
some-pair None = refl
some-pair (Some e) = refl

-- a longer table says the same
pub table-same : (cs : List MapCable) (table long : List (Option NodePort)) → IsTableOf cs table → ((k : ℕ) → get_or long k None ≡ get_or table k None) → IsTableOf cs long
table-same cs table long is kept = record { turns = is.turns; far_ends = λ d t. kept (place_of_port d) ∙ is.far_ends d t }

-- the port at a place of a vertex, and its place
place-turn : (k : ℕ) → k < 31 → IsTurn (pos k -ℤ pos 15)
place-turn k l = and_from (int_le (negsuc 14) (pos k -ℤ pos 15)) (int_le (pos k -ℤ pos 15) (pos 15)) (grind (arith, ints)) (grind (arith, ints))

place-number : (k : ℕ) → nat_abs ((pos k -ℤ pos 15) +ℤ pos 15) ≡ k
place-number k = let e : (pos k -ℤ pos 15) +ℤ pos 15 ≡ pos k = omega (arith, ints) in ap nat_abs e

-- a port at whose place the table has no far end has no cable
pub place-none : (cs : List MapCable) (table : List (Option NodePort)) (v k : ℕ) → IsTableOf cs table → k < 31 → get_or table (31 * v + k) None ≡ None → far_port cs (port_of_place v k) ≡ None
place-none cs table v k is l bare = no-end (far_port cs (port_of_place v k)) none
  where
    no-end : (o : Option MapPort) → far_end o ≡ None → o ≡ None
    no-end None e = refl
    no-end (Some x) e = cc

    place : place_of_port (port_of_place v k) ≡ 31 * v + k
    place = ap (λ n. 31 * v + n) (place-number k)

    none : far_end (far_port cs (port_of_place v k)) ≡ None
    none = sym (is.far_ends (port_of_place v k) (place-turn k l)) ∙ ap (λ n. get_or table n None) place ∙ bare
