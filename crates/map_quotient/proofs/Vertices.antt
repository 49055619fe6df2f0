-- A vertex is refused for nothing where its address is its own.
use Rattle.std.proofs.Common.{◌≡◌, ◌<◌, ◌≤◌, ◌^◌, ◌||◌, ℕ, zero, suc, List, [], ◌∷◌, length, map, take, get_or, Bool, true, false, nat_eq, Option, Some, None, refl, ap, sym, ◌∙◌, subst, arith, if◌then◌else◌}
use Rattle.std.specs.Prelude.{ℤ, pos, slice_get}
use Rattle.std.specs.List.{list_any}
use Rattle.std.proofs.lemmas.Bool.Decides.{Decides-eqb, nat_tests}
use Rattle.std.proofs.lemmas.List.{length-map}
use Rattle.std.proofs.lemmas.Option.{slice_get-get_or, slice_get_within}
use Rattle.journal_defs.specs.declared.entry.Entry.{Entry}
use Rattle.journal_defs.specs.Tree.{Node, host_of}
use Rattle.journal_defs.specs.Replicates.Replicates.{one_host}
use Rattle.map_defs.specs.NetMap.{NetMap, switch_at}
use Rattle.map_defs.specs.Quotient.{named}
use Rattle.map_defs.specs.Routing.{is_host_named}
use Rattle.map_laws.proofs.Least.{named-length, get-map}
use Rattle.fabric_map.specs.Growing.{has_host, is_full}
use Rattle.fabric_map.specs.declared.fault.MapFault.TheVariants.{HostTaken, Full}
use Rattle.replicate_merge.specs.Nodes.{nodes_of}
use Rattle.replicate_merge.specs.Ways.{node_at}
use Rattle.replicate_merge.specs.Table.{ClassTable}
use Rattle.map_quotient.specs.Naming.{HaveOwnAddresses, addresses_of, vertex_refusal}
use Rattle.map_quotient.proofs.Standing.{AreOf, frames-apart}

no-host : (os : List (Option ℕ)) (s h : ℕ) → ((j : ℕ) → slice_get os j ≡ Some (Some h) → ⊥) → list_any (is_host_named h) (named s os) ≡ false
no-host [] s h none = refl
no-host (None ∷ os) s h none = no-host os (suc s) h (λ j e. none (suc j) e)
no-host (Some g ∷ os) s h none = by (nat_eq g h) refl (no-host os s h (λ j e. none (suc j) e))
  where
    by : (b : Bool) → nat_eq g h ≡ b → list_any (is_host_named h) (named s os) ≡ false → (b || list_any (is_host_named h) (named s os)) ≡ false
    by true p r = absurd (none 0 (ap (λ k. Some (Some k)) ((Decides-eqb g h).0 p)))
    by false p r = r

pub take-there : {X : Type 0} (xs : List X) (k i : ℕ) (x : X) → slice_get (take k xs) i ≡ Some x → (i < k) × (slice_get xs i ≡ Some x)
take-there [] zero i x e = cc
take-there [] (suc k) i x e = cc
take-there (y ∷ ys) zero i x e = cc
take-there (y ∷ ys) (suc k) zero x e = (omega arith, e)
take-there (y ∷ ys) (suc k) (suc i) x e = let t = take-there ys k i x e in ((let l = t.0 in omega arith), t.1)

pub take-short : {X : Type 0} (xs : List X) (k : ℕ) → length (take k xs) ≤ k
take-short [] zero = omega arith
take-short [] (suc k) = omega arith
take-short (x ∷ xs) zero = omega arith
take-short (x ∷ xs) (suc k) = let l = take-short xs k in omega arith

take-map : {X Y : Type 0} (f : X → Y) (xs : List X) (k : ℕ) → map f (take k xs) ≡ take k (map f xs)
take-map f [] zero = refl
take-map f [] (suc k) = refl
take-map f (x ∷ xs) zero = refl
take-map f (x ∷ xs) (suc k) = ap (λ l. f x ∷ l) (take-map f xs k)

-- the vertex of the next address, after those of the first
pub vertex-fits : (os : List (Option ℕ)) (k : ℕ) (o : Option ℕ) (m : NetMap) → HaveOwnAddresses os → length os < 2 ^ 32 → slice_get os k ≡ Some o → m.vertices ≡ named 0 (take k os) → vertex_refusal m o ≡ None
vertex-fits os k o m own few at is = by o at
  where
    room : is_full (length m.vertices) ≡ false
    room =
        let count : length m.vertices ≡ length (take k os) = ap length is ∙ named-length 0 (take k os) in
        let short = take-short os k in
        let low = slice_get_within os k o at in
        let l : length m.vertices < 4294967295 = omega arith in
        grind (arith, nat_tests)

    by : (a : Option ℕ) → slice_get os k ≡ Some a → vertex_refusal m a ≡ None
    by None e = λ i. if room i then Some Full else None
    by (Some h) e =
        let new : has_host m h ≡ false = ap (list_any (is_host_named h)) is ∙ no-host (take k os) 0 h none in
        λ i. if new i then Some HostTaken else if room i then Some Full else None
      where
        none : (j : ℕ) → slice_get (take k os) j ≡ Some (Some h) → ⊥
        none j p =
            let t = take-there os k j (Some h) p in
            let less = t.0 in
            let same : j ≡ k = own j k h t.1 e in
            omega arith

-- the vertex that is named for the next of a list
pub next-fits : {X : Type 0} (f : X → Option ℕ) (xs : List X) (x : X) (k : ℕ) (m : NetMap) (address : Option ℕ) → length xs < 2 ^ 32 → HaveOwnAddresses (map f xs) → k < length xs → m.vertices ≡ named 0 (map f (take k xs)) → address ≡ f (get_or xs k x) → vertex_refusal m address ≡ None
next-fits f xs x k m address few own low is at =
    let there : slice_get (map f xs) k ≡ Some address = get-map f xs k (get_or xs k x) (slice_get-get_or xs k x low) ∙ ap Some (sym at) in
    let count : length (map f xs) < 2 ^ 32 = subst (λ n. n < 2 ^ 32) (sym (length-map xs f)) few in
    vertex-fits (map f xs) k address m own count there (is ∙ ap (named 0) (take-map f xs k))

pub map-place : {X Y : Type 0} (f : X → Y) (xs : List X) (k : ℕ) (y : Y) → slice_get (map f xs) k ≡ Some y → (x : X) × (slice_get xs k ≡ Some x) × (f x ≡ y)
map-place f [] k y e = cc
map-place f (x ∷ xs) zero y e = (x, refl, (let one : f x ≡ y = cc in one))
map-place f (x ∷ xs) (suc k) y e = map-place f xs k y e

-- a vertex without an address is a switch
pub named-switch : (s : ℕ) (os : List (Option ℕ)) (v : ℕ) → slice_get os v ≡ Some None → switch_at (slice_get (named s os) v) ≡ true
named-switch s [] v e = cc
named-switch s (Some h ∷ os) zero e = cc
named-switch s (None ∷ os) zero e = refl
named-switch s (Some h ∷ os) (suc v) e = named-switch s os v e
named-switch s (None ∷ os) (suc v) e = named-switch (suc s) os v e

-- two least nodes with one address are of one class, and so one
pub own-addresses : (host : ℕ) (j : List Entry) (walks : List (List ℤ)) (c : ClassTable) (least : List ℕ) (vertices : List (Option ℕ)) → AreOf host j c least vertices → nodes_of walks ≡ c.nodes → HaveOwnAddresses (addresses_of host j walks least)
own-addresses host j walks c least vertices g walked v w h a b =
    let f : ℕ → Option ℕ = λ n. host_of host j (node_at (nodes_of walks) n) in
    let m = map-place f least v (Some h) a in
    let n = map-place f least w (Some h) b in
    let first : host_of host j (node_at c.nodes m.0) ≡ Some h = ap (λ (ns : List Node). host_of host j (node_at ns m.0)) (sym walked) ∙ m.2 in
    let second : host_of host j (node_at c.nodes n.0) ≡ Some h = ap (λ (ns : List Node). host_of host j (node_at ns n.0)) (sym walked) ∙ n.2 in
    let class = (frames-apart host j c least vertices g m.0 n.0 (pos 0) (g.numbered.inside v m.0 m.1) (g.numbered.inside w n.0 n.1) (one_host first second)).0 in
    let two : Some (Some v) ≡ Some (Some w) = sym (g.numbered.own v m.0 m.1) ∙ ap (slice_get vertices) class ∙ g.numbered.own w n.0 n.1 in
    let one : v ≡ w = cc in
    one
