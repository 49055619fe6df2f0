-- A map stays a map when its core is marked, since each host is of the core.
use Rattle.std.proofs.Common.{◌≡◌, ◌<◌, ℕ, zero, suc, List, [], ◌∷◌, ◌++◌, length, Bool, true, false, not, ◌&&◌, ◌||◌, Option, Some, None, is_some, sym, ◌∙◌, subst, ap, true≢false, refl, arith, ◌⊎◌, inl, inr, if◌then◌else◌, nat_eq}
use Rattle.std.specs.Prelude.{slice_get}
use Rattle.std.specs.List.{list_any}
use Rattle.std.proofs.lemmas.Bool.{false≢true, cases_order}
use Rattle.std.proofs.lemmas.Bool.Decides.{Decides-eqb}
use Rattle.std.proofs.lemmas.List.{length-map}
use Rattle.journal_defs.specs.Counting.{numbers_below}
use Rattle.journal_defs.specs.Edges.{is_among}
use Rattle.journal_defs.proofs.Members.{length-numbers}
use Rattle.journal_defs.proofs.Reach.{among-append, among-parts}
use Rattle.map_defs.specs.declared.vertex.MapCable.{MapCable}
use Rattle.map_defs.specs.NetMap.{NetMap, host_of_vertex, is_switch_vertex}
use Rattle.map_defs.specs.Core.{side, is_hostless, hostless_side, cut_off, cut_off_by, is_outside, core_of}
use Rattle.map_laws.specs.Certificate.{MarkedMapIsMap}
use Rattle.map_laws.proofs.Least.{get-map}
use Rattle.map_laws.proofs.Listed.{host-below}

-- a list with one element more, at the places before it and at its own
get-left : (xs : List ℕ) (x v : ℕ) → v < length xs → slice_get (xs ++ x ∷ []) v ≡ slice_get xs v
get-left [] x v l = absurd (omega arith)
get-left (y ∷ ys) x zero l = refl
get-left (y ∷ ys) x (suc v) l = get-left ys x v (omega arith)

get-last : (xs : List ℕ) (x v : ℕ) → v ≡ length xs → slice_get (xs ++ x ∷ []) v ≡ Some x
get-last [] x zero l = refl
get-last [] x (suc v) l = absurd (omega arith)
get-last (y ∷ ys) x zero l = absurd (omega arith)
get-last (y ∷ ys) x (suc v) l = get-last ys x v (omega arith)

-- each number below stands at its place
below-place : (k v : ℕ) → v < k → slice_get (numbers_below k) v ≡ Some v
below-place zero v l = absurd (omega arith)
below-place (suc k) v l = by (cases_order v k) (below-place k v)
  where
    many : length (numbers_below k) ≡ k
    many = length-numbers k

    by : (v ≡ k) ⊎ ((v < k) ⊎ (k < v)) → (v < k → slice_get (numbers_below k) v ≡ Some v) → slice_get (numbers_below k ++ k ∷ []) v ≡ Some v
    by (inl e) rest = get-last (numbers_below k) k v (e ∙ sym many) ∙ ap Some (sym e)
    by (inr (inl b)) rest = get-left (numbers_below k) k v (subst (λ n. v < n) (sym many) b) ∙ rest b
    by (inr (inr b)) rest = absurd (omega arith)

pub any-among : (test : ℕ → Bool) (vs : List ℕ) (v : ℕ) → is_among nat_eq vs v ≡ true → test v ≡ true → list_any test vs ≡ true
any-among test [] v e t = absurd (false≢true e)
any-among test (u ∷ us) v e t = by (among-parts nat_eq Decides-eqb v u us e) (any-among test us v)
  where
    left : (a b : Bool) → a ≡ true → (a || b) ≡ true
    left true b p = refl
    left false b p = absurd (false≢true p)

    right : (a b : Bool) → b ≡ true → (a || b) ≡ true
    right true b p = refl
    right false b p = p

    by : (v ≡ u) ⊎ (is_among nat_eq us v ≡ true) → (is_among nat_eq us v ≡ true → test v ≡ true → list_any test us ≡ true) → list_any test (u ∷ us) ≡ true
    by (inl p) rest = left (test u) (list_any test us) (ap test (sym p) ∙ t)
    by (inr p) rest = right (test u) (list_any test us) (rest p t)

any-none : (test : ℕ → Bool) (vs : List ℕ) → ((v : ℕ) → test v ≡ false) → list_any test vs ≡ false
any-none test [] none = refl
any-none test (v ∷ vs) none = by (test v) (none v) (any-none test vs none)
  where
    by : (b : Bool) → b ≡ false → list_any test vs ≡ false → (b || list_any test vs) ≡ false
    by true e rest = absurd (true≢false e)
    by false e rest = rest

-- a vertex on a side without hosts is no host
hostless-no_host : (m : NetMap) (k u v h : ℕ) → host_of_vertex m v ≡ Some h → is_among nat_eq (hostless_side m k u) v ≡ true → ⊥
hostless-no_host m k u v h host e = by (is_hostless m (side m k u)) refl e
  where
    by : (b : Bool) → is_hostless m (side m k u) ≡ b → is_among nat_eq (if b then side m k u else []) v ≡ true → ⊥
    by true f g =
        let some = any-among (λ w. is_some (host_of_vertex m w)) (side m k u) v g (ap is_some host) in
        true≢false (sym f ∙ ap not some)
    by false f g = false≢true g

cut-no_host : (m : NetMap) (k : ℕ) (o : Option MapCable) (v h : ℕ) → host_of_vertex m v ≡ Some h → is_among nat_eq (cut_off m k o) v ≡ true → ⊥
cut-no_host m k None v h host e = false≢true e
cut-no_host m k (Some c) v h host e = by (is_switch_vertex m c.v && is_switch_vertex m c.w) e
  where
    either : (is_among nat_eq (hostless_side m k c.v) v ≡ true) ⊎ (is_among nat_eq (hostless_side m k c.w) v ≡ true) → ⊥
    either (inl p) = hostless-no_host m k c.v v h host p
    either (inr p) = hostless-no_host m k c.w v h host p

    by : (b : Bool) → is_among nat_eq (if b then hostless_side m k c.v ++ hostless_side m k c.w else []) v ≡ true → ⊥
    by true f = either (among-append nat_eq Decides-eqb (hostless_side m k c.v) (hostless_side m k c.w) v f)
    by false f = false≢true f

host-not_outside : (m : NetMap) (v h : ℕ) → host_of_vertex m v ≡ Some h → is_outside m v ≡ false
host-not_outside m v h host = any-none (λ k. is_among nat_eq (cut_off_by m k) v) (numbers_below (length m.cables)) none
  where
    none : (k : ℕ) → is_among nat_eq (cut_off_by m k) v ≡ false
    none k = by (is_among nat_eq (cut_off_by m k) v) refl
      where
        by : (b : Bool) → is_among nat_eq (cut_off_by m k) v ≡ b → is_among nat_eq (cut_off_by m k) v ≡ false
        by true e = absurd (cut-no_host m k (slice_get m.cables k) v h host e)
        by false e = e

host-core : (m : NetMap) (v h : ℕ) → host_of_vertex m v ≡ Some h → slice_get (core_of m) v ≡ Some true
host-core m v h host =
    get-map (λ u. not (is_outside m u)) (numbers_below (length m.vertices)) v v (below-place (length m.vertices) v (host-below m.vertices v h host)) ∙ ap (λ b. Some (not b)) (host-not_outside m v h host)

pub marked_map_is_map : MarkedMapIsMap
marked_map_is_map m rules = record {
  hosts_once = rules.hosts_once;
  switches_numbered = rules.switches_numbered;
  one_mark_each = length-map (numbers_below (length m.vertices)) (λ v. not (is_outside m v)) ∙ length-numbers (length m.vertices);
  hosts_marked = host-core m;
  cabled_vertices = rules.cabled_vertices;
  ports_once = rules.ports_once;
  host_ports = rules.host_ports;
  ports_in_range = rules.ports_in_range;
  ports_near = rules.ports_near;
}
