-- The named vertices of a map's entries: where a name stands, and a new name.
use Rattle.std.proofs.Common.{◌≡◌, ℕ, suc, ◌+◌, List, [], ◌∷◌, ◌++◌, Bool, true, false, not, ◌||◌, cond, map, length, nat_eq, nat_lt, Some, None, Vec, refl, ap, sym, ◌∙◌, true≢false}
use Rattle.std.specs.Prelude.{position, bytes_eq}
use Rattle.std.specs.List.{list_any, prefix_len}
use Rattle.std.specs.Cmp.Lexicographic.{pointwise}
use Rattle.std.specs.declared.alloc.Global.{Global}
use Rattle.indexmap.specs.IndexMap.{insert_entry}
use Rattle.port_graph.specs.Named.{named_entry}

prefix_len-map : {X Y : Type 0} (f : X → Y) (p : Y → Bool) (xs : List X) → prefix_len p (map f xs) ≡ prefix_len (λ x. p (f x)) xs
prefix_len-map f p [] = refl
prefix_len-map f p (x ∷ xs) = ap (λ n. cond (p (f x)) (1 + n) 0) (prefix_len-map f p xs)

length-map' : {X Y : Type 0} (f : X → Y) (xs : List X) → length (map f xs) ≡ length xs
length-map' f [] = refl
length-map' f (x ∷ xs) = ap (λ n. suc n) (length-map' f xs)

-- the first place of a list's images at which a test passes
pub position-map : {X Y : Type 0} (f : X → Y) (p : Y → Bool) (xs : List X) → position p (map f xs) ≡ position (λ x. p (f x)) xs
position-map f p xs = λ i. cond (nat_lt (prefix_len-map f (λ y. not (p y)) xs i) (length-map' f xs i)) (Some (prefix_len-map f (λ y. not (p y)) xs i)) None

-- where a name stands among the entries, by key or by name
pub position-named : (name : List ℕ) (es : List (Vec ℕ Global × ℕ)) → position (λ k. bytes_eq name k.items) (map (λ e. e.0) es) ≡ position (λ v. bytes_eq name v.name) (map named_entry es)
position-named name es = position-map (λ e. e.0) (λ k. bytes_eq name k.items) es ∙ sym (position-map named_entry (λ v. bytes_eq name v.name) es)

-- a new name goes last
pub named-insert : (es : List (Vec ℕ Global × ℕ)) (k : Vec ℕ Global) (ports : ℕ) → list_any (λ v. bytes_eq k.items v.name) (map named_entry es) ≡ false → map named_entry (insert_entry (λ x y. pointwise nat_eq x.items y.items) es k ports) ≡ map named_entry es ++ record { name = k.items; ports = ports } ∷ []
named-insert [] k ports new = refl
named-insert (e ∷ es) k ports new = by (bytes_eq k.items e.0.items) new (named-insert es k ports)
  where
    by : (b : Bool) → (b || list_any (λ v. bytes_eq k.items v.name) (map named_entry es)) ≡ false
        → (list_any (λ v. bytes_eq k.items v.name) (map named_entry es) ≡ false → map named_entry (insert_entry (λ x y. pointwise nat_eq x.items y.items) es k ports) ≡ map named_entry es ++ record { name = k.items; ports = ports } ∷ [])
        → map named_entry (cond b ((e.0, ports) ∷ es) (e ∷ insert_entry (λ x y. pointwise nat_eq x.items y.items) es k ports)) ≡ named_entry e ∷ (map named_entry es ++ record { name = k.items; ports = ports } ∷ [])
    by true h rest = absurd (true≢false h)
    by false h rest = ap (λ l. named_entry e ∷ l) (rest h)
