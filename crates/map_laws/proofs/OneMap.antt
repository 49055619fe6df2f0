-- A journal has one map: its least nodes and its cables stand in strict orders.
use Rattle.std.proofs.Common.{◌≡◌, ◌<◌, ℕ, zero, suc, List, [], ◌∷◌, map, true, Some, sym, ◌∙◌, subst, ap, true≢false, refl, arith, ◌⊎◌, inl, inr}
use Rattle.std.specs.Prelude.{slice_get}
use Rattle.std.specs.List.{AllByRecursion}
use Rattle.std.proofs.lemmas.Bool.{false≢true}
use Rattle.journal_defs.specs.declared.entry.Entry.{Entry}
use Rattle.journal_defs.specs.Tree.{Node, host_of, node_below}
use Rattle.journal_defs.specs.Tree.Node.{Mapper, Reached}
use Rattle.journal_defs.proofs.Order.{below-irrefl, below-trans}
use Rattle.journal_defs.proofs.Members.{IsMember, all-member, all-from-members, member-place}
use Rattle.map_defs.specs.declared.vertex.MapCable.{MapCable}
use Rattle.map_defs.specs.NetMap.{NetMap, MapPort, IsCabled, AreInOrder, first_end, second_end, port_below}
use Rattle.map_defs.specs.NetMap.IsCabled.{forth, back}
use Rattle.map_defs.specs.Quotient.{IsQuotient, IsLed, named}
use Rattle.map_laws.specs.Certificate.{QuotientIsOne}
use Rattle.map_laws.proofs.Least.{least-one}
use Rattle.map_laws.proofs.Listed.{port-asym, in-order}

-- each element stands before all after it
abbrev pub AreRising : {X : Type 0} → (X → X → Type 0) → List X → Type 0
AreRising Below [] = Unit {0}
AreRising Below (x ∷ xs) = AllByRecursion (Below x) xs × AreRising Below xs

-- two such lists with the same members are one
pub rising-one : {X : Type 0} (Below : X → X → Type 0) → ((x y : X) → Below x y → Below y x → ⊥) → (xs ys : List X) → AreRising Below xs → AreRising Below ys → ((x : X) → IsMember x xs → IsMember x ys) → ((x : X) → IsMember x ys → IsMember x xs) → xs ≡ ys
rising-one Below asym [] [] a b f g = refl
rising-one Below asym [] (y ∷ ys) a b f g = absurd (g y (inl refl))
rising-one Below asym (x ∷ xs) [] a b f g = absurd (f x (inl refl))
rising-one Below asym (x ∷ xs) (y ∷ ys) a b f g = both first (rising-one Below asym xs ys a.1 b.1 there back_there)
  where
    head : (x ≡ y) ⊎ IsMember x ys → (y ≡ x) ⊎ IsMember y xs → x ≡ y
    head (inl e) k = e
    head (inr i) (inl e) = sym e
    head (inr i) (inr k) = absurd (asym x y (all-member (Below x) y xs a.0 k) (all-member (Below y) x ys b.0 i))

    first : x ≡ y
    first = head (f x (inl refl)) (g y (inl refl))

    there : (z : _) → IsMember z xs → IsMember z ys
    there z i = by (f z (inr i))
      where
        by : (z ≡ y) ⊎ IsMember z ys → IsMember z ys
        by (inl e) = let l = all-member (Below x) z xs a.0 i in let own : Below x x = subst (Below x) (e ∙ sym first) l in absurd (asym x x own own)
        by (inr k) = k

    back_there : (z : _) → IsMember z ys → IsMember z xs
    back_there z i = by (g z (inr i))
      where
        by : (z ≡ x) ⊎ IsMember z xs → IsMember z xs
        by (inl e) = let l = all-member (Below y) z ys b.0 i in let own : Below y y = subst (Below y) (e ∙ first) l in absurd (asym y y own own)
        by (inr k) = k

    both : x ≡ y → xs ≡ ys → x ∷ xs ≡ y ∷ ys
    both p q = cc

-- a list that rises by places rises
pub rising-places : {X : Type 0} (Below : X → X → Type 0) (xs : List X) → ((v w : ℕ) (x y : X) → v < w → slice_get xs v ≡ Some x → slice_get xs w ≡ Some y → Below x y) → AreRising Below xs
rising-places Below [] rises = tt
rising-places Below (x ∷ xs) rises = (all-from-members (Below x) xs (λ y i. let p = member-place y xs i in rises 0 (suc p.0) x y (omega arith) refl p.1), rising-places Below xs (λ v w y z l e f. rises (suc v) (suc w) y z (omega arith) e f))

pub place-member : {X : Type 0} (xs : List X) (k : ℕ) (x : X) → slice_get xs k ≡ Some x → IsMember x xs
place-member [] k x e = cc
place-member (y ∷ ys) zero x e = inl (let one : y ≡ x = cc in sym one)
place-member (y ∷ ys) (suc k) x e = inr (place-member ys k x e)

node-asym : (u v : Node) → node_below u v ≡ true → node_below v u ≡ true → ⊥
node-asym Mapper Mapper a b = absurd (false≢true a)
node-asym Mapper (Reached w) a b = absurd (false≢true b)
node-asym (Reached v) Mapper a b = absurd (false≢true a)
node-asym (Reached v) (Reached w) a b = true≢false (sym (below-trans v w v a b) ∙ below-irrefl v)

-- the cable that joins two ports
record Joining (m : NetMap) (d e : MapPort) : Type 0 where
  pub cable : MapCable
  pub member : IsMember cable m.cables
  pub ends : ((first_end cable ≡ d) × (second_end cable ≡ e)) ⊎ ((second_end cable ≡ d) × (first_end cable ≡ e))

joining : (m : NetMap) (d e : MapPort) → IsCabled m d e → Joining m d e
joining m d e (forth k {c = c} p) = record { cable = c; member = place-member m.cables k c p; ends = inl (refl, refl) }
joining m d e (back k {c = c} p) = record { cable = c; member = place-member m.cables k c p; ends = inr (refl, refl) }

cable-one : (c d : MapCable) → first_end c ≡ first_end d → second_end c ≡ second_end d → c ≡ d
cable-one c d a b = λ i. record { v = (a i).v; p = (a i).p; w = (b i).v; q = (b i).p }

abbrev StandsBefore : MapCable → MapCable → Type 0
StandsBefore c d = port_below (first_end c) (first_end d) ≡ true

order-rises : (cs : List MapCable) → AreInOrder cs → AreRising StandsBefore cs
order-rises [] o = tt
order-rises (c ∷ cs) o = (o.1, order-rises cs o.2)

module _ (host : ℕ) (j : List Entry) where
  -- a least node of one quotient is one of the other
  least-there : (m k : NetMap) (q : IsQuotient host j m) (r : IsQuotient host j k) (u : Node) → IsMember u q.least → IsMember u r.least
  least-there m k q r u i =
      let p = member-place u q.least i in
      let least = q.each_least p.0 u p.1 in
      let h = r.covered u least.node in
      let one : u ≡ h.is_of.least_node = least-one host j u h.is_of.least_node h.offset least (r.each_least h.vertex h.is_of.least_node h.is_of.there) h.is_of.one_class in
      place-member r.least h.vertex u (h.is_of.there ∙ ap Some (sym one))

  least-same : (m k : NetMap) (q : IsQuotient host j m) (r : IsQuotient host j k) → q.least ≡ r.least
  least-same m k q r =
      rising-one (λ u x. node_below u x ≡ true) node-asym q.least r.least (rising-places (λ u x. node_below u x ≡ true) q.least q.in_order) (rising-places (λ u x. node_below u x ≡ true) r.least r.in_order) (least-there m k q r) (least-there k m r q)

  cable-there : (m k : NetMap) (q : IsQuotient host j m) (r : IsQuotient host j k) (c : MapCable) → IsMember c m.cables → IsMember c k.cables
  cable-there m k q r c i =
      let p = member-place c m.cables i in
      let led : IsLed host j q.least (first_end c) (second_end c) = (q.cabled (first_end c) (second_end c)).0 (forth p.0 p.1) in
      let other = joining k (first_end c) (second_end c) ((r.cabled (first_end c) (second_end c)).1 (subst (λ l. IsLed host j l (first_end c) (second_end c)) (least-same m k q r) led)) in
      by other other.ends
    where
      by : (h : Joining k (first_end c) (second_end c)) → ((first_end h.cable ≡ first_end c) × (second_end h.cable ≡ second_end c)) ⊎ ((second_end h.cable ≡ first_end c) × (first_end h.cable ≡ second_end c)) → IsMember c k.cables
      by h (inl e) = subst (λ d. IsMember d k.cables) (cable-one h.cable c e.0 e.1) h.member
      by h (inr e) =
          let own = in-order m.cables c q.cables_in_order i in
          let turned = in-order k.cables h.cable r.cables_in_order h.member in
          absurd (port-asym (first_end c) (second_end c) own (subst (λ x. port_below x (first_end c) ≡ true) e.1 (subst (λ x. port_below (first_end h.cable) x ≡ true) e.0 turned)))

  cables-same : (m k : NetMap) → IsQuotient host j m → IsQuotient host j k → m.cables ≡ k.cables
  cables-same m k q r =
      rising-one StandsBefore (λ c d. port-asym (first_end c) (first_end d)) m.cables k.cables (order-rises m.cables q.cables_in_order) (order-rises k.cables r.cables_in_order) (cable-there m k q r) (cable-there k m r q)

map-one : (m k : NetMap) → m.vertices ≡ k.vertices → m.cables ≡ k.cables → m.core ≡ k.core → m ≡ k
map-one m k a b c = λ i. record { vertices = a i; cables = b i; core = c i }

pub quotient_is_one : QuotientIsOne
quotient_is_one host j m k q r =
    let vertices : m.vertices ≡ k.vertices = q.vertices ∙ ap (λ l. named 0 (map (host_of host j) l)) (least-same host j m k q r) ∙ sym r.vertices in
    map-one m k vertices (cables-same host j m k q r) (q.unmarked ∙ ap (map (λ v. true)) vertices ∙ sym r.unmarked)
