-- Which nodes of a journal of true answers are replicates can be decided: a list of pairs grows until no rule adds one.
use Rattle.std.proofs.Common.{◌≡◌, ◌≢◌, ◌<◌, ◌+◌, ℕ, zero, suc, List, [], ◌∷◌, ◌++◌, map, length, Bool, true, false, Option, Some, None, sym, ◌∙◌, subst, ap, true≢false, refl, arith, nat_eq, ◌⊎◌, inl, inr}
use Rattle.std.specs.Prelude.{ℤ, pos, ◌+ℤ◌, ◌-ℤ◌, neg_ℤ}
use Rattle.std.specs.Ordering.{int_eq}
use Rattle.std.proofs.lemmas.Bool.Decides.{Decides-int_eq, Decides-eqb}
use Rattle.net_defs.specs.Network.{Network, IsFabric, Apart}
use Rattle.journal_defs.specs.declared.entry.Entry.{Entry}
use Rattle.journal_defs.specs.Tree.{Node, Leads, IsNode, is_node, host_of}
use Rattle.journal_defs.specs.Tree.Node.{Mapper, Reached}
use Rattle.journal_defs.specs.Replicates.{Replicates}
use Rattle.journal_defs.specs.Replicates.Replicates.{same, turned as other_way, along, one_host, behind}
use Rattle.journal_defs.specs.Truth.{IsTrueWhereFound}
use Rattle.journal_defs.proofs.Members.{IsMember, member-left, member-right, member-map, all-from-members}
use Rattle.journal_defs.proofs.Standing.{offset_is_unique, replicates-nodes, leads-to}
use Rattle.map_laws.proofs.Phases.{same_or_not}
use Rattle.map_laws.proofs.Full.{AreOne}
use Rattle.map_laws.proofs.Pigeons.{no-more}
use Rattle.map_laws.proofs.Few.{found_walks, node-found}
use Rattle.map_laws.proofs.Looking.{Each, Among, look}
use Rattle.map_laws.proofs.Leading.{HasLead, HasNoLead, find-lead}

-- two nodes are one or differ, and a pair is in a list or not
node-same : (u v : Node) → (u ≡ v) ⊎ (u ≢ v)
node-same Mapper Mapper = inl refl
node-same Mapper (Reached w) = inr (λ e. cc)
node-same (Reached v) Mapper = inr (λ e. cc)
node-same (Reached v) (Reached w) = by (same_or_not v w)
  where
    by : (v ≡ w) ⊎ (v ≢ w) → (Reached v ≡ Reached w) ⊎ (Reached v ≢ Reached w)
    by (inl e) = inl (ap Reached e)
    by (inr d) = inr (λ e. d (let one : v ≡ w = cc in one))

pair-same : (p q : Node × Node) → (p ≡ q) ⊎ (p ≢ q)
pair-same p q = by (node-same p.0 q.0) (node-same p.1 q.1)
  where
    by : (p.0 ≡ q.0) ⊎ (p.0 ≢ q.0) → (p.1 ≡ q.1) ⊎ (p.1 ≢ q.1) → (p ≡ q) ⊎ (p ≢ q)
    by (inl a) (inl b) = inl (λ i. (a i, b i))
    by (inl a) (inr d) = inr (λ e. d (ap (λ (x : Node × Node). x.1) e))
    by (inr d) b = inr (λ e. d (ap (λ (x : Node × Node). x.0) e))

pair-listed : (p : Node × Node) (ps : List (Node × Node)) → IsMember p ps ⊎ ¬ IsMember p ps
pair-listed p [] = inr (λ m. m)
pair-listed p (q ∷ ps) = by (pair-same p q) (pair-listed p ps)
  where
    by : (p ≡ q) ⊎ (p ≢ q) → IsMember p ps ⊎ ¬ IsMember p ps → IsMember p (q ∷ ps) ⊎ ¬ IsMember p (q ∷ ps)
    by (inl e) r = inl (inl e)
    by (inr d) (inl m) = inl (inr m)
    by (inr d) (inr n) = inr (λ m. neither m)
      where
        neither : (p ≡ q) ⊎ IsMember p ps → ⊥
        neither (inl e) = d e
        neither (inr m) = n m

-- all nodes, and all pairs of them
abbrev pub all_nodes : List Entry → List Node
all_nodes j = Mapper ∷ map Reached (found_walks j)

node-listed : (j : List Entry) (u : Node) → IsNode j u → IsMember u (all_nodes j)
node-listed j Mapper e = inl refl
node-listed j (Reached w) e = inr (member-map Reached w (found_walks j) (node-found j w e))

abbrev pairs : List Node → List Node → List (Node × Node)
pairs [] vs = []
pairs (u ∷ us) vs = map (λ v. (u, v)) vs ++ pairs us vs

pair-member : (u v : Node) (us vs : List Node) → IsMember u us → IsMember v vs → IsMember (u, v) (pairs us vs)
pair-member u v [] vs m k = absurd m
pair-member u v (x ∷ us) vs (inl e) k = member-left (u, v) (map (λ y. (x, y)) vs) (pairs us vs) (subst (λ z. IsMember {X = Node × Node} (u, v) (map (λ y. (z, y)) vs)) e (member-map (λ y. (u, y)) v vs k))
pair-member u v (x ∷ us) vs (inr m) k = member-right (u, v) (map (λ y. (x, y)) vs) (pairs us vs) (pair-member u v us vs m k)

-- a list of replicates
abbrev AreReplicates : ℕ → List Entry → List (Node × Node) → Type 0
AreReplicates host j ps = (u v : Node) → IsMember (u, v) ps → AreOne host j u v

-- two replicates that aren't in it
record IsMissing (host : ℕ) (j : List Entry) (ps : List (Node × Node)) : Type 0 where
  pub first : Node
  pub second : Node
  pub one : AreOne host j first second
  pub new : ¬ IsMember (first, second) ps

-- what each rule asks of the list
abbrev Sames : List Entry → List (Node × Node) → Type 0
Sames j ps = (u : Node) → IsNode j u → IsMember (u, u) ps

abbrev Turns : List (Node × Node) → Type 0
Turns ps = (u v : Node) → IsMember (u, v) ps → IsMember (v, u) ps

abbrev Ways : List (Node × Node) → Type 0
Ways ps = (u v w : Node) → IsMember (u, v) ps → IsMember (v, w) ps → IsMember (u, w) ps

abbrev Hosts : ℕ → List Entry → List (Node × Node) → Type 0
Hosts host j ps = (u v : Node) (h : ℕ) → IsNode j u → IsNode j v → host_of host j u ≡ Some h → host_of host j v ≡ Some h → IsMember (u, v) ps

abbrev Ports : ℕ → List Entry → List (Node × Node) → Type 0
Ports host j ps = (u v x y : Node) (k p i q : ℤ) → IsMember (u, v) ps → Replicates host j u v k → Leads j u p x i → Leads j v (p +ℤ k) y q → IsMember (x, y) ps

-- a list to which no rule adds a pair
record IsSaturated (host : ℕ) (j : List Entry) (ps : List (Node × Node)) : Type 0 where
  pub by_same : Sames j ps
  pub by_turn : Turns ps
  pub by_way : Ways ps
  pub by_host : Hosts host j ps
  pub by_port : Ports host j ps

-- it has all replicates
saturated : (host : ℕ) (j : List Entry) (ps : List (Node × Node)) (u v : Node) (k : ℤ) → IsSaturated host j ps → Replicates host j u v k → IsMember (u, v) ps
saturated host j ps u v k s (same {u = x} node) = s.by_same x node
saturated host j ps u v k s (other_way {u = x} {v = y} {k = i} r) = s.by_turn x y (saturated host j ps x y i s r)
saturated host j ps u v k s (along {u = x} {v = y} {w = z} {i = i} {k = l} r t) = s.by_way x y z (saturated host j ps x y i s r) (saturated host j ps y z l s t)
saturated host j ps u v k s (one_host {u = x} {v = y} {h = h} a b) = let two = replicates-nodes host j x y (pos 0) (one_host a b) in s.by_host x y h two.0 two.1 a b
saturated host j ps u v k s (behind {u = a} {v = b} {x = x} {y = y} {k = l} {p = p} {i = i} {q = q} r t w) = s.by_port a b x y l p i q (saturated host j ps a b l s r) r t w

module _ (n : Network) (host : ℕ) (j : List Entry) (fabric : IsFabric n) (truth : IsTrueWhereFound n host j) (ps : List (Node × Node)) (sound : AreReplicates host j ps) where
  is_node-or-not : (u : Node) → IsNode j u ⊎ ¬ IsNode j u
  is_node-or-not u = by (is_node j u) refl
    where
      by : (b : Bool) → is_node j u ≡ b → IsNode j u ⊎ ¬ IsNode j u
      by true e = inl e
      by false e = inr (λ f. true≢false (sym f ∙ e))

  try_same : Sames j ps ⊎ IsMissing host j ps
  try_same = by (look (λ u. IsNode j u → IsMember (u, u) ps) (λ u. IsNode j u × ¬ IsMember (u, u) ps) (all_nodes j) (λ u m. one u (pair-listed (u, u) ps) (is_node-or-not u)))
    where
      one : (u : Node) → IsMember (u, u) ps ⊎ ¬ IsMember (u, u) ps → IsNode j u ⊎ ¬ IsNode j u → (IsNode j u → IsMember (u, u) ps) ⊎ (IsNode j u × ¬ IsMember (u, u) ps)
      one u (inl m) d = inl (λ node. m)
      one u (inr d) (inl node) = inr (node, d)
      one u (inr d) (inr none) = inl (λ node. absurd (none node))

      by : Each (λ u. IsNode j u → IsMember (u, u) ps) (all_nodes j) ⊎ Among (all_nodes j) (λ u. IsNode j u × ¬ IsMember (u, u) ps) → Sames j ps ⊎ IsMissing host j ps
      by (inl all) = inl (λ u node. all u (node-listed j u node) node)
      by (inr a) = inr (record { first = a.item; second = a.item; one = record { offset = pos 0; one_class = same a.holds.0 }; new = a.holds.1 })

  try_turn : Turns ps ⊎ IsMissing host j ps
  try_turn = by (look (λ p. IsMember (p.1, p.0) ps) (λ p. ¬ IsMember (p.1, p.0) ps) ps (λ p m. pair-listed (p.1, p.0) ps))
    where
      by : Each (λ p. IsMember (p.1, p.0) ps) ps ⊎ Among ps (λ p. ¬ IsMember (p.1, p.0) ps) → Turns ps ⊎ IsMissing host j ps
      by (inl all) = inl (λ u v m. all (u, v) m)
      by (inr a) =
          let one = sound a.item.0 a.item.1 a.member in
          inr (record { first = a.item.1; second = a.item.0; one = record { offset = neg_ℤ one.offset; one_class = other_way one.one_class }; new = a.holds })

  -- what a pair adds, gone on with by another
  way-on : (p q : Node × Node) → (p.1 ≡ q.0 → IsMember (p.0, q.1) ps) ⊎ ((p.1 ≡ q.0) × ¬ IsMember (p.0, q.1) ps)
  way-on p q = by (node-same p.1 q.0) (pair-listed (p.0, q.1) ps)
    where
      by : (p.1 ≡ q.0) ⊎ (p.1 ≢ q.0) → IsMember (p.0, q.1) ps ⊎ ¬ IsMember (p.0, q.1) ps → (p.1 ≡ q.0 → IsMember (p.0, q.1) ps) ⊎ ((p.1 ≡ q.0) × ¬ IsMember (p.0, q.1) ps)
      by (inl e) (inl m) = inl (λ f. m)
      by (inl e) (inr d) = inr (e, d)
      by (inr d) m = inl (λ f. absurd (d f))

  way-missing : (p q : Node × Node) → IsMember p ps → IsMember q ps → p.1 ≡ q.0 → ¬ IsMember (p.0, q.1) ps → IsMissing host j ps
  way-missing p q m k e d =
      let a = sound p.0 p.1 m in
      let b = sound q.0 q.1 k in
      record { first = p.0; second = q.1; one = record { offset = a.offset +ℤ b.offset; one_class = along {v = p.1} a.one_class (subst (λ x. Replicates host j x q.1 b.offset) (sym e) b.one_class) }; new = d }

  try_way : Ways ps ⊎ IsMissing host j ps
  try_way = by (look (λ p. Each (λ q. p.1 ≡ q.0 → IsMember (p.0, q.1) ps) ps) (λ p. Among ps (λ q. (p.1 ≡ q.0) × ¬ IsMember (p.0, q.1) ps)) ps (λ p m. look (λ q. p.1 ≡ q.0 → IsMember (p.0, q.1) ps) (λ q. (p.1 ≡ q.0) × ¬ IsMember (p.0, q.1) ps) ps (λ q k. way-on p q)))
    where
      by : Each (λ p. Each (λ q. p.1 ≡ q.0 → IsMember (p.0, q.1) ps) ps) ps ⊎ Among ps (λ p. Among ps (λ q. (p.1 ≡ q.0) × ¬ IsMember (p.0, q.1) ps)) → Ways ps ⊎ IsMissing host j ps
      by (inl all) = inl (λ u v w m k. all (u, v) m (v, w) k refl)
      by (inr a) = inr (way-missing a.item a.holds.item a.member a.holds.member a.holds.holds.0 a.holds.holds.1)

  -- one host
  abbrev ByHost : Node → Node → Type 0
  ByHost u v = (h : ℕ) → host_of host j u ≡ Some h → host_of host j v ≡ Some h → IsMember (u, v) ps

  host-on : (u v : Node) → ByHost u v ⊎ IsMissing host j ps
  host-on u v = by (pair-listed (u, v) ps) (host_of host j u) (host_of host j v) refl refl
    where
      both : (g h : ℕ) → host_of host j u ≡ Some g → host_of host j v ≡ Some h → ¬ IsMember (u, v) ps → (b : Bool) → nat_eq g h ≡ b → ByHost u v ⊎ IsMissing host j ps
      both g h e f d true p = inr (record { first = u; second = v; one = record { offset = pos 0; one_class = one_host e (f ∙ ap Some (sym ((Decides-eqb g h).0 p))) }; new = d })
      both g h e f d false p = inl (λ i a b. absurd (true≢false (sym ((Decides-eqb g h).1 (let x : Some g ≡ Some i = sym e ∙ a in let y : Some h ≡ Some i = sym f ∙ b in let s : g ≡ i = cc in let t : h ≡ i = cc in s ∙ sym t)) ∙ p)))

      by : IsMember (u, v) ps ⊎ ¬ IsMember (u, v) ps → (a b : Option ℕ) → host_of host j u ≡ a → host_of host j v ≡ b → ByHost u v ⊎ IsMissing host j ps
      by (inl m) a b e f = inl (λ h x y. m)
      by (inr d) None b e f = inl (λ h x y. absurd (let z : None ≡ Some h = sym e ∙ x in cc))
      by (inr d) (Some g) None e f = inl (λ h x y. absurd (let z : None ≡ Some h = sym f ∙ y in cc))
      by (inr d) (Some g) (Some h) e f = both g h e f d (nat_eq g h) refl

  try_host : Hosts host j ps ⊎ IsMissing host j ps
  try_host = by (look (λ u. Each (ByHost u) (all_nodes j)) (λ u. IsMissing host j ps) (all_nodes j) (λ u m. one u (look (ByHost u) (λ v. IsMissing host j ps) (all_nodes j) (λ v k. host-on u v))))
    where
      one : (u : Node) → Each (ByHost u) (all_nodes j) ⊎ Among (all_nodes j) (λ v. IsMissing host j ps) → Each (ByHost u) (all_nodes j) ⊎ IsMissing host j ps
      one u (inl all) = inl all
      one u (inr a) = inr a.holds

      by : Each (λ u. Each (ByHost u) (all_nodes j)) (all_nodes j) ⊎ Among (all_nodes j) (λ u. IsMissing host j ps) → Hosts host j ps ⊎ IsMissing host j ps
      by (inl all) = inl (λ u v h a b e f. all u (node-listed j u a) v (node-listed j v b) h e f)
      by (inr a) = inr a.holds

  -- behind one port
  abbrev ByPort : Node × Node → Node → Node → Type 0
  ByPort p x y = (k t i q : ℤ) → Replicates host j p.0 p.1 k → Leads j p.0 t x i → Leads j p.1 (t +ℤ k) y q → IsMember (x, y) ps

  port-on : (p : Node × Node) (x y : Node) → IsMember p ps → ByPort p x y ⊎ IsMissing host j ps
  port-on p x y m = by (pair-listed (x, y) ps) (is_node-or-not x) (is_node-or-not y)
    where
      one : AreOne host j p.0 p.1
      one = sound p.0 p.1 m

      nodes : IsNode j p.0 × IsNode j p.1
      nodes = replicates-nodes host j p.0 p.1 one.offset one.one_class

      ports : ¬ IsMember (x, y) ps → (a : HasLead j p.0 x) (b : HasLead j p.1 y) → (c : Bool) → int_eq b.port (a.port +ℤ one.offset) ≡ c → ByPort p x y ⊎ IsMissing host j ps
      ports d a b true e =
          let port : b.port ≡ a.port +ℤ one.offset = (Decides-int_eq b.port (a.port +ℤ one.offset)).0 e in
          inr (record { first = x; second = y; one = record { offset = b.enters -ℤ a.enters; one_class = behind one.one_class a.leads (subst (λ z. Leads j p.1 z y b.enters) port b.leads) }; new = d })
      ports d a b false e = inl (λ k t i q r s w. absurd (true≢false (sym ((Decides-int_eq b.port (a.port +ℤ one.offset)).1 (sym (b.only (t +ℤ k) q w).0 ∙ ap (λ z. t +ℤ z) (offset_is_unique n host j p.0 p.1 k one.offset fabric truth r one.one_class) ∙ ap (λ z. z +ℤ one.offset) (a.only t i s).0)) ∙ e)))

      found : ¬ IsMember (x, y) ps → HasLead j p.0 x ⊎ HasNoLead j p.0 x → HasLead j p.1 y ⊎ HasNoLead j p.1 y → ByPort p x y ⊎ IsMissing host j ps
      found d (inl a) (inl b) = ports d a b (int_eq b.port (a.port +ℤ one.offset)) refl
      found d (inl a) (inr b) = inl (λ k t i q r s w. absurd (b (t +ℤ k) q w))
      found d (inr a) b = inl (λ k t i q r s w. absurd (a t i s))

      by : IsMember (x, y) ps ⊎ ¬ IsMember (x, y) ps → IsNode j x ⊎ ¬ IsNode j x → IsNode j y ⊎ ¬ IsNode j y → ByPort p x y ⊎ IsMissing host j ps
      by (inl m) a b = inl (λ k t i q r s w. m)
      by (inr d) (inl a) (inl b) = found d (find-lead j p.0 x nodes.0 a) (find-lead j p.1 y nodes.1 b)
      by (inr d) (inl a) (inr b) = inl (λ k t i q r s w. absurd (b (leads-to j p.1 y (t +ℤ k) q w)))
      by (inr d) (inr a) b = inl (λ k t i q r s w. absurd (a (leads-to j p.0 x t i s)))

  try_port : Ports host j ps ⊎ IsMissing host j ps
  try_port = by (look (λ p. Each (λ x. Each (ByPort p x) (all_nodes j)) (all_nodes j)) (λ p. IsMissing host j ps) ps (λ p m. first p (look (λ x. Each (ByPort p x) (all_nodes j)) (λ x. IsMissing host j ps) (all_nodes j) (λ x a. second p x (look (ByPort p x) (λ y. IsMissing host j ps) (all_nodes j) (λ y b. port-on p x y m))))))
    where
      second : (p : Node × Node) (x : Node) → Each (ByPort p x) (all_nodes j) ⊎ Among (all_nodes j) (λ y. IsMissing host j ps) → Each (ByPort p x) (all_nodes j) ⊎ IsMissing host j ps
      second p x (inl all) = inl all
      second p x (inr a) = inr a.holds

      first : (p : Node × Node) → Each (λ x. Each (ByPort p x) (all_nodes j)) (all_nodes j) ⊎ Among (all_nodes j) (λ x. IsMissing host j ps) → Each (λ x. Each (ByPort p x) (all_nodes j)) (all_nodes j) ⊎ IsMissing host j ps
      first p (inl all) = inl all
      first p (inr a) = inr a.holds

      by : Each (λ p. Each (λ x. Each (ByPort p x) (all_nodes j)) (all_nodes j)) ps ⊎ Among ps (λ p. IsMissing host j ps) → Ports host j ps ⊎ IsMissing host j ps
      by (inl all) = inl (λ u v x y k p i q m r s w. all (u, v) m x (node-listed j x (leads-to j u x p i s)) y (node-listed j y (leads-to j v y (p +ℤ k) q w)) k p i q r s w)
      by (inr a) = inr a.holds

  try_all : IsSaturated host j ps ⊎ IsMissing host j ps
  try_all = by try_same try_turn try_way try_host try_port
    where
      by : Sames j ps ⊎ IsMissing host j ps → Turns ps ⊎ IsMissing host j ps → Ways ps ⊎ IsMissing host j ps → Hosts host j ps ⊎ IsMissing host j ps → Ports host j ps ⊎ IsMissing host j ps → IsSaturated host j ps ⊎ IsMissing host j ps
      by (inl a) (inl b) (inl c) (inl d) (inl e) = inl (record { by_same = a; by_turn = b; by_way = c; by_host = d; by_port = e })
      by (inr m) b c d e = inr m
      by (inl a) (inr m) c d e = inr m
      by (inl a) (inl b) (inr m) d e = inr m
      by (inl a) (inl b) (inl c) (inr m) e = inr m
      by (inl a) (inl b) (inl c) (inl d) (inr m) = inr m

-- a list of exactly the replicates
pub record HasClasses (host : ℕ) (j : List Entry) : Type 0 where
  pub list : List (Node × Node)
  pub sound : (u v : Node) → IsMember (u, v) list → AreOne host j u v
  pub whole : (u v : Node) (k : ℤ) → Replicates host j u v k → IsMember (u, v) list

pair-of-nodes : (host : ℕ) (j : List Entry) (u v : Node) → AreOne host j u v → IsMember (u, v) (pairs (all_nodes j) (all_nodes j))
pair-of-nodes host j u v one =
    let two = replicates-nodes host j u v one.offset one.one_class in
    pair-member u v (all_nodes j) (all_nodes j) (node-listed j u two.0) (node-listed j v two.1)

-- the list grows, and it can't be longer than that of all pairs
fill : (n : Network) (host : ℕ) (j : List Entry) (m : ℕ) (ps : List (Node × Node)) → IsFabric n → IsTrueWhereFound n host j → AreReplicates host j ps → Apart ps → length (pairs (all_nodes j) (all_nodes j)) < m + length ps → HasClasses host j
fill n host j zero ps f all sound apart l =
    let most = no-more ps (pairs (all_nodes j) (all_nodes j)) apart (λ p m. pair-of-nodes host j p.0 p.1 (sound p.0 p.1 m)) in
    absurd (omega arith)
fill n host j (suc m) ps f all sound apart l = by (try_all n host j f all ps sound) (λ qs. fill n host j m qs f all)
  where
    more : (x : IsMissing host j ps) → AreReplicates host j ((x.first, x.second) ∷ ps)
    more x u v (inl e) = subst (λ (p : Node × Node). AreOne host j p.0 p.1) (sym e) x.one
    more x u v (inr k) = sound u v k

    by : IsSaturated host j ps ⊎ IsMissing host j ps → ((qs : List (Node × Node)) → AreReplicates host j qs → Apart qs → length (pairs (all_nodes j) (all_nodes j)) < m + length qs → HasClasses host j) → HasClasses host j
    by (inl s) rest = record { list = ps; sound = sound; whole = λ u v k r. saturated host j ps u v k s r }
    by (inr x) rest =
        rest ((x.first, x.second) ∷ ps) (more x) (all-from-members (λ p. (x.first, x.second) ≢ p) ps (λ p k e. x.new (subst (λ q. IsMember q ps) (sym e) k)), apart) (omega arith)

pub classes : (n : Network) (host : ℕ) (j : List Entry) → IsFabric n → IsTrueWhereFound n host j → HasClasses host j
classes n host j f all = fill n host j (suc (length (pairs (all_nodes j) (all_nodes j)))) [] f all (λ u v m. absurd m) tt (omega arith)

pub one-or-not : (host : ℕ) (j : List Entry) (u v : Node) → HasClasses host j → AreOne host j u v ⊎ ¬ AreOne host j u v
one-or-not host j u v c = by (pair-listed (u, v) c.list)
  where
    by : IsMember (u, v) c.list ⊎ ¬ IsMember (u, v) c.list → AreOne host j u v ⊎ ¬ AreOne host j u v
    by (inl m) = inl (c.sound u v m)
    by (inr d) = inr (λ one. d (c.whole u v one.offset one.one_class))
