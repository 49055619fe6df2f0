-- Over each cable of a vertex at which a node stands there is a node, where the node's class is expanded.
use Rattle.std.proofs.Common.{◌≡◌, ◌≢◌, ◌<◌, ◌≤◌, ℕ, suc, List, [], ◌∷◌, ◌++◌, length, Bool, true, false, Some, None, sym, ◌∙◌, subst, ap, true≢false, refl, arith, nat_lt, if◌then◌else◌}
use Rattle.std.specs.Prelude.{ℤ, pos, ◌+ℤ◌, ◌-ℤ◌, ◌&&◌, int_le, int_lt, nat_abs, option_map, option_and_then}
use Rattle.std.specs.Ordering.{int_eq}
use Rattle.std.proofs.lemmas.Bool.{and_from}
use Rattle.std.proofs.lemmas.Bool.Decides.{Decides-int_eq, nat_tests}
use Rattle.std.proofs.lemmas.Int.{ints}
use Rattle.net_defs.specs.declared.vertex.Vertex.{Vertex}
use Rattle.net_defs.specs.declared.vertex.Vertex.TheVariants.{Host, Switch}
use Rattle.net_defs.specs.declared.vertex.End.{End}
use Rattle.net_defs.specs.Network.{Network, IsFabric, far, has_port, ports_of}
use Rattle.net_defs.specs.Route.{turned, exit_at, leaving_port, host_port}
use Rattle.journal_defs.specs.declared.entry.Entry.{Entry}
use Rattle.journal_defs.specs.Walks.{IsOnward}
use Rattle.journal_defs.specs.Tree.{Node, Leads, IsNode, is_asked}
use Rattle.journal_defs.specs.Tree.Node.{Mapper, Reached}
use Rattle.journal_defs.specs.Tree.Leads.{onward, back, out, home}
use Rattle.journal_defs.specs.Growth.{IsExpanded}
use Rattle.journal_defs.specs.Truth.{IsTrueJournal, standing}
use Rattle.net_defs.proofs.Cabling.{host-port, at_most_sixteen}
use Rattle.journal_defs.proofs.Standing.{standing-there, entered-push, leads-crosses, leads-to, node-stands, turn-between}
use Rattle.map_laws.proofs.Asks.{HasTree, ByLast, by_last, push-length, switch-node}
use Rattle.map_laws.proofs.Asks.ByLast.{empty, pushed}
use Rattle.map_laws.proofs.Truly.{true-where, stands-node, node-asked, port-there, first-stands}

-- the cables that lead to a node
abbrev pub cables : Node → ℕ
cables Mapper = 0
cables (Reached w) = suc (length w)

-- a turn of a node leads to another
pub record LeadsOn (j : List Entry) (m : Node) (t : ℤ) : Type 0 where
  pub next : Node
  pub port : ℤ
  pub leads : Leads j m t next port
  pub few : cables next ≤ suc (cables m)

-- a node at a host has one cable; at a switch it has to be expanded
pub data CanCross (j : List Entry) (m : Node) (d : End) : Type 0 where
  at_host : (a : ℕ) → d.v ≡ Host a → CanCross j m d
  expanded : (w : List ℤ) → m ≡ Reached w → IsExpanded j w → CanCross j m d

-- port 0 leads back
leads-home : (j : List Entry) (m : Node) → HasTree j → IsNode j m → IsNode j (Reached []) → LeadsOn j m (pos 0)
leads-home j Mapper tree node start = record { next = Reached []; port = pos 0; leads = out start; few = omega arith }
leads-home j (Reached w) tree node start = by (by_last w)
  where
    by : ByLast w → LeadsOn j (Reached w) (pos 0)
    by (empty e) = subst (λ v. LeadsOn j (Reached v) (pos 0)) (sym e) (record { next = Mapper; port = pos 0; leads = home start; few = omega arith })
    by (pushed v t e) =
        let up = tree.parent v t (subst (λ x. is_asked j x ≡ true) e (node-asked j w node)) in
        let long : length w ≡ suc (length v) = ap length e ∙ push-length v t in
        record { next = Reached v; port = t; leads = back (switch-node j v up.switch) node e; few = omega arith }

pub below-ports : (n : Network) (d : End) → IsFabric n → has_port n d ≡ true → d.p < 16
below-ports n d f h = let most = at_most_sixteen n d.v f in grind (arith, nat_tests)

-- the port that a turn leaves by is the one that it should
leaving : (ports entry q : ℕ) (t : ℤ) → pos q ≡ pos entry +ℤ t → nat_lt q ports ≡ true → leaving_port ports entry t ≡ Some q
leaving ports entry q t e l = rw (← e) (by q l)
  where
    by : (q : ℕ) → nat_lt q ports ≡ true → (if (int_le (pos 0) (pos q) && int_lt (pos q) (pos ports)) then Some (nat_abs (pos q)) else None) ≡ Some q
    by q l = rw (and_from (int_le (pos 0) (pos q)) (int_lt (pos q) (pos ports)) (grind (arith, ints, nat_tests)) (grind (arith, ints, nat_tests))) refl

pub exit-is : (n : Network) (s entry q : ℕ) (t : ℤ) → pos q ≡ pos entry +ℤ t → has_port n (record { v = Switch s; p = q }) ≡ true → exit_at n (Switch s) entry t ≡ Some (record { v = Switch s; p = q })
exit-is n s entry q t e h = ap (option_map (λ p. record { v = Switch s; p = p })) (leaving (ports_of n (Switch s)) entry q t e h)

turned-is : (n : Network) (d x : End) (q : ℕ) (t : ℤ) (s : ℕ) → IsFabric n → d.v ≡ Switch s → far n (record { v = d.v; p = q }) ≡ Some x → pos q ≡ pos d.p +ℤ t → turned n (Some d) t ≡ Some x
turned-is n d x q t s f v c e =
    let cable : far n (record { v = Switch s; p = q }) ≡ Some x = ap (λ y. far n (record { v = y; p = q })) (sym v) ∙ c in
    ap (λ y. option_and_then (far n) (exit_at n y d.p t)) v ∙ ap (option_and_then (far n)) (exit-is n s d.p q t e (port-there n (record { v = Switch s; p = q }) x f cable)) ∙ cable

-- a turn of an expanded node
leads-child : (n : Network) (host : ℕ) (j : List Entry) (w : List ℤ) (d x : End) (q s : ℕ) (t : ℤ) → IsFabric n → IsTrueJournal n host j → IsNode j (Reached w) → standing n host (Reached w) ≡ Some d → d.v ≡ Switch s → far n (record { v = d.v; p = q }) ≡ Some x → pos q ≡ pos d.p +ℤ t → IsExpanded j w → t ≢ pos 0 → LeadsOn j (Reached w) t
leads-child n host j w d x q s t f all node is v c e ex new =
    let low_q = below-ports n (record { v = d.v; p = q }) f (port-there n (record { v = d.v; p = q }) x f c) in
    let low_d = below-ports n d f (standing-there n host w d f is) in
    let on : IsOnward t = (turn-between q d.p t low_q low_d e, new) in
    let there : standing n host (Reached (w ++ t ∷ [])) ≡ Some x = entered-push n (far n (host_port host)) w t ∙ ap (λ o. turned n o t) is ∙ turned-is n d x q t s f v c e in
    let child = stands-node n host j (w ++ t ∷ []) x all (ex.asked t on) there in
    let long = push-length w t in
    record { next = Reached (w ++ t ∷ []); port = pos 0; leads = onward node child refl; few = omega arith }

-- the mapper's own port
first-node : (n : Network) (host : ℕ) (j : List Entry) (m : Node) (d x : End) (q : ℕ) → IsFabric n → IsTrueJournal n host j → is_asked j [] ≡ true → standing n host m ≡ Some d → far n (record { v = d.v; p = q }) ≡ Some x → IsNode j (Reached [])
first-node n host j Mapper d x q f all started is c =
    let own : host_port host ≡ d = cc in
    let cable : far n (record { v = Host host; p = q }) ≡ Some x = ap (λ (e : End). far n (record { v = e.v; p = q })) own ∙ c in
    let zero_port : q ≡ 0 = host-port n host q (port-there n (record { v = Host host; p = q }) x f cable) in
    stands-node n host j [] x all started (ap (λ p. far n (record { v = Host host; p = p })) (sym zero_port) ∙ cable)
first-node n host j (Reached w) d x q f all started is c = first-stands n host j w d all started is

standing-port : (n : Network) (host : ℕ) (m : Node) (d : End) (a : ℕ) → IsFabric n → standing n host m ≡ Some d → d.v ≡ Host a → d.p ≡ 0
standing-port n host Mapper d a f is v = let own : host_port host ≡ d = cc in ap (λ (e : End). e.p) (sym own)
standing-port n host (Reached w) d a f is v = host-port n a d.p (subst (λ y. has_port n (record { v = y; p = d.p }) ≡ true) v (standing-there n host w d f is))

no-turn : (q p : ℕ) (t : ℤ) → q ≡ 0 → p ≡ 0 → pos q ≡ pos p +ℤ t → t ≡ pos 0
no-turn q p t a b e = omega (arith, ints)

-- at whatever port of a node a cable lies, the journal leads on
pub leads-on : (n : Network) (host : ℕ) (j : List Entry) (m : Node) (d x : End) (q : ℕ) (t : ℤ) → IsFabric n → IsTrueJournal n host j → HasTree j → is_asked j [] ≡ true → IsNode j m → standing n host m ≡ Some d → far n (record { v = d.v; p = q }) ≡ Some x → pos q ≡ pos d.p +ℤ t → CanCross j m d → LeadsOn j m t
leads-on n host j m d x q t f all tree started node is c e (at_host a v) =
    let cable : far n (record { v = Host a; p = q }) ≡ Some x = ap (λ y. far n (record { v = y; p = q })) (sym v) ∙ c in
    let zero_q : q ≡ 0 = host-port n a q (port-there n (record { v = Host a; p = q }) x f cable) in
    let zero_d : d.p ≡ 0 = standing-port n host m d a f is v in
    subst (LeadsOn j m) (sym (no-turn q d.p t zero_q zero_d e)) (leads-home j m tree node (first-node n host j m d x q f all started is c))
leads-on n host j m d x q t f all tree started node is c e (expanded w same ex) = by (int_eq t (pos 0)) refl d.v refl
  where
    start : IsNode j (Reached [])
    start = first-node n host j m d x q f all started is c

    by : (b : Bool) → int_eq t (pos 0) ≡ b → (v : Vertex) → d.v ≡ v → LeadsOn j m t
    by true p v r = subst (LeadsOn j m) (sym ((Decides-int_eq t (pos 0)).0 p)) (leads-home j m tree node start)
    by false p (Switch s) r = subst (λ y. LeadsOn j y t) (sym same) (leads-child n host j w d x q s t f all (subst (IsNode j) same node) (ap (standing n host) (sym same) ∙ is) r c e ex (λ z. true≢false (sym ((Decides-int_eq t (pos 0)).1 z) ∙ p)))
    by false p (Host a) r =
        let cable : far n (record { v = Host a; p = q }) ≡ Some x = ap (λ y. far n (record { v = y; p = q })) (sym r) ∙ c in
        let zero_q : q ≡ 0 = host-port n a q (port-there n (record { v = Host a; p = q }) x f cable) in
        let zero_d : d.p ≡ 0 = standing-port n host m d a f is r in
        absurd (true≢false (sym ((Decides-int_eq t (pos 0)).1 (no-turn q d.p t zero_q zero_d e)) ∙ p))

-- Over port p of the vertex at which a node stands: the node, and where it stands.
pub record LeadsTo (n : Network) (host : ℕ) (j : List Entry) (m : Node) (d : End) (p : ℕ) (x : End) : Type 0 where
  pub turn : ℤ
  pub next : Node
  pub port : ℤ
  pub leads : Leads j m turn next port
  pub few : cables next ≤ suc (cables m)
  pub leaves : pos p ≡ pos d.p +ℤ turn
  pub at : End
  pub stands : standing n host next ≡ Some at
  pub there : at.v ≡ x.v
  pub enters : pos x.p ≡ pos at.p +ℤ port

difference : (q p : ℕ) → pos q ≡ pos p +ℤ (pos q -ℤ pos p)
difference q p = omega (arith, ints)

one-number : (a b : ℕ) (c t : ℤ) → pos a ≡ c +ℤ t → pos b ≡ c +ℤ t → a ≡ b
one-number a b c t e g = omega (arith, ints)

-- the node stands at the far end of the cable
lands : (n : Network) (host : ℕ) (j : List Entry) (m : Node) (d x : End) (p : ℕ) (t : ℤ) → IsFabric n → IsTrueJournal n host j → standing n host m ≡ Some d → far n (record { v = d.v; p = p }) ≡ Some x → pos p ≡ pos d.p +ℤ t → LeadsOn j m t → LeadsTo n host j m d p x
lands n host j m d x p t f all is c e l =
    let at = node-stands n host j l.next (true-where n host j all) (leads-to j m l.next t l.port l.leads) in
    let over = leads-crosses n host j m l.next t l.port d at.at f l.leads is at.is in
    let port : p ≡ over.leaves = one-number p over.leaves (pos d.p) t e over.leaves_by in
    let ends : Some x ≡ Some (record { v = at.at.v; p = over.enters }) = sym c ∙ ap (λ q. far n (record { v = d.v; p = q })) port ∙ over.cable in
    let far_end : x ≡ record { v = at.at.v; p = over.enters } = cc in
    record { turn = t; next = l.next; port = l.port; leads = l.leads; few = l.few; leaves = e; at = at.at; stands = at.is; there = ap (λ (y : End). y.v) (sym far_end); enters = ap (λ (y : End). pos y.p) far_end ∙ over.enters_by }

pub cross : (n : Network) (host : ℕ) (j : List Entry) (m : Node) (d x : End) (p : ℕ) → IsFabric n → IsTrueJournal n host j → HasTree j → is_asked j [] ≡ true → IsNode j m → standing n host m ≡ Some d → far n (record { v = d.v; p = p }) ≡ Some x → CanCross j m d → LeadsTo n host j m d p x
cross n host j m d x p f all tree started node is c can =
    lands n host j m d x p (pos p -ℤ pos d.p) f all is c (difference p d.p) (leads-on n host j m d x p (pos p -ℤ pos d.p) f all tree started node is c (difference p d.p) can)
