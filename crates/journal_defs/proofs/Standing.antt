-- Replicates stand at one vertex, their entry ports the offset apart.
use Rattle.std.proofs.Common.{◌≡◌, ◌≢◌, ◌<◌, ℕ, List, [], ◌∷◌, ◌++◌, Bool, true, false, Option, Some, None, sym, ◌∙◌, subst, ap, true≢false, refl, arith, if◌then◌else◌}
use Rattle.std.specs.Prelude.{ℤ, pos, negsuc, ◌+ℤ◌, ◌-ℤ◌, int_le, option_and_then}
use Rattle.std.proofs.lemmas.Bool.{false≢true, and_from}
use Rattle.std.proofs.lemmas.Bool.Decides.{nat_tests}
use Rattle.std.proofs.lemmas.Int.{ints}
use Rattle.net_defs.specs.declared.vertex.Vertex.{Vertex}
use Rattle.net_defs.specs.declared.vertex.Vertex.TheVariants.{Host, Switch}
use Rattle.net_defs.specs.declared.vertex.End.{End}
use Rattle.net_defs.specs.declared.place.Answer.{Answer}
use Rattle.net_defs.specs.declared.place.Answer.TheVariants.{Host as IsHost, Switch as IsSwitch, Nothing as IsNothing}
use Rattle.net_defs.specs.Network.{Network, IsFabric, far, has_port}
use Rattle.net_defs.specs.Route.{answer, answer_at, place_at, place_at_vertex, entered_after, turned, exit_at, host_port, IsEntered}
use Rattle.net_defs.specs.Turn.{IsTurn, same_turns}
use Rattle.net_defs.proofs.Places.{far-there}
use Rattle.journal_defs.specs.declared.entry.Entry.{Entry}
use Rattle.journal_defs.specs.Tree.{Node, Leads, IsNode, answered, host_of, host_in, is_found, has_found}
use Rattle.journal_defs.specs.Tree.Node.{Mapper, Reached}
use Rattle.journal_defs.specs.Tree.Leads.{onward, back, out, home}
use Rattle.journal_defs.specs.Replicates.{Replicates}
use Rattle.journal_defs.specs.Replicates.Replicates.{same, turned as other_way, along, one_host, behind}
use Rattle.journal_defs.specs.Truth.{IsTrueWhereFound, standing}
use Rattle.journal_defs.specs.Laws.{ReplicatesStandTogether, OffsetsAreTurns, OffsetIsUnique, OwnOffsetIsZero}
use Rattle.net_defs.proofs.Turns.{same_turns-true}
use Rattle.net_defs.proofs.Cabling.{far-back, exit-leaves, entered-there, host-port, at_most_sixteen}

-- an answer that found something is true
pub answered-true : (n : Network) (host : ℕ) (j : List Entry) (w : List ℤ) (a : Answer) → IsTrueWhereFound n host j → answered j w ≡ Some a → is_found a ≡ true → a ≡ answer n host w
answered-true n host [] w a all e f = cc
answered-true n host (x ∷ j) w a all e f = by (same_turns x.walk w) refl e (answered-true n host j w a all.1)
  where
    by : (b : Bool) → same_turns x.walk w ≡ b → (if b then Some x.answer else answered j w) ≡ Some a → (answered j w ≡ Some a → is_found a ≡ true → a ≡ answer n host w) → a ≡ answer n host w
    by true s g rest =
        let walk : x.walk ≡ w = same_turns-true x.walk w s in
        let one : x.answer ≡ a = cc in
        let found : x.answer ≢ IsNothing = λ p. true≢false (sym f ∙ ap is_found (sym one ∙ p)) in
        sym one ∙ all.0 found ∙ ap (answer n host) walk
    by false s g rest = rest g f

-- what found something stands at a port of the fabric
pub record Stands (n : Network) (host : ℕ) (u : Node) : Type 0 where
  pub at : End
  pub is : standing n host u ≡ Some at

stands-found : (o : Option End) → is_found (answer_at (place_at o)) ≡ true → (e : End) × (o ≡ Some e)
stands-found None f = absurd (false≢true f)
stands-found (Some e) f = (e, refl)

answer-found : (n : Network) (host : ℕ) (j : List Entry) (w : List ℤ) (o : Option Answer) → IsTrueWhereFound n host j → answered j w ≡ o → has_found o ≡ true → is_found (answer n host w) ≡ true
answer-found n host j w None all e f = absurd (false≢true f)
answer-found n host j w (Some a) all e f = ap is_found (sym (answered-true n host j w a all e f)) ∙ f

pub node-stands : (n : Network) (host : ℕ) (j : List Entry) (u : Node) → IsTrueWhereFound n host j → IsNode j u → Stands n host u
node-stands n host j Mapper all f = record { at = host_port host; is = refl }
node-stands n host j (Reached w) all f =
    let found = stands-found (entered_after n (far n (host_port host)) w) (answer-found n host j w (answered j w) all refl f) in
    record { at = found.0; is = found.1 }

-- a node that was entered, was so by a port of the fabric
pub standing-there : (n : Network) (host : ℕ) (w : List ℤ) (e : End) → IsFabric n → standing n host (Reached w) ≡ Some e → has_port n e ≡ true
standing-there n host w e f p = subst (IsEntered n) p (entered-there n (far n (host_port host)) w f (far-there n (host_port host) f))

-- a node that is a host stands at its port
host-answer : (o : Option End) (h : ℕ) → answer_at (place_at o) ≡ IsHost h → (p : ℕ) × (o ≡ Some (record { v = Host h; p = p }))
host-answer None h e = cc
host-answer (Some d) h e = by d.v refl e
  where
    by : (v : Vertex) → d.v ≡ v → answer_at (place_at_vertex v d.p) ≡ IsHost h → (p : ℕ) × (Some d ≡ Some (record { v = Host h; p = p }))
    by (Host g) q r = let one : g ≡ h = cc in (d.p, (λ i. Some (record { v = (q ∙ ap Host one) i; p = d.p })))
    by (Switch s) q r = cc

pub host_in-is : (o : Option Answer) (h : ℕ) → host_in o ≡ Some h → o ≡ Some (IsHost h)
host_in-is None h e = cc
host_in-is (Some (IsHost g)) h e = cc
host_in-is (Some IsSwitch) h e = cc
host_in-is (Some IsNothing) h e = cc

pub host-stands : (n : Network) (host : ℕ) (j : List Entry) (u : Node) (h : ℕ) → IsFabric n → IsTrueWhereFound n host j → host_of host j u ≡ Some h → standing n host u ≡ Some (host_port h)
host-stands n host j Mapper h f all e = let one : host ≡ h = cc in ap (λ x. Some (host_port x)) one
host-stands n host j (Reached w) h f all e =
    let told : answered j w ≡ Some (IsHost h) = host_in-is (answered j w) h e in
    let found = host-answer (entered_after n (far n (host_port host)) w) h (sym (answered-true n host j w (IsHost h) all told refl)) in
    let there = standing-there n host w (record { v = Host h; p = found.0 }) f found.1 in
    let first : found.0 ≡ 0 = host-port n h found.0 there in
    found.1 ∙ ap (λ p. Some (record { v = Host h; p = p })) first

-- a turn leads over a cable of the fabric: from port p of what stands at d to port i of what stands at e
pub record Crosses (n : Network) (d : End) (p : ℤ) (e : End) (i : ℤ) : Type 0 where
  pub leaves : ℕ
  pub enters : ℕ
  pub leaves_by : pos leaves ≡ pos d.p +ℤ p
  pub enters_by : pos enters ≡ pos e.p +ℤ i
  pub cable : far n (record { v = d.v; p = leaves }) ≡ Some (record { v = e.v; p = enters })

pub plus_zero : (a : ℕ) → pos a ≡ pos a +ℤ pos 0
plus_zero a = omega (arith, ints)

pub entered-push : (n : Network) (o : Option End) (w : List ℤ) (t : ℤ) → entered_after n o (w ++ t ∷ []) ≡ turned n (entered_after n o w) t
entered-push n o [] t = refl
entered-push n o (s ∷ w) t = entered-push n (turned n o s) w t

pub turn-crosses : (n : Network) (d e : End) (t : ℤ) → turned n (Some d) t ≡ Some e → Crosses n d t e (pos 0)
turn-crosses n d e t f = by (exit_at n d.v d.p t) refl f
  where
    by : (x : Option End) → exit_at n d.v d.p t ≡ x → option_and_then (far n) x ≡ Some e → Crosses n d t e (pos 0)
    by None p g = cc
    by (Some y) p g =
        let leaving = exit-leaves n d.v d.p t y p in
        record { leaves = leaving.port; enters = e.p; leaves_by = leaving.sum; enters_by = plus_zero e.p; cable = ap (far n) (sym leaving.is) ∙ g }

other-way : (n : Network) (d e : End) (p i : ℤ) → IsFabric n → Crosses n d p e i → Crosses n e i d p
other-way n d e p i f c =
    record { leaves = c.enters; enters = c.leaves; leaves_by = c.enters_by; enters_by = c.leaves_by; cable = far-back n _ _ f c.cable }

onward-crosses : (n : Network) (host : ℕ) (w x : List ℤ) (p : ℤ) (d e : End) → x ≡ w ++ p ∷ [] → standing n host (Reached w) ≡ Some d → standing n host (Reached x) ≡ Some e → Crosses n d p e (pos 0)
onward-crosses n host w x p d e is a b =
    turn-crosses n d e p (ap (λ o. turned n o p) (sym a) ∙ sym (entered-push n (far n (host_port host)) w p) ∙ ap (entered_after n (far n (host_port host))) (sym is) ∙ b)

out-crosses : (n : Network) (host : ℕ) (d e : End) → standing n host Mapper ≡ Some d → standing n host (Reached []) ≡ Some e → Crosses n d (pos 0) e (pos 0)
out-crosses n host d e a b =
    let own : host_port host ≡ d = cc in
    record { leaves = d.p; enters = e.p; leaves_by = plus_zero d.p; enters_by = plus_zero e.p; cable = ap (far n) (sym own) ∙ b }

pub leads-crosses : (n : Network) (host : ℕ) (j : List Entry) (u x : Node) (p i : ℤ) (d e : End) → IsFabric n → Leads j u p x i → standing n host u ≡ Some d → standing n host x ≡ Some e → Crosses n d p e i
leads-crosses n host j u x p i d e f (onward {w = w} {x = y} {p = t} a b is) q r = onward-crosses n host w y t d e is q r
leads-crosses n host j u x p i d e f (back {w = w} {x = y} {p = t} a b is) q r = other-way n e d t (pos 0) f (onward-crosses n host w y t e d is r q)
leads-crosses n host j u x p i d e f (out a) q r = out-crosses n host d e q r
leads-crosses n host j u x p i d e f (home a) q r = other-way n e d (pos 0) (pos 0) f (out-crosses n host e d r q)

pub leads-from : (j : List Entry) (u x : Node) (p i : ℤ) → Leads j u p x i → IsNode j u
leads-from j u x p i (onward a b is) = a
leads-from j u x p i (back a b is) = b
leads-from j u x p i (out a) = refl
leads-from j u x p i (home a) = a

pub leads-to : (j : List Entry) (u x : Node) (p i : ℤ) → Leads j u p x i → IsNode j x
leads-to j u x p i (onward a b is) = b
leads-to j u x p i (back a b is) = a
leads-to j u x p i (out a) = a
leads-to j u x p i (home a) = refl

pub same_end-of : (n : Network) (host : ℕ) (u : Node) (d e : End) → standing n host u ≡ Some d → standing n host u ≡ Some e → d ≡ e
same_end-of n host u d e p q = let two : Some d ≡ Some e = sym p ∙ q in cc

-- two ports of one vertex are one port, by its number
one_end : (v w : Vertex) (p q : ℕ) → v ≡ w → p ≡ q → ◌≡◌ {A = End} (record { v = v; p = p }) (record { v = w; p = q })
one_end v w p q a b = λ i. record { v = a i; p = b i }

one-vertex : (v w : Vertex) (p q : ℕ) → ◌≡◌ {A = Option End} (Some (record { v = v; p = p })) (Some (record { v = w; p = q })) → v ≡ w
one-vertex v w p q e = let ends : ◌≡◌ {A = End} (record { v = v; p = p }) (record { v = w; p = q }) = cc in ap (λ (x : End). x.v) ends

one-port : (v w : Vertex) (p q : ℕ) → ◌≡◌ {A = Option End} (Some (record { v = v; p = p })) (Some (record { v = w; p = q })) → p ≡ q
one-port v w p q e = let ends : ◌≡◌ {A = End} (record { v = v; p = p }) (record { v = w; p = q }) = cc in ap (λ (x : End). x.p) ends

same-port : (a b c d : ℕ) (k p : ℤ) → pos a ≡ pos b +ℤ k → pos c ≡ pos a +ℤ p → pos d ≡ pos b +ℤ (p +ℤ k) → c ≡ d
same-port a b c d k p e f g = omega (arith, ints)

offset-behind : (a b c : ℕ) (i q : ℤ) → pos c ≡ pos a +ℤ i → pos c ≡ pos b +ℤ q → pos a ≡ pos b +ℤ (q -ℤ i)
offset-behind a b c i q e f = omega (arith, ints)

-- the theorem, by induction on the relation
pub stand : ReplicatesStandTogether
stand n host j u v k f all (same {u = w} node) =
    let s = node-stands n host j w all node in
    record { at_u = s.at; at_v = s.at; is_at_u = s.is; is_at_v = s.is; one_vertex = refl; apart = plus_zero s.at.p }
stand n host j u v k f all (other_way {u = x} {v = y} {k = i} r) =
    let s = stand n host j x y i f all r in
    record { at_u = s.at_v; at_v = s.at_u; is_at_u = s.is_at_v; is_at_v = s.is_at_u; one_vertex = sym s.one_vertex; apart = (let e = s.apart in omega (arith, ints)) }
stand n host j u v k f all (along {u = x} {v = y} {w = z} {i = i} {k = l} r t) =
    let a = stand n host j x y i f all r in
    let b = stand n host j y z l f all t in
    let mid : a.at_v ≡ b.at_u = same_end-of n host y a.at_v b.at_u a.is_at_v b.is_at_u in
    record { at_u = a.at_u; at_v = b.at_v; is_at_u = a.is_at_u; is_at_v = b.is_at_v; one_vertex = a.one_vertex ∙ ap (λ (e : End). e.v) mid ∙ b.one_vertex; apart = (let e = a.apart in let g = b.apart in let h : a.at_v.p ≡ b.at_u.p = ap (λ (e : End). e.p) mid in omega (arith, ints)) }
stand n host j u v k f all (one_host {u = x} {v = y} {h = h} a b) =
    record { at_u = host_port h; at_v = host_port h; is_at_u = host-stands n host j x h f all a; is_at_v = host-stands n host j y h f all b; one_vertex = refl; apart = refl }
stand n host j u v k f all (behind {u = a} {v = b} {x = x} {y = y} {k = l} {p = p} {i = i} {q = q} r s t) =
    let pair = stand n host j a b l f all r in
    let at_x = node-stands n host j x all (leads-to j a x p i s) in
    let at_y = node-stands n host j y all (leads-to j b y (p +ℤ l) q t) in
    let over_x = leads-crosses n host j a x p i pair.at_u at_x.at f s pair.is_at_u at_x.is in
    let over_y = leads-crosses n host j b y (p +ℤ l) q pair.at_v at_y.at f t pair.is_at_v at_y.is in
    let port : over_x.leaves ≡ over_y.leaves = same-port pair.at_u.p pair.at_v.p over_x.leaves over_y.leaves l p pair.apart over_x.leaves_by over_y.leaves_by in
    let met : Some (record { v = at_x.at.v; p = over_x.enters }) ≡ Some (record { v = at_y.at.v; p = over_y.enters }) = sym over_x.cable ∙ ap (far n) (one_end pair.at_u.v pair.at_v.v over_x.leaves over_y.leaves pair.one_vertex port) ∙ over_y.cable in
    let vertex : at_x.at.v ≡ at_y.at.v = one-vertex at_x.at.v at_y.at.v over_x.enters over_y.enters met in
    let entry : over_x.enters ≡ over_y.enters = one-port at_x.at.v at_y.at.v over_x.enters over_y.enters met in
    record { at_u = at_x.at; at_v = at_y.at; is_at_u = at_x.is; is_at_v = at_y.is; one_vertex = vertex; apart = offset-behind at_x.at.p at_y.at.p over_x.enters i q over_x.enters_by (ap pos entry ∙ over_y.enters_by) }

-- the vertex at which a node stands has at most 16 ports
pub port-below : (n : Network) (host : ℕ) (u : Node) (e : End) → IsFabric n → standing n host u ≡ Some e → e.p < 16
port-below n host Mapper e f p = let own : host_port host ≡ e = cc in let first : 0 ≡ e.p = ap (λ (x : End). x.p) own in omega arith
port-below n host (Reached w) e f p =
    let there = standing-there n host w e f p in
    let few = at_most_sixteen n e.v f in
    grind (arith, nat_tests)

pub turn-between : (a b : ℕ) (k : ℤ) → a < 16 → b < 16 → pos a ≡ pos b +ℤ k → IsTurn k
turn-between a b k p q e = and_from (int_le (negsuc 14) k) (int_le k (pos 15)) (grind (arith, ints)) (grind (arith, ints))

pub offsets_are_turns : OffsetsAreTurns
offsets_are_turns n host j u v k f all r =
    let s = stand n host j u v k f all r in
    turn-between s.at_u.p s.at_v.p k (port-below n host u s.at_u f s.is_at_u) (port-below n host v s.at_v f s.is_at_v) s.apart

one-offset : (a b : ℕ) (k l : ℤ) → pos a ≡ pos b +ℤ k → pos a ≡ pos b +ℤ l → k ≡ l
one-offset a b k l e f = omega (arith, ints)

pub offset_is_unique : OffsetIsUnique
offset_is_unique n host j u v k l f all r t =
    let a = stand n host j u v k f all r in
    let b = stand n host j u v l f all t in
    let at_u : a.at_u ≡ b.at_u = same_end-of n host u a.at_u b.at_u a.is_at_u b.is_at_u in
    let at_v : a.at_v ≡ b.at_v = same_end-of n host v a.at_v b.at_v a.is_at_v b.is_at_v in
    one-offset a.at_u.p a.at_v.p k l a.apart (ap (λ (e : End). pos e.p) at_u ∙ b.apart ∙ ap (λ (e : End). pos e.p +ℤ l) (sym at_v))

pub own_offset_is_zero : OwnOffsetIsZero
own_offset_is_zero n host j u k f all r =
    let s = stand n host j u u k f all r in
    let one : s.at_u ≡ s.at_v = same_end-of n host u s.at_u s.at_v s.is_at_u s.is_at_v in
    one-offset s.at_u.p s.at_v.p k (pos 0) s.apart (ap (λ (e : End). pos e.p) one ∙ plus_zero s.at_v.p)

-- replicates are nodes
host-node : (host : ℕ) (j : List Entry) (u : Node) (h : ℕ) → host_of host j u ≡ Some h → IsNode j u
host-node host j Mapper h e = refl
host-node host j (Reached w) h e = ap has_found (host_in-is (answered j w) h e)

pub replicates-nodes : (host : ℕ) (j : List Entry) (u v : Node) (k : ℤ) → Replicates host j u v k → IsNode j u × IsNode j v
replicates-nodes host j u v k (same node) = (node, node)
replicates-nodes host j u v k (other_way {u = x} {v = y} {k = i} r) = let two = replicates-nodes host j x y i r in (two.1, two.0)
replicates-nodes host j u v k (along {u = x} {v = y} {w = z} {i = i} {k = l} r t) = ((replicates-nodes host j x y i r).0, (replicates-nodes host j y z l t).1)
replicates-nodes host j u v k (one_host {u = x} {v = y} {h = h} a b) = (host-node host j x h a, host-node host j y h b)
replicates-nodes host j u v k (behind {u = a} {v = b} {x = x} {y = y} {k = l} {p = p} {i = i} {q = q} r s t) = (leads-to j a x p i s, leads-to j b y (p +ℤ l) q t)
