-- What a journal found is enough for its map.
use Rattle.std.proofs.Common.{◌≡◌, ◌≢◌, ℕ, List, [], ◌∷◌, map, Bool, true, false, Option, Some, None, sym, ◌∙◌, subst, ap, refl, if◌then◌else◌}
use Rattle.std.specs.Prelude.{ℤ, ◌+ℤ◌}
use Rattle.std.specs.List.{AllByRecursion}
use Rattle.std.proofs.lemmas.Bool.{false≢true}
use Rattle.net_defs.specs.declared.place.Answer.{Answer}
use Rattle.net_defs.specs.declared.place.Answer.TheVariants.{Host, Switch, Nothing}
use Rattle.net_defs.specs.Turn.{same_turns}
use Rattle.net_defs.proofs.Turns.{same_turns-true, same_turns-false}
use Rattle.journal_defs.specs.declared.entry.Entry.{Entry}
use Rattle.journal_defs.specs.Tree.{Node, IsJournal, IsNode, Leads, answered, has_found, host_in, host_of, is_found, is_node}
use Rattle.journal_defs.specs.Tree.Node.{Mapper, Reached}
use Rattle.journal_defs.specs.Tree.Leads.{onward, back as go_back, out, home}
use Rattle.journal_defs.specs.Replicates.{Replicates}
use Rattle.journal_defs.specs.Replicates.Replicates.{same, turned, along, one_host, behind}
use Rattle.map_defs.specs.NetMap.{MapPort}
use Rattle.map_defs.specs.Quotient.{IsOfVertex, IsLed, named}
use Rattle.circ_defs.specs.Asking.{found_of}
use Rattle.circ_laws.specs.Laws.{FoundIsEnough}

-- a walk that isn't among a journal's was not found
none-found : (j : List Entry) (w : List ℤ) → AllByRecursion (λ y. w ≢ y) (map (λ (e : Entry). e.walk) j) → answered (found_of j) w ≡ None
none-found [] w apart = refl
none-found (e ∷ j) w apart = by (is_found e.answer) (none-found j w apart.1)
  where
    other : (if same_turns e.walk w then Some e.answer else answered (found_of j) w) ≡ answered (found_of j) w
    other = rw (same_turns-false e.walk w (λ p. apart.0 (sym p))) refl

    by : (b : Bool) → answered (found_of j) w ≡ None → answered (if b then e ∷ found_of j else found_of j) w ≡ None
    by true rest = other ∙ rest
    by false rest = rest

-- the answer to a walk is the same, or it is Nothing and was left out
data IsAlike (o p : Option Answer) : Type 0 where
  same_answer : o ≡ p → IsAlike o p
  left_out : o ≡ None → p ≡ Some Nothing → IsAlike o p

not_found : (a : Answer) → is_found a ≡ false → a ≡ Nothing
not_found (Host h) e = absurd (false≢true (sym e))
not_found Switch e = absurd (false≢true (sym e))
not_found Nothing e = refl

found-alike : (j : List Entry) (w : List ℤ) → IsJournal j → IsAlike (answered (found_of j) w) (answered j w)
found-alike [] w once = same_answer refl
found-alike (e ∷ j) w once = by (same_turns e.walk w) refl (is_found e.answer) refl (found-alike j w once.1)
  where
    by : (s : Bool) → same_turns e.walk w ≡ s → (b : Bool) → is_found e.answer ≡ b → IsAlike (answered (found_of j) w) (answered j w) → IsAlike (answered (if b then e ∷ found_of j else found_of j) w) (if s then Some e.answer else answered j w)
    by true p true q rest = same_answer (rw p refl)
    by true p false q rest = left_out (none-found j w (subst (λ v. AllByRecursion (λ y. v ≢ y) (map (λ (x : Entry). x.walk) j)) (same_turns-true e.walk w p) once.0)) (ap Some (not_found e.answer q))
    by false p true q rest = on rest
      where
        is : (if same_turns e.walk w then Some e.answer else answered (found_of j) w) ≡ answered (found_of j) w
        is = rw p refl

        on : IsAlike (answered (found_of j) w) (answered j w) → IsAlike (if same_turns e.walk w then Some e.answer else answered (found_of j) w) (answered j w)
        on (same_answer a) = same_answer (is ∙ a)
        on (left_out a b) = left_out (is ∙ a) b
    by false p false q rest = rest

node-alike : (o p : Option Answer) → IsAlike o p → has_found o ≡ has_found p
node-alike o p (same_answer e) = ap has_found e
node-alike o p (left_out a b) = ap has_found a ∙ sym (ap has_found b)

host-alike : (o p : Option Answer) → IsAlike o p → host_in o ≡ host_in p
host-alike o p (same_answer e) = ap host_in e
host-alike o p (left_out a b) = ap host_in a ∙ sym (ap host_in b)

-- two journals with the same nodes and hosts
record HaveSameNodes (host : ℕ) (j l : List Entry) : Type 0 where
  pub node : (u : Node) → is_node j u ≡ is_node l u
  pub address : (u : Node) → host_of host j u ≡ host_of host l u

found-same : (host : ℕ) (j : List Entry) → IsJournal j → HaveSameNodes host (found_of j) j
found-same host j once = record { node = node; address = address }
  where
    node : (u : Node) → is_node (found_of j) u ≡ is_node j u
    node Mapper = refl
    node (Reached w) = node-alike (answered (found_of j) w) (answered j w) (found-alike j w once)

    address : (u : Node) → host_of host (found_of j) u ≡ host_of host j u
    address Mapper = refl
    address (Reached w) = host-alike (answered (found_of j) w) (answered j w) (found-alike j w once)

same-back : (host : ℕ) (j l : List Entry) → HaveSameNodes host j l → HaveSameNodes host l j
same-back host j l s = record { node = λ u. sym (s.node u); address = λ u. sym (s.address u) }

node-on : (host : ℕ) (j l : List Entry) (u : Node) → HaveSameNodes host j l → IsNode j u → IsNode l u
node-on host j l u s e = sym (s.node u) ∙ e

leads-on : (host : ℕ) (j l : List Entry) (u x : Node) (p i : ℤ) → HaveSameNodes host j l → Leads j u p x i → Leads l u p x i
leads-on host j l u x p i s (onward {w = w} {x = v} a b e) = onward (node-on host j l (Reached w) s a) (node-on host j l (Reached v) s b) e
leads-on host j l u x p i s (go_back {w = w} {x = v} a b e) = go_back (node-on host j l (Reached w) s a) (node-on host j l (Reached v) s b) e
leads-on host j l u x p i s (out a) = out (node-on host j l (Reached []) s a)
leads-on host j l u x p i s (home a) = home (node-on host j l (Reached []) s a)

replicates-on : (host : ℕ) (j l : List Entry) (u v : Node) (k : ℤ) → HaveSameNodes host j l → Replicates host j u v k → Replicates host l u v k
replicates-on host j l u v k s (same a) = same (node-on host j l u s a)
replicates-on host j l u v k s (turned {u = x} {v = y} {k = i} r) = turned (replicates-on host j l x y i s r)
replicates-on host j l u v k s (along {u = x} {v = y} {w = z} {i = a} {k = b} r q) = along (replicates-on host j l x y a s r) (replicates-on host j l y z b s q)
replicates-on host j l u v k s (one_host {u = x} {v = y} a b) = one_host (sym (s.address x) ∙ a) (sym (s.address y) ∙ b)
replicates-on host j l u v k s (behind {u = a} {v = b} {x = x} {y = y} {k = o} {p = p} {i = i} {q = q} r f g) = behind (replicates-on host j l a b o s r) (leads-on host j l a x p i s f) (leads-on host j l b y (p +ℤ o) q s g)

of-vertex-on : (host : ℕ) (j l : List Entry) (us : List Node) (u : Node) (v : ℕ) (k : ℤ) → HaveSameNodes host j l → IsOfVertex host j us u v k → IsOfVertex host l us u v k
of-vertex-on host j l us u v k s o = record { least_node = o.least_node; there = o.there; one_class = replicates-on host j l u o.least_node k s o.one_class }

addresses-same : (host : ℕ) (j l : List Entry) (us : List Node) → HaveSameNodes host j l → map (host_of host j) us ≡ map (host_of host l) us
addresses-same host j l [] s = refl
addresses-same host j l (u ∷ us) s = ap (λ o. o ∷ map (host_of host j) us) (s.address u) ∙ ap (λ os. host_of host l u ∷ os) (addresses-same host j l us s)

module _ (host : ℕ) (j l : List Entry) (us : List Node) (s : HaveSameNodes host j l) where
  led-on : (d e : MapPort) → IsLed host j us d e → IsLed host l us d e
  led-on d e r = record {
    from = r.from;
    to = r.to;
    p = r.p;
    i = r.i;
    offset_from = r.offset_from;
    offset_to = r.offset_to;
    leads = leads-on host j l r.from r.to r.p r.i s r.leads;
    is_from = of-vertex-on host j l us r.from d.v r.offset_from s r.is_from;
    is_to = of-vertex-on host j l us r.to e.v r.offset_to s r.is_to;
    leaves = r.leaves;
    enters = r.enters;
  }

pub found_is_enough : FoundIsEnough
found_is_enough host j m once q = record {
  least = q.least;
  each_least = λ v u e. (let a = q.each_least v u e in record { node = node-on host l j u on a.node; least = λ x k r. a.least x k (replicates-on host j l u x k back r) });
  in_order = q.in_order;
  covered = λ u a. (let h = q.covered u (node-on host j l u back a) in record { vertex = h.vertex; offset = h.offset; is_of = of-vertex-on host l j q.least u h.vertex h.offset on h.is_of });
  vertices = q.vertices ∙ ap (named 0) (addresses-same host l j q.least on);
  cabled = λ d e. ((λ c. led-on host l j q.least on d e ((q.cabled d e).0 c)), (λ r. (q.cabled d e).1 (led-on host j l q.least back d e r)));
  cables_in_order = q.cables_in_order;
  unmarked = q.unmarked;
}
  where
    l : List Entry
    l = found_of j

    on : HaveSameNodes host (found_of j) j
    on = found-same host j once

    back : HaveSameNodes host j (found_of j)
    back = same-back host (found_of j) j (found-same host j once)
