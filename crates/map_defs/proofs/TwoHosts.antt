-- The map of two hosts at one switch is the quotient of its whole journal.
use Rattle.std.proofs.Common.{◌≡◌, ◌≢◌, ◌<◌, ℕ, zero, suc, List, [], ◌∷◌, ◌++◌, Bool, true, false, not, ◌||◌, Option, Some, None, sym, ◌∙◌, subst, ap, refl, arith, rules, ◌⊎◌, inl, inr}
use Rattle.std.specs.Prelude.{ℤ, pos, ◌+ℤ◌, slice_get}
use Rattle.std.proofs.lemmas.Bool.{false≢true, or_cases}
use Rattle.std.proofs.lemmas.Int.{ints}
use Rattle.net_defs.specs.declared.vertex.End.{End}
use Rattle.net_defs.specs.declared.place.Answer.{Answer}
use Rattle.net_defs.specs.declared.place.Answer.TheVariants.{Nothing}
use Rattle.net_defs.specs.Route.{answer}
use Rattle.net_defs.proofs.Distinct.{all-weaker}
use Rattle.net_defs.specs.Examples.{two_hosts, host_end, switch_end}
use Rattle.journal_defs.specs.declared.entry.Entry.{Entry}
use Rattle.net_defs.specs.Turn.{same_turns}
use Rattle.journal_defs.specs.Tree.{Node, IsNode, Leads, answered, is_found, has_found, node_below}
use Rattle.journal_defs.specs.Tree.Node.{Mapper, Reached}
use Rattle.journal_defs.specs.Tree.Leads.{onward, back as go_back, out, home}
use Rattle.journal_defs.specs.Replicates.{Replicates}
use Rattle.journal_defs.specs.Replicates.Replicates.{same}
use Rattle.journal_defs.specs.Truth.{IsTrueWhereFound, standing}
use Rattle.journal_defs.specs.Examples.{two_hosts_journal}
use Rattle.net_defs.proofs.Turns.{same_turns-true}
use Rattle.journal_defs.proofs.Order.{below-irrefl}
use Rattle.journal_defs.proofs.Growing.{Holds, answered-holds}
use Rattle.net_defs.proofs.TwoHosts.{two_hosts_fabric}
use Rattle.journal_defs.proofs.Grown.{two_hosts_true}
use Rattle.journal_defs.proofs.Standing.{stand, own_offset_is_zero, replicates-nodes, leads-from, leads-to}
use Rattle.map_defs.specs.declared.vertex.MapCable.{MapCable}
use Rattle.map_defs.specs.NetMap.{MapPort, IsCabled, first_end, second_end}
use Rattle.map_defs.specs.NetMap.IsCabled.{forth, back}
use Rattle.map_defs.specs.Quotient.{IsQuotient, IsLeastNode, IsOfVertex, HasVertex, IsLed}
use Rattle.map_defs.specs.Examples.{two_hosts_map, cable, port}

abbrev j : List Entry
j = two_hosts_journal

abbrev at_b : Node
at_b = Reached (pos 3 ∷ [])

-- a node is one of three
abbrev IsOneOf : Node → Type 0
IsOneOf u = (u ≡ Mapper) ⊎ ((u ≡ Reached []) ⊎ (u ≡ at_b))

abbrev is_listed : Entry → Bool
is_listed e = not (is_found e.answer) || (same_turns e.walk [] || same_turns e.walk (pos 3 ∷ []))

one_of_three : (u : Node) → IsNode j u → IsOneOf u
one_of_three Mapper n = inl refl
one_of_three (Reached w) n = by (answered j w) refl n
  where
    walks : (v : List ℤ) → v ≡ w → (same_turns v [] ≡ true) ⊎ (same_turns v (pos 3 ∷ []) ≡ true) → IsOneOf (Reached w)
    walks v e (inl s) = inr (inl (ap Reached (sym e ∙ same_turns-true v [] s)))
    walks v e (inr s) = inr (inr (ap Reached (sym e ∙ same_turns-true v (pos 3 ∷ []) s)))

    found : (a : Answer) → Holds j w a is_listed → is_found a ≡ true → IsOneOf (Reached w)
    found a h f =
        let test : (not (is_found h.entry.answer) || (same_turns h.entry.walk [] || same_turns h.entry.walk (pos 3 ∷ []))) ≡ true = h.passes in
        let known : is_found h.entry.answer ≡ true = ap is_found h.answer ∙ f in
        let listed : (same_turns h.entry.walk [] || same_turns h.entry.walk (pos 3 ∷ [])) ≡ true = rw known at test in
        walks h.entry.walk h.walk (or_cases (same_turns h.entry.walk []) (same_turns h.entry.walk (pos 3 ∷ [])) listed)

    by : (o : Option Answer) → answered j w ≡ o → has_found o ≡ true → IsOneOf (Reached w)
    by None e f = absurd (false≢true f)
    by (Some a) e f = found a (answered-holds j w a is_listed refl e) f

two_hosts_found : IsTrueWhereFound two_hosts 0 j
two_hosts_found = all-weaker (λ e. e.answer ≡ answer two_hosts 0 e.walk) (λ e. e.answer ≢ Nothing → e.answer ≡ answer two_hosts 0 e.walk) j (λ e t n. t) two_hosts_true

-- nodes at different vertices are no replicates
apart : (u v : Node) (k : ℤ) (d e : End) → standing two_hosts 0 u ≡ Some d → standing two_hosts 0 v ≡ Some e → d.v ≢ e.v → ¬ Replicates 0 j u v k
apart u v k d e p q differ r =
    let s = stand two_hosts 0 j u v k two_hosts_fabric two_hosts_found r in
    let at_u : d ≡ s.at_u = (let two : Some d ≡ Some s.at_u = sym p ∙ s.is_at_u in cc) in
    let at_v : e ≡ s.at_v = (let two : Some e ≡ Some s.at_v = sym q ∙ s.is_at_v in cc) in
    differ (ap (λ (x : End). x.v) at_u ∙ s.one_vertex ∙ ap (λ (x : End). x.v) (sym at_v))

-- so a node is a replicate of itself alone
replicate_is_itself : (u v : Node) (k : ℤ) → Replicates 0 j u v k → u ≡ v
replicate_is_itself u v k r = by (one_of_three u (replicates-nodes 0 j u v k r).0) (one_of_three v (replicates-nodes 0 j u v k r).1)
  where
    never : (a b : Node) (d e : End) → standing two_hosts 0 a ≡ Some d → standing two_hosts 0 b ≡ Some e → d.v ≢ e.v → u ≡ a → v ≡ b → u ≡ v
    never a b d e p q differ f g = absurd (apart u v k d e (ap (standing two_hosts 0) f ∙ p) (ap (standing two_hosts 0) g ∙ q) differ r)

    by : IsOneOf u → IsOneOf v → u ≡ v
    by (inl e) (inl f) = e ∙ sym f
    by (inl e) (inr (inl f)) = never Mapper (Reached []) (host_end 0) (switch_end 0 2) refl refl (λ z. cc) e f
    by (inl e) (inr (inr f)) = never Mapper at_b (host_end 0) (host_end 1) refl refl (λ z. cc) e f
    by (inr (inl e)) (inl f) = never (Reached []) Mapper (switch_end 0 2) (host_end 0) refl refl (λ z. cc) e f
    by (inr (inl e)) (inr (inl f)) = e ∙ sym f
    by (inr (inl e)) (inr (inr f)) = never (Reached []) at_b (switch_end 0 2) (host_end 1) refl refl (λ z. cc) e f
    by (inr (inr e)) (inl f) = never at_b Mapper (host_end 1) (host_end 0) refl refl (λ z. cc) e f
    by (inr (inr e)) (inr (inl f)) = never at_b (Reached []) (host_end 1) (switch_end 0 2) refl refl (λ z. cc) e f
    by (inr (inr e)) (inr (inr f)) = e ∙ sym f

by_nothing : (u v : Node) (k : ℤ) → Replicates 0 j u v k → k ≡ pos 0
by_nothing u v k r = own_offset_is_zero two_hosts 0 j u k two_hosts_fabric two_hosts_found (subst (λ w. Replicates 0 j u w k) (sym (replicate_is_itself u v k r)) r)

abbrev nodes_least : List Node
nodes_least = Mapper ∷ Reached [] ∷ at_b ∷ []

pub itself_not_below : (u : Node) → node_below u u ≡ false
itself_not_below Mapper = refl
itself_not_below (Reached w) = below-irrefl w

least_of : (u : Node) → IsNode j u → IsLeastNode 0 j u
least_of u n = record { node = n; least = λ v k r. ap (λ w. node_below w u) (sym (replicate_is_itself u v k r)) ∙ itself_not_below u }

each_least : (v : ℕ) (u : Node) → slice_get nodes_least v ≡ Some u → IsLeastNode 0 j u
each_least zero u e = let one : Mapper ≡ u = cc in subst (IsLeastNode 0 j) one (least_of Mapper refl)
each_least (suc zero) u e = let one : Reached [] ≡ u = cc in subst (IsLeastNode 0 j) one (least_of (Reached []) refl)
each_least (suc (suc zero)) u e = let one : at_b ≡ u = cc in subst (IsLeastNode 0 j) one (least_of at_b refl)
each_least (suc (suc (suc v))) u e = cc

in_order : (v w : ℕ) (u x : Node) → v < w → slice_get nodes_least v ≡ Some u → slice_get nodes_least w ≡ Some x → node_below u x ≡ true
in_order v zero u x l e f = absurd (omega arith)
in_order zero (suc zero) u x l e f = let a : Mapper ≡ u = cc in let b : Reached [] ≡ x = cc in rw (← a, ← b) refl
in_order zero (suc (suc zero)) u x l e f = let a : Mapper ≡ u = cc in let b : at_b ≡ x = cc in rw (← a, ← b) refl
in_order (suc zero) (suc (suc zero)) u x l e f = let a : Reached [] ≡ u = cc in let b : at_b ≡ x = cc in rw (← a, ← b) refl
in_order (suc v) (suc zero) u x l e f = absurd (omega arith)
in_order (suc (suc v)) (suc (suc zero)) u x l e f = absurd (omega arith)
in_order v (suc (suc (suc w))) u x l e f = cc

own_vertex : (u : Node) (v : ℕ) → slice_get nodes_least v ≡ Some u → IsNode j u → IsOfVertex 0 j nodes_least u v (pos 0)
own_vertex u v e n = record { least_node = u; there = e; one_class = same n }

covered : (u : Node) → IsNode j u → HasVertex 0 j nodes_least u
covered u n = by (one_of_three u n)
  where
    by : IsOneOf u → HasVertex 0 j nodes_least u
    by (inl e) = record { vertex = 0; offset = pos 0; is_of = own_vertex u 0 (ap Some (sym e)) n }
    by (inr (inl e)) = record { vertex = 1; offset = pos 0; is_of = own_vertex u 1 (ap Some (sym e)) n }
    by (inr (inr e)) = record { vertex = 2; offset = pos 0; is_of = own_vertex u 2 (ap Some (sym e)) n }

-- each cable is what a lead says
led : (u x : Node) (p i : ℤ) (v w : ℕ) → Leads j u p x i → slice_get nodes_least v ≡ Some u → slice_get nodes_least w ≡ Some x → IsLed 0 j nodes_least (port v (p +ℤ pos 0)) (port w (i +ℤ pos 0))
led u x p i v w l e f = record {
  from = u;
  to = x;
  p = p;
  i = i;
  offset_from = pos 0;
  offset_to = pos 0;
  leads = l;
  is_from = own_vertex u v e (leads-from j u x p i l);
  is_to = own_vertex x w f (leads-to j u x p i l);
  leaves = refl;
  enters = refl;
}

first_led : (c : MapCable) → cable 0 (pos 0) 1 (pos 0) ≡ c → IsLed 0 j nodes_least (first_end c) (second_end c) × IsLed 0 j nodes_least (second_end c) (first_end c)
first_led c e = subst (λ c. IsLed 0 j nodes_least (first_end c) (second_end c) × IsLed 0 j nodes_least (second_end c) (first_end c)) e (led Mapper (Reached []) (pos 0) (pos 0) 0 1 (out refl) refl refl, led (Reached []) Mapper (pos 0) (pos 0) 1 0 (home refl) refl refl)

second_led : (c : MapCable) → cable 1 (pos 3) 2 (pos 0) ≡ c → IsLed 0 j nodes_least (first_end c) (second_end c) × IsLed 0 j nodes_least (second_end c) (first_end c)
second_led c e = subst (λ c. IsLed 0 j nodes_least (first_end c) (second_end c) × IsLed 0 j nodes_least (second_end c) (first_end c)) e (led (Reached []) at_b (pos 3) (pos 0) 1 2 (onward refl refl refl) refl refl, led at_b (Reached []) (pos 0) (pos 3) 2 1 (go_back refl refl refl) refl refl)

cabled-led : (d e : MapPort) → IsCabled two_hosts_map d e → IsLed 0 j nodes_least d e
cabled-led d e (forth zero {c = c} p) = (first_led c (let one : cable 0 (pos 0) 1 (pos 0) ≡ c = cc in one)).0
cabled-led d e (forth (suc zero) {c = c} p) = (second_led c (let one : cable 1 (pos 3) 2 (pos 0) ≡ c = cc in one)).0
cabled-led d e (forth (suc (suc k)) {c = c} p) = cc
cabled-led d e (back zero {c = c} p) = (first_led c (let one : cable 0 (pos 0) 1 (pos 0) ≡ c = cc in one)).1
cabled-led d e (back (suc zero) {c = c} p) = (second_led c (let one : cable 1 (pos 3) 2 (pos 0) ≡ c = cc in one)).1
cabled-led d e (back (suc (suc k)) {c = c} p) = cc

-- the place of a least node
at_place : (u : Node) (v : ℕ) → slice_get nodes_least v ≡ Some u → (u ≡ Mapper → v ≡ 0) × (u ≡ Reached [] → v ≡ 1) × (u ≡ at_b → v ≡ 2)
at_place u zero e = let one : Mapper ≡ u = cc in ((λ f. refl), (λ f. cc), (λ f. cc))
at_place u (suc zero) e = let one : Reached [] ≡ u = cc in ((λ f. cc), (λ f. refl), (λ f. cc))
at_place u (suc (suc zero)) e = let one : at_b ≡ u = cc in ((λ f. cc), (λ f. cc), (λ f. refl))
at_place u (suc (suc (suc v))) e = cc

-- what the leads say of two places and ports
abbrev IsJoined : ℕ → ℤ → ℕ → ℤ → Type 0
IsJoined v p w i = IsCabled two_hosts_map (port v p) (port w i)

joined-moved : (v w x y : ℕ) (p i q k : ℤ) → v ≡ x → p ≡ q → w ≡ y → i ≡ k → IsJoined x q y k → IsJoined v p w i
joined-moved v w x y p i q k a b c d h = subst (λ z. IsJoined v p w z) (sym d) (subst (λ z. IsJoined v p z k) (sym c) (subst (λ z. IsJoined v z y k) (sym b) (subst (λ z. IsJoined z q y k) (sym a) h)))

one_turn : (w x : List ℤ) (p : ℤ) → x ≡ w ++ p ∷ [] → IsOneOf (Reached w) → IsOneOf (Reached x) → (w ≡ []) × (x ≡ pos 3 ∷ []) × (p ≡ pos 3)
one_turn w x p e (inl a) b = cc
one_turn w x p e (inr a) (inl b) = cc
one_turn w x p e (inr (inl a)) (inr (inl b)) = let none : w ≡ [] = cc in let empty : x ≡ [] = cc in let z : [] ≡ p ∷ [] = sym empty ∙ e ∙ ap (λ l. l ++ p ∷ []) none in cc
one_turn w x p e (inr (inl a)) (inr (inr b)) = let none : w ≡ [] = cc in let last : x ≡ pos 3 ∷ [] = cc in let z : pos 3 ∷ [] ≡ p ∷ [] = sym last ∙ e ∙ ap (λ l. l ++ p ∷ []) none in (none, last, (let three : p ≡ pos 3 = cc in three))
one_turn w x p e (inr (inr a)) (inr (inl b)) = let three : w ≡ pos 3 ∷ [] = cc in let empty : x ≡ [] = cc in let z : [] ≡ pos 3 ∷ p ∷ [] = sym empty ∙ e ∙ ap (λ l. l ++ p ∷ []) three in cc
one_turn w x p e (inr (inr a)) (inr (inr b)) = let three : w ≡ pos 3 ∷ [] = cc in let last : x ≡ pos 3 ∷ [] = cc in let z : pos 3 ∷ [] ≡ pos 3 ∷ p ∷ [] = sym last ∙ e ∙ ap (λ l. l ++ p ∷ []) three in cc

leads-joined : (u x : Node) (p i : ℤ) (v w : ℕ) → Leads j u p x i → slice_get nodes_least v ≡ Some u → slice_get nodes_least w ≡ Some x → IsJoined v p w i
leads-joined u x p i v w (onward {w = a} {x = b} {p = q} m n e) f g =
    let one = one_turn a b q e (one_of_three (Reached a) m) (one_of_three (Reached b) n) in
    joined-moved v w 1 2 q (pos 0) (pos 3) (pos 0) ((at_place (Reached a) v f).1 (ap Reached one.0)) one.2 ((at_place (Reached b) w g).2 (ap Reached one.1)) refl (forth 1 refl)
leads-joined u x p i v w (go_back {w = a} {x = b} {p = q} m n e) f g =
    let one = one_turn a b q e (one_of_three (Reached a) m) (one_of_three (Reached b) n) in
    joined-moved v w 2 1 (pos 0) q (pos 0) (pos 3) ((at_place (Reached b) v f).2 (ap Reached one.1)) refl ((at_place (Reached a) w g).1 (ap Reached one.0)) one.2 (back 1 refl)
leads-joined u x p i v w (out m) f g = joined-moved v w 0 1 (pos 0) (pos 0) (pos 0) (pos 0) ((at_place Mapper v f).0 refl) refl ((at_place (Reached []) w g).1 refl) refl (forth 0 refl)
leads-joined u x p i v w (home m) f g = joined-moved v w 1 0 (pos 0) (pos 0) (pos 0) (pos 0) ((at_place (Reached []) v f).1 refl) refl ((at_place Mapper w g).0 refl) refl (back 0 refl)

same_sum : (a b p k : ℤ) → a ≡ p +ℤ k → k ≡ pos 0 → a ≡ p
same_sum a b p k e f = omega (arith, ints)

led-cabled : (d e : MapPort) → IsLed 0 j nodes_least d e → IsCabled two_hosts_map d e
led-cabled d e l =
    let from : l.from ≡ l.is_from.least_node = replicate_is_itself l.from l.is_from.least_node l.offset_from l.is_from.one_class in
    let to : l.to ≡ l.is_to.least_node = replicate_is_itself l.to l.is_to.least_node l.offset_to l.is_to.one_class in
    let joined = leads-joined l.from l.to l.p l.i d.v e.v l.leads (l.is_from.there ∙ ap Some (sym from)) (l.is_to.there ∙ ap Some (sym to)) in
    joined-moved d.v e.v d.v e.v d.p e.p l.p l.i refl (same_sum d.p e.p l.p l.offset_from l.leaves (by_nothing l.from l.is_from.least_node l.offset_from l.is_from.one_class)) refl (same_sum e.p d.p l.i l.offset_to l.enters (by_nothing l.to l.is_to.least_node l.offset_to l.is_to.one_class)) joined

pub two_hosts_quotient : IsQuotient 0 j two_hosts_map
two_hosts_quotient = record {
  least = nodes_least;
  each_least = each_least;
  in_order = in_order;
  covered = covered;
  vertices = refl;
  cabled = λ d e. (cabled-led d e, led-cabled d e);
  cables_in_order = search rules;
  unmarked = refl;
}
