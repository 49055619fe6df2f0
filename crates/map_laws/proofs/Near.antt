-- No node of more than Q + D cables is begun, so the number of walks bounds that of the nodes.
use Rattle.std.proofs.Common.{◌≡◌, ◌≢◌, ◌<◌, ◌≤◌, ℕ, zero, suc, List, [], ◌∷◌, ◌++◌, length, true, is_some, sym, ◌∙◌, subst, ap, refl, arith, ◌⊎◌, inl, inr}
use Rattle.std.specs.Prelude.{ℤ, negsuc}
use Rattle.std.specs.List.{AllByRecursion}
use Rattle.std.proofs.lemmas.Bool.{false≢true, cases_order}
use Rattle.net_defs.specs.declared.vertex.Vertex.TheVariants.{Host}
use Rattle.net_defs.specs.declared.place.Place.TheVariants.{Nothing}
use Rattle.net_defs.specs.Network.{Network, IsFabric, has_vertex}
use Rattle.net_defs.specs.Route.{place, answer, answer_at}
use Rattle.net_defs.proofs.Distinct.{all-push}
use Rattle.journal_defs.specs.declared.entry.Entry.{Entry}
use Rattle.journal_defs.specs.Walks.{IsOnward}
use Rattle.journal_defs.specs.Tree.{IsSwitchNode, is_asked, nodes, is_found}
use Rattle.journal_defs.specs.Growth.{IsGrowing, IsBegun, IsChosen, NextAsk, crossed, node_limit}
use Rattle.journal_defs.specs.Growth.IsGrowing.{nothing, more}
use Rattle.journal_defs.specs.Growth.NextAsk.{first, goes_on, begins}
use Rattle.journal_defs.specs.Truth.{IsTrueJournal}
use Rattle.journal_defs.specs.Part.{walk_count}
use Rattle.journal_defs.specs.WalkLaws.{IsCounted, most_turns}
use Rattle.journal_defs.proofs.Counted.{walks_are_few}
use Rattle.journal_defs.proofs.Members.{all-member, all-from-members}
use Rattle.journal_defs.proofs.Order.{below-shorter}
use Rattle.journal_defs.specs.Depth.{enough_depth}
use Rattle.map_laws.proofs.Keeping.{keeps-append, asked-last, asked-kept}
use Rattle.map_laws.proofs.Asks.{HasTree, growing-tree, growing-once, ByLast, by_last, push-length, switch-node, first-unbegun}
use Rattle.map_laws.proofs.Asks.ByLast.{empty, pushed}
use Rattle.map_laws.proofs.Phases.{begun-push}
use Rattle.map_laws.proofs.Full.{IsFull}
use Rattle.map_laws.proofs.Closing.{closing}
use Rattle.map_laws.proofs.OneJournal.{true-parts}
use Rattle.map_laws.proofs.Few.{found_walks, found-length, found-all, found-once, member-asked}

-- the empty walk is the first ask
started-push : (host depth : ℕ) (j : List Entry) (e : Entry) → (j ≡ []) ⊎ (is_asked j [] ≡ true) → NextAsk host depth j e.walk → is_asked (j ++ e ∷ []) [] ≡ true
started-push host depth j e (inr s) ask = asked-kept j (j ++ e ∷ []) (keeps-append j (e ∷ [])) [] s
started-push host depth j e (inl n) (first a b) = subst (λ w. is_asked (j ++ e ∷ []) w ≡ true) b (asked-last j e)
started-push host depth j e (inl n) (goes_on w t b l least is) = let p : is_asked [] (w ++ b.turn ∷ []) ≡ true = subst (λ i. is_asked i (w ++ b.turn ∷ []) ≡ true) n b.asked in absurd (false≢true p)
started-push host depth j e (inl n) (begins w rest c is) = let p : IsSwitchNode [] w = subst (λ i. IsSwitchNode i w) n c.switch in cc

pub starts : (host depth : ℕ) (j : List Entry) → IsGrowing host depth j → (j ≡ []) ⊎ (is_asked j [] ≡ true)
starts host depth j (nothing) = inl refl
starts host depth j (more before e g ask is) = inr (subst (λ i. is_asked i [] ≡ true) (sym is) (started-push host depth before e (starts host depth before g) ask))

pub switch-started : (host depth : ℕ) (j : List Entry) (w : List ℤ) → IsGrowing host depth j → IsSwitchNode j w → is_asked j [] ≡ true
switch-started host depth j w g s = by (starts host depth j g)
  where
    by : (j ≡ []) ⊎ (is_asked j [] ≡ true) → is_asked j [] ≡ true
    by (inl n) = let p : IsSwitchNode [] w = subst (λ i. IsSwitchNode i w) n s in cc
    by (inr p) = p

-- a node of more than Q + D cables is never chosen
chosen-near : (n : Network) (host depth : ℕ) (j : List Entry) (w : List ℤ) → IsFabric n → has_vertex n (Host host) ≡ true → IsTrueJournal n host j → IsGrowing host depth j → IsChosen host depth j w → crossed w < enough_depth n host
chosen-near n host depth j w f h all g c = by (cases_order (crossed w) (enough_depth n host))
  where
    far : enough_depth n host ≤ crossed w → crossed w < enough_depth n host
    far l =
        let full : IsFull n host depth j (enough_depth n host) = record {
          fabric = f;
          truth = all;
          growing = g;
          started = switch-started host depth j w g c.switch;
          expanded = λ v s m. c.lesser v s (below-shorter v w (omega arith));
        } in
        absurd (c.fresh ((closing n host depth j (enough_depth n host) full h (omega arith)).expanded w c.switch))

    by : (crossed w ≡ enough_depth n host) ⊎ ((crossed w < enough_depth n host) ⊎ (enough_depth n host < crossed w)) → crossed w < enough_depth n host
    by (inl l) = far (omega arith)
    by (inr (inl l)) = l
    by (inr (inr l)) = far (omega arith)

-- all nodes that are begun have fewer than so many cables
pub record AreNear (j : List Entry) (k : ℕ) : Type 0 where
  pub near : (w : List ℤ) → IsBegun j w → crossed w < k

near-push : (host depth k : ℕ) (j : List Entry) (e : Entry) → HasTree j → AreNear j k → ((w : List ℤ) → IsChosen host depth j w → crossed w < k) → NextAsk host depth j e.walk → AreNear (j ++ e ∷ []) k
near-push host depth k j e tree a chosen (first p q) = record { near = λ w b. absurd (first-unbegun j e w p q b) }
near-push host depth k j e tree a chosen (goes_on v t c l least is) = record { near = λ w b. by w (begun-push j e v w t tree is b) }
  where
    by : (w : List ℤ) → IsBegun j w ⊎ (w ≡ v) → crossed w < k
    by w (inl b) = a.near w b
    by w (inr p) = a.near w (subst (IsBegun j) (sym p) c)
near-push host depth k j e tree a chosen (begins v rest c is) = record { near = λ w b. by w (begun-push j e v w (negsuc 14) tree is b) }
  where
    by : (w : List ℤ) → IsBegun j w ⊎ (w ≡ v) → crossed w < k
    by w (inl b) = a.near w b
    by w (inr p) = subst (λ x. crossed x < k) (sym p) (chosen v c)

-- fewer than the depth, whatever the answers are
pub are-short : (host depth : ℕ) (j : List Entry) → IsGrowing host depth j → AreNear j depth
are-short host depth j (nothing) = record { near = λ w b. absurd (false≢true b.asked) }
are-short host depth j (more before e g ask is) = subst (λ i. AreNear i depth) (sym is) (near-push host depth depth before e (growing-tree host depth before g) (are-short host depth before g) (λ w c. c.near) ask)

-- and at most Q + D, where the answers are true
are-near : (n : Network) (host depth : ℕ) (j : List Entry) → IsFabric n → has_vertex n (Host host) ≡ true → IsTrueJournal n host j → IsGrowing host depth j → AreNear j (enough_depth n host)
are-near n host depth j f h all (nothing) = record { near = λ w b. absurd (false≢true b.asked) }
are-near n host depth j f h all (more before e g ask is) =
    let first_part = (true-parts n host before (e ∷ []) (subst (IsTrueJournal n host) is all)).0 in
    subst (λ i. AreNear i (enough_depth n host)) (sym is) (near-push host depth (enough_depth n host) before e (growing-tree host depth before g) (are-near n host depth before f h first_part g) (λ w c. chosen-near n host depth before w f h first_part g c) ask)

-- a walk that was asked has no turn 0
pub onward-walk : (j : List Entry) (m : ℕ) (w : List ℤ) → HasTree j → is_asked j w ≡ true → length w ≤ m → AllByRecursion IsOnward w
onward-walk j zero w tree asked l = by (by_last w)
  where
    by : ByLast w → AllByRecursion IsOnward w
    by (empty e) = subst (AllByRecursion IsOnward) (sym e) tt
    by (pushed v t e) = let long : length w ≡ suc (length v) = ap length e ∙ push-length v t in absurd (omega arith)
onward-walk j (suc m) w tree asked l = by (by_last w) (λ v. onward-walk j m v tree)
  where
    by : ByLast w → ((v : List ℤ) → is_asked j v ≡ true → length v ≤ m → AllByRecursion IsOnward v) → AllByRecursion IsOnward w
    by (empty e) rest = subst (AllByRecursion IsOnward) (sym e) tt
    by (pushed v t e) rest =
        let long : length w ≡ suc (length v) = ap length e ∙ push-length v t in
        let up = tree.parent v t (subst (λ x. is_asked j x ≡ true) e asked) in
        subst (AllByRecursion IsOnward) (sym e) (all-push IsOnward v t (rest v (ap is_some up.switch) (omega arith)) up.onward)

-- and at most one turn more than the longest that is begun
pub few-turns : (j : List Entry) (w : List ℤ) (k m : ℕ) → HasTree j → AreNear j k → k ≤ suc m → is_asked j w ≡ true → length w ≤ m
few-turns j w k m tree near l asked = by (by_last w)
  where
    by : ByLast w → length w ≤ m
    by (empty e) = let long : length w ≡ 0 = ap length e in omega arith
    by (pushed v t e) =
        let long : length w ≡ suc (length v) = ap length e ∙ push-length v t in
        let there = subst (λ x. is_asked j x ≡ true) e asked in
        let up = tree.parent v t there in
        let close = near.near v (record { node = switch-node j v up.switch; turn = t; onward = up.onward; asked = there }) in
        omega arith

not-stuck : (n : Network) (host : ℕ) (w : List ℤ) → is_found (answer n host w) ≡ true → place n host w ≢ Nothing
not-stuck n host w f e = false≢true (sym (ap (λ p. is_found (answer_at p)) e) ∙ f)

pub few-by-count : (n : Network) (host depth : ℕ) (j : List Entry) → IsFabric n → has_vertex n (Host host) ≡ true → IsTrueJournal n host j → IsGrowing host depth j → walk_count n host ≤ 65535 → length (nodes j) ≤ node_limit
few-by-count n host depth j f h all g count =
    let tree = growing-tree host depth j g in
    let near = are-near n host depth j f h all g in
    let each : AllByRecursion (λ (e : Entry). is_found e.answer ≡ true → IsCounted n host (most_turns n host) e.walk) j = all-from-members (λ (e : Entry). is_found e.answer ≡ true → IsCounted n host (most_turns n host) e.walk) j (λ e m p. record {
      onward = onward-walk j (length e.walk) e.walk tree (member-asked j e m) (omega arith);
      few = few-turns j e.walk (enough_depth n host) (most_turns n host) tree near (omega arith) (member-asked j e m);
      found = not-stuck n host e.walk (ap is_found (sym (all-member (λ (x : Entry). x.answer ≡ answer n host x.walk) e j all m)) ∙ p);
    }) in
    let few = walks_are_few n host (found_walks j) (found-once j (growing-once host depth j g)) (found-all (IsCounted n host (most_turns n host)) j each) in
    let same = found-length j in
    omega arith
