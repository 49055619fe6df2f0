-- A journal that is also true of another fabric, where a switch lies as far from the mapper's host as the depth, is not closed.
use Rattle.std.proofs.Common.{◌≡◌, ◌<◌, ◌≤◌, ℕ, zero, suc, List, [], ◌∷◌, length, Bool, true, false, ◌&&◌, Option, Some, None, sym, ◌∙◌, subst, ap, refl, arith, nat_eq}
use Rattle.std.specs.Prelude.{ℤ}
use Rattle.std.specs.List.{AllByRecursion, list_all}
use Rattle.std.proofs.lemmas.Bool.{false≢true, and_parts}
use Rattle.std.proofs.lemmas.Bool.Decides.{Decides-eqb}
use Rattle.net_defs.specs.declared.vertex.Vertex.{Vertex}
use Rattle.net_defs.specs.declared.vertex.Vertex.TheVariants.{Host, Switch}
use Rattle.net_defs.specs.declared.vertex.End.{End}
use Rattle.net_defs.specs.declared.place.Answer.TheVariants.{Host as IsHost}
use Rattle.net_defs.specs.Network.{Network, IsFabric, far, has_vertex}
use Rattle.net_defs.specs.Route.{answer, answer_at, place_at, place_at_vertex, entered_after, turned, host_port}
use Rattle.journal_defs.specs.declared.entry.Entry.{Entry}
use Rattle.journal_defs.specs.Walks.{IsOnward, onward_turns}
use Rattle.journal_defs.specs.Tree.Node.{Reached}
use Rattle.journal_defs.specs.Growth.{IsGrowing, IsEndedByDepth, IsClosed, HasExpanded, crossed}
use Rattle.journal_defs.specs.Truth.{IsTrueJournal, standing}
use Rattle.journal_defs.specs.Part.{Path, distance}
use Rattle.journal_defs.proofs.Growing.{onward-pass}
use Rattle.journal_defs.proofs.Distance.{distance_is_shortest}
use Rattle.journal_defs.proofs.Members.{all-member, all-from-members}
use Rattle.journal_defs.proofs.Standing.{stand, same_end-of}
use Rattle.journal_defs.proofs.Counted.{stuck}
use Rattle.map_laws.proofs.Asks.{growing-tree}
use Rattle.map_laws.proofs.Phases.{member-begun}
use Rattle.map_laws.proofs.Truly.{true-where, node-switch}
use Rattle.map_laws.proofs.Full.{IsFull, IsOver, reach}
use Rattle.map_laws.proofs.Closing.{node-path}
use Rattle.map_laws.proofs.Few.{member-asked}
use Rattle.map_laws.proofs.Near.{onward-walk, few-turns, are-short}

-- two ends of two fabrics give one answer
abbrev same_kind : Vertex → Vertex → Bool
same_kind (Host g) (Host h) = nat_eq g h
same_kind (Switch s) (Switch t) = true
same_kind _ _ = false

-- all walks of at most so many turns get the same answers from both
abbrev pub agree : Network → Network → ℕ → Option End → Option End → Bool
agree n k m None None = true
agree n k zero (Some d) (Some e) = same_kind d.v e.v
agree n k (suc m) (Some d) (Some e) = same_kind d.v e.v && list_all (λ t. agree n k m (turned n (Some d) t) (turned k (Some e) t)) onward_turns
agree n k m _ _ = false

one-kind : (v w : Vertex) (p q : ℕ) → same_kind v w ≡ true → answer_at (place_at_vertex v p) ≡ answer_at (place_at_vertex w q)
one-kind (Host g) (Host h) p q e = ap IsHost ((Decides-eqb g h).0 e)
one-kind (Switch s) (Switch t) p q e = refl
one-kind (Host g) (Switch t) p q e = absurd (false≢true e)
one-kind (Switch s) (Host h) p q e = absurd (false≢true e)

agree-answers : (n k : Network) (m : ℕ) (a b : Option End) (w : List ℤ) → agree n k m a b ≡ true → AllByRecursion IsOnward w → length w ≤ m → answer_at (place_at (entered_after n a w)) ≡ answer_at (place_at (entered_after k b w))
agree-answers n k m None None w e on l = ap (λ o. answer_at (place_at o)) (stuck n w ∙ sym (stuck k w))
agree-answers n k zero None (Some e) w f on l = absurd (false≢true f)
agree-answers n k (suc m) None (Some e) w f on l = absurd (false≢true f)
agree-answers n k zero (Some d) None w f on l = absurd (false≢true f)
agree-answers n k (suc m) (Some d) None w f on l = absurd (false≢true f)
agree-answers n k zero (Some d) (Some e) [] f on l = one-kind d.v e.v d.p e.p f
agree-answers n k zero (Some d) (Some e) (t ∷ w) f on l = absurd (omega arith)
agree-answers n k (suc m) (Some d) (Some e) [] f on l = one-kind d.v e.v d.p e.p (and_parts (same_kind d.v e.v) (list_all (λ t. agree n k m (turned n (Some d) t) (turned k (Some e) t)) onward_turns) f).0
agree-answers n k (suc m) (Some d) (Some e) (t ∷ w) f on l =
    let two = and_parts (same_kind d.v e.v) (list_all (λ t. agree n k m (turned n (Some d) t) (turned k (Some e) t)) onward_turns) f in
    agree-answers n k m (turned n (Some d) t) (turned k (Some e) t) w (onward-pass (λ t. agree n k m (turned n (Some d) t) (turned k (Some e) t)) t two.1 on.0) on.1 (omega arith)

-- so a journal of one that grows to a depth is true of the other
cover-true : (n k : Network) (host m : ℕ) (j : List Entry) → IsTrueJournal n host j → IsGrowing host (suc m) j → agree n k m (far n (host_port host)) (far k (host_port host)) ≡ true → IsTrueJournal k host j
cover-true n k host m j all g e =
    let tree = growing-tree host (suc m) j g in
    all-from-members (λ (x : Entry). x.answer ≡ answer k host x.walk) j (λ x i. (
    let asked = member-asked j x i in
    all-member (λ (y : Entry). y.answer ≡ answer n host y.walk) x j all i
    ∙ agree-answers n k m (far n (host_port host)) (far k (host_port host)) x.walk e (onward-walk j (length x.walk) x.walk tree asked (omega arith)) (few-turns j x.walk (suc m) m tree (are-short host (suc m) j g) (omega arith) asked)))

-- and where a switch of the other lies as far as the depth, its class has no expanded member
pub cover-open : (n k : Network) (host m s : ℕ) (j : List Entry) → IsFabric k → has_vertex k (Host host) ≡ true → IsTrueJournal n host j → IsGrowing host (suc m) j → IsEndedByDepth host (suc m) j → agree n k m (far n (host_port host)) (far k (host_port host)) ≡ true → Path k (Host host) (suc m) (Switch s) → distance k (Host host) (Switch s) ≡ suc m → ¬ IsClosed host j
cover-open n k host m s j f h all g ended e path far_away closed = at_switch (reach k host (suc m) j (suc m) (suc m) (Switch s) full path (omega arith))
  where
    true_k : IsTrueJournal k host j
    true_k = cover-true n k host m j all g e

    full : IsFull k host (suc m) j (suc m)
    full = record { fabric = f; truth = true_k; growing = g; started = ended.started; expanded = ended.expanded }

    too_near : (w : List ℤ) (d : End) → standing k host (Reached w) ≡ Some d → d.v ≡ Switch s → crossed w < suc m → ⊥
    too_near w d is v l =
        let way : Path k (Host host) (crossed w) (Switch s) = subst (Path k (Host host) (crossed w)) v (node-path k host (Reached w) d is) in
        let short = (distance_is_shortest k (Host host) (Switch s) (crossed w) f h way).least (crossed w) way in
        absurd (omega arith)

    none : (w : List ℤ) (d : End) → standing k host (Reached w) ≡ Some d → d.v ≡ Switch s → HasExpanded host j (Reached w) → ⊥
    none w d is v x =
        let at = stand k host j (Reached w) (Reached x.member) x.offset f (true-where k host j true_k) x.one_class in
        let own : at.at_u ≡ d = same_end-of k host (Reached w) at.at_u d at.is_at_u is in
        too_near x.member at.at_v at.is_at_v (sym at.one_vertex ∙ ap (λ (y : End). y.v) own ∙ v) ((are-short host (suc m) j g).near x.member (member-begun host j w x))

    at_switch : IsOver k host j (Switch s) (suc m) → ⊥
    at_switch o =
        let w = node-switch k host j o.node o.at s true_k o.is_node o.stands o.there in
        none w.walk o.at (ap (standing k host) (sym w.is) ∙ o.stands) o.there (closed.expanded w.walk w.switch)
