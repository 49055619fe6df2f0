-- Ends, and the far end of a cable at them.
use Rattle.std.proofs.Common.{◌≡◌, ◌≢◌, List, [], ◌∷◌, ◌++◌, Bool, true, false, ◌&&◌, Some, None, sym, ◌∙◌, ap, true≢false, refl, if◌then◌else◌}
use Rattle.std.specs.List.{AllByRecursion}
use Rattle.std.proofs.lemmas.Bool.Decides.{Decides-eqb}
use Rattle.net_defs.specs.declared.vertex.Vertex.{Vertex}
use Rattle.net_defs.specs.declared.vertex.Vertex.TheVariants.{Host, Switch}
use Rattle.net_defs.specs.declared.vertex.End.{End}
use Rattle.net_defs.specs.declared.vertex.Cable.{Cable}
use Rattle.net_defs.specs.Network.{same_vertex, same_end, far_end, ends_of}
use Rattle.net_defs.specs.Building.{first_of_two}

pub same_vertex-true : (u v : Vertex) → same_vertex u v ≡ true → u ≡ v
same_vertex-true (Host g) (Host h) e = ap Host ((Decides-eqb g h).0 e)
same_vertex-true (Host g) (Switch t) e = absurd (true≢false (sym e))
same_vertex-true (Switch s) (Host h) e = absurd (true≢false (sym e))
same_vertex-true (Switch s) (Switch t) e = ap Switch ((Decides-eqb s t).0 e)

pub same_vertex-refl : (v : Vertex) → same_vertex v v ≡ true
same_vertex-refl (Host h) = (Decides-eqb h h).1 refl
same_vertex-refl (Switch s) = (Decides-eqb s s).1 refl

-- both of two tests
pub both : (a b : Bool) → (a && b) ≡ true → (a ≡ true) × (b ≡ true)
both true b e = (refl, e)
both false b e = absurd (true≢false (sym e))

pub same_end-true : (d e : End) → same_end d e ≡ true → d ≡ e
same_end-true d e t =
    let two = both (same_vertex d.v e.v) _ t in
    let v : d.v ≡ e.v = same_vertex-true d.v e.v two.0 in
    let p : d.p ≡ e.p = (Decides-eqb d.p e.p).0 two.1 in
    λ i. record { v = v i; p = p i }

pub same_end-refl : (e : End) → same_end e e ≡ true
same_end-refl e = rw (same_vertex-refl e.v) ((Decides-eqb e.p e.p).1 refl)

-- two ends that differ are told apart
pub same_end-false : (d e : End) → d ≢ e → same_end d e ≡ false
same_end-false d e differ = by (same_end d e) refl
  where
    by : (b : Bool) → same_end d e ≡ b → same_end d e ≡ false
    by true t = absurd (differ (same_end-true d e t))
    by false t = t

-- a cable more gives a far end where there was none
pub far_end-push : (cs : List Cable) (c : Cable) (e : End) → far_end (cs ++ c ∷ []) e ≡ first_of_two (far_end cs e) (far_end (c ∷ []) e)
far_end-push [] c e = refl
far_end-push (d ∷ ds) c e = by (same_end d.a e) (same_end d.b e) (far_end-push ds c e)
  where
    by : (s t : Bool) → far_end (ds ++ c ∷ []) e ≡ first_of_two (far_end ds e) (far_end (c ∷ []) e) → (if s then Some d.b else if t then Some d.a else far_end (ds ++ c ∷ []) e) ≡ first_of_two (if s then Some d.b else if t then Some d.a else far_end ds e) (far_end (c ∷ []) e)
    by true t rest = refl
    by false true rest = refl
    by false false rest = rest

-- an end without far end is none of the ends
pub far_end-unused : (cs : List Cable) (e : End) → far_end cs e ≡ None → AllByRecursion (λ d. e ≢ d) (ends_of cs)
far_end-unused [] e none = tt
far_end-unused (c ∷ cs) e none = by (same_end c.a e) (same_end c.b e) refl refl none (far_end-unused cs e)
  where
    by : (s t : Bool) → same_end c.a e ≡ s → same_end c.b e ≡ t → (if s then Some c.b else if t then Some c.a else far_end cs e) ≡ None → (far_end cs e ≡ None → AllByRecursion (λ d. e ≢ d) (ends_of cs)) → AllByRecursion (λ d. e ≢ d) (ends_of (c ∷ cs))
    by true t p q n rest = cc
    by false true p q n rest = cc
    by false false p q n rest = (
      (λ same. true≢false (sym (same_end-refl e) ∙ ap (λ d. same_end d e) same ∙ p)),
      ((λ same. true≢false (sym (same_end-refl e) ∙ ap (λ d. same_end d e) same ∙ q)), rest n),
    )

-- and one that is none of the ends has no far end
pub far_end-none : (cs : List Cable) (e : End) → AllByRecursion (λ d. e ≢ d) (ends_of cs) → far_end cs e ≡ None
far_end-none [] e new = refl
far_end-none (c ∷ cs) e new =
    rw (same_end-false c.a e (λ p. new.0 (sym p)), same_end-false c.b e (λ p. new.1.0 (sym p))) (far_end-none cs e new.1.1)
