-- What a cable cuts off, by paths.
use Rattle.std.proofs.Common.{◌≡◌, ◌<◌, ℕ, List, [], ◌∷◌, ◌++◌, length, Bool, true, false, not, ◌&&◌, ◌||◌, Option, Some, None, is_some, refl, ap, sym, ◌∙◌, subst, nat_eq, if◌then◌else◌, ◌⊎◌, inl, inr}
use Rattle.std.specs.Prelude.{slice_get}
use Rattle.std.specs.List.{AllByRecursion, list_any}
use Rattle.std.proofs.lemmas.Bool.{false≢true, or_cases}
use Rattle.std.proofs.lemmas.Bool.Decides.{Decides-eqb}
use Rattle.std.proofs.lemmas.Option.{slice_get_within}
use Rattle.journal_defs.specs.Counting.{numbers_below}
use Rattle.journal_defs.specs.Edges.{is_among}
use Rattle.journal_defs.proofs.Reach.{among-self, within-steps}
use Rattle.map_defs.specs.declared.vertex.MapCable.{MapCable}
use Rattle.map_defs.specs.NetMap.{NetMap, IsMap, host_of_vertex, is_switch_vertex, map_edges}
use Rattle.map_defs.specs.Core.{without, side, is_hostless, hostless_side, cut_off, cut_off_by, is_switch_bridge, is_outside}
use Rattle.map_defs.proofs.Levels.{number-among}
use Rattle.core_map.specs.Laws.{IsJoinedWithout, IsCutOffBy, OutsideIsByPaths, BridgesAreByPaths}
use Rattle.core_map.proofs.Marking.{among-both, any-none, any-some, cable-low}
use Rattle.core_map.proofs.Sides.{cables-low, reached-within}
use Rattle.core_map.proofs.Spreading.{all-without}

-- some number among these passes
any-there : (test : ℕ → Bool) (vs : List ℕ) → list_any test vs ≡ true → (v : ℕ) × (is_among nat_eq vs v ≡ true) × (test v ≡ true)
any-there test [] e = absurd (false≢true e)
any-there test (v ∷ vs) e = by (test v) refl e (any-there test vs)
  where
    or-true : (b c : Bool) → c ≡ true → (b || c) ≡ true
    or-true true c p = refl
    or-true false c p = p

    by : (b : Bool) → test v ≡ b → (b || list_any test vs) ≡ true → (list_any test vs ≡ true → (w : ℕ) × (is_among nat_eq vs w ≡ true) × (test w ≡ true)) → (w : ℕ) × (is_among nat_eq (v ∷ vs) w ≡ true) × (test w ≡ true)
    by true p f rest = (v, among-self nat_eq Decides-eqb v vs, p)
    by false p f rest = let more = rest f in (more.0, or-true (nat_eq more.0 v) (is_among nat_eq vs more.0) more.1, more.2)

module _ (m : NetMap) (k : ℕ) (is_map : IsMap m) where
  abbrev Both : MapCable → Type 0
  Both c = (c.v < length m.vertices) × (c.w < length m.vertices)

  low : AllByRecursion Both m.cables
  low = cables-low (length m.vertices) m.cables is_map.cabled_vertices

  -- what paths lead to is on the side
  side-holds : (v u : ℕ) → v < length m.vertices → IsJoinedWithout m k v u → is_among nat_eq (side m k v) u ≡ true
  side-holds v u l j = reached-within (length m.vertices) (without m.cables k) v u j.cables (all-without Both m.cables k low) l j.path

  -- and nothing else is
  side-joined : (v u : ℕ) → is_among nat_eq (side m k v) u ≡ true → IsJoinedWithout m k v u
  side-joined v u e = let p = within-steps nat_eq Decides-eqb (map_edges (without m.cables k)) v u (length m.vertices) e in record { cables = p.count; path = p.path }

  abbrev IsLone : ℕ → Type 0
  IsLone v = (w h : ℕ) → IsJoinedWithout m k v w → host_of_vertex m w ≡ Some h → ⊥

  -- a side has no host exactly where paths lead to none
  lone-of : (v : ℕ) → v < length m.vertices → is_hostless m (side m k v) ≡ true → IsLone v
  lone-of v l e w h j there =
      let some : list_any (λ x. is_some (host_of_vertex m x)) (side m k v) ≡ true = any-some (λ x. is_some (host_of_vertex m x)) (side m k v) w (side-holds v w l j) (ap is_some there) in
      false≢true (ap not (sym some) ∙ e)

  lone-is : (v : ℕ) → IsLone v → is_hostless m (side m k v) ≡ true
  lone-is v lone = ap not (any-none (λ x. is_some (host_of_vertex m x)) (side m k v) (side m k v) (λ u e. e) (λ u e. none u (host_of_vertex m u) refl (side-joined v u e)))
    where
      none : (u : ℕ) (o : Option ℕ) → host_of_vertex m u ≡ o → IsJoinedWithout m k v u → is_some o ≡ false
      none u None p j = refl
      none u (Some h) p j = absurd (lone u h j p)

  -- the hostless side of an end
  hostless-parts : (v u : ℕ) → v < length m.vertices → is_among nat_eq (hostless_side m k v) u ≡ true → IsJoinedWithout m k v u × IsLone v
  hostless-parts v u l e = by (is_hostless m (side m k v)) refl e
    where
      by : (b : Bool) → is_hostless m (side m k v) ≡ b → is_among nat_eq (if b then side m k v else []) u ≡ true → IsJoinedWithout m k v u × IsLone v
      by true p f = (side-joined v u f, lone-of v l p)
      by false p f = absurd (false≢true f)

  hostless-holds : (v u : ℕ) → v < length m.vertices → IsJoinedWithout m k v u → IsLone v → is_among nat_eq (hostless_side m k v) u ≡ true
  hostless-holds v u l j lone = ap (λ b. is_among nat_eq (if b then side m k v else []) u) (lone-is v lone) ∙ side-holds v u l j

  -- what a cable cuts off
  cut-by_paths : (u : ℕ) → is_among nat_eq (cut_off_by m k) u ≡ true → IsCutOffBy m k u
  cut-by_paths u e = of (slice_get m.cables k) refl e
    where
      of : (o : Option MapCable) → slice_get m.cables k ≡ o → is_among nat_eq (cut_off m k o) u ≡ true → IsCutOffBy m k u
      of None p f = absurd (false≢true f)
      of (Some c) p f = by (is_switch_vertex m c.v) (is_switch_vertex m c.w) refl refl f
        where
          both : Both c
          both = cable-low (length m.vertices) m.cables k c low p

          by : (a b : Bool) → is_switch_vertex m c.v ≡ a → is_switch_vertex m c.w ≡ b
              → is_among nat_eq (if a && b then hostless_side m k c.v ++ hostless_side m k c.w else []) u ≡ true → IsCutOffBy m k u
          by false b s t g = absurd (false≢true g)
          by true false s t g = absurd (false≢true g)
          by true true s t g = two (or_cases (is_among nat_eq (hostless_side m k c.v) u) (is_among nat_eq (hostless_side m k c.w) u) (sym (among-both (hostless_side m k c.v) (hostless_side m k c.w) u) ∙ g))
            where
              at : (v : ℕ) → (v ≡ c.v) ⊎ (v ≡ c.w) → IsJoinedWithout m k v u × IsLone v → IsCutOffBy m k u
              at v one h = record { cable = c; there = p; first_switch = s; second_switch = t; end = v; one_end = one; joined = h.0; no_host = h.1 }

              two : (is_among nat_eq (hostless_side m k c.v) u ≡ true) ⊎ (is_among nat_eq (hostless_side m k c.w) u ≡ true) → IsCutOffBy m k u
              two (inl q) = at c.v (inl refl) (hostless-parts c.v u both.0 q)
              two (inr q) = at c.w (inr refl) (hostless-parts c.w u both.1 q)

  or-left-true : (b c : Bool) → b ≡ true → (b || c) ≡ true
  or-left-true true c p = refl
  or-left-true false c p = absurd (false≢true p)

  or-right-true : (b c : Bool) → c ≡ true → (b || c) ≡ true
  or-right-true true c p = refl
  or-right-true false c p = p

  cut-holds : (u : ℕ) → IsCutOffBy m k u → is_among nat_eq (cut_off_by m k) u ≡ true
  cut-holds u x =
      ap (λ o. is_among nat_eq (cut_off m k o) u) x.there
      ∙ (λ i. is_among nat_eq (if x.first_switch i && x.second_switch i then hostless_side m k x.cable.v ++ hostless_side m k x.cable.w else []) u)
      ∙ among-both (hostless_side m k x.cable.v) (hostless_side m k x.cable.w) u ∙ on x.one_end
    where
      both : Both x.cable
      both = cable-low (length m.vertices) m.cables k x.cable low x.there

      here : (v : ℕ) → x.end ≡ v → v < length m.vertices → is_among nat_eq (hostless_side m k v) u ≡ true
      here v e l = hostless-holds v u l (subst (λ w. IsJoinedWithout m k w u) e x.joined) (subst IsLone e x.no_host)

      on : (x.end ≡ x.cable.v) ⊎ (x.end ≡ x.cable.w) → (is_among nat_eq (hostless_side m k x.cable.v) u || is_among nat_eq (hostless_side m k x.cable.w) u) ≡ true
      on (inl e) = or-left-true (is_among nat_eq (hostless_side m k x.cable.v) u) (is_among nat_eq (hostless_side m k x.cable.w) u) (here x.cable.v e both.0)
      on (inr e) = or-right-true (is_among nat_eq (hostless_side m k x.cable.v) u) (is_among nat_eq (hostless_side m k x.cable.w) u) (here x.cable.w e both.1)

pub outside_is_by_paths : OutsideIsByPaths
outside_is_by_paths m u is_map = (there, back)
  where
    there : is_outside m u ≡ true → (k : ℕ) × IsCutOffBy m k u
    there e =
        let some = any-there (λ k. is_among nat_eq (cut_off_by m k) u) (numbers_below (length m.cables)) e in
        (some.0, cut-by_paths m some.0 is_map u some.2)

    back : (k : ℕ) × IsCutOffBy m k u → is_outside m u ≡ true
    back x =
        any-some (λ k. is_among nat_eq (cut_off_by m k) u) (numbers_below (length m.cables)) x.0
        (number-among (length m.cables) x.0 (slice_get_within m.cables x.0 x.1.cable x.1.there)) (cut-holds m x.0 is_map u x.1)

pub bridges_are_by_paths : BridgesAreByPaths
bridges_are_by_paths m k is_map = (there, back)
  where
    there : is_switch_bridge m k ≡ true → (u : ℕ) × IsCutOffBy m k u
    there e =
        let some = any-there (λ v. true) (cut_off_by m k) e in
        (some.0, cut-by_paths m k is_map some.0 some.1)

    back : (u : ℕ) × IsCutOffBy m k u → is_switch_bridge m k ≡ true
    back x = any-some (λ v. true) (cut_off_by m k) x.0 (cut-holds m k is_map x.0 x.1) refl
