-- When a cable can't be pulled or plugged, case by case.
use Rattle.std.proofs.Common.{◌≡◌, ◌≤◌, ◌<◌, ℕ, zero, suc, Bool, true, false, not, ◌&&◌, ◌||◌, List, [], ◌∷◌, ◌++◌, length, nat_lt, Option, Some, None, is_some, is_none, IsSome, refl, sym, ap, ◌∙◌, subst, arith, true≢false, if◌then◌else◌, inl, inr, ◌⊎◌, ⊎_elim}
use Rattle.std.specs.Prelude.{slice_get}
use Rattle.std.proofs.lemmas.Bool.Decides.{nat_tests}
use Rattle.net_defs.specs.declared.vertex.Vertex.{Vertex}
use Rattle.net_defs.specs.declared.vertex.Vertex.TheVariants.{Host, Switch}
use Rattle.net_defs.specs.declared.vertex.End.{End}
use Rattle.net_defs.specs.declared.fault.GraphFault.{GraphFault}
use Rattle.net_defs.specs.declared.fault.GraphFault.TheVariants.{PortRange, NoVertex, PortUsed}
use Rattle.net_defs.specs.Network.{Network, NamedSwitch, has_vertex, has_port, ports_of, same_end, far}
use Rattle.net_defs.specs.Building.{is_used, cable_refusal}
use Rattle.net_defs.proofs.Ends.{both, same_end-true, same_end-refl}
use Rattle.world_defs.specs.History.{fabric_now, is_in_place, may_plug, with_plugged, cable_limit}
use Rattle.world_defs.specs.Crossed.{leaving}
use Rattle.world_defs.proofs.Fewer.{none-far}
use Rattle.world_defs.proofs.There.{none-leaves}
use Rattle.world_defs.specs.Links.{LinkState}
use Rattle.world_defs.specs.Fault.{pull_by, pull, plug}
use Rattle.world_defs.specs.World.{WorldState, fabric_of}
use Rattle.world_laws.specs.Idle.{CannotPlug}

-- a pull
pulled_none : (s : LinkState) (o : Option ℕ) → (o ≡ None → (pull_by s o).0 ≡ false) × ((pull_by s o).0 ≡ false → o ≡ None)
pulled_none s None = ((λ e. refl), (λ e. refl))
pulled_none s (Some c) = ((λ e. cc), (λ e. absurd (true≢false e)))

pub pull-none : (w : WorldState) (at : End) → (far (fabric_of w) at ≡ None → (pull w.links at).0 ≡ false) × ((pull w.links at).0 ≡ false → far (fabric_of w) at ≡ None)
pull-none w at =
    let k = pulled_none w.links (leaving w.links.cables at) in
    ((λ none. k.0 (none-leaves w.links.cables at none)), (λ idle. none-far is_in_place 0 w.links.cables.wires at (k.1 idle)))

-- a port of a vertex that isn't there
past-none : (ss : List NamedSwitch) (s : ℕ) → nat_lt s (length ss) ≡ false → slice_get ss s ≡ None
past-none [] s e = refl
past-none (x ∷ ss) zero e = absurd (grind (arith, nat_tests))
past-none (x ∷ ss) (suc s) e = past-none ss s (let low : length ss ≤ s = grind (arith, nat_tests) in grind (arith, nat_tests))

no_ports : (n : Network) (v : Vertex) → has_vertex n v ≡ false → ports_of n v ≡ 0
no_ports n (Host h) e = rw e refl
no_ports n (Switch s) e = rw (past-none n.switches s e) refl

no_vertex-port : (n : Network) (e : End) → has_vertex n e.v ≡ false → has_port n e ≡ false
no_vertex-port n e is = ap (nat_lt e.p) (no_ports n e.v is) ∙ below_none e.p
  where
    below_none : (p : ℕ) → nat_lt p 0 ≡ false
    below_none p = grind (arith, nat_tests)

-- why a cable is refused, by its tests
abbrev refused_by : (va vb pa pb u : Bool) → Option GraphFault
refused_by va vb pa pb u =
    if not va then Some NoVertex else if not vb then Some NoVertex else if not pa then Some PortRange else if not pb then Some PortRange else if u then Some PortUsed else None

free : (va vb pa pb u : Bool) → is_none (refused_by va vb pa pb u) ≡ true → (pa ≡ true) × (pb ≡ true) × (u ≡ false)
free false vb pa pb u e = absurd (true≢false (sym e))
free true false pa pb u e = absurd (true≢false (sym e))
free true true false pb u e = absurd (true≢false (sym e))
free true true true false u e = absurd (true≢false (sym e))
free true true true true true e = absurd (true≢false (sym e))
free true true true true false e = (refl, refl, refl)

not-true : (b : Bool) → (b ≡ true → ⊥) → b ≡ false
not-true true never = absurd (never refl)
not-true false never = refl

none-some : {X : Type 0} (o : Option X) → is_some o ≡ false → IsSome o → ⊥
none-some o e s = true≢false (sym s ∙ e)

-- parts of three tests of which none holds
none-of : (a b c : Bool) → (a || b || c) ≡ false → (a ≡ false) × (b ≡ false) × (c ≡ false)
none-of true b c e = absurd (true≢false e)
none-of false true c e = absurd (true≢false e)
none-of false false c e = (refl, refl, e)

one-of : (a b c : Bool) → (a || b || c) ≡ true → (a ≡ true) ⊎ ((b ≡ true) ⊎ (c ≡ true))
one-of true b c e = inl refl
one-of false true c e = inr (inl refl)
one-of false false c e = inr (inr e)

module _ (w : WorldState) (a b : End) where
  plugged_if : (plug w.links a b).0 ≡ may_plug w.links.cables a b
  plugged_if = by (may_plug w.links.cables a b)
    where
      by : (t : Bool) → (if t then (let r : Bool × LinkState = (true, record w.links { cables = with_plugged w.links.cables a b; channels = w.links.channels ++ None ∷ None ∷ [] }) in r) else (false, w.links)).0 ≡ t
      by true = refl
      by false = refl

  blocks : CannotPlug w a b → may_plug w.links.cables a b ≡ true → ⊥
  blocks cannot may =
      let two = both (is_none (cable_refusal (fabric_of w) a b)) (nat_lt (length w.links.cables.wires) cable_limit) may in
      let f = free (has_vertex (fabric_of w) a.v) (has_vertex (fabric_of w) b.v) (has_port (fabric_of w) a) (has_port (fabric_of w) b) (is_used (fabric_of w) a b) two.0 in
      let u = none-of (is_some (far (fabric_of w) a)) (is_some (far (fabric_of w) b)) (same_end a b) f.2 in
      by cannot f.0 f.1 u.0 u.1 u.2 two.1
    where
      by : CannotPlug w a b → has_port (fabric_of w) a ≡ true → has_port (fabric_of w) b ≡ true → is_some (far (fabric_of w) a) ≡ false → is_some (far (fabric_of w) b) ≡ false → same_end a b ≡ false
          → nat_lt (length w.links.cables.wires) cable_limit ≡ true → ⊥
      by (CannotPlug.no_first e) pa pb ua ub s r = true≢false (sym pa ∙ e)
      by (CannotPlug.no_second e) pa pb ua ub s r = true≢false (sym pb ∙ e)
      by (CannotPlug.first_cabled e) pa pb ua ub s r = none-some (far (fabric_of w) a) ua e
      by (CannotPlug.second_cabled e) pa pb ua ub s r = none-some (far (fabric_of w) b) ub e
      by (CannotPlug.one_port e) pa pb ua ub s r = true≢false (sym (subst (λ x. same_end a x ≡ true) e (same_end-refl a)) ∙ s)
      by (CannotPlug.full e) pa pb ua ub s r = grind (arith, nat_tests)

  used-cannot : is_used (fabric_of w) a b ≡ true → CannotPlug w a b
  used-cannot e = by (one-of (is_some (far (fabric_of w) a)) (is_some (far (fabric_of w) b)) (same_end a b) e)
    where
      by : (is_some (far (fabric_of w) a) ≡ true) ⊎ ((is_some (far (fabric_of w) b) ≡ true) ⊎ (same_end a b ≡ true)) → CannotPlug w a b
      by (inl s) = CannotPlug.first_cabled s
      by (inr (inl s)) = CannotPlug.second_cabled s
      by (inr (inr s)) = CannotPlug.one_port (same_end-true a b s)

  cannot-by : (va vb pa pb u r : Bool) → has_vertex (fabric_of w) a.v ≡ va → has_vertex (fabric_of w) b.v ≡ vb → has_port (fabric_of w) a ≡ pa → has_port (fabric_of w) b ≡ pb → is_used (fabric_of w) a b ≡ u
      → nat_lt (length w.links.cables.wires) cable_limit ≡ r → (is_none (refused_by va vb pa pb u) && r) ≡ false → CannotPlug w a b
  cannot-by false vb pa pb u r p q s t k l e = CannotPlug.no_first (no_vertex-port (fabric_of w) a p)
  cannot-by true false pa pb u r p q s t k l e = CannotPlug.no_second (no_vertex-port (fabric_of w) b q)
  cannot-by true true false pb u r p q s t k l e = CannotPlug.no_first s
  cannot-by true true true false u r p q s t k l e = CannotPlug.no_second t
  cannot-by true true true true true r p q s t k l e = used-cannot k
  cannot-by true true true true false false p q s t k l e = CannotPlug.full (grind (arith, nat_tests))
  cannot-by true true true true false true p q s t k l e = absurd (true≢false e)

  pub plug-cannot : (CannotPlug w a b → (plug w.links a b).0 ≡ false) × ((plug w.links a b).0 ≡ false → CannotPlug w a b)
  plug-cannot = (
    (λ cannot. plugged_if ∙ not-true (may_plug w.links.cables a b) (blocks cannot)),
    (λ idle. cannot-by (has_vertex (fabric_of w) a.v) (has_vertex (fabric_of w) b.v) (has_port (fabric_of w) a) (has_port (fabric_of w) b) (is_used (fabric_of w) a b) (nat_lt (length w.links.cables.wires) cable_limit) refl refl refl refl refl refl (sym plugged_if ∙ idle)),
  )
