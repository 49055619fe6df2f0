-- When an event of a cable or of an epoch is possible, and why a plug isn't.
use Rattle.std.proofs.Common.{◌≡◌, ◌<◌, ◌≤◌, ℕ, zero, suc, Bool, true, false, ◌&&◌, ◌||◌, not, nat_lt, List, [], ◌∷◌, ◌++◌, length, Option, Some, None, is_some, is_none, refl, sym, ap, ◌∙◌, subst, arith, true≢false, if◌then◌else◌}
use Rattle.std.specs.Prelude.{slice_get}
use Rattle.std.specs.Option.{option_map_or}
use Rattle.std.proofs.lemmas.Bool.Decides.{nat_tests}
use Rattle.net_defs.specs.declared.vertex.End.{End}
use Rattle.net_defs.specs.declared.vertex.Vertex.{Vertex}
use Rattle.net_defs.specs.declared.vertex.Vertex.TheVariants.{Host, Switch}
use Rattle.net_defs.specs.declared.fault.GraphFault.{GraphFault}
use Rattle.net_defs.specs.declared.fault.GraphFault.TheVariants.{NoVertex, PortRange, PortUsed as UsedPort}
use Rattle.net_defs.specs.Network.{Network, NamedSwitch, has_vertex, has_port, ports_of, same_end, far}
use Rattle.net_defs.specs.Building.{cable_refusal}
use Rattle.world_defs.specs.History.{may_plug, with_plugged, cable_limit}
use Rattle.world_defs.specs.Crossed.{leaving, life_channels}
use Rattle.world_defs.specs.Later.{OnlyPulled}
use Rattle.world_defs.specs.Fault.{pull_by}
use Rattle.world_defs.proofs.Idling.{pick}
use Rattle.world_defs.specs.declared.event.Event.TheVariants.{Pull, Plug, Revoke}
use Rattle.world_defs.specs.declared.effect.Effect.{Effect}
use Rattle.world_defs.specs.declared.effect.Effect.TheVariants.{Said}
use Rattle.world_defs.specs.declared.effect.Said.TheVariants.{Done}
use Rattle.world_defs.specs.Table.{Adoption}
use Rattle.world_defs.specs.World.{WorldState, fabric_of}
use Rattle.world_defs.specs.Step.{of_links, pulled, plugged, revoked, revoke_of, step}
use Rattle.world_defs.proofs.Kept.{step-pulled}
use Rattle.fab_remap.specs.declared.cables.PlugRefusal.TheVariants.{PortUsed, Full}
use Rattle.fab_remap.specs.Remap.{effect_of, is_done, plug_refusal, is_free}

pub done-of : (b : Bool) → is_done (effect_of b) ≡ b
done-of true = refl
done-of false = refl

-- ---- a pull
pull-by : (w : WorldState) (o : Option ℕ) → (of_links w (Said Done) (pull_by w.links o)).0 ≡ effect_of (is_some o)
pull-by w None = refl
pull-by w (Some c) = refl

pub pull-effect : (w : WorldState) (e : End) → (step w (Pull e)).0 ≡ effect_of (is_some (leaving w.links.cables e))
unfolding pulled
pull-effect w e = pull-by w (leaving w.links.cables e)

-- ---- a host that gives up its epoch
revoke-by : (w : WorldState) (h : ℕ) (o : Option Adoption) → (revoke_of w h o).0 ≡ effect_of (is_some o)
revoke-by w h None = refl
revoke-by w h (Some a) = refl

pub revoke-effect : (w : WorldState) (h : ℕ) → (step w (Revoke h)).0 ≡ effect_of (is_some w.adopted)
unfolding revoked
revoke-effect w h = revoke-by w h w.adopted

-- ---- a plug
-- it may be where it isn't refused
may-plug : (w : WorldState) (a b : End) → plug_refusal w a b ≡ None → may_plug w.links.cables a b ≡ true
may-plug w a b e = by (cable_refusal (fabric_of w) a b) (nat_lt (length w.links.cables.wires) cable_limit) e
  where
    by : (o : Option GraphFault) (t : Bool) → (if is_some o then Some PortUsed else if t then None else Some Full) ≡ None → (is_none o && t) ≡ true
    by None true e = refl
    by None false e = cc
    by (Some x) t e = cc

pub plug-effect : (w : WorldState) (a b : End) → plug_refusal w a b ≡ None → (step w (Plug a b)).0 ≡ Said Done
unfolding plugged
plug-effect w a b none =
    ap (λ t. (of_links w (Said Done) (pick t (true, record w.links { cables = with_plugged w.links.cables a b; channels = w.links.channels ++ None ∷ None ∷ [] }) (false, w.links))).0)
    (may-plug w a b none)

-- ---- a fabric takes a cable between two free ports, and no other
none-below : (p : ℕ) → nat_lt p 0 ≡ true → ⊥
none-below p low = grind (arith, nat_tests)

port-switch : (p : ℕ) (ws : List NamedSwitch) (s : ℕ) → nat_lt p (option_map_or (λ w. w.ports) (slice_get ws s) 0) ≡ true → nat_lt s (length ws) ≡ true
port-switch p [] s is = absurd (none-below p is)
port-switch p (w ∷ ws) zero is = grind (arith, nat_tests)
port-switch p (w ∷ ws) (suc s) is = let low = port-switch p ws s is in grind (arith, nat_tests)

port-vertex : (n : Network) (e : End) → has_port n e ≡ true → has_vertex n e.v ≡ true
port-vertex n e is = by e.v is
  where
    by : (v : Vertex) → nat_lt e.p (ports_of n v) ≡ true → has_vertex n v ≡ true
    by (Host h) is = host (nat_lt h (length n.hosts)) is
      where
        host : (b : Bool) → nat_lt e.p (if b then 1 else 0) ≡ true → b ≡ true
        host true k = refl
        host false k = absurd (none-below e.p k)
    by (Switch s) is = port-switch e.p n.switches s is

free-ends : (va vb pa pb : Bool) (fa fb : Option End) (s : Bool) → (pa ≡ true → va ≡ true) → (pb ≡ true → vb ≡ true)
    → (not (pa && is_none fa) || not (pb && is_none fb) || s)
    ≡ is_some (if not va then Some NoVertex else if not vb then Some NoVertex else if not pa then Some PortRange else if not pb then Some PortRange else if (is_some fa || is_some fb || s) then Some UsedPort else None)
free-ends false vb true pb fa fb s p q = absurd (true≢false (sym (p refl)))
free-ends false vb false pb fa fb s p q = refl
free-ends true false pa true fa fb s p q = absurd (true≢false (sym (q refl)))
free-ends true false true false None fb s p q = refl
free-ends true false true false (Some x) fb s p q = refl
free-ends true false false false fa fb s p q = refl
free-ends true true false pb fa fb s p q = refl
free-ends true true true false None fb s p q = refl
free-ends true true true false (Some x) fb s p q = refl
free-ends true true true true (Some x) fb s p q = refl
free-ends true true true true None (Some y) s p q = refl
free-ends true true true true None None true p q = refl
free-ends true true true true None None false p q = refl

refuses-cable : (n : Network) (a b : End) → (not (is_free n a) || not (is_free n b) || same_end a b) ≡ is_some (cable_refusal n a b)
refuses-cable n a b =
    free-ends (has_vertex n a.v) (has_vertex n b.v) (has_port n a) (has_port n b) (far n a) (far n b) (same_end a b) (port-vertex n a) (port-vertex n b)

-- so the refusal of a plug is found by free ports and the number of channels
module _ (w : WorldState) (a b : End) (n : Network) (r : Bool) (its : n ≡ fabric_of w) (told : r ≡ (not (is_free n a) || not (is_free n b) || same_end a b)) where
  abbrev used : Bool
  used = is_some (cable_refusal (fabric_of w) a b)

  same : r ≡ used
  same = told ∙ refuses-cable n a b ∙ ap (λ m. is_some (cable_refusal m a b)) its

  pub refused-used : r ≡ true → Some PortUsed ≡ plug_refusal w a b
  refused-used is = ap (λ (t : Bool). if t then Some PortUsed else if nat_lt (length w.links.cables.wires) cable_limit then None else Some Full) (sym is ∙ same)

  by-count : (u : Bool) → r ≡ false → u ≡ nat_lt (length w.links.cables.wires) cable_limit → (if u then None else Some Full) ≡ plug_refusal w a b
  by-count u is e =
      ap (λ (u : Bool). if u then None else Some Full) e
      ∙ ap (λ (t : Bool). if t then Some PortUsed else if nat_lt (length w.links.cables.wires) cable_limit then None else Some Full) (sym is ∙ same)

  pub refused-none : (k : ℕ) → r ≡ false → k ≡ life_channels w.links.cables → k < 8192 → None ≡ plug_refusal w a b
  refused-none k is e low = by-count true is (let few : length w.links.cables.wires < 4096 = omega (arith, e, low) in grind (arith, nat_tests))

  pub refused-full : (k : ℕ) → r ≡ false → k ≡ life_channels w.links.cables → 8192 ≤ k → Some Full ≡ plug_refusal w a b
  refused-full k is e high = by-count false is (let many : 4096 ≤ length w.links.cables.wires = omega (arith, e, high) in grind (arith, nat_tests))

-- ---- what the calls answer, by the event's effect
-- an effect that is possible or idle is told by whether it is possible
told-by : (x : Effect) (b : Bool) → x ≡ effect_of b → x ≡ effect_of (is_done x)
told-by x b e = e ∙ ap effect_of (sym (ap is_done e ∙ done-of b))

module _ (w v : WorldState) (at : End) (x : Effect) (is : step w (Pull at) ≡ (x, v)) where
  effect : x ≡ effect_of (is_some (leaving w.links.cables at))
  effect = ap (λ (p : Effect × WorldState). p.0) (sym is) ∙ pull-effect w at

  pub pull-done : is_done x ≡ is_some (leaving w.links.cables at)
  pull-done = ap is_done effect ∙ done-of (is_some (leaving w.links.cables at))

  pub pull-event : step w (Pull at) ≡ (effect_of (is_some (leaving w.links.cables at)), v)
  pull-event = is ∙ ap (λ (y : Effect). (y, v)) effect

  pub pull-cables : OnlyPulled w.links.cables v.links.cables
  pull-cables = subst (λ (p : Effect × WorldState). OnlyPulled w.links.cables p.1.links.cables) is (step-pulled w (Pull at) refl)

pub plug-event : (w v : WorldState) (a b : End) (x : Effect) → plug_refusal w a b ≡ None → step w (Plug a b) ≡ (x, v) → step w (Plug a b) ≡ (Said Done, v)
plug-event w v a b x none is = is ∙ ap (λ (y : Effect). (y, v)) (ap (λ (p : Effect × WorldState). p.0) (sym is) ∙ plug-effect w a b none)

pub revoke-event : (w v : WorldState) (h : ℕ) (x : Effect) (b : Bool) → step w (Revoke h) ≡ (x, v) → b ≡ is_done x → step w (Revoke h) ≡ (effect_of b, v)
revoke-event w v h x b is told =
    is ∙ ap (λ (y : Effect). (y, v)) (told-by x (is_some w.adopted) (ap (λ (p : Effect × WorldState). p.0) (sym is) ∙ revoke-effect w h) ∙ ap effect_of (sym told))
