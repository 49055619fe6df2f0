-- What a planned fault makes of a world, case by case, and what it leaves.
use Rattle.std.proofs.Common.{◌≡◌, ◌+◌, ℕ, Bool, true, false, set, nat_eq, Option, Some, None, refl, sym, subst, if◌then◌else◌}
use Rattle.std.specs.Map.{lookup}
use Rattle.world_defs.specs.Links.{LinkState}
use Rattle.world_defs.specs.LinkStep.{Step, Lose as LoseLinks, Repeat as RepeatLinks, Hold as HoldLinks, Flip as FlipLinks, Pull as PullLinks, stepped}
use Rattle.world_defs.specs.declared.fault.Fault.{Fault}
use Rattle.world_defs.specs.declared.fault.Fault.TheVariants.{Lose as LoseFault, Repeat as RepeatFault, Hold as HoldFault, Flip as FlipFault, Pull as PullFault}
use Rattle.world_defs.specs.Node.{Outgoing, after_sending}
use Rattle.world_defs.specs.World.{WorldState, node_at, without_fault}
use Rattle.world_defs.specs.Step.{fault_on, is_harm, struck_by, fault_strikes, planned_strikes, sent_out}

-- the step of the links that a fault is
abbrev pub fault_step : ℕ → Fault → Step
fault_step c LoseFault = LoseLinks c
fault_step c RepeatFault = RepeatLinks c
fault_step c HoldFault = HoldLinks c
fault_step c (FlipFault bit pattern) = FlipLinks c bit pattern
fault_step c (PullFault at) = PullLinks at

pub fault_on-step : (s : LinkState) (c : ℕ) (f : Fault) → (fault_on s c f).1 ≡ stepped s (fault_step c f)
fault_on-step s c LoseFault = refl
fault_on-step s c RepeatFault = refl
fault_on-step s c HoldFault = refl
fault_on-step s c (FlipFault bit pattern) = refl
fault_on-step s c (PullFault at) = refl

-- What the fault that was planned for the last injection makes of a world: there was none, it wasn't possible, or it struck.
pub data Strike (w : WorldState) (c : ℕ) : WorldState → Type 0 where
  spares : lookup (nat_eq w.injected) w.plan ≡ None → Strike w c w
  misses : (f : Fault) → lookup (nat_eq w.injected) w.plan ≡ Some f → (fault_on w.links c f).0 ≡ false → Strike w c (record w { plan = without_fault w.injected w.plan })
  strikes : (f : Fault) → lookup (nat_eq w.injected) w.plan ≡ Some f → (fault_on w.links c f).0 ≡ true
      → Strike w c (record w { links = stepped w.links (fault_step c f); plan = without_fault w.injected w.plan; struck = w.struck + 1; harmed = if is_harm f then w.harmed + 1 else w.harmed })

struck_by-strike : (w : WorldState) (c : ℕ) (f : Fault) (o : Bool × LinkState)
    → (o.0 ≡ true → Strike w c (record w { links = o.1; plan = without_fault w.injected w.plan; struck = w.struck + 1; harmed = if is_harm f then w.harmed + 1 else w.harmed }))
    → (o.0 ≡ false → Strike w c (record w { plan = without_fault w.injected w.plan })) → Strike w c (struck_by (record w { plan = without_fault w.injected w.plan }) f o)
struck_by-strike w c f (true, l) k m = k refl
struck_by-strike w c f (false, l) k m = m refl

fault-strike : (w : WorldState) (c : ℕ) (o : Option Fault) → lookup (nat_eq w.injected) w.plan ≡ o → Strike w c (fault_strikes w c o)
fault-strike w c None e = Strike.spares e
fault-strike w c (Some f) e =
    struck_by-strike w c f (fault_on w.links c f)
    (λ k. subst (λ l. Strike w c (record w { links = l; plan = without_fault w.injected w.plan; struck = w.struck + 1; harmed = if is_harm f then w.harmed + 1 else w.harmed })) (sym (fault_on-step w.links c f)) (Strike.strikes f e k))
    (λ k. Strike.misses f e k)

pub strike_view : (w : WorldState) (c : ℕ) → Strike w c (planned_strikes w c)
unfolding planned_strikes
strike_view w c = fault-strike w c (lookup (nat_eq w.injected) w.plan) refl

-- what no strike changes
pub strike-nodes : {w v : WorldState} {c : ℕ} → Strike w c v → v.nodes ≡ w.nodes
strike-nodes (Strike.spares e) = refl
strike-nodes (Strike.misses f e k) = refl
strike-nodes (Strike.strikes f e k) = refl

pub strike-clients : {w v : WorldState} {c : ℕ} → Strike w c v → v.clients ≡ w.clients
strike-clients (Strike.spares e) = refl
strike-clients (Strike.misses f e k) = refl
strike-clients (Strike.strikes f e k) = refl

pub strike-adopted : {w v : WorldState} {c : ℕ} → Strike w c v → v.adopted ≡ w.adopted
strike-adopted (Strike.spares e) = refl
strike-adopted (Strike.misses f e k) = refl
strike-adopted (Strike.strikes f e k) = refl

-- what an injection leaves, whatever strikes
pub injection-nodes : (w : WorldState) (h c : ℕ) (out : Outgoing) → (planned_strikes (sent_out w h c out) c).nodes ≡ set w.nodes h (after_sending (node_at w h) out)
unfolding sent_out
injection-nodes w h c out = strike-nodes (strike_view (sent_out w h c out) c)

pub injection-clients : (w : WorldState) (h c : ℕ) (out : Outgoing) → (planned_strikes (sent_out w h c out) c).clients ≡ w.clients
unfolding sent_out
injection-clients w h c out = strike-clients (strike_view (sent_out w h c out) c)

pub injection-adopted : (w : WorldState) (h c : ℕ) (out : Outgoing) → (planned_strikes (sent_out w h c out) c).adopted ≡ w.adopted
unfolding sent_out
injection-adopted w h c out = strike-adopted (strike_view (sent_out w h c out) c)
