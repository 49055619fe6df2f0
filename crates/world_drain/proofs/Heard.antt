-- A probe that is heard in a drain is heard by a host that is there; and a drain keeps the fabric and the hosts.
use Rattle.std.proofs.Common.{◌≡◌, ◌<◌, ◌+◌, ℕ, List, [], ◌∷◌, ◌++◌, map, Option, Some, None, refl, sym, ◌∙◌, subst}
use Rattle.std.specs.Prelude.{IfSome, Result, Ok, Err, IfOk, OnOk, OnErr}
use Rattle.world_defs.specs.declared.heard.Heard.TheVariants.{Probe}
use Rattle.world_defs.specs.declared.event.Event.TheVariants.{Advance}
use Rattle.world_defs.specs.declared.effect.Effect.{Effect}
use Rattle.world_defs.specs.declared.effect.Effect.TheVariants.{Arrived}
use Rattle.world_defs.specs.Node.{either}
use Rattle.world_defs.specs.World.{WorldState, host_count}
use Rattle.world_defs.specs.Step.{step, steps}
use Rattle.world_defs.specs.Drain.{channels_of}
use Rattle.world_defs.proofs.LogViews.{pass}
use Rattle.world_defs.specs.Asking.{probed_host}
use Rattle.world_defs.specs.Hops.{total_hops}
use Rattle.world_laws.proofs.Repeating.{Chains, either as by-still, up_to-chain}
use Rattle.world_defs.specs.Log.{Log, still}
use Rattle.world_defs.specs.Logs as log
use Rattle.world_defs.specs.Row.{IsPartWay}
use Rattle.fab_world.specs.Held.{IsMoment, IsLater, IsOfHosts}
use Rattle.fab_world.proofs.Arriving.{effect-hosts}
use Rattle.fab_world.proofs.Moments.{step-moment, later-moment, later-hosts}
use Rattle.world_drain.specs.declared.seen.Watch.{Watch}
use Rattle.world_drain.specs.declared.seen.Seen.{Seen}
use Rattle.world_drain.specs.Watch.{seen_in}
use Rattle.world_drain.proofs.Later.{later-same, later-both, later-step, way-later}
use Rattle.world_drain.proofs.Running.{pass-later, drain-later}
use Rattle.world_drain.proofs.Watching.{probed-push, probed-append}

-- a host that is there, where one is named
abbrev IsThere : ℕ → Option ℕ → Type 0
IsThere n o = IfSome o (λ h. h < n)

one-there : (count : ℕ) (x : Effect) → IsOfHosts count x → IsThere count (probed_host (x ∷ []))
one-there count (Arrived h Probe) is = is
one-there count _ is = tt

both-there : (n : ℕ) (a b : Option ℕ) → IsThere n a → IsThere n b → IsThere n (either a b)
both-there n (Some h) b p q = p
both-there n None b p q = q

-- ---- advances in a row, a pass, and a drain
row-there : (n : ℕ) (w : WorldState) (cs : List ℕ) → IsMoment w → host_count w ≡ n → IsThere n (probed_host (steps w (map Advance cs)).0)
row-there n w [] m e = tt
row-there n w (c ∷ cs) m e =
    let x : Effect = (step w (Advance c)).0 in
    let v : WorldState = (step w (Advance c)).1 in
    let here : IsOfHosts n x = subst (λ k. IsOfHosts k x) e (effect-hosts w (Advance c) m tt) in
    let hosts : host_count v ≡ n = later-hosts w v m (later-step w v (Advance c) refl) ∙ e in
    subst (IsThere n) (sym (probed-push x (steps v (map Advance cs)).0))
    (both-there n (probed_host (x ∷ [])) (probed_host (steps v (map Advance cs)).0) (one-there n x here) (row-there n v cs (step-moment w (Advance c) m) hosts))

pass-there : (n : ℕ) (w : WorldState) → IsMoment w → host_count w ≡ n → IsThere n (probed_host (pass w).0)
pass-there n w m e = row-there n w (channels_of w) m e

-- what leads on, and names a host that is there
record Names (w : WorldState) (l : Log (List Effect)) : Type 0 where
  later : IsLater w l.world
  there : (n : ℕ) → IsMoment w → host_count w ≡ n → IsThere n (probed_host l.value)

names-chain : Chains (λ xs ys. xs ++ ys) [] Names
names-chain = record {
  same = λ w. record { later = later-same w; there = λ n m e. tt };
  both = λ w l r p q. record {
    later = later-both w l.world r.world p.later q.later;
    there = λ n m e. subst (IsThere n) (sym (probed-append l.value r.value)) (both-there n (probed_host l.value) (probed_host r.value) (p.there n m e) (q.there n (later-moment w l.world m p.later) (later-hosts w l.world m p.later ∙ e)));
  };
}

drain-names : (w : WorldState) → Names w (log.drain w)
unfolding log.drain
drain-names w =
    up_to-chain (λ xs ys. xs ++ ys) [] Names names-chain (λ before p. log.is_still p.value) log.drain_pass
    (λ v. by-still Names v (still [] v) (log.pass v) (log.is_still (log.pass v).value) (names-chain.same v) (record { later = pass-later v; there = λ n m e. pass-there n v m e })) (total_hops w.links + 1) w

pub drain-heard : {E : Type 0} (watch : Watch) (w : WorldState) (r : Result Seen E) → IsMoment w → IfOk r (λ s. s ≡ seen_in watch (log.drain w).value)
    → IfOk r (λ s. IfSome s.probed (λ h. h < host_count w))
drain-heard watch w (Ok s) m is = subst (λ (t : Seen). IfSome t.probed (λ h. h < host_count w)) (sym is) ((drain-names w).there (host_count w) m refl)
drain-heard watch w (Err e) m is = tt

-- ---- a drain that came to its end, or was cut off
pub drained-later : {A E : Type 0} (w v : WorldState) (r : Result A E) → OnOk r (v ≡ (log.drain w).world) → OnErr r (IsPartWay w (log.drain w).events v) → IsLater w v
drained-later w v (Ok a) after err = drain-later w v after
drained-later w v (Err e) after err = way-later w v err
