-- Each call leads from a world that is reached to one that is.
use Rattle.std.proofs.Common.{◌≡◌, ◌≤◌, ℕ, true, Option, is_none, List, sym, ap, ◌∙◌, subst, arith}
use Rattle.std.specs.Prelude.{Result, Ok, Err, OnOk, OnErr, IfOk}
use Rattle.net_defs.specs.declared.route.Route.{Route}
use Rattle.net_defs.specs.Network.{Network}
use Rattle.world_defs.specs.History.{fabric_at}
use Rattle.world_defs.specs.declared.event.Event.{Event}
use Rattle.world_defs.specs.declared.event.Event.TheVariants.{Advance}
use Rattle.world_defs.specs.declared.effect.Effect.{Effect}
use Rattle.world_defs.specs.declared.effect.Effect.TheVariants.{Moved as MovedTo, Blocked as StaysFor}
use Rattle.world_defs.specs.declared.fault.Fault.{Fault}
use Rattle.world_defs.specs.World.{WorldState, fabric_of, with_links, planned, standing_of, may_adopt, adopted_by}
use Rattle.world_defs.specs.Step.{step}
use Rattle.world_defs.specs.EightBits.{IsByteFault, IsByteEvent}
use Rattle.world_defs.specs.Acts.{Act, Happens, Plans, Adopts, acted, MayAct, IsReached}
use Rattle.world_defs.proofs.Reaching.{reached-next}
use Rattle.world_defs.proofs.ActsKept.{acted-kept}
use Rattle.world_defs.specs.Links.{LinkState}
use Rattle.link_model.specs.Hop.{IsRun}
use Rattle.link_model.specs.declared.hop.Hop.{Hop}
use Rattle.link_model.specs.declared.hop.Hop.TheVariants.{Moved, Blocked, Untried}
use Rattle.port_graph.specs.Routes.{HandsBack}
use Rattle.adopted_routes.specs.Adopting.{IsAdoptable, adopt_refusal}
use Rattle.adopted_routes.specs.declared.routes.AdoptRefusal.{AdoptRefusal}
use Rattle.adopted_routes.proofs.Refusals.{refused_exactly}
use Rattle.fab_world.specs.Hop.{IsHopIn, IsRunIn}
use Rattle.fab_world.proofs.Hopping.{moved-in}

-- a world that is reached from the new one of the fabric that its cables made at first
abbrev pub IsReachedNow : WorldState → Type 0
IsReachedNow w = IsReached (fabric_at w.links.cables 0) w

-- an act after it
act-reached : (w : WorldState) (a : Act) → MayAct w a → IsReachedNow w → IsReachedNow (acted w a)
act-reached w a may is =
    let first : Network = fabric_at w.links.cables 0 in
    subst (λ n. IsReached n (acted w a)) (sym ((acted-kept w a).past 0 (omega arith))) (reached-next first w a is may)

event-reached : (w v : WorldState) (e : Event) (x : Effect) → IsByteEvent e → IsReachedNow w → step w e ≡ (x, v) → IsReachedNow v
event-reached w v e x low is now = subst IsReachedNow (ap (λ p. p.1) now) (act-reached w (Happens e) low is)

pub step-reached : {E : Type 0} (w v : WorldState) (e : Event) (r : Result Effect E) → IsByteEvent e → IsReachedNow w → IfOk r (λ x. step w e ≡ (x, v)) → OnErr r (v ≡ w) → IsReachedNow v
step-reached w v e (Ok x) low is ok err = event-reached w v e x low is ok
step-reached w v e (Err y) low is ok err = subst IsReachedNow (sym err) is

pub hop-reached : (w v : WorldState) (c : ℕ) (h : Hop) → IsReachedNow w → IsHopIn w c h v → IsReachedNow v
hop-reached w v c (Moved next) is now = event-reached w v (Advance c) (MovedTo next) tt is now
hop-reached w v c (Blocked next) is now = event-reached w v (Advance c) (StaysFor next) tt is now
hop-reached w v c Untried is now = subst IsReachedNow (sym now.0) is

along-reached : (w : WorldState) (c : ℕ) (links : LinkState) (hops at : ℕ) → IsReachedNow w → IsRun w.links c hops at links → IsReachedNow (with_links w links)
along-reached w c links hops at is IsRun.not_begun = is
along-reached w c links hops at is (IsRun.further {hops = n} {at = b} {next = d} {now = now} {after = after} before went) =
    event-reached (with_links w now) (with_links w after) (Advance b) (MovedTo d) tt (along-reached w c now n b is before) (moved-in w now after b d went)

pub run-reached : (w v : WorldState) (c hops at : ℕ) → IsReachedNow w → IsRunIn w c hops at v → IsReachedNow v
run-reached w v c hops at is (run, rest) = subst IsReachedNow (sym rest) (along-reached w c v.links hops at is run)

pub plan-reached : {E : Type 0} (w v : WorldState) (ahead : ℕ) (fault : Fault) (r : Result ℕ E) → 1 ≤ ahead → IsByteFault fault → IsReachedNow w → IfOk r (λ number. planned w ahead fault ≡ (number, v)) → OnErr r (v ≡ w) → IsReachedNow v
plan-reached w v ahead fault (Ok number) far low is ok err =
    subst IsReachedNow (ap (λ p. p.1) ok) (act-reached w (Plans ahead fault) (far, low) is)
plan-reached w v ahead fault (Err e) far low is ok err = subst IsReachedNow (sym err) is

pub adopt-reached : {A : Type 0} (w v : WorldState) (mapper : ℕ) (routes : List Route) (r : Result A (List Route × AdoptRefusal)) → IsReachedNow w → IsAdoptable (fabric_of w) mapper routes
    → HandsBack (adopt_refusal (standing_of w) routes w.adopted) AdoptRefusal.NoMemory routes r → OnOk r (v ≡ adopted_by w mapper routes) → OnErr r (v ≡ w) → IsReachedNow v
adopt-reached w v mapper routes (Ok a) is may refused ok err =
    let free : may_adopt w routes ≡ true = sym (refused_exactly (standing_of w) routes w.adopted) ∙ ap (λ (o : Option AdoptRefusal). is_none o) refused in
    subst IsReachedNow (sym ok) (act-reached w (Adopts mapper routes) (record { lead = may.lead; number = may.number; rises = may.rises }, free) is)
adopt-reached w v mapper routes (Err e) is may refused ok err = subst IsReachedNow (sym err) is
