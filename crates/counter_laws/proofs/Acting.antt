-- What one act makes of the packets that the links hold, and of the counters, as its effect and its strike tell it.
use Rattle.std.proofs.Common.{◌≡◌, ◌<◌, ◌+◌, ℕ, Bool, true, false, cond, min, List, [], ◌∷◌, length, nat_eq, count_by, Option, Some, None, is_some, refl, sym, ap, ◌∙◌, subst, arith, if◌then◌else◌}
use Rattle.std.specs.Map.{lookup}
use Rattle.net_defs.specs.Route.{host_port}
use Rattle.world_defs.specs.Crossed.{leaving}
use Rattle.world_defs.proofs.ForLife.{leaving_has_its_end}
use Rattle.world_defs.specs.Links.{LinkState, packet_in, put}
use Rattle.world_defs.specs.Shape.{IsLinks}
use Rattle.world_defs.specs.LinkStep.{Step, Put as PutLinks, Advance as AdvanceLinks, Lose as LoseLinks, Reset as ResetLinks, Repeat as RepeatLinks, Hold as HoldLinks, Flip as FlipLinks, Replay as ReplayLinks, Pull as PullLinks, Plug as PlugLinks, Accept as AcceptLinks, stepped}
use Rattle.world_defs.proofs.Shapes.{stepped-links}
use Rattle.packet_defs.specs.Packet.{stripped}
use Rattle.world_defs.specs.declared.event.Event.{Event}
use Rattle.world_defs.specs.declared.event.Event.TheVariants.{Inject, Advance}
use Rattle.world_defs.specs.declared.effect.Effect.{Effect}
use Rattle.world_defs.specs.declared.effect.Effect.TheVariants.{Idle, Injected, Moved as MovedTo, Blocked, Arrived, Dropped, Lost, Reset as WasReset, Flipped, Expired, GaveUp, Repeated, Held as WasHeld, Replayed as ReplayedTo, Staged, Said as Says}
use Rattle.world_defs.specs.declared.effect.Cause.TheVariants.{NotMine}
use Rattle.world_defs.specs.declared.arrival.Arrival.{Arrival}
use Rattle.world_defs.specs.declared.fault.Fault.{Fault}
use Rattle.world_defs.specs.declared.fault.Fault.TheVariants.{Lose as LoseFault, Repeat as RepeatFault, Hold as HoldFault, Flip as FlipFault, Pull as PullFault}
use Rattle.world_defs.specs.Node.{NodeState, Outgoing, to_send, packet_for}
use Rattle.world_defs.specs.Hearing.{hear}
use Rattle.world_defs.specs.Client.{Called}
use Rattle.world_defs.specs.World.{WorldState, host_count, node_at, counted, last_count, with_node, with_links, with_drop, without_fault, keeps_epoch}
use Rattle.world_defs.specs.Step.{fault_on, is_harm, planned_strikes, sent_out, cause_at_switch, cause_at_host, of_call}
use Rattle.world_defs.proofs.Views.{LinksChange, HostChange, CallChange, ArrivalChange, Change, view}
use Rattle.world_defs.proofs.Strikes.{fault_step, Strike, strike_view}
use Rattle.world_defs.specs.Acts.{Act, Happens, Plans, Adopts, acted}
use Rattle.counter_laws.specs.Counts.{effect_of, possible_on, strike_at, strike_by, strike_of, taken_at, taken_by_fault, taken_on, taken_by, taken_of, injections, copies, arrivals, drops, losses, resets}
use Rattle.counter_laws.proofs.Present.{present, emptied-present, put-present, lose-present, repeat-present, hold-present, flip-present, replay-present, moved-present, pull-present, pull-nothing, plug-present}
use Rattle.world_defs.specs.declared.effect.Said.TheVariants.{Done}
use Rattle.world_defs.specs.Fault.{accept}

-- the packets that came into being, and those that ended
abbrev pub came : List Effect → List Fault → ℕ
came es fs = injections es + copies es fs

abbrev pub went : List Effect → List Fault → ℕ
went es fs = arrivals es + drops es + losses es fs + resets es

-- What effects and strikes tell of two worlds, and the number of packets that pulls took.
pub record Tells (w v : WorldState) (es : List Effect) (fs : List Fault) (taken : ℕ) : Type 0 where
  pub links : IsLinks w.links → IsLinks v.links
  pub balance : IsLinks w.links → present w.links + came es fs ≡ present v.links + (went es fs + taken)
  pub injected : v.injected ≡ w.injected + injections es
  pub dropped : (m : ℕ) → w.dropped ≡ min m last_count → v.dropped ≡ min (m + drops es) last_count
  pub struck : v.struck ≡ w.struck + length fs
  pub harmed : v.harmed ≡ w.harmed + count_by is_harm fs

-- What is left as it was of the counters.
record Rests (w v : WorldState) : Type 0 where
  injected : v.injected ≡ w.injected
  struck : v.struck ≡ w.struck
  harmed : v.harmed ≡ w.harmed

-- nothing was dropped, or one packet
none-dropped : (w v : WorldState) (es : List Effect) → drops es ≡ 0 → v.dropped ≡ w.dropped → (m : ℕ) → w.dropped ≡ min m last_count → v.dropped ≡ min (m + drops es) last_count
none-dropped w v es none same m e = let k : m ≡ m + drops es = omega (arith, none) in same ∙ e ∙ ap (λ x. min x last_count) k

stays-counted : (m last : ℕ) → min (min m last + 1) last ≡ min (m + 1) last
stays-counted m last = omega arith

one-dropped : (w v : WorldState) (es : List Effect) → drops es ≡ 1 → v.dropped ≡ counted w.dropped → (m : ℕ) → w.dropped ≡ min m last_count → v.dropped ≡ min (m + drops es) last_count
one-dropped w v es once more m e = let k : m + 1 ≡ m + drops es = omega (arith, once) in more ∙ ap counted e ∙ stays-counted m last_count ∙ ap (λ x. min x last_count) k

-- an act without a strike, by the numbers of packets that came and went
quiet-tells : (w v : WorldState) (es : List Effect) (a b taken : ℕ) → came es [] ≡ a → went es [] ≡ b → injections es ≡ 0 → (IsLinks w.links → IsLinks v.links) → (IsLinks w.links → present w.links + a ≡ present v.links + (b + taken))
    → ((m : ℕ) → w.dropped ≡ min m last_count → v.dropped ≡ min (m + drops es) last_count) → Rests w v → Tells w v es [] taken
quiet-tells w v es a b taken x y none links balance dropped rests = record {
  links = links;
  balance = λ is. ap (λ k. present w.links + k) x ∙ balance is ∙ ap (λ k. present v.links + (k + taken)) (sym y);
  injected = let same = rests.injected in omega (arith, none, same);
  dropped = dropped;
  struck = let same = rests.struck in omega (arith, same);
  harmed = let same = rests.harmed in omega (arith, same);
}

-- nothing happens to packets
still-tells : (w v : WorldState) (es : List Effect) → came es [] ≡ 0 → went es [] ≡ 0 → injections es ≡ 0 → drops es ≡ 0 → v.links ≡ w.links → v.dropped ≡ w.dropped → Rests w v → Tells w v es [] 0
still-tells w v es x y none whole same drop rests =
    quiet-tells w v es 0 0 0 x y none (λ is. subst IsLinks (sym same) is) (λ is. ap (λ l. present l + 0) (sym same)) (none-dropped w v es whole drop) rests

rests : (w v : WorldState) → v.injected ≡ w.injected → v.struck ≡ w.struck → v.harmed ≡ w.harmed → Rests w v
rests w v i s h = record { injected = i; struck = s; harmed = h }

-- the links alone
of_links-tells : (w : WorldState) (s : Step) (x : Effect) (a b taken : ℕ) → came (x ∷ []) [] ≡ a → went (x ∷ []) [] ≡ b → injections (x ∷ []) ≡ 0 → drops (x ∷ []) ≡ 0 → (IsLinks w.links → present w.links + a ≡ present (stepped w.links s) + (b + taken))
    → Tells w (with_links w (stepped w.links s)) (x ∷ []) [] taken
of_links-tells w s x a b taken d e none whole balance =
    let v : WorldState = with_links w (stepped w.links s) in
    quiet-tells w v (x ∷ []) a b taken d e none (stepped-links w.links s) balance (none-dropped w v (x ∷ []) whole refl) (rests w v refl refl refl)

links-tells : {w : WorldState} {e : Event} {x : Effect} {s : Step} → LinksChange w e x s → Tells w (with_links w (stepped w.links s)) (x ∷ []) (strike_by w x e) (taken_by w x e)
links-tells {w = w} (LinksChange.moves {c = c} packet next d e f g) =
    of_links-tells w (AdvanceLinks c) (MovedTo next) 0 0 0 refl refl refl refl
    (λ is. let h : present (stepped w.links (AdvanceLinks c)) ≡ present w.links = ap present g ∙ moved-present w.links c next packet (record packet { wire = stripped packet.wire }) is d e f in omega (arith, h))
links-tells {w = w} (LinksChange.loses {c = c} k) = of_links-tells w (LoseLinks c) Lost 0 1 0 refl refl refl refl (λ is. let h = lose-present w.links c k in omega (arith, h))
links-tells {w = w} (LinksChange.resets {c = c} k) = of_links-tells w (ResetLinks c) WasReset 0 1 0 refl refl refl refl (λ is. let h = lose-present w.links c k in omega (arith, h))
links-tells {w = w} (LinksChange.repeats {c = c} {serial = serial} k) = of_links-tells w (RepeatLinks c) (Repeated serial) 1 0 0 refl refl refl refl (λ is. let h = repeat-present w.links c (ap is_some k) in omega (arith, h))
links-tells {w = w} (LinksChange.holds {c = c} {serial = serial} k) = of_links-tells w (HoldLinks c) (WasHeld serial) 0 0 0 refl refl refl refl (λ is. let h = hold-present w.links c (ap is_some k) in omega (arith, h))
links-tells {w = w} (LinksChange.flips {c = c} {bit = bit} {pattern = pattern} k) = of_links-tells w (FlipLinks c bit pattern) Flipped 0 0 0 refl refl refl refl (λ is. let h = flip-present w.links c bit pattern k in omega (arith, h))
links-tells {w = w} (LinksChange.replays {serial = serial} {c = c} k) = of_links-tells w (ReplayLinks serial) (ReplayedTo c) 0 0 0 refl refl refl refl (λ is. let h = replay-present w.links serial c is k in omega (arith, h))
links-tells {w = w} (LinksChange.pulls {at = at} k) = of_links-tells w (PullLinks at) (Says Done) 0 0 (taken_at w.links at) refl refl refl refl (λ is. let h = pull-present w.links at k in omega (arith, h))
links-tells {w = w} (LinksChange.plugs {a = a} {b = b} k) = of_links-tells w (PlugLinks a b) (Says Done) 0 0 0 refl refl refl refl (λ is. let h = plug-present w.links a b k in omega (arith, h))

-- a packet that leaves its channel for a host, or for nowhere
module _ (w v : WorldState) (c : ℕ) (same : v.links ≡ stepped w.links (AdvanceLinks c)) (less : present v.links + 1 ≡ present w.links) (still : Rests w v) where
  gone-tells : (x : Effect) → came (x ∷ []) [] ≡ 0 → went (x ∷ []) [] ≡ 1 → injections (x ∷ []) ≡ 0 → ((m : ℕ) → w.dropped ≡ min m last_count → v.dropped ≡ min (m + drops (x ∷ [])) last_count) → Tells w v (x ∷ []) [] 0
  gone-tells x a b none dropped = quiet-tells w v (x ∷ []) 0 1 0 a b none (λ is. subst IsLinks (sym same) (stepped-links w.links (AdvanceLinks c) is)) (λ is. omega (arith, less)) dropped still

  arrives-tells : {h : ℕ} {a : Arrival} {x : Effect} {count : ℕ} → v.dropped ≡ count → ArrivalChange w h a x count → Tells w v (x ∷ []) (strike_by w x (Advance c)) (taken_by w x (Advance c))
  arrives-tells {h = h} d (ArrivalChange.heard {x = x}) = gone-tells (Arrived h x) refl refl refl (none-dropped w v (Arrived h x ∷ []) refl d)
  arrives-tells d (ArrivalChange.dropped {x = x}) = gone-tells (Dropped (cause_at_host x)) refl refl refl (one-dropped w v (Dropped (cause_at_host x) ∷ []) refl d)
  arrives-tells d ArrivalChange.not_mine = gone-tells (Dropped NotMine) refl refl refl (one-dropped w v (Dropped NotMine ∷ []) refl d)

-- a host by itself
host-still : (w : WorldState) (h : ℕ) (m : NodeState) (x : Effect) → came (x ∷ []) [] ≡ 0 → went (x ∷ []) [] ≡ 0 → injections (x ∷ []) ≡ 0 → drops (x ∷ []) ≡ 0 → Tells w (with_node w h m) (x ∷ []) [] 0
host-still w h m x a b c d = still-tells w (with_node w h m) (x ∷ []) a b c d refl refl (rests w (with_node w h m) refl refl refl)

host-tells : {w : WorldState} {e : Event} {x : Effect} {h : ℕ} {m : NodeState} → HostChange w e x h m → Tells w (with_node w h m) (x ∷ []) (strike_by w x e) (taken_by w x e)
host-tells {w = w} {h = h} {m = m} HostChange.asks = host-still w h m Staged refl refl refl refl
host-tells {w = w} {h = h} {m = m} (HostChange.stages a p by d e f) = host-still w h m Staged refl refl refl refl
host-tells {w = w} {h = h} {m = m} (HostChange.expires d) = host-still w h m Expired refl refl refl refl
host-tells {w = w} {h = h} {m = m} (HostChange.gives_up d) = host-still w h m GaveUp refl refl refl refl
host-tells {w = w} {h = h} {m = m} (HostChange.revokes a d) = host-still w h m (Says Done) refl refl refl refl

-- what a planned fault does to its packet
fault-balance : (s : LinkState) (c : ℕ) (f : Fault) (number : ℕ) → (fault_on s c f).0 ≡ true
    → present s + came (Injected number ∷ []) (f ∷ []) ≡ 1 + present (stepped s (fault_step c f)) + (went (Injected number ∷ []) (f ∷ []) + taken_by_fault s (Some f))
fault-balance s c LoseFault number k = let h = lose-present s c k in let m : present s + 1 ≡ 1 + present (stepped s (LoseLinks c)) + (1 + 0) = omega (arith, h) in m
fault-balance s c RepeatFault number k = let h = repeat-present s c k in let m : present s + 2 ≡ 1 + present (stepped s (RepeatLinks c)) + (0 + 0) = omega (arith, h) in m
fault-balance s c HoldFault number k = let h = hold-present s c k in let m : present s + 1 ≡ 1 + present (stepped s (HoldLinks c)) + (0 + 0) = omega (arith, h) in m
fault-balance s c (FlipFault bit pattern) number k = let h = flip-present s c bit pattern k in let m : present s + 1 ≡ 1 + present (stepped s (FlipLinks c bit pattern)) + (0 + 0) = omega (arith, h) in m
fault-balance s c (PullFault at) number k = let h = pull-present s at k in let m : present s + 1 ≡ 1 + present (stepped s (PullLinks at)) + (0 + taken_at s at) = omega (arith, h) in m

-- a fault that isn't possible takes nothing
missed-nothing : (s : LinkState) (c : ℕ) (f : Fault) → (fault_on s c f).0 ≡ false → taken_by_fault s (Some f) ≡ 0
missed-nothing s c LoseFault k = refl
missed-nothing s c RepeatFault k = refl
missed-nothing s c HoldFault k = refl
missed-nothing s c (FlipFault bit pattern) k = refl
missed-nothing s c (PullFault at) k = pull-nothing s at k

harm-once : (f : Fault) (n : ℕ) → (if is_harm f then n + 1 else n) ≡ n + count_by is_harm (f ∷ [])
harm-once f n = by (is_harm f)
  where
    by : (b : Bool) → (if b then n + 1 else n) ≡ n + (0 + cond b 1 0)
    by true = omega arith
    by false = omega arith

-- What an injection without its fault leaves.
record IsOut (w : WorldState) (c : ℕ) (wire : List ℕ) (u : WorldState) : Type 0 where
  links : u.links ≡ (put w.links c wire).1
  injected : u.injected ≡ w.injected + 1
  dropped : u.dropped ≡ w.dropped
  struck : u.struck ≡ w.struck
  harmed : u.harmed ≡ w.harmed
  plan : u.plan ≡ w.plan

is-out : (w : WorldState) (h c : ℕ) (out : Outgoing) → IsOut w c (packet_for h (w.injected + 1) out) (sent_out w h c out)
unfolding sent_out
is-out w h c out = record { links = refl; injected = refl; dropped = refl; struck = refl; harmed = refl; plan = refl }

-- the world that a strike leaves
abbrev struck_world : WorldState → ℕ → Fault → WorldState
struck_world u c f = record u { links = stepped u.links (fault_step c f); plan = without_fault u.injected u.plan; struck = u.struck + 1; harmed = if is_harm f then u.harmed + 1 else u.harmed }

-- a packet is injected, and a fault may strike it
module _ (w : WorldState) (h c : ℕ) (wire : List ℕ) (u : WorldState) (cable : leaving w.links.cables (host_port h) ≡ Some c) (room : packet_in w.links c ≡ None) (o : IsOut w c wire u) where
  entered-present : IsLinks w.links → present u.links ≡ present w.links + 1
  entered-present is =
      let low = (leaving_has_its_end w.links.cables (host_port h) c cable).there in
      let slots = is.slots in
      let inside : c < length w.links.channels = omega (arith, low, slots) in
      ap present o.links ∙ put-present w.links c wire inside room

  entered-links : IsLinks w.links → IsLinks u.links
  entered-links is = subst IsLinks (sym o.links) (stepped-links w.links (PutLinks c wire) is)

  abbrev effects : List Effect
  effects = Injected (w.injected + 1) ∷ []

  abbrev strike : List Fault
  strike = possible_on u.links c (lookup (nat_eq (w.injected + 1)) w.plan)

  strike-planned : (p : Option Fault) → lookup (nat_eq u.injected) u.plan ≡ p → strike ≡ possible_on u.links c p
  strike-planned p e =
      let same : lookup (nat_eq u.injected) u.plan ≡ lookup (nat_eq (w.injected + 1)) w.plan = ap (λ n. lookup (nat_eq n) u.plan) o.injected ∙ ap (λ fs. lookup (nat_eq (w.injected + 1)) fs) o.plan in
      ap (λ q. possible_on u.links c q) (sym same ∙ e)

  abbrev taken : ℕ
  taken = taken_by_fault u.links (lookup (nat_eq (w.injected + 1)) w.plan)

  taken-planned : (p : Option Fault) → lookup (nat_eq u.injected) u.plan ≡ p → taken ≡ taken_by_fault u.links p
  taken-planned p e =
      let same : lookup (nat_eq u.injected) u.plan ≡ lookup (nat_eq (w.injected + 1)) w.plan = ap (λ n. lookup (nat_eq n) u.plan) o.injected ∙ ap (λ fs. lookup (nat_eq (w.injected + 1)) fs) o.plan in
      ap (λ q. taken_by_fault u.links q) (sym same ∙ e)

  spared-tells : (v : WorldState) → strike ≡ [] → taken ≡ 0 → v.links ≡ u.links → v.injected ≡ u.injected → v.dropped ≡ u.dropped → v.struck ≡ u.struck → v.harmed ≡ u.harmed → Tells w v effects strike taken
  spared-tells v none kept l i d s m = subst (λ fs. Tells w v effects fs taken) (sym none) (subst (Tells w v effects []) (sym kept) (record {
    links = λ is. subst IsLinks (sym l) (entered-links is);
    balance = λ is. let k : present v.links ≡ present w.links + 1 = ap present l ∙ entered-present is in let n : present w.links + 1 ≡ present v.links + (0 + 0) = omega (arith, k) in n;
    injected = i ∙ o.injected;
    dropped = none-dropped w v effects refl (d ∙ o.dropped);
    struck = let e : v.struck ≡ w.struck = s ∙ o.struck in omega (arith, e);
    harmed = let e : v.harmed ≡ w.harmed = m ∙ o.harmed in omega (arith, e);
  }))

  strike-tells : (v : WorldState) → Strike u c v → Tells w v effects strike taken
  strike-tells v (Strike.spares e) = spared-tells u (strike-planned None e) (taken-planned None e) refl refl refl refl refl
  strike-tells v (Strike.misses f e k) =
      let none : strike ≡ [] = strike-planned (Some f) e ∙ ap (λ b. if b then f ∷ [] else []) k in
      spared-tells (record u { plan = without_fault u.injected u.plan }) none (taken-planned (Some f) e ∙ missed-nothing u.links c f k) refl refl refl refl refl
  strike-tells v (Strike.strikes f e k) =
      let t : WorldState = struck_world u c f in
      let once : strike ≡ f ∷ [] = strike-planned (Some f) e ∙ ap (λ b. if b then f ∷ [] else []) k in
      subst (λ fs. Tells w t effects fs taken) (sym once) (subst (Tells w t effects (f ∷ [])) (sym (taken-planned (Some f) e)) (record {
        links = λ is. stepped-links u.links (fault_step c f) (entered-links is);
        balance = λ is. let more = entered-present is in let m = fault-balance u.links c f (w.injected + 1) k in omega (arith, more, m);
        injected = o.injected;
        dropped = none-dropped w t effects refl o.dropped;
        struck = ap (λ n. n + 1) o.struck;
        harmed = harm-once f u.harmed ∙ ap (λ n. n + count_by is_harm (f ∷ [])) o.harmed;
      }))

injects-tells : (w : WorldState) (h c : ℕ) (out : Outgoing) → leaving w.links.cables (host_port h) ≡ Some c → to_send h (node_at w h) ≡ Some out → packet_in w.links c ≡ None
    → Tells w (planned_strikes (sent_out w h c out) c) (Injected (w.injected + 1) ∷ []) (strike_by w (Injected (w.injected + 1)) (Inject h)) (taken_by w (Injected (w.injected + 1)) (Inject h))
injects-tells w h c out cable item room =
    let u : WorldState = sent_out w h c out in
    let there : strike_by w (Injected (w.injected + 1)) (Inject h) ≡ possible_on u.links c (lookup (nat_eq (w.injected + 1)) w.plan) =
    ap (λ k. strike_at w h (w.injected + 1) k (to_send h (node_at w h))) cable ∙ ap (λ k. strike_at w h (w.injected + 1) (Some c) k) item in
    let fell : taken_by w (Injected (w.injected + 1)) (Inject h) ≡ taken_by_fault u.links (lookup (nat_eq (w.injected + 1)) w.plan) =
    ap (λ k. taken_on w h (w.injected + 1) k (to_send h (node_at w h))) cable ∙ ap (λ k. taken_on w h (w.injected + 1) (Some c) k) item in
    subst (λ fs. Tells w (planned_strikes u c) (Injected (w.injected + 1) ∷ []) fs (taken_by w (Injected (w.injected + 1)) (Inject h))) (sym there) (subst (Tells w (planned_strikes u c) (Injected (w.injected + 1) ∷ []) (possible_on u.links c (lookup (nat_eq (w.injected + 1)) w.plan))) (sym fell) (strike-tells w h c (packet_for h (w.injected + 1) out) u cable room (is-out w h c out) (planned_strikes u c) (strike_view u c)))

-- a call takes nothing
call-takes : {w : WorldState} {e : Event} {h port : ℕ} {call : Called} → CallChange w e h port call → taken_by w (Says call.said) e ≡ 0
call-takes CallChange.begins = refl
call-takes CallChange.closes = refl
call-takes CallChange.provides = refl
call-takes CallChange.accepts = refl
call-takes CallChange.polls = refl

-- each event
change-tells : {w : WorldState} {e : Event} {r : Effect × WorldState} → Change w e r → Tells w r.1 (r.0 ∷ []) (strike_by w r.0 e) (taken_by w r.0 e)
change-tells {w = w} Change.idle = still-tells w w (Idle ∷ []) refl refl refl refl refl refl (rests w w refl refl refl)
change-tells {w = w} (Change.blocked packet next d e) = still-tells w w (Blocked next ∷ []) refl refl refl refl refl refl (rests w w refl refl refl)
change-tells (Change.links k) = links-tells k
change-tells {w = w} (Change.drops {c = c} packet why d e f) =
    let v : WorldState = with_drop (with_links w (stepped w.links (AdvanceLinks c))) in
    let x : Effect = Dropped (cause_at_switch why) in
    gone-tells w v c refl (ap (λ l. present l + 1) f ∙ emptied-present w.links c packet d) (rests w v refl refl refl) x refl refl refl (one-dropped w v (x ∷ []) refl refl)
change-tells {w = w} (Change.arrives {c = c} {count = count} packet h d e f g) =
    let m : NodeState = (hear h (host_count w) (node_at w h) packet.wire).1 in
    let v : WorldState = record (with_node (with_links w (stepped w.links (AdvanceLinks c))) h m) { dropped = count } in
    arrives-tells w v c refl (ap (λ l. present l + 1) f ∙ emptied-present w.links c packet d) (rests w v refl refl refl) refl g
change-tells (Change.host k) = host-tells k
change-tells {w = w} (Change.injects {h = h} c out d e f g o) = injects-tells w h c out d e f
change-tells {w = w} (Change.calls {h = h} {port = port} {call = call} k) =
    let v : WorldState = (of_call w h port call).1 in
    subst (Tells w v (Says call.said ∷ []) []) (sym (call-takes k)) (still-tells w v (Says call.said ∷ []) refl refl refl refl refl refl (rests w v refl refl refl))

-- an adoption may accept the cables
accepted-links : (s : LinkState) (keeps : Bool) → IsLinks s → IsLinks (if keeps then s else accept s)
accepted-links s true is = is
accepted-links s false is = stepped-links s AcceptLinks is

accepted-present : (s : LinkState) (keeps : Bool) → present (if keeps then s else accept s) ≡ present s
accepted-present s true = refl
accepted-present s false = refl

pub acted-tells : (w : WorldState) (a : Act) → Tells w (acted w a) (effect_of w a) (strike_of w a) (taken_of w a)
acted-tells w (Happens e) = change-tells (view w e)
acted-tells w (Plans ahead fault) = still-tells w (acted w (Plans ahead fault)) [] refl refl refl refl refl refl (rests w (acted w (Plans ahead fault)) refl refl refl)
acted-tells w (Adopts mapper routes) =
    let v : WorldState = acted w (Adopts mapper routes) in
    let same : present v.links ≡ present w.links = accepted-present w.links (keeps_epoch w routes) in
    quiet-tells w v [] 0 0 0 refl refl refl (accepted-links w.links (keeps_epoch w routes)) (λ is. ap (λ k. k + 0) (sym same)) (none-dropped w v [] refl refl) (rests w v refl refl refl)
