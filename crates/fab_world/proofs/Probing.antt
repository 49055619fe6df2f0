-- A probe that is carried to its end at once is an ask, an injection, and the advances of its packet.
use Rattle.std.proofs.Common.{◌≡◌, ◌<◌, ◌+◌, ℕ, ℤ, Bool, true, false, not, ◌&&◌, ◌||◌, nat_eq, nat_le, List, length, Option, Some, None, is_some, refl, sym, ap, subst, ◌∙◌, arith, if◌then◌else◌}
use Rattle.std.specs.Prelude.{Result, Ok, Err, IfOk, slice_set}
use Rattle.std.specs.Map.{lookup}
use Rattle.std.proofs.lemmas.Bool.Decides.{nat_tests}
use Rattle.std.proofs.lemmas.List.{set-set, set-get_or, get_or-set_same}
use Rattle.net_defs.specs.Route.{host_port}
use Rattle.world_defs.specs.Crossed.{leaving, is_new}
use Rattle.world_defs.specs.declared.moved.Why.{Why}
use Rattle.world_defs.specs.declared.effect.Effect.{Effect}
use Rattle.world_defs.specs.declared.effect.Effect.TheVariants.{Injected, Dropped as IsDropped}
use Rattle.world_defs.specs.declared.arrival.Arrival.{Arrival}
use Rattle.world_defs.specs.declared.arrival.Arrival.TheVariants.{Heard as Hears, Dropped, NotMine}
use Rattle.world_defs.specs.History.{IsHistory}
use Rattle.world_defs.specs.Links.{LinkState, packet_in, is_idle, put}
use Rattle.world_defs.specs.Advance.{advance}
use Rattle.world_defs.specs.Node.{NodeState, Outgoing, StagedProbe, Probe, new_node, has_staged, to_send, probe_packet, packet_for, after_sending}
use Rattle.world_defs.specs.Hearing.{hear}
use Rattle.world_defs.specs.World.{WorldState, fabric_of, host_count, last_count, node_at, with_node, with_drop}
use Rattle.world_defs.specs.Step.{asked, injected, inject_into, inject_one, fault_strikes, planned_strikes, arrived, advanced, advanced_by, cause_at_switch}
use Rattle.link_model.specs.Carried.{IsCarried, ended}
use Rattle.link_model.proofs.Carrying.{none-in}
use Rattle.faulty_links.specs.Held.{LinksAndPlan, of_world, with_part, can_inject, is_clear, put_under_next, CountsDrop, one_injected as part_injected}
use Rattle.faulty_links.proofs.Arrivals.{course-host}
use Rattle.faulty_links.proofs.Parts.{injection_is_put}
use Rattle.faulty_links.proofs.Clear.{IsClear, clear-parts}
use Rattle.client_host.specs.Held.{ServedHost, in_state}
use Rattle.world_defs.specs.Table.{Adoption}
use Rattle.fab_world.specs.Held.{world_of}
use Rattle.fab_world.specs.Carried.{clear_way, one_injected, ends_alone, IsCarriedIn}
use Rattle.fab_world.proofs.Places.{IsAt, found, changed-under}
use Rattle.fab_world.proofs.Resting.{unstaged-same}

-- ---- the injection
-- a host with a staged probe, as a host that sends it
sends-probe : (h : ℕ) (n : NodeState) (walk : List ℤ) (looped : Bool) → to_send h (record n { staged = Some (StagedProbe walk looped) }) ≡ Some (Probe walk looped)
unfolding to_send
sends-probe h n walk looped = refl

sent-probe : (n : NodeState) (walk : List ℤ) (looped : Bool) → after_sending (record n { staged = Some (StagedProbe walk looped) }) (Probe walk looped) ≡ record n { staged = None }
unfolding after_sending
sent-probe n walk looped = refl

probe-bytes : (h number : ℕ) (walk : List ℤ) (looped : Bool) → packet_for h number (Probe walk looped) ≡ probe_packet h number walk looped
unfolding packet_for
probe-bytes h number walk looped = refl

asked-is : (w : WorldState) (h : ℕ) (walk : List ℤ) (looped : Bool) → (asked w h walk looped).1 ≡ with_node w h (record (node_at w h) { staged = Some (StagedProbe walk looped) })
unfolding asked
asked-is w h walk looped = refl

injected-by : (w : WorldState) (h c : ℕ) → leaving w.links.cables (host_port h) ≡ Some c → injected w h ≡ inject_one w h c (to_send h (node_at w h))
unfolding injected
injected-by w h c e = ap (inject_into w h) e

-- no cable keeps a probe out
and-false : (b : Bool) → (b && false) ≡ false
and-false true = refl
and-false false = refl

-- the host's channel takes the probe's packet
probed-in : (w : WorldState) (h c : ℕ) (walk : List ℤ) (looped : Bool) (packet : List ℕ) → h < length w.nodes → leaving w.links.cables (host_port h) ≡ Some c → can_inject (of_world w) c ≡ true
    → packet ≡ probe_packet h (w.injected + 1) walk looped
    → injected (asked w h walk looped).1 h ≡ (Injected (w.injected + 1), planned_strikes (put_under_next (with_node w h (record (node_at w h) { staged = None })) c packet) c)
probed-in w h c walk looped packet below own free made =
    let n : NodeState = record (node_at w h) { staged = Some (StagedProbe walk looped) } in
    let u : WorldState = with_node w h n in
    let out : Outgoing = Probe walk looped in
    let at : node_at u h ≡ n = get_or-set_same w.nodes h n (new_node 0) below in
    let after : after_sending (node_at u h) out ≡ record (node_at w h) { staged = None } = ap (λ m. after_sending m out) at ∙ sent-probe (node_at w h) walk looped in
    let bytes : packet_for h (w.injected + 1) out ≡ packet = probe-bytes h (w.injected + 1) walk looped ∙ sym made in
    ap (λ v. injected v h) (asked-is w h walk looped) ∙ injected-by u h c own
    ∙ ap (λ m. inject_one u h c (to_send h m)) at ∙ ap (inject_one u h c) (sends-probe h (node_at w h) walk looped)
    ∙ injection_is_put u h c out free (and-false (is_new w.links.cables c))
    ∙ ap (λ m. (Injected (w.injected + 1), planned_strikes (put_under_next (with_node u h m) c (packet_for h (w.injected + 1) out)) c)) after
    ∙ ap (λ p. (Injected (w.injected + 1), planned_strikes (put_under_next (with_node u h (record (node_at w h) { staged = None })) c p) c)) bytes
    ∙ ap (λ l. (Injected (w.injected + 1), planned_strikes (put_under_next (record w { nodes = l }) c packet) c)) (set-set w.nodes h n (record (node_at w h) { staged = None }))

unplanned-strikes : (w : WorldState) (c : ℕ) → lookup (nat_eq w.injected) w.plan ≡ None → planned_strikes w c ≡ w
unfolding planned_strikes
unplanned-strikes w c none = ap (fault_strikes w c) none

-- a clear way is the host's channel, over clear links, and the host has nothing staged
record IsClearWay (w : WorldState) (h c : ℕ) : Type 0 where
  clear : IsClear (of_world w)
  unstaged : has_staged (node_at w h) ≡ false
  own : leaving w.links.cables (host_port h) ≡ Some c

way-parts : (w : WorldState) (h c : ℕ) → clear_way w h ≡ Some c → IsClearWay w h c
way-parts w h c way = by (is_clear (of_world w)) (has_staged (node_at w h)) refl refl way
  where
    by : (a b : Bool) → is_clear (of_world w) ≡ a → has_staged (node_at w h) ≡ b → (let o : Option ℕ = None in if a && not b then leaving w.links.cables (host_port h) else o) ≡ Some c → IsClearWay w h c
    by true false e f g = record { clear = clear-parts (of_world w) e; unstaged = f; own = g }
    by true true e f g = cc
    by false b e f g = cc

-- and an injection is left
pub way-left : (w : WorldState) (h c : ℕ) → clear_way w h ≡ Some c → w.injected < last_count
way-left w h c way = let p = way-parts w h c way in p.clear.left

pub way-idle : (w : WorldState) (h c : ℕ) → clear_way w h ≡ Some c → is_idle w.links ≡ true
way-idle w h c way = let p = way-parts w h c way in p.clear.idle

pub more-left : (a b : ℕ) → b < a → nat_le a b ≡ false
more-left a b low = by (nat_le a b) refl
  where
    by : (t : Bool) → nat_le a b ≡ t → nat_le a b ≡ false
    by false e = e
    by true e = absurd (grind (arith, nat_tests))

takes : (o n : Bool) → o ≡ false → n ≡ false → not (o || n) ≡ true
takes false false e f = refl
takes false true e f = cc
takes true n e f = cc

-- the injection puts the packet into the host's channel, and nothing else changes but the count
enters-clear : (w : WorldState) (h c : ℕ) (walk : List ℤ) (looped : Bool) (packet : List ℕ) → h < host_count w → IsClearWay w h c → packet ≡ probe_packet h (w.injected + 1) walk looped
    → injected (asked w h walk looped).1 h ≡ (Injected (w.injected + 1), put_under_next w c packet)
enters-clear w h c walk looped packet low way made =
    let clear = way.clear in
    let none : packet_in w.links c ≡ None = none-in w.links.channels clear.idle c in
    let free : can_inject (of_world w) c ≡ true = takes (is_some (packet_in w.links c)) (nat_le last_count w.injected) (ap is_some none) (more-left last_count w.injected clear.left) in
    let same : with_node w h (record (node_at w h) { staged = None }) ≡ w =
    ap (with_node w h) (unstaged-same (node_at w h) way.unstaged) ∙ ap (λ l. record w { nodes = l }) (set-get_or w.nodes h (new_node 0)) in
    probed-in w h c walk looped packet low way.own free made
    ∙ ap (λ (v : WorldState). (Injected (w.injected + 1), planned_strikes (put_under_next v c packet) c)) same
    ∙ ap (λ (v : WorldState). (Injected (w.injected + 1), v)) (unplanned-strikes (put_under_next w c packet) c clear.unplanned)

-- ---- the end
arrived-links : (w : WorldState) (h : ℕ) (a : Arrival × NodeState) → (arrived w h a).1.links ≡ w.links
arrived-links w h (Hears heard, n) = refl
arrived-links w h (Dropped drop, n) = refl
arrived-links w h (NotMine, n) = refl

ends-links : (w : WorldState) (end : Result ℕ Why) (now : List ℕ) → (ends_alone w end now).1.links ≡ w.links
ends-links w (Ok h) now = arrived-links (one_injected w) h (hear h (host_count w) (node_at w h) now)
ends-links w (Err why) now = refl

-- the last advance, in the world in which the packet has come so far
advanced-is : (w : WorldState) (at : ℕ) → advanced w at ≡ advanced_by w (advance w.links at)
unfolding advanced
advanced-is w at = refl

leaves-clear : (w : WorldState) (at : ℕ) (l : LinkState) (end : Result ℕ Why) (now : List ℕ) → advance l at ≡ (ended end now, w.links)
    → advanced (record w { links = l; injected = w.injected + 1 }) at ≡ ends_alone w end now
leaves-clear w at l (Ok h) now e = advanced-is (record w { links = l; injected = w.injected + 1 }) at ∙ ap (advanced_by (record w { links = l; injected = w.injected + 1 })) e
leaves-clear w at l (Err why) now e = advanced-is (record w { links = l; injected = w.injected + 1 }) at ∙ ap (advanced_by (record w { links = l; injected = w.injected + 1 })) e

-- ---- all of it
pub carried-in : (w : WorldState) (h c hops number : ℕ) (walk : List ℤ) (looped : Bool) (packet now : List ℕ) (end : Result ℕ Why) (x : Effect) (v : WorldState) → h < host_count w → clear_way w h ≡ Some c
    → number ≡ w.injected + 1 → packet ≡ probe_packet h number walk looped → IsCarried w.links c packet hops end now → ends_alone w end now ≡ (x, v)
    → IsCarriedIn (asked w h walk looped).1 h number hops x v
carried-in w h c hops number walk looped packet now end x v low way count made carried ends =
    let parts = way-parts w h c way in
    let clear = parts.clear in
    let links : v.links ≡ w.links = sym (ap (λ (r : Effect × WorldState). r.1.links) ends) ∙ ends-links w end now in
    record {
      entered = put_under_next w c packet;
      ran = record w { links = (put w.links carried.at now).1; injected = w.injected + 1 };
      c = c;
      at = carried.at;
      left = subst (λ (u : WorldState). u.injected < last_count) (sym (asked-is w h walk looped)) clear.left;
      injects =
          enters-clear w h c walk looped packet low parts (made ∙ ap (λ n. probe_packet h n walk looped) count)
          ∙ ap (λ n. (Injected n, put_under_next w c packet)) (sym count);
      lone = carried.enters;
      run = (carried.run, refl);
      stays = carried.stays;
      leaves = leaves-clear w carried.at (put w.links carried.at now).1 end now carried.leaves ∙ ends;
      links = links ∙ sym (ap (λ (u : WorldState). u.links) (asked-is w h walk looped));
      idle = ap is_idle links ∙ clear.idle;
    }

-- the host that it reached is there
pub end-there : (w : WorldState) (c hops : ℕ) (wire now : List ℕ) (end : Result ℕ Why) → IsHistory w.links.cables → host_count w ≡ length (fabric_of w).hosts → IsCarried w.links c wire hops end now → IfOk end (λ h. h < host_count w)
end-there w c hops wire now (Ok h) history count carried = subst (λ n. h < n) (sym count) (course-host w.links.cables carried.at now h history (sym carried.goes))
end-there w c hops wire now (Err why) history count carried = tt

-- one host hears it
pub alone-is : {p : LinksAndPlan} {ss : List ServedHost} {o : Option Adoption} {w : WorldState} {h i : ℕ} {x : ServedHost} (q : ServedHost) (wire : List ℕ) (arrival : Arrival) (effect : Effect) (now : LinksAndPlan) → IsAt p ss o w h i x
    → arrival ≡ (hear x.host x.hosts x.state wire).0 → q ≡ in_state x (hear x.host x.hosts x.state wire).1
    → ((u : WorldState) (n : NodeState) → arrived (with_part u (part_injected p)) h (arrival, n) ≡ (effect, with_part (with_node u h n) now))
    → ends_alone w (Ok h) wire ≡ (effect, world_of now (slice_set ss i q) o)
alone-is {p} {ss} {o} {w} {h} {i} {x} q wire arrival effect now a heard e told =
    let here = found a in
    let n : NodeState = (hear x.host x.hosts x.state wire).1 in
    let same_hearing : hear x.host x.hosts x.state wire ≡ hear h (host_count w) (node_at w h) wire =
    ap (λ k. hear k x.hosts x.state wire) here.host ∙ ap (λ k. hear h k x.state wire) here.hosts ∙ ap (λ m. hear h (host_count w) m wire) here.state in
    let pair : (let r : Arrival × NodeState = (arrival, n) in r) ≡ hear h (host_count w) (node_at w h) wire = ap (λ r. (r, n)) heard ∙ same_hearing in
    ap (arrived (one_injected w) h) (sym pair) ∙ ap (λ u. arrived (one_injected u) h (arrival, n)) (sym a.is)
    ∙ told (world_of p ss o) n ∙ ap (λ v. (effect, v)) (sym (changed-under q n now o a e))

-- a switch dropped it
pub dropped-is : (p : LinksAndPlan) (ss : List ServedHost) (o : Option Adoption) (w : WorldState) (why : Why) (wire : List ℕ) (effect : Effect) (now : LinksAndPlan) → world_of p ss o ≡ w
    → effect ≡ IsDropped (cause_at_switch why) → CountsDrop (part_injected p) now → ends_alone w (Err why) wire ≡ (effect, world_of now ss o)
dropped-is p ss o w why wire effect now is told counts =
    ap (λ (u : WorldState). (IsDropped (cause_at_switch why), with_drop (one_injected u))) (sym is)
    ∙ ap (λ (v : WorldState). (IsDropped (cause_at_switch why), v)) (counts (world_of p ss o))
    ∙ ap (λ (x : Effect). (x, world_of now ss o)) (sym told)
