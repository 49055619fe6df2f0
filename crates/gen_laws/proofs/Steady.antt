-- Acts that neither poll, pull nor plug, and those that no client makes: what they leave.
use Rattle.std.proofs.Common.{◌≡◌, ◌+◌, ℕ, Bool, true, false, List, [], ◌∷◌, ◌++◌, length, nat_eq, nat_le, Option, Some, None, Ordering, Less, Equal, Greater, is_some, cond, refl, sym, ap, ◌∙◌, subst, arith, if◌then◌else◌}
use Rattle.std.specs.List.{AllByRecursion}
use Rattle.std.specs.Map.{lookup}
use Rattle.std.specs.Option.{option_map_or}
use Rattle.std.specs.Ordering.{match_ordering, nat_cmp}
use Rattle.std.proofs.lemmas.Bool.Decides.{nat_tests}
use Rattle.net_defs.specs.Network.{Network}
use Rattle.gm_defs.specs.declared.frame.ConnectionKey.{ConnectionKey}
use Rattle.gm_defs.specs.Token.{PortState}
use Rattle.world_defs.specs.declared.wire.Wire.{Wire}
use Rattle.world_defs.specs.History.{IsDated, fabric_at}
use Rattle.world_defs.specs.Links.{LinkState}
use Rattle.world_defs.specs.LinkLaws.{is_of_cables}
use Rattle.world_defs.specs.LinkStep.{Step, Advance as AdvanceLinks, stepped}
use Rattle.world_defs.specs.Fault.{accept}
use Rattle.world_defs.specs.declared.event.Event.{Event}
use Rattle.world_defs.specs.declared.event.Event.TheVariants.{Begin, Close, Provide, Send, Poll, Pull, Plug}
use Rattle.world_defs.specs.declared.effect.Effect.{Effect}
use Rattle.world_defs.specs.declared.fault.Fault.{Fault}
use Rattle.world_defs.specs.declared.fault.Fault.TheVariants.{Lose as LoseFault, Repeat as RepeatFault, Hold as HoldFault, Flip as FlipFault, Pull as PullFault}
use Rattle.world_defs.specs.Table.{Adoption, at_in, route_of}
use Rattle.world_defs.specs.Node.{NodeState, Outgoing, new_node, port_at, port_count}
use Rattle.world_defs.specs.Client.{Called}
use Rattle.world_defs.specs.World.{WorldState, host_count, new_world, node_at, with_fault, without_fault, with_links, keeps_epoch}
use Rattle.world_defs.specs.Step.{sent_out}
use Rattle.world_defs.specs.Traffic.{sent_on, routes_in, is_cut_walk, is_broken}
use Rattle.world_defs.specs.Acts.{Act, Happens, Plans, Adopts, acted, acted_all, IsReached}
use Rattle.world_defs.proofs.Cables.{reached-cables}
use Rattle.world_defs.proofs.Hosts.{NodeChange, nodes_view, each_node}
use Rattle.world_defs.proofs.Kept.{sent-cables}
use Rattle.world_defs.proofs.Lists.{each-replicate}
use Rattle.world_defs.proofs.Shapes.{stepped-cables}
use Rattle.world_defs.proofs.Strikes.{fault_step, Strike, strike_view}
use Rattle.world_defs.proofs.Views.{HostChange, CallChange, LinksChange, Change, view}
use Rattle.world_laws.proofs.Nodes.{NodeKept, hear-kept, sent-kept}
use Rattle.install_laws.proofs.Since.{unbroken}
use Rattle.client_laws.specs.Handed.{handed_in, accepted_in}
use Rattle.client_laws.proofs.Accepted.{IsNoSend, none-accepted, accepted-sent}
use Rattle.client_laws.proofs.Polled.{IsNoPoll, none-handed}

-- ---- no client's call
abbrev pub IsUncalled : Act → Type 0
IsUncalled (Happens (Begin h port sends recvs)) = ⊥
IsUncalled (Happens (Close h port)) = ⊥
IsUncalled (Happens (Provide h port size prio)) = ⊥
IsUncalled (Happens (Send h port dest dport prio len seed)) = ⊥
IsUncalled (Happens (Poll h port)) = ⊥
IsUncalled _ = Unit {0}

uncalled-sends : (a : Act) → IsUncalled a → IsNoSend a
uncalled-sends (Happens (Send h port dest dport prio len seed)) q = q
uncalled-sends a q = tt

-- no port of a host is open
pub record IsShut (x : NodeState) : Type 0 where
  pub each : (port : ℕ) → is_some (port_at x port) ≡ false

kept-shut : {x y : NodeState} → NodeKept x y → IsShut x → IsShut y
kept-shut k s = record { each = λ port. k.open_ports port ∙ s.each port }

host-shut : {w : WorldState} {e : Event} {y : Effect} {h : ℕ} {m : NodeState} → HostChange w e y h m → ((h : ℕ) → IsShut (node_at w h)) → IsShut m
host-shut (HostChange.asks {h = h}) all = record { each = (all h).each }
host-shut (HostChange.stages a p by d e f) all = record { each = (all a.mapper).each }
host-shut (HostChange.expires {h = h} k) all = record { each = (all h).each }
host-shut (HostChange.gives_up {h = h} k) all = record { each = (all h).each }
host-shut (HostChange.revokes {h = h} a d) all = record { each = (all h).each }

no-call : {w : WorldState} {e : Event} {h port : ℕ} {call : Called} → CallChange w e h port call → IsUncalled (Happens e) → ⊥
no-call CallChange.begins q = q
no-call CallChange.closes q = q
no-call CallChange.provides q = q
no-call CallChange.accepts q = q
no-call CallChange.polls q = q

node-shut : (w : WorldState) (a : Act) → IsUncalled a → ((h : ℕ) → IsShut (node_at w h)) → (h : ℕ) (m : NodeState) → NodeChange w a h m → IsShut m
node-shut w a q all h m (NodeChange.itself k) = host-shut k all
node-shut w a q all h m (NodeChange.hears packet j d e) = kept-shut (hear-kept j (host_count w) (node_at w j) packet.wire) (all j)
node-shut w a q all h m (NodeChange.sends c out d e) = kept-shut (sent-kept h (node_at w h) out e) (all h)
node-shut w a q all h m (NodeChange.calls k) = absurd (no-call k q)
node-shut w a q all h m (NodeChange.adopts {mapper = mapper}) = record { each = (all mapper).each }

all-shut : (w : WorldState) (acts : List Act) → AllByRecursion IsUncalled acts → ((h : ℕ) → IsShut (node_at w h)) → (h : ℕ) → IsShut (node_at (acted_all w acts) h)
all-shut w [] q all = all
all-shut w (a ∷ acts) q all = all-shut (acted w a) acts q.1 (each_node (λ h. IsShut) (nodes_view w a) all (node-shut w a q.0 all))

new-shut : (count : ℕ) → IsShut (new_node count)
new-shut count = record { each = λ port. each-replicate (λ (o : Option PortState). is_some o ≡ false) port_count port None None refl refl }

first-shut : (n : Network) (h : ℕ) → IsShut (node_at (new_world n) h)
first-shut n h = each-replicate IsShut (length n.hosts) h (new_node (length n.hosts)) (new_node 0) (new-shut (length n.hosts)) (new-shut 0)

-- so before the first call no port is open, and nothing was sent
pub shut-first : (n : Network) (w : WorldState) (is : IsReached n w) → AllByRecursion IsUncalled is.acts → (h : ℕ) → IsShut (node_at w h)
shut-first n w is all h = subst (λ v. IsShut (node_at v h)) (sym is.leads) (all-shut (new_world n) is.acts all (first-shut n) h)

none-sent : (c : ConnectionKey) (w : WorldState) (acts : List Act) → AllByRecursion IsUncalled acts → accepted_in c w acts ≡ []
none-sent c w [] all = refl
none-sent c w (a ∷ acts) all = ap (λ l. l ++ accepted_in c (acted w a) acts) (none-accepted c w a (uncalled-sends a all.0)) ∙ none-sent c (acted w a) acts all.1

pub unsent-first : (n : Network) (w : WorldState) (is : IsReached n w) → AllByRecursion IsUncalled is.acts → (c : ConnectionKey) → sent_on w c ≡ []
unsent-first n w is all c = sym (accepted-sent n w is c) ∙ none-sent c (new_world n) is.acts all

-- ---- no poll, no pull and no plug
abbrev pub IsNoPull : Fault → Type 0
IsNoPull (PullFault at) = ⊥
IsNoPull _ = Unit {0}

abbrev pub IsSteady : Act → Type 0
IsSteady (Happens (Poll h port)) = ⊥
IsSteady (Happens (Pull at)) = ⊥
IsSteady (Happens (Plug a b)) = ⊥
IsSteady (Plans ahead fault) = IsNoPull fault
IsSteady _ = Unit {0}

steady-polls : (a : Act) → IsSteady a → IsNoPoll a
steady-polls (Happens (Poll h port)) q = q
steady-polls a q = tt

pub none-polled : (h port : ℕ) (w : WorldState) (acts : List Act) → AllByRecursion IsSteady acts → handed_in h port w acts ≡ []
none-polled h port w [] all = refl
none-polled h port w (a ∷ acts) all = ap (λ l. l ++ handed_in h port (acted w a) acts) (none-handed h port w a (steady-polls a all.0)) ∙ none-polled h port (acted w a) acts all.1

-- the faults that are planned
abbrev AreNoPulls : List (ℕ × Fault) → Type 0
AreNoPulls fs = AllByRecursion (λ f. IsNoPull f.1) fs

without-pulls : (number : ℕ) (fs : List (ℕ × Fault)) → AreNoPulls fs → AreNoPulls (without_fault number fs)
without-pulls number [] all = tt
without-pulls number (f ∷ fs) all = by (nat_eq number f.0) (without-pulls number fs all.1)
  where
    by : (b : Bool) → AreNoPulls (without_fault number fs) → AreNoPulls (if b then fs else f ∷ without_fault number fs)
    by true rest = all.1
    by false rest = (all.0, rest)

with-pulls : (number : ℕ) (fault : Fault) (fs : List (ℕ × Fault)) → IsNoPull fault → AreNoPulls fs → AreNoPulls (with_fault number fault fs)
with-pulls number fault [] is all = (is, tt)
with-pulls number fault (f ∷ fs) is all = by (nat_cmp number f.0) (with-pulls number fault fs is all.1)
  where
    by : (o : Ordering) → AreNoPulls (with_fault number fault fs) → AreNoPulls (match_ordering o ((number, fault) ∷ f ∷ fs) ((f.0, fault) ∷ fs) (f ∷ with_fault number fault fs))
    by Less rest = (is, all)
    by Equal rest = (is, all.1)
    by Greater rest = (all.0, rest)

planned-pull : (number : ℕ) (fs : List (ℕ × Fault)) (f : Fault) → AreNoPulls fs → lookup (nat_eq number) fs ≡ Some f → IsNoPull f
planned-pull number [] f all e = cc
planned-pull number (g ∷ fs) f all e = by (nat_eq number g.0) e (planned-pull number fs f all.1)
  where
    by : (b : Bool) → cond b (Some g.1) (lookup (nat_eq number) fs) ≡ Some f → (lookup (nat_eq number) fs ≡ Some f → IsNoPull f) → IsNoPull f
    by true d rest = let same : g.1 ≡ f = cc in subst IsNoPull same all.0
    by false d rest = rest d

-- where no pull is planned none is after, and no cable goes
record IsCalm (w v : WorldState) : Type 0 where
  plan : AreNoPulls w.plan → AreNoPulls v.plan
  changes : AreNoPulls w.plan → v.links.cables.changes ≡ w.links.cables.changes

calm-same : (w v : WorldState) → v.plan ≡ w.plan → v.links.cables ≡ w.links.cables → IsCalm w v
calm-same w v p c = record { plan = λ all. subst AreNoPulls (sym p) all; changes = λ all. ap (λ h. h.changes) c }

links-calm : {w : WorldState} {e : Event} {x : Effect} {s : Step} → IsSteady (Happens e) → LinksChange w e x s → (stepped w.links s).cables ≡ w.links.cables
links-calm {w = w} {s = s} q (LinksChange.moves packet next d e f g) = stepped-cables w.links s refl
links-calm {w = w} {s = s} q (LinksChange.loses k) = stepped-cables w.links s refl
links-calm {w = w} {s = s} q (LinksChange.resets k) = stepped-cables w.links s refl
links-calm {w = w} {s = s} q (LinksChange.repeats k) = stepped-cables w.links s refl
links-calm {w = w} {s = s} q (LinksChange.holds k) = stepped-cables w.links s refl
links-calm {w = w} {s = s} q (LinksChange.flips k) = stepped-cables w.links s refl
links-calm {w = w} {s = s} q (LinksChange.replays k) = stepped-cables w.links s refl
links-calm q (LinksChange.pulls k) = absurd q
links-calm q (LinksChange.plugs k) = absurd q

fault-calm : (c : ℕ) (f : Fault) → IsNoPull f → is_of_cables (fault_step c f) ≡ false
fault-calm c LoseFault q = refl
fault-calm c RepeatFault q = refl
fault-calm c HoldFault q = refl
fault-calm c (FlipFault bit pattern) q = refl
fault-calm c (PullFault at) q = absurd q

strike-calm : (w : WorldState) {u v : WorldState} {c : ℕ} → u.plan ≡ w.plan → u.links.cables ≡ w.links.cables → Strike u c v → IsCalm w v
strike-calm w {u = u} p h (Strike.spares e) = calm-same w u p h
strike-calm w {u = u} p h (Strike.misses f e k) = record { plan = λ all. without-pulls u.injected u.plan (subst AreNoPulls (sym p) all); changes = λ all. ap (λ h. h.changes) h }
strike-calm w {u = u} {c = c} p h (Strike.strikes f e k) = record {
  plan = λ all. without-pulls u.injected u.plan (subst AreNoPulls (sym p) all);
  changes = λ all.
      let is = planned-pull u.injected u.plan f (subst AreNoPulls (sym p) all) e in
      ap (λ h. h.changes) (stepped-cables u.links (fault_step c f) (fault-calm c f is) ∙ h);
}

sent-plan : (w : WorldState) (h c : ℕ) (out : Outgoing) → (sent_out w h c out).plan ≡ w.plan
unfolding sent_out
sent-plan w h c out = refl

change-calm : {w : WorldState} {e : Event} {r : Effect × WorldState} → IsSteady (Happens e) → Change w e r → IsCalm w r.1
change-calm {w = w} q Change.idle = calm-same w w refl refl
change-calm {w = w} q (Change.blocked packet next d e) = calm-same w w refl refl
change-calm {w = w} q (Change.links {s = s} k) = calm-same w (with_links w (stepped w.links s)) refl (links-calm q k)
change-calm {w = w} q (Change.drops {c = c} packet why d e f) = calm-same w _ refl (stepped-cables w.links (AdvanceLinks c) refl)
change-calm {w = w} q (Change.arrives {c = c} packet h d e f g) = calm-same w _ refl (stepped-cables w.links (AdvanceLinks c) refl)
change-calm {w = w} q (Change.host k) = calm-same w _ refl refl
change-calm {w = w} q (Change.injects {h = h} c out d e f g o) = strike-calm w (sent-plan w h c out) (sent-cables w h c out) (strike_view (sent_out w h c out) c)
change-calm {w = w} q (Change.calls k) = calm-same w _ refl refl

accepted-same : (s : LinkState) (b : Bool) → (if b then s else accept s).cables.changes ≡ s.cables.changes
accepted-same s true = refl
accepted-same s false = refl

acted-calm : (w : WorldState) (a : Act) → IsSteady a → IsCalm w (acted w a)
acted-calm w (Happens e) q = change-calm q (view w e)
acted-calm w (Plans ahead fault) q = record { plan = λ all. with-pulls (w.injected + ahead) fault w.plan q all; changes = λ all. refl }
acted-calm w (Adopts mapper routes) q = record { plan = λ all. all; changes = λ all. accepted-same w.links (keeps_epoch w routes) }

all-calm : (w : WorldState) (acts : List Act) → AllByRecursion IsSteady acts → AreNoPulls w.plan → (acted_all w acts).links.cables.changes ≡ w.links.cables.changes
all-calm w [] q all = refl
all-calm w (a ∷ acts) q all = let one = acted-calm w a q.0 in all-calm (acted w a) acts q.1 (one.plan all) ∙ one.changes all

pub steady-changes : (n : Network) (w : WorldState) (is : IsReached n w) → AllByRecursion IsSteady is.acts → w.links.cables.changes ≡ 0
steady-changes n w is all = ap (λ (v : WorldState). v.links.cables.changes) is.leads ∙ all-calm (new_world n) is.acts all tt

-- where no cable came or went no route is broken
dated-before : (changes at : ℕ) (ws : List Wire) → changes ≡ at → AllByRecursion (IsDated changes) ws → AllByRecursion (λ x. nat_le x.plugged at ≡ true) ws
dated-before changes at [] same all = tt
dated-before changes at (w ∷ ws) same all = let low = all.0.plugged in (grind (arith, nat_tests), dated-before changes at ws same all.1)

pub none-broken : (n : Network) (w : WorldState) (from to : ℕ) → IsReached n w → w.links.cables.changes ≡ 0 → is_broken w from to ≡ false
none-broken n w from to is none = by w.adopted refl
  where
    by : (o : Option Adoption) → w.adopted ≡ o → is_broken w from to ≡ false
    by None e = ap (λ o. option_map_or (is_cut_walk w from) (route_of (routes_in o) from to) false) e
    by (Some a) e =
        let k = reached-cables n w is in
        let began = k.began in
        let at : at_in w.adopted ≡ a.at = ap at_in e in
        let same : w.links.cables.changes ≡ a.at = omega (arith, began, at, none) in
        unbroken (fabric_at w.links.cables a.at) a w from to (record {
          over = record { stood = record { history = k.history; made = omega (arith, same); unplugged = dated-before w.links.cables.changes a.at w.links.cables.wires same k.history.dated }; past = refl };
          accepted = k.accepted ∙ at;
          adopted = e;
        }) same
