-- After every list of acts: messages were sent from ports, those that were got name a port and a priority, and provided tokens have priorities.
use Rattle.std.proofs.Common.{◌≡◌, ◌<◌, ℕ, Bool, true, false, List, [], ◌∷◌, length, nat_lt, Some, None, refl, sym, ap, ◌∙◌, subst, arith}
use Rattle.std.specs.Prelude.{slice_get}
use Rattle.std.specs.List.{AllByRecursion}
use Rattle.std.proofs.lemmas.Bool.Decides.{nat_tests}
use Rattle.std.proofs.lemmas.List.{get_or_past}
use Rattle.net_defs.specs.Network.{Network}
use Rattle.net_defs.proofs.Distinct.{all-push}
use Rattle.gm_defs.specs.declared.message.Message.{Message}
use Rattle.gm_defs.specs.declared.frame.ConnectionKey.{ConnectionKey}
use Rattle.gm_defs.specs.Fragment.{Fragment, fragments}
use Rattle.gm_defs.proofs.Numbers.{fragments-append}
use Rattle.world_defs.specs.Lane.{new_lane}
use Rattle.world_defs.specs.Node.{NodeState, lane_count, sending_lane, taking_lane, lane_at, port_at, new_node, port_count}
use Rattle.world_defs.specs.World.{WorldState, host_count, node_at, new_world}
use Rattle.world_defs.specs.Traffic.{sent_on, got_on}
use Rattle.world_laws.specs.Shape.{IsWorld}
use Rattle.world_defs.specs.Acts.{Act, acted, IsReached}
use Rattle.message_laws.proofs.Frames.{get-front}
use Rattle.message_laws.proofs.Hosts.{Rules, acted-goes}
use Rattle.message_laws.proofs.Windows.{numbers_of, reached-windowed}
use Rattle.message_laws.proofs.Taken.{reached-world}
use Rattle.world_defs.proofs.Lists.{each-replicate}
use Rattle.world_defs.proofs.Reaching.{reached-has}
use Rattle.settle_laws.proofs.Says.{IsFor, PortFits, SentSo, NodeSays, says-quiet, hear-says, sent-says, expired-says, call-says}

-- each change of a host
says-rules : (w : WorldState) → Rules w (numbers_of w) (λ h. NodeSays)
says-rules w = record {
  quiet = λ h m e f. says-quiet (node_at w h) m e f;
  hears = λ h wire good. hear-says h (host_count w) (node_at w h) wire;
  sends = λ h out e. sent-says (node_at w h) out;
  expires = λ h peer. expired-says (node_at w h) peer;
  calls = λ h port call k. call-says k;
}

pub acted-says : (n : Network) (w : WorldState) (a : Act) → IsReached n w → (h : ℕ) → NodeSays (node_at w h) (node_at (acted w a) h)
acted-says n w a is h = (acted-goes w (numbers_of w) (λ h. NodeSays) (says-rules w) a (reached-windowed n w is).links).nodes h

-- fragments that were sent stay at their places
pub sent-place : (n : NodeState) (lane k : ℕ) (old new : List Message) (fragment : Fragment) → SentSo n lane old new → slice_get (fragments old) k ≡ Some fragment → slice_get (fragments new) k ≡ Some fragment
sent-place n lane k old new fragment (SentSo.same e) there = ap (λ l. slice_get (fragments l) k) e ∙ there
sent-place n lane k old new fragment (SentSo.more x e low route) there =
    ap (λ l. slice_get (fragments l) k) e ∙ ap (λ l. slice_get l k) (fragments-append old (x ∷ [])) ∙ get-front (fragments old) (fragments (x ∷ [])) k fragment there

-- the invariant
pub record IsSaid (w : WorldState) : Type 0 where
  pub from_ports : (c : ConnectionKey) → AllByRecursion (λ m. m.sport < 8) (sent_on w c)
  pub got : (c : ConnectionKey) → AllByRecursion IsFor (got_on w c)
  pub ports : (h port : ℕ) → PortFits (port_at (node_at w h) port)

-- each host has eight ports, also one that isn't there
eight-ports : (w : WorldState) (h : ℕ) → IsWorld w → length (node_at w h).ports ≡ 8
eight-ports w h is = by (nat_lt h (host_count w)) refl
  where
    by : (t : Bool) → nat_lt h (host_count w) ≡ t → length (node_at w h).ports ≡ 8
    by true t = (is.each_node h (grind (arith, nat_tests))).ports
    by false t = ap (λ x. length x.ports) (get_or_past w.nodes h (new_node 0) (grind (arith, nat_tests)))

module _ (n : Network) (w : WorldState) (a : Act) (is : IsReached n w) (said : IsSaid w) where
  abbrev v : WorldState
  v = acted w a

  from-port : (c : ConnectionKey) → SentSo (node_at w c.src) (sending_lane c) (sent_on w c) (sent_on v c) → AllByRecursion (λ m. m.sport < 8) (sent_on v c)
  from-port c (SentSo.same e) = subst (AllByRecursion (λ m. m.sport < 8)) (sym e) (said.from_ports c)
  from-port c (SentSo.more m e low route) =
      let eight = eight-ports w c.src (reached-world n w is) in
      subst (AllByRecursion (λ m. m.sport < 8)) (sym e) (all-push (λ m. m.sport < 8) (sent_on w c) m (said.from_ports c) (omega (arith, low, eight)))

  acted-said : IsSaid (acted w a)
  acted-said = record {
    from_ports = λ c. from-port c ((acted-says n w a is c.src).sent (sending_lane c));
    got = λ c. (acted-says n w a is c.dst).got (taking_lane c) (said.got c);
    ports = λ h port. (acted-says n w a is h).ports port (said.ports h port);
  }

-- the new world
-- a host before anything happened
record IsNew (x : NodeState) : Type 0 where
  lanes : (p : ℕ) → lane_at x p ≡ new_lane
  ports : (port : ℕ) → port_at x port ≡ None

new-node : (k : ℕ) → IsNew (new_node k)
new-node k = record {
  lanes = λ p. each-replicate (λ x. x ≡ new_lane) (lane_count k) p new_lane new_lane refl refl;
  ports = λ port. each-replicate (λ x. x ≡ None) port_count port None None refl refl;
}

new-nodes : (n : Network) (h : ℕ) → IsNew (node_at (new_world n) h)
new-nodes n h = let k : ℕ = length n.hosts in each-replicate IsNew k h (new_node k) (new_node 0) (new-node k) (new-node 0)

new-said : (n : Network) → IsSaid (new_world n)
new-said n = record {
  from_ports = λ c. subst (λ p. AllByRecursion (λ m. m.sport < 8) p.sent) (sym ((new-nodes n c.src).lanes (sending_lane c))) tt;
  got = λ c. subst (λ p. AllByRecursion IsFor p.got) (sym ((new-nodes n c.dst).lanes (taking_lane c))) tt;
  ports = λ h port. subst PortFits (sym ((new-nodes n h).ports port)) tt;
}

pub reached-said : (n : Network) (w : WorldState) → IsReached n w → IsSaid w
reached-said n w is = reached-has IsSaid n (new-said n) (λ w a r may. acted-said n w a r) w is
