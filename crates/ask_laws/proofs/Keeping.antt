-- What steps keep of a world, whatever is to stay of each host.
use Rattle.std.proofs.Common.{◌≡◌, ◌≤◌, ◌+◌, ℕ, List, length, get_or, set, refl, ap, ◌∙◌, subst, sym, arith}
use Rattle.std.proofs.Math.ListN.{length-set}
use Rattle.world_defs.specs.Later.{OnlyPulled}
use Rattle.world_defs.proofs.CablesLater.{pulled-on}
use Rattle.world_defs.specs.Node.{NodeState, Outgoing, new_node, after_sending}
use Rattle.world_defs.specs.World.{WorldState, node_at, with_node}
use Rattle.world_laws.proofs.Lists.{at-set}
use Rattle.ask_laws.specs.Kept.{IsKept}
use Rattle.ask_laws.proofs.Parcels.{SendKeeps}

-- What is to stay of a host is so where the host stays, and over two steps.
pub record Stays (Same : NodeState → NodeState → Type 0) : Type 0 where
  pub same : (n : NodeState) → Same n n
  pub both : (k m n : NodeState) → Same k m → Same m n → Same k n

pub world-same : (Same : NodeState → NodeState → Type 0) → Stays Same → (w : WorldState) → IsKept Same w w
world-same Same s w = record {
  pulled = OnlyPulled.still;
  hosts = refl;
  nodes = λ h. s.same (node_at w h);
  clients = refl;
  adopted = refl;
  unplanned = λ number e. e;
  byte_flips = λ all. all;
  injected = omega arith;
  struck = omega arith;
  harmed = omega arith;
}

pub world-both : (Same : NodeState → NodeState → Type 0) → Stays Same → (u v w : WorldState) → IsKept Same u v → IsKept Same v w → IsKept Same u w
world-both Same s u v w a b =
    let i0 = a.injected in
    let i1 = b.injected in
    let s0 = a.struck in
    let s1 = b.struck in
    let h0 = a.harmed in
    let h1 = b.harmed in
    record {
      pulled = pulled-on a.pulled b.pulled;
      hosts = b.hosts ∙ a.hosts;
      nodes = λ h. s.both (node_at u h) (node_at v h) (node_at w h) (a.nodes h) (b.nodes h);
      clients = b.clients ∙ a.clients;
      adopted = b.adopted ∙ a.adopted;
      unplanned = λ number e. b.unplanned number (a.unplanned number e);
      byte_flips = λ all. b.byte_flips (a.byte_flips all);
      injected = omega (arith, i0, i1);
      struck = omega (arith, s0, s1);
      harmed = omega (arith, h0, h1);
    }

-- one host changed
pub world-node : (Same : NodeState → NodeState → Type 0) → Stays Same → (w : WorldState) (h : ℕ) (n : NodeState) → Same (node_at w h) n → IsKept Same w (with_node w h n)
world-node Same s w h n k = record {
  pulled = OnlyPulled.still;
  hosts = length-set w.nodes h n;
  nodes = λ g. at-set Same s.same w.nodes h g n (new_node 0) k;
  clients = refl;
  adopted = refl;
  unplanned = λ number e. e;
  byte_flips = λ all. all;
  injected = omega arith;
  struck = omega arith;
  harmed = omega arith;
}

pub nodes-at : (w t : WorldState) (h g : ℕ) (n : NodeState) → t.nodes ≡ set w.nodes h n → node_at t g ≡ get_or (set w.nodes h n) g (new_node 0)
nodes-at w t h g n e = ap (λ ns. get_or ns g (new_node 0)) e

-- one host sent
pub world-sent : (Same : NodeState → NodeState → Type 0) → Stays Same → (w : WorldState) (h : ℕ) (out : Outgoing) (t : WorldState) → Same (node_at w h) (after_sending (node_at w h) out) → SendKeeps w h out t → IsKept Same w t
world-sent Same s w h out t same k =
    let n : NodeState = after_sending (node_at w h) out in
    let i = k.injected in
    record {
      pulled = k.pulled;
      hosts = ap length k.nodes ∙ length-set w.nodes h n;
      nodes = λ g. subst (Same (node_at w g)) (sym (nodes-at w t h g n k.nodes)) (at-set Same s.same w.nodes h g n (new_node 0) same);
      clients = k.clients;
      adopted = k.adopted;
      unplanned = k.unplanned;
      byte_flips = k.byte_flips;
      injected = omega (arith, i);
      struck = k.struck;
      harmed = k.harmed;
    }
