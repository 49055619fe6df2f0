-- Between the sends of an ask: idle links, and nothing staged but at the mapper.
use Rattle.std.proofs.Common.{◌≡◌, ◌≢◌, ◌<◌, ℕ, Bool, true, false, ◌||◌, nat_eq, ℤ, List, [], ◌∷◌, map, length, get_or, set, Some, None, is_some, refl, sym, ap, ◌∙◌, subst, arith, true≢false, if◌then◌else◌}
use Rattle.std.proofs.Math.ListN.{length-set}
use Rattle.std.proofs.lemmas.List.{get_or-set_same, get_or-set_other}
use Rattle.std.proofs.lemmas.Bool.Decides.{Decides-eqb}
use Rattle.net_defs.specs.Network.{Network}
use Rattle.net_defs.proofs.Growing.{no_some}
use Rattle.world_defs.specs.History.{fabric_at}
use Rattle.world_defs.specs.declared.event.Event.TheVariants.{Ask, GiveUp}
use Rattle.world_defs.specs.declared.effect.Effect.{Effect}
use Rattle.world_defs.specs.Node.{NodeState, StagedProbe, Outgoing, Probe, Reply, StagedReply, new_node, has_staged, given_up, to_send, after_sending}
use Rattle.world_defs.specs.World.{WorldState, host_count, node_at, with_node, addresses}
use Rattle.world_defs.specs.Step.{asked, gave_up, step, after_all}
use Rattle.world_defs.specs.Asking.{all_given_up}
use Rattle.world_laws.proofs.Lists.{at-set}
use Rattle.world_defs.specs.EightBits.{HasByteFaults}
use Rattle.ask_laws.specs.Premises.{CanAsk}
use Rattle.ask_laws.specs.Kept.{SameNode, IsAskKept}
use Rattle.ask_laws.proofs.Lone.{IsBare, idle-bare}
use Rattle.ask_laws.proofs.Stood.{IsOver, over-pulled}
use Rattle.ask_laws.proofs.Parcels.{SendKeeps}
use Rattle.ask_laws.proofs.Keeping.{Stays, world-same, world-both, world-node, world-sent, nodes-at}
use Rattle.ask_laws.proofs.GivingUp.{all-so}

pub same-node : (n : NodeState) → SameNode n n
same-node n = record { table = refl; lanes = refl; ports = refl }

node-stays : Stays SameNode
node-stays = record { same = same-node; both = λ k m n a b. record { table = b.table ∙ a.table; lanes = b.lanes ∙ a.lanes; ports = b.ports ∙ a.ports } }

pub kept-same : (w : WorldState) → IsAskKept w w
kept-same w = world-same SameNode node-stays w

pub kept-both : (u v w : WorldState) → IsAskKept u v → IsAskKept v w → IsAskKept u w
kept-both u v w a b = world-both SameNode node-stays u v w a b

pub kept-node : (w : WorldState) (h : ℕ) (n : NodeState) → SameNode (node_at w h) n → IsAskKept w (with_node w h n)
kept-node w h n k = world-node SameNode node-stays w h n k

-- what an ask's hosts send
abbrev pub IsOfMapper : Outgoing → Type 0
IsOfMapper (Probe walk looped) = Unit {0}
IsOfMapper (Reply r) = Unit {0}
IsOfMapper _ = ⊥

sent-node : (n : NodeState) (out : Outgoing) → IsOfMapper out → SameNode n (after_sending n out)
unfolding after_sending
sent-node n (Probe walk looped) is = record { table = refl; lanes = refl; ports = refl }
sent-node n (Reply r) is = record { table = refl; lanes = refl; ports = refl }
sent-node n _ is = absurd is

pub kept-sent : (w : WorldState) (h : ℕ) (out : Outgoing) (t : WorldState) → IsOfMapper out → SendKeeps w h out t → IsAskKept w t
kept-sent w h out t is k = world-sent SameNode node-stays w h out t (sent-node (node_at w h) out is) k

-- a host has nothing staged
abbrev pub IsUnstaged : WorldState → ℕ → Type 0
IsUnstaged w h = (node_at w h).staged ≡ None

-- The world between two sends.
pub record Ready (n : Network) (made mapper : ℕ) (w : WorldState) : Type 0 where
  pub over : IsOver n made w.links.cables
  pub bare : IsBare w.links
  pub hosts : host_count w ≡ length n.hosts
  pub unstaged : (h : ℕ) → h ≢ mapper → IsUnstaged w h
  pub flips : HasByteFaults w

-- a probe is staged
pub ready-staged : (n : Network) (made mapper : ℕ) (w : WorldState) (walk : List ℤ) (looped : Bool) → Ready n made mapper w → Ready n made mapper (step w (Ask mapper walk looped)).1
unfolding asked
ready-staged n made mapper w walk looped r = record {
  over = r.over;
  bare = r.bare;
  hosts = length-set w.nodes mapper (record (node_at w mapper) { staged = Some (StagedProbe walk looped) }) ∙ r.hosts;
  unstaged = λ h other. ap (λ (x : NodeState). x.staged) (get_or-set_other w.nodes mapper h (record (node_at w mapper) { staged = Some (StagedProbe walk looped) }) (new_node 0) other) ∙ r.unstaged h other;
  flips = r.flips;
}

pub kept-staged : (w : WorldState) (h : ℕ) (walk : List ℤ) (looped : Bool) → IsAskKept w (step w (Ask h walk looped)).1
unfolding asked
kept-staged w h walk looped = kept-node w h (record (node_at w h) { staged = Some (StagedProbe walk looped) }) (record { table = refl; lanes = refl; ports = refl })

pub counts-staged : (w : WorldState) (h : ℕ) (walk : List ℤ) (looped : Bool) → ((step w (Ask h walk looped)).1.injected ≡ w.injected) × ((step w (Ask h walk looped)).1.harmed ≡ w.harmed) × ((step w (Ask h walk looped)).1.plan ≡ w.plan)
unfolding asked
counts-staged w h walk looped = (refl, refl, refl)

staged-first : (h : ℕ) (n : NodeState) (walk : List ℤ) (looped : Bool) → n.staged ≡ Some (StagedProbe walk looped) → to_send h n ≡ Some (Probe walk looped)
unfolding to_send
staged-first h n walk looped e = rw e refl

pub staged-sends : (w : WorldState) (h : ℕ) (walk : List ℤ) (looped : Bool) → h < host_count w → to_send h (node_at (step w (Ask h walk looped)).1 h) ≡ Some (Probe walk looped)
unfolding asked
staged-sends w h walk looped low =
    let n : NodeState = record (node_at w h) { staged = Some (StagedProbe walk looped) } in
    staged-first h (get_or (set w.nodes h n) h (new_node 0)) walk looped (ap (λ (x : NodeState). x.staged) (get_or-set_same w.nodes h n (new_node 0) low))

-- a reply is first where nothing is staged
pub reply-first : (h : ℕ) (n : NodeState) (r : StagedReply) → n.staged ≡ None → n.reply ≡ Some r → to_send h n ≡ Some (Reply r)
unfolding to_send
reply-first h n r e f = rw (e, f) refl

-- after a send of the mapper's probe, no host has anything staged
probe-gone : (n : NodeState) (walk : List ℤ) (looped : Bool) → (after_sending n (Probe walk looped)).staged ≡ None
unfolding after_sending
probe-gone n walk looped = refl

pub unstaged-probe : (n : Network) (made mapper : ℕ) (w : WorldState) (walk : List ℤ) (looped : Bool) (t : WorldState) → Ready n made mapper w → mapper < host_count w → SendKeeps w mapper (Probe walk looped) t → (h : ℕ) → IsUnstaged t h
unstaged-probe n made mapper w walk looped t r low k h = by (nat_eq h mapper) refl
  where
    m : NodeState
    m = after_sending (node_at w mapper) (Probe walk looped)

    by : (b : Bool) → nat_eq h mapper ≡ b → IsUnstaged t h
    by true e =
        let same : h ≡ mapper = (Decides-eqb h mapper).0 e in
        ap (λ (x : NodeState). x.staged) (nodes-at w t mapper h m k.nodes ∙ ap (λ g. get_or (set w.nodes mapper m) g (new_node 0)) same ∙ get_or-set_same w.nodes mapper m (new_node 0) low) ∙ probe-gone (node_at w mapper) walk looped
    by false e =
        let other : h ≢ mapper = λ same. true≢false (sym ((Decides-eqb h mapper).1 same) ∙ e) in
        ap (λ (x : NodeState). x.staged) (nodes-at w t mapper h m k.nodes ∙ get_or-set_other w.nodes mapper h m (new_node 0) other) ∙ r.unstaged h other

pub ready-sent : (n : Network) (made mapper : ℕ) (w : WorldState) (out : Outgoing) (h : ℕ) (t : WorldState) → Ready n made mapper w → SendKeeps w h out t → ((g : ℕ) → IsUnstaged t g) → Ready n made mapper t
ready-sent n made mapper w out h t r k none = record {
  over = over-pulled n made k.pulled r.over;
  bare = k.bare;
  hosts = ap length k.nodes ∙ length-set w.nodes h (after_sending (node_at w h) out) ∙ r.hosts;
  unstaged = λ g other. none g;
  flips = k.byte_flips r.flips;
}

-- a send of a reply leaves nothing staged where nothing was
reply-staged : (n : NodeState) (r : StagedReply) → (after_sending n (Reply r)).staged ≡ n.staged
unfolding after_sending
reply-staged n r = refl

pub unstaged-reply : (w : WorldState) (h : ℕ) (r : StagedReply) (t : WorldState) → SendKeeps w h (Reply r) t → ((g : ℕ) → IsUnstaged w g) → (g : ℕ) → IsUnstaged t g
unstaged-reply w h r t k none g =
    let m : NodeState = after_sending (node_at w h) (Reply r) in
    let each : (get_or (set w.nodes h m) g (new_node 0)).staged ≡ (node_at w g).staged = at-set (λ (x y : NodeState). y.staged ≡ x.staged) (λ x. refl) w.nodes h g m (new_node 0) (reply-staged (node_at w h) r) in
    ap (λ (x : NodeState). x.staged) (nodes-at w t h g m k.nodes) ∙ each ∙ none g

-- every host gives up
gave_up-node : (w : WorldState) (h : ℕ) (b : Bool) → IsAskKept w (if b then (let r : Effect × WorldState = (Effect.GaveUp, with_node w h (given_up (node_at w h))) in r) else (Effect.Idle, w)).1
gave_up-node w h true = kept-node w h (given_up (node_at w h)) (record { table = refl; lanes = refl; ports = refl })
gave_up-node w h false = kept-same w

kept-given_up : (w : WorldState) (h : ℕ) → IsAskKept w (step w (GiveUp h)).1
unfolding gave_up
kept-given_up w h = gave_up-node w h (has_staged (node_at w h))

-- What giving up leaves of the links, the plan and the counts.
record Aside (w v : WorldState) : Type 0 where
  links : v.links ≡ w.links
  plan : v.plan ≡ w.plan
  injected : v.injected ≡ w.injected
  harmed : v.harmed ≡ w.harmed

gave_up-aside : (w : WorldState) (h : ℕ) (b : Bool) → Aside w (if b then (let r : Effect × WorldState = (Effect.GaveUp, with_node w h (given_up (node_at w h))) in r) else (Effect.Idle, w)).1
gave_up-aside w h true = record { links = refl; plan = refl; injected = refl; harmed = refl }
gave_up-aside w h false = record { links = refl; plan = refl; injected = refl; harmed = refl }

given_up-aside : (w : WorldState) (h : ℕ) → Aside w (step w (GiveUp h)).1
unfolding gave_up
given_up-aside w h = gave_up-aside w h (has_staged (node_at w h))

all-kept : (w : WorldState) (hs : List ℕ) → IsAskKept w (after_all w (map GiveUp hs))
all-kept w [] = kept-same w
all-kept w (h ∷ hs) = let next : WorldState = (step w (GiveUp h)).1 in kept-both w next (after_all next (map GiveUp hs)) (kept-given_up w h) (all-kept next hs)

all-aside : (w : WorldState) (hs : List ℕ) → Aside w (after_all w (map GiveUp hs))
all-aside w [] = record { links = refl; plan = refl; injected = refl; harmed = refl }
all-aside w (h ∷ hs) =
    let next : WorldState = (step w (GiveUp h)).1 in
    let a = given_up-aside w h in
    let b = all-aside next hs in
    record { links = b.links ∙ a.links; plan = b.plan ∙ a.plan; injected = b.injected ∙ a.injected; harmed = b.harmed ∙ a.harmed }

first-false : (a b c : Bool) → (a || b || c) ≡ false → a ≡ false
first-false true b c e = absurd (true≢false e)
first-false false b c e = refl

unstaged-blank : (n : NodeState) → has_staged n ≡ false → n.staged ≡ None
unstaged-blank n e = no_some n.staged (first-false (is_some n.staged) (is_some n.reply) (is_some n.part_ack) e)

pub all-unstaged : (w : WorldState) (h : ℕ) → IsUnstaged (all_given_up w) h
all-unstaged w h = all-so (λ (n : NodeState). n.staged ≡ None) (record { given = λ n. refl; blank = unstaged-blank; absent = refl }) w h

pub kept-start : (w : WorldState) → IsAskKept w (all_given_up w)
kept-start w = all-kept w (addresses w)

pub ready-start : (made : ℕ) (w : WorldState) (mapper : ℕ) (walk : List ℤ) → CanAsk made w mapper walk → Ready (fabric_at w.links.cables made) made mapper (all_given_up w)
ready-start made w mapper walk can =
    let k = kept-start w in
    let a = all-aside w (addresses w) in
    record {
      over = over-pulled (fabric_at w.links.cables made) made k.pulled (record { stood = can.stood; past = refl });
      bare = subst IsBare (sym a.links) (idle-bare w.links can.world.links.slots can.idle);
      hosts = k.hosts ∙ can.world.hosts;
      unstaged = λ h other. all-unstaged w h;
      flips = k.byte_flips can.byte_flips;
    }
