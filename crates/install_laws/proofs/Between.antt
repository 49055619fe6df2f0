-- Between the sends of an installation: idle links, nothing staged but at the adopter, no reply to a probe, and no host for which a part of the set is old.
use Rattle.std.proofs.Common.{◌≡◌, ◌≢◌, ℕ, Bool, true, false, ◌||◌, length, None, is_some, refl, sym, ap, ◌∙◌, subst, true≢false}
use Rattle.std.proofs.Math.ListN.{length-set}
use Rattle.net_defs.specs.Network.{Network}
use Rattle.net_defs.proofs.Growing.{no_some}
use Rattle.world_defs.specs.Later.{OnlyPulled}
use Rattle.world_defs.proofs.CablesLater.{pulled-later, later-kept}
use Rattle.world_defs.specs.Links.{is_idle}
use Rattle.world_defs.specs.Table.{Adoption, is_old}
use Rattle.world_defs.specs.Node.{NodeState, Outgoing, new_node, has_staged, given_up, after_sending}
use Rattle.world_defs.specs.World.{WorldState, host_count, node_at, with_node, addresses}
use Rattle.world_defs.specs.Asking.{all_given_up}
use Rattle.world_defs.specs.EightBits.{HasByteFaults}
use Rattle.world_laws.specs.Shape.{IsWorld}
use Rattle.ask_laws.specs.Kept.{SamePorts, IsAskKept}
use Rattle.ask_laws.proofs.Lone.{IsBare, idle-bare}
use Rattle.ask_laws.proofs.Parcels.{SendKeeps}
use Rattle.ask_laws.proofs.Along.{given_up-of, asks-bare}
use Rattle.ask_laws.proofs.Keeping.{Stays, world-same, world-both, world-node, world-sent, nodes-at}
use Rattle.ask_laws.proofs.GivingUp.{all-so}
use Rattle.ask_laws.proofs.Ready.{kept-start}
use Rattle.ask_laws.proofs.Stood.{over-pulled}
use Rattle.install_laws.proofs.Since.{IsSince}
use Rattle.install_laws.specs.Kept.{IsInstallKept}
use Rattle.world_defs.proofs.Lists.{each-set}

pub same-ports : (n : NodeState) → SamePorts n n
same-ports n = record { lanes = refl; ports = refl }

ports-stay : Stays SamePorts
ports-stay = record { same = same-ports; both = λ k m n a b. record { lanes = b.lanes ∙ a.lanes; ports = b.ports ∙ a.ports } }

pub kept-same : (w : WorldState) → IsInstallKept w w
kept-same w = world-same SamePorts ports-stay w

pub kept-both : (u v w : WorldState) → IsInstallKept u v → IsInstallKept v w → IsInstallKept u w
kept-both u v w a b = world-both SamePorts ports-stay u v w a b

-- what an ask keeps, an installation keeps
pub kept-ask : (w v : WorldState) → IsAskKept w v → IsInstallKept w v
kept-ask w v k = record {
  pulled = k.pulled;
  hosts = k.hosts;
  nodes = λ h. let n = k.nodes h in record { lanes = n.lanes; ports = n.ports };
  clients = k.clients;
  adopted = k.adopted;
  unplanned = k.unplanned;
  byte_flips = k.byte_flips;
  injected = k.injected;
  struck = k.struck;
  harmed = k.harmed;
}

pub kept-node : (w : WorldState) (h : ℕ) (n : NodeState) → SamePorts (node_at w h) n → IsInstallKept w (with_node w h n)
kept-node w h n k = world-node SamePorts ports-stay w h n k

pub kept-sent : (w : WorldState) (h : ℕ) (out : Outgoing) (t : WorldState) → SamePorts (node_at w h) (after_sending (node_at w h) out) → SendKeeps w h out t → IsInstallKept w t
kept-sent w h out t same k = world-sent SamePorts ports-stay w h out t same k

-- a host between sends
pub record IsBetween (number mapper h : ℕ) (n : NodeState) : Type 0 where
  pub unstaged : h ≢ mapper → n.staged ≡ None
  pub no_reply : n.reply ≡ None
  pub due : is_old n.table number ≡ false

-- the cables since the adoption stay so as some are pulled
pub since-pulled : (n : Network) (a : Adoption) (w v : WorldState) → OnlyPulled w.links.cables v.links.cables → v.adopted ≡ w.adopted → IsSince n a w → IsSince n a v
since-pulled n a w v only same s =
    let k = later-kept (pulled-later only) in
    record { over = over-pulled n a.at only s.over; accepted = k.accepted ∙ s.accepted; adopted = same ∙ s.adopted }

-- and a world
pub record Between (n : Network) (a : Adoption) (w : WorldState) : Type 0 where
  pub since : IsSince n a w
  pub bare : IsBare w.links
  pub hosts : host_count w ≡ length n.hosts
  pub nodes : (h : ℕ) → IsBetween a.epoch a.mapper h (node_at w h)
  pub flips : HasByteFaults w

pub between-node : (n : Network) (a : Adoption) (w : WorldState) (h : ℕ) (m : NodeState) → Between n a w → IsBetween a.epoch a.mapper h m → Between n a (with_node w h m)
between-node n a w h m b here = record {
  since = record { over = b.since.over; accepted = b.since.accepted; adopted = b.since.adopted };
  bare = b.bare;
  hosts = length-set w.nodes h m ∙ b.hosts;
  nodes = λ j. each-set (IsBetween a.epoch a.mapper) w.nodes h j m (new_node 0) here b.nodes;
  flips = b.flips;
}

pub between-sent : (n : Network) (a : Adoption) (w : WorldState) (h : ℕ) (out : Outgoing) (t : WorldState) → Between n a w → IsBetween a.epoch a.mapper h (after_sending (node_at w h) out) → SendKeeps w h out t → Between n a t
between-sent n a w h out t b here k =
    let m : NodeState = after_sending (node_at w h) out in
    record {
      since = since-pulled n a w t k.pulled k.adopted b.since;
      bare = k.bare;
      hosts = ap length k.nodes ∙ length-set w.nodes h m ∙ b.hosts;
      nodes = λ j. subst (IsBetween a.epoch a.mapper j) (sym (nodes-at w t h j m k.nodes)) (each-set (IsBetween a.epoch a.mapper) w.nodes h j m (new_node 0) here b.nodes);
      flips = k.byte_flips b.flips;
    }

-- no host has anything left to give up
record IsBlank (n : NodeState) : Type 0 where
  staged : n.staged ≡ None
  reply : n.reply ≡ None

given_up-blank : (n : NodeState) → IsBlank (given_up n)
given_up-blank n = record { staged = refl; reply = refl }

unstaged-blank : (n : NodeState) → has_staged n ≡ false → IsBlank n
unstaged-blank n e = by (is_some n.staged) (is_some n.reply) (is_some n.part_ack) refl refl e
  where
    by : (a b c : Bool) → is_some n.staged ≡ a → is_some n.reply ≡ b → (a || b || c) ≡ false → IsBlank n
    by true b c p q r = absurd (true≢false r)
    by false true c p q r = absurd (true≢false r)
    by false false c p q r = record { staged = no_some n.staged p; reply = no_some n.reply q }

all-blank : (w : WorldState) (h : ℕ) → IsBlank (node_at (all_given_up w) h)
all-blank w h = all-so IsBlank (record { given = given_up-blank; blank = unstaged-blank; absent = record { staged = refl; reply = refl } }) w h

-- the start of an installation
pub between-start : (n : Network) (a : Adoption) (w : WorldState) → IsSince n a w → w.links.cables.hosts ≡ n.hosts → IsWorld w → is_idle w.links ≡ true → HasByteFaults w → ((h : ℕ) → is_old (node_at w h).table a.epoch ≡ false) → Between n a (all_given_up w)
between-start n a w since names is idle flips due =
    let k = kept-start w in
    let start : WorldState = all_given_up w in
    record {
      since = since-pulled n a w start k.pulled k.adopted since;
      bare = given_up-of (λ u v. IsBare u.links → IsBare v.links) asks-bare w (addresses w) (idle-bare w.links is.links.slots idle);
      hosts = k.hosts ∙ is.hosts ∙ ap length names;
      nodes = λ h. let b = all-blank w h in let e = (k.nodes h).table in record { unstaged = λ other. b.staged; no_reply = b.reply; due = subst (λ t. is_old t a.epoch ≡ false) (sym e) (due h) };
      flips = k.byte_flips flips;
    }
