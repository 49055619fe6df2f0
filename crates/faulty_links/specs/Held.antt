-- The part of a world that its links keep: what the channels and limbo hold, the plan of faults, and the counts.
use Rattle.std.specs.Prelude.{◌≡◌, ℕ, ◌+◌, ◌&&◌, ◌||◌, Bool, true, false, not, nat_eq, nat_le, List, Option, Some, None}
use Rattle.std.specs.Prelude.{is_some, is_none, if◌then◌else◌}
use Rattle.std.specs.Map.{lookup}
use Rattle.net_defs.specs.declared.vertex.End.{End}
use Rattle.world_defs.specs.declared.moved.Moved.{Moved}
use Rattle.world_defs.specs.declared.moved.Moved.TheVariants.{AtHost}
use Rattle.world_defs.specs.Links.{LinkState, packet_in, is_idle, put}
use Rattle.world_defs.specs.Advance.{advance}
use Rattle.world_defs.specs.declared.effect.Effect.TheVariants.{Idle, Injected, Moved as MovedTo, Blocked}
use Rattle.world_defs.specs.declared.fault.Fault.{Fault}
use Rattle.world_defs.specs.declared.fault.Fault.TheVariants.{Pull}
use Rattle.world_defs.specs.declared.arrival.Arrival.{Arrival}
use Rattle.world_defs.specs.declared.effect.Effect.{Effect}
use Rattle.world_defs.specs.Node.{NodeState, Outgoing, packet_for, after_sending}
use Rattle.world_defs.specs.Hearing.{hear}
use Rattle.world_defs.specs.World.{WorldState, host_count, last_count, node_at, with_node, with_drop, keeps_out}
use Rattle.world_defs.specs.Step.{lost, advanced, arrived, inject_one, planned_strikes}
use Rattle.link_model.specs.Hop.{is_hop, IsRun}
use Rattle.link_model.specs.declared.hop.Hop.{Hop}
use Rattle.link_model.specs.declared.hop.Hop.TheVariants.{Moved as Hopped, Blocked as Waits, Untried}

-- How many injections there were, how many packets were dropped, and how many planned faults struck, and of these how
-- many lost, held or flipped their packet.
pub record CountState : Type 0 where
  pub injected : ℕ
  pub dropped : ℕ
  pub struck : ℕ
  pub harmed : ℕ

-- the counts after an injection for which a fault was planned: whether it struck, and whether it is one that harms
abbrev pub behind_fault : CountState → Bool → Bool → CountState
behind_fault n strikes is_harm = record n {
  injected = n.injected + 1;
  struck = if strikes then n.struck + 1 else n.struck;
  harmed = if strikes then (if is_harm then n.harmed + 1 else n.harmed) else n.harmed;
}

-- The links with their fabric, the planned faults by rising injection, and the counts: a world without its hosts,
-- their clients and the adopted routes.
pub record LinksAndPlan : Type 0 where
  pub links : LinkState
  pub plan : List (ℕ × Fault)
  pub injected : ℕ
  pub dropped : ℕ
  pub struck : ℕ
  pub harmed : ℕ

-- the part of a world
abbrev pub of_world : WorldState → LinksAndPlan
of_world w = record {
  links = w.links;
  plan = w.plan;
  injected = w.injected;
  dropped = w.dropped;
  struck = w.struck;
  harmed = w.harmed;
}

-- the world with this part, and the hosts, clients and routes that it has
abbrev pub with_part : WorldState → LinksAndPlan → WorldState
with_part w p = record w {
  links = p.links;
  plan = p.plan;
  injected = p.injected;
  dropped = p.dropped;
  struck = p.struck;
  harmed = p.harmed;
}

-- the part of these links, this plan and these counts
abbrev pub part_of : LinkState → List (ℕ × Fault) → CountState → LinksAndPlan
part_of links plan counts = record {
  links = links;
  plan = plan;
  injected = counts.injected;
  dropped = counts.dropped;
  struck = counts.struck;
  harmed = counts.harmed;
}

-- a channel is empty, and an injection is left for it
abbrev pub can_inject : LinksAndPlan → ℕ → Bool
can_inject p c = not (is_some (packet_in p.links c) || nat_le last_count p.injected)

-- no channel holds a packet, an injection is left, and no fault is planned for it
abbrev pub is_clear : LinksAndPlan → Bool
is_clear p =
    is_idle p.links && (not (nat_le last_count p.injected) && is_none (lookup (nat_eq (p.injected + 1)) p.plan))

-- the part after one injection more, whose packet is in no channel any more
abbrev pub one_injected : LinksAndPlan → LinksAndPlan
one_injected p = record p { injected = p.injected + 1 }

-- the port at which a planned fault pulls a cable, where it is a pull
abbrev pub pull_end : Option Fault → Option End
pull_end (Some (Pull at)) = Some at
pull_end _ = None

-- the world in which a packet of these bytes was put into a channel under the next number, before a planned fault
-- strikes
abbrev pub put_under_next : WorldState → ℕ → List ℕ → WorldState
put_under_next w c wire = record w { links = (put w.links c wire).1; injected = w.injected + 1 }

-- the host that a packet reached, and the packet
abbrev pub reached_by : Moved (List ℕ) → Option (ℕ × List ℕ)
reached_by (AtHost h wire) = Some (h, wire)
reached_by _ = None

-- the host that a channel's packet reaches by its next advance, and the packet; none where it reaches no host, or the
-- channel is empty
abbrev pub reaching : LinkState → ℕ → Option (ℕ × List ℕ)
reaching s c = reached_by (advance s c).0

-- in each world with these links an advance of the channel is that the packet is gone as if it were lost, and that the
-- host hears it
abbrev pub IsHeardAt : LinksAndPlan → ℕ → ℕ → List ℕ → Type 0
IsHeardAt p c h wire = (w : WorldState) → advanced (with_part w p) c
    ≡ arrived (lost (with_part w p) c).1 h (hear h (host_count w) (node_at w h) wire)

-- an arrival at a host of a channel's packet is reported so, and leaves these links, in which the channel is empty,
-- whatever it made of the host
abbrev pub IsToldOf : LinksAndPlan → ℕ → ℕ → Arrival → Effect → LinksAndPlan → Type 0
IsToldOf old c h arrival effect new = (w : WorldState) (n : NodeState)
    → arrived (lost (with_part w old) c).1 h (arrival, n) ≡ (effect, with_part (with_node w h n) new)

-- a packet of these links was dropped at a host, and counts
abbrev pub CountsDrop : LinksAndPlan → LinksAndPlan → Type 0
CountsDrop old new = (w : WorldState) → with_drop (with_part w old) ≡ with_part w new

-- A hop that moved its packet, or found it blocked, is the advance in every world with these links. It is left untried
-- exactly where the advance goes into no channel and waits for none; then nothing has changed.
abbrev pub IsHopOf : LinksAndPlan → ℕ → Hop → LinksAndPlan → Type 0
IsHopOf old c (Hopped next) new = (w : WorldState) → advanced (with_part w old) c ≡ (MovedTo next, with_part w new)
IsHopOf old c (Waits next) new = (w : WorldState) → advanced (with_part w old) c ≡ (Blocked next, with_part w new)
IsHopOf old c Untried new = (new ≡ old) × (is_hop (advance old.links c).0 ≡ false)

-- the links made a run from a channel, of so many hops, to this channel, and nothing else has changed
abbrev pub IsRunOf : LinksAndPlan → ℕ → ℕ → ℕ → LinksAndPlan → Type 0
IsRunOf old c hops at new = IsRun old.links c hops at new.links × (new ≡ record old { links = new.links })

-- a world with its own part is that world
abbrev pub WorldHasItsPart : Type 0
WorldHasItsPart = (w : WorldState) → with_part w (of_world w) ≡ w

-- the part of a world with a part is that part
abbrev pub PartOfWorldWithPart : Type 0
PartOfWorldWithPart = (w : WorldState) (p : LinksAndPlan) → of_world (with_part w p) ≡ p

-- an injection from a host into a channel that can take it, and whose cable doesn't keep it out, is the put under the
-- next number, in the world whose host counts it as sent
abbrev pub InjectionIsPut : Type 0
InjectionIsPut =
    (w : WorldState) (h c : ℕ) (out : Outgoing) → can_inject (of_world w) c ≡ true → keeps_out w c out ≡ false
    → inject_one w h c (Some out) ≡ (
      Injected (w.injected + 1),
      planned_strikes (put_under_next (with_node w h (after_sending (node_at w h) out)) c
          (packet_for h (w.injected + 1) out)) c,
    )

-- an injection that a new cable keeps out is idle
abbrev pub InjectionIsKeptOut : Type 0
InjectionIsKeptOut = (w : WorldState) (h c : ℕ) (out : Outgoing) → keeps_out w c out ≡ true
    → inject_one w h c (Some out) ≡ (Idle, w)

-- an injection into a channel that can't take it is idle
abbrev pub InjectionIsIdle : Type 0
InjectionIsIdle = (w : WorldState) (h c : ℕ) (out : Outgoing) → can_inject (of_world w) c ≡ false
    → inject_one w h c (Some out) ≡ (Idle, w)
