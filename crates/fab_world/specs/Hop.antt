-- A hop: an advance into the next channel, or one that is blocked; and a run of hops.
use Rattle.std.specs.Prelude.{◌≡◌, ℕ, false}
use Rattle.world_defs.specs.Advance.{advance}
use Rattle.link_model.specs.Hop.{is_hop, IsRun}
use Rattle.link_model.specs.declared.hop.Hop.{Hop}
use Rattle.link_model.specs.declared.hop.Hop.TheVariants.{Moved, Blocked, Untried}
use Rattle.world_defs.specs.declared.event.Event.TheVariants.{Advance}
use Rattle.world_defs.specs.declared.effect.Effect.TheVariants.{Moved as MovedTo, Blocked as StaysFor}
use Rattle.world_defs.specs.World.{WorldState, with_links}
use Rattle.world_defs.specs.Step.{step}

-- A hop that moved its packet, or found it blocked, is the advance. It is left untried exactly where the advance goes
-- into no channel and waits for none; then nothing has changed.
abbrev pub IsHopIn : WorldState → ℕ → Hop → WorldState → Type 0
IsHopIn w c (Moved next) v = step w (Advance c) ≡ (MovedTo next, v)
IsHopIn w c (Blocked next) v = step w (Advance c) ≡ (StaysFor next, v)
IsHopIn w c Untried v = (v ≡ w) × (is_hop (advance w.links c).0 ≡ false)

-- the links made a run from a channel, of so many hops, to this channel, and nothing else has changed
abbrev pub IsRunIn : WorldState → ℕ → ℕ → ℕ → WorldState → Type 0
IsRunIn w c hops at v = IsRun w.links c hops at v.links × (v ≡ with_links w v.links)
