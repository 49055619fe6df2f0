-- A packet that a host injects into idle links, and that goes to its end at once.
use Rattle.std.specs.Prelude.{◌≡◌, ℕ, ◌+◌, ◌<◌, ◌&&◌, true, not, List, Option, None, Result, Ok, Err, if◌then◌else◌}
use Rattle.net_defs.specs.Route.{host_port}
use Rattle.world_defs.specs.declared.moved.Why.{Why}
use Rattle.world_defs.specs.declared.event.Event.TheVariants.{Inject, Advance}
use Rattle.world_defs.specs.declared.effect.Effect.{Effect}
use Rattle.world_defs.specs.declared.effect.Effect.TheVariants.{Injected, Dropped}
use Rattle.world_defs.specs.Crossed.{leaving}
use Rattle.world_defs.specs.Links.{is_idle}
use Rattle.world_defs.specs.Node.{has_staged}
use Rattle.world_defs.specs.Hearing.{hear}
use Rattle.world_defs.specs.World.{WorldState, host_count, last_count, node_at, with_drop}
use Rattle.world_defs.specs.Step.{step, arrived, cause_at_switch}
use Rattle.link_model.specs.FullSlots.{IsLone}
use Rattle.faulty_links.specs.Held.{of_world, is_clear}
use Rattle.fab_world.specs.Hop.{IsRunIn}

-- the channel of a host, where a packet that it injects is alone and unharmed, and it has nothing staged
abbrev pub clear_way : WorldState → ℕ → Option ℕ
clear_way w h =
    if is_clear (of_world w) && not (has_staged (node_at w h)) then leaving w.links.cables (host_port h) else None

-- the world after one injection more, whose packet is in no channel any more
abbrev pub one_injected : WorldState → WorldState
one_injected w = record w { injected = w.injected + 1 }

-- the end of a packet that was injected and carried at once: a host hears it, or a switch dropped it
abbrev pub ends_alone : WorldState → Result ℕ Why → List ℕ → Effect × WorldState
ends_alone w (Ok h) wire = arrived (one_injected w) h (hear h (host_count w) (node_at w h) wire)
ends_alone w (Err why) wire = (Dropped (cause_at_switch why), with_drop (one_injected w))

-- Events from one world to another: the host injects a packet under a number, which is alone in the links; it makes so
-- many hops; and the advance by which it leaves them has an effect. The links are idle then, and as they were.
pub record IsCarriedIn (first : WorldState) (h number hops : ℕ) (x : Effect) (last : WorldState) : Type 0 where
  pub entered : WorldState
  pub ran : WorldState
  pub c : ℕ
  pub at : ℕ
  pub left : first.injected < last_count
  pub injects : step first (Inject h) ≡ (Injected number, entered)
  pub lone : IsLone entered.links.channels c
  pub run : IsRunIn entered c hops at ran
  pub stays : IsLone ran.links.channels at
  pub leaves : step ran (Advance at) ≡ (x, last)
  pub links : last.links ≡ first.links
  pub idle : is_idle last.links ≡ true
