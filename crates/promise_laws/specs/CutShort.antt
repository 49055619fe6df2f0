-- A command is cut short where memory runs out: a prefix of the acts of its deed leads to the world.
use Rattle.std.specs.Prelude.{◌≡◌, ◌⊎◌, ℕ, ◌≤◌, ℤ, List, map, length}
use Rattle.std.specs.List.{AllByRecursion}
use Rattle.net_defs.specs.Network.{Network, IsFabric}
use Rattle.journal_defs.specs.declared.entry.Entry.{Entry}
use Rattle.journal_defs.specs.Tree.{nodes}
use Rattle.journal_defs.specs.Growth.{IsGrowing, IsEndedAtLimit, NextAsk, node_limit}
use Rattle.world_defs.specs.World.{WorldState}
use Rattle.world_defs.specs.Sound.{IsPrefix, IsSound}
use Rattle.world_defs.specs.Acts.{Act, acted_all}
use Rattle.world_defs.specs.Logs as log
use Rattle.world_defs.specs.Row.{IsPartWay}
use Rattle.run_defs.specs.declared.command.Command.{Command}
use Rattle.run_defs.specs.declared.command.Command.TheVariants.{Map}
use Rattle.run_defs.specs.Output.{Piece}
use Rattle.run_defs.specs.Session.{SessionState}
use Rattle.run_defs.specs.Deed.{Deed}
use Rattle.run_defs.specs.Run.{IsDeed, IsRun}
use Rattle.mapping_laws.specs.Laws.{CanMap}
use Rattle.run_laws.specs.Acts.{IsActOf}

-- A prefix of these acts leads from one world to the other.
pub record IsPartActed (w : WorldState) (acts : List Act) (v : WorldState) : Type 0 where
  pub done : List Act
  pub front : IsPrefix done acts
  pub there : v ≡ acted_all w done

-- A command was cut short in a session: nothing of it was done, or a prefix of the acts of its deed, and this world is
-- left.
pub data IsCutShort (s : SessionState) (c : Command) (v : WorldState) : Type 0 where
  undone : v ≡ s.world → IsCutShort s c v
  part_done : (d : Deed) → IsDeed s c d → IsPartActed s.world d.acts v → IsCutShort s c v

-- A map from a host, to a depth, with so many tries an ask, was begun over a world and stopped in another: between two
-- asks of a journal that grows to its depth, or within the next one.
pub data IsBegunMap (host depth tries : ℕ) (w v : WorldState) : Type 0 where
  stopped_between : (j : List Entry) → IsGrowing host depth j → (length (nodes j) ≤ node_limit) ⊎ IsEndedAtLimit j
      → (log.asks w.links.cables.changes host tries (map (λ e. e.walk) j) w).value.entries ≡ j
      → v ≡ (log.asks w.links.cables.changes host tries (map (λ e. e.walk) j) w).world → IsBegunMap host depth tries w v
  stopped_within : (j : List Entry) (x : List ℤ) (between : WorldState) → IsGrowing host depth j
      → length (nodes j) ≤ node_limit
      → (log.asks w.links.cables.changes host tries (map (λ e. e.walk) j) w).value.entries ≡ j
      → between ≡ (log.asks w.links.cables.changes host tries (map (λ e. e.walk) j) w).world → NextAsk host depth j x
      → IsPartWay between (log.ask w.links.cables.changes host tries x between).events v
      → IsBegunMap host depth tries w v

-- Where a map can be made, one that was begun and stopped is the command cut short: its asks are the first ones of the
-- one map that there is.
abbrev pub BegunMapsAreCutShort : Type 0
BegunMapsAreCutShort = (s : SessionState) (host depth tries : ℕ) (v : WorldState) → CanMap host depth s.world
    → IsBegunMap host depth tries s.world v → IsCutShort s (Map host depth tries) v

-- After every run, a command that is cut short leaves a sound world.
abbrev pub CutCommandsLeaveSound : Type 0
CutCommandsLeaveSound =
    (n : Network) (commands : List Command) (out : List Piece) (s : SessionState) (c : Command) (v : WorldState)
    → IsFabric n → AllByRecursion (IsActOf n) commands → IsActOf n c → IsRun n commands out s → IsCutShort s c v
    → IsSound v
