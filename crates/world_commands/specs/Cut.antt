-- Which commands are refused, and what is left of one where memory runs out.
use Rattle.std.specs.Prelude.{◌≡◌, Bool, true, false, [], ◌∷◌, Option, Some}
use Rattle.world_defs.specs.declared.effect.Effect.TheVariants.{Said}
use Rattle.world_defs.specs.declared.event.Event.{Event}
use Rattle.world_defs.specs.Step.{step}
use Rattle.world_defs.specs.World.{WorldState}
use Rattle.run_defs.specs.declared.command.Command.{Command}
use Rattle.run_defs.specs.declared.line.Line.{Line}
use Rattle.run_defs.specs.declared.line.Line.TheVariants.{MapBusy, NoMap, InstallRefused, Client}
use Rattle.run_defs.specs.declared.line.Line.TheVariants.{Pull, Plug, NoBroken}
use Rattle.run_defs.specs.declared.line.PlugWords.TheVariants.{PortUsed, Full}
use Rattle.run_defs.specs.Outcome.{Outcome, outcome}
use Rattle.run_defs.specs.Output.{OneLine}
use Rattle.run_defs.specs.Session.{SessionState, LastMap, LastRoutes}
use Rattle.fab_report.specs.Printed.{PrintedState}
use Rattle.fab_world.specs.Held.{is_refusal}
use Rattle.world_commands.specs.declared.out_of_memory.OutOfMemory.{OutOfMemory}
use Rattle.world_commands.specs.declared.out_of_memory.OutOfMemory.TheVariants.{InDoing, InLine}
use Rattle.world_commands.specs.Done.{IsDone, session_of}

-- a line refuses its command
abbrev pub is_refusal_line : Line → Bool
is_refusal_line (MapBusy host) = true
is_refusal_line NoMap = true
is_refusal_line (InstallRefused cause) = true
is_refusal_line (Client call host port said) = is_refusal (Said said)
is_refusal_line (Pull at false) = true
is_refusal_line (Plug a b PortUsed) = true
is_refusal_line (Plug a b Full) = true
is_refusal_line NoBroken = true
is_refusal_line _ = false

-- A session refuses a command: what it prints is the one line of a refusal.
pub record IsRefused (s : SessionState) (c : Command) : Type 0 where
  pub line : Line
  pub after : SessionState
  pub prints : outcome s c ≡ Some (record { output = OneLine line ∷ []; after = after })
  pub refuses : is_refusal_line line ≡ true

-- Where memory ran out in a session, and this world is left: the session doesn't refuse the command; or only its line's
-- text is missing, and the world is the one after it.
abbrev pub HidesNoRefusal : SessionState → Command → WorldState → OutOfMemory → Type 0
HidesNoRefusal s c after InDoing = ¬ IsRefused s c
HidesNoRefusal s c after InLine = (o : Outcome) × (outcome s c ≡ Some o) × (after ≡ o.after.world)

-- What is left of a command over a world where memory runs out. While it was done: nothing of it was done, and no
-- session of that world refuses it. In its line: it was done, or refused, and nothing but its line's text is missing.
pub data IsLeft (c : Command) (before after : WorldState) : OutOfMemory → Type 0 where
  undone : after ≡ before
      → ((made : Option LastMap) → (found : Option LastRoutes) → ¬ IsRefused (session_of before made found) c)
      → IsLeft c before after InDoing
  unprinted : (told : PrintedState) → IsDone c before after told → IsLeft c before after InLine

-- the same of an event: it didn't happen, or nothing but its text is missing
abbrev pub IsEventLeft : Event → WorldState → WorldState → OutOfMemory → Type 0
IsEventLeft event before after InDoing = after ≡ before
IsEventLeft event before after InLine = after ≡ (step before event).1
