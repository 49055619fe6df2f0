-- The state of the link machine by its parts.
use Rattle.std.specs.Prelude.{ℕ, List, Option}
use Rattle.world_defs.specs.History.{CableHistory}
use Rattle.world_defs.specs.Links.{Held, Caught, LinkState}

-- the links by their parts
abbrev pub state : CableHistory → ℕ → List (Option Held) → List (ℕ × Caught) → ℕ → LinkState
state cables epoch channels limbo serial =
    record { cables = cables; epoch = epoch; channels = channels; limbo = limbo; next_serial = serial }
