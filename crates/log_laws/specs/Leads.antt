-- A log leads to its world by events of eight bits.
use Rattle.std.specs.Prelude.{ℕ, ℤ, List}
use Rattle.world_defs.specs.EightBits.{IsByteEvent}
use Rattle.world_defs.specs.Table.{Adoption}
use Rattle.world_defs.specs.World.{WorldState}
use Rattle.world_defs.specs.Log.{Log}
use Rattle.world_defs.specs.Logs as log
use Rattle.world_defs.specs.Row.{IsRow}

-- the events of a log flip eight bits at most, and lead to its world
abbrev pub Leads : {A : Type 0} → WorldState → Log A → Type 0
Leads w l = IsRow IsByteEvent w l.events l.world

-- those of a drain do
abbrev pub DrainLeads : Type 0
DrainLeads = (w : WorldState) → Leads w (log.drain w)

-- those of a clear do
abbrev pub ClearLeads : Type 0
ClearLeads = (w : WorldState) → Leads w (log.clear w)

-- those of a settle do
abbrev pub SettleLeads : Type 0
SettleLeads = (w : WorldState) → Leads w (log.settle w)

-- those of one ask do
abbrev pub AskLeads : Type 0
AskLeads = (made mapper k : ℕ) (walk : List ℤ) (w : WorldState) → Leads w (log.ask made mapper k walk w)

-- those of asks in a row do
abbrev pub AsksLead : Type 0
AsksLead =
    (made mapper k : ℕ) (walks : List (List ℤ)) (w : WorldState) → Leads w (log.asks made mapper k walks w)

-- and so do those of an installation
abbrev pub InstallLeads : Type 0
InstallLeads = (a : Adoption) (hosts : List ℕ) (k : ℕ) (w : WorldState) → Leads w (log.install a hosts k w)
