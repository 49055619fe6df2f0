-- When a journal refuses an entry.
use Rattle.std.specs.Prelude.{◌≡◌, Bool, true, false, Result, Ok, Err}
use Rattle.journal_defs.specs.declared.entry.Entry.{Entry}
use Rattle.probe.specs.declared.journal.JournalPush.{JournalPush}
use Rattle.probe.specs.declared.journal.JournalPush.TheVariants.{Known, NoMemory}

-- `Known` comes exactly where the walk is known; only where it isn't may memory run out
abbrev pub PushesWhere : {T : Type 0} → Bool → Result T (Entry × JournalPush) → Type 0
PushesWhere known (Ok x) = known ≡ false
PushesWhere known (Err (e, Known)) = known ≡ true
PushesWhere known (Err (e, NoMemory)) = known ≡ false
