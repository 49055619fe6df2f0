-- Why a journal refuses an entry for which it has no index.
use Rattle.std.proofs.Common.{◌≡◌, Bool, true, false, Err, sym, subst, if◌then◌else◌}
use Rattle.journal_defs.specs.declared.entry.Entry.{Entry}
use Rattle.probe.specs.declared.journal.JournalPush.{JournalPush}
use Rattle.probe.specs.declared.journal.JournalPush.TheVariants.{Known, NoMemory}
use Rattle.probe.specs.Pushing.{PushesWhere}

-- known where the walk is there, and for want of memory where it isn't
pub unindexed : (T : Type 0) (there asked : Bool) (e : Entry) (refusal : JournalPush) → asked ≡ there → refusal ≡ (if there then Known else NoMemory) → PushesWhere {T = T} asked (Err (e, refusal))
unindexed T true asked e refusal same is = subst (λ r. PushesWhere {T = T} asked (Err (e, r))) (sym is) same
unindexed T false asked e refusal same is = subst (λ r. PushesWhere {T = T} asked (Err (e, r))) (sym is) same
