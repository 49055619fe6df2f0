-- The full channels below here are marked.
use Rattle.std.proofs.Common.{◌≡◌, ◌<◌, ◌≤◌, ◌-◌, ℕ, length, None}
use Rattle.world_defs.specs.Links.{packet_in}
use Rattle.number_marks.specs.Marks.{mark_at}
use Rattle.world_drain.proofs.awake.mark_full.Given as goal

abbrev pub invariant-loop-c : goal.invariant-loop-c
invariant-loop-c l = record {
  within : l.from ≤ length l.w.links.channels;
  size : length l.marks.items ≡ length l.fn.marks.items;
  full : (k : ℕ) → k < l.from → mark_at l.marks.items k ≡ 0 → packet_in l.w.links k ≡ None;
}

abbrev pub decreases-loop-c : goal.decreases-loop-c
decreases-loop-c l = length l.w.links.channels - l.from
