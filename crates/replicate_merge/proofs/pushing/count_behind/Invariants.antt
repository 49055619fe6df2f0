use Rattle.std.proofs.Common.{◌≡◌, ◌≤◌, take}
use Rattle.journal_defs.specs.Walks.{onward_turns}
use Rattle.replicate_merge.specs.Onward.{known_among}
use Rattle.replicate_merge.proofs.pushing.count_behind.Given as goal

abbrev pub invariant-loop-place : goal.invariant-loop-place
invariant-loop-place l = record {
  walk : l.next.items ≡ l.walk;
  few : l.count ≤ l.place;
  known : l.count ≡ known_among l.walks l.orphans l.walk (take l.place onward_turns);
}
