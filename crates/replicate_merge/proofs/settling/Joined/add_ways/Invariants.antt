use Rattle.std.proofs.Common.{◌≡◌, ◌≤◌, ℕ, ◌+◌, ◌++◌, List, take}
use Rattle.std.specs.Prelude.{vec_len, vec_capacity}
use Rattle.journal_defs.specs.declared.entry.Entry.{Entry}
use Rattle.replicate_merge.specs.declared.way.Way.{Way}
use Rattle.replicate_merge.specs.Nodes.{nodes_of}
use Rattle.replicate_merge.specs.Rounds.{IsSettlingIn}
use Rattle.replicate_merge.specs.Ways.{Has, IsWay}
use Rattle.replicate_merge.proofs.settling.Joined.add_ways.Given as goal

abbrev pub invariant-loop-way : goal.invariant-loop-way
invariant-loop-way l = record {
  adds : (host : ℕ) (j asks : List Entry) (ws : List Way) → IsSettlingIn host j asks (nodes_of l.walks) ws l.initial.self l.initial.self.todo.items → ((w : Way) → Has l.ways w → IsWay host j (nodes_of l.walks) w) → IsSettlingIn host j asks (nodes_of l.walks) (ws ++ take l.way-index l.ways) l.self l.self.todo.items;
  heads : l.self.heads ≡ l.initial.self.heads;
  hosts : vec_len l.self.hosts ≤ vec_len l.initial.self.hosts + l.way-index;
  host_capacity : vec_capacity l.self.hosts ≡ vec_capacity l.initial.self.hosts;
  few : vec_len l.self.todo ≤ vec_len l.initial.self.todo + l.way-index;
  capacity : vec_capacity l.self.todo ≡ vec_capacity l.initial.self.todo;
}
