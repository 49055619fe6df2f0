use Rattle.std.proofs.Common.{◌≡◌, drop, option_map, None}
use Rattle.rank_cert.specs.Listing.{rise_after, port_of}
use Rattle.rank_cert.proofs.ranks.are_rising.Given as goal

abbrev pub invariant-loop-entry : goal.invariant-loop-entry
invariant-loop-entry l = rise_after (option_map port_of l.before) (drop l.entry-index l.entries) ≡ rise_after None l.entries
