-- Every accepted text keeps its promise of the two hosts that restart.
use Rattle.std.proofs.Common.{◌≡◌, ℕ, take, Some}
use Rattle.std.specs.Prelude.{slice_get}
use Rattle.std.specs.List.{AllByRecursion}
use Rattle.duo_laws.proofs.Order.{got-prefix}
use Rattle.duo_laws.proofs.Owners.{one-owner}
use Rattle.duo_laws.proofs.Polls.{polls-right}
use Rattle.run_defs.specs.declared.command.Command.{Command}
use Rattle.fab_script.specs.Ranges.{IsCommandOf}
use Rattle.promise_laws.proofs.Duos.{duo_lines_depend_on_the_duo, duo_lines_keep_the_rest, others_keep_the_duo, duos_are_reached, left_duos_are_reached}
use Rattle.promise_laws.proofs.DuoLines.{duo_lines-show_what_is_got}
use Rattle.input_texts.specs.Reading.{AcceptedText}
use Rattle.fabric_run.specs.Duos.{IsDuoPromised}

-- where each of its commands is over its fabric
pub duos_promised : (a : AcceptedText) → ((k : ℕ) → AllByRecursion (IsCommandOf a.network) (take k a.commands)) → ((k : ℕ) (c : Command) → slice_get a.commands k ≡ Some c → IsCommandOf a.network c) → IsDuoPromised a
duos_promised a all each = record {
  reached = λ k out last d r e. duos_are_reached a.network (take k a.commands) out last d (all k) r e;
  left = λ s c left d is kept e. left_duos_are_reached a.network (take is.count a.commands) is.printed s c left d (all is.count) (each is.count c is.there) is.run kept e;
  lines = duo_lines_depend_on_the_duo;
  rest = duo_lines_keep_the_rest;
  others = others_keep_the_duo;
  in_order = got-prefix;
  owned = one-owner;
  polls = polls-right;
  received = λ k out last r. duo_lines-show_what_is_got a.network (take k a.commands) out last (all k) r;
}
