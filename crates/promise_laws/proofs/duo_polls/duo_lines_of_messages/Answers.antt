use Rattle.promise_laws.proofs.DuoLines.{duo_lines-show_what_is_got}
use Rattle.promise_laws.proofs.duo_polls.duo_lines_of_messages.Goals as goal

pub returns : goal.returns
returns c = duo_lines-show_what_is_got
