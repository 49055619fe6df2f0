-- What the summary of every generated run says.
use Rattle.std.specs.Prelude.{◌≡◌, ℕ, ◌+◌, ◌-◌, ◌*◌, ◌≤◌, List, [], ◌∷◌}
use Rattle.net_defs.specs.Network.{Network}
use Rattle.run_defs.specs.declared.figure.Figure.{Figure}
use Rattle.run_defs.specs.declared.line.Line.TheVariants.{Routes, Installed, Settle, GenHead, GenMap, GenCount}
use Rattle.run_defs.specs.declared.line.MapWords.TheVariants.{Complete}
use Rattle.run_defs.specs.Output.{Piece}
use Rattle.run_defs.specs.Run.{IsRun}
use Rattle.run_defs.specs.Session.{SessionState}
use Rattle.run_defs.specs.Summary.{figures_in, summary}
use Rattle.input_texts.specs.Generated.{gen_fabric, gen_commands}

-- A summary has exactly six lines, in this order: a fabric of so many hosts and switches, and of one cable less than
-- both; a map that says complete; a route from each host to each other one; an installation that counts all hosts; four
-- messages of each host accepted, and as many received; and a settle that leaves nothing unacknowledged.
pub record HasSixLines (hosts seed : ℕ) (n : Network) (figures : List Figure) : Type 0 where
  pub asks : ℕ
  pub packets : ℕ
  pub rounds : ℕ
  pub resets : ℕ
  pub are : summary hosts seed n figures
      ≡ GenHead hosts seed hosts hosts (hosts + hosts - 1) ∷ GenMap Complete asks packets
      ∷ Routes (hosts * (hosts - 1)) ∷ Installed hosts hosts ∷ GenCount (4 * hosts) (4 * hosts)
      ∷ Settle rounds resets 0 ∷ []

-- each run of the commands of a generated text has such a summary, for 2 to 24 hosts and whatever the seed
abbrev pub GeneratedRunsHaveSixLines : Type 0
GeneratedRunsHaveSixLines =
    (hosts seed : ℕ) (out : List Piece) (last : SessionState) → 2 ≤ hosts → hosts ≤ 24
    → IsRun (gen_fabric hosts) (gen_commands hosts seed) out last
    → HasSixLines hosts seed (gen_fabric hosts) (figures_in out)
