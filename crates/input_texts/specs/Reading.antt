-- What a text says: a fabric, and then the commands of its script; or its first fault.
use Rattle.std.specs.Prelude.{◌≡◌, ℕ, List, [], ◌∷◌, ◌++◌, drop, Result, Ok, Err, codes, decimal}
use Rattle.net_defs.specs.Network.{Network}
use Rattle.fab_text.specs.Fault.{FirstFault, and_then, kind_word}
use Rattle.fab_text.specs.Line.{TextLine}
use Rattle.fab_text.specs.Written.{line_text}
use Rattle.fabric_file.specs.declared.reading.FabricText.{FabricText}
use Rattle.fabric_file.specs.Reading.{fabric_reading, sound_lines as sound_of_fabric}
use Rattle.fab_script.specs.Lists.{sound_lines as sound_of_script}
use Rattle.run_defs.specs.declared.command.Command.{Command}
use Rattle.run_defs.specs.Script.{script_reading}

-- the most bytes of an input
abbrev pub input_limit : ℕ
input_limit = 1048576

-- A fabric, and the commands of a script over it.
pub record AcceptedText : Type 0 where
  pub network : Network
  pub commands : List Command

-- what a text says whose fabric part says this
abbrev pub reading_from : List ℕ → FabricText → Result AcceptedText FirstFault
reading_from text t = and_then (script_reading t.fabric t.line (drop t.next text)) (λ commands.
    Ok (record { network = t.fabric; commands = commands }))

-- What a text says, where it is accepted; or else its first fault.
abbrev pub reading : List ℕ → Result AcceptedText FirstFault
reading text = and_then (fabric_reading text) (reading_from text)

-- the sound lines of a script, where the fabric part of its text says this
abbrev pub sound_behind : List ℕ → Result FabricText FirstFault → List TextLine
sound_behind text (Ok t) = sound_of_script t.fabric t.line (drop t.next text)
sound_behind text (Err fault) = []

-- The sound lines of a text: those before its first fault, of its fabric part and of its script.
abbrev pub sound_lines : List ℕ → List TextLine
sound_lines text = sound_of_fabric text ++ sound_behind text (fabric_reading text)

-- a text is accepted: it says this
abbrev pub IsAccepted : List ℕ → AcceptedText → Type 0
IsAccepted text a = reading text ≡ Ok a

-- the one line of a text that isn't accepted: the line of its first fault, and the fault's kind
abbrev pub refusal_text : FirstFault → List ℕ
refusal_text f = line_text (codes "refused" ∷ decimal f.line ∷ kind_word f.kind ∷ [])
