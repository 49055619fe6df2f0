-- A script that other lines follow: the commands up to `end`, and the lines after it.
use Rattle.std.specs.Prelude.{◌≡◌, ℕ, Bool, true, false, ◌&&◌, ◌||◌, List, [], ◌∷◌, ◌++◌, if◌then◌else◌, Result, Ok}
use Rattle.std.specs.Prelude.{Err, Vec}
use Rattle.std.specs.Prelude.{codes, bytes_eq}
use Rattle.std.specs.declared.alloc.Global.{Global}
use Rattle.net_defs.specs.Network.{Network}
use Rattle.fab_text.specs.declared.fault.FaultKind.{FaultKind}
use Rattle.fab_text.specs.declared.fault.FaultKind.TheVariants.{BadWord, NoEnd}
use Rattle.fab_text.specs.declared.fault.TextFault.{TextFault}
use Rattle.fab_text.specs.declared.fault.TextFault.TheVariants.{At, NoMemory}
use Rattle.fab_text.specs.Line.{TextLine, words_of}
use Rattle.fab_text.specs.Fault.{FirstFault, at_line, and_then}
use Rattle.run_defs.specs.declared.command.Command.{Command}
use Rattle.run_defs.specs.declared.command.Command.TheVariants.{Finish}
use Rattle.run_defs.specs.Script.{command_of, is_end}
use Rattle.fab_script.specs.Lists.{where_sound}

-- the first of these words is this one
abbrev pub begins_with : List ℕ → List (List ℕ) → Bool
begins_with word [] = false
begins_with word (first ∷ args) = bytes_eq first word

-- a line of which no report says enough: `duo`, of the two hosts that restart, or `plan pull`, since no line says when
-- a planned pull struck
abbrev pub is_unjudged : List (List ℕ) → Bool
is_unjudged [] = false
is_unjudged (first ∷ args) =
    bytes_eq first (codes "duo") || (bytes_eq first (codes "plan") && begins_with (codes "pull") args)

-- the command of a line, where each is one, or where those of which no report says enough are none
abbrev pub allowed_command : Bool → Network → List (List ℕ) → Result Command FaultKind
allowed_command true n ws = command_of n ws
allowed_command false n ws = if is_unjudged ws then Err BadWord else command_of n ws

-- Commands, and the lines that are left after them.
pub record ScriptPart : Type 0 where
  pub commands : List Command
  pub after : List TextLine

-- a command before others
abbrev pub before_part : Command → ScriptPart → Result ScriptPart FirstFault
before_part c p = Ok (record { commands = c ∷ p.commands; after = p.after })

-- The commands of the lines before `end`, and the lines after it; or the first fault. `past` is the number of the line
-- that is missing where none is `end`.
abbrev pub front_part : Bool → ℕ → Network → List TextLine → Result ScriptPart FirstFault
front_part every past n [] = Err (record { line = past; kind = NoEnd })
front_part every past n (l ∷ ls) =
    if is_end (words_of l.bytes) then Ok (record { commands = []; after = ls })
    else and_then (at_line l.number (allowed_command every n (words_of l.bytes))) (λ c.
    and_then (front_part every past n ls) (before_part c))

-- those of some lines that stand before `end`, and before the first that has a fault
abbrev pub front_sound : Bool → Network → List TextLine → List TextLine
front_sound every n [] = []
front_sound every n (l ∷ ls) =
    if is_end (words_of l.bytes) then []
    else where_sound (allowed_command every n (words_of l.bytes)) (l ∷ front_sound every n ls)

-- the commands with `end`
abbrev pub with_end : ScriptPart → Result ScriptPart FirstFault
with_end p = Ok (record { commands = p.commands ++ Finish ∷ []; after = p.after })

-- What a script says that a report follows: the commands of the first lines, of which the last is `end`, and the lines
-- after it; or the first fault. Lines of which no report says enough are none of its commands.
abbrev pub script_part : ℕ → Network → List TextLine → Result ScriptPart FirstFault
script_part past n ls = and_then (front_part false past n ls) with_end

-- commands in front of a part
abbrev pub part_after : List Command → Result ScriptPart FirstFault → Result ScriptPart FirstFault
part_after done r = and_then r (λ p. Ok (record { commands = done ++ p.commands; after = p.after }))

-- The answer is exactly what is said of the first lines, and these lines are left. Running out of memory may stand in
-- the place of any answer.
abbrev pub PartGives : Result ScriptPart FirstFault → List TextLine → Result (List Command) TextFault → Type 0
PartGives said left (Ok cs) = said ≡ Ok (record { commands = cs; after = left })
PartGives said left (Err (At line kind)) = said ≡ Err (record { line = line; kind = kind })
PartGives said left (Err NoMemory) = Unit {0}

-- the same of commands in memory
abbrev pub FrontGives : Result ScriptPart FirstFault → List TextLine → Result (Vec Command Global) TextFault → Type 0
FrontGives said left (Ok cs) = said ≡ Ok (record { commands = cs.items; after = left })
FrontGives said left (Err (At line kind)) = said ≡ Err (record { line = line; kind = kind })
FrontGives said left (Err NoMemory) = Unit {0}
