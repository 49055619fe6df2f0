-- One line more of a part of a script, and that a script is its part with nothing after it.
use Rattle.std.proofs.Common.{◌≡◌, ◌<◌, ℕ, ◌+◌, List, [], ◌∷◌, ◌++◌, Bool, true, false, length, Result, Ok, Err, IsOk, Vec, refl, ap, sym, subst, ◌∙◌, append_assoc, if◌then◌else◌, arith}
use Rattle.net_defs.specs.Network.{Network}
use Rattle.std.specs.declared.alloc.Global.{Global}
use Rattle.fab_text.specs.declared.fault.FaultKind.{FaultKind}
use Rattle.fab_text.specs.declared.fault.TextFault.{TextFault}
use Rattle.fab_text.specs.declared.fault.TextFault.TheVariants.{At, NoMemory}
use Rattle.fab_text.specs.Line.{TextLine, words_of, lines_left, line_count}
use Rattle.fab_text.specs.Fault.{FirstFault, TextGives, at_line, and_then}
use Rattle.run_defs.specs.declared.command.Command.{Command}
use Rattle.run_defs.specs.Script.{command_of, ended, is_end, script_from, script_reading}
use Rattle.fab_script.specs.LineLists.{behind}
use Rattle.fab_script.specs.Lists.{where_sound, sound_from, sound_lines}
use Rattle.fab_script.specs.Parts.{ScriptPart, allowed_command, before_part, front_part, front_sound, part_after, FrontGives}

-- a part after one command more
after-one : (done : List Command) (c : Command) (r : Result ScriptPart FirstFault) → part_after done (and_then r (before_part c)) ≡ part_after (done ++ c ∷ []) r
after-one done c (Ok p) = ap (λ cs. Ok (record { commands = cs; after = p.after })) (sym (append_assoc done (c ∷ []) p.commands))
after-one done c (Err e) = refl

-- what the lines from a line on say, where it is `end`, and where it isn't
abbrev front_line : Bool → ℕ → Network → TextLine → List TextLine → Bool → Result ScriptPart FirstFault
front_line every past n l ls last =
    if last then Ok (record { commands = []; after = ls }) else and_then (at_line l.number (allowed_command every n (words_of l.bytes))) (λ c. and_then (front_part every past n ls) (before_part c))

-- one command more
pub part-kept : (every : Bool) (past : ℕ) (n : Network) (all : Result ScriptPart FirstFault) (done new : List Command) (ls rest : List TextLine) (l : TextLine) (c : Command)
    → all ≡ part_after done (front_part every past n ls) → ls ≡ l ∷ rest → false ≡ is_end (words_of l.bytes)
    → allowed_command every n (words_of l.bytes) ≡ Ok c → new ≡ done ++ c ∷ [] → all ≡ part_after new (front_part every past n rest)
part-kept every past n all done new ls rest l c a e s g h =
    a
    ∙ ap (part_after done) (ap (front_part every past n) e ∙ sym (ap (front_line every past n l rest) s) ∙ ap (λ r. and_then (at_line l.number r) (λ c. and_then (front_part every past n rest) (before_part c))) g)
    ∙ after-one done c (front_part every past n rest)
    ∙ ap (λ d. part_after d (front_part every past n rest)) (sym h)

-- the sound lines from a line on, where it is `end`, and where it isn't
abbrev sound_line : Bool → Network → TextLine → List TextLine → Bool → List TextLine
sound_line every n l ls last =
    if last then [] else where_sound (allowed_command every n (words_of l.bytes)) (l ∷ front_sound every n ls)

where_sound-some : {X E : Type 0} (r : Result X E) (l : TextLine) (ls : List TextLine) → IsOk r → 0 < length (where_sound r (l ∷ ls))
where_sound-some (Ok x) l ls o = omega arith
where_sound-some (Err e) l ls o = cc

-- a line of a command is sound
pub sound-command : (every : Bool) (n : Network) (ls rest : List TextLine) (l : TextLine) → ls ≡ l ∷ rest → false ≡ is_end (words_of l.bytes) → IsOk (allowed_command every n (words_of l.bytes)) → 0 < length (front_sound every n ls)
sound-command every n ls rest l e s o =
    subst (λ k. 0 < length k) (sym (ap (front_sound every n) e ∙ sym (ap (sound_line every n l rest) s))) (where_sound-some (allowed_command every n (words_of l.bytes)) l (front_sound every n rest) o)

-- a script of which a part was read
abbrev pub whole : Result ScriptPart FirstFault → Result (List Command) FirstFault
whole r = and_then r (λ p. behind p.commands (ended p.after))

whole-more : (c : Command) (r : Result ScriptPart FirstFault) → behind (c ∷ []) (whole r) ≡ whole (and_then r (before_part c))
whole-more c (Ok p) = by (ended p.after)
  where
    by : (r : Result (List Command) FirstFault) → behind (c ∷ []) (behind p.commands r) ≡ behind (c ∷ p.commands) r
    by (Ok cs) = refl
    by (Err e) = refl
whole-more c (Err e) = refl

none-before : (r : Result (List Command) FirstFault) → r ≡ behind [] r
none-before (Ok cs) = refl
none-before (Err e) = refl

-- a script is its part with nothing after it
pub script-part : (past : ℕ) (n : Network) (ls : List TextLine) → script_from past n ls ≡ whole (front_part true past n ls)
script-part past n [] = refl
script-part past n (l ∷ ls) = by (is_end (words_of l.bytes)) (command_of n (words_of l.bytes)) (script-part past n ls)
  where
    by : (last : Bool) (r : Result Command FaultKind) → script_from past n ls ≡ whole (front_part true past n ls)
        → (if last then ended ls else and_then (at_line l.number r) (λ c. behind (c ∷ []) (script_from past n ls)))
        ≡ whole (if last then Ok (record { commands = []; after = ls }) else and_then (at_line l.number r) (λ c. and_then (front_part true past n ls) (before_part c)))
    by true r e = none-before (ended ls)
    by false (Ok c) e = ap (behind (c ∷ [])) e ∙ whole-more c (front_part true past n ls)
    by false (Err k) e = refl

-- a sound line in front is one of the script
pub sound-front : (n : Network) (ls : List TextLine) → 0 < length (front_sound true n ls) → 0 < length (sound_from n ls)
sound-front n [] h = h
sound-front n (l ∷ ls) h = by (is_end (words_of l.bytes)) (command_of n (words_of l.bytes)) h
  where
    by : (last : Bool) (r : Result Command FaultKind) → 0 < length (if last then [] else where_sound r (l ∷ front_sound true n ls))
        → 0 < length (if last then where_sound (ended ls) (l ∷ []) else where_sound r (l ∷ sound_from n ls))
    by true r g = omega (arith, g)
    by false (Ok c) g = omega arith
    by false (Err k) g = g

sound-last : (r : Result (List Command) FirstFault) (l : TextLine) → IsOk r → 0 < length (where_sound r (l ∷ []))
sound-last (Ok cs) l o = omega arith
sound-last (Err e) l o = cc

-- where a part was read and nothing follows it, some line is sound
pub sound-part : (past : ℕ) (n : Network) (ls : List TextLine) (p : ScriptPart) → front_part true past n ls ≡ Ok p → IsOk (ended p.after) → 0 < length (sound_from n ls)
sound-part past n [] p e o = cc
sound-part past n (l ∷ ls) p e o = by (is_end (words_of l.bytes)) (command_of n (words_of l.bytes)) e
  where
    by : (last : Bool) (r : Result Command FaultKind)
        → (if last then Ok (record { commands = []; after = ls }) else and_then (at_line l.number r) (λ c. and_then (front_part true past n ls) (before_part c))) ≡ Ok p
        → 0 < length (if last then where_sound (ended ls) (l ∷ []) else where_sound r (l ∷ sound_from n ls))
    by true r g = let same : ls ≡ p.after = cc in sound-last (ended ls) l (subst (λ k. IsOk (ended k)) (sym same) o)
    by false (Ok c) g = omega arith
    by false (Err k) g = cc

-- the lines of a text after so many
abbrev lines_of : ℕ → List ℕ → List TextLine
lines_of line text = lines_left (record { number = line + 1; text = text })

-- the front of such a script
abbrev pub front_of : Network → ℕ → List ℕ → Result ScriptPart FirstFault
front_of n line text = front_part true (line + 1 + line_count text) n (lines_of line text)

-- one line past so many and so many more
line_past : (line count : ℕ) → line + count + 1 ≡ line + 1 + count
line_past line count = omega arith

-- a script is its front with nothing after it
front_script : (n : Network) (line : ℕ) (text : List ℕ) → script_reading n line text ≡ whole (front_of n line text)
front_script n line text =
    ap (λ p. script_from p n (lines_of line text)) (line_past line (line_count text)) ∙ script-part (line + 1 + line_count text) n (lines_of line text)

-- a script has the fault of its front
pub front_fault : (n : Network) (line : ℕ) (text : List ℕ) (left : List TextLine) (e : TextFault) → FrontGives (front_of n line text) left (Err e) → TextGives (script_reading n line text) (Err e)
front_fault n line text left (At k kind) h = front_script n line text ∙ ap whole h
front_fault n line text left NoMemory h = tt

-- a script is what comes of its front and of the lines after it
pub front_whole : (n : Network) (line : ℕ) (text : List ℕ) (left : List TextLine) (cs : Vec Command Global) (r : Result (List Command) TextFault) → FrontGives (front_of n line text) left (Ok cs)
    → TextGives (behind cs.items (ended left)) r → TextGives (script_reading n line text) r
front_whole n line text left cs r h g = subst (λ s. TextGives s r) (sym (front_script n line text ∙ ap whole h)) g

-- memory ran out in front after a sound line
pub front_memory : (n : Network) (line : ℕ) (text : List ℕ) → 0 < length (front_sound true n (lines_of line text)) → 0 < length (sound_lines n line text)
front_memory n line text h = sound-front n (lines_of line text) h

-- memory ran out at `end`, which is sound then
pub whole_memory : (n : Network) (line : ℕ) (text : List ℕ) (left : List TextLine) (cs : Vec Command Global) → FrontGives (front_of n line text) left (Ok cs) → IsOk (ended left) → 0 < length (sound_lines n line text)
whole_memory n line text left cs h o = sound-part (line + 1 + line_count text) n (lines_of line text) (record { commands = cs.items; after = left }) h o
