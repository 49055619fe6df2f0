-- A text with its report, by its fabric and its script.
use Rattle.std.proofs.Common.{◌≡◌, ◌<◌, ◌+◌, ◌⊎◌, inl, inr, ℕ, false, List, length, drop, Result, Ok, Err, IfOk, IsOk, refl, ap, sym, ◌∙◌, subst, length-append, arith}
use Rattle.net_defs.specs.Network.{Network}
use Rattle.fab_text.specs.declared.fault.FaultKind.{FaultKind}
use Rattle.fab_text.specs.declared.fault.TextFault.{TextFault}
use Rattle.fab_text.specs.declared.fault.TextFault.TheVariants.{At, NoMemory}
use Rattle.fab_text.specs.Line.{TextLine, LinesLeft, lines_left, line_count}
use Rattle.fab_text.specs.Fault.{FirstFault, TextGives, and_then}
use Rattle.fabric_file.specs.declared.reading.FabricText.{FabricText}
use Rattle.fabric_file.specs.Reading.{fabric_reading, sound_lines as sound_of_fabric}
use Rattle.run_defs.specs.declared.command.Command.{Command}
use Rattle.fab_script.specs.Parts.{ScriptPart, script_part, front_sound, PartGives}
use Rattle.answer_defs.specs.declared.why.Why.{Why}
use Rattle.judge_defs.specs.Text.{JudgedText, judged_of, judged_from, judged_text, FailsFirstIn}
use Rattle.fab_judge.specs.declared.verdict.Verdict.{Verdict}
use Rattle.fab_judge.specs.declared.verdict.Verdict.TheVariants.{No}
use Rattle.fab_judge.specs.Verdicts.{IsFabricOf, IsVerdict, GivesVerdict, sound_after, sound_behind, sound_lines}

-- ---- the fabric, read again

same-value : {X E : Type 0} (r : Result X E) (x y : X) → r ≡ Ok x → r ≡ Ok y → x ≡ y
same-value r x y e f = cc

pub fabric-again : (text : List ℕ) (n : Network) (again : FabricText) → IsFabricOf text n → fabric_reading text ≡ Ok again → again.fabric ≡ n
fabric-again text n again is e = ap (λ (t : FabricText). t.fabric) (same-value (fabric_reading text) again is.part e is.reading) ∙ is.fabric

no-fault : (said : Result FabricText FirstFault) (t : FabricText) (fault : FirstFault) → said ≡ Ok t → said ≡ Err fault → ⊥
no-fault said t fault e f = cc

pub fabric-has-none : (text : List ℕ) (n : Network) (r : Result FabricText TextFault) (fault : TextFault) (line : ℕ) (kind : FaultKind)
    → IsFabricOf text n → TextGives (fabric_reading text) r → r ≡ Err fault → fault ≡ At line kind → ⊥
fabric-has-none text n r fault line kind is gives e at =
    let said : TextGives (fabric_reading text) (Err (At line kind)) = subst (TextGives (fabric_reading text)) (e ∙ ap Err at) gives in
    no-fault (fabric_reading text) is.part (record { line = line; kind = kind }) is.reading said

-- ---- a text whose fabric was read

-- the lines after `script`
abbrev script_lines : List ℕ → FabricText → List TextLine
script_lines text t = lines_left (record { number = t.line + 1; text = drop t.next text })

-- what is judged of a text, by the lines after `script`
over : (past : ℕ) (text : List ℕ) (t : FabricText) (from : LinesLeft) → from ≡ (record { number = t.line + 1; text = drop t.next text })
    → judged_from past text t ≡ and_then (script_part past t.fabric (lines_left from)) (judged_of past t)
over past text t from e = ap (λ k. and_then (script_part past t.fabric (lines_left k)) (judged_of past t)) (sym e)

pub over-judged : (past : ℕ) (text : List ℕ) (t : FabricText) (from : LinesLeft) (left : List TextLine) (cs : List Command) (r : Result Verdict TextFault)
    → from ≡ (record { number = t.line + 1; text = drop t.next text }) → PartGives (script_part past t.fabric (lines_left from)) left (Ok cs)
    → IsVerdict t.fabric past cs left r → GivesVerdict (judged_from past text t) r
over-judged past text t from left cs (Ok v) e g d =
    (record { network = t.fabric; commands = cs; report = left; past = past }, over past text t from e ∙ ap (λ p. and_then p (judged_of past t)) g, d)
over-judged past text t from left cs (Err (At line kind)) e g d = absurd d
over-judged past text t from left cs (Err NoMemory) e g d = tt

pub over-accepted : (past : ℕ) (text : List ℕ) (t : FabricText) (from : LinesLeft) (left : List TextLine) (cs : List Command)
    → from ≡ (record { number = t.line + 1; text = drop t.next text }) → PartGives (script_part past t.fabric (lines_left from)) left (Ok cs) → IsOk (judged_from past text t)
over-accepted past text t from left cs e g = subst (λ (j : Result JudgedText FirstFault). IsOk j) (sym (over past text t from e ∙ ap (λ p. and_then p (judged_of past t)) g)) refl

pub over-fault : (past : ℕ) (text : List ℕ) (t : FabricText) (from : LinesLeft) (left : List TextLine) (fault : TextFault)
    → from ≡ (record { number = t.line + 1; text = drop t.next text }) → PartGives (script_part past t.fabric (lines_left from)) left (Err fault)
    → GivesVerdict (judged_from past text t) (Err fault)
over-fault past text t from left (At line kind) e g = over past text t from e ∙ ap (λ p. and_then p (judged_of past t)) g
over-fault past text t from left NoMemory e g = tt

then-ok : (past : ℕ) (t : FabricText) (p : Result ScriptPart FirstFault) → IsOk p → IsOk (and_then p (judged_of past t))
then-ok past t (Ok p) o = refl
then-ok past t (Err fault) o = cc

pub over-memory : (past : ℕ) (text : List ℕ) (t : FabricText) (from : LinesLeft)
    → from ≡ (record { number = t.line + 1; text = drop t.next text })
    → (0 < length (front_sound false t.fabric (lines_left from))) ⊎ IsOk (script_part past t.fabric (lines_left from))
    → (0 < length (sound_after text t)) ⊎ IsOk (judged_from past text t)
over-memory past text t from e (inl some) = inl (subst (λ (k : LinesLeft). 0 < length (front_sound false t.fabric (lines_left k))) e some)
over-memory past text t from e (inr o) =
    inr (subst (λ (j : Result JudgedText FirstFault). IsOk j) (sym (over past text t from e)) (then-ok past t (script_part past t.fabric (lines_left from)) o))

-- ---- a text

text-by : (text : List ℕ) (t : FabricText) → fabric_reading text ≡ Ok t → judged_text text ≡ judged_from (line_count text + 1) text t
text-by text t e = ap (λ o. and_then o (judged_from (line_count text + 1) text)) e

pub text-over : (text : List ℕ) (t : FabricText) (r : Result Verdict TextFault) → fabric_reading text ≡ Ok t → GivesVerdict (judged_from (line_count text + 1) text t) r → GivesVerdict (judged_text text) r
text-over text t r e g = subst (λ o. GivesVerdict o r) (sym (text-by text t e)) g

pub text-fault : (text : List ℕ) (fault : TextFault) → TextGives (fabric_reading text) (Err fault) → GivesVerdict (judged_text text) (Err fault)
text-fault text (At line kind) e = ap (λ o. and_then o (judged_from (line_count text + 1) text)) e
text-fault text NoMemory e = tt

pub fabric-memory : (text : List ℕ) → 0 < length (sound_of_fabric text) → (0 < length (sound_lines text)) ⊎ IsOk (judged_text text)
fabric-memory text some = let sum = length-append (sound_of_fabric text) (sound_behind text (fabric_reading text)) in inl (omega (arith, some, sum))

pub script-memory : (text : List ℕ) (t : FabricText) → fabric_reading text ≡ Ok t
    → (0 < length (sound_after text t)) ⊎ IsOk (judged_from (line_count text + 1) text t) → (0 < length (sound_lines text)) ⊎ IsOk (judged_text text)
script-memory text t e (inl some) =
    let sum = length-append (sound_of_fabric text) (sound_behind text (fabric_reading text)) in
    let there : 0 < length (sound_behind text (fabric_reading text)) = subst (λ r. 0 < length (sound_behind text r)) (sym e) some in
    inl (omega (arith, there, sum))
script-memory text t e (inr o) = inr (subst (λ (j : Result JudgedText FirstFault). IsOk j) (sym (text-by text t e)) o)

-- ---- what a verdict says

pub verdict-no : (text : List ℕ) (r : Result Verdict TextFault) (line : ℕ) (why : Why) → GivesVerdict (judged_text text) r → r ≡ Ok (No line why) → FailsFirstIn text line why
verdict-no text r line why g e =
    let h = subst (λ v. GivesVerdict (judged_text text) v) e g in record { judged = h.0; said = h.1; fails = h.2 }

pub verdict-accepted : (text : List ℕ) (r : Result Verdict TextFault) → GivesVerdict (judged_text text) r → IfOk r (λ v. IsOk (judged_text text))
verdict-accepted text (Ok v) g = subst (λ (j : Result JudgedText FirstFault). IsOk j) (sym g.1) refl
verdict-accepted text (Err e) g = tt
