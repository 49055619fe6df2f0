-- What the words of a command line ask for.
use Rattle.std.specs.Prelude.{◌≡◌, ◌≤◌, ℕ, List, [], ◌∷◌, ◌&&◌, nat_le, if◌then◌else◌, Option, Some, None, Result, Ok}
use Rattle.std.specs.Prelude.{Err, bytes_eq, codes}
use Rattle.fab_text.specs.declared.fault.NumFault.{NumFault}
use Rattle.fab_text.specs.Word.{u32_of}
use Rattle.input_texts.specs.declared.form.Form.{Form}
use Rattle.input_texts.specs.declared.form.Form.TheVariants.{Run, Judge, Gen}

-- a number that was read, where it is one from the least to the most
abbrev pub within : ℕ → ℕ → Result ℕ NumFault → Option ℕ
within least most (Ok k) = if nat_le least k && nat_le k most then Some k else None
within least most (Err fault) = None

-- the number that a word says by the rule of a text, where it is one from the least to the most
abbrev pub number_from : ℕ → ℕ → List ℕ → Option ℕ
number_from least most word = within least most (u32_of word)

-- so many hosts, and a seed
abbrev pub gen_of : Option ℕ → Option ℕ → Option Form
gen_of (Some n) (Some seed) = Some (Gen n seed)
gen_of _ _ = None

-- after `gen` stand two numbers: hosts from 2 to 24, and a seed up to 1,000,000
abbrev pub gen_form : List (List ℕ) → Option Form
gen_form (n ∷ seed ∷ []) = gen_of (number_from 2 24 n) (number_from 0 1000000 seed)
gen_form _ = None

-- `run` and `judge` stand alone
abbrev pub alone_form : Form → List (List ℕ) → Option Form
alone_form form [] = Some form
alone_form form (word ∷ words) = None

-- what words ask for, by the first of them
abbrev pub form_by : List ℕ → List (List ℕ) → Option Form
form_by first others =
    if bytes_eq first (codes "run") then alone_form Run others
    else if bytes_eq first (codes "judge") then alone_form Judge others
    else if bytes_eq first (codes "gen") then gen_form others
    else None

-- What words ask for: `run`, `judge`, or `gen N SEED`; none where they are none of the forms.
abbrev pub form_of : List (List ℕ) → Option Form
form_of [] = None
form_of (first ∷ others) = form_by first others

-- the numbers of a form are of their ranges
abbrev pub IsInRange : Form → Type 0
IsInRange Run = Unit {0}
IsInRange Judge = Unit {0}
IsInRange (Gen n seed) = (2 ≤ n) × (n ≤ 24) × (seed ≤ 1000000)

-- the words ask for the run of a text
abbrev pub IsRunForm : List (List ℕ) → Type 0
IsRunForm words = form_of words ≡ Some Run

-- the words ask for the judgement of a report after its text
abbrev pub IsJudgeForm : List (List ℕ) → Type 0
IsJudgeForm words = form_of words ≡ Some Judge
