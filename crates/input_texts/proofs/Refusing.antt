-- A generated text is read, and none is refused.
use Rattle.std.proofs.Common.{◌≡◌, ◌≤◌, ℕ, List, Result, Ok, Err, ap, sym, subst, ◌∙◌}
use Rattle.fab_text.specs.declared.fault.FaultKind.{FaultKind}
use Rattle.fab_text.specs.declared.fault.TextFault.{TextFault}
use Rattle.fab_text.specs.declared.fault.TextFault.TheVariants.{At}
use Rattle.fab_text.specs.Fault.{FirstFault, and_then, TextGives}
use Rattle.fabric_gen.specs.Text.{gen_text}
use Rattle.input_texts.specs.Generated.{gen_fabric, gen_commands}
use Rattle.input_texts.specs.Reading.{AcceptedText, reading, reading_from}
use Rattle.input_texts.proofs.Accepting.{each-accepted}

-- every generated text is accepted
pub generated-accepted : (n seed : ℕ) → 2 ≤ n → n ≤ 24 → reading (gen_text n seed) ≡ Ok (record { network = gen_fabric n; commands = gen_commands n seed })
generated-accepted n seed two few =
    let is = each-accepted n seed two few in
    ap (λ r. and_then r (reading_from (gen_text n seed))) is.fabric
    ∙ ap (λ r. and_then r (λ cs. Ok (record { network = gen_fabric n; commands = cs }))) is.script

-- what was read is no fault
apart : (a : AcceptedText) (fault : FirstFault) → Ok a ≡ Err fault → ⊥
apart a fault p = cc

-- so none is refused
pub never-refused : (n seed : ℕ) (text : List ℕ) (r : Result AcceptedText TextFault) (fault : TextFault) (line : ℕ) (kind : FaultKind) → 2 ≤ n → n ≤ 24 → text ≡ gen_text n seed
    → TextGives (reading text) r → r ≡ Err fault → fault ≡ At line kind → ⊥
never-refused n seed text r fault line kind two few same gives is at =
    let said : TextGives (reading text) (Err (At line kind)) = subst (TextGives (reading text)) (is ∙ ap Err at) gives in
    apart (record { network = gen_fabric n; commands = gen_commands n seed }) (record { line = line; kind = kind })
    (sym (generated-accepted n seed two few) ∙ ap reading (sym same) ∙ said)
