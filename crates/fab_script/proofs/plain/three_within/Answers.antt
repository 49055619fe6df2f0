use Rattle.std.proofs.Common.{◌≡◌, [], ◌∷◌, map, Ok, sym, ◌∙◌, arith}
use Rattle.fab_text.specs.Line.{words_of}
use Rattle.fab_text.specs.Word.{u32_of}
use Rattle.run_defs.specs.Script.{OfNumber}
use Rattle.fab_script.proofs.PlainWords.{plain-said}
use Rattle.fab_script.proofs.plain.three_within.Goals as goal

pub returns-clause-said : goal.returns-clause-said
returns-clause-said c =
    let said : map u32_of (words_of c.args.bytes.now) ≡ Ok c.in_ok-within.field-0 ∷ Ok c.in_ok-within-2.field-0 ∷ Ok c.in_ok-within-3.field-0 ∷ [] = c.in_ok-first.ensures ∙ (λ i. Ok (sym c.in_ok-within.ensures.same i) ∷ Ok (sym c.in_ok-within-2.ensures.same i) ∷ Ok (sym c.in_ok-within-3.ensures.same i) ∷ []) in
    plain-said (OfNumber 0 c.args.most ∷ OfNumber 0 c.args.second_most ∷ OfNumber 0 c.args.third_most ∷ []) (words_of c.args.bytes.now) (c.in_ok-within.field-0 ∷ c.in_ok-within-2.field-0 ∷ c.in_ok-within-3.field-0 ∷ []) said ((omega arith, omega arith), ((omega arith, omega arith), ((omega arith, omega arith), tt)))
