use Rattle.std.proofs.Common.{◌≡◌, [], ◌∷◌, map, Ok, sym, ◌∙◌, arith}
use Rattle.fab_text.specs.Line.{words_of}
use Rattle.fab_text.specs.Word.{u32_of}
use Rattle.run_defs.specs.Script.{OfNumber}
use Rattle.fab_script.proofs.PlainWords.{named-said}
use Rattle.fab_script.proofs.plain.name_and_one.Goals as goal

pub returns-clause-said : goal.returns-clause-said
returns-clause-said c =
    let said : map u32_of (words_of c.in_ok-name.behind.now) ≡ Ok c.in_ok-number.number ∷ [] = c.in_ok-one_number.ensures ∙ (λ i. Ok (sym c.in_ok-number.ensures.same i) ∷ []) in
    named-said c.in_ok-name.name.now (OfNumber 0 c.args.most ∷ []) (words_of c.args.args.now) (words_of c.in_ok-name.behind.now) (c.in_ok-number.number ∷ []) c.in_ok-name.ensures said ((omega arith, omega arith), tt)
