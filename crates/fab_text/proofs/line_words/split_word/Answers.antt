use Rattle.std.proofs.Common.{◌≡◌, ◌≤◌, ◌∷◌, not, length, take, drop, arith, ap, sym, ◌∙◌}
use Rattle.std.specs.List.{position_or_len}
use Rattle.std.proofs.lemmas.List.Sums.{prefix_len-le-length}
use Rattle.fab_text.specs.Line.{is_blank, words_of}
use Rattle.fab_text.proofs.Cutting.{word-found, word-none}
use Rattle.fab_text.proofs.line_words.split_word.Goals as goal

pub split_at-requires-in-Some : goal.split_at-requires-in-Some
split_at-requires-in-Some c =
    let few : position_or_len is_blank c.split_at.result.1.now ≤ length c.split_at.result.1.now = prefix_len-le-length (λ x. not (is_blank x)) c.split_at.result.1.now in
    omega (arith, few, c.word_len.ensures)

pub returns-in-Some : goal.returns-in-Some
returns-in-Some c =
    let word = c.split_at.result.1.now in
    let n = position_or_len is_blank word in
    let front : c.split_at-in-Some.result.0.now ≡ take n word = c.split_at-in-Some.ensures.front ∙ ap (λ m. take m word) c.word_len.ensures in
    let back : c.split_at-in-Some.result.1.now ≡ drop n word = c.split_at-in-Some.ensures.back ∙ ap (λ m. drop m word) c.word_len.ensures in
    (word-found c.args.line.now c.in-Some.start c.in-Some.ensures).1
    ∙ ap (λ l. take (position_or_len is_blank l) l ∷ words_of (drop (position_or_len is_blank l) l)) (sym c.split_at.ensures.back)
    ∙ sym (λ i. front i ∷ words_of (back i))

pub returns-in-None : goal.returns-in-None
returns-in-None c = word-none c.args.line.now c.in-None.ensures
