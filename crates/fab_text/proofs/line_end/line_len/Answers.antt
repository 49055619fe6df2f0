use Rattle.std.proofs.Common.{◌≡◌, ◌≤◌, ◌+◌, ◌-◌, ℕ, Bool, List, not, length, take, drop, ap, sym, ◌∙◌, arith, rules, length-take-le}
use Rattle.std.specs.List.{prefix_len}
use Rattle.std.proofs.lemmas.List.{take_all, length-drop, drop-drop}
use Rattle.std.proofs.lemmas.List.Sums.{prefix_len-le-length}
use Rattle.fab_text.specs.Line.{is_line_end}
use Rattle.fab_text.proofs.Ends.{in-front, past-front}
use Rattle.fab_text.proofs.line_end.line_len.Goals as goal

abbrev goes_on : ℕ → Bool
goes_on b = not (is_line_end b)

-- the text after a place is the piece from there on
whole : (k : ℕ) (text : List ℕ) → take (length text - k) (drop k text) ≡ drop k text
whole k text = take_all (length text - k) (drop k text) (omega (arith, length-drop k text))

pub returns-then-before-lt-LANES : goal.returns-then-before-lt-LANES
returns-then-before-lt-LANES c =
    let k = c.passing.passed in
    let rest = drop k c.args.text.now in
    let long : 16 ≤ length rest = omega (arith, length-drop k c.args.text.now) in
    let near = c.front_len-before.ensures ∙ ap (λ (l : List ℕ). prefix_len goes_on (take 16 l)) (whole k c.args.text.now) in
    let here = in-front goes_on 16 rest long (omega arith) in
    let all = c.passing.invariant.rest in
    omega arith

pub passing-preserved : goal.passing-preserved
passing-preserved c =
    let k = c.passing.passed in
    let rest = drop k c.args.text.now in
    let long : 16 ≤ length rest = omega (arith, length-drop k c.args.text.now) in
    let near = c.front_len-before.ensures ∙ ap (λ (l : List ℕ). prefix_len goes_on (take 16 l)) (whole k c.args.text.now) in
    let few = prefix_len-le-length goes_on (take 16 rest) in
    let sixteen = length-take-le 16 rest long in
    let before : c.front_len-before.result ≡ 16 = omega arith in
    let past = past-front goes_on 16 rest long (omega arith) in
    let after : drop 16 rest ≡ drop (k + c.front_len-before.result) c.args.text.now = drop-drop 16 k c.args.text.now ∙ ap (λ n. drop (k + n) c.args.text.now) (sym before) in
    let behind = ap (prefix_len goes_on) after in
    let all = c.passing.invariant.rest in
    record { within = omega arith; rest = omega arith }

pub overflow_add-result : goal.overflow_add-result
overflow_add-result c =
    let few = prefix_len-le-length goes_on (take (length c.args.text.now - c.passing.passed) (drop c.passing.passed c.args.text.now)) in
    let piece = ap length (whole c.passing.passed c.args.text.now) ∙ length-drop c.passing.passed c.args.text.now in
    let sum : c.passing.passed + c.len_by_one.result ≤ length c.args.text.now = omega (arith, c.len_by_one.ensures) in
    search (rules, sum)
