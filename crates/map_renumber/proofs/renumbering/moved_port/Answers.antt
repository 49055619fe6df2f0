use Rattle.std.proofs.Common.{◌≡◌, ℕ, List, Option, Some, None, map, get_or, unwrap_or, ap, sym, ◌∙◌}
use Rattle.std.specs.Prelude.{ℤ, ◌-ℤ◌}
use Rattle.std.proofs.lemmas.Option.{get_or_from_slice_get}
use Rattle.map_renumber.specs.Search.{port_of_pair, entry_of, number_of}
use Rattle.map_renumber.proofs.Steps.{entry-is, less-entry}
use Rattle.map_renumber.proofs.renumbering.moved_port.Goals as goal

pub returns-clause-port : goal.returns-clause-port
returns-clause-port c =
    let items : List (ℕ × ℤ) = c.args.search.now.found.items in
    let numbers : List (Option ℕ) = c.args.search.now.numbers.items in
    let n = c.requires.number in
    let had : Some c.unwrap-number.result ≡ Some n = sym c.unwrap-number.ensures ∙ c.index.ensures ∙ get_or_from_slice_get numbers c.args.v (Some n) c.index.result.now c.requires.is_number in
    let number : c.unwrap-number.result ≡ n = cc in
    let entry : c.index-2.result.now ≡ c.requires.entry = c.index-2.ensures ∙ ap (λ k. get_or items k c.index-2.result.now) number ∙ get_or_from_slice_get items n c.requires.entry c.index-2.result.now c.requires.there in
    let is : number_of numbers c.args.v ≡ n = ap (λ (o : Option ℕ). unwrap_or o 0) (get_or_from_slice_get numbers c.args.v (Some n) None c.requires.is_number) in
    let from : entry_of (map port_of_pair items) (number_of numbers c.args.v) ≡ c.requires.entry.1 = ap (entry_of (map port_of_pair items)) is ∙ entry-is items n c.requires.entry c.requires.there in
    less-entry c.args.p c.index-2.result.now.1 c.requires.entry.1 c.requires.in_range c.requires.entry_in_range (ap (λ (x : ℕ × ℤ). x.1) entry) ∙ ap (λ z. c.args.p -ℤ z) (sym from)
