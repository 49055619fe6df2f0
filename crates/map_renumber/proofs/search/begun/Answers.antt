use Rattle.std.proofs.Common.{◌≡◌, ◌++◌, ◌∷◌, ℕ, List, [], Option, Some, None, length, replicate, set, ap, ◌∙◌, rules}
use Rattle.std.specs.Prelude.{ℤ, pos}
use Rattle.map_renumber.proofs.Steps.{begins}
use Rattle.map_renumber.proofs.search.begun.Goals as goal

pub returns : goal.returns
returns c =
    let none : c.in_ok-numbers.numbers.items ≡ replicate (length c.vertices.result.now) None = c.in_ok-numbers.ensures.items_if_clones_equal (λ y k. search rules) in
    begins c.args.m.now c.push.new.self.items (set c.in_ok-numbers.numbers.items 0 (Some 0)) c.requires (c.in_ok-push.ensures.items ∙ ap (λ (l : List (ℕ × ℤ)). l ++ (0, pos 0) ∷ []) c.new-found.ensures.items) (ap (λ (os : List (Option ℕ)). set os 0 (Some 0)) (none ∙ ap (λ n. replicate n None) (ap length c.vertices.ensures.value)))
