use Rattle.std.proofs.Common.{◌≡◌, ◌++◌, ◌∷◌, [], ℕ, List, ap, ◌∙◌}
use Rattle.replicate_merge.proofs.Starts.{start-shape, start-stands, start-table}
use Rattle.replicate_merge.proofs.classes.Classes.new.Goals as goal

pub invariant_of-result : goal.invariant_of-result
invariant_of-result c =
    let t = c.in_ok-joined.joined in
    let alone = c.in_ok-joined.ensures in
    let asked : c.push.new.self.items ≡ 0 ∷ [] = c.in_ok-push.ensures.items ∙ ap (λ (l : List ℕ). l ++ 0 ∷ []) c.new-asked.ensures.items in
    (start-table c.args.host t alone c.new.result c.new-2.result c.push.new.self.items c.new.ensures, start-shape c.args.host t alone c.new-2.result c.push.new.self.items asked, alone.closed)

pub returns : goal.returns
returns c =
    let t = c.in_ok-joined.joined in
    let alone = c.in_ok-joined.ensures in
    let asked : c.push.new.self.items ≡ 0 ∷ [] = c.in_ok-push.ensures.items ∙ ap (λ (l : List ℕ). l ++ 0 ∷ []) c.new-asked.ensures.items in
    start-stands c.args.host t alone c.new.result c.new-2.result c.push.new.self.items c.new.ensures c.new-2.ensures asked
