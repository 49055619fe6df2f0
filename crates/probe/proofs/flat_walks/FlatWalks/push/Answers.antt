use Rattle.std.proofs.Common.{◌≡◌, ◌+◌, ◌++◌, ◌∷◌, [], length, ap, sym, ◌∙◌, subst, arith}
use Rattle.probe.specs.Flat.{walks_in, AreEnds}
use Rattle.probe.proofs.FlatParts.{walks-push, ends-push}
use Rattle.probe.proofs.flat_walks.FlatWalks.push.Goals as goal

pub returns-clause-ok : goal.returns-clause-ok
returns-clause-ok c =
    let turns = c.self.inside.turns.items in
    let ends = c.self.inside.ends.items in
    let more = c.args.turns.now in
    let end = c.in_ok-end.end in
    let all : c.extend_from_slice.new.self.items ≡ turns ++ more = c.in_ok-extend_from_slice.ensures.items in
    let each : c.push_reserved.new.self.items ≡ ends ++ end ∷ [] = c.push_reserved.ensures.items ∙ ap (λ es. es ++ end ∷ []) c.reserve.ensures.items in
    let is : end ≡ length turns + length more = (let e = c.in_ok-end.ensures in let n = c.len.ensures in omega arith) in
    (λ i. walks_in (all i) 0 (each i)) ∙ walks-push turns more 0 ends end c.self.invariant is ∙ ap (λ ws. ws ++ more ∷ []) c.self.view_is

pub invariant_of-self-2 : goal.invariant_of-self-2
invariant_of-self-2 c =
    let turns = c.self.inside.turns.items in
    let ends = c.self.inside.ends.items in
    let more = c.args.turns.now in
    let end = c.in_ok-end.end in
    let all : c.extend_from_slice.new.self.items ≡ turns ++ more = c.in_ok-extend_from_slice.ensures.items in
    let each : c.push_reserved.new.self.items ≡ ends ++ end ∷ [] = c.push_reserved.ensures.items ∙ ap (λ es. es ++ end ∷ []) c.reserve.ensures.items in
    let is : end ≡ length turns + length more = (let e = c.in_ok-end.ensures in let n = c.len.ensures in omega arith) in
    subst (λ ts. AreEnds ts 0 c.push_reserved.new.self.items) (sym all)
    (subst (λ es. AreEnds (turns ++ more) 0 es) (sym each) (ends-push turns more 0 ends end c.self.invariant is))
