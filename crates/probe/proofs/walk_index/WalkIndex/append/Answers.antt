use Rattle.std.proofs.Common.{◌≡◌, ◌++◌, ◌∷◌, [], List, false, ap, sym, ◌∙◌, subst, arith}
use Rattle.std.specs.Prelude.{ℤ, Result, Ok, Err, OnOk, OnErr}
use Rattle.net_defs.specs.Network.{Apart}
use Rattle.net_defs.proofs.Distinct.{apart-push}
use Rattle.probe.specs.Keeping.{has_walk}
use Rattle.probe.proofs.Indexing.{new-walk}
use Rattle.probe.proofs.walk_index.WalkIndex.append.Goals as goal

-- no walk stands twice, whether the new one was added or not
apart-either : {T E : Type 0} (walks now : List (List ℤ)) (t : List ℤ) (r : Result T E) → Apart walks → has_walk walks t ≡ false → OnOk r (now ≡ walks ++ t ∷ []) → OnErr r (now ≡ walks) → Apart now
apart-either walks now t (Ok x) apart new ok err = subst (λ (ws : List (List ℤ)). Apart ws) (sym ok) (apart-push walks t apart (new-walk t walks new))
apart-either walks now t (Err x) apart new ok err = subst (λ (ws : List (List ℤ)). Apart ws) (sym err) apart

pub invariant_of-self : goal.invariant_of-self
invariant_of-self c =
    let new : has_walk c.self.inside.walks c.args.turns.now ≡ false = ap (λ ws. has_walk ws c.args.turns.now) c.self.view_is ∙ c.requires in (
      apart-either c.self.inside.walks c.push.new.self c.args.turns.now c.push.result c.self.invariant.0 new c.push.ensures.ok c.push.ensures.err,
      λ some. absurd (let count = c.len-chained.ensures in let zero = c.if-chained-eq0.true in omega arith),
    )
