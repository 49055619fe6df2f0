use Rattle.std.proofs.Common.{◌≡◌, ◌<◌, ◌+◌, ◌++◌, ◌%◌, ◌∷◌, [], List, false, length, ap, sym, ◌∙◌, subst, arith}
use Rattle.std.specs.Prelude.{ℤ}
use Rattle.std.proofs.lemmas.List.{length-append, length-set}
use Rattle.net_defs.specs.Network.{Apart}
use Rattle.net_defs.proofs.Distinct.{apart-push}
use Rattle.probe.specs.Keeping.{has_walk}
use Rattle.probe.specs.Chained.{IsChained}
use Rattle.probe.proofs.Chaining.{chained-added}
use Rattle.probe.proofs.Indexing.{new-walk}
use Rattle.probe.proofs.walk_index.WalkIndex.push.Goals as goal

pub invariant_of-self : goal.invariant_of-self
invariant_of-self c = (c.self.invariant.0, λ some. absurd (let none = c.in_err-index.ensures.none in omega arith))

pub invariant_of-self-2 : goal.invariant_of-self-2
invariant_of-self-2 c =
    let walks : List (List ℤ) = c.self.inside.walks in
    let t : List ℤ = c.args.turns.now in
    let latest = c.make_room.new.chains.latest.items in
    let before = c.make_room.new.chains.before.items in
    let hash = c.hash_of.result in
    let same : c.push.new.self ≡ walks ++ t ∷ [] = c.in_ok-push.ensures.ok in
    let new : has_walk walks t ≡ false = ap (λ ws. has_walk ws t) c.self.view_is ∙ c.requires in
    let some : 0 < length latest = (let room = c.in_ok-make_room.ensures.buckets in omega arith) in (
      subst (λ (ws : List (List ℤ)). Apart ws) (sym same) (apart-push walks t c.self.invariant.0 (new-walk t walks new)),
      λ _. record {
        chained = subst (λ ws. IsChained ws c.add.new.chains.latest.items c.add.new.chains.before.items) (sym same)
            (chained-added walks t hash latest before c.add.new.chains.latest.items c.add.new.chains.before.items c.make_room.ensures.chained c.hash_of.ensures some c.add.ensures.latest c.add.ensures.before);
        enough = (let long = ap length same ∙ length-append walks (t ∷ []) in
            let size = ap length c.add.ensures.latest ∙ length-set latest (hash % length latest) (length before + 1) in
            let room = c.in_ok-make_room.ensures.buckets in omega arith);
      },
    )
