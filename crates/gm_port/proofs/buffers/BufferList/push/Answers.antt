use Rattle.std.proofs.Common.{◌≡◌, ◌<◌, ◌++◌, [], ◌∷◌, length, map, ◌||◌, is_some, sym, ap, subst, ◌∙◌, arith}
use Rattle.std.proofs.lemmas.List.{length-append, length-map}
use Rattle.gm_port.specs.Held.{Buffers, provided_at, provided_of}
use Rattle.gm_port.specs.Lists.{AreOwnTokens, IsFillingOnlyIf}
use Rattle.gm_port.specs.Tallies.{AreTallied, numbers_of}
use Rattle.gm_port.proofs.Beginning.{fills-more}
use Rattle.gm_port.proofs.Tallies.{counts_few, tallied_more, numbers-more, numbers-long, own-more}
use Rattle.gm_port.proofs.buffers.BufferList.push.Goals as goal

pub add-requires : goal.add-requires
add-requires c =
    let b = c.self.inside in
    let few = c.self.invariant.0.few in
    let long = numbers-long b.provided.items in
    let most = counts_few b.tally (numbers_of b.provided.items) c.number.result b.limit c.self.invariant.1 (omega (arith, few, long)) in
    omega (arith, most)

pub invariant_of-self : goal.invariant_of-self
invariant_of-self c =
    let b = c.self.inside in
    let k = c.self.invariant.0 in
    let r = c.args.r in
    let items = c.push_back_reserved.ensures.items in
    let own : provided_at b.host b.port (provided_of r) ≡ r = subst (λ (x : Buffers). provided_at x.host x.port (provided_of r) ≡ r) (sym c.self.view_is) c.requires.own in
    let room : length (map provided_of b.provided.items) < b.limit = subst (λ (x : Buffers). length x.provided < x.limit) (sym c.self.view_is) c.requires.room in
    let long = length-map b.provided.items provided_of in
    let more = length-append b.provided.items (r ∷ []) in
    let last = ap length items in
    let capacity = c.push_back_reserved.ensures.capacity in
    let roomy = k.roomy in
    let numbers : numbers_of c.push_back_reserved.new.self.items ≡ numbers_of b.provided.items ++ c.number.result ∷ [] =
    ap numbers_of items ∙ numbers-more b.provided.items r ∙ ap (λ n. numbers_of b.provided.items ++ n ∷ []) (sym c.number.ensures) in (
      record {
        own = subst (AreOwnTokens b.host b.port) (sym items) (own-more b.host b.port b.provided.items r k.own own);
        few = omega (arith, room, long, more, last);
        roomy = omega (arith, capacity, roomy);
        none_listed = k.none_listed;
        list_roomy = k.list_roomy;
      },
      subst (AreTallied c.add.new.self) (sym numbers)
          (subst (λ t. AreTallied t (numbers_of b.provided.items ++ c.number.result ∷ [])) (sym c.add.ensures) (tallied_more b.tally (numbers_of b.provided.items) c.number.result c.self.invariant.1)),
      subst (λ s. IsFillingOnlyIf (b.may_fill || s) c.push_back_reserved.new.self.items) (sym c.is_some.ensures)
          (subst (IsFillingOnlyIf (b.may_fill || is_some r.filling)) (sym items) (fills-more b.provided.items r b.may_fill c.self.invariant.2)),
    )
