use Rattle.std.proofs.Common.{◌≡◌, ◌<◌, ◌+◌, ◌*◌, ◌%◌, ◌++◌, ◌∷◌, [], List, false, length, map, ap, sym, ◌∙◌, subst, arith}
use Rattle.std.specs.Prelude.{ℤ}
use Rattle.std.proofs.lemmas.List.{length-append, length-set, map-append}
use Rattle.net_defs.proofs.Distinct.{apart-push}
use Rattle.net_defs.specs.Network.{Apart}
use Rattle.journal_defs.specs.Tree.{is_asked}
use Rattle.probe.specs.Keeping.{has_walk, JournalState}
use Rattle.probe.specs.Chained.{IsChained, hash_of}
use Rattle.probe.proofs.Chaining.{chained-added}
use Rattle.probe.proofs.Indexing.{asked-has_walk, new-walk}
use Rattle.probe.proofs.journal.Journal.push_new.Goals as goal

pub invariant_of-self-then-chained-eq0 : goal.invariant_of-self-then-chained-eq0
invariant_of-self-then-chained-eq0 c =
    let es = c.self.inside.entries.items in
    let e = c.args.e in
    let w = c.args.e.walk in
    let none : has_walk (map (λ x. x.walk) es) w ≡ false = asked-has_walk es w ∙ ap (λ (s : JournalState). is_asked s.entries w) c.self.view_is ∙ c.requires in
    let walks = ap (map (λ x. x.walk)) (c.push_reserved.ensures.items ∙ ap (λ l. l ++ e ∷ []) c.reserve.ensures.items) ∙ map-append (λ x. x.walk) es (e ∷ []) in
    record {
      once = subst (λ (ws : List (List ℤ)). Apart ws) (sym walks) (apart-push (map (λ x. x.walk) es) w c.self.invariant.once (new-walk w (map (λ x. x.walk) es) none));
      indexed = λ some. absurd (let count = c.len-chained.ensures in let zero = c.if-chained-eq0.true in omega arith);
    }

pub invariant_of-self-2 : goal.invariant_of-self-2
invariant_of-self-2 c =
    let es = c.self.inside.entries.items in
    let e = c.args.e in
    let w = c.args.e.walk in
    let hash = c.hash_of-hash.result in
    let latest = c.make_room.new.chains.latest.items in
    let before = c.make_room.new.chains.before.items in
    let none : has_walk (map (λ x. x.walk) es) w ≡ false = asked-has_walk es w ∙ ap (λ (s : JournalState). is_asked s.entries w) c.self.view_is ∙ c.requires in
    let items = c.push_reserved-2.ensures.items ∙ ap (λ l. l ++ e ∷ []) c.reserve.ensures.items in
    let walks = ap (map (λ x. x.walk)) items ∙ map-append (λ x. x.walk) es (e ∷ []) in
    let chained : IsChained (map (λ x. x.walk) es) latest before = subst (λ l. IsChained (map (λ x. x.walk) l) latest before) c.reserve.ensures.items c.make_room.ensures.chained in
    let fits : length (map (λ x. x.walk) es) < 2 * length latest = subst (λ l. length (map (λ x. x.walk) l) < 2 * length latest) c.reserve.ensures.items c.in_ok-make_room.ensures.buckets in
    let some : 0 < length latest = omega arith in
    record {
      once = subst (λ (ws : List (List ℤ)). Apart ws) (sym walks) (apart-push (map (λ x. x.walk) es) w c.self.invariant.once (new-walk w (map (λ x. x.walk) es) none));
      indexed = λ _. record {
        chained = subst (λ ws. IsChained ws c.add.new.chains.latest.items c.add.new.chains.before.items) (sym walks)
            (chained-added (map (λ x. x.walk) es) w hash latest before c.add.new.chains.latest.items c.add.new.chains.before.items chained (c.hash_of-hash.ensures ∙ ap (hash_of 0) c.turns.ensures.value) some c.add.ensures.latest c.add.ensures.before);
        enough = (let long = ap length walks ∙ length-append (map (λ x. x.walk) es) (w ∷ []) in
            let size = ap length c.add.ensures.latest ∙ length-set latest (hash % length latest) (length before + 1) in omega arith);
      };
    }
