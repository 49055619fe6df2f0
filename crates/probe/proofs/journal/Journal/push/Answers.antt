use Rattle.std.proofs.Common.{◌≡◌, ◌<◌, ◌+◌, ◌*◌, ◌%◌, ◌++◌, ◌∷◌, [], List, false, length, map, ap, sym, ◌∙◌, subst, arith, if◌then◌else◌}
use Rattle.std.specs.Prelude.{ℤ}
use Rattle.std.proofs.lemmas.List.{length-append, length-set, map-append}
use Rattle.net_defs.proofs.Distinct.{apart-push}
use Rattle.net_defs.specs.Network.{Apart}
use Rattle.journal_defs.specs.Tree.{is_asked}
use Rattle.probe.specs.Keeping.{has_walk, JournalState}
use Rattle.probe.specs.declared.journal.JournalPush.TheVariants.{Known, NoMemory}
use Rattle.probe.specs.Chained.{IsChained, hash_of}
use Rattle.probe.proofs.Chaining.{chained-added}
use Rattle.probe.proofs.Indexing.{asked-has_walk, new-walk}
use Rattle.probe.proofs.Refusing.{unindexed}
use Rattle.probe.proofs.journal.Journal.push.Goals as goal

pub returns-then-is_err-clause-refused : goal.returns-then-is_err-clause-refused
returns-then-is_err-clause-refused c =
    let es = c.self.inside.entries.items in
    let w = c.args.e.walk in
    let asked = ap (λ (s : JournalState). is_asked s.entries w) (sym c.self.view_is) ∙ sym (asked-has_walk es w) in
    unindexed Unit (has_walk (map (λ e. e.walk) es) w) _ c.args.e c.refusal_without_index-refusal.result asked
    (c.refusal_without_index-refusal.ensures ∙ ap (λ v. if has_walk (map (λ e. e.walk) es) v then Known else NoMemory) c.turns.ensures.value)

pub returns-then-is_some-clause-refused : goal.returns-then-is_some-clause-refused
returns-then-is_some-clause-refused c =
    let es = c.self.inside.entries.items in
    let w = c.args.e.walk in
    ap (λ (s : JournalState). is_asked s.entries w) (sym c.self.view_is) ∙ sym (asked-has_walk es w) ∙ ap (has_walk (map (λ e. e.walk) es)) (sym c.turns-3.ensures.value) ∙ sym c.find.ensures.found ∙ sym c.is_some.ensures ∙ c.if-is_some.true

pub returns-then-is_err-2-clause-refused : goal.returns-then-is_err-2-clause-refused
returns-then-is_err-2-clause-refused c =
    let es = c.self.inside.entries.items in
    let w = c.args.e.walk in
    ap (λ (s : JournalState). is_asked s.entries w) (sym c.self.view_is) ∙ sym (asked-has_walk es w) ∙ ap (has_walk (map (λ e. e.walk) es)) (sym c.turns-3.ensures.value) ∙ sym c.find.ensures.found ∙ sym c.is_some.ensures ∙ c.if-is_some.false

pub returns-in-Err-clause-refused : goal.returns-in-Err-clause-refused
returns-in-Err-clause-refused c =
    let es = c.self.inside.entries.items in
    let w = c.args.e.walk in
    ap (λ (s : JournalState). is_asked s.entries w) (sym c.self.view_is) ∙ sym (asked-has_walk es w) ∙ ap (has_walk (map (λ e. e.walk) es)) (sym c.turns-3.ensures.value) ∙ sym c.find.ensures.found ∙ sym c.is_some.ensures ∙ c.if-is_some.false

pub returns-in-Ok-clause-refused : goal.returns-in-Ok-clause-refused
returns-in-Ok-clause-refused c =
    let es = c.self.inside.entries.items in
    let w = c.args.e.walk in
    ap (λ (s : JournalState). is_asked s.entries w) (sym c.self.view_is) ∙ sym (asked-has_walk es w) ∙ ap (has_walk (map (λ e. e.walk) es)) (sym c.turns-3.ensures.value) ∙ sym c.find.ensures.found ∙ sym c.is_some.ensures ∙ c.if-is_some.false

pub invariant_of-self-in-Ok : goal.invariant_of-self-in-Ok
invariant_of-self-in-Ok c =
    let es = c.self.inside.entries.items in
    let e = c.args.e in
    let w = c.args.e.walk in
    let hash = c.hash_of-hash.result in
    let latest = c.make_room.new.chains.latest.items in
    let before = c.make_room.new.chains.before.items in
    let none : has_walk (map (λ x. x.walk) es) w ≡ false = ap (has_walk (map (λ x. x.walk) es)) (sym c.turns-3.ensures.value) ∙ sym c.find.ensures.found ∙ sym c.is_some.ensures ∙ c.if-is_some.false in
    let items = c.push_reserved.ensures.items ∙ ap (λ l. l ++ e ∷ []) c.reserve.ensures.items in
    let walks = ap (map (λ x. x.walk)) items ∙ map-append (λ x. x.walk) es (e ∷ []) in
    let chained : IsChained (map (λ x. x.walk) es) latest before = subst (λ l. IsChained (map (λ x. x.walk) l) latest before) c.reserve.ensures.items c.make_room.ensures.chained in
    let fits : length (map (λ x. x.walk) es) < 2 * length latest = subst (λ l. length (map (λ x. x.walk) l) < 2 * length latest) c.reserve.ensures.items c.in-Ok.ensures.buckets in
    let some : 0 < length latest = omega arith in
    record {
      once = subst (λ (ws : List (List ℤ)). Apart ws) (sym walks) (apart-push (map (λ x. x.walk) es) w c.self.invariant.once (new-walk w (map (λ x. x.walk) es) none));
      indexed = λ _. record {
        chained = subst (λ ws. IsChained ws c.add.new.chains.latest.items c.add.new.chains.before.items) (sym walks)
            (chained-added (map (λ x. x.walk) es) w hash latest before c.add.new.chains.latest.items c.add.new.chains.before.items chained (c.hash_of-hash.ensures ∙ ap (hash_of 0) c.turns-2.ensures.value) some c.add.ensures.latest c.add.ensures.before);
        enough = (let long = ap length walks ∙ length-append (map (λ x. x.walk) es) (w ∷ []) in
            let size = ap length c.add.ensures.latest ∙ length-set latest (hash % length latest) (length before + 1) in omega arith);
      };
    }
