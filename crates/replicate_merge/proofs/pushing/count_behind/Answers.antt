use Rattle.std.proofs.Common.{◌≡◌, ◌+◌, ◌++◌, ◌∷◌, [], take, ap, sym, ◌∙◌, arith, rules, SFits, to_z, of_z, w8, if◌then◌else◌}
use Rattle.std.proofs.lemmas.Int.{to_z-of_z}
use Rattle.journal_defs.specs.Walks.{onward_turns}
use Rattle.replicate_merge.specs.Onward.{is_known, known_among}
use Rattle.replicate_merge.proofs.Behind.{known-step, take-whole}
use Rattle.replicate_merge.proofs.pushing.count_behind.Goals as goal

pub loop-place-preserved : goal.loop-place-preserved
loop-place-preserved c =
    let walks = c.args.walks.now in
    let orphans = c.args.orphans.now in
    let walk = c.args.walk.now in
    let place = c.loop-place.place in
    let t = c.onward_turn.result in
    let fits : SFits w8 t = search rules in
    let same : to_z w8 (of_z w8 t) ≡ t = to_z-of_z w8 t fits in
    let inv = c.loop-place.invariant in
    let known : c.in_ok-is_known.field-0 ≡ is_known walks orphans (walk ++ t ∷ []) = c.in_ok-is_known.ensures.known ∙ (λ i. is_known walks orphans (inv.walk i ++ same i ∷ [])) in
    record {
      walk = c.in_ok-is_known.ensures.same ∙ inv.walk;
      few = (let f = inv.few in let s = c.one_if.ensures.small in omega arith);
      known = (λ i. inv.known i + (c.one_if.ensures.value ∙ ap (λ b. if b then 1 else 0) known) i) ∙ sym (known-step walks orphans walk onward_turns place t c.onward_turn.ensures);
    }

pub returns : goal.returns
returns c =
    let walks = c.args.walks.now in
    let orphans = c.args.orphans.now in
    let walk = c.args.walk.now in
    let all : c.loop-place.place ≡ 30 = (let e = c.loop-place.auto.place-end in let t = c.loop-place-test.false in omega arith) in
    c.loop-place.invariant.known ∙ ap (λ k. known_among walks orphans walk (take k onward_turns)) all ∙ ap (known_among walks orphans walk) (take-whole onward_turns)
