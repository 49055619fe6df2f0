use Rattle.std.proofs.Common.{◌≡◌, set, ◌∙◌, subst, rules, SFits, to_z, of_z, w8}
use Rattle.std.proofs.lemmas.Int.{to_z-of_z}
use Rattle.replicate_merge.specs.declared.heads.Head.{Head}
use Rattle.replicate_merge.specs.Nodes.{nodes_of}
use Rattle.replicate_merge.specs.Heads.{head_at}
use Rattle.replicate_merge.specs.HeadSteps.{JoinsHead, DropsNumber}
use Rattle.replicate_merge.proofs.Numbers.{any-default, heads-after, no_head}
use Rattle.replicate_merge.proofs.heads.Heads.join.Goals as goal

pub returns-clause-heads : goal.returns-clause-heads
returns-clause-heads c =
    let ns = nodes_of c.args.walks.now in
    let self = c.args.self.now in
    let hs = self.heads.items in
    let new = c.drop_number.new.heads.items in
    let after = c.drop_number.new.names.items in
    let kept = c.joined.result in
    let fits : SFits w8 c.args.by = search rules in
    let by : to_z w8 (of_z w8 c.args.by) ≡ c.args.by = to_z-of_z w8 c.args.by fits in
    let old_is : c.index-old.result.now ≡ head_at hs c.args.from = c.index-old.ensures ∙ any-default hs c.args.from c.index-old.result.now no_head c.requires.is_from in
    let kept_is : c.index-kept.result.now ≡ head_at hs c.args.to = c.index-kept.ensures ∙ any-default hs c.args.to c.index-kept.result.now no_head c.requires.is_to in
    let joins : JoinsHead ns (head_at hs c.args.from) (head_at hs c.args.to) kept c.args.by =
    subst (λ b. JoinsHead ns (head_at hs c.args.from) (head_at hs c.args.to) kept b) by
    (subst (λ (h : Head). JoinsHead ns (head_at hs c.args.from) h kept (to_z w8 (of_z w8 c.args.by))) kept_is
    (subst (λ (h : Head). JoinsHead ns h c.index-kept.result.now kept (to_z w8 (of_z w8 c.args.by))) old_is c.joined.ensures)) in
    let drops : DropsNumber (head_at hs c.args.from).number (set hs c.args.to kept) new self.names.items after c.mark_both.new.marks.items c.drop_number.new.marks.items =
    subst (λ (h : Head). DropsNumber h.number (set hs c.args.to kept) new self.names.items after c.mark_both.new.marks.items c.drop_number.new.marks.items) old_is c.drop_number.ensures in
    record {
      last = drops.last;
      joins = heads-after ns c.args.from c.args.to c.args.by hs new kept self.names.items after c.mark_both.new.marks.items c.drop_number.new.marks.items c.requires.is_to c.requires.first c.requires.inside joins drops;
    }
