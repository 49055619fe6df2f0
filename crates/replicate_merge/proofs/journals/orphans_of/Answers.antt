use Rattle.std.proofs.Common.{◌≡◌, List, length, take, ap, ◌∙◌, subst, arith}
use Rattle.journal_defs.specs.declared.entry.Entry.{Entry}
use Rattle.replicate_merge.proofs.Waying.{take-all}
use Rattle.replicate_merge.specs.AtOnce.{AreOrphans}
use Rattle.replicate_merge.proofs.OrphansAtOnce.{orphans-all}
use Rattle.replicate_merge.proofs.journals.orphans_of.Goals as goal

pub returns : goal.returns
returns c =
    let j = c.args.j.now.entries in
    let listed : length c.entries-at-end.result.now ≡ length j = ap length c.entries-at-end.ensures.list in
    let all : c.loop-at.at ≡ length j = (let e = c.loop-at.auto.at-end in let t = c.loop-at-test.false in let l = listed in omega arith) in
    orphans-all j c.args.walks.now c.loop-at.orphans c.requires.nodes c.entries-at-end.ensures.once (subst (λ (l : List Entry). AreOrphans l c.args.walks.now c.loop-at.orphans) (ap (λ k. take k j) all ∙ take-all j) c.loop-at.invariant)
