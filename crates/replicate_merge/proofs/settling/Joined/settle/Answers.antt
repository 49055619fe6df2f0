use Rattle.std.proofs.Common.{◌≡◌, ◌++◌, ◌∷◌, [], List, length, ap, subst, refl, arith, length-append}
use Rattle.replicate_merge.specs.declared.meeting.Meeting.{Meeting}
use Rattle.replicate_merge.specs.Nodes.{nodes_of}
use Rattle.replicate_merge.specs.Rounds.{IsSettling}
use Rattle.replicate_merge.proofs.Joins.{some-kept}
use Rattle.replicate_merge.proofs.settling.Joined.settle.Goals as goal

no-items : (xs : List Meeting) → length xs ≡ 0 → xs ≡ []
no-items [] e = refl
no-items (x ∷ xs) e = absurd (omega arith)

pub meet-requires-clause-some : goal.meet-requires-clause-some
meet-requires-clause-some c =
    let t = c.settling.self in
    let ns = nodes_of c.args.walks.now in
    let x = some-kept ns c.args.self.now t c.args.self.now.todo.items t.todo.items c.settling.invariant.keeps c.requires.some in
    record {
      host = x.host;
      journal = x.journal;
      asks = x.asks;
      ways = x.ways;
      is = subst (λ (l : List Meeting). IsSettling x.host x.journal x.asks ns x.ways t.frames.items t.ends.items t.hosts.items l t.heads.heads.items t.heads.names.items t.heads.marks.items) c.in-Some.ensures.items x.is;
    }

pub settling-preserved : goal.settling-preserved
settling-preserved c =
    let t = c.settling.self in
    let ns = nodes_of c.args.walks.now in
    record {
      keeps = λ host j asks ws s. c.meet.ensures.keeps host j asks ws
          (subst (λ (l : List Meeting). IsSettling host j asks ns ws t.frames.items t.ends.items t.hosts.items l t.heads.heads.items t.heads.names.items t.heads.marks.items) c.in-Some.ensures.items (c.settling.invariant.keeps host j asks ws s));
      room = (
          let less = c.meet.ensures.less in
          let room = c.settling.invariant.room in
          let n : length t.todo.items ≡ length (c.pop.new.self.items ++ c.in-Some.meeting ∷ []) = ap length c.in-Some.ensures.items in
          let a = length-append c.pop.new.self.items (c.in-Some.meeting ∷ []) in
          let cap = c.meet.ensures.capacity in
          let kept = c.pop.ensures.capacity in
          omega arith);
    }

pub returns : goal.returns
returns c =
    let t = c.settling.self in
    let ns = nodes_of c.args.walks.now in
    let none : t.todo.items ≡ [] = no-items t.todo.items (let n = c.in_default.ensures.cases.0 in let o = t.todo.ok.0 in omega arith) in
    record {
      keeps = λ host j asks ws s. subst (λ (l : List Meeting). IsSettling host j asks ns ws t.frames.items t.ends.items t.hosts.items l t.heads.heads.items t.heads.names.items t.heads.marks.items) none (c.settling.invariant.keeps host j asks ws s);
      done = no-items c.pop.new.self.items (let n = c.in_default.ensures.cases.1 in let o = c.pop.new.self.ok.0 in omega arith);
    }
