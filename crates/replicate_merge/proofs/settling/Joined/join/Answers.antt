use Rattle.std.proofs.Common.{◌≡◌, sym, subst, to_z, of_z, rules, SFits, w16}
use Rattle.std.specs.Prelude.{◌+ℤ◌}
use Rattle.std.proofs.lemmas.Int.{to_z-of_z}
use Rattle.net_defs.specs.Turn.{IsTurn}
use Rattle.replicate_merge.specs.Nodes.{nodes_of}
use Rattle.replicate_merge.specs.Ways.{AreJoined, frame_at}
use Rattle.replicate_merge.specs.Work.{MovesEnds}
use Rattle.replicate_merge.specs.Ends.{known_ends}
use Rattle.replicate_merge.specs.HeadSteps.{IsJoinedByHeads}
use Rattle.replicate_merge.proofs.Ranges.{turn-cast}
use Rattle.replicate_merge.proofs.settling.Joined.join.Goals as goal

pub move_ends-requires-clause-in_range : goal.move_ends-requires-clause-in_range
move_ends-requires-clause-in_range c = λ p some.
    let fits : SFits w16 c.args.by = search rules in
    let by : to_z w16 (of_z w16 c.args.by) ≡ c.args.by = to_z-of_z w16 c.args.by fits in
    subst (λ b. IsTurn (p +ℤ b)) (sym by) (c.requires.in_range p some)

pub join-requires-2-clause-small : goal.join-requires-2-clause-small
join-requires-2-clause-small c = subst (λ b. IsTurn b) (sym (turn-cast c.args.by c.requires.small)) c.requires.small

pub join-requires-2-clause-there : goal.join-requires-2-clause-there
join-requires-2-clause-there c = λ n l e.
    subst (λ b. IsTurn ((frame_at c.args.self.now.frames.items n).offset +ℤ b)) (sym (turn-cast c.args.by c.requires.small)) (c.requires.there n l e)

pub returns-clause-moves : goal.returns-clause-moves
returns-clause-moves c =
    let old = c.args.self.now in
    let fits : SFits w16 c.args.by = search rules in
    let by : to_z w16 (of_z w16 c.args.by) ≡ c.args.by = to_z-of_z w16 c.args.by fits in
    subst (λ b. MovesEnds c.args.from c.args.to b (known_ends old.ends.items) (known_ends c.move_ends.new.ends.items) old.todo.items c.move_ends.new.todo.items) by c.move_ends.ensures.moves

pub returns-clause-frames : goal.returns-clause-frames
returns-clause-frames c = subst (λ b. AreJoined c.args.from c.args.to b c.args.self.now.frames.items c.join-2.new.self.items) (turn-cast c.args.by c.requires.small) c.join-2.ensures

pub returns-clause-heads : goal.returns-clause-heads
returns-clause-heads c =
    let old = c.args.self.now in
    subst (λ b. IsJoinedByHeads (nodes_of c.args.walks.now) c.args.from c.args.to b old.heads.heads.items c.join.new.self.heads.items old.heads.names.items c.join.new.self.names.items)
    (turn-cast c.args.by c.requires.small) c.join.ensures.heads
