use Rattle.std.proofs.Common.{◌≡◌, ap, sym, subst, refl, arith, rules, SFits, to_z, of_z, w16}
use Rattle.std.specs.Prelude.{◌+ℤ◌}
use Rattle.std.proofs.lemmas.Int.{to_z-of_z}
use Rattle.net_defs.specs.Turn.{IsTurn}
use Rattle.replicate_merge.specs.Ways.{AreJoined, frame_at}
use Rattle.replicate_merge.specs.Work.{MovesEnds}
use Rattle.replicate_merge.specs.Ends.{known_ends}
use Rattle.replicate_merge.specs.Heads.{head_at}
use Rattle.replicate_merge.specs.HeadSteps.{IsJoinedByHeads}
use Rattle.replicate_merge.specs.Nodes.{nodes_of}
use Rattle.replicate_merge.proofs.Joins.{join-asks, joined-kept, pair-asks, passed-kept}
use Rattle.replicate_merge.proofs.settling.Joined.meet.Goals as goal

pub oriented-requires-clause-first : goal.oriented-requires-clause-first
oriented-requires-clause-first c = (pair-asks (nodes_of c.args.walks.now) c.args.self.now c.args.self.now.todo.items c.args.meeting c.requires.some).first

pub oriented-requires-clause-second : goal.oriented-requires-clause-second
oriented-requires-clause-second c = (pair-asks (nodes_of c.args.walks.now) c.args.self.now c.args.self.now.todo.items c.args.meeting c.requires.some).second

pub join-requires-clause-is_from : goal.join-requires-clause-is_from
join-requires-clause-is_from c = (join-asks (nodes_of c.args.walks.now) c.args.self.now c.args.self.now.todo.items c.args.meeting c.in-Some.way.from c.in-Some.way.to c.in-Some.way.by c.in-Some.ensures.some c.requires.some).is_from

pub join-requires-clause-is_to : goal.join-requires-clause-is_to
join-requires-clause-is_to c = (join-asks (nodes_of c.args.walks.now) c.args.self.now c.args.self.now.todo.items c.args.meeting c.in-Some.way.from c.in-Some.way.to c.in-Some.way.by c.in-Some.ensures.some c.requires.some).is_to

pub join-requires-clause-first : goal.join-requires-clause-first
join-requires-clause-first c = (join-asks (nodes_of c.args.walks.now) c.args.self.now c.args.self.now.todo.items c.args.meeting c.in-Some.way.from c.in-Some.way.to c.in-Some.way.by c.in-Some.ensures.some c.requires.some).first

pub join-requires-clause-second : goal.join-requires-clause-second
join-requires-clause-second c = (join-asks (nodes_of c.args.walks.now) c.args.self.now c.args.self.now.todo.items c.args.meeting c.in-Some.way.from c.in-Some.way.to c.in-Some.way.by c.in-Some.ensures.some c.requires.some).second

pub join-requires-clause-inside : goal.join-requires-clause-inside
join-requires-clause-inside c = (join-asks (nodes_of c.args.walks.now) c.args.self.now c.args.self.now.todo.items c.args.meeting c.in-Some.way.from c.in-Some.way.to c.in-Some.way.by c.in-Some.ensures.some c.requires.some).inside

pub join-requires-clause-least_first : goal.join-requires-clause-least_first
join-requires-clause-least_first c = (join-asks (nodes_of c.args.walks.now) c.args.self.now c.args.self.now.todo.items c.args.meeting c.in-Some.way.from c.in-Some.way.to c.in-Some.way.by c.in-Some.ensures.some c.requires.some).least_first

pub join-requires-clause-least_second : goal.join-requires-clause-least_second
join-requires-clause-least_second c = (join-asks (nodes_of c.args.walks.now) c.args.self.now c.args.self.now.todo.items c.args.meeting c.in-Some.way.from c.in-Some.way.to c.in-Some.way.by c.in-Some.ensures.some c.requires.some).least_second

pub join-requires-clause-names_from : goal.join-requires-clause-names_from
join-requires-clause-names_from c = (join-asks (nodes_of c.args.walks.now) c.args.self.now c.args.self.now.todo.items c.args.meeting c.in-Some.way.from c.in-Some.way.to c.in-Some.way.by c.in-Some.ensures.some c.requires.some).names_from

pub join-requires-clause-names_to : goal.join-requires-clause-names_to
join-requires-clause-names_to c = (join-asks (nodes_of c.args.walks.now) c.args.self.now c.args.self.now.todo.items c.args.meeting c.in-Some.way.from c.in-Some.way.to c.in-Some.way.by c.in-Some.ensures.some c.requires.some).names_to

pub join-requires-clause-small : goal.join-requires-clause-small
join-requires-clause-small c =
    let by = c.in-Some.way.by in
    let fits : SFits w16 c.in-Some.way.by = search rules in
    let same : to_z w16 (of_z w16 c.in-Some.way.by) ≡ c.in-Some.way.by = to_z-of_z w16 c.in-Some.way.by fits in
    subst (λ b. IsTurn b) (sym same) (join-asks (nodes_of c.args.walks.now) c.args.self.now c.args.self.now.todo.items c.args.meeting c.in-Some.way.from c.in-Some.way.to c.in-Some.way.by c.in-Some.ensures.some c.requires.some).small

pub join-requires-clause-turns : goal.join-requires-clause-turns
join-requires-clause-turns c = λ n l. (join-asks (nodes_of c.args.walks.now) c.args.self.now c.args.self.now.todo.items c.args.meeting c.in-Some.way.from c.in-Some.way.to c.in-Some.way.by c.in-Some.ensures.some c.requires.some).turns n l

pub join-requires-clause-base_turn : goal.join-requires-clause-base_turn
join-requires-clause-base_turn c = (join-asks (nodes_of c.args.walks.now) c.args.self.now c.args.self.now.todo.items c.args.meeting c.in-Some.way.from c.in-Some.way.to c.in-Some.way.by c.in-Some.ensures.some c.requires.some).base_turn

pub join-requires-clause-there : goal.join-requires-clause-there
join-requires-clause-there c = λ n l e.
    let by = c.in-Some.way.by in
    let fits : SFits w16 c.in-Some.way.by = search rules in
    let same : to_z w16 (of_z w16 c.in-Some.way.by) ≡ c.in-Some.way.by = to_z-of_z w16 c.in-Some.way.by fits in
    subst (λ b. IsTurn ((frame_at c.args.self.now.frames.items n).offset +ℤ b)) (sym same) ((join-asks (nodes_of c.args.walks.now) c.args.self.now c.args.self.now.todo.items c.args.meeting c.in-Some.way.from c.in-Some.way.to c.in-Some.way.by c.in-Some.ensures.some c.requires.some).there n l e)

pub join-requires-clause-in_range : goal.join-requires-clause-in_range
join-requires-clause-in_range c = λ p some.
    let by = c.in-Some.way.by in
    let fits : SFits w16 c.in-Some.way.by = search rules in
    let same : to_z w16 (of_z w16 c.in-Some.way.by) ≡ c.in-Some.way.by = to_z-of_z w16 c.in-Some.way.by fits in
    subst (λ b. IsTurn (p +ℤ b)) (sym same) ((join-asks (nodes_of c.args.walks.now) c.args.self.now c.args.self.now.todo.items c.args.meeting c.in-Some.way.from c.in-Some.way.to c.in-Some.way.by c.in-Some.ensures.some c.requires.some).in_range p some)

pub join-requires-clause-room : goal.join-requires-clause-room
join-requires-clause-room c =
    let number = (join-asks (nodes_of c.args.walks.now) c.args.self.now c.args.self.now.todo.items c.args.meeting c.in-Some.way.from c.in-Some.way.to c.in-Some.way.by c.in-Some.ensures.some c.requires.some).first in
    let room = c.requires.room in
    let count = c.args.self.now.todo.ok.0 in
    omega arith

pub join-requires-clause-base : goal.join-requires-clause-base
join-requires-clause-base c =
    let by = c.in-Some.way.by in
    let fits : SFits w16 c.in-Some.way.by = search rules in
    let same : to_z w16 (of_z w16 c.in-Some.way.by) ≡ c.in-Some.way.by = to_z-of_z w16 c.in-Some.way.by fits in
    subst (λ b. IsTurn ((head_at c.args.self.now.heads.heads.items c.in-Some.way.from).base +ℤ b)) (sym same) (join-asks (nodes_of c.args.walks.now) c.args.self.now c.args.self.now.todo.items c.args.meeting c.in-Some.way.from c.in-Some.way.to c.in-Some.way.by c.in-Some.ensures.some c.requires.some).base

pub returns-in-None-clause-keeps : goal.returns-in-None-clause-keeps
returns-in-None-clause-keeps c = passed-kept (nodes_of c.args.walks.now) c.args.self.now c.args.self.now.todo.items c.args.meeting (c.in-None.ensures.none refl)

pub returns-in-Some-clause-keeps : goal.returns-in-Some-clause-keeps
returns-in-Some-clause-keeps c =
    let t = c.args.self.now in
    let new = c.join.new.self in
    let from = c.in-Some.way.from in
    let to = c.in-Some.way.to in
    let ns = nodes_of c.args.walks.now in
    let by = c.in-Some.way.by in
    let fits : SFits w16 c.in-Some.way.by = search rules in
    let same : to_z w16 (of_z w16 c.in-Some.way.by) ≡ c.in-Some.way.by = to_z-of_z w16 c.in-Some.way.by fits in
    let frames = subst (λ b. AreJoined from to b t.frames.items new.frames.items) same c.join.ensures.frames in
    let moves = subst (λ b. MovesEnds from to b (known_ends t.ends.items) (known_ends new.ends.items) t.todo.items new.todo.items) same c.join.ensures.moves in
    let heads = subst (λ b. IsJoinedByHeads ns from to b t.heads.heads.items new.heads.heads.items t.heads.names.items new.heads.names.items) same c.join.ensures.heads in
    joined-kept ns t t.todo.items c.args.meeting from to c.in-Some.way.by c.in-Some.ensures.some new frames moves heads c.join.ensures.marks c.join.ensures.headed c.join.ensures.table c.join.ensures.counted (ap (λ v. v.items) c.join.ensures.hosts)
