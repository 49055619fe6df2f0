use Rattle.std.proofs.Common.{◌≡◌, [], refl, sym, subst, rules, SFits, w8}
use Rattle.std.specs.Prelude.{All}
use Rattle.std.proofs.lemmas.Int.{to_z-of_z}
use Rattle.net_defs.specs.Turn.{IsTurn}
use Rattle.replicate_merge.specs.Between.{CountsTurn, HasSeenFrames, IsFrontOf}
use Rattle.replicate_merge.specs.Next.{StandsForNext}
use Rattle.replicate_merge.specs.Table.{ClassTable}
use Rattle.replicate_merge.specs.declared.fronts.Front.{Front}
use Rattle.replicate_merge.proofs.Pushed.{pushed-ahead, pushed-first, pushed-turned, turn-few, turn-there}
use Rattle.replicate_merge.proofs.classes.Classes.go_on.Goals as goal

pub add_entry-requires-clause-seen : goal.add_entry-requires-clause-seen
add_entry-requires-clause-seen c = subst (λ (t : ClassTable). HasSeenFrames t) c.self.view_is refl

pub count_turn-requires-clause-there : goal.count_turn-requires-clause-there
count_turn-requires-clause-there c =
    let old = c.args.self.now in
    let e = c.args.e.now in
    let f = subst (λ (x : Front). IsFrontOf old.nodes e.walk x) c.in-Node.is c.requires.front in
    turn-there old c.add_entry.new.self e c.in_ok-add_entry.ensures.adds c.in-Node.node f.0 c.in-Node.turn f.1 f.2 c.requires.next

pub count_turn-requires-clause-few : goal.count_turn-requires-clause-few
count_turn-requires-clause-few c =
    let old = c.args.self.now in
    let e = c.args.e.now in
    let f = subst (λ (x : Front). IsFrontOf old.nodes e.walk x) c.in-Node.is c.requires.front in
    turn-few old c.add_entry.new.self e c.in_ok-add_entry.ensures.adds c.in-Node.node f.0 c.in-Node.turn f.1 f.2 c.requires.next

pub returns-in-Mapper-clause-pushed : goal.returns-in-Mapper-clause-pushed
returns-in-Mapper-clause-pushed c =
    let old = c.args.self.now in
    let e = c.args.e.now in
    let f : e.walk ≡ [] = subst (λ (x : Front). IsFrontOf old.nodes e.walk x) c.in-Mapper.is c.requires.front in
    pushed-first old c.add_entry.new.self e c.in_ok-add_entry.ensures.adds f

pub returns-in-Node-clause-pushed : goal.returns-in-Node-clause-pushed
returns-in-Node-clause-pushed c =
    let old = c.args.self.now in
    let mid = c.add_entry.new.self in
    let e = c.args.e.now in
    let n = c.in-Node.node in
    let t = c.in-Node.turn in
    let f = subst (λ (x : Front). IsFrontOf old.nodes e.walk x) c.in-Node.is c.requires.front in
    let new = c.count_turn.new.self in
    let turns : All IsTurn e.walk = subst (λ w. All IsTurn w) c.turns-turns.ensures.value c.turns-turns.ensures.in_range in
    let fits : SFits w8 t = search rules in
    let counts : CountsTurn n t mid new = subst (λ s. CountsTurn n s mid new) (to_z-of_z w8 t fits) c.count_turn.ensures in
    pushed-turned old mid e c.in_ok-add_entry.ensures.adds n f.0 t f.1 f.2 turns new counts

pub returns-in-Missing-clause-pushed : goal.returns-in-Missing-clause-pushed
returns-in-Missing-clause-pushed c =
    let old = c.args.self.now in
    let e = c.args.e.now in
    let f = subst (λ (x : Front). IsFrontOf old.nodes e.walk x) c.in-Missing.is c.requires.front in
    subst (λ (t : ClassTable). StandsForNext old e t) (sym c.look_ahead.ensures) (pushed-ahead old c.add_entry.new.self e c.in_ok-add_entry.ensures.adds f.0 f.1 f.2 f.3)
