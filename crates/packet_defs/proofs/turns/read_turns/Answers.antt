use Rattle.std.proofs.Common.{◌≡◌, ◌<◌, ◌≤◌, ◌++◌, Some, get_or, length, take, drop, option_map, arith, ap, sym, subst, ◌∙◌}
use Rattle.std.proofs.Math.ListN.{length-set}
use mir.Syntax.{w8}
use mir.Val.{to_z, of_z}
use Rattle.packet_defs.specs.RouteByte.{turn_of, turns_of}
use Rattle.packet_defs.proofs.Reading.{turns-read, turns-all, turns-none, turn-fits}
use Rattle.packet_defs.proofs.turns.read_turns.Goals as goal

pub loop-at-preserved : goal.loop-at-preserved
loop-at-preserved g c =
    let bs = c.args.bytes.now in
    let at = c.loop-at.at in
    let ts = c.loop-at.turns in
    let told : turn_of (get_or bs at 0) ≡ Some c.in-Some.turn = sym c.in-Some.ensures in
    let same = turn-fits (get_or bs at 0) c.in-Some.turn told in
    let room : length bs ≤ length ts = c.loop-at.invariant.room in
    let here : at < length bs = c.loop-at-test.true in
    let inside : at < length ts = omega arith in
    let size = length-set ts at (to_z w8 (of_z w8 c.in-Some.turn)) in
    record {
      read = turns-read bs ts at c.in-Some.turn (to_z w8 (of_z w8 c.in-Some.turn)) here inside same told c.loop-at.invariant.read;
      room = subst (λ n. length bs ≤ n) (sym size) room;
    }

pub returns-in-None-clause-none : goal.returns-in-None-clause-none
returns-in-None-clause-none g c =
    let bs = c.args.bytes.now in
    let at = c.loop-at.at in
    turns-none bs (take at c.loop-at.turns) at c.loop-at-test.true (sym c.in-None.ensures) c.loop-at.invariant.read

pub returns-clause-some : goal.returns-clause-some
returns-clause-some g c =
    let bs = c.args.bytes.now in
    let ts = c.loop-at.turns in
    let end : c.loop-at.at ≡ length bs = (let e = c.loop-at.auto.at-end in let t = c.loop-at-test.false in omega arith) in
    turns-all bs ts
    (c.loop-at.invariant.read ∙ ap (λ n. option_map (λ us. take n ts ++ us) (turns_of (drop n bs))) end)
