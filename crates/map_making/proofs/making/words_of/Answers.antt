use Rattle.std.proofs.Common.{◌≡◌, ◌<◌, arith}
use Rattle.map_making.proofs.Words.{called-nodes, called-depth, called-doubtful, called-complete}
use Rattle.map_making.proofs.making.words_of.Goals as goal

pub returns-in-OpenAtNodes-clause-called : goal.returns-in-OpenAtNodes-clause-called
returns-in-OpenAtNodes-clause-called c host j is = called-nodes c.args.drowned c.args.end host j is c.in-OpenAtNodes.is

pub returns-in-OpenAtDepth-clause-called : goal.returns-in-OpenAtDepth-clause-called
returns-in-OpenAtDepth-clause-called c host j is = called-depth c.args.drowned c.args.end host j is c.in-OpenAtDepth.is

pub returns-in-Closed-clause-called : goal.returns-in-Closed-clause-called
returns-in-Closed-clause-called c host j is =
    let some : 0 < c.args.drowned = omega (arith, c.if-drowned-gt0.true) in
    called-doubtful c.args.drowned c.args.end host j is c.in-Closed.is some

pub returns-in-Closed-2-clause-called : goal.returns-in-Closed-2-clause-called
returns-in-Closed-2-clause-called c host j is =
    let none : c.args.drowned ≡ 0 = omega (arith, c.if-drowned-gt0.false) in
    called-complete c.args.drowned c.args.end host j is c.in-Closed-2.is none
