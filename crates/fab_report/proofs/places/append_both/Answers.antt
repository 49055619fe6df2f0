use Rattle.std.proofs.lemmas.Result.{on_ok_weaker}
use Rattle.fab_report.proofs.Writing.{placed}
use Rattle.fab_report.proofs.places.append_both.Goals as goal

pub returns : goal.returns
returns c =
    on_ok_weaker c.append_places-2.result
    (placed c.args.text.now.items c.args.sends.now c.args.recvs.now c.in_ok-append_places.ensures c.in_ok-append_behind.ensures)
    c.append_places-2.ensures
