use Rattle.std.proofs.Common.{sym, subst}
use Rattle.map_defs.specs.NetMap.{IsConnected}
use Rattle.call_tests.proofs.ring.map_from.Goals as goal

pub returns-in-Ok : goal.returns-in-Ok
returns-in-Ok c =
    subst IsConnected (sym c.map_in.ensures)
    (c.journal_has_one_map.ensures.connected c.new.result.host 6 c.in-Ok.made.journal.entries c.in-Ok.made.map c.in-Ok.ensures.maps.grown c.in-Ok.ensures.quotient)
