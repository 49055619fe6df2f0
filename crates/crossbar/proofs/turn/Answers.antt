use Rattle.std.proofs.Common.{ap, sym, ◌∙◌}
use Rattle.packet_defs.specs.Packet.{difference}
use Rattle.crossbar.proofs.Turning.{out-turn, aimed-keeps}
use Rattle.crossbar.proofs.turn.Goals as goal

pub strip_out-requires : goal.strip_out-requires
strip_out-requires g c = λ port e. out-turn g.row.P c.args.entry port c.args.p.now (sym c.aim-turned.ensures ∙ e)

pub returns-clause-difference : goal.returns-clause-difference
returns-clause-difference g c =
    ap difference c.strip_out.ensures ∙ aimed-keeps g.row.P c.args.entry c.args.p.now c.aim-turned.result c.aim-turned.ensures
