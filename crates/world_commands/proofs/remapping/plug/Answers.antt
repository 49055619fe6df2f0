use Rattle.std.proofs.Common.{◌≡◌, ◌∷◌, [], List, true, ◌∙◌, sym, ap, subst}
use Rattle.std.proofs.lemmas.Result.{on_ok_weaker}
use Rattle.net_defs.specs.Network.{Network, has_vertex}
use Rattle.world_defs.specs.declared.event.Event.TheVariants.{Plug as PlugEvent}
use Rattle.world_defs.specs.World.{WorldState}
use Rattle.run_defs.specs.declared.command.Command.TheVariants.{Plug}
use Rattle.run_defs.specs.declared.line.Line.TheVariants.{Plug as PlugLine}
use Rattle.run_defs.specs.Output.{Piece, OneLine}
use Rattle.fab_report.specs.Printed.{printed_of}
use Rattle.world_commands.specs.Cut.{IsLeft}
use Rattle.world_commands.proofs.Cabled.{after-later, same-later, end-stays, plugged_so, plugged_left, plug_left}
use Rattle.world_commands.proofs.Cut.{in-line}
use Rattle.world_commands.proofs.Later.{printed-before}
use Rattle.world_commands.proofs.remapping.plug.Goals as goal

pub one_line-requires : goal.one_line-requires
one_line-requires c =
    let w : WorldState = c.args.w.now in
    let v : WorldState = c.joined.new.w in
    let later = after-later w v (PlugEvent c.args.a c.args.b) c.in-Ok.ensures.after in
    record {
      of_fabric = (
        subst (λ (n : Network). has_vertex n c.args.a.v ≡ true) (sym c.fabric.ensures) (end-stays w v c.args.a later c.requires.first),
        subst (λ (n : Network). has_vertex n c.args.b.v ≡ true) (sym c.fabric.ensures) (end-stays w v c.args.b later c.requires.second),
      );
    }

pub returns-in_default-clause-err : goal.returns-in_default-clause-err
returns-in_default-clause-err c = plug_left c.args.w.now c.joined.new.w c.args.a c.args.b c.in_default.ensures.err c.in_default.ensures.free

pub returns-in_default-clause-cables : goal.returns-in_default-clause-cables
returns-in_default-clause-cables c = same-later c.args.w.now c.joined.new.w (ap (λ (v : WorldState). v.links.cables) c.in_default.ensures.err)

pub returns-clause-done : goal.returns-clause-done
returns-clause-done c =
    let w : WorldState = c.args.w.now in
    let v : WorldState = c.joined.new.w in
    let out : List Piece = OneLine (PlugLine c.args.a c.args.b c.in-Ok.words) ∷ [] in
    let later = after-later w v (PlugEvent c.args.a c.args.b) c.in-Ok.ensures.after in
    on_ok_weaker c.one_line.result
    (λ e. plugged_so w v c.args.a c.args.b c.in-Ok.words c.one_line.new.printed c.in-Ok.ensures.after c.in-Ok.ensures.words (e ∙ ap (λ n. printed_of n out) c.fabric.ensures ∙ printed-before w v later out))
    c.one_line.ensures.printed

pub returns-clause-err : goal.returns-clause-err
returns-clause-err c =
    in-line c.one_line.result (IsLeft (Plug c.args.a c.args.b) c.args.w.now c.joined.new.w) (plugged_left c.args.w.now c.joined.new.w c.args.a c.args.b c.in-Ok.ensures.after) c.one_line.ensures.err

pub returns-clause-cables : goal.returns-clause-cables
returns-clause-cables c = after-later c.args.w.now c.joined.new.w (PlugEvent c.args.a c.args.b) c.in-Ok.ensures.after
