use Rattle.std.proofs.Common.{◌≡◌, ◌∙◌, ℕ, true, List, length, refl, sym, ap, subst}
use Rattle.std.proofs.lemmas.Result.{on_ok_weaker}
use Rattle.net_defs.specs.declared.vertex.Vertex.TheVariants.{Host}
use Rattle.net_defs.specs.Network.{Network, has_vertex}
use Rattle.world_defs.proofs.CablesLater.{later-kept}
use Rattle.world_defs.specs.World.{WorldState}
use Rattle.world_defs.specs.declared.effect.Effect.TheVariants.{Said as SaidSo}
use Rattle.client_host.specs.Held.{IsFromHosts}
use Rattle.run_defs.specs.Outcome.{client_lines}
use Rattle.run_defs.specs.Output.{lines}
use Rattle.fab_report.specs.Printed.{printed_of}
use Rattle.world_commands.specs.Cut.{IsLeft}
use Rattle.world_commands.specs.Done.{IsDone}
use Rattle.world_commands.proofs.Cut.{in-line, call_left, called_left}
use Rattle.world_commands.proofs.Done.{called_so}
use Rattle.world_commands.proofs.Later.{printed-before, host-stays}
use Rattle.world_commands.proofs.answers.call.Goals as goal

pub print_answer-requires-clause-host : goal.print_answer-requires-clause-host
print_answer-requires-clause-host c =
    subst (λ (n : Network). has_vertex n (Host c.args.at.host) ≡ true) (sym c.fabric.ensures) (host-stays c.args.w.now c.call.new.self c.args.at.host c.call.ensures.cables c.requires.host)

pub print_answer-requires-clause-sender : goal.print_answer-requires-clause-sender
print_answer-requires-clause-sender c =
    let w : WorldState = c.args.w.now in
    let k = later-kept c.call.ensures.cables in
    subst (λ (n : Network). IsFromHosts (length n.hosts) c.in-Ok.said) (sym c.fabric.ensures)
    (subst (λ (names : List (List ℕ)). IsFromHosts (length names) c.in-Ok.said) (sym k.hosts) (subst (λ n. IsFromHosts n c.in-Ok.said) c.moment.ensures.kept.world.hosts c.in-Ok.ensures.sender))

pub returns-clause-done : goal.returns-clause-done
returns-clause-done c = λ command is.
    let w : WorldState = c.args.w.now in
    let v : WorldState = c.call.new.self in
    let at = c.args.at in
    let said = lines (client_lines c.args.call at.host at.port (SaidSo c.in-Ok.said)) in
    on_ok_weaker {P = c.print_answer.new.printed ≡ printed_of c.fabric.result.now said} {Q = IsDone command w v c.print_answer.new.printed} c.print_answer.result
    (λ e. called_so command c.args.call at c.args.event (SaidSo c.in-Ok.said, v) w v c.print_answer.new.printed is c.in-Ok.ensures.ok refl (e ∙ ap (λ n. printed_of n said) c.fabric.ensures ∙ printed-before w v c.call.ensures.cables said))
    c.print_answer.ensures.text

pub returns-in_default-clause-err : goal.returns-in_default-clause-err
returns-in_default-clause-err c = λ command is. call_left command c.args.call c.args.at c.args.event c.args.w.now c.call.new.self is c.in_default.ensures.err c.in_default.ensures.wanting

pub returns-clause-err : goal.returns-clause-err
returns-clause-err c = λ command is.
    in-line c.print_answer.result (IsLeft command c.args.w.now c.call.new.self)
    (called_left command c.args.call c.args.at c.args.event (SaidSo c.in-Ok.said, c.call.new.self) c.args.w.now c.call.new.self is c.in-Ok.ensures.ok refl) c.print_answer.ensures.err
