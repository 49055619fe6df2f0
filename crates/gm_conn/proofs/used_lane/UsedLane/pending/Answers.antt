use Rattle.std.proofs.Common.{◌∙◌, ◌<◌, ◌^◌, sym, ap}
use Rattle.std.specs.Prelude.{slice_get}
use Rattle.std.specs.Option.{option_copied}
use Rattle.gm_conn.proofs.Messages.{all-at}
use Rattle.gm_conn.proofs.OneLane.{send-at, no-send}
use Rattle.gm_conn.proofs.used_lane.UsedLane.pending.Goals as goal

pub new-requires : goal.new-requires
new-requires c =
    all-at (λ d. d.ticket < 2 ^ 16) c.self.inside.sender.waiting c.args.place c.in-Some.desc.now c.self.invariant.tokens (sym c.descriptor.ensures ∙ ap option_copied c.in-Some.is)

pub returns-in-Some : goal.returns-in-Some
returns-in-Some c =
    send-at c.self.inside.sender c.args.place c.in-Some.desc.now c.new.result (sym c.descriptor.ensures ∙ ap option_copied c.in-Some.is) c.new.ensures
    ∙ ap (λ p. slice_get p.state.pending c.args.place) c.self.view_is

pub returns-in-None : goal.returns-in-None
returns-in-None c =
    no-send c.self.inside.sender c.args.place (sym c.descriptor.ensures ∙ ap option_copied c.in-None.is)
    ∙ ap (λ p. slice_get p.state.pending c.args.place) c.self.view_is
