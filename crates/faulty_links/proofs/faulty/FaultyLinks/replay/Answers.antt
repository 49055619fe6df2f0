use Rattle.std.proofs.Common.{ap, ◌∙◌, sym, ◌≡◌, ⊎_elim}
use Rattle.world_defs.specs.Fault.{replay}
use Rattle.world_defs.specs.Step.{replayed}
use Rattle.faulty_links.specs.Held.{LinksAndPlan, part_of}
use Rattle.faulty_links.proofs.Parts.{told_replay, so, replayed_part}
use Rattle.faulty_links.proofs.faulty.FaultyLinks.replay.Goals as goal
use Rattle.faulty_links.proofs.faulty.FaultyLinks.replay.Goals.{in-Back, in-Busy}

pub returns : goal.returns
returns c =
    let p : LinksAndPlan = part_of c.self.inside.links c.self.inside.plan c.self.inside.counts in
    let effect : c.match-replay.result ≡ told_replay (replay p.links c.args.serial).0 =
    elim c.match-replay.branch [
      | in-Back w ↦ w.result-is ∙ ap told_replay w.in-Back.ensures.replayed
      | in-Busy w ↦ w.result-is ∙ ⊎_elim (λ h. ap told_replay (sym h.1 ∙ c.replay.ensures.replayed)) (λ h. ap told_replay (sym h ∙ c.replay.ensures.replayed)) w.in-Busy.is
    ] in
    so (λ u. replayed u c.args.serial) c.args.self.now p _ _ _ c.replay.new.self c.self.view_is effect c.replay.ensures.links (λ w. replayed_part w p c.args.serial)
