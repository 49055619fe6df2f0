use Rattle.std.proofs.Common.{◌∙◌, ap}
use Rattle.world_defs.specs.Links.{is_idle}
use Rattle.world_asking.specs.Prober.{WorldAsking}
use Rattle.library_example.proofs.Kept.{kept-new}
use Rattle.library_example.proofs.main.Goals as goal

pub complete_map-map-requires-clause-idle : goal.complete_map-map-requires-clause-idle
complete_map-map-requires-clause-idle c =
    ap (λ (p : WorldAsking). is_idle p.world.links) c.new-prober.ensures ∙ c.in_ok-new_world-2.ensures.idle

pub talk-done-requires-clause-kept : goal.talk-done-requires-clause-kept
talk-done-requires-clause-kept c =
    kept-new c.complete_map-map.result c.complete_map-map.new.prober.world c.into_world-world.result c.new-prober.result.made c.new-prober.result.host c.into_world-world.ensures
    (ap (λ (p : WorldAsking). p.made) c.new-prober.ensures ∙ c.in_ok-new_world-2.ensures.unchanged)
    (ap (λ (p : WorldAsking). p.host) c.new-prober.ensures) c.complete_map-map.ensures.kept
