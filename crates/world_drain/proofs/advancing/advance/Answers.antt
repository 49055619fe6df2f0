use Rattle.std.proofs.Common.{◌≡◌, ◌∷◌, [], ◌∙◌, refl, sym, subst}
use Rattle.world_drain.specs.declared.seen.Seen.{Seen}
use Rattle.world_drain.specs.Watch.{seen_in, seen_then}
use Rattle.link_model.specs.declared.hop.Hop.TheVariants.{Moved, Blocked}
use Rattle.world_defs.specs.declared.effect.Effect.TheVariants.{Moved as MovedTo, Blocked as StaysFor}
use Rattle.world_drain.proofs.Sleeping.{step-noted}
use Rattle.world_drain.proofs.Watching.{then-moved, then-blocked}
use Rattle.world_drain.proofs.advancing.advance.Goals as goal

pub returns-in-Moved-clause-seen : goal.returns-in-Moved-clause-seen
returns-in-Moved-clause-seen c =
    let more : Seen = c.one_more.result in
    subst (λ r. more ≡ seen_then c.args.seen (seen_in c.args.watch.now (r.0 ∷ []))) (sym c.in-Moved.ensures.hop) (c.one_more.ensures ∙ sym (then-moved c.args.watch.now c.args.seen _))

pub returns-in-Blocked-clause-seen : goal.returns-in-Blocked-clause-seen
returns-in-Blocked-clause-seen c =
    subst (λ r. c.args.seen ≡ seen_then c.args.seen (seen_in c.args.watch.now (r.0 ∷ []))) (sym c.in-Blocked.ensures.hop) (sym (then-blocked c.args.watch.now c.args.seen _))

pub follow-requires-clause-awake : goal.follow-requires-clause-awake
follow-requires-clause-awake c =
    let next = c.in-Moved.next in
    step-noted c.args.w.now c.hop.new.self c.args.c (MovedTo next) (Moved next) c.args.noted.now
    (sym c.channels-few.ensures.count ∙ c.channels-few.ensures.same) c.requires.awake c.in-Moved.ensures.hop refl

pub follow-requires-in-Blocked-clause-awake : goal.follow-requires-in-Blocked-clause-awake
follow-requires-in-Blocked-clause-awake c =
    let next = c.in-Blocked.next in
    step-noted c.args.w.now c.hop.new.self c.args.c (StaysFor next) (Blocked next) c.args.noted.now
    (sym c.channels-few.ensures.count ∙ c.channels-few.ensures.same) c.requires.awake c.in-Blocked.ensures.hop refl
