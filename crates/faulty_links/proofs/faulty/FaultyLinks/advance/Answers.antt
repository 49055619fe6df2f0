use Rattle.std.proofs.Common.{◌≡◌, ap, ◌∙◌, sym, refl, None}
use Rattle.world_defs.specs.Advance.{advance}
use Rattle.world_defs.specs.declared.moved.Moved.TheVariants.{To, Dropped, Blocked, Empty}
use Rattle.world_defs.specs.declared.effect.Effect.TheVariants.{Dropped as EffectDropped}
use Rattle.faulty_links.specs.Held.{LinksAndPlan, part_of, with_part, reaching}
use Rattle.faulty_links.proofs.Arrivals.{never_there}
use Rattle.faulty_links.proofs.Parts.{goes}
use Rattle.faulty_links.proofs.faulty.FaultyLinks.advance.Goals as goal

pub returns-in-To : goal.returns-in-To
returns-in-To c =
    let p : LinksAndPlan = part_of c.self.inside.links c.self.inside.plan c.self.inside.counts in
    goes c.args.self.now p _ c.args.c (To c.in-To.next) c.advance.new.self c.self.view_is refl c.in-To.ensures.moved c.advance.ensures.links refl

pub returns-in-Dropped : goal.returns-in-Dropped
returns-in-Dropped c =
    let p : LinksAndPlan = part_of c.self.inside.links c.self.inside.plan c.self.inside.counts in
    let q : LinksAndPlan = part_of c.advance.new.self c.self.inside.plan c.drop_one.new.self in
    λ w.
    goes c.args.self.now p q c.args.c (Dropped c.in-Dropped.why) c.advance.new.self c.self.view_is refl c.in-Dropped.ensures.moved c.advance.ensures.links (ap (part_of c.advance.new.self c.self.inside.plan) c.drop_one.ensures) w
    ∙ ap (λ x. (EffectDropped x, with_part w q)) (sym c.cause_at_switch.ensures)

pub returns-in-Blocked : goal.returns-in-Blocked
returns-in-Blocked c =
    let p : LinksAndPlan = part_of c.self.inside.links c.self.inside.plan c.self.inside.counts in
    goes c.args.self.now p _ c.args.c (Blocked c.in-Blocked.next) c.advance.new.self c.self.view_is refl c.in-Blocked.ensures.moved c.advance.ensures.links refl

pub returns-in-Empty : goal.returns-in-Empty
returns-in-Empty c =
    let p : LinksAndPlan = part_of c.self.inside.links c.self.inside.plan c.self.inside.counts in
    goes c.args.self.now p _ c.args.c Empty c.advance.new.self c.self.view_is refl c.in-Empty.ensures.moved c.advance.ensures.links refl

pub unreachable-requires : goal.unreachable-requires
unreachable-requires c =
    let inside : reaching c.self.inside.links c.args.c ≡ None = ap (λ q. reaching q.links c.args.c) c.self.view_is ∙ c.requires.inside in
    never_there _ _ (advance c.self.inside.links c.args.c).0 c.in-AtHost.ensures.moved inside
