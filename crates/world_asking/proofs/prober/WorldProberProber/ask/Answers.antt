use Rattle.std.proofs.Common.{ap, sym, subst, refl, ◌∙◌, arith}
use Rattle.net_defs.specs.Route.{answer}
use Rattle.world_defs.specs.Links.{is_idle}
use Rattle.world_defs.specs.History.{fabric_at}
use Rattle.world_defs.specs.World.{WorldState}
use Rattle.probe.specs.Drowning.{IsTrueOrDrowned}
use Rattle.ask_laws.specs.Premises.{CanAsk}
use Rattle.ask_laws.proofs.Along.{ask-idle}
use Rattle.world_asking.specs.Prober.{WorldAsking, IsCutAsk}
use Rattle.world_drain.proofs.Later.{on-any}
use Rattle.world_asking.proofs.Standing.{past-stays, asks-on}
use Rattle.world_asking.proofs.Truthful.{can-ask, told-drowned, told-true, turns-in_range}
use Rattle.world_asking.proofs.prober.WorldProberProber.ask.Goals as goal

pub returns-then-asked-clause-truth : goal.returns-then-asked-clause-truth
returns-then-asked-clause-truth c =
    let w : WorldState = c.self.inside.world in
    let can : CanAsk c.self.inside.made w c.self.inside.host c.args.w.now = can-ask c.self.inside.made w c.self.inside.host c.args.w.now c.self.invariant.stood c.moment.ensures.kept (ap (λ p. is_idle p.world.links) c.self.view_is ∙ c.requires.is_ready) c.self.invariant.there (turns-in_range c.turns-turns.result.now c.args.w.now c.turns-turns.ensures.value c.turns-turns.ensures.in_range) c.requires.short in
    subst (λ (p : WorldAsking). IsTrueOrDrowned (answer (fabric_at p.world.links.cables p.made) p.host c.args.w.now) p.drowned c.saturating_add-self-inside.result c.in_ok-asked.asked.answer) c.self.view_is
    (told-drowned c.self.inside.made w c.self.inside.host c.self.inside.tries c.args.w.now c.in_ok-asked.asked.answer c.self.inside.drowned c.saturating_add-self-inside.result can c.in_ok-asked.ensures.answer
    (let e = c.saturating_add-self-inside.ensures in omega (arith, e)))

pub returns-then-asked-clause-stays_ready : goal.returns-then-asked-clause-stays_ready
returns-then-asked-clause-stays_ready c =
    let w : WorldState = c.self.inside.world in
    ap (λ v. is_idle v.links) c.in_ok-asked.ensures.after
    ∙ ask-idle w c.self.inside.made c.self.inside.host c.self.inside.tries c.args.w.now c.moment.ensures.kept.world (ap (λ p. is_idle p.world.links) c.self.view_is ∙ c.requires.is_ready)

pub returns-else-asked-clause-truth : goal.returns-else-asked-clause-truth
returns-else-asked-clause-truth c =
    let w : WorldState = c.self.inside.world in
    let can : CanAsk c.self.inside.made w c.self.inside.host c.args.w.now = can-ask c.self.inside.made w c.self.inside.host c.args.w.now c.self.invariant.stood c.moment.ensures.kept (ap (λ p. is_idle p.world.links) c.self.view_is ∙ c.requires.is_ready) c.self.invariant.there (turns-in_range c.turns-turns.result.now c.args.w.now c.turns-turns.ensures.value c.turns-turns.ensures.in_range) c.requires.short in
    subst (λ (p : WorldAsking). IsTrueOrDrowned (answer (fabric_at p.world.links.cables p.made) p.host c.args.w.now) p.drowned c.self.inside.drowned c.in_ok-asked.asked.answer) c.self.view_is
    (told-true c.self.inside.made w c.self.inside.host c.self.inside.tries c.args.w.now c.in_ok-asked.asked.answer c.self.inside.drowned c.self.inside.drowned can c.in_ok-asked.ensures.answer
    (sym c.in_ok-asked.ensures.drowned ∙ c.if-asked.false))

pub returns-else-asked-clause-stays_ready : goal.returns-else-asked-clause-stays_ready
returns-else-asked-clause-stays_ready c =
    let w : WorldState = c.self.inside.world in
    ap (λ v. is_idle v.links) c.in_ok-asked.ensures.after
    ∙ ask-idle w c.self.inside.made c.self.inside.host c.self.inside.tries c.args.w.now c.moment.ensures.kept.world (ap (λ p. is_idle p.world.links) c.self.view_is ∙ c.requires.is_ready)

pub returns-in_err-asked-clause-by_cutting : goal.returns-in_err-asked-clause-by_cutting
returns-in_err-asked-clause-by_cutting c =
    let left : WorldAsking = record { world = c.ask.new.w; made = c.self.inside.made; host = c.self.inside.host; tries = c.self.inside.tries; drowned = c.self.inside.drowned } in
    on-any c.from_residual.result (subst (λ (p : WorldAsking). IsCutAsk p c.args.w.now left) c.self.view_is (record { way = c.in_err-asked.ensures.err; rest = refl }))

-- whatever came of it, the fabric of the past stays
pub returns-then-asked-clause-same_fabric : goal.returns-then-asked-clause-same_fabric
returns-then-asked-clause-same_fabric c =
    let p : WorldAsking = record { world = c.self.inside.world; made = c.self.inside.made; host = c.self.inside.host; tries = c.self.inside.tries; drowned = c.self.inside.drowned } in
    past-stays p c.args.self.now c.args.w.now c.ask.new.w c.ask.result c.self.view_is c.self.invariant c.ask.ensures.after c.ask.ensures.err

pub returns-else-asked-clause-same_fabric : goal.returns-else-asked-clause-same_fabric
returns-else-asked-clause-same_fabric c =
    let p : WorldAsking = record { world = c.self.inside.world; made = c.self.inside.made; host = c.self.inside.host; tries = c.self.inside.tries; drowned = c.self.inside.drowned } in
    past-stays p c.args.self.now c.args.w.now c.ask.new.w c.ask.result c.self.view_is c.self.invariant c.ask.ensures.after c.ask.ensures.err

pub returns-in_err-asked-clause-same_fabric : goal.returns-in_err-asked-clause-same_fabric
returns-in_err-asked-clause-same_fabric c =
    let p : WorldAsking = record { world = c.self.inside.world; made = c.self.inside.made; host = c.self.inside.host; tries = c.self.inside.tries; drowned = c.self.inside.drowned } in
    past-stays p c.args.self.now c.args.w.now c.ask.new.w c.ask.result c.self.view_is c.self.invariant c.ask.ensures.after c.ask.ensures.err

-- and the mapper can ask again
pub invariant_of-self : goal.invariant_of-self
invariant_of-self c =
    let p : WorldAsking = record { world = c.self.inside.world; made = c.self.inside.made; host = c.self.inside.host; tries = c.self.inside.tries; drowned = c.self.inside.drowned } in
    asks-on p c.args.w.now c.ask.new.w c.self.inside.drowned c.ask.result c.self.invariant c.ask.ensures.after c.ask.ensures.err c.ask.ensures.hosts

pub invariant_of-self-then-asked : goal.invariant_of-self-then-asked
invariant_of-self-then-asked c =
    let p : WorldAsking = record { world = c.self.inside.world; made = c.self.inside.made; host = c.self.inside.host; tries = c.self.inside.tries; drowned = c.self.inside.drowned } in
    asks-on p c.args.w.now c.ask.new.w c.saturating_add-self-inside.result c.ask.result c.self.invariant c.ask.ensures.after c.ask.ensures.err c.ask.ensures.hosts

pub invariant_of-self-else-asked : goal.invariant_of-self-else-asked
invariant_of-self-else-asked c =
    let p : WorldAsking = record { world = c.self.inside.world; made = c.self.inside.made; host = c.self.inside.host; tries = c.self.inside.tries; drowned = c.self.inside.drowned } in
    asks-on p c.args.w.now c.ask.new.w c.self.inside.drowned c.ask.result c.self.invariant c.ask.ensures.after c.ask.ensures.err c.ask.ensures.hosts
