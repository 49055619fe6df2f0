use Rattle.std.proofs.Common.{ap, ◌∙◌, sym, ◌≡◌, ◌+◌, nat_eq, None}
use Rattle.std.specs.Map.{lookup}
use Rattle.world_defs.specs.Links.{put}
use Rattle.world_defs.specs.World.{without_fault}
use Rattle.world_defs.specs.Step.{fault_on}
use Rattle.faulty_links.specs.Held.{LinksAndPlan, part_of, behind_fault}
use Rattle.faulty_links.proofs.Parts.{unplanned, strikes_it}
use Rattle.faulty_links.proofs.faulty.FaultyLinks.inject.Goals as goal

pub returns-in_default-clause-strikes : goal.returns-in_default-clause-strikes
returns-in_default-clause-strikes c =
    let links = c.self.inside.links in
    let plan = c.self.inside.plan in
    let counts = c.self.inside.counts in
    let p : LinksAndPlan = part_of links plan counts in
    let none : c.at.result ≡ None = c.in_default.is in
    unplanned c.args.self.now p _ c.args.c c.args.p c.self.view_is (ap (λ n. lookup (nat_eq (n + 1)) plan) (sym c.injected-number.ensures) ∙ sym c.at.ensures ∙ none)
    (ap (λ l. part_of l plan c.inject.new.self) c.put.ensures.links ∙ ap (part_of (put links c.args.c c.args.p).1 plan) c.inject.ensures)

pub returns-clause-strikes : goal.returns-clause-strikes
returns-clause-strikes c =
    let links = c.self.inside.links in
    let plan = c.self.inside.plan in
    let counts = c.self.inside.counts in
    let p : LinksAndPlan = part_of links plan counts in
    let o = fault_on (put links c.args.c c.args.p).1 c.args.c c.in-Some.fault in
    strikes_it c.args.self.now p _ c.args.c c.args.p c.in-Some.fault c.self.view_is (ap (λ n. lookup (nat_eq (n + 1)) plan) (sym c.injected-number.ensures) ∙ sym c.at.ensures ∙ c.in-Some.is)
    (ap (λ l. part_of l c.remove.new.self c.inject_under.new.self) c.in_ok-strikes.ensures.links
    ∙ ap (λ r. part_of o.1 r c.inject_under.new.self) (c.remove.ensures ∙ ap (λ n. without_fault (n + 1) plan) c.injected-number.ensures)
    ∙ ap (part_of o.1 (without_fault (counts.injected + 1) plan)) (c.inject_under.ensures ∙ ap (λ b. behind_fault counts b c.is_harm.result) c.in_ok-strikes.ensures.strikes ∙ ap (behind_fault counts o.0) c.is_harm.ensures))
