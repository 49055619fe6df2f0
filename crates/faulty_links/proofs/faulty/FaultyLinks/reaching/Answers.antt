use Rattle.std.proofs.Common.{◌≡◌, ◌<◌, ap, ◌∙◌, sym, subst, length, Some}
use Rattle.std.specs.Option.{option_copied}
use Rattle.faulty_links.specs.Held.{LinksAndPlan, part_of, reaching, IsHeardAt}
use Rattle.faulty_links.proofs.Arrivals.{end-host, read_at_host}
use Rattle.faulty_links.proofs.Parts.{heard_at}
use Rattle.faulty_links.proofs.faulty.FaultyLinks.reaching.Goals as goal

pub returns-in-Some-clause-host : goal.returns-in-Some-clause-host
returns-in-Some-clause-host c =
    subst (λ q. c.in-Host.host < length q.links.cables.hosts) c.self.view_is (end-host c.self.inside.links.cables c.ends.result.1 c.in-Host.host c.ends.ensures.there c.in-Host.is)

pub returns-in-Some-clause-heard : goal.returns-in-Some-clause-heard
returns-in-Some-clause-heard c =
    let s = c.self.inside.links in
    let p : LinksAndPlan = part_of s c.self.inside.plan c.self.inside.counts in
    let there : reaching s c.args.c ≡ Some (c.in-Host.host, c.in-Some.packet.now) =
    read_at_host s c.args.c c.ends.result.1 c.in-Host.host c.in-Some.packet.now c.ends.ensures.head c.in-Host.is (sym (ap option_copied c.in-Some.is) ∙ c.peek.ensures) in
    subst (λ q. IsHeardAt q c.args.c c.in-Host.host c.in-Some.packet.now) c.self.view_is (heard_at p c.args.c c.in-Host.host c.in-Some.packet.now there)
