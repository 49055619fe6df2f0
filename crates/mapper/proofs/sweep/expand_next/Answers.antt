use Rattle.std.proofs.Common.{ℕ}
use Rattle.mapper.proofs.Adding.{grown-none, found-some}
use Rattle.mapper.proofs.Sweeping.{settled-whole}
use Rattle.mapper.specs.Finding.{IsNodeAt}
use Rattle.mapper.specs.Growths.{IsNextOpen}
use Rattle.mapper.proofs.sweep.expand_next.Goals as goal

pub next_open-requires : goal.next_open-requires
next_open-requires g c = c.requires.settled.under_way.stands

pub expand_at-requires-clause-is_next : goal.expand_at-requires-clause-is_next
expand_at-requires-clause-is_next g c =
    let t = c.args.tree.now in
    found-some (λ (o : ℕ × ℕ). IsNextOpen t.journal.host t.depth t.journal.entries c.args.next.now o.0) c.next_open.result (c.in-Some.place, c.in-Some.node) c.in-Some.is c.next_open.ensures.found

pub expand_at-requires-clause-node : goal.expand_at-requires-clause-node
expand_at-requires-clause-node g c =
    let t = c.args.tree.now in
    found-some (λ (o : ℕ × ℕ). IsNodeAt t.classes t.journal.entries o.0 o.1) c.next_open.result (c.in-Some.place, c.in-Some.node) c.in-Some.is c.next_open.ensures.node

pub returns-in-None-clause-grown : goal.returns-in-None-clause-grown
returns-in-None-clause-grown g c =
    let p = g.P.Prober in
    grown-none p.State p.asked (p.fabric c.args.p.now) c.args.tree.now (p.state c.args.p.now) (p.lost c.args.p.now) c.requires.settled.under_way

pub returns-in-None-clause-ends : goal.returns-in-None-clause-ends
returns-in-None-clause-ends g c = λ e. settled-whole c.args.tree.now c.args.next.now c.requires.settled (c.next_open.ensures.none c.in-None.is)
