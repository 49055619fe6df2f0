use Rattle.std.proofs.Common.{◌≡◌, List, Some, ap, sym, ◌∙◌, subst, arith}
use Rattle.std.specs.Prelude.{ℤ, All, slice_get}
use Rattle.net_defs.specs.Turn.{IsTurn}
use Rattle.journal_defs.specs.declared.entry.Entry.{Entry}
use Rattle.journal_defs.specs.Tree.Node.{Reached}
use Rattle.journal_defs.specs.Growth.{IsChosen}
use Rattle.mapper.specs.Growths.{ExpandsOrFills}
use Rattle.mapper.proofs.Adding.{stops-still, on-err}
use Rattle.mapper.proofs.Sweeping.{slice-within, short-settled, open-chosen, goes-settled, goes-whole}
use Rattle.mapper.proofs.sweep.expand_at.Goals as goal

pub turns_at-requires : goal.turns_at-requires
turns_at-requires g c = slice-within c.args.tree.now.journal.entries c.args.place c.requires.is_next.is_open.entry c.requires.is_next.is_open.there

pub returns-in_err-front-clause-stopped : goal.returns-in_err-front-clause-stopped
returns-in_err-front-clause-stopped g c =
    let p = g.P.Prober in
    on-err c.from_residual.result (stops-still p.State p.asked p.cut (p.fabric c.args.p.now) c.args.tree.now (p.state c.args.p.now) (p.lost c.args.p.now) c.requires.settled.under_way)

pub expand-requires-clause-under_way : goal.expand-requires-clause-under_way
expand-requires-clause-under_way g c = c.requires.settled.under_way

pub expand-requires-clause-rest : goal.expand-requires-clause-rest
expand-requires-clause-rest g c = c.requires.settled.rest

pub expand-requires-clause-chosen : goal.expand-requires-clause-chosen
expand-requires-clause-chosen g c =
    let t = c.args.tree.now in
    let w = c.in_ok-front.ensures.there in
    subst (IsChosen t.journal.host t.depth t.journal.entries) (sym c.deref.ensures.value) (open-chosen t c.args.next.now c.requires.settled c.args.place c.requires.is_next c.in_ok-front.front.items w.entry w.there w.walk)

pub expand-requires-clause-turns : goal.expand-requires-clause-turns
expand-requires-clause-turns g c = subst (λ (ts : List ℤ). All IsTurn ts) (sym c.deref.ensures.value) c.in_ok-front.ensures.in_range

pub expand-requires-clause-node : goal.expand-requires-clause-node
expand-requires-clause-node g c =
    let t = c.args.tree.now in
    let w = c.in_ok-front.ensures.there in
    let node = c.requires.node in
    let both : Some node.entry ≡ Some w.entry = sym node.there ∙ w.there in
    let one : node.entry ≡ w.entry = cc in
    subst (λ (ts : List ℤ). slice_get t.classes.nodes c.args.node ≡ Some (Reached ts)) (ap (λ (e : Entry). e.walk) one ∙ w.walk ∙ sym c.deref.ensures.value) node.is

pub returns-in_err-expand-clause-stopped : goal.returns-in_err-expand-clause-stopped
returns-in_err-expand-clause-stopped g c = on-err c.from_residual-in_err-expand.result c.in_err-expand.ensures.stopped

pub returns-clause-grown : goal.returns-clause-grown
returns-clause-grown g c = c.in_ok-expand.ensures.grown

pub overflow_add-next : goal.overflow_add-next
overflow_add-next g c =
    let l = slice-within c.args.tree.now.journal.entries c.args.place c.requires.is_next.is_open.entry c.requires.is_next.is_open.there in
    let few = short-settled c.args.tree.now c.args.next.now c.requires.settled in
    omega arith

pub returns-clause-goes_on : goal.returns-clause-goes_on
returns-clause-goes_on g c = λ e.
    let p = g.P.Prober in
    let t = c.args.tree.now in
    let w = c.in_ok-front.ensures.there in
    goes-settled p.State p.asked (p.fabric c.args.p.now) t c.args.next.now c.requires.settled c.expand.new.tree (p.state c.args.p.now) (p.state c.expand.new.p) (p.lost c.args.p.now) (p.lost c.expand.new.p) c.in_ok-expand.ensures.grown c.args.place c.requires.is_next c.in_ok-front.front.items w.entry w.there w.walk (subst (ExpandsOrFills c.expand.new.tree) c.deref.ensures.value c.in_ok-expand.ensures.expanded) e

pub returns-clause-rises : goal.returns-clause-rises
returns-clause-rises g c = λ e. let l = c.requires.is_next.later in omega arith

pub returns-clause-ends : goal.returns-clause-ends
returns-clause-ends g c = λ e.
    let p = g.P.Prober in
    goes-whole p.State p.asked (p.fabric c.args.p.now) c.args.tree.now c.args.next.now c.requires.settled c.expand.new.tree (p.state c.args.p.now) (p.state c.expand.new.p) (p.lost c.args.p.now) (p.lost c.expand.new.p) c.in_ok-expand.ensures.grown c.deref.result.now c.in_ok-expand.ensures.expanded e
