use Rattle.std.proofs.Common.{◌+◌, ◌∷◌, [], ap, sym, subst, length, length-append, Ok, Err, None, arith}
use Rattle.std.proofs.lemmas.Result.{err_from_is_err_and}
use Rattle.judge_defs.specs.Form.{next_due, route_due, route_lines}
use Rattle.fab_judge.specs.Reading.{HasRead}
use Rattle.fab_judge.specs.Blocks.{GivesRoute}
use Rattle.fab_judge.proofs.Lists.{last_of}
use Rattle.fab_judge.proofs.Steps.{read_none, read_more, read_fewer}
use Rattle.fab_judge.proofs.Blocks.{counted-begin, counted-more, counted-end}
use Rattle.fab_judge.proofs.RouteLines.{routes-counted, routes-stopped}
use Rattle.fab_judge.proofs.routes.read_routes.Goals as goal

pub lines-init : goal.lines-init
lines-init c = record {
  same = counted-begin (λ k b ls. route_lines k b c.args.reader.now.past c.args.f.now ls) c.args.count c.new-routes.result c.args.reader.now.left c.new-routes.ensures;
  read = subst (λ rs. HasRead c.args.reader.now c.args.reader.now (length rs)) (sym c.new-routes.ensures) (read_none c.args.reader.now);
}

pub lines-preserved : goal.lines-preserved
lines-preserved c =
    let start = c.args.reader.now in
    let now = c.read_route.new.reader in
    let done = c.lines.routes in
    let said = subst (λ p. GivesRoute (next_due (route_due (last_of done)) p c.args.f.now c.lines.reader.left) now.left done c.read_route.new.routes (Ok tt)) c.lines.invariant.read.past c.in_ok-read_route.ensures.said in
    let longer = ap (λ rs. length rs) said.2 in
    let one = length-append done (said.0 ∷ []) in
    record {
      same = counted-more (λ k b ls. route_lines k b start.past c.args.f.now ls) (λ b ls. next_due (route_due b) start.past c.args.f.now ls)
          (route_lines c.args.count None start.past c.args.f.now start.left) c.args.count c.lines._read done c.read_route.new.routes c.lines.reader.left now.left said.0
          (routes-counted start.past c.args.f.now) (omega arith) c.lines.invariant.same said.1 said.2;
      read = read_fewer start now (length done + 1) (length c.read_route.new.routes) (read_more start c.lines.reader now (length done) 1 c.lines.invariant.read c.in_ok-read_route.ensures.read) (omega arith);
    }

pub returns-in_err-read_route-clause-said : goal.returns-in_err-read_route-clause-said
returns-in_err-read_route-clause-said c =
    let start = c.args.reader.now in
    let now = c.read_route.new.reader in
    let done = c.lines.routes in
    let p = err_from_is_err_and c.from_residual.result c.from_residual.ensures.1 in
    rw (p.1, p.2)
    (routes-stopped c.args.count c.lines._read start.past c.args.f.now (route_lines c.args.count None start.past c.args.f.now start.left) done c.read_route.new.routes c.lines.reader.left now.left c.in_err-read_route.field-0.0
    (omega arith) c.lines.invariant.same
    (subst (λ p. GivesRoute (next_due (route_due (last_of done)) p c.args.f.now c.lines.reader.left) now.left done c.read_route.new.routes (Err c.in_err-read_route.field-0.0)) c.lines.invariant.read.past c.in_err-read_route.ensures.said))

pub returns-clause-said : goal.returns-clause-said
returns-clause-said c =
    counted-end (λ k b ls. route_lines k b c.args.reader.now.past c.args.f.now ls) (λ b ls. next_due (route_due b) c.args.reader.now.past c.args.f.now ls)
    (route_lines c.args.count None c.args.reader.now.past c.args.f.now c.args.reader.now.left) c.args.count c.lines._read c.lines.routes c.lines.reader.left
    (routes-counted c.args.reader.now.past c.args.f.now) (omega arith) c.lines.invariant.same
