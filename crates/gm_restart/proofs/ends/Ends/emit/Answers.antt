use Rattle.std.proofs.Common.{◌≡◌, IfOk, refl, sym, subst}
use Rattle.duo_defs.specs.Duo.{DuoState}
use Rattle.duo_defs.specs.Emitting.{emit}
use Rattle.gm_restart.specs.Whole.{BothAreWaiting, duo_of}
use Rattle.gm_restart.proofs.Both.{emits-second, second-side}
use Rattle.gm_restart.proofs.ends.Ends.emit.Goals as goal

pub emit-requires : goal.emit-requires
emit-requires c = subst BothAreWaiting (sym c.self.view_is) c.requires.waiting 0

pub emit-requires-else-x-eq0 : goal.emit-requires-else-x-eq0
emit-requires-else-x-eq0 c = subst BothAreWaiting (sym c.self.view_is) c.requires.waiting 1

pub returns-else-x-eq0-clause-ok : goal.returns-else-x-eq0-clause-ok
returns-else-x-eq0-clause-ok c =
    let inside : DuoState = duo_of c.self.inside.first c.self.inside.second c.self.inside.medium.items in
    let later : DuoState = duo_of c.self.inside.first c.emit-else-x-eq0.new.end c.emit-else-x-eq0.new.medium.items in
    subst (λ (d : DuoState). IfOk c.emit-else-x-eq0.result (λ k. emit d c.args.x ≡ (k, later))) c.self.view_is
    (emits-second inside later c.emit-else-x-eq0.new.medium.items c.emit-else-x-eq0.new.end.state c.self.inside.second.host c.args.x c.emit-else-x-eq0.result
    c.self.invariant.one (second-side c.args.x c.requires.side c.if-x-eq0.false) c.emit-else-x-eq0.ensures.ok refl)
