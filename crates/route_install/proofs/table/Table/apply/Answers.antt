use Rattle.std.proofs.Common.{◌≡◌, ap, sym, ◌∙◌, true, false}
use Rattle.world_defs.specs.Mapping.{RoutePart}
use Rattle.world_defs.specs.Table.{applied, joined, is_epoch, is_old, active_epoch}
use Rattle.route_install.proofs.Applying.{applied-old, applied-active, applied-next}
use Rattle.route_install.proofs.table.Table.apply.Goals as goal

pub returns-then-is_old-clause-ok : goal.returns-then-is_old-clause-ok
returns-then-is_old-clause-ok c =
    let t = c.args.self.now.state in
    let new : c.p.inside.epoch ≡ c.args.p.epoch = ap (λ (p : RoutePart). p.epoch) c.p.view_is in
    sym (applied-old t c.args.p (ap (is_old t) (sym new) ∙ sym c.is_old.ensures ∙ c.if-is_old.true))

pub returns-then-is_active_in-clause-ok : goal.returns-then-is_active_in-clause-ok
returns-then-is_active_in-clause-ok c =
    let t = c.args.self.now.state in
    let new : c.p.inside.epoch ≡ c.args.p.epoch = ap (λ (p : RoutePart). p.epoch) c.p.view_is in
    let old : is_old t c.args.p.epoch ≡ false = ap (is_old t) (sym new) ∙ sym c.is_old.ensures ∙ c.if-is_old.false in
    let active : is_epoch c.args.p.epoch (active_epoch t) ≡ true = ap (λ e. is_epoch e (active_epoch t)) (sym new) ∙ sym c.is_active_in.ensures ∙ c.if-is_active_in.true in
    sym (applied-active t c.args.p old active)

pub returns-clause-ok : goal.returns-clause-ok
returns-clause-ok c =
    let t = c.args.self.now.state in
    let p : RoutePart = record { epoch = c.p.inside.epoch; mapper = c.p.inside.mapper; dst = c.p.inside.dst; part = c.p.inside.part; parts = c.p.inside.parts; back = c.p.inside.back; entries = c.p.inside.entries } in
    let old : is_old t p.epoch ≡ false = sym c.is_old.ensures ∙ c.if-is_old.false in
    let other : is_epoch p.epoch (active_epoch t) ≡ false = sym c.is_active_in.ensures ∙ c.if-is_active_in.false in
    c.join.ensures.state
    ∙ ap (joined p.parts) c.in_ok-collect.ensures.ok
    ∙ sym (applied-next t p old other)
    ∙ ap (applied t) c.p.view_is
