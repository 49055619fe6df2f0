use Rattle.std.proofs.Common.{sym, ◌∙◌}
use Rattle.fab_remap.proofs.Stopped.{left-none, left-new, left-old_far}
use Rattle.fab_remap.proofs.broken_routes.far_left.Goals as goal

pub returns-in-Some : goal.returns-in-Some
returns-in-Some c =
    sym
    (left-old_far c.args.w.now.links.cables c.args.e c.in-Some.c c.moment.ensures.kept.history (sym c.in-Some.ensures.channel) (sym c.is_new.ensures ∙ c.if-not-is_new.true)
    ∙ c.ends.ensures.head)

pub returns-in_default : goal.returns-in_default
returns-in_default c = sym (left-new c.args.w.now.links.cables c.args.e c.in-Some.c c.moment.ensures.kept.history (sym c.in-Some.ensures.channel) (sym c.is_new.ensures ∙ c.if-not-is_new.false))

pub returns-in_default-2 : goal.returns-in_default-2
returns-in_default-2 c = sym (left-none c.args.w.now.links.cables c.args.e c.moment.ensures.kept.history (sym c.in_default.ensures.channel))
