use Rattle.std.proofs.Common.{sym, ap, ◌∙◌}
use Rattle.gm_defs.specs.Connection.{connection}
use Rattle.gm_conn.specs.Pair.{pair_of}
use Rattle.gm_conn.proofs.Stepping.{new-kept}
use Rattle.gm_conn.proofs.pair.Pair.new.Goals as goal

pub invariant_of-result : goal.invariant_of-result
invariant_of-result c =
    new-kept _ _ _ _ _ (connection c.args.src c.args.dst c.args.prio) c.requires
    (ap (λ x. x.waiting) c.new.ensures)
    (ap (λ x. x.key) c.new-2.ensures ∙ sym (ap (λ x. x.key) c.new.ensures))
    c.new-4.ensures.items
    (λ i. pair_of (c.new.ensures i) (c.new-2.ensures i) (c.new-3.ensures.items i) (c.new-4.ensures.items i) (c.new-5.ensures.items i))
