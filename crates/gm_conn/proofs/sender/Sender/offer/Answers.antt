use Rattle.std.proofs.Common.{◌≡◌, ◌+◌, ℕ, List, true, false, sym, subst}
use Rattle.gm_defs.specs.Fragment.{piece_count}
use Rattle.gm_defs.specs.Connection.{is_spent}
use Rattle.gm_conn.specs.declared.desc.Desc.{Desc}
use Rattle.gm_conn.specs.Halves.{IsOutgoingFrom, outgoing, is_desc}
use Rattle.gm_conn.proofs.Waiting.{desc-rules}
use Rattle.gm_conn.proofs.Finished.{offer-kept}
use Rattle.gm_conn.proofs.sender.Sender.offer.Goals as goal

pub piece_count-requires : goal.piece_count-requires
piece_count-requires c = (desc-rules c.self.inside.key c.args.d (subst (λ w. is_desc w.key c.args.d ≡ true) (sym c.self.view_is) c.requires.by_rules)).total

pub invariant_of-self : goal.invariant_of-self
invariant_of-self c =
    let rules : is_desc c.self.inside.key c.args.d ≡ true = subst (λ w. is_desc w.key c.args.d ≡ true) (sym c.self.view_is) c.requires.by_rules in
    let room = subst (λ w. is_spent w.numbers (piece_count c.args.d.total) ≡ false) (sym c.self.view_is) c.requires.numbers in
    subst
    (λ (x : ℕ × List Desc).
    IsOutgoingFrom c.self.inside.first (outgoing c.self.inside.key (record {
      base = c.self.inside.base;
      cursor = c.self.inside.cursor;
      top = c.self.inside.top;
      next = c.self.inside.next + x.0;
    }) x.1 c.push_back_reserved.new.self.spare))
    (λ i. (sym c.piece_count.ensures.exact i, sym c.push_back_reserved.ensures.items i))
    (offer-kept _ c.self.inside.first c.args.d c.push_back_reserved.new.self.spare c.self.invariant rules room)
