use Rattle.std.proofs.Common.{◌≡◌, true, ◌++◌, ◌∷◌, [], ap, sym, subst, ◌∙◌}
use Rattle.gm_conn.specs.Halves.{is_desc, with_offer}
use Rattle.gm_conn.specs.Pair.{desc_of}
use Rattle.gm_conn.proofs.Stepping.{offered-desc, offer-kept}
use Rattle.gm_conn.proofs.pair.Pair.offer.Goals as goal

pub offer-first-requires-clause-by_rules : goal.offer-first-requires-clause-by_rules
offer-first-requires-clause-by_rules c =
    let desc : c.desc_of-desc.result ≡ desc_of c.self.inside.sender.key c.args.m = c.desc_of-desc.ensures ∙ ap (λ p. desc_of p.key c.args.m) (sym c.self.view_is) in
    subst (λ d. is_desc c.reserve-2.new.self.key d ≡ true) (sym desc)
    (offered-desc _ _ _ _ _ c.args.m _ c.self.invariant c.requires (ap (λ x. x.key) c.reserve-2.ensures.stays))

pub invariant_of-self-in-Ok : goal.invariant_of-self-in-Ok
invariant_of-self-in-Ok c =
    let desc : c.desc_of-desc.result ≡ desc_of c.self.inside.sender.key c.args.m = c.desc_of-desc.ensures ∙ ap (λ p. desc_of p.key c.args.m) (sym c.self.view_is) in
    offer-kept _ _ _ _ _ _ _ _ c.args.m _ c.self.invariant c.requires c.reserve-2.ensures.stays c.in-Ok.ensures.refused
    (c.offer-first.ensures.new ∙ ap (with_offer c.reserve-2.new.self) desc)
    (c.push_reserved.ensures.items ∙ ap (λ l. l ++ c.args.m ∷ []) c.reserve.ensures.items)
