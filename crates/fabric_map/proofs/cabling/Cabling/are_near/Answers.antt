use Rattle.std.proofs.Common.{◌≡◌, ℤ, pos, ◌-ℤ◌, true, false, true≢false, is_some, inl, inr, ⊎_elim, sym, ap, subst, ◌∙◌, w8, to_z, of_z, FitsSigned, arith, rules, below_more}
use Rattle.std.proofs.lemmas.Bool.{cases_lt}
use Rattle.std.proofs.lemmas.Int.{to_z-of_z}
use Rattle.std.specs.List.{AllByRecursion}
use Rattle.net_defs.specs.Turn.{is_turn, IsTurn}
use Rattle.map_defs.specs.NetMap.{MapPort, far_port, map_ends}
use Rattle.fabric_map.proofs.Tables.{some-pair, not-near, near-by_places}
use Rattle.fabric_map.proofs.cabling.Cabling.are_near.Goals.{else-not-is_close-via-then-not-is_close+else-is_some, else-not-is_close-via-else-not-is_close}
use Rattle.fabric_map.proofs.cabling.Cabling.are_near.Goals as goal

pub returns-then-is_some : goal.returns-then-is_some
returns-then-is_some c =
    let e : to_z w8 (of_z w8 c.args.p) ≡ c.args.p = to_z-of_z w8 c.args.p c.ranges.p in
    let q : ℤ = to_z w8 (of_z w8 c.port_at-q.result) in
    let far : is_some (far_port c.args.self.now (record { v = c.args.v; p = q })) ≡ true = sym (some-pair (far_port c.args.self.now (record { v = c.args.v; p = q }))) ∙ ap is_some (sym c.far.ensures) ∙ sym c.is_some.ensures ∙ c.if-is_some.true in
    let t : is_turn (q -ℤ c.args.p) ≡ false = ap (λ z. is_turn (q -ℤ z)) (sym e) ∙ sym c.is_close.ensures ∙ c.if-not-is_close.true in
    sym (not-near c.args.self.now (record { v = c.args.v; p = c.args.p }) q far t)

pub loop-k-preserved : goal.loop-k-preserved
loop-k-preserved c =
    let r : ℤ = c.port_at-q.result in
    let fits : FitsSigned w8 r = search rules in
    let same : to_z w8 (of_z w8 r) ≡ pos c.loop-k.k -ℤ pos 15 = to_z-of_z w8 r fits ∙ c.port_at-q.ensures in
    elim c.else-not-is_close.branch [
      | else-not-is_close-via-then-not-is_close+else-is_some w ↦ below_more _ _ c.loop-k.invariant (λ low far. absurd (true≢false (sym far ∙ sym (ap is_some w.far.ensures ∙ (some-pair (far_port c.args.self.now (record { v = c.args.v; p = to_z w8 (of_z w8 r) })) ∙ ap (λ z. is_some (far_port c.args.self.now (record { v = c.args.v; p = z }))) same)) ∙ sym w.is_some.ensures ∙ w.if-is_some.false)))
      | else-not-is_close-via-else-not-is_close w ↦ below_more _ _ c.loop-k.invariant (λ low far. ap (λ z. is_turn (z -ℤ to_z w8 (of_z w8 c.args.p))) (sym same) ∙ sym c.is_close.ensures ∙ w.if-not-is_close.false)
    ]

pub loop-k-init : goal.loop-k-init
loop-k-init c = λ k low l far. absurd (true≢false (sym far ∙ ap is_some (c.span-places.ensures.outside k l (inl low))))

pub returns : goal.returns
returns c =
    let e : to_z w8 (of_z w8 c.args.p) ≡ c.args.p = to_z-of_z w8 c.args.p c.ranges.p in
    let turns : AllByRecursion (λ (d : MapPort). IsTurn d.p) (map_ends c.args.self.now) = subst (λ cs. AllByRecursion (λ (d : MapPort). IsTurn d.p) (map_ends cs)) c.self.view_is c.self.invariant.turns in
    sym (near-by_places c.args.self.now (record { v = c.args.v; p = c.args.p }) turns (λ k l far. ap (λ z. is_turn ((pos k -ℤ pos 15) -ℤ z)) (sym e) ∙
    ⊎_elim
    (λ before. c.loop-k.invariant k before l far)
    (λ behind. absurd (true≢false (sym far ∙ ap is_some (c.span-places.ensures.outside k l (inr (omega (arith, behind, c.loop-k-test.false)))))))
    (cases_lt k c.loop-k.k)))
