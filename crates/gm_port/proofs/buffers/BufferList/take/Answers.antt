use Rattle.std.proofs.Common.{◌≡◌, ◌-◌, length, map, Some, IsSome, refl, sym, ap, subst, ◌∙◌, arith}
use Rattle.std.specs.Prelude.{find, option_map, slice_get, slice_index_or, slice_set}
use Rattle.std.specs.List.{remove}
use Rattle.std.proofs.lemmas.Option.{slice_get_read}
use Rattle.gm_defs.specs.Port.{without_first}
use Rattle.gm_port.specs.Held.{Buffers, provided_at, provided_of}
use Rattle.gm_port.specs.Lists.{AreOwnTokens, IsFillingOnlyIf, taking}
use Rattle.gm_port.specs.Tallies.{AreTallied, numbers_of}
use Rattle.gm_port.proofs.Listed.{none-takes, taken-first, taken-rest, taken-within, listed}
use Rattle.gm_port.proofs.Beginning.{fills-less}
use Rattle.gm_port.proofs.Tallies.{tallied_less, numbers-less, own-less, fewer}
use Rattle.gm_port.proofs.buffers.BufferList.take.Goals as goal

pub unreachable-requires : goal.unreachable-requires
unreachable-requires c =
    none-takes c.args.h.now c.self.inside.provided.items (sym c.first_taking.ensures ∙ c.in_default.is) (subst (λ (b : Buffers). IsSome (find (taking c.args.h.now b.provided) b.provided)) (sym c.self.view_is) c.requires)

pub returns-clause-taken : goal.returns-clause-taken
returns-clause-taken c =
    subst (λ (b : Buffers). option_map (provided_at b.host b.port) (find (taking c.args.h.now b.provided) b.provided) ≡ Some c.in-Some-remove.taken) c.self.view_is
    (taken-first c.self.inside.host c.self.inside.port c.args.h.now c.self.inside.provided.items c.in-Some.at c.in-Some-remove.taken c.self.invariant.0.own (sym c.first_taking.ensures ∙ c.in-Some.is) c.in-Some-remove.ensures.value)

pub returns-clause-rest : goal.returns-clause-rest
returns-clause-rest c =
    let more : map provided_of c.remove.new.self.items ≡ without_first (taking c.args.h.now (map provided_of c.self.inside.provided.items)) (map provided_of c.self.inside.provided.items) =
    taken-rest c.args.h.now c.self.inside.provided.items c.remove.new.self.items c.in-Some.at (sym c.first_taking.ensures ∙ c.in-Some.is) c.in-Some-remove.ensures.items in
    subst (λ (b : Buffers). listed c.self.inside.host c.self.inside.port c.self.inside.limit (map provided_of c.remove.new.self.items) ≡ record b { provided = without_first (taking c.args.h.now b.provided) b.provided }) c.self.view_is
    (ap (listed c.self.inside.host c.self.inside.port c.self.inside.limit) more)

pub invariant_of-self : goal.invariant_of-self
invariant_of-self c =
    let b = c.self.inside in
    let k = c.self.invariant.0 in
    let rs = b.provided.items in
    let j = c.in-Some.at in
    let r = c.in-Some-remove.taken in
    let within = taken-within c.args.h.now rs j (sym c.first_taking.ensures ∙ c.in-Some.is) in
    let at : slice_get rs j ≡ Some r = slice_get_read rs (length rs) j r refl within c.in-Some-remove.ensures.value in
    let items : c.remove.new.self.items ≡ remove rs j = c.in-Some-remove.ensures.items in
    let capacity = c.in-Some-remove.ensures.capacity in
    let roomy = k.roomy in
    let few = k.few in
    let less = fewer rs j r at in
    let last = ap length items in
    let counted : AreTallied (slice_set b.tally r.token.number (slice_index_or b.tally r.token.number 0 - 1)) (numbers_of (remove rs j)) =
    tallied_less b.tally (numbers_of rs) (numbers_of (remove rs j)) r.token.number c.self.invariant.1 (λ n. numbers-less n rs j r at) in (
      record {
        own = subst (AreOwnTokens b.host b.port) (sym items) (own-less b.host b.port rs j r at k.own);
        few = omega (arith, few, less, last);
        roomy = omega (arith, capacity, roomy);
        none_listed = k.none_listed;
        list_roomy = k.list_roomy;
      },
      subst (AreTallied c.remove-in-Some-remove.new.self) (sym (ap numbers_of items))
          (subst (λ t. AreTallied t (numbers_of (remove rs j)))
          (ap (λ n. slice_set b.tally n (slice_index_or b.tally n 0 - 1)) (sym c.number.ensures) ∙ sym c.remove-in-Some-remove.ensures) counted),
      subst (IsFillingOnlyIf b.may_fill) (sym items) (fills-less rs j r b.may_fill at c.self.invariant.2),
    )
