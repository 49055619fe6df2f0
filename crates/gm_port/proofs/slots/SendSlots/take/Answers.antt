use Rattle.std.proofs.Common.{◌≡◌, ℕ, List, Option, get_or, None, Some, sym, ap, subst, ◌∙◌}
use Rattle.std.specs.Prelude.{slice_get, slice_set}
use Rattle.std.proofs.lemmas.Option.{same_Some}
use Rattle.gm_port.specs.Table.{Place}
use Rattle.gm_port.specs.Slots.{by_ticket, AreSlots}
use Rattle.gm_port.proofs.Keyed.{taken-place, taken-send, take-keeps, take-seen}
use Rattle.gm_port.proofs.slots.SendSlots.take.Goals as goal

pub take-requires : goal.take-requires
take-requires c =
    let none : Option ℕ = None in
    let at : get_or c.self.inside.keys.items c.args.ticket none ≡ Some c.key_of-key.result =
    ap (λ (ks : List (Option ℕ)). get_or ks c.args.ticket none) (sym c.deref.ensures.value) ∙ c.key_of-key.ensures in
    taken-place c.self.inside.slots c.self.inside.keys.items c.self.inside.held.items c.self.invariant c.args.ticket c.key_of-key.result at

pub invariant_of-self : goal.invariant_of-self
invariant_of-self c =
    let none : Option ℕ = None in
    let at : get_or c.self.inside.keys.items c.args.ticket none ≡ Some c.key_of-key.result =
    ap (λ (ks : List (Option ℕ)). get_or ks c.args.ticket none) (sym c.deref.ensures.value) ∙ c.key_of-key.ensures in
    let freed : c.remove-freed.result ≡ c.args.ticket =
    same_Some c.remove-freed.result c.args.ticket (sym c.remove-freed.ensures.value ∙ c.self.invariant.has_slot c.args.ticket c.key_of-key.result at) in
    let updates = subst (λ (l : List Place). AreSlots c.remove-freed.new.self (slice_set c.self.inside.keys.items c.args.ticket none) l) (sym c.take.ensures.rest)
    (take-keeps c.self.inside.slots c.self.inside.keys.items c.self.inside.held.items c.self.invariant c.args.ticket c.key_of-key.result at
    c.remove-freed.new.self c.remove-freed.ensures.updates c.remove-freed.ensures.len c.remove-freed.ensures.capacity) in
    subst (λ (f : ℕ). AreSlots c.remove-freed.new.self (slice_set c.self.inside.keys.items f none) c.take.new.places.items) (sym freed) updates

pub returns-clause-rest : goal.returns-clause-rest
returns-clause-rest c =
    let none : Option ℕ = None in
    let free : Place = None in
    let at : get_or c.self.inside.keys.items c.args.ticket none ≡ Some c.key_of-key.result =
    ap (λ (ks : List (Option ℕ)). get_or ks c.args.ticket none) (sym c.deref.ensures.value) ∙ c.key_of-key.ensures in
    let freed : c.remove-freed.result ≡ c.args.ticket =
    same_Some c.remove-freed.result c.args.ticket (sym c.remove-freed.ensures.value ∙ c.self.invariant.has_slot c.args.ticket c.key_of-key.result at) in
    ap (λ (f : ℕ). by_ticket (slice_set c.self.inside.keys.items f none) c.take.new.places.items) freed
    ∙ ap (λ (l : List Place). by_ticket (slice_set c.self.inside.keys.items c.args.ticket none) l) c.take.ensures.rest
    ∙ take-seen c.self.inside.slots c.self.inside.keys.items c.self.inside.held.items c.self.invariant c.args.ticket c.key_of-key.result at
    c.remove-freed.new.self c.remove-freed.ensures.updates c.remove-freed.ensures.len c.remove-freed.ensures.capacity
    ∙ ap (λ (ps : List Place). slice_set ps c.args.ticket free) c.self.view_is

pub returns-clause-taken : goal.returns-clause-taken
returns-clause-taken c =
    let none : Option ℕ = None in
    let at : get_or c.self.inside.keys.items c.args.ticket none ≡ Some c.key_of-key.result =
    ap (λ (ks : List (Option ℕ)). get_or ks c.args.ticket none) (sym c.deref.ensures.value) ∙ c.key_of-key.ensures in
    ap (λ (ps : List Place). slice_get ps c.args.ticket) (sym c.self.view_is)
    ∙ taken-send c.self.inside.slots c.self.inside.keys.items c.self.inside.held.items c.self.invariant c.args.ticket c.key_of-key.result at c.take.result c.take.ensures.taken
