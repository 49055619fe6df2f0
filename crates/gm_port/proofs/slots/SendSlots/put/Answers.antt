use Rattle.std.proofs.Common.{◌≡◌, ◌<◌, ℕ, List, length, None, Some, sym, ap, subst, ◌∙◌, arith, rules}
use Rattle.std.specs.Prelude.{slice_get, slice_set}
use Rattle.gm_tokens.specs.Token.{Token}
use Rattle.gm_port.specs.Table.{Place}
use Rattle.gm_port.specs.Slots.{by_ticket, AreSlots}
use Rattle.gm_port.proofs.Keyed.{room-for, free-within, vacant-place, put-keeps, put-seen}
use Rattle.gm_port.proofs.slots.SendSlots.put.Goals as goal

pub insert_reserved-key-requires : goal.insert_reserved-key-requires
insert_reserved-key-requires c =
    let none : Place = None in
    let free : slice_get (by_ticket c.self.inside.keys.items c.self.inside.held.items) c.args.ticket ≡ Some none =
    ap (λ (ps : List Place). slice_get ps c.args.ticket) c.self.view_is ∙ c.requires in
    room-for c.self.inside.slots c.self.inside.keys.items c.self.inside.held.items c.self.invariant c.args.ticket free

pub index_mut-requires : goal.index_mut-requires
index_mut-requires c =
    let none : Place = None in
    let free : slice_get (by_ticket c.self.inside.keys.items c.self.inside.held.items) c.args.ticket ≡ Some none =
    ap (λ (ps : List Place). slice_get ps c.args.ticket) c.self.view_is ∙ c.requires in
    let lt : c.args.ticket < length c.self.inside.keys.items =
    free-within c.self.inside.slots c.self.inside.keys.items c.self.inside.held.items c.self.invariant c.args.ticket free in
    search rules

pub put-requires : goal.put-requires
put-requires c =
    let lt : c.insert_reserved-key.result < c.self.inside.slots.capacity = omega (arith, c.insert_reserved-key.ensures.key_in_range, c.insert_reserved-key.ensures.capacity) in
    vacant-place c.self.inside.slots c.self.inside.keys.items c.self.inside.held.items c.self.invariant c.insert_reserved-key.result c.insert_reserved-key.ensures.was_vacant lt

pub invariant_of-self : goal.invariant_of-self
invariant_of-self c =
    let none : Place = None in
    let free : slice_get (by_ticket c.self.inside.keys.items c.self.inside.held.items) c.args.ticket ≡ Some none =
    ap (λ (ps : List Place). slice_get ps c.args.ticket) c.self.view_is ∙ c.requires in
    let lt : c.insert_reserved-key.result < c.self.inside.slots.capacity = omega (arith, c.insert_reserved-key.ensures.key_in_range, c.insert_reserved-key.ensures.capacity) in
    let e : Token × List ℕ = (c.args.token, c.args.buffer) in
    subst (λ (l : List Place). AreSlots c.insert_reserved-key.new.self (slice_set c.self.inside.keys.items c.args.ticket (Some c.insert_reserved-key.result)) l) (sym c.put.ensures)
    (put-keeps c.self.inside.slots c.self.inside.keys.items c.self.inside.held.items c.self.invariant c.args.ticket free c.insert_reserved-key.result c.insert_reserved-key.ensures.was_vacant lt
    c.insert_reserved-key.new.self c.insert_reserved-key.ensures.updates c.insert_reserved-key.ensures.len c.insert_reserved-key.ensures.capacity e)

pub returns : goal.returns
returns c =
    let none : Place = None in
    let free : slice_get (by_ticket c.self.inside.keys.items c.self.inside.held.items) c.args.ticket ≡ Some none =
    ap (λ (ps : List Place). slice_get ps c.args.ticket) c.self.view_is ∙ c.requires in
    let lt : c.insert_reserved-key.result < c.self.inside.slots.capacity = omega (arith, c.insert_reserved-key.ensures.key_in_range, c.insert_reserved-key.ensures.capacity) in
    let e : Token × List ℕ = (c.args.token, c.args.buffer) in
    ap (λ (l : List Place). by_ticket (slice_set c.self.inside.keys.items c.args.ticket (Some c.insert_reserved-key.result)) l) c.put.ensures
    ∙ put-seen c.self.inside.slots c.self.inside.keys.items c.self.inside.held.items c.self.invariant c.args.ticket free c.insert_reserved-key.result c.insert_reserved-key.ensures.was_vacant lt
    c.insert_reserved-key.new.self c.insert_reserved-key.ensures.updates c.insert_reserved-key.ensures.len c.insert_reserved-key.ensures.capacity e
    ∙ ap (λ (ps : List Place). slice_set ps c.args.ticket (Some e)) c.self.view_is
