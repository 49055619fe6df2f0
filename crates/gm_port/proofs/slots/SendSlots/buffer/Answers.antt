use Rattle.std.proofs.Common.{◌≡◌, ◌<◌, ℕ, List, Option, length, get_or, None, Some, sym, ap, ◌∙◌, rules}
use Rattle.std.specs.Prelude.{slice_get}
use Rattle.gm_tokens.specs.Token.{Token}
use Rattle.gm_port.specs.Table.{Place, buffer_in}
use Rattle.gm_port.specs.Slots.{by_ticket}
use Rattle.gm_port.proofs.Keyed.{sent-under, taken-send, within, read-place}
use Rattle.gm_port.proofs.slots.SendSlots.buffer.Goals as goal

pub index-requires : goal.index-requires
index-requires c =
    let none : Option ℕ = None in
    let at : get_or c.self.inside.keys.items c.args.ticket none ≡ Some c.key_of.result =
    ap (λ (ks : List (Option ℕ)). get_or ks c.args.ticket none) (sym c.deref.ensures.value) ∙ c.key_of.ensures in
    let lt : c.key_of.result < length c.self.inside.held.items =
    within c.self.inside.held.items c.key_of.result (sent-under c.self.inside.slots c.self.inside.keys.items c.self.inside.held.items c.self.invariant c.args.ticket c.key_of.result at) in
    search rules

pub returns : goal.returns
returns c =
    let none : Option ℕ = None in
    let at : get_or c.self.inside.keys.items c.args.ticket none ≡ Some c.key_of.result =
    ap (λ (ks : List (Option ℕ)). get_or ks c.args.ticket none) (sym c.deref.ensures.value) ∙ c.key_of.ensures in
    let lt : c.key_of.result < length c.self.inside.held.items =
    within c.self.inside.held.items c.key_of.result (sent-under c.self.inside.slots c.self.inside.keys.items c.self.inside.held.items c.self.invariant c.args.ticket c.key_of.result at) in
    let e : Token × List ℕ = (c.in-Some.field-0-0, c.in-Some.buffer) in
    let here : slice_get c.self.inside.held.items c.key_of.result ≡ Some (Some e) =
    read-place c.self.inside.held.items c.key_of.result c.index.result.now lt c.index.ensures ∙ ap (λ (p : Place). Some p) c.in-Some.is in
    let there : slice_get (by_ticket c.self.inside.keys.items c.self.inside.held.items) c.args.ticket ≡ Some (Some e) =
    taken-send c.self.inside.slots c.self.inside.keys.items c.self.inside.held.items c.self.invariant c.args.ticket c.key_of.result at e here in
    ap (λ (ps : List Place). buffer_in (slice_get ps c.args.ticket)) (sym c.self.view_is) ∙ ap buffer_in there ∙ ap (λ (b : List ℕ). Some b) (sym c.bytes.ensures)
