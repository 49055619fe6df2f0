use Rattle.std.proofs.Common.{◌≡◌, ◌<◌, ℕ, List, Option, Some, None, length, false, is_some, refl, ap, sym, ◌∙◌, subst, arith, rules, w8}
use Rattle.std.specs.Prelude.{ℤ, slice_get}
use Rattle.std.proofs.lemmas.Int.{to_z-of_z}
use Rattle.net_defs.specs.Turn.{IsTurn}
use Rattle.map_defs.specs.NetMap.{map_far}
use Rattle.fabric_map.specs.Table.{far_pair}
use Rattle.map_renumber.specs.Search.{GoesOn, port_of_pair}
use Rattle.map_quotient.proofs.Places.{one-there, get-less}
use Rattle.map_renumber.proofs.Steps.{read-there, entry-turn, skips-none, skips-found, finds, still-goes, turned-by, turn-fits}
use Rattle.map_renumber.proofs.search.find.Goals as goal

pub turned-requires-clause-port : goal.turned-requires-clause-port
turned-requires-clause-port c =
    let items : List (ℕ × ℤ) = c.args.search.now.found.items in
    let d : ℕ × ℤ = c.index.result.now in
    let at : slice_get items c.args.next ≡ Some d = read-there items c.args.next d (get-less items c.args.next c.requires.goes_on.entry c.requires.goes_on.there) c.index.ensures in
    let t : IsTurn d.1 = entry-turn c.args.m.now items c.args.search.now.numbers.items c.args.next c.args.place c.requires.begun c.vertices.ensures.is_map.is_map c.args.next d at in
    subst IsTurn (sym (to_z-of_z w8 d.1 (turn-fits d.1 t))) t

pub returns-in_default-clause-search : goal.returns-in_default-clause-search
returns-in_default-clause-search c =
    let items : List (ℕ × ℤ) = c.args.search.now.found.items in
    let d : ℕ × ℤ = c.index.result.now in
    let at : slice_get items c.args.next ≡ Some d = read-there items c.args.next d (get-less items c.args.next c.requires.goes_on.entry c.requires.goes_on.there) c.index.ensures in
    let t : IsTurn d.1 = entry-turn c.args.m.now items c.args.search.now.numbers.items c.args.next c.args.place c.requires.begun c.vertices.ensures.is_map.is_map c.args.next d at in
    let p = turned-by d.1 c.args.place c.turned.result t c.requires.place c.turned.ensures in
    let far = ap (λ z. far_pair (map_far c.args.m.now (record { v = d.0; p = z }))) (sym p) ∙ sym c.map_far.ensures.port ∙ c.in_default.is in
    skips-none c.args.m.now items c.args.search.now.numbers.items c.args.next c.args.place c.requires.begun d at far

pub returns-in_ok-push-clause-search : goal.returns-in_ok-push-clause-search
returns-in_ok-push-clause-search c =
    let items : List (ℕ × ℤ) = c.args.search.now.found.items in
    let numbers : List (Option ℕ) = c.args.search.now.numbers.items in
    let d : ℕ × ℤ = c.index.result.now in
    let is_map = c.vertices.ensures.is_map.is_map in
    let at : slice_get items c.args.next ≡ Some d = read-there items c.args.next d (get-less items c.args.next c.requires.goes_on.entry c.requires.goes_on.there) c.index.ensures in
    let t : IsTurn d.1 = entry-turn c.args.m.now items numbers c.args.next c.args.place c.requires.begun is_map c.args.next d at in
    let p = turned-by d.1 c.args.place c.turned.result t c.requires.place c.turned.ensures in
    let far = ap (λ z. far_pair (map_far c.args.m.now (record { v = d.0; p = z }))) (sym p) ∙ sym c.map_far.ensures.port ∙ c.in-Some.is in
    let e : ℕ × ℤ = c.in-Some.e in
    let inside : e.0 < length numbers = (let a = c.in-Some.ensures.there.0 in let b = c.requires.begun.search.counted in omega arith) in
    let read : slice_get numbers e.0 ≡ Some c.index-2.result.now = read-there numbers e.0 c.index-2.result.now inside c.index-2.ensures in
    let vacant : c.index-2.result.now ≡ None = none-is c.index-2.result.now c.if-is_none.ensures in
    let one : c.requires.goes_on.entry ≡ d = one-there items c.args.next c.requires.goes_on.entry d c.requires.goes_on.there at in
    let goes : GoesOn c.args.m.now c.args.next (port_of_pair d) = subst (λ (x : ℕ × ℤ). GoesOn c.args.m.now c.args.next (port_of_pair x)) one c.requires.goes_on.goes in
    let counted : c.len-number.result ≡ length items = (let k = c.args.search.now.found.ok.0 in let n = c.len-number.ensures in omega arith) in
    finds c.args.m.now items numbers c.args.next c.args.place c.requires.begun is_map c.requires.host.0 c.requires.host.1 c.requires.place d e at goes far (read ∙ ap Some vacant) c.len-number.result counted c.push.new.self.items c.in_ok-push.ensures.items
  where
    none-is : (o : Option ℕ) → is_some o ≡ false → o ≡ None
    none-is None q = refl
    none-is (Some x) q = search rules

pub returns-in_ok-push-clause-goes_on : goal.returns-in_ok-push-clause-goes_on
returns-in_ok-push-clause-goes_on c = still-goes c.args.m.now c.args.search.now.found.items c.push.new.self.items c.args.next c.in-Some.e c.requires.goes_on c.in_ok-push.ensures.items

pub returns-else-is_none-clause-search : goal.returns-else-is_none-clause-search
returns-else-is_none-clause-search c =
    let items : List (ℕ × ℤ) = c.args.search.now.found.items in
    let numbers : List (Option ℕ) = c.args.search.now.numbers.items in
    let d : ℕ × ℤ = c.index.result.now in
    let at : slice_get items c.args.next ≡ Some d = read-there items c.args.next d (get-less items c.args.next c.requires.goes_on.entry c.requires.goes_on.there) c.index.ensures in
    let t : IsTurn d.1 = entry-turn c.args.m.now items numbers c.args.next c.args.place c.requires.begun c.vertices.ensures.is_map.is_map c.args.next d at in
    let p = turned-by d.1 c.args.place c.turned.result t c.requires.place c.turned.ensures in
    let far = ap (λ z. far_pair (map_far c.args.m.now (record { v = d.0; p = z }))) (sym p) ∙ sym c.map_far.ensures.port ∙ c.in-Some.is in
    let e : ℕ × ℤ = c.in-Some.e in
    let inside : e.0 < length numbers = (let a = c.in-Some.ensures.there.0 in let b = c.requires.begun.search.counted in omega arith) in
    skips-found c.args.m.now items numbers c.args.next c.args.place c.requires.begun d e at far c.index-2.result.now (read-there numbers e.0 c.index-2.result.now inside c.index-2.ensures) c.if-is_none.ensures
