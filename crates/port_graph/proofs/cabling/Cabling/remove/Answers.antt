use Rattle.std.proofs.Common.{◌≡◌, ◌∙◌, ap, sym, subst, true, Some, List}
use Rattle.std.specs.Prelude.{position}
use Rattle.std.specs.List.{AllByRecursion, slice_get}
use Rattle.net_defs.specs.declared.vertex.Cable.{Cable}
use Rattle.net_defs.specs.Network.{Apart, ends_of}
use Rattle.port_graph.specs.Table.{is_possible}
use Rattle.port_graph.specs.Removing.{ends_at, without_end}
use Rattle.port_graph.proofs.Removal.{found-cable, found-removed, without_end-unused, table-removed, places-there}
use Rattle.port_graph.proofs.cabling.Cabling.remove.Goals as goal

pub index_mut-requires : goal.index_mut-requires
index_mut-requires c =
    let cs : List Cable = c.self.inside.cables.items in
    let found : c.first_at.result ≡ position (ends_at c.args.e) cs = c.first_at.ensures ∙ ap (λ l. position (ends_at c.args.e) l) c.deref.ensures.value in
    let at : slice_get cs c.in-Some.k ≡ Some c.remove-cable.result = found-cable c.args.e cs c.first_at.result c.in-Some.k c.remove-cable.result c.in-Some.is found c.remove-cable.ensures.value in
    let possible : AllByRecursion (λ d. is_possible d ≡ true) (ends_of cs) = subst (λ l. AllByRecursion (λ d. is_possible d ≡ true) (ends_of l)) (sym c.self.view_is) c.requires.possible in
    rw (c.place_of.ensures.place, c.self.inside.far.ok.0) (places-there cs c.self.inside.far.items c.in-Some.k c.remove-cable.result c.self.invariant possible at).0

pub index_mut-requires-in-Some : goal.index_mut-requires-in-Some
index_mut-requires-in-Some c =
    let cs : List Cable = c.self.inside.cables.items in
    let found : c.first_at.result ≡ position (ends_at c.args.e) cs = c.first_at.ensures ∙ ap (λ l. position (ends_at c.args.e) l) c.deref.ensures.value in
    let at : slice_get cs c.in-Some.k ≡ Some c.remove-cable.result = found-cable c.args.e cs c.first_at.result c.in-Some.k c.remove-cable.result c.in-Some.is found c.remove-cable.ensures.value in
    let possible : AllByRecursion (λ d. is_possible d ≡ true) (ends_of cs) = subst (λ l. AllByRecursion (λ d. is_possible d ≡ true) (ends_of l)) (sym c.self.view_is) c.requires.possible in
    rw (c.place_of-in-Some.ensures.place, c.self.inside.far.ok.0) (places-there cs c.self.inside.far.items c.in-Some.k c.remove-cable.result c.self.invariant possible at).1

pub invariant_of-self : goal.invariant_of-self
invariant_of-self c =
    let cs : List Cable = c.self.inside.cables.items in
    let found : c.first_at.result ≡ position (ends_at c.args.e) cs = c.first_at.ensures ∙ ap (λ l. position (ends_at c.args.e) l) c.deref.ensures.value in
    let at : slice_get cs c.in-Some.k ≡ Some c.remove-cable.result = found-cable c.args.e cs c.first_at.result c.in-Some.k c.remove-cable.result c.in-Some.is found c.remove-cable.ensures.value in
    let possible : AllByRecursion (λ d. is_possible d ≡ true) (ends_of cs) = subst (λ l. AllByRecursion (λ d. is_possible d ≡ true) (ends_of l)) (sym c.self.view_is) c.requires.possible in
    let apart : Apart (ends_of cs) = subst (λ l. Apart (ends_of l)) (sym c.self.view_is) c.requires.apart in
    rw (c.remove-cable.ensures.items, c.place_of.ensures.place, c.place_of-in-Some.ensures.place) (table-removed cs c.self.inside.far.items c.in-Some.k c.remove-cable.result c.self.invariant apart possible at)

pub returns-in-Some : goal.returns-in-Some
returns-in-Some c =
    let cs : List Cable = c.self.inside.cables.items in
    let found : c.first_at.result ≡ position (ends_at c.args.e) cs = c.first_at.ensures ∙ ap (λ l. position (ends_at c.args.e) l) c.deref.ensures.value in
    c.remove-cable.ensures.items ∙ found-removed c.args.e cs c.first_at.result c.in-Some.k c.in-Some.is found ∙ ap (λ l. without_end l c.args.e) c.self.view_is

pub returns-in_default : goal.returns-in_default
returns-in_default c =
    sym (without_end-unused c.args.e c.args.self.now c.first_at.result c.in_default.not-Some (c.first_at.ensures ∙ ap (λ l. position (ends_at c.args.e) l) (c.deref.ensures.value ∙ c.self.view_is)))
