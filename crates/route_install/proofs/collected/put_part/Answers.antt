use Rattle.std.proofs.Common.{◌≡◌, List, true, false, ap, sym, ◌∙◌, arith}
use Rattle.std.specs.Prelude.{slice_get, insert}
use Rattle.std.proofs.Math.ListN.{set}
use Rattle.route_install.specs.Collecting.{Numbered, place_of, has_number}
use Rattle.route_install.proofs.Numbers.{put-same, put-new, place-within}
use Rattle.route_install.proofs.collected.put_part.Goals as goal

pub insert-requires : goal.insert-requires
insert-requires c =
    let within = place-within c.args.part c.deref.result.now in
    let at = c.place_of-place.ensures in
    let len = c.deref.ensures.len in
    omega arith

pub returns-then-has_number-clause-ok : goal.returns-then-has_number-clause-ok
returns-then-has_number-clause-ok c =
    let ps : List Numbered = c.args.parts.now.items in
    let k = c.place_of-place.result in
    let at : k ≡ place_of c.args.part ps = c.place_of-place.ensures ∙ ap (place_of c.args.part) c.deref.ensures.value in
    let has : has_number (slice_get ps (place_of c.args.part ps)) c.args.part ≡ true =
    ap (λ j. has_number (slice_get ps j) c.args.part) (sym at) ∙ ap (λ l. has_number (slice_get l k) c.args.part) (sym c.deref-2.ensures.value) ∙ sym c.has_number.ensures ∙ c.if-has_number.true in
    c.put_at.ensures ∙ ap (set ps k) c.new.ensures ∙ ap (λ j. set ps j (c.args.part, c.args.entries)) at ∙ sym (put-same ps c.args.part c.args.entries has)

pub returns-in_ok-insert-clause-ok : goal.returns-in_ok-insert-clause-ok
returns-in_ok-insert-clause-ok c =
    let ps : List Numbered = c.args.parts.now.items in
    let k = c.place_of-place.result in
    let at : k ≡ place_of c.args.part ps = c.place_of-place.ensures ∙ ap (place_of c.args.part) c.deref.ensures.value in
    let none : has_number (slice_get ps (place_of c.args.part ps)) c.args.part ≡ false =
    ap (λ j. has_number (slice_get ps j) c.args.part) (sym at) ∙ ap (λ l. has_number (slice_get l k) c.args.part) (sym c.deref-2.ensures.value) ∙ sym c.has_number.ensures ∙ c.if-has_number.false in
    c.in_ok-insert.ensures.items ∙ ap (insert ps k) c.new-else-has_number.ensures ∙ ap (λ j. insert ps j (c.args.part, c.args.entries)) at ∙ sym (put-new ps c.args.part c.args.entries none)
