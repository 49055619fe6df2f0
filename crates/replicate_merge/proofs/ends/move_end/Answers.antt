use Rattle.std.proofs.Common.{◌≡◌, refl, sym, ◌∙◌, subst, Some, None, rules, SFits, to_z, of_z, w16}
use Rattle.std.proofs.lemmas.Int.{to_z-of_z}
use Rattle.replicate_merge.specs.Ends.{end_at, known_ends, Puts}
use Rattle.replicate_merge.specs.Ends.MovesEnd.{moves, meets}
use Rattle.replicate_merge.specs.declared.way.Spot.TheVariants.{Port}
use Rattle.replicate_merge.proofs.ends.move_end.Goals as goal

pub returns-in-None-clause-moves : goal.returns-in-None-clause-moves
returns-in-None-clause-moves c =
    let port : to_z w16 (of_z w16 c.args.port) ≡ c.args.port = to_z-of_z w16 c.args.port (let f : SFits w16 c.args.port = search rules in f) in
    let into : to_z w16 (of_z w16 c.args.into) ≡ c.args.into = to_z-of_z w16 c.args.into (let f : SFits w16 c.args.into = search rules in f) in
    let there : end_at c.args.ends.now.items c.args.from c.args.port ≡ Some c.in-Some.second = subst (λ z. end_at c.args.ends.now.items c.args.from z ≡ Some c.in-Some.second) port (sym c.end_at.ensures ∙ c.in-Some.is) in
    let out : Puts (known_ends c.args.ends.now.items) (known_ends c.set_end.new.ends.items) (Port c.args.from c.args.port) None = subst (λ z. Puts (known_ends c.args.ends.now.items) (known_ends c.set_end.new.ends.items) (Port c.args.from z) None) port c.set_end.ensures.puts in
    let free : end_at c.set_end.new.ends.items c.args.to c.args.into ≡ None = subst (λ z. end_at c.set_end.new.ends.items c.args.to z ≡ None) into (sym c.end_at-2.ensures ∙ c.in-None.is) in
    let put : Puts (known_ends c.set_end.new.ends.items) (known_ends c.set_end-in-None.new.ends.items) (Port c.args.to c.args.into) (Some c.in-Some.second) = subst (λ z. Puts (known_ends c.set_end.new.ends.items) (known_ends c.set_end-in-None.new.ends.items) (Port c.args.to z) (Some c.in-Some.second)) into c.set_end-in-None.ensures.puts in
    moves c.in-Some.second (known_ends c.set_end.new.ends.items) there out free put refl

pub returns-in-Some-end_at-clause-moves : goal.returns-in-Some-end_at-clause-moves
returns-in-Some-end_at-clause-moves c =
    let port : to_z w16 (of_z w16 c.args.port) ≡ c.args.port = to_z-of_z w16 c.args.port (let f : SFits w16 c.args.port = search rules in f) in
    let into : to_z w16 (of_z w16 c.args.into) ≡ c.args.into = to_z-of_z w16 c.args.into (let f : SFits w16 c.args.into = search rules in f) in
    let there : end_at c.args.ends.now.items c.args.from c.args.port ≡ Some c.in-Some.second = subst (λ z. end_at c.args.ends.now.items c.args.from z ≡ Some c.in-Some.second) port (sym c.end_at.ensures ∙ c.in-Some.is) in
    let out : Puts (known_ends c.args.ends.now.items) (known_ends c.set_end.new.ends.items) (Port c.args.from c.args.port) None = subst (λ z. Puts (known_ends c.args.ends.now.items) (known_ends c.set_end.new.ends.items) (Port c.args.from z) None) port c.set_end.ensures.puts in
    let taken : end_at c.set_end.new.ends.items c.args.to c.args.into ≡ Some c.in-Some-end_at.first = subst (λ z. end_at c.set_end.new.ends.items c.args.to z ≡ Some c.in-Some-end_at.first) into (sym c.end_at-2.ensures ∙ c.in-Some-end_at.is) in
    meets c.in-Some.second c.in-Some-end_at.first there out taken c.push_reserved.ensures.items
