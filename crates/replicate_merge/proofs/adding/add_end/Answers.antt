use Rattle.std.proofs.Common.{◌≡◌, refl, sym, ◌∙◌, subst, Some, None, rules, SFits, to_z, of_z, w16}
use Rattle.std.proofs.lemmas.Int.{to_z-of_z}
use Rattle.replicate_merge.specs.declared.way.Spot.TheVariants.{Port}
use Rattle.replicate_merge.specs.Ends.{end_at, known_ends, Puts}
use Rattle.replicate_merge.specs.Adding.AddsEnd.{is_learnt, is_met}
use Rattle.replicate_merge.proofs.Learning.{end-learnt}
use Rattle.replicate_merge.proofs.adding.add_end.Goals as goal

pub returns-in-None-clause-adds : goal.returns-in-None-clause-adds
returns-in-None-clause-adds c = λ hosts.
    let port : to_z w16 (of_z w16 c.args.port) ≡ c.args.port = to_z-of_z w16 c.args.port (let f : SFits w16 c.args.port = search rules in f) in
    let old = c.args.ends.now.items in
    let new = c.set_end.new.ends.items in
    let none : end_at old c.args.class c.args.port ≡ None = subst (λ z. end_at old c.args.class z ≡ None) port (sym c.end_at.ensures ∙ c.in-None.is) in
    let put : Puts (known_ends old) (known_ends new) (Port c.args.class c.args.port) (Some c.args.end) = subst (λ z. Puts (known_ends old) (known_ends new) (Port c.args.class z) (Some c.args.end)) port c.set_end.ensures.puts in
    is_learnt (end-learnt hosts old new c.args.class c.args.port c.args.end none put) refl

pub returns-in-Some-clause-adds : goal.returns-in-Some-clause-adds
returns-in-Some-clause-adds c = λ hosts.
    let port : to_z w16 (of_z w16 c.args.port) ≡ c.args.port = to_z-of_z w16 c.args.port (let f : SFits w16 c.args.port = search rules in f) in
    let there : end_at c.args.ends.now.items c.args.class c.args.port ≡ Some c.in-Some.first = subst (λ z. end_at c.args.ends.now.items c.args.class z ≡ Some c.in-Some.first) port (sym c.end_at.ensures ∙ c.in-Some.is) in
    is_met c.in-Some.first there (λ s. refl) c.push_reserved.ensures.items
