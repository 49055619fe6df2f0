use Rattle.std.proofs.Common.{◌≡◌, true, Some, ap, sym, ◌∙◌, refl}
use Rattle.std.proofs.lemmas.Bool.{false≢true}
use Rattle.journal_defs.specs.Tree.Node.{Reached}
use Rattle.map_quotient.proofs.Expanding.{has-number}
use Rattle.map_quotient.proofs.closing.has_expanded.Goals as goal

pub returns-in-None : goal.returns-in-None
returns-in-None c = (
  (λ e. absurd (false≢true e)),
  (λ h. let n = has-number c.args.j.now.host c.args.j.now.entries c.args.c.now c.args.walk.now c.requires h in absurd (c.in-None.ensures.missing refl n.0 n.1)),
)

pub returns-in-Some : goal.returns-in-Some
returns-in-Some c =
    let told = c.requires.expanded c.in-Some.node (Reached c.args.walk.now) c.class_of.result (record { node = c.in-Some.ensures.found; frame = c.class_of.ensures.frame }) in (
      (λ e. told.0 (c.expanded.ensures ∙ ap Some e)),
      (λ h. let both : Some c.expanded.result ≡ Some true = sym c.expanded.ensures ∙ told.1 h in cc),
    )
