use Rattle.std.proofs.Common.{true≢false, ap, sym, ◌∙◌, subst}
use Rattle.std.specs.Prelude.{pos}
use Rattle.net_defs.specs.declared.vertex.Vertex.TheVariants.{Host}
use Rattle.map_sameness.specs.declared.pairing.Image.{Image}
use Rattle.map_sameness.specs.Pairing.{Pairs, IsPairing, AreCompared, with_pair}
use Rattle.map_sameness.proofs.Whole.{begun-pairing, begun-compared, no-host}
use Rattle.map_sameness.proofs.comparing.is_same_as_part.Goals as goal

pub compare_all-requires-clause-pairing : goal.compare_all-requires-clause-pairing
compare_all-requires-clause-pairing c =
    let itself : Image = record { vertex = Host c.args.host; offset = pos 0 } in
    subst (IsPairing c.args.f.now c.args.m.now) (sym (c.in_ok-put-in-Some.ensures ∙ ap (λ (s : Pairs). with_pair s c.in-Some.v itself) c.in_ok-pairing.ensures.pairs))
    (begun-pairing c.args.f.now c.args.m.now c.args.host c.in-Some.v c.in_ok-pairing.ensures.fabric c.in_ok-pairing.ensures.map (sym c.in-Some.ensures.vertex))

pub compare_all-requires-clause-compared : goal.compare_all-requires-clause-compared
compare_all-requires-clause-compared c =
    let itself : Image = record { vertex = Host c.args.host; offset = pos 0 } in
    subst (AreCompared c.args.f.now c.args.m.now) (sym (c.in_ok-put-in-Some.ensures ∙ ap (λ (s : Pairs). with_pair s c.in-Some.v itself) c.in_ok-pairing.ensures.pairs))
    (begun-compared c.args.f.now c.args.m.now c.args.host c.in-Some.v c.in_ok-pairing.ensures.fabric c.in_ok-pairing.ensures.map (sym c.in-Some.ensures.vertex))

pub returns : goal.returns
returns c = ((λ e. absurd (true≢false (sym e))), (λ same. absurd (no-host c.args.f.now c.args.m.now c.args.host (sym c.in-None.ensures.vertex) same)))
