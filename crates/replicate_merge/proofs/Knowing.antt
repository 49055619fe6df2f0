-- The first ways that begin at spots, way by way.
use Rattle.std.proofs.Common.{◌≡◌, true, nat_eq, ◌&&◌, refl, ap, sym, true≢false}
use Rattle.std.specs.Ordering.{int_eq}
use Rattle.std.proofs.lemmas.Bool.{and_parts}
use Rattle.std.proofs.lemmas.Bool.Decides.{Decides-eqb, Decides-int_eq}
use Rattle.replicate_merge.specs.declared.way.Spot.{Spot}
use Rattle.replicate_merge.specs.declared.way.Spot.TheVariants.{Address, Port}
use Rattle.replicate_merge.specs.Spots.{same_spot}

-- equal spots are one
pub spot-same : (s t : Spot) → same_spot s t ≡ true → s ≡ t
spot-same (Address a) (Address b) e = ap Address ((Decides-eqb a b).0 e)
spot-same (Address a) (Port c p) e = absurd (true≢false (sym e))
spot-same (Port c p) (Address a) e = absurd (true≢false (sym e))
spot-same (Port c p) (Port d q) e =
    let parts = and_parts (nat_eq c d) (int_eq p q) e in
    let class = (Decides-eqb c d).0 parts.0 in
    let port = (Decides-int_eq p q).0 parts.1 in
    λ i. Port (class i) (port i)

pub spot-itself : (s : Spot) → same_spot s s ≡ true
spot-itself (Address a) = (Decides-eqb a a).1 refl
spot-itself (Port c p) = (λ i. (Decides-eqb c c).1 refl i && (Decides-int_eq p p).1 refl i)
