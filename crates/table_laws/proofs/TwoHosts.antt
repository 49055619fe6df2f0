-- The worked example: the routes of the two hosts may be adopted.
use Rattle.std.proofs.Common.{◌<◌, ◌%◌, ℕ, List, [], ◌∷◌, refl, arith}
use Rattle.net_defs.specs.Examples.{two_hosts}
use Rattle.net_defs.proofs.TwoHosts.{two_hosts_fabric}
use Rattle.net_defs.specs.Dependencies.{IsNext, IsBefore}
use Rattle.world_defs.specs.Examples.{setup_routes}
use Rattle.net_defs.specs.RouteSet.{channels_of_all}
use Rattle.world_defs.specs.Acts.{AreAdoptable}
use Rattle.table_laws.specs.Examples.{one_adoption, AdoptedIsReached, OneTableIsActive}
use Rattle.table_laws.proofs.Dependencies.{rise-at}

-- numbers that rise from each channel to the next
abbrev Along : (ℕ → ℕ) → List ℕ → Type 0
Along number [] = Unit {0}
Along number (c ∷ []) = Unit {0}
Along number (c ∷ d ∷ cs) = (number c < number d) × Along number (d ∷ cs)

along-tail : (number : ℕ → ℕ) (b : ℕ) (cs : List ℕ) → Along number (b ∷ cs) → Along number cs
along-tail number b [] a = tt
along-tail number b (c ∷ cs) a = a.1

along-next : (number : ℕ → ℕ) (c d : ℕ) (cs : List ℕ) → Along number cs → IsNext c d cs → number c < number d
along-next number c d cs a (IsNext.here {cs = xs}) = a.0
along-next number c d cs a (IsNext.later {b = b} {cs = xs} n) = along-next number c d xs (along-tail number b xs a) n

setup-rises : (c d : ℕ) → IsBefore (channels_of_all two_hosts setup_routes) c d → c % 2 < d % 2
setup-rises c d b =
    let first : (x y : ℕ) → IsNext x y (0 ∷ 3 ∷ []) → x % 2 < y % 2 = λ x y. along-next (λ k. k % 2) x y (0 ∷ 3 ∷ []) (omega arith, tt) in
    let second : (x y : ℕ) → IsNext x y (2 ∷ 1 ∷ []) → x % 2 < y % 2 = λ x y. along-next (λ k. k % 2) x y (2 ∷ 1 ∷ []) (omega arith, tt) in
    rise-at (λ k. k % 2) (channels_of_all two_hosts setup_routes) b.place b.route (first, (second, tt)) b.there c d b.next

setup-adoptable : AreAdoptable two_hosts setup_routes
setup-adoptable = record { lead = (refl, (refl, tt)); number = λ k. k % 2; rises = setup-rises }

pub adopted-reached : AdoptedIsReached
adopted-reached = record { fabric = two_hosts_fabric; acts = one_adoption; may = ((setup-adoptable, refl), tt); leads = refl }

pub one-active : OneTableIsActive
one-active = (refl, refl)
