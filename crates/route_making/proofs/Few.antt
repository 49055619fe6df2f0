-- A fabric has few enough pairs of hosts that their routes are counted in 32 bits.
use Rattle.std.proofs.Common.{◌≡◌, ◌<◌, ◌≤◌, ◌+◌, ◌*◌, ◌^◌, ℕ, List, [], ◌∷◌, true, length, nat_eq, nat_lt, ◌&&◌, ◌||◌, arith}
use Rattle.std.specs.List.{AllByRecursion}
use Rattle.std.proofs.lemmas.Bool.Decides.{nat_tests}
use Rattle.net_defs.specs.declared.route.Route.{Route}
use Rattle.net_defs.specs.Network.{Network}
use Rattle.net_defs.specs.RouteSet.{route_below, AreRising}
use Rattle.route_making.specs.Listed.{AreBetweenHosts}

-- sender and receiver in one number
abbrev number : Route → ℕ
number r = r.from * 128 + r.to

-- a route between two of at most 128 hosts
abbrev IsSmall : Route → Type 0
IsSmall r = (r.from < 128) × (r.to < 128)

number-above : (a b c d : ℕ) → b < 128 → (nat_lt a c || (nat_eq a c && nat_lt b d)) ≡ true → a * 128 + b < c * 128 + d
number-above a b c d small e = grind (arith, nat_tests)

numbers-above : (r : Route) (rs : List Route) → r.to < 128 → AllByRecursion (λ s. route_below r s ≡ true) rs → AllByRecursion (λ s. number r + 1 ≤ number s) rs
numbers-above r [] small up = tt
numbers-above r (s ∷ ss) small up =
    let one : number r < number s = number-above r.from r.to s.from s.to small up.0 in
    ((omega arith), numbers-above r ss small up.1)

few-above : (rs : List Route) (low : ℕ) → low ≤ 16384 → AreRising rs → AllByRecursion IsSmall rs → AllByRecursion (λ s. low ≤ number s) rs → low + length rs ≤ 16384
few-above [] low le up small above = omega arith
few-above (r ∷ rs) low le up small above =
    let here : low ≤ number r = above.0 in
    let from : r.from < 128 = small.0.0 in
    let to : r.to < 128 = small.0.1 in
    let rest : (number r + 1) + length rs ≤ 16384 = few-above rs (number r + 1) (omega arith) up.1 small.1 (numbers-above r rs to up.0) in
    omega arith

all-small : (f : Network) (rs : List Route) → length f.hosts ≤ 128 → AreBetweenHosts f rs → AllByRecursion IsSmall rs
all-small f [] le all = tt
all-small f (r ∷ rs) le all =
    let from : r.from < length f.hosts = all.0.0 in
    let to : r.to < length f.hosts = all.0.1 in
    ((omega arith, omega arith), all-small f rs le all.1)

from-none : (rs : List Route) → AllByRecursion (λ s. 0 ≤ number s) rs
from-none [] = tt
from-none (r ∷ rs) = (omega arith, from-none rs)

pub few-routes : (f : Network) (rs : List Route) → length f.hosts ≤ 128 → AreRising rs → AreBetweenHosts f rs → length rs < 2 ^ 32
few-routes f rs le up all =
    let few : 0 + length rs ≤ 16384 = few-above rs 0 (omega arith) up (all-small f rs le all) (from-none rs) in
    omega arith
