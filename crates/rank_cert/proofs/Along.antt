-- The first fault along channels, one channel after the other.
use Rattle.std.proofs.Common.{◌≡◌, ◌<◌, ℕ, List, [], ◌∷◌, ◌++◌, Bool, true, false, Option, Some, None, is_some, refl, ap, sym, ◌∙◌, arith, nat_lt, if◌then◌else◌}
use Rattle.std.specs.Prelude.{ℤ, option_map, option_to_list, option_and_then}
use Rattle.std.specs.List.{AllByRecursion}
use Rattle.std.proofs.lemmas.Bool.{false≢true}
use Rattle.std.proofs.lemmas.Bool.Decides.{nat_tests}
use Rattle.net_defs.specs.Building.{first_of_two}
use Rattle.map_defs.specs.declared.rank.RankEntry.{RankEntry}
use Rattle.map_defs.specs.NetMap.{NetMap, MapPort, map_far}
use Rattle.map_defs.specs.Routing.{turned_to, channels_on}
use Rattle.net_defs.specs.Dependencies.{IsNext}
use Rattle.map_defs.specs.Ranks.{Rises, rank_of}
use Rattle.net_defs.specs.Dependencies.IsNext.{here, later}
use Rattle.rank_cert.specs.declared.fault.CheckFault.TheVariants.{BadRank}
use Rattle.rank_cert.specs.Checking.{Ranked, fault_at, fault_along, fault_by, rank_after, ranked, ranked_at, ranked_by}
use Rattle.rank_cert.specs.Following.{next_after, channels_after}

pub first-none : {X : Type 0} (o : Option X) → first_of_two o None ≡ o
first-none None = refl
first-none (Some x) = refl

pub first-some : {X : Type 0} (o p : Option X) → is_some o ≡ true → first_of_two o p ≡ o
first-some None p e = absurd (false≢true e)
first-some (Some x) p e = refl

pub first-no : {X : Type 0} (o p : Option X) → is_some o ≡ false → first_of_two o p ≡ p
first-no None p e = refl
first-no (Some x) p e = absurd (false≢true (sym e))

first-parts : {X : Type 0} (o p : Option X) → first_of_two o p ≡ None → (o ≡ None) × (p ≡ None)
first-parts None p e = (refl, e)
first-parts (Some x) p e = cc

-- one turn on: the fault of the port's own channel, then those from the next port on
pub fault-step : (m : NetMap) (ks : List RankEntry) (before : Option Ranked) (at : Option MapPort) (t : ℤ) (ts : List ℤ) → fault_along ks before (channels_on m at (t ∷ ts)) ≡ first_of_two (fault_along ks before (channels_after m at)) (fault_along ks (ranked_at ks at) (channels_on m (next_after m at t) ts))
fault-step m ks before None t ts = refl
fault-step m ks before (Some d) t ts = by (map_far m d)
  where
    by : (o : Option MapPort) → fault_along ks before (option_to_list (option_map (λ e. d) o) ++ channels_on m (option_and_then (λ e. turned_to m e t) o) ts) ≡ first_of_two (fault_along ks before (option_to_list (option_map (λ e. d) o))) (fault_along ks (ranked d (rank_of ks d)) (channels_on m (option_and_then (λ e. turned_to m e t) o) ts))
    by None = refl
    by (Some e) = ap (λ o. first_of_two o (fault_along ks (ranked d (rank_of ks d)) (channels_on m (turned_to m e t) ts))) (sym (first-none (fault_at before d (rank_of ks d))))

-- the fault of a port's own channel, by its rank
pub fault-there : (m : NetMap) (ks : List RankEntry) (before : Option Ranked) (at : Option MapPort) → fault_by before (channels_after m at) (rank_after ks at) ≡ fault_along ks before (channels_after m at)
fault-there m ks before None = refl
fault-there m ks before (Some d) = by (map_far m d)
  where
    by : (o : Option MapPort) → fault_by before (option_to_list (option_map (λ e. d) o)) (rank_of ks d) ≡ fault_along ks before (option_to_list (option_map (λ e. d) o))
    by None = refl
    by (Some e) = sym (first-none (fault_at before d (rank_of ks d)))

pub ranked-there : (ks : List RankEntry) (at : Option MapPort) → ranked_by at (rank_after ks at) ≡ ranked_at ks at
ranked-there ks None = refl
ranked-there ks (Some d) = refl

-- no fault: each channel has a rank
has-rank : (before : Option Ranked) (d : MapPort) (o : Option ℕ) → fault_at before d o ≡ None → is_some o ≡ true
has-rank before d None e = cc
has-rank before d (Some r) e = refl

pub all-ranked : (ks : List RankEntry) (before : Option Ranked) (cs : List MapPort) → fault_along ks before cs ≡ None → AllByRecursion (λ c. is_some (rank_of ks c) ≡ true) cs
all-ranked ks before [] e = tt
all-ranked ks before (c ∷ cs) e =
    let two = first-parts (fault_at before c (rank_of ks c)) (fault_along ks (ranked c (rank_of ks c)) cs) e in
    (has-rank before c (rank_of ks c) two.0, all-ranked ks (ranked c (rank_of ks c)) cs two.1)

-- and ranks rise to the next
pub next-rises : (ks : List RankEntry) (c d : MapPort) (cs : List MapPort) (before : Option Ranked) → fault_along ks before cs ≡ None → IsNext c d cs → Rises ks c d
next-rises ks c d cs before e (here {cs = xs}) =
    let two = first-parts (fault_at before c (rank_of ks c)) (fault_along ks (ranked c (rank_of ks c)) (d ∷ xs)) e in
    let next = first-parts (fault_at (ranked c (rank_of ks c)) d (rank_of ks d)) (fault_along ks (ranked d (rank_of ks d)) xs) two.1 in
    by (rank_of ks c) (rank_of ks d) refl refl two.0 next.0
  where
    less : (a b : ℕ) → nat_lt a b ≡ true → a < b
    less a b p = grind (arith, nat_tests)

    rises : (q r : ℕ) (t : Bool) → nat_lt q r ≡ t → rank_of ks c ≡ Some q → rank_of ks d ≡ Some r → (if t then None else Some (BadRank (c.v, c.p) (d.v, d.p) q r)) ≡ None → Rises ks c d
    rises q r true l f g h = record { low = q; high = r; is_low = f; is_high = g; rises = less q r l }
    rises q r false l f g h = cc

    by : (o p : Option ℕ) → rank_of ks c ≡ o → rank_of ks d ≡ p → fault_at before c o ≡ None → fault_at (ranked c o) d p ≡ None → Rises ks c d
    by None p f g h i = cc
    by (Some q) None f g h i = cc
    by (Some q) (Some r) f g h i = rises q r (nat_lt q r) refl f g i
next-rises ks c d cs before e (later {b = b} {cs = xs} n) =
    next-rises ks c d xs (ranked b (rank_of ks b)) (first-parts (fault_at before b (rank_of ks b)) (fault_along ks (ranked b (rank_of ks b)) xs) e).1 n

-- the other way round
no-fault-after : (ks : List RankEntry) (b : MapPort) (q : ℕ) (cs : List MapPort) → rank_of ks b ≡ Some q → AllByRecursion (λ c. is_some (rank_of ks c) ≡ true) cs → ((c d : MapPort) → IsNext c d (b ∷ cs) → Rises ks c d) → fault_along ks (Some ((b.v, b.p), q)) cs ≡ None
no-fault-after ks b q [] has all rise = refl
no-fault-after ks b q (d ∷ ds) has all rise =
    let next : Rises ks b d = rise b d here in
    let low : q ≡ next.low = (let two : Some q ≡ Some next.low = sym has ∙ next.is_low in cc) in
    let less : q < next.high = (let l = next.rises in omega arith) in
    let rest = no-fault-after ks d next.high ds next.is_high all.1 (λ c e n. rise c e (later n)) in
    rw (next.is_high, test q next.high less) rest
  where
    test : (a b : ℕ) → a < b → nat_lt a b ≡ true
    test a b l = grind (arith, nat_tests)

pub no-fault : (ks : List RankEntry) (cs : List MapPort) → AllByRecursion (λ c. is_some (rank_of ks c) ≡ true) cs → ((c d : MapPort) → IsNext c d cs → Rises ks c d) → fault_along ks None cs ≡ None
no-fault ks [] all rise = refl
no-fault ks (c ∷ cs) all rise = by (rank_of ks c) refl all.0
  where
    by : (o : Option ℕ) → rank_of ks c ≡ o → is_some o ≡ true → first_of_two (fault_at None c (rank_of ks c)) (fault_along ks (ranked c (rank_of ks c)) cs) ≡ None
    by None e f = absurd (false≢true f)
    by (Some q) e f = rw e (no-fault-after ks c q cs e all.1 rise)
