-- While a path is left it is taken; then the paths are those of the core.
use Rattle.std.proofs.Common.{◌≡◌, ◌≢◌, ◌<◌, ◌≤◌, ◌+◌, ◌-◌, ℕ, suc, List, [], ◌∷◌, ◌++◌, length, Bool, true, false, Option, Some, None, sym, ◌∙◌, subst, ap, true≢false, refl, arith, ◌⊎◌, inl, inr, max, length-append, IfSome}
use Rattle.net_defs.specs.declared.vertex.Vertex.{Vertex}
use Rattle.net_defs.specs.declared.vertex.Vertex.TheVariants.{Host}
use Rattle.net_defs.specs.declared.vertex.End.{End}
use Rattle.net_defs.specs.Network.{Network, IsFabric, far}
use Rattle.net_defs.specs.Route.{host_port}
use Rattle.journal_defs.specs.Counting.{numbers_below}
use Rattle.journal_defs.proofs.Members.{length-numbers, number-member}
use Rattle.circ_defs.specs.Circuit.{are_apart}
use Rattle.circ_defs.specs.Cores.{ArePathsOfCore, IsCoreCable}
use Rattle.circ_defs.specs.PathList.{Ear, most_back, return_walk}
use Rattle.circ_defs.specs.Ways.{AreAmong, ArePaths, IsNewWay, IsOneOf, IsPath, IsTouched, Joins, Step, cables_in, cables_on}
use Rattle.circ_defs.proofs.Cables.{far-joins, joins-low}
use Rattle.circ_defs.proofs.Numbers.{apart-both, either-in, few, more-of, right-in}
use Rattle.circ_ears.specs.Laws.{HasReturns}
use Rattle.circ_ears.proofs.Existing.{Made, NoneLeft, all-taken, first-made, lone-list}
use Rattle.circ_ears.proofs.Once.{core_path_lists_are_short}
use Rattle.circ_ears.proofs.Onward.{next_path, path-core}
use Rattle.circ_ears.proofs.Returns.{EarOf, HasOneMore, add-ear, own-old}
use Rattle.circ_laws.proofs.Numbering.{circuit_map_is_core}
use Rattle.circ_ears.specs.EarLists.{AreNumbersOfCore, EarNumbers, MapAtThisDepthIsCore, ReturnWalksAreShort, all_numbers, deepest, numbers_of}
use Rattle.circ_ears.specs.Search.{HasNoPath}
use Rattle.circ_ears.specs.Taking.{HasNoCableBelow, IsOwnStep, Taking, first_taking, taken}
use Rattle.circ_ears.specs.TwoWays.{ear_of}
use Rattle.circ_ears.proofs.Returning.{IsEarOf, ear-is}

-- The paths so far are paths of the core, and these are their numbers.
pub record IsTaking (n : Network) (host : ℕ) (t : Taking) : Type 0 where
  pub are : ArePaths n host t.paths
  pub core : (l : ℕ) → IsOneOf l (cables_in t.paths) → IsCoreCable n host l
  pub apart : are_apart (cables_in t.paths) ≡ true
  pub touched : IsTouched n (cables_in t.paths) (Host host)
  pub cables_are : t.cables ≡ cables_in t.paths
  pub returns : HasReturns n host t.paths
  pub ears_are : t.ears ≡ all_numbers returns.ears
  pub few_ears : length t.ears ≤ length t.cables

pub taking-first : (n : Network) (host : ℕ) (own : Step) → IsFabric n → IsOwnStep n host own → IsTaking n host (first_taking own)
taking-first n host own f o = subst (λ s. IsTaking n host (first_taking s)) same (record {
  are = (first-made n host own.cable own.into f joins).are;
  core = (first-made n host own.cable own.into f joins).core;
  apart = refl;
  touched = (first-made n host own.cable own.into f joins).touched;
  cables_are = refl;
  returns = record {
    ears = record { before = []; path = record { cable = own.cable; out = host_port host; into = own.into } ∷ []; after = [] } ∷ [];
    list = record { own = record { cable = own.cable; into = own.into; joins = joins; is = refl }; nothing_before = refl; nothing_after = refl };
    some = λ k m. m;
    only = λ k m. m;
  };
  ears_are = refl;
  few_ears = omega arith;
})
  where
    joins : Joins n own.cable (host_port host) own.into
    joins = subst (λ d. Joins n own.cable d own.into) o.out o.step

    same : record { cable = own.cable; out = host_port host; into = own.into } ≡ own
    same = λ i. record { cable = own.cable; out = sym o.out i; into = own.into }

some-cable : (n : Network) (old : List ℕ) (x z : Vertex) (p : List Step) → IsNewWay n old x p z → (k : ℕ) × IsOneOf k (cables_on p)
some-cable n old x z [] way = absurd way
some-cable n old x z (s ∷ ss) way = (s.cable, inl refl)

pub taking-more : (n : Network) (old : List ℕ) (p : List Step) → IsPath n old p → suc (length old) ≤ length (cables_on p ++ old)
taking-more n old p e = let k = some-cable n old e.start e.end p e.across in more-of k.0 (cables_on p) old k.1

-- the numbers of a path list with one path more
add-numbers : (ns : List EarNumbers) (old new : List Ear) (e g : Ear) → ns ≡ all_numbers old → g ≡ e → new ≡ g ∷ old → ns ++ numbers_of e ∷ [] ≡ all_numbers new
add-numbers ns old new e g a same b = ap (λ l. l ++ numbers_of e ∷ []) a ∙ ap (λ (x : Ear). all_numbers old ++ numbers_of x ∷ []) (sym same) ∙ sym (ap all_numbers b)

few-more : (ns : List EarNumbers) (e : EarNumbers) (ks ls : List ℕ) → length ns ≤ length ks → suc (length ks) ≤ length ls → length (ns ++ e ∷ []) ≤ length ls
few-more ns e ks ls a b = let l = length-append ns (e ∷ []) in omega arith

pub taking-next : (n : Network) (host : ℕ) (t : Taking) (p : List Step) → IsFabric n → IsPath n t.cables p → IsTaking n host t → IsTaking n host (taken t p)
taking-next n host t p f e i = by t.paths i.are i.core i.apart i.touched i.cables_are i.returns i.ears_are
  where
    by : (ps : List (List Step)) → ArePaths n host ps → ((l : ℕ) → IsOneOf l (cables_in ps) → IsCoreCable n host l) → are_apart (cables_in ps) ≡ true → IsTouched n (cables_in ps) (Host host) → t.cables ≡ cables_in ps → (r : HasReturns n host ps) → t.ears ≡ all_numbers r.ears → IsTaking n host (record { paths = p ∷ ps; cables = cables_on p ++ t.cables; ears = t.ears ++ numbers_of (ear_of ps p) ∷ [] })
    by [] are core apart touched same r ears = absurd are
    by (q ∷ ps) are core apart touched same r ears = on (subst (λ l. IsPath n l p) same e)
      where
        of-core : IsPath n (cables_in (q ∷ ps)) p → (l : ℕ) → IsOneOf l (cables_on p) ⊎ IsOneOf l (cables_in (q ∷ ps)) → IsCoreCable n host l
        of-core path l (inl m) = path-core n host (cables_in (q ∷ ps)) p f core path l m
        of-core path l (inr m) = core l m

        all : (g : IsEarOf n host (q ∷ ps) p) → IsPath n (cables_in (q ∷ ps)) p → HasOneMore n host (p ∷ q ∷ ps) g.own.ear r.ears → IsTaking n host (record { paths = p ∷ q ∷ ps; cables = cables_on p ++ t.cables; ears = t.ears ++ numbers_of (ear_of (q ∷ ps) p) ∷ [] })
        all g path more = record {
          are = (path, are);
          core = λ l m. of-core path l (either-in l (cables_on p) (cables_in (q ∷ ps)) m);
          apart = apart-both (cables_on p) (cables_in (q ∷ ps)) path.apart apart path.is_new;
          touched = record { cable = touched.cable; from = touched.from; to = touched.to; one_of = right-in touched.cable (cables_on p) (cables_in (q ∷ ps)) touched.one_of; joins = touched.joins; there = touched.there };
          cables_are = ap (λ l. cables_on p ++ l) same;
          returns = more.returns;
          ears_are = add-numbers t.ears r.ears more.returns.ears (ear_of (q ∷ ps) p) g.own.ear ears g.is more.is;
          few_ears = few-more t.ears (numbers_of (ear_of (q ∷ ps) p)) t.cables (cables_on p ++ t.cables) i.few_ears (taking-more n t.cables p e);
        }

        one : IsPath n (cables_in (q ∷ ps)) p → IsEarOf n host (q ∷ ps) p → IsTaking n host (record { paths = p ∷ q ∷ ps; cables = cables_on p ++ t.cables; ears = t.ears ++ numbers_of (ear_of (q ∷ ps) p) ∷ [] })
        one path g = all g path (add-ear n host p q ps (own-old n host (q ∷ ps) are) g.own r)

        on : IsPath n (cables_in (q ∷ ps)) p → IsTaking n host (record { paths = p ∷ q ∷ ps; cables = cables_on p ++ t.cables; ears = t.ears ++ numbers_of (ear_of (q ∷ ps) p) ∷ [] })
        on path = one path (ear-is n host q ps p f are path)

-- the paths have no more cables than the fabric
pub taking-few : (n : Network) (host : ℕ) (t : Taking) → IsTaking n host t → length t.cables ≤ length n.cables
taking-few n host t i =
    let l = few (cables_in t.paths) (numbers_below (length n.cables)) i.apart (all (cables_in t.paths) i.core) in
    let e = length-numbers (length n.cables) in
    let same : length t.cables ≡ length (cables_in t.paths) = ap length i.cables_are in
    omega arith
  where
    all : (ks : List ℕ) → ((l : ℕ) → IsOneOf l ks → IsCoreCable n host l) → AreAmong ks (numbers_below (length n.cables))
    all [] g = tt
    all (k ∷ ks) g = let c = g k (inl refl) in (number-member (length n.cables) k (joins-low n k c.from c.to c.joins), all ks (λ l m. g l (inr m)))

-- so each path leaves fewer of the fabric's cables
pub taking-less : (n : Network) (host : ℕ) (t u : Taking) (p : List Step) → IsFabric n → IsPath n t.cables p → IsTaking n host t → u ≡ taken t p → length n.cables - length u.cables < length n.cables - length t.cables
taking-less n host t u p f e i is =
    let few = taking-few n host (taken t p) (taking-next n host t p f e i) in
    let more = taking-more n t.cables p e in
    let same : length u.cables ≡ length (cables_on p ++ t.cables) = ap (λ (x : Taking). length x.cables) is in
    omega arith

-- the path that is found, where the same cables are taken
pub taken-path : (n : Network) (ks ls : List ℕ) (o : Option (List Step)) (p : List Step) → IfSome o (λ q. IsPath n ks q) → o ≡ Some p → ks ≡ ls → IsPath n ls p
taken-path n ks ls o p found is same = subst (λ l. IsPath n l p) same (subst (λ x. IfSome x (λ q. IsPath n ks q)) is found)

-- where no path is left, they are the paths of the core
pub taking-done : (n : Network) (host : ℕ) (t : Taking) → IsFabric n → HasNoPath n t.cables → IsTaking n host t → AreNumbersOfCore n host t.ears
taking-done n host t f none i = record {
  ears = i.returns.ears;
  paths = record {
    list = i.returns.list;
    all = λ k c. i.returns.some k (all-taken n host (cables_in t.paths) k f left i.touched c);
    only = λ k m. i.core k (i.returns.only k m);
  };
  are = i.ears_are;
}
  where
    left : NoneLeft n host (cables_in t.paths) (length n.cables)
    left k d e l joins cd ce touched new = none (next_path n host (cables_in t.paths) k d e f i.core joins cd ce touched new).path (subst (λ ks. IsPath n ks (next_path n host (cables_in t.paths) k d e f i.core joins cd ce touched new).path) (sym i.cables_are) (next_path n host (cables_in t.paths) k d e f i.core joins cd ce touched new).is_path)

-- a host without a cable has no path
pub taking-none : (n : Network) (host : ℕ) → IsFabric n → HasNoCableBelow n (host_port host) (length n.cables) → AreNumbersOfCore n host []
taking-none n host f none = record { ears = (lone-list n host f alone).ears; paths = (lone-list n host f alone).paths; are = refl }
  where
    by : (o : Option End) → far n (host_port host) ≡ o → far n (host_port host) ≡ None
    by None p = p
    by (Some e) p = let k = far-joins n (host_port host) e p in absurd (none k.cable (host_port host) e (joins-low n k.cable (host_port host) e k.joins) k.joins refl)

    alone : far n (host_port host) ≡ None
    alone = by (far n (host_port host)) refl

-- the most cables in a return walk, by numbers
deepest-push : (ns : List EarNumbers) (e : EarNumbers) → deepest (ns ++ e ∷ []) ≡ max (length e.back) (deepest ns)
deepest-push [] e = refl
deepest-push (x ∷ ns) e = ap (max (length x.back)) (deepest-push ns e) ∙ turn (length x.back) (length e.back) (deepest ns)
  where
    turn : (a b c : ℕ) → max a (max b c) ≡ max b (max a c)
    turn a b c = omega arith

length-cables : (ss : List Step) → length (cables_on ss) ≡ length ss
length-cables [] = refl
length-cables (s ∷ ss) = ap suc (length-cables ss)

deepest-most : (es : List Ear) → deepest (all_numbers es) ≡ most_back es
deepest-most [] = refl
deepest-most (e ∷ es) = deepest-push (all_numbers es) (numbers_of e) ∙ ap (λ k. max k (deepest (all_numbers es))) (length-cables (return_walk e)) ∙ ap (max (length (return_walk e))) (deepest-most es)

deepest-is : (n : Network) (host : ℕ) (ns : List EarNumbers) → (a : AreNumbersOfCore n host ns) → deepest ns ≡ most_back a.ears
deepest-is n host ns a = ap deepest a.are ∙ deepest-most a.ears

pub map_at_this_depth : MapAtThisDepthIsCore
map_at_this_depth n host depth ns j k f a deep map =
    let e = deepest-is n host ns a in
    circuit_map_is_core n host depth j a.ears k f a.paths (omega arith) map

pub return_walks_short : ReturnWalksAreShort
return_walks_short n host ns ks f a all =
    let e = deepest-is n host ns a in
    let l = core_path_lists_are_short n host a.ears ks f a.paths all in
    omega arith
