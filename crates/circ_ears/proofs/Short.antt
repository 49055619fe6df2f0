-- A return walk has at most one cable more than there are.
use Rattle.std.proofs.Common.{◌≡◌, ◌≤◌, ◌+◌, ℕ, suc, List, [], ◌∷◌, ◌++◌, length, true, subst, ap, refl, arith, inl, inr}
use Rattle.net_defs.specs.Network.{Network}
use Rattle.circ_defs.specs.Ways.{AreAmong, IsOneOf, Step, cables_on}
use Rattle.circ_defs.specs.PathList.{CrossesOnce, Ear, IsEar, cables_of, return_walk}
use Rattle.circ_defs.specs.Circuit.{are_apart}
use Rattle.circ_defs.proofs.Numbers.{itself-among, right-in, all-among, apart-from, few}
use Rattle.circ_defs.proofs.Ways.{first-walk, among-both}
use Rattle.circ_ears.specs.Laws.{PathListsAreShort}

once-few : (host last : ℕ) (ks gs : List ℕ) (ss : List Step) → are_apart ks ≡ true → AreAmong ks gs → AreAmong (cables_on ss) gs → CrossesOnce host last ks ss → length ks + length ss ≤ suc (length gs)
once-few host last ks gs [] apart a b once = let l = few ks gs apart a in omega arith
once-few host last ks gs (s ∷ ss) apart a b (inl go) =
    let l = once-few host s.cable (s.cable ∷ ks) gs ss (apart-from s.cable ks go.0 apart) (b.0, a) b.1 go.1 in
    omega arith
once-few host last ks gs (s ∷ ss) apart a b (inr go) =
    let l = few ks gs apart a in
    let none : length ss ≡ 0 = ap length go.2 in
    omega arith

ear-few : (n : Network) (host : ℕ) (old : List ℕ) (ear : Ear) → IsEar n host old ear → length (return_walk ear) ≤ suc (length (cables_on ear.path ++ old))
ear-few n host old ear e =
    let gs = cables_on ear.path ++ old in
    let right = λ (k : ℕ) (m : IsOneOf k old). right-in k (cables_on ear.path) old m in
    let all : AreAmong (cables_on (return_walk ear)) gs = among-both ear.before (ear.path ++ ear.after) gs (all-among (cables_on ear.before) old gs right e.before_old) (among-both ear.path ear.after gs (itself-among (cables_on ear.path) old) (all-among (cables_on ear.after) old gs right e.after_old)) in
    let parts : AreAmong (cables_on (e.first ∷ e.rest)) gs = subst (λ (l : List Step). AreAmong (cables_on l) gs) e.begins all in
    let l = once-few host e.first.cable (e.first.cable ∷ []) gs e.rest refl (parts.0, tt) parts.1 e.once in
    let same : length (return_walk ear) ≡ length (e.first ∷ e.rest) = ap length e.begins in
    omega arith

longer : (ss : List Step) (ks : List ℕ) → length ks ≤ length (cables_on ss ++ ks)
longer [] ks = omega arith
longer (s ∷ ss) ks = let l = longer ss ks in omega arith

pub path_lists_are_short : PathListsAreShort
path_lists_are_short n host [] list = omega arith
path_lists_are_short n host (e ∷ []) list =
    let walk : length (return_walk e) ≡ 1 = ap length (first-walk n host e list) in
    let path : length (cables_of (e ∷ [])) ≡ 1 = ap (λ (l : List Step). length (cables_on l ++ [])) list.own.is in
    omega arith
path_lists_are_short n host (e ∷ g ∷ es) list =
    let a = ear-few n host (cables_of (g ∷ es)) e list.0 in
    let b = path_lists_are_short n host (g ∷ es) list.1 in
    let c = longer e.path (cables_of (g ∷ es)) in
    omega arith
