-- No cable stands twice in the paths of a path list, so a return walk has at most one cable more than the core.
use Rattle.std.proofs.Common.{◌≡◌, ◌≢◌, ℕ, List, [], ◌∷◌, ◌++◌, true, sym, subst, ap, refl, arith, inl, inr}
use Rattle.net_defs.specs.declared.vertex.Vertex.{Vertex}
use Rattle.net_defs.specs.declared.vertex.End.{End}
use Rattle.net_defs.specs.Network.{Network, IsFabric}
use Rattle.circ_defs.specs.Circuit.{are_apart}
use Rattle.circ_defs.specs.Ways.{AreNone, IsOneOf, IsWay, Step, cables_on}
use Rattle.circ_defs.specs.PathList.{CrossesOnce, Ear, IsEar, IsPathList, cables_of}
use Rattle.circ_defs.proofs.Cables.{joins-back}
use Rattle.circ_defs.proofs.Numbers.{among-from, apart-both, apart-from, few, none-from, none-to, right-in}
use Rattle.circ_defs.proofs.Ways.{new-way, turned_round}
use Rattle.circ_ears.specs.Laws.{CorePathListsAreShort}
use Rattle.circ_ears.proofs.Returns.{HasOwn, append-none, out-own}
use Rattle.circ_ears.proofs.Short.{path_lists_are_short}

-- these steps cross no cable twice, nor one of these
record AreCrossedOnce (ks : List ℕ) (ss : List Step) : Type 0 where
  pub apart : are_apart (cables_on ss) ≡ true
  pub none : AreNone (cables_on ss) ks

-- the steps of a return walk over new cables: none of them leads home
once-apart : (n : Network) (host last : ℕ) (old ks : List ℕ) (x z : Vertex) (ss ts : List Step) → IsFabric n → HasOwn n host old → IsWay n x ss z → AreNone (cables_on ss) old → CrossesOnce host last ks (ss ++ ts) → AreCrossedOnce ks ss
once-apart n host last old ks x z [] ts f own way new once = record { apart = refl; none = tt }
once-apart n host last old ks x z (s ∷ ss) ts f own way new (inl go) =
    let r = once-apart n host s.cable old (s.cable ∷ ks) s.into.v z ss ts f own way.2 new.1 go.1 in
    record {
      apart = apart-from s.cable (cables_on ss) (λ m. none-to s.cable (cables_on ss) (s.cable ∷ ks) r.none m (inl refl)) r.apart;
      none = (go.0, none-from (cables_on ss) ks (λ k m i. none-to k (cables_on ss) (s.cable ∷ ks) r.none m (inr i)));
    }
once-apart n host last old ks x z (s ∷ ss) ts f own way new (inr go) =
    let e = out-own n host old (turned_round s) f own (joins-back n s.cable s.out s.into way.0) (ap (λ (d : End). d.v) go.0) in
    absurd (new.0 (subst (λ i. IsOneOf i old) (sym e) own.there))

-- what follows the first steps
record GoesOn (host : ℕ) (ss : List Step) : Type 0 where
  pub last : ℕ
  pub crossed : List ℕ
  pub once : CrossesOnce host last crossed ss

once-later : (host last : ℕ) (ks : List ℕ) (bs ts : List Step) (t : Step) → CrossesOnce host last ks (bs ++ (t ∷ ts)) → GoesOn host (t ∷ ts)
once-later host last ks [] ts t once = record { last = last; crossed = ks; once = once }
once-later host last ks (b ∷ bs) ts t (inl go) = once-later host b.cable (b.cable ∷ ks) bs ts t go.1
once-later host last ks (b ∷ bs) ts t (inr go) = absurd (append-none bs ts t go.2)

path-apart : (n : Network) (host : ℕ) (old : List ℕ) (ear : Ear) → IsFabric n → HasOwn n host old → IsEar n host old ear → are_apart (cables_on ear.path) ≡ true
path-apart n host old ear f own e = by ear.before ear.path (new-way n old e.start ear.path e.end e.across) e.is_new e.begins
  where
    by : (before path : List Step) → IsWay n e.start path e.end → AreNone (cables_on path) old → before ++ (path ++ ear.after) ≡ e.first ∷ e.rest → are_apart (cables_on path) ≡ true
    by before [] way new p = refl
    by [] (s ∷ ss) way new p =
        let head : s ≡ e.first = cc in
        let tail : ss ++ ear.after ≡ e.rest = cc in
        let once : CrossesOnce host s.cable (s.cable ∷ []) (ss ++ ear.after) = subst (CrossesOnce host s.cable (s.cable ∷ [])) (sym tail) (subst (λ (x : Step). CrossesOnce host x.cable (x.cable ∷ []) e.rest) (sym head) e.once) in
        let r = once-apart n host s.cable old (s.cable ∷ []) s.into.v e.end ss ear.after f own way.2 new.1 once in
        apart-from s.cable (cables_on ss) (λ m. none-to s.cable (cables_on ss) (s.cable ∷ []) r.none m (inl refl)) r.apart
    by (b ∷ bs) (s ∷ ss) way new p =
        let tail : bs ++ (s ∷ (ss ++ ear.after)) ≡ e.rest = cc in
        let r = once-later host e.first.cable (e.first.cable ∷ []) bs (ss ++ ear.after) s (subst (CrossesOnce host e.first.cable (e.first.cable ∷ [])) (sym tail) e.once) in
        (once-apart n host r.last old r.crossed e.start e.end (s ∷ ss) ear.after f own way new r.once).apart

-- the mapper's own cable is one of the list's
list-own : (n : Network) (host : ℕ) (e : Ear) (es : List Ear) → IsPathList n host (e ∷ es) → HasOwn n host (cables_of (e ∷ es))
list-own n host e [] list = record { cable = list.own.cable; into = list.own.into; joins = list.own.joins; there = subst (λ (l : List Step). IsOneOf list.own.cable (cables_on l ++ [])) (sym list.own.is) (inl refl) }
list-own n host e (g ∷ es) list =
    let r = list-own n host g es list.1 in
    record { cable = r.cable; into = r.into; joins = r.joins; there = right-in r.cable (cables_on e.path) (cables_of (g ∷ es)) r.there }

list-apart : (n : Network) (host : ℕ) (es : List Ear) → IsFabric n → IsPathList n host es → are_apart (cables_of es) ≡ true
list-apart n host [] f list = refl
list-apart n host (e ∷ []) f list = subst (λ (l : List Step). are_apart (cables_on l ++ []) ≡ true) (sym list.own.is) refl
list-apart n host (e ∷ g ∷ es) f list =
    apart-both (cables_on e.path) (cables_of (g ∷ es)) (path-apart n host (cables_of (g ∷ es)) e f (list-own n host g es list.1) list.0) (list-apart n host (g ∷ es) f list.1) list.0.is_new

pub core_path_lists_are_short : CorePathListsAreShort
core_path_lists_are_short n host es ks f paths all =
    let a = path_lists_are_short n host es paths.list in
    let b = few (cables_of es) ks (list-apart n host es f paths.list) (among-from (cables_of es) ks (λ k m. all k (paths.only k m))) in
    omega arith
