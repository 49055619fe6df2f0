-- The entries of a journal one after another: each may be the next after those before it.
use Rattle.std.proofs.Common.{◌≡◌, ◌≢◌, ◌<◌, ℕ, zero, suc, ◌+◌, List, [], ◌∷◌, false, length, map, take, Some, refl, ap, ◌∙◌, subst, arith, if◌then◌else◌}
use Rattle.std.specs.Prelude.{ℤ, is_some, slice_get}
use Rattle.std.specs.List.{AllByRecursion}
use Rattle.std.proofs.lemmas.Option.{slice_get_within}
use Rattle.net_defs.specs.Route.{answer}
use Rattle.net_defs.specs.declared.place.Answer.TheVariants.{Nothing}
use Rattle.net_defs.proofs.Turns.{same_turns-false}
use Rattle.journal_defs.specs.declared.entry.Entry.{Entry}
use Rattle.journal_defs.specs.Tree.{IsJournal, answered, is_asked}
use Rattle.replicate_merge.specs.Next.{HasNext, IsNext}
use Rattle.replicate_merge.specs.Table.{ClassTable, IsTrueOfOne, StandsFor}
use Rattle.replicate_merge.proofs.Numbers.{count-take}
use Rattle.replicate_merge.proofs.Waying.{take-more}

all-take : (P : Entry → Type 0) (es : List Entry) (i : ℕ) → AllByRecursion P es → AllByRecursion P (take i es)
all-take P es zero all = tt
all-take P [] (suc i) all = tt
all-take P (e ∷ es) (suc i) all = (all.0, all-take P es i all.1)

walks-take : (P : List ℤ → Type 0) (es : List Entry) (i : ℕ) → AllByRecursion P (map (λ (e : Entry). e.walk) es) → AllByRecursion P (map (λ (e : Entry). e.walk) (take i es))
walks-take P es zero all = tt
walks-take P [] (suc i) all = tt
walks-take P (e ∷ es) (suc i) all = (all.0, walks-take P es i all.1)

pub walk-at : (P : List ℤ → Type 0) (es : List Entry) (i : ℕ) (e : Entry) → AllByRecursion P (map (λ (x : Entry). x.walk) es) → slice_get es i ≡ Some e → P e.walk
walk-at P [] i e all at = cc
walk-at P (x ∷ es) zero e all at = let one : x ≡ e = cc in subst (λ (y : Entry). P y.walk) one all.0
walk-at P (x ∷ es) (suc i) e all at = walk-at P es i e all.1 at

pub once-take : (es : List Entry) (i : ℕ) → IsJournal es → IsJournal (take i es)
once-take es zero once = tt
once-take [] (suc i) once = tt
once-take (e ∷ es) (suc i) once = (walks-take (λ v. e.walk ≢ v) es i once.0, once-take es i once.1)

pub fresh-take : (es : List Entry) (i : ℕ) (e : Entry) → slice_get es i ≡ Some e → IsJournal es → is_asked (take i es) e.walk ≡ false
fresh-take [] i e at once = cc
fresh-take (x ∷ es) zero e at once = refl
fresh-take (x ∷ es) (suc i) e at once =
    let differs : x.walk ≢ e.walk = walk-at (λ v. x.walk ≢ v) es i e once.0 at in
    ap (λ b. is_some (if b then Some x.answer else answered (take i es) e.walk)) (same_turns-false x.walk e.walk differs) ∙ fresh-take es i e at once.1

-- each entry may be the next of those before it
pub next-in : (host : ℕ) (es : List Entry) (i : ℕ) (e : Entry) → slice_get es i ≡ Some e → IsJournal es → IsTrueOfOne host es → length es < 4294967295 → IsNext host (take i es) e
next-in host es i e at once truth few = record {
  once = once-take es i once;
  fresh = fresh-take es i e at once;
  few = (let l = slice_get_within es i e at in let c = count-take es i (omega arith) in omega arith);
  true_of_one = subst (λ (l : List Entry). IsTrueOfOne host l) (take-more es i e at) (record {
    fabric = truth.fabric;
    is_fabric = truth.is_fabric;
    told = all-take (λ (x : Entry). x.answer ≢ Nothing → x.answer ≡ answer truth.fabric host x.walk) es (i + 1) truth.told;
  });
}

pub next-there : (host : ℕ) (es : List Entry) (i : ℕ) (e : Entry) (c : ClassTable) → slice_get es i ≡ Some e → IsJournal es → IsTrueOfOne host es → length es < 4294967295 → StandsFor host (take i es) c → HasNext c e
next-there host es i e c at once truth few stands = record { host = host; journal = take i es; stands = stands; next = next-in host es i e at once truth few }
