-- The works of an installation: those before a place are done, and those from it on aren't.
use Rattle.std.proofs.Common.{◌≡◌, ◌<◌, ◌≤◌, ◌+◌, ℕ, zero, suc, List, ◌∷◌, Bool, true, false, not, ◌&&◌, ◌||◌, length, nat_le, Option, Some, None, IsSome, is_none, IfSome, is_some, nat_eq, option_map, map, [], subst, inl, inr, ◌⊎◌, refl, ap, sym, ◌∙◌, arith, if◌then◌else◌}
use Rattle.std.specs.Prelude.{find, slice_get}
use Rattle.std.specs.List.{list_all, list_any, filter}
use Rattle.std.proofs.Math.ListN.{set, length-set}
use Rattle.std.proofs.lemmas.Bool.{and_parts}
use Rattle.std.proofs.lemmas.Bool.Decides.{nat_tests}
use Rattle.route_install.specs.declared.installer.Work.{Work}
use Rattle.route_install.specs.Installing.{Installation, IsAt, IsInstaller, CanBegin, AreOpen, new_work, new_installation, parts_for, is_done, first_open, awaited, is_awaited, one_acked, one_silent, changed, after_ack, after_silence}

-- the first that isn't done stands at the place
pub first-at : (done : Work → Bool) (k : ℕ) (ws : List Work) → IsAt done k ws → find (λ w. not (done w)) ws ≡ slice_get ws k
first-at done zero [] at = refl
first-at done zero (w ∷ ws) at = ap (λ b. if b then Some w else find (λ v. not (done v)) ws) (and_parts (not (done w)) (list_all (λ v. not (done v)) ws) at).0
first-at done (suc k) [] at = absurd at
first-at done (suc k) (w ∷ ws) at = ap (λ b. if not b then Some w else find (λ v. not (done v)) ws) at.0 ∙ first-at done k ws at.1

-- the works are changed at the place
pub changed-at : (done : Work → Bool) (v : Work) (k : ℕ) (ws : List Work) → IsAt done k ws → changed done (λ w. v) ws ≡ set ws k v
changed-at done v zero [] at = refl
changed-at done v zero (w ∷ ws) at = by (done w) (and_parts (not (done w)) (list_all (λ v. not (done v)) ws) at).0
  where
    by : (b : Bool) → not b ≡ true → (if b then w ∷ changed done (λ w. v) ws else v ∷ ws) ≡ v ∷ ws
    by true e = cc
    by false e = refl
changed-at done v (suc k) [] at = absurd at
changed-at done v (suc k) (w ∷ ws) at = ap (λ b. if b then w ∷ changed done (λ w. v) ws else v ∷ ws) at.0 ∙ ap (λ l. w ∷ l) (changed-at done v k ws at.1)

-- a work that isn't done yet stays the first
pub stays-at : (done : Work → Bool) (v : Work) (k : ℕ) (ws : List Work) → IsAt done k ws → done v ≡ false → IsAt done k (set ws k v)
stays-at done v zero [] at e = at
stays-at done v zero (w ∷ ws) at e = rw e (and_parts (not (done w)) (list_all (λ v. not (done v)) ws) at).1
stays-at done v (suc k) [] at e = absurd at
stays-at done v (suc k) (w ∷ ws) at e = (at.0, stays-at done v k ws at.1 e)

-- after one that is done the next is the first
pub goes-on : (done : Work → Bool) (v : Work) (k : ℕ) (ws : List Work) → IsAt done k ws → k < length ws → done v ≡ true → IsAt done (suc k) (set ws k v)
goes-on done v zero [] at l e = absurd (omega arith)
goes-on done v zero (w ∷ ws) at l e = (e, (and_parts (not (done w)) (list_all (λ v. not (done v)) ws) at).1)
goes-on done v (suc k) [] at l e = absurd at
goes-on done v (suc k) (w ∷ ws) at l e = (at.0, goes-on done v k ws at.1 (omega arith) e)

-- no work is open where all are done
pub none-open : (done : Work → Bool) (ws : List Work) → is_none (find (λ w. not (done w)) ws) ≡ list_all done ws
none-open done [] = refl
none-open done (w ∷ ws) = by (done w) (none-open done ws)
  where
    by : (b : Bool) → is_none (find (λ w. not (done w)) ws) ≡ list_all done ws → is_none (if not b then Some w else find (λ w. not (done w)) ws) ≡ (b && list_all done ws)
    by true e = e
    by false e = refl

-- what is changed is the first open work
pub changed-first : (done : Work → Bool) (f : Work → Work) (v : Work) (ws : List Work) → find (λ w. not (done w)) ws ≡ Some v → changed done (λ w. f v) ws ≡ changed done f ws
changed-first done f v [] e = refl
changed-first done f v (w ∷ ws) e = by (done w) e (changed-first done f v ws)
  where
    by : (b : Bool) → (if not b then Some w else find (λ u. not (done u)) ws) ≡ Some v → (find (λ u. not (done u)) ws ≡ Some v → changed done (λ u. f v) ws ≡ changed done f ws) → (if b then w ∷ changed done (λ u. f v) ws else f v ∷ ws) ≡ (if b then w ∷ changed done f ws else f w ∷ ws)
    by true e h = ap (λ l. w ∷ l) (h e)
    by false e h = let same : w ≡ v = cc in ap (λ u. f u ∷ ws) (sym same)

-- an open work isn't done
pub open-undone : (done : Work → Bool) (v : Work) (ws : List Work) → find (λ w. not (done w)) ws ≡ Some v → done v ≡ false
open-undone done v [] e = cc
open-undone done v (w ∷ ws) e = by (done w) refl e (open-undone done v ws)
  where
    by : (b : Bool) → done w ≡ b → (if not b then Some w else find (λ u. not (done u)) ws) ≡ Some v → (find (λ u. not (done u)) ws ≡ Some v → done v ≡ false) → done v ≡ false
    by true d e h = h e
    by false d e h = let same : w ≡ v = cc in sym (ap done same) ∙ d

-- where one is open, the place is within
pub open-within : (done : Work → Bool) (k : ℕ) (ws : List Work) → IsAt done k ws → IsSome (find (λ w. not (done w)) ws) → k < length ws
open-within done k ws at some = within k ws (sym (ap is_some (first-at done k ws at)) ∙ some)
  where
    within : (k : ℕ) (ws : List Work) → is_some (slice_get ws k) ≡ true → k < length ws
    within k [] e = cc
    within zero (w ∷ ws) e = omega arith
    within (suc k) (w ∷ ws) e = let rest = within k ws e in omega arith

-- an open work has parts and tries left
pub open-room : (i : Installation) (o : Option Work) → o ≡ first_open i → i.tries ≤ 8 → IfSome o (λ w. (w.acked < w.parts) × (w.silences < 8))
open-room i None e t = tt
open-room i (Some w) e t =
    let undone : is_done i.tries w ≡ false = open-undone (is_done i.tries) w i.works (sym e) in
    let a : w.acked < w.parts = grind (arith, nat_tests) in
    let s : w.silences < i.tries = grind (arith, nat_tests) in
    (a, omega arith)

-- what comes of an acknowledgement, and of a silence
pub ack-after : (i : Installation) (w : Work) (host part : ℕ) → Some w ≡ first_open i → w.host ≡ host → w.acked ≡ part → record i { works = changed (is_done i.tries) (λ v. one_acked w) i.works } ≡ after_ack i host part
ack-after i w host part e h p =
    let same : is_awaited (awaited i) host part ≡ is_awaited (Some (w.host, w.acked)) host part = ap (λ o. is_awaited (option_map (λ (v : Work). (v.host, v.acked)) o) host part) (sym e) in
    let a : nat_eq w.host host ≡ true = grind (arith, nat_tests) in
    let b : nat_eq w.acked part ≡ true = grind (arith, nat_tests) in
    let told : is_awaited (Some (w.host, w.acked)) host part ≡ true = rw (a, b) refl in
    ap (λ (ws : List Work). record i { works = ws }) (changed-first (is_done i.tries) one_acked w i.works (sym e))
    ∙ sym (ap (λ b. if b then record i { works = changed (is_done i.tries) one_acked i.works } else i) (same ∙ told))

pub silence-after : (i : Installation) (w : Work) → Some w ≡ first_open i → record i { works = changed (is_done i.tries) (λ v. one_silent w) i.works } ≡ after_silence i
silence-after i w e = ap (λ (ws : List Work). record i { works = ws }) (changed-first (is_done i.tries) one_silent w i.works (sym e))

-- works that begin aren't done, where there are parts and tries
pub fresh : (parts tries : ℕ) (hs : List ℕ) → 1 ≤ parts → 1 ≤ tries → list_all (λ w. not (is_done tries w)) (map (new_work parts) hs) ≡ true
fresh parts tries [] p t = refl
fresh parts tries (h ∷ hs) p t =
    let a : nat_le parts 0 ≡ false = grind (arith, nat_tests) in
    let b : nat_le tries 0 ≡ false = grind (arith, nat_tests) in
    rw (a, b) (fresh parts tries hs p t)

-- a mapper alone has no work
alone : (mapper : ℕ) (hosts : List ℕ) → list_any (nat_eq mapper) hosts ≡ true → length hosts ≤ 1 → filter (λ h. not (nat_eq h mapper)) hosts ≡ []
alone mapper [] any few = refl
alone mapper (h ∷ []) any few = by (nat_eq mapper h) refl any
  where
    by : (b : Bool) → nat_eq mapper h ≡ b → (b || false) ≡ true → (if not (nat_eq h mapper) then h ∷ [] else []) ≡ []
    by true e a = let same : nat_eq h mapper ≡ true = grind (arith, nat_tests) in rw same refl
    by false e a = cc
alone mapper (h ∷ g ∷ hs) any few = absurd (omega arith)

-- no more works than hosts
few-works : (parts : ℕ) (t : ℕ → Bool) (hs : List ℕ) → length (map (new_work parts) (filter t hs)) ≤ length hs
few-works parts t [] = omega arith
few-works parts t (h ∷ hs) = by (t h) (few-works parts t hs)
  where
    by : (b : Bool) → length (map (new_work parts) (filter t hs)) ≤ length hs → length (map (new_work parts) (if b then h ∷ filter t hs else filter t hs)) ≤ suc (length hs)
    by true l = omega arith
    by false l = omega arith

pub begins : (mapper : ℕ) (hosts : List ℕ) (tries : ℕ) → CanBegin mapper hosts tries → AreOpen (new_installation mapper hosts tries).works tries
begins mapper hosts tries can = by (nat_le 2 (length hosts)) refl
  where
    undone : (1 ≤ parts_for hosts) ⊎ (filter (λ h. not (nat_eq h mapper)) hosts ≡ []) → list_all (λ w. not (is_done tries w)) (map (new_work (parts_for hosts)) (filter (λ h. not (nat_eq h mapper)) hosts)) ≡ true
    undone (inl p) = fresh (parts_for hosts) tries (filter (λ h. not (nat_eq h mapper)) hosts) p can.some_tries
    undone (inr n) = ap (λ (hs : List ℕ). list_all (λ w. not (is_done tries w)) (map (new_work (parts_for hosts)) hs)) n

    made : (1 ≤ parts_for hosts) ⊎ (filter (λ h. not (nat_eq h mapper)) hosts ≡ []) → AreOpen (new_installation mapper hosts tries).works tries
    made s =
        let few : length hosts ≤ 128 = can.few in
        let works = few-works (parts_for hosts) (λ h. not (nat_eq h mapper)) hosts in
        record { few = omega arith; undone = undone s; few_tries = can.few_tries }

    by : (b : Bool) → nat_le 2 (length hosts) ≡ b → AreOpen (new_installation mapper hosts tries).works tries
    by true two =
        let n : 2 ≤ length hosts = grind (arith, nat_tests) in
        made (inl (omega arith))
    by false one =
        let n : length hosts ≤ 1 = grind (arith, nat_tests) in
        made (inr (alone mapper hosts can.has_mapper n))

-- an installer with its first open work changed: done, or not yet
pub done-next : (i : Installation) (v : Work) (at : ℕ) (ws : List Work) → ws ≡ set i.works at v → IsInstaller i at → at < length i.works → is_done i.tries v ≡ true → IsInstaller (record i { works = ws }) (at + 1)
done-next i v at ws e k l d =
    let one : suc at ≡ at + 1 = omega arith in
    let n : length ws ≡ length i.works = ap length e ∙ length-set i.works at v in
    let few : length i.works ≤ 128 = k.few_works in
    record {
      few_tries = k.few_tries;
      few_works = omega arith;
      is_at = subst (λ m. IsAt (is_done i.tries) m ws) one (subst (λ (l : List Work). IsAt (is_done i.tries) (suc at) l) (sym e) (goes-on (is_done i.tries) v at i.works k.is_at l d));
    }

pub undone-same : (i : Installation) (v : Work) (at : ℕ) (ws : List Work) → ws ≡ set i.works at v → IsInstaller i at → is_done i.tries v ≡ false → IsInstaller (record i { works = ws }) at
undone-same i v at ws e k d =
    let n : length ws ≡ length i.works = ap length e ∙ length-set i.works at v in
    let few : length i.works ≤ 128 = k.few_works in
    record {
      few_tries = k.few_tries;
      few_works = omega arith;
      is_at = subst (λ (l : List Work). IsAt (is_done i.tries) at l) (sym e) (stays-at (is_done i.tries) v at i.works k.is_at d);
    }
