-- The entries of a journal by their places, and the nodes of the first of them.
use Rattle.std.proofs.Common.{◌≡◌, ◌≢◌, ◌<◌, ◌≤◌, ℕ, zero, suc, ◌+◌, List, [], ◌∷◌, ◌++◌, Bool, true, false, length, take, Some, ap, sym, ◌∙◌, refl, arith, if◌then◌else◌}
use Rattle.std.specs.Prelude.{ℤ, slice_get, slice_index_or}
use Rattle.std.proofs.lemmas.Option.{slice_get-get_or}
use Rattle.std.proofs.lemmas.Bool.{false≢true}
use Rattle.net_defs.specs.Turn.{same_turns}
use Rattle.net_defs.proofs.Turns.{same_turns-false, same_turns-refl, same_turns-true}
use Rattle.journal_defs.specs.declared.entry.Entry.{Entry}
use Rattle.journal_defs.specs.Tree.{IsJournal, answered, has_found, is_found, nodes, reached}
use Rattle.journal_defs.specs.Tree.Node.{Reached}
use Rattle.replicate_merge.proofs.Longer.{nodes-more, nodes-same}
use Rattle.replicate_merge.proofs.Numbers.{count-take}
use Rattle.replicate_merge.proofs.Waying.{take-more}
use Rattle.replicate_merge.proofs.Finding.{reached-few}
use Rattle.replicate_merge.proofs.Prefixes.{walk-at}

-- the entry at a place
pub entry-in : (es j : List Entry) (k : ℕ) (d : Entry) → es ≡ j → k < length j → slice_get j k ≡ Some (slice_index_or es k d)
entry-in es j k d list l = slice_get-get_or j k d l ∙ ap (λ (xs : List Entry). Some (slice_index_or xs k d)) (sym list)

-- the node of an entry stands after those of the entries before it
reached-place : (j : List Entry) (k : ℕ) (e : Entry) → slice_get j k ≡ Some e → is_found e.answer ≡ true → slice_get (reached j) (length (reached (take k j))) ≡ Some (Reached e.walk)
reached-place [] k e at f = cc
reached-place (x ∷ j) zero e at f =
    let one : x ≡ e = cc in
    ap (λ b. slice_get (if b then Reached x.walk ∷ reached j else reached j) 0) (ap (λ (y : Entry). is_found y.answer) one ∙ f) ∙ ap (λ (y : Entry). Some (Reached y.walk)) one
reached-place (x ∷ j) (suc k) e at f = by (is_found x.answer) (reached-place j k e at f)
  where
    by : (b : Bool) → slice_get (reached j) (length (reached (take k j))) ≡ Some (Reached e.walk) → slice_get (if b then Reached x.walk ∷ reached j else reached j) (length (if b then Reached x.walk ∷ reached (take k j) else reached (take k j))) ≡ Some (Reached e.walk)
    by true r = r
    by false r = r

pub node-place : (j : List Entry) (k : ℕ) (e : Entry) → slice_get j k ≡ Some e → is_found e.answer ≡ true → slice_get (nodes j) (length (nodes (take k j))) ≡ Some (Reached e.walk)
node-place j k e at f = reached-place j k e at f

-- the nodes of the first entries, with the next
pub nodes-found : (j : List Entry) (k : ℕ) (e : Entry) → slice_get j k ≡ Some e → is_found e.answer ≡ true → nodes (take (k + 1) j) ≡ nodes (take k j) ++ Reached e.walk ∷ []
nodes-found j k e at f = ap (λ (l : List Entry). nodes l) (take-more j k e at) ∙ nodes-more (take k j) e f

pub nodes-lost : (j : List Entry) (k : ℕ) (e : Entry) → slice_get j k ≡ Some e → is_found e.answer ≡ false → nodes (take (k + 1) j) ≡ nodes (take k j)
nodes-lost j k e at f = ap (λ (l : List Entry). nodes l) (take-more j k e at) ∙ nodes-same (take k j) e f

pub few-before : (j : List Entry) (k : ℕ) → k ≤ length j → length (nodes (take k j)) ≤ k + 1
few-before j k l = let f = reached-few (take k j) in let c = count-take j k l in omega arith

-- the entry of a walk that found something
pub record IsEntryOf (j : List Entry) (w : List ℤ) : Type 0 where
  pub place : ℕ
  pub entry : Entry
  pub there : slice_get j place ≡ Some entry
  pub walk : entry.walk ≡ w
  pub answer : answered j w ≡ Some entry.answer

pub entry-of : (j : List Entry) (w : List ℤ) → has_found (answered j w) ≡ true → IsEntryOf j w
entry-of [] w f = absurd (false≢true f)
entry-of (x ∷ j) w f = by (same_turns x.walk w) refl f (entry-of j w)
  where
    by : (b : Bool) → same_turns x.walk w ≡ b → has_found (if b then Some x.answer else answered j w) ≡ true → (has_found (answered j w) ≡ true → IsEntryOf j w) → IsEntryOf (x ∷ j) w
    by true p g rest = record { place = 0; entry = x; there = refl; walk = same_turns-true x.walk w p; answer = ap (λ b. if b then Some x.answer else answered j w) p }
    by false p g rest = let r = rest g in record { place = suc r.place; entry = r.entry; there = r.there; walk = r.walk; answer = ap (λ b. if b then Some x.answer else answered j w) p ∙ r.answer }

-- what an entry has is the answer to its walk
pub answered-at : (j : List Entry) (k : ℕ) (e : Entry) → IsJournal j → slice_get j k ≡ Some e → answered j e.walk ≡ Some e.answer
answered-at [] k e once at = cc
answered-at (x ∷ j) zero e once at =
    let one : x ≡ e = cc in
    ap (λ b. if b then Some x.answer else answered j e.walk) (ap (λ (y : Entry). same_turns x.walk y.walk) (sym one) ∙ same_turns-refl x.walk) ∙ ap (λ (y : Entry). Some y.answer) one
answered-at (x ∷ j) (suc k) e once at =
    let differs : x.walk ≢ e.walk = walk-at (λ v. x.walk ≢ v) j k e once.0 at in
    ap (λ b. if b then Some x.answer else answered j e.walk) (same_turns-false x.walk e.walk differs) ∙ answered-at j k e once.1 at
