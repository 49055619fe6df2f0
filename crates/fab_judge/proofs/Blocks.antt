-- Lines of one kind, one after another.
use Rattle.std.proofs.Common.{◌≡◌, ◌<◌, ◌≤◌, ◌+◌, ◌-◌, ℕ, suc, List, [], ◌∷◌, ◌++◌, Ok, Err, Option, Some, None, refl, ap, sym, ◌∙◌, append_assoc, arith}
use Rattle.std.proofs.lemmas.List.{append-nil}
use Rattle.fab_text.specs.Line.{TextLine}
use Rattle.fab_text.specs.Fault.{and_then}
use Rattle.judge_defs.specs.Form.{Reads}
use Rattle.fab_judge.proofs.Lists.{last_of, last_of-more, counted-down}

-- items before those that are read
abbrev pub after : {X : Type 0} → List X → Reads (List X) → Reads (List X)
after done r = and_then r (λ p. Ok (done ++ p.0, p.1))

-- one item before them
abbrev pub onto : {X : Type 0} → X → Reads (List X) → Reads (List X)
onto x r = and_then r (λ rs. Ok (x ∷ rs.0, rs.1))

-- one item, and those after it
abbrev pub onto_more : {X : Type 0} → Reads X → (X → List TextLine → Reads (List X)) → Reads (List X)
onto_more one more = and_then one (λ r. onto r.0 (more r.0 r.1))

pub after-none : {X : Type 0} (r : Reads (List X)) → r ≡ after [] r
after-none (Ok p) = refl
after-none (Err e) = refl

pub after-one : {X : Type 0} (done : List X) (x : X) (r : Reads (List X)) → after done (onto x r) ≡ after (done ++ x ∷ []) r
after-one done x (Ok p) = ap (λ xs. Ok (xs, p.1)) (sym (append_assoc done (x ∷ []) p.0))
after-one done x (Err e) = refl

-- one item more
pub block-more : {X : Type 0} (all : Reads (List X)) (done now : List X) (one : Reads X) (more : X → List TextLine → Reads (List X)) (x : X) (left : List TextLine)
    → all ≡ after done (onto_more one more) → one ≡ Ok (x, left) → now ≡ done ++ x ∷ [] → all ≡ after now (more x left)
block-more all done now one more x left a e p =
    a ∙ ap (λ o. after done (onto_more o more)) e ∙ after-one done x (more x left) ∙ ap (λ d. after d (more x left)) (sym p)

-- a fault of one item is one of all
pub block-fault : {X : Type 0} (all : Reads (List X)) (done : List X) (one : Reads X) (more : X → List TextLine → Reads (List X)) (line : ℕ)
    → all ≡ after done (onto_more one more) → one ≡ Err line → all ≡ Err line
block-fault all done one more line a e = a ∙ ap (λ o. after done (onto_more o more)) e

-- some items were read, and these are left
pub record ArePassed {X : Type 0} (all rest : Reads (List X)) : Type 0 where
  pub done : List X
  pub same : all ≡ after done rest

pub passed-none : {X : Type 0} (r : Reads (List X)) → ArePassed r r
passed-none r = record { done = []; same = after-none r }

-- the end of the items
pub block-end : {X : Type 0} (all : Reads (List X)) (done : List X) (left : List TextLine) → all ≡ after done (Ok ([], left)) → all ≡ Ok (done, left)
block-end all done left a = a ∙ ap (λ d. Ok (d, left)) (append-nil done)

-- a count of items, by the one before
abbrev pub Counted : Type 0 → Type 0
Counted X = ℕ → Option X → List TextLine → Reads (List X)

-- items that are counted: none, or one and then the others
pub record IsCounted {X : Type 0} (f : Counted X) (one : Option X → List TextLine → Reads X) : Type 0 where
  pub none : (b : Option X) (ls : List TextLine) → f 0 b ls ≡ Ok ([], ls)
  pub some : (k : ℕ) (b : Option X) (ls : List TextLine) → f (suc k) b ls ≡ onto_more (one b ls) (λ x. f k (Some x))

pub counted-begin : {X : Type 0} (f : Counted X) (n : ℕ) (done : List X) (ls : List TextLine) → done ≡ [] → f n None ls ≡ after done (f (n - 0) (last_of done) ls)
counted-begin f n [] ls e = let same : n ≡ n - 0 = omega arith in after-none (f n None ls) ∙ ap (λ k. after [] (f k None ls)) same
counted-begin f n (x ∷ xs) ls e = cc

pub counted-more : {X : Type 0} (f : Counted X) (one : Option X → List TextLine → Reads X) (all : Reads (List X)) (n i : ℕ) (done now : List X) (ls left : List TextLine) (x : X)
    → IsCounted f one → i < n → all ≡ after done (f (n - i) (last_of done) ls) → one (last_of done) ls ≡ Ok (x, left) → now ≡ done ++ x ∷ []
    → all ≡ after now (f (n - (i + 1)) (last_of now) left)
counted-more f one all n i done now ls left x is h a e p =
    block-more all done now (one (last_of done) ls) (λ y. f (n - (i + 1)) (Some y)) x left
    (a ∙ ap (λ k. after done (f k (last_of done) ls)) (counted-down n i h) ∙ ap (after done) (is.some (n - (i + 1)) (last_of done) ls)) e p
    ∙ ap (λ b. after now (f (n - (i + 1)) b left)) (sym (ap (λ xs. last_of xs) p ∙ last_of-more done x))

pub counted-fault : {X : Type 0} (f : Counted X) (one : Option X → List TextLine → Reads X) (all : Reads (List X)) (n i : ℕ) (done : List X) (ls : List TextLine) (line : ℕ)
    → IsCounted f one → i < n → all ≡ after done (f (n - i) (last_of done) ls) → one (last_of done) ls ≡ Err line → all ≡ Err line
counted-fault f one all n i done ls line is h a e =
    block-fault all done (one (last_of done) ls) (λ y. f (n - (i + 1)) (Some y)) line
    (a ∙ ap (λ k. after done (f k (last_of done) ls)) (counted-down n i h) ∙ ap (after done) (is.some (n - (i + 1)) (last_of done) ls)) e

pub counted-end : {X : Type 0} (f : Counted X) (one : Option X → List TextLine → Reads X) (all : Reads (List X)) (n i : ℕ) (done : List X) (ls : List TextLine)
    → IsCounted f one → n ≤ i → all ≡ after done (f (n - i) (last_of done) ls) → all ≡ Ok (done, ls)
counted-end f one all n i done ls is h a =
    let zero_left : n - i ≡ 0 = omega arith in
    block-end all done ls (a ∙ ap (λ k. after done (f k (last_of done) ls)) zero_left ∙ ap (after done) (is.none (last_of done) ls))
