-- One byte more of two digits.
use Rattle.std.proofs.Common.{◌≡◌, ℕ, List, [], ◌∷◌, ◌++◌, Option, Some, None, option_and_then}
use Rattle.std.proofs.Common.{refl, sym, ap, ◌∙◌, append_assoc}
use Rattle.line_table.specs.Said.{byte_said, pairs_said}

-- bytes after others
abbrev pub after_bytes : List ℕ → Option (List ℕ) → Option (List ℕ)
after_bytes done more = option_and_then (λ xs. Some (done ++ xs)) more

-- a byte in front of others, after those that were read
after-one : (done : List ℕ) (x : ℕ) (more : Option (List ℕ))
    → after_bytes done (option_and_then (λ xs. Some (x ∷ xs)) more) ≡ after_bytes (done ++ x ∷ []) more
after-one done x None = refl
after-one done x (Some xs) = ap Some (sym (append_assoc done (x ∷ []) xs))

-- the bytes that are read stay the same when one is
pub pairs-kept : (all : Option (List ℕ)) (done new left rest : List ℕ) (a b x : ℕ)
    → all ≡ after_bytes done (pairs_said left)
    → left ≡ a ∷ b ∷ rest → byte_said a b ≡ Some x → new ≡ done ++ x ∷ [] → all ≡ after_bytes new (pairs_said rest)
pairs-kept all done new left rest a b x e s g h =
    e
    ∙ ap (λ w. after_bytes done (pairs_said w)) s
    ∙ ap (λ o. after_bytes done (option_and_then (λ y. option_and_then (λ ys. Some (y ∷ ys)) (pairs_said rest)) o)) g
    ∙ after-one done x (pairs_said rest)
    ∙ ap (λ d. after_bytes d (pairs_said rest)) (sym h)
