-- The lists of provided tokens and of events, as contracts see them.
use Rattle.std.proofs.Common.{◌≡◌, ℕ, zero, suc, ◌+◌, ◌<◌, Bool, true, false, ◌||◌, List, [], ◌∷◌, length, map, nat_eq, get_or, set, Option, Some, None, IsSome, refl, sym, ap, subst, ◌∙◌, true≢false, arith, if◌then◌else◌}
use Rattle.std.specs.Prelude.{find, position, slice_get, option_map, is_some}
use Rattle.std.specs.List.{AllByRecursion, filter, list_any, remove, position_from}
use Rattle.std.proofs.lemmas.Option.{slice_get_read}
use Rattle.std.proofs.lemmas.Iterator.Adapters.{position_from-zero}
use Rattle.gm_tokens.specs.Token.{Token, token_at}
use Rattle.gm_defs.specs.declared.frame.FrameHead.{FrameHead}
use Rattle.gm_defs.specs.Token.{Provided, has_number, sent_tokens, received_tokens, is_filling_for, takes}
use Rattle.gm_defs.specs.Port.{without_first, with_first, filling_with}
use Rattle.gm_port.specs.declared.event.PortEvent.{PortEvent as Event}
use Rattle.gm_port.specs.declared.event.PortEvent.TheVariants.{Sent as SentEvent, Received as ReceivedEvent}
use Rattle.gm_port.specs.declared.event.ProvidedToken.{ProvidedToken}
use Rattle.gm_port.specs.Held.{Buffers, provided_at, provided_at_token, provided_of, receive_at, event_at, event_of}
use Rattle.gm_port.specs.Lists.{AreOwnTokens, AreOwnEvents, taking, taking_here, filled_by, filled_in, is_sent, is_received}

module _ {A : Type 0} (test : A → Bool) where
  abbrev FoundAt : List A → ℕ → ℕ → Type 0
  FoundAt xs k j = (i : ℕ) × (j ≡ k + i) × (find test xs ≡ slice_get xs i) × (without_first test xs ≡ remove xs i) × (i < length xs)

  found-later : (x : A) (xs : List A) (k j : ℕ) → test x ≡ false → FoundAt xs (k + 1) j → FoundAt (x ∷ xs) k j
  found-later x xs k j t more =
      let at : j ≡ (k + 1) + more.0 = more.1 in
      let lt : more.0 < length xs = more.4 in
      (suc more.0, omega arith, rw t more.2, rw t (ap (λ (ys : List A). x ∷ ys) more.3), omega arith)

  -- what is found is at the place where it is found, and leaves it
  pub found-at : (xs : List A) (k j : ℕ) → position_from test k xs ≡ Some j → (i : ℕ) × (j ≡ k + i) × (find test xs ≡ slice_get xs i) × (without_first test xs ≡ remove xs i) × (i < length xs)
  found-at [] k j e = cc
  found-at (x ∷ xs) k j e = by (test x) refl (found-at xs (k + 1) j)
    where
      by : (b : Bool) → test x ≡ b → (position_from test (k + 1) xs ≡ Some j → (i : ℕ) × (j ≡ (k + 1) + i) × (find test xs ≡ slice_get xs i) × (without_first test xs ≡ remove xs i) × (i < length xs)) → (i : ℕ) × (j ≡ k + i) × (find test (x ∷ xs) ≡ slice_get (x ∷ xs) i) × (without_first test (x ∷ xs) ≡ remove (x ∷ xs) i) × (i < length (x ∷ xs))
      by true t r =
          let g : position_from test k (x ∷ xs) ≡ Some k = rw t refl in
          let same : k ≡ j = cc in
          (zero, omega arith, rw t refl, rw t refl, omega arith)
      by false t r =
          let g : position_from test k (x ∷ xs) ≡ position_from test (k + 1) xs = rw t refl in
          found-later x xs k j t (r (sym g ∙ e))

  pub not-found : (xs : List A) (k : ℕ) → position_from test k xs ≡ None → find test xs ≡ None
  not-found [] k e = refl
  not-found (x ∷ xs) k e = by (test x) refl (not-found xs (k + 1))
    where
      by : (b : Bool) → test x ≡ b → (position_from test (k + 1) xs ≡ None → find test xs ≡ None) → find test (x ∷ xs) ≡ None
      by true t r = let g : position_from test k (x ∷ xs) ≡ Some k = rw t refl in cc
      by false t r =
          let g : position_from test k (x ∷ xs) ≡ position_from test (k + 1) xs = rw t refl in
          rw t (r (sym g ∙ e))

  pub is_found : (xs : List A) (k : ℕ) → is_some (find test xs) ≡ is_some (position_from test k xs)
  is_found [] k = refl
  is_found (x ∷ xs) k = by (test x) refl (is_found xs (k + 1))
    where
      by : (b : Bool) → test x ≡ b → is_some (find test xs) ≡ is_some (position_from test (k + 1) xs) → is_some (find test (x ∷ xs)) ≡ is_some (position_from test k (x ∷ xs))
      by true t r = rw t refl
      by false t r = rw t r

  pub all-at : (P : A → Type 0) (xs : List A) (i : ℕ) (x : A) → AllByRecursion P xs → slice_get xs i ≡ Some x → P x
  all-at P [] i x all e = cc
  all-at P (y ∷ xs) zero x all e = let same : y ≡ x = cc in subst P same all.0
  all-at P (y ∷ xs) (suc i) x all e = all-at P xs i x all.1 e

module _ {A B : Type 0} (f : A → B) (test : B → Bool) where
  pub find-map : (xs : List A) → find test (map f xs) ≡ option_map f (find (λ x. test (f x)) xs)
  find-map [] = refl
  find-map (x ∷ xs) = by (test (f x)) refl (find-map xs)
    where
      by : (b : Bool) → test (f x) ≡ b → find test (map f xs) ≡ option_map f (find (λ y. test (f y)) xs) → find test (map f (x ∷ xs)) ≡ option_map f (find (λ y. test (f y)) (x ∷ xs))
      by true t r = rw t refl
      by false t r = rw t r

  pub without_first-map : (xs : List A) → without_first test (map f xs) ≡ map f (without_first (λ x. test (f x)) xs)
  without_first-map [] = refl
  without_first-map (x ∷ xs) = by (test (f x)) refl (without_first-map xs)
    where
      by : (b : Bool) → test (f x) ≡ b → without_first test (map f xs) ≡ map f (without_first (λ y. test (f y)) xs) → without_first test (map f (x ∷ xs)) ≡ map f (without_first (λ y. test (f y)) (x ∷ xs))
      by true t r = rw t refl
      by false t r = rw t (ap (λ (ys : List B). f x ∷ ys) r)

-- the numbers of tokens
pub has-provided : (n : ℕ) (rs : List ProvidedToken) → list_any (λ r. nat_eq n r.token.number) rs ≡ has_number (map (λ r. r.token) (map provided_of rs)) n
has-provided n [] = refl
has-provided n (r ∷ rs) = ap (λ (b : Bool). nat_eq n r.token.number || b) (has-provided n rs)

pub has-sent : (n : ℕ) (es : List Event) → list_any (is_sent n) es ≡ has_number (sent_tokens (map event_of es)) n
has-sent n [] = refl
has-sent n (SentEvent t b ∷ es) = ap (λ (b : Bool). nat_eq n t.number || b) (has-sent n es)
has-sent n (ReceivedEvent t b from sport prio len ∷ es) = has-sent n es

pub has-received : (n : ℕ) (es : List Event) → list_any (is_received n) es ≡ has_number (received_tokens (map event_of es)) n
has-received n [] = refl
has-received n (SentEvent t b ∷ es) = has-received n es
has-received n (ReceivedEvent t b from sport prio len ∷ es) = ap (λ (b : Bool). nat_eq n t.number || b) (has-received n es)

-- own tokens are those of the numbers
pub own-events : (host port : ℕ) (es : List Event) → AreOwnEvents host port es → es ≡ map (event_at host port) (map event_of es)
own-events host port [] own = refl
own-events host port (e ∷ es) own =
    let first : event_at host port (event_of e) ≡ e = own.0 in
    let rest = own-events host port es own.1 in
    cc

pub own-list : (host port : ℕ) (rs : List ProvidedToken) → AreOwnTokens host port rs → map (λ r. (r.token, r.buffer)) rs ≡ map (receive_at host port) (map provided_of rs)
own-list host port [] own = refl
own-list host port (r ∷ rs) own =
    let P : ProvidedToken → Token × List ℕ = λ x. (x.token, x.buffer) in
    let first : P r ≡ receive_at host port (provided_of r) = sym (ap P own.0) in
    cc (first, own-list host port rs own.1)

-- the test of a token as the port holds it
abbrev by_begun : FrameHead → Bool → ProvidedToken → Bool
by_begun h b r = takes h b (provided_of r)

any-map : {A B : Type 0} (f : A → B) (test : B → Bool) (xs : List A) → list_any (λ x. test (f x)) xs ≡ list_any test (map f xs)
any-map f test [] = refl
any-map f test (x ∷ xs) = ap (λ (b : Bool). test (f x) || b) (any-map f test xs)

begun-same : (h : FrameHead) (rs : List ProvidedToken) → list_any (λ x. is_filling_for h.src h.prio (provided_of x)) rs ≡ list_any (is_filling_for h.src h.prio) (map provided_of rs)
begun-same h rs = any-map provided_of (is_filling_for h.src h.prio) rs

-- a token takes a fragment exactly where one is found
find-taking : (h : FrameHead) (rs : List ProvidedToken) → find (taking h (map provided_of rs)) (map provided_of rs) ≡ option_map provided_of (find (taking_here h rs) rs)
find-taking h rs = find-map provided_of (taking h (map provided_of rs)) rs ∙ ap (λ (b : Bool). option_map provided_of (find (by_begun h b) rs)) (sym (begun-same h rs))

pub can-take : (h : FrameHead) (rs : List ProvidedToken) → is_some (position (taking_here h rs) rs) ≡ is_some (find (taking h (map provided_of rs)) (map provided_of rs))
can-take h rs =
    ap is_some (position_from-zero (taking_here h rs) rs) ∙ sym (is_found (taking_here h rs) rs 0) ∙ is_some-map (find (taking_here h rs) rs) ∙ ap is_some (sym (find-taking h rs))
  where
    is_some-map : (o : Option ProvidedToken) → is_some o ≡ is_some (option_map provided_of o)
    is_some-map None = refl
    is_some-map (Some r) = refl

pub none-takes : (h : FrameHead) (rs : List ProvidedToken) → position (taking_here h rs) rs ≡ None → IsSome (find (taking h (map provided_of rs)) (map provided_of rs)) → ⊥
none-takes h rs none some =
    let at : position_from (taking_here h rs) 0 rs ≡ None = sym (position_from-zero (taking_here h rs) rs) ∙ none in
    let found : find (taking h (map provided_of rs)) (map provided_of rs) ≡ None = find-taking h rs ∙ ap (option_map provided_of) (not-found (taking_here h rs) rs 0 at) in
    true≢false (sym some ∙ ap is_some found)

-- the first that takes it is taken out, and the others stay
first-at : (h : FrameHead) (rs : List ProvidedToken) (j : ℕ) → position (taking_here h rs) rs ≡ Some j → (find (taking_here h rs) rs ≡ slice_get rs j) × (without_first (taking_here h rs) rs ≡ remove rs j) × (j < length rs)
first-at h rs j e =
    let at : position_from (taking_here h rs) 0 rs ≡ Some j = sym (position_from-zero (taking_here h rs) rs) ∙ e in
    let found = found-at (taking_here h rs) rs 0 j at in
    let same : j ≡ found.0 = omega (arith, found.1) in
    let lt : found.0 < length rs = found.4 in
    (found.2 ∙ ap (slice_get rs) (sym same), found.3 ∙ ap (remove rs) (sym same), omega arith)

pub taken-found : (host port : ℕ) (h : FrameHead) (rs : List ProvidedToken) (j : ℕ) (r : ProvidedToken) → AreOwnTokens host port rs → position (taking_here h rs) rs ≡ Some j → r ≡ get_or rs j r → (find (taking h (map provided_of rs)) (map provided_of rs) ≡ Some (provided_of r)) × (provided_at host port (provided_of r) ≡ r)
taken-found host port h rs j r own e value =
    let first = first-at h rs j e in
    let at : slice_get rs j ≡ Some r = slice_get_read rs (length rs) j r refl first.2 value in
    (find-taking h rs ∙ ap (option_map provided_of) (first.0 ∙ at), all-at (taking_here h rs) (λ x. provided_at host port (provided_of x) ≡ x) rs j r own at)

pub taken-first : (host port : ℕ) (h : FrameHead) (rs : List ProvidedToken) (j : ℕ) (r : ProvidedToken) → AreOwnTokens host port rs → position (taking_here h rs) rs ≡ Some j → r ≡ get_or rs j r → option_map (provided_at host port) (find (taking h (map provided_of rs)) (map provided_of rs)) ≡ Some r
taken-first host port h rs j r own e value =
    let it = taken-found host port h rs j r own e value in
    ap (option_map (provided_at host port)) it.0 ∙ ap (λ (x : ProvidedToken). Some x) it.1

pub taken-rest : (h : FrameHead) (rs after : List ProvidedToken) (j : ℕ) → position (taking_here h rs) rs ≡ Some j → after ≡ remove rs j → map provided_of after ≡ without_first (taking h (map provided_of rs)) (map provided_of rs)
taken-rest h rs after j e rest =
    let first = first-at h rs j e in
    ap (map provided_of) (rest ∙ sym first.1)
    ∙ ap (λ (b : Bool). map provided_of (without_first (by_begun h b) rs)) (begun-same h rs)
    ∙ sym (without_first-map provided_of (taking h (map provided_of rs)) rs)

-- it is replaced in its place
module _ {A : Type 0} (test : A → Bool) where
  replaced-at : (xs : List A) (k j : ℕ) (y : A) → position_from test k xs ≡ Some j → (i : ℕ) × (j ≡ k + i) × (with_first test y xs ≡ set xs i y)
  replaced-at [] k j y e = cc
  replaced-at (x ∷ xs) k j y e = by (test x) refl (replaced-at xs (k + 1) j y)
    where
      by : (b : Bool) → test x ≡ b → (position_from test (k + 1) xs ≡ Some j → (i : ℕ) × (j ≡ (k + 1) + i) × (with_first test y xs ≡ set xs i y)) → (i : ℕ) × (j ≡ k + i) × (with_first test y (x ∷ xs) ≡ set (x ∷ xs) i y)
      by true t r =
          let g : position_from test k (x ∷ xs) ≡ Some k = rw t refl in
          let same : k ≡ j = cc in
          (zero, omega arith, rw t refl)
      by false t r =
          let g : position_from test k (x ∷ xs) ≡ position_from test (k + 1) xs = rw t refl in
          let more = r (sym g ∙ e) in
          (suc more.0, omega (arith, more.1), ap (λ (b : Bool). if b then y ∷ xs else x ∷ with_first test y xs) t ∙ ap (λ (ys : List A). x ∷ ys) more.2)

module _ {A B : Type 0} (f : A → B) (test : B → Bool) where
  with_first-map : (xs : List A) (y : A) → with_first test (f y) (map f xs) ≡ map f (with_first (λ x. test (f x)) y xs)
  with_first-map [] y = refl
  with_first-map (x ∷ xs) y = by (test (f x)) refl (with_first-map xs y)
    where
      by : (b : Bool) → test (f x) ≡ b → with_first test (f y) (map f xs) ≡ map f (with_first (λ z. test (f z)) y xs) → with_first test (f y) (map f (x ∷ xs)) ≡ map f (with_first (λ z. test (f z)) y (x ∷ xs))
      by true t r = rw t refl
      by false t r = rw t (ap (λ (ys : List B). f x ∷ ys) r)

pub filled-rest : (host port : ℕ) (h : FrameHead) (part : List ℕ) (rs after : List ProvidedToken) (j : ℕ) (r y : ProvidedToken) → AreOwnTokens host port rs → position (taking_here h rs) rs ≡ Some j → r ≡ get_or rs j r → after ≡ set rs j y → provided_of y ≡ filling_with h part (provided_of r)
    → map provided_of after ≡ filled_in h part (map provided_of rs)
filled-rest host port h part rs after j r y own e value rest new =
    let at : position_from (taking_here h rs) 0 rs ≡ Some j = sym (position_from-zero (taking_here h rs) rs) ∙ e in
    let place = replaced-at (taking_here h rs) rs 0 j y at in
    let same : j ≡ place.0 = omega (arith, place.1) in
    let it = (taken-found host port h rs j r own e value).0 in
    ap (map provided_of) (rest ∙ ap (λ i. set rs i y) same ∙ sym place.2)
    ∙ ap (λ (b : Bool). map provided_of (with_first (by_begun h b) y rs)) (begun-same h rs)
    ∙ sym (with_first-map provided_of (taking h (map provided_of rs)) rs y)
    ∙ ap (λ (x : Provided). with_first (taking h (map provided_of rs)) x (map provided_of rs)) new
    ∙ sym (ap (filled_by h part (map provided_of rs)) it)

-- as many tokens are filling
pub filling-counted : (rs : List ProvidedToken) → length (filter (λ r. is_some r.filling) rs) ≡ length (filter (λ r. is_some r.filling) (map provided_of rs))
filling-counted [] = refl
filling-counted (r ∷ rs) = by (is_some r.filling) (filling-counted rs)
  where
    by : (b : Bool) → length (filter (λ r. is_some r.filling) rs) ≡ length (filter (λ r. is_some r.filling) (map provided_of rs))
        → length (if b then r ∷ filter (λ r. is_some r.filling) rs else filter (λ r. is_some r.filling) rs) ≡ length (if b then provided_of r ∷ filter (λ r. is_some r.filling) (map provided_of rs) else filter (λ r. is_some r.filling) (map provided_of rs))
    by true e = ap suc e
    by false e = e

-- a token was put in the place of another, and the list is as before otherwise
pub own-set : (host port : ℕ) (rs : List ProvidedToken) (i : ℕ) (r : ProvidedToken) → AreOwnTokens host port rs → provided_at host port (provided_of r) ≡ r → AreOwnTokens host port (set rs i r)
own-set host port [] i r own e = tt
own-set host port (x ∷ rs) zero r own e = (e, own.1)
own-set host port (x ∷ rs) (suc i) r own e = (own.0, own-set host port rs i r own.1 e)

-- a token that took a fragment is of this port as before
pub own-filled : (host port : ℕ) (h : FrameHead) (part : List ℕ) (r y : ProvidedToken) → provided_at host port (provided_of r) ≡ r → y ≡ provided_at_token r.token (filling_with h part (provided_of r)) → provided_at host port (provided_of y) ≡ y
own-filled host port h part r y own e =
    let token : token_at host port r.token.number ≡ r.token = ap (λ x. x.token) own in
    ap (λ x. provided_at host port (provided_of x)) e ∙ (λ i. provided_at_token (token i) (filling_with h part (provided_of r))) ∙ sym e

-- the place of one that takes it is within the list
pub taken-within : (h : FrameHead) (rs : List ProvidedToken) (j : ℕ) → position (taking_here h rs) rs ≡ Some j → j < length rs
taken-within h rs j e = (first-at h rs j e).2

-- what contracts see of a list of tokens, by its parts
abbrev pub listed : (host port limit : ℕ) → List Provided → Buffers
listed host port limit rs = record { host = host; port = port; limit = limit; provided = rs }
