-- The slots of sends as a list of places by ticket.
use Rattle.std.proofs.Common.{◌≡◌, ◌≢◌, ℕ, zero, suc, ◌+◌, ◌<◌, ◌≤◌, Bool, true, false, true≢false, List, [], ◌∷◌, ◌++◌, length, get_or, set, take, Option, Some, None, is_some, cond, count_by, refl, sym, ap, subst, ◌∙◌, inl, inr, arith}
use Rattle.std.specs.Prelude.{slice_get}
use Rattle.std.proofs.lemmas.Bool.{cases_eq}
use Rattle.std.proofs.lemmas.List.{get_or-set_same, get_or-set_other, length-set, take_all, append-nil, append_assoc}
use Rattle.std.proofs.lemmas.List.Sums.{sum_by-cons, sum_by-set, count_by-le-length}
use Rattle.std.proofs.lemmas.Option.{none-some, same_Some, slice_get_within, slice_get_read, get_or_from_slice_get}
use Rattle.slab.specs.Slab.{Slab, get, slab_len, Updates}
use Rattle.gm_tokens.specs.Token.{Token}
use Rattle.gm_port.specs.Table.{Place, AreFree, held_in, is_held}
use Rattle.gm_port.specs.Slots.{place_under, by_ticket, AreSlots}

-- a place is held where it has a send
pub held-at : (ps : List Place) (n : ℕ) → is_held (slice_get ps n) ≡ is_some (get_or ps n None)
held-at [] n = refl
held-at (p ∷ ps) zero = refl
held-at (p ∷ ps) (suc n) = held-at ps n

-- and lies within the list
pub within : {X : Type 0} (xs : List (Option X)) (n : ℕ) → is_some (get_or xs n None) ≡ true → n < length xs
within [] n h = cc
within (x ∷ xs) zero h = omega arith
within (x ∷ xs) (suc n) h = let r = within xs n h in omega (arith, r)

-- what is read within a list
pub read : {X : Type 0} (xs : List (Option X)) (n : ℕ) (x : Option X) → n < length xs → get_or xs n None ≡ x → slice_get xs n ≡ Some x
read [] n x lt e = absurd (omega arith)
read (y ∷ xs) zero x lt e = ap Some e
read (y ∷ xs) (suc n) x lt e = read xs n x (omega arith) e

-- what an index reads
pub read-place : (ps : List Place) (n : ℕ) (p : Place) → n < length ps → p ≡ get_or ps n p → slice_get ps n ≡ Some p
read-place ps n p lt e = slice_get_read ps (length ps) n p refl lt e

-- the place of a ticket is that under its key
pub place-of : (keys : List (Option ℕ)) (held : List Place) (n : ℕ) → get_or (by_ticket keys held) n None ≡ place_under held (get_or keys n None)
place-of [] held n = refl
place-of (k ∷ keys) held zero = refl
place-of (k ∷ keys) held (suc n) = place-of keys held n

pub length-by_ticket : (keys : List (Option ℕ)) (held : List Place) → length (by_ticket keys held) ≡ length keys
length-by_ticket [] held = refl
length-by_ticket (k ∷ keys) held = ap suc (length-by_ticket keys held)

-- a ticket gets another key
key-set : (keys : List (Option ℕ)) (held : List Place) (n : ℕ) (key : Option ℕ) → by_ticket (set keys n key) held ≡ set (by_ticket keys held) n (place_under held key)
key-set [] held n key = refl
key-set (k ∷ keys) held zero key = refl
key-set (k ∷ keys) held (suc n) key = ap (λ (ps : List Place). place_under held k ∷ ps) (key-set keys held n key)

-- another key's place is as it was
under-other : (held : List Place) (k : ℕ) (p : Place) (key : Option ℕ) → key ≢ Some k → place_under (set held k p) key ≡ place_under held key
under-other held k p None differs = refl
under-other held k p (Some j) differs = get_or-set_other held k j p None (λ (e : j ≡ k). differs (ap Some e))

-- a place changes that no ticket has
place-set : (keys : List (Option ℕ)) (held : List Place) (k : ℕ) (p : Place) → ((n : ℕ) → get_or keys n None ≢ Some k) → by_ticket keys (set held k p) ≡ by_ticket keys held
place-set [] held k p none = refl
place-set (key ∷ keys) held k p none = cc (under-other held k p key (none 0), place-set keys held k p (λ n. none (suc n)))

-- what a place or a key counts
abbrev counted : {X : Type 0} → Option X → ℕ
counted o = cond (is_some o) 1 0

-- a key that a free ticket gets counts, and one that is taken from it counts no more
count-put : (keys : List (Option ℕ)) (n k : ℕ) → n < length keys → get_or keys n None ≡ None → count_by is_some (set keys n (Some k)) ≡ count_by is_some keys + 1
count-put keys n k lt free =
    let none : Option ℕ = None in
    let here : counted (get_or keys n none) ≡ 0 = ap (λ (o : Option ℕ). counted o) free in
    let r = sum_by-set (λ (o : Option ℕ). cond (is_some o) 1 0) keys n (Some k) none lt in
    omega (arith, r, here)

count-take : (keys : List (Option ℕ)) (n k : ℕ) → n < length keys → get_or keys n None ≡ Some k → count_by is_some (set keys n None) + 1 ≡ count_by is_some keys
count-take keys n k lt held =
    let none : Option ℕ = None in
    let here : counted (get_or keys n none) ≡ 1 = ap (λ (o : Option ℕ). counted o) held in
    let r = sum_by-set (λ (o : Option ℕ). cond (is_some o) 1 0) keys n none none lt in
    omega (arith, r, here)

-- free places have nothing, and none counts
pub free-get : {X : Type 0} (xs : List (Option X)) (n : ℕ) → AreFree xs → get_or xs n None ≡ None
free-get [] n free = refl
free-get (x ∷ xs) zero free = free.0
free-get (x ∷ xs) (suc n) free = free-get xs n free.1

pub free-count : {X : Type 0} (xs : List (Option X)) → AreFree xs → count_by is_some xs ≡ 0
free-count [] free = refl
free-count {X} (x ∷ xs) free =
    let here : counted x ≡ 0 = ap (λ (o : Option X). counted o) free.0 in
    omega (arith, here, free-count xs free.1, sum_by-cons (λ (o : Option X). cond (is_some o) 1 0) x xs)

-- and where each place has nothing they are free
pub free-all : {X : Type 0} (xs : List (Option X)) → ((n : ℕ) → get_or xs n None ≡ None) → AreFree xs
free-all [] none = tt
free-all (x ∷ xs) none = (none 0, free-all xs (λ n. none (suc n)))

-- tickets without keys have free places
pub free-tickets : (keys : List (Option ℕ)) (held : List Place) → AreFree keys → AreFree (by_ticket keys held)
free-tickets [] held free = tt
free-tickets (k ∷ keys) held free = (ap (place_under held) free.0, free-tickets keys held free.1)

-- slots of which none has a send
pub no-slots : (slots : Slab ℕ) (keys : List (Option ℕ)) (held : List Place) → slots.slots ≡ [] → AreFree keys → AreFree held → length held ≡ slots.capacity → length keys ≤ slots.capacity → AreSlots slots keys held
no-slots slots keys held empty free gone places room =
    let none : (key : ℕ) → get slots key ≡ None = λ key. ap (λ (s : List (Option ℕ)). get_or s key None) empty in
    record {
      has_slot = λ ticket key e. absurd (none-some key (sym (free-get keys ticket free) ∙ e));
      has_key = λ ticket key e. absurd (none-some ticket (sym (none key) ∙ e));
      has_send = λ key. ap is_some (free-get held key gone) ∙ sym (ap is_some (none key));
      count = ap (λ (s : List (Option ℕ)). count_by is_some s) empty ∙ sym (free-count keys free);
      places = places;
      room = room;
    }

module _ (slots : Slab ℕ) (keys : List (Option ℕ)) (held : List Place) (a : AreSlots slots keys held) where
  -- the key of a ticket has its slot, and so its send
  pub sent-under : (n k : ℕ) → get_or keys n None ≡ Some k → is_some (get_or held k None) ≡ true
  sent-under n k at = a.has_send k ∙ ap is_some (a.has_slot n k at)

  -- a free ticket has no key
  free-by : (n : ℕ) (key : Option ℕ) → get_or keys n None ≡ key → place_under held key ≡ None → get_or keys n None ≡ None
  free-by n None at free = at
  free-by n (Some k) at free = absurd (true≢false (sym (sent-under n k at) ∙ ap is_some free))

  pub free-ticket : (n : ℕ) → slice_get (by_ticket keys held) n ≡ Some None → get_or keys n None ≡ None
  free-ticket n free =
      free-by n (get_or keys n None) refl (sym (place-of keys held n) ∙ get_or_from_slice_get (by_ticket keys held) n None None free)

  pub free-within : (n : ℕ) → slice_get (by_ticket keys held) n ≡ Some None → n < length keys
  free-within n free =
      let lt = slice_get_within (by_ticket keys held) n None free in
      omega (arith, lt, length-by_ticket keys held)

  -- a ticket has a key exactly where its place has a send
  keyed-by : (n : ℕ) (key : Option ℕ) → get_or keys n None ≡ key → is_some (place_under held key) ≡ is_some key
  keyed-by n None at = refl
  keyed-by n (Some k) at = sent-under n k at

  -- as many slots as places with a send
  pub count-places : slab_len slots ≡ count_by is_some (by_ticket keys held)
  count-places = a.count ∙ by keys (λ n. keyed-by n (get_or keys n None) refl)
    where
      by : (ks : List (Option ℕ)) → ((n : ℕ) → is_some (place_under held (get_or ks n None)) ≡ is_some (get_or ks n None)) → count_by is_some ks ≡ count_by is_some (by_ticket ks held)
      by [] same = refl
      by (k ∷ ks) same =
          let one : ℕ = 1 in
          let here : counted (place_under held k) ≡ counted k = ap (λ (b : Bool). cond b one 0) (same 0) in
          let rest = by ks (λ n. same (suc n)) in
          omega (arith, here, rest, sum_by-cons (λ (o : Option ℕ). cond (is_some o) 1 0) k ks, sum_by-cons (λ (o : Place). cond (is_some o) 1 0) (place_under held k) (by_ticket ks held))

  -- a free ticket finds a slot
  pub room-for : (n : ℕ) → slice_get (by_ticket keys held) n ≡ Some None → slab_len slots + 1 ≤ slots.capacity
  room-for n free =
      let more = count-put keys n 0 (free-within n free) (free-ticket n free) in
      let few = count_by-le-length is_some (set keys n (Some 0)) in
      let long = length-set keys n (Some 0) in
      omega (arith, more, few, long, a.count, a.room)

  -- under a vacant key nothing is held
  pub vacant-place : (k : ℕ) → get slots k ≡ None → k < slots.capacity → slice_get held k ≡ Some None
  vacant-place k vacant lt = read held k None (omega (arith, lt, a.places)) (by (get_or held k None) refl)
    where
      by : (p : Place) → get_or held k None ≡ p → get_or held k None ≡ None
      by None e = e
      by (Some s) e = absurd (true≢false (sym (ap is_some e) ∙ a.has_send k ∙ ap is_some vacant))

  -- a send is put under a vacant key
  module _ (n : ℕ) (free : slice_get (by_ticket keys held) n ≡ Some None) (k : ℕ) (vacant : get slots k ≡ None) (lt : k < slots.capacity)
      (after : Slab ℕ) (updates : Updates slots after k (Some n)) (len : slab_len after ≡ slab_len slots + 1) (capacity : after.capacity ≡ slots.capacity) (e : Token × List ℕ) where
    put-slot : (ticket key : ℕ) → get_or (set keys n (Some k)) ticket None ≡ Some key → get after key ≡ Some ticket
    put-slot ticket key at =
        elim (cases_eq ticket n) [
          | inl same ↦
              let key-is : key ≡ k = same_Some key k (sym at ∙ ap (λ (t : ℕ). get_or (set keys n (Some k)) t None) same ∙ get_or-set_same keys n (Some k) None (free-within n free)) in
              ap (get after) key-is ∙ updates.changed ∙ ap Some (sym same)
          | inr differs ↦
              let before : get slots key ≡ Some ticket = a.has_slot ticket key (sym (get_or-set_other keys n ticket (Some k) None differs) ∙ at) in
              updates.others key (λ (same : key ≡ k). none-some ticket (sym vacant ∙ ap (get slots) (sym same) ∙ before)) ∙ before
        ]

    put-key : (ticket key : ℕ) → get after key ≡ Some ticket → get_or (set keys n (Some k)) ticket None ≡ Some key
    put-key ticket key at =
        elim (cases_eq key k) [
          | inl same ↦
              let ticket-is : ticket ≡ n = same_Some ticket n (sym at ∙ ap (get after) same ∙ updates.changed) in
              ap (λ (t : ℕ). get_or (set keys n (Some k)) t None) ticket-is ∙ get_or-set_same keys n (Some k) None (free-within n free) ∙ ap Some (sym same)
          | inr differs ↦
              let before : get_or keys ticket None ≡ Some key = a.has_key ticket key (sym (updates.others key differs) ∙ at) in
              get_or-set_other keys n ticket (Some k) None (λ (same : ticket ≡ n). none-some key (sym (free-ticket n free) ∙ ap (λ (t : ℕ). get_or keys t None) (sym same) ∙ before)) ∙ before
        ]

    put-send : (key : ℕ) → is_some (get_or (set held k (Some e)) key None) ≡ is_some (get after key)
    put-send key =
        elim (cases_eq key k) [
          | inl same ↦
              ap (λ (j : ℕ). is_some (get_or (set held k (Some e)) j None)) same ∙ ap is_some (get_or-set_same held k (Some e) None (omega (arith, lt, a.places))) ∙ sym (ap is_some (ap (get after) same ∙ updates.changed))
          | inr differs ↦
              ap is_some (get_or-set_other held k key (Some e) None differs) ∙ a.has_send key ∙ sym (ap is_some (updates.others key differs))
        ]

    pub put-keeps : AreSlots after (set keys n (Some k)) (set held k (Some e))
    put-keeps =
        record {
          has_slot = put-slot;
          has_key = put-key;
          has_send = put-send;
          count = omega (arith, len, a.count, count-put keys n k (free-within n free) (free-ticket n free));
          places = length-set held k (Some e) ∙ a.places ∙ sym capacity;
          room = omega (arith, length-set keys n (Some k), a.room, capacity);
        }

    pub put-seen : by_ticket (set keys n (Some k)) (set held k (Some e)) ≡ set (by_ticket keys held) n (Some e)
    put-seen =
        let put : List Place = set held k (Some e) in
        key-set keys put n (Some k)
        ∙ ap (λ (p : Place). set (by_ticket keys put) n p) (get_or-set_same held k (Some e) None (omega (arith, lt, a.places)))
        ∙ ap (λ (ps : List Place). set ps n (Some e)) (place-set keys held k (Some e) (λ m at. none-some m (sym vacant ∙ a.has_slot m k at)))

  -- the send of a ticket is taken
  module _ (n k : ℕ) (at : get_or keys n None ≡ Some k) where
    pub taken-place : is_held (slice_get held k) ≡ true
    taken-place = held-at held k ∙ sent-under n k at

    pub taken-send : (e : Token × List ℕ) → slice_get held k ≡ Some (Some e) → slice_get (by_ticket keys held) n ≡ Some (Some e)
    taken-send e here =
        let inside : n < length keys = within keys n (ap is_some at) in
        read (by_ticket keys held) n (Some e) (omega (arith, inside, length-by_ticket keys held))
        (place-of keys held n ∙ ap (place_under held) at ∙ get_or_from_slice_get held k (Some e) None here)

    module _ (after : Slab ℕ) (updates : Updates slots after k None) (len : slab_len after + 1 ≡ slab_len slots) (capacity : after.capacity ≡ slots.capacity) where
      take-slot : (ticket key : ℕ) → get_or (set keys n None) ticket None ≡ Some key → get after key ≡ Some ticket
      take-slot ticket key has =
          elim (cases_eq ticket n) [
            | inl same ↦
                absurd (none-some key (sym (get_or-set_same keys n None None (within keys n (ap is_some at))) ∙ ap (λ (t : ℕ). get_or (set keys n None) t None) (sym same) ∙ has))
            | inr differs ↦
                let before : get slots key ≡ Some ticket = a.has_slot ticket key (sym (get_or-set_other keys n ticket None None differs) ∙ has) in
                updates.others key (λ (same : key ≡ k). differs (same_Some ticket n (sym before ∙ ap (get slots) same ∙ a.has_slot n k at))) ∙ before
          ]

      take-key : (ticket key : ℕ) → get after key ≡ Some ticket → get_or (set keys n None) ticket None ≡ Some key
      take-key ticket key has =
          elim (cases_eq key k) [
            | inl same ↦ absurd (none-some ticket (sym updates.changed ∙ ap (get after) (sym same) ∙ has))
            | inr differs ↦
                let before : get_or keys ticket None ≡ Some key = a.has_key ticket key (sym (updates.others key differs) ∙ has) in
                get_or-set_other keys n ticket None None (λ (same : ticket ≡ n). differs (same_Some key k (sym before ∙ ap (λ (t : ℕ). get_or keys t None) same ∙ at))) ∙ before
          ]

      take-send : (key : ℕ) → is_some (get_or (set held k None) key None) ≡ is_some (get after key)
      take-send key =
          elim (cases_eq key k) [
            | inl same ↦
                let inside : k < length held = within held k (sent-under n k at) in
                ap (λ (j : ℕ). is_some (get_or (set held k None) j None)) same ∙ ap is_some (get_or-set_same held k None None inside) ∙ sym (ap is_some (ap (get after) same ∙ updates.changed))
            | inr differs ↦
                ap is_some (get_or-set_other held k key None None differs) ∙ a.has_send key ∙ sym (ap is_some (updates.others key differs))
          ]

      pub take-keeps : AreSlots after (set keys n None) (set held k None)
      take-keeps =
          record {
            has_slot = take-slot;
            has_key = take-key;
            has_send = take-send;
            count = let fewer = count-take keys n k (within keys n (ap is_some at)) at in omega (arith, len, a.count, fewer);
            places = length-set held k None ∙ a.places ∙ sym capacity;
            room = omega (arith, length-set keys n None, a.room, capacity);
          }

      pub take-seen : by_ticket (set keys n None) (set held k None) ≡ set (by_ticket keys held) n None
      take-seen =
          place-set (set keys n None) held k None (λ m has. none-some m (sym updates.changed ∙ take-slot m k has)) ∙ key-set keys held n None

  -- where each place is free nothing is held
  pub none-held : AreFree (by_ticket keys held) → AreFree held
  none-held free = free-all held (λ k. by k (get_or held k None) refl)
    where
      empty : (n k : ℕ) → get_or keys n None ≡ Some k → get_or held k None ≡ None
      empty n k at = ap (place_under held) (sym at) ∙ sym (place-of keys held n) ∙ free-get (by_ticket keys held) n free

      slot : (k : ℕ) (s : Option ℕ) → get slots k ≡ s → is_some (get slots k) ≡ true → get_or held k None ≡ None
      slot k None e some = absurd (true≢false (sym some ∙ ap is_some e))
      slot k (Some n) e some = empty n k (a.has_key n k e)

      by : (k : ℕ) (p : Place) → get_or held k None ≡ p → get_or held k None ≡ None
      by k None e = e
      by k (Some s) e = slot k (get slots k) refl (sym (a.has_send k) ∙ ap is_some e)

-- the places before one are free, so its send is the first
first-held : (ps : List Place) (n : ℕ) (e : Token × List ℕ) → slice_get ps n ≡ Some (Some e) → AreFree (take n ps) → held_in ps ≡ e ∷ held_in (set ps n None)
first-held [] n e here free = cc
first-held (None ∷ ps) zero e here free = cc
first-held (Some s ∷ ps) zero e here free = let it : s ≡ e = cc in ap (λ (x : Token × List ℕ). x ∷ held_in ps) it
first-held (None ∷ ps) (suc n) e here free = first-held ps n e here free.1
first-held (Some s ∷ ps) (suc n) e here free = absurd (none-some s (sym free.0))

-- so it is listed next
pub listed-next : (listed more all : List (Token × List ℕ)) (ps after : List Place) (n : ℕ) (e : Token × List ℕ) → listed ++ held_in ps ≡ all → slice_get ps n ≡ Some (Some e) → AreFree (take n ps)
    → after ≡ set ps n None → more ≡ listed ++ e ∷ [] → more ++ held_in after ≡ all
listed-next listed more all ps after n e so-far here free taken pushed =
    ap (λ (l : List (Token × List ℕ)). l ++ held_in after) pushed ∙ append_assoc listed (e ∷ []) (held_in after)
    ∙ ap (λ (l : List (Token × List ℕ)). listed ++ e ∷ l) (ap held_in taken)
    ∙ ap (λ (l : List (Token × List ℕ)). listed ++ l) (sym (first-held ps n e here free)) ∙ so-far

-- once it is taken, it is free too
taken-free : (ps : List Place) (n : ℕ) → AreFree (take n ps) → AreFree (take (suc n) (set ps n None))
taken-free [] n free = tt
taken-free (p ∷ ps) zero free = (refl, tt)
taken-free (p ∷ ps) (suc n) free = (free.0, taken-free ps n free.1)

pub free-taken : (ps after : List Place) (n : ℕ) → AreFree (take n ps) → after ≡ set ps n None → AreFree (take (n + 1) after)
free-taken ps after n free taken =
    let next : suc n ≡ n + 1 = omega arith in
    subst (λ (l : List Place). AreFree (take (n + 1) l)) (sym taken) (subst (λ (k : ℕ). AreFree (take k (set ps n None))) next (taken-free ps n free))

-- and so is one without a send
passed-free : (ps : List Place) (n : ℕ) → AreFree (take n ps) → is_held (slice_get ps n) ≡ false → AreFree (take (suc n) ps)
passed-free [] n free none = tt
passed-free (None ∷ ps) zero free none = (refl, tt)
passed-free (Some s ∷ ps) zero free none = absurd (true≢false none)
passed-free (p ∷ ps) (suc n) free none = (free.0, passed-free ps n free.1 none)

pub free-passed : (ps after : List Place) (n : ℕ) → AreFree (take n ps) → is_held (slice_get ps n) ≡ false → after ≡ ps → AreFree (take (n + 1) after)
free-passed ps after n free none same =
    let next : suc n ≡ n + 1 = omega arith in
    subst (λ (l : List Place). AreFree (take (n + 1) l)) (sym same) (subst (λ (k : ℕ). AreFree (take k ps)) next (passed-free ps n free none))

-- in the end all are free, and hold nothing
pub all-free : (ps : List Place) (n : ℕ) → length ps ≤ n → AreFree (take n ps) → AreFree ps
all-free ps n le free = subst (λ (l : List Place). AreFree l) (take_all n ps le) free

free-held : (ps : List Place) → AreFree ps → held_in ps ≡ []
free-held [] free = refl
free-held (None ∷ ps) free = free-held ps free.1
free-held (Some s ∷ ps) free = absurd (none-some s (sym free.0))

pub listed-all : (listed all : List (Token × List ℕ)) (ps : List Place) → AreFree ps → listed ++ held_in ps ≡ all → listed ≡ all
listed-all listed all ps free so-far =
    sym (append-nil listed) ∙ ap (λ (l : List (Token × List ℕ)). listed ++ l) (sym (free-held ps free)) ∙ so-far
