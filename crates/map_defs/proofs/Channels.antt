-- The channels that a route crosses, one after the other.
use Rattle.std.proofs.Common.{◌≡◌, List, [], ◌∷◌, ◌++◌, map, Bool, true, false, not, Option, Some, None, sym, ◌∙◌, subst, ap, refl, ◌⊎◌, inl, inr, if◌then◌else◌}
use Rattle.std.specs.Prelude.{ℤ, ◌+ℤ◌, option_and_then, option_map, option_to_list}
use Rattle.std.specs.List.{list_all}
use Rattle.std.proofs.lemmas.Bool.{false≢true, and_parts, and_from}
use Rattle.journal_defs.proofs.Members.{IsMember}
use Rattle.map_defs.specs.NetMap.{NetMap, MapPort, map_far, is_switch_vertex}
use Rattle.map_defs.specs.Routing.{next_port, turned_to, channel_at, channels_on, no_up_after_down}
use Rattle.net_defs.specs.Dependencies.{IsNext}
use Rattle.net_defs.specs.Dependencies.IsNext.{here, later}

-- where a packet goes from a port: over the cable there, then by a turn
pub record Onward (m : NetMap) (d : MapPort) (t : ℤ) (x : MapPort) : Type 0 where
  pub entered : MapPort
  pub far : map_far m d ≡ Some entered
  pub switch : is_switch_vertex m entered.v ≡ true
  pub leaves : x ≡ record { v = entered.v; p = entered.p +ℤ t }

pub next-onward : (m : NetMap) (d x : MapPort) (t : ℤ) → next_port m d t ≡ Some x → Onward m d t x
next-onward m d x t e = by (map_far m d) refl e
  where
    switch : (y : MapPort) (b : Bool) → is_switch_vertex m y.v ≡ b → map_far m d ≡ Some y → (if b then Some (record { v = y.v; p = y.p +ℤ t }) else None) ≡ Some x → Onward m d t x
    switch y true s f g = record { entered = y; far = f; switch = s; leaves = (let one : ◌≡◌ {A = MapPort} (record { v = y.v; p = y.p +ℤ t }) x = cc in sym one) }
    switch y false s f g = cc

    by : (o : Option MapPort) → map_far m d ≡ o → option_and_then (λ y. turned_to m y t) o ≡ Some x → Onward m d t x
    by None f g = cc
    by (Some y) f g = switch y (is_switch_vertex m y.v) refl f g

pub onward-next : (m : NetMap) (d x : MapPort) (t : ℤ) → Onward m d t x → next_port m d t ≡ Some x
onward-next m d x t o = rw (o.far, o.switch) (ap Some (sym o.leaves))

-- a cabled port is its own channel
pub channel-one : (m : NetMap) (d e : MapPort) → map_far m d ≡ Some e → channel_at m d ≡ d ∷ []
channel-one m d e f = ap (λ o. option_to_list (option_map (λ x. d) o)) f

pub channel-none : (m : NetMap) (d : MapPort) → map_far m d ≡ None → channel_at m d ≡ []
channel-none m d f = ap (λ o. option_to_list (option_map (λ x. d) o)) f

-- the channels from a port on, at the end of a route: the port's own, where it is cabled
pub data Ending (m : NetMap) (d : MapPort) : List MapPort → Type 0 where
  uncabled : map_far m d ≡ None → Ending m d []
  ends : {e : MapPort} → map_far m d ≡ Some e → Ending m d (d ∷ [])

-- and where a turn follows: the port's own, then those from the next port on
pub data Crossed (m : NetMap) (d : MapPort) (t : ℤ) (ts : List ℤ) : List MapPort → Type 0 where
  unled : map_far m d ≡ None → Crossed m d t ts []
  stops : {e : MapPort} → map_far m d ≡ Some e → next_port m d t ≡ None → Crossed m d t ts (d ∷ [])
  goes : {x : MapPort} → Onward m d t x → Crossed m d t ts (d ∷ channels_on m (Some x) ts)

next-none : (m : NetMap) (d : MapPort) (t : ℤ) → map_far m d ≡ None → next_port m d t ≡ None
next-none m d t f = ap (option_and_then (λ e. turned_to m e t)) f

pub ending : (m : NetMap) (d : MapPort) → Ending m d (channel_at m d)
ending m d = by (map_far m d) refl
  where
    by : (o : Option MapPort) → map_far m d ≡ o → Ending m d (channel_at m d)
    by None f = subst (Ending m d) (sym (channel-none m d f)) (uncabled f)
    by (Some e) f = subst (Ending m d) (sym (channel-one m d e f)) (ends f)

pub crossed : (m : NetMap) (d : MapPort) (t : ℤ) (ts : List ℤ) → Crossed m d t ts (channels_on m (Some d) (t ∷ ts))
crossed m d t ts = by (map_far m d) (next_port m d t) refl refl
  where
    by : (o p : Option MapPort) → map_far m d ≡ o → next_port m d t ≡ p → Crossed m d t ts (channel_at m d ++ channels_on m p ts)
    by None None f g = subst (λ l. Crossed m d t ts (l ++ [])) (sym (channel-none m d f)) (unled f)
    by None (Some x) f g = let none = next-none m d t f in cc
    by (Some e) None f g = subst (λ l. Crossed m d t ts (l ++ [])) (sym (channel-one m d e f)) (stops f g)
    by (Some e) (Some x) f g = subst (λ l. Crossed m d t ts (l ++ channels_on m (Some x) ts)) (sym (channel-one m d e f)) (goes (next-onward m d x t g))

-- the first channel is the port's own
starts : (m : NetMap) (d c : MapPort) (turns : List ℤ) (rest : List MapPort) → channels_on m (Some d) turns ≡ c ∷ rest → d ≡ c
starts m d c [] rest e = by (channel_at m d) (ending m d) e
  where
    by : (l : List MapPort) → Ending m d l → l ≡ c ∷ rest → d ≡ c
    by l (uncabled f) g = cc
    by l (ends f) g = cc
starts m d c (t ∷ ts) rest e = by (channels_on m (Some d) (t ∷ ts)) (crossed m d t ts) e
  where
    by : (l : List MapPort) → Crossed m d t ts l → l ≡ c ∷ rest → d ≡ c
    by l (unled f) g = cc
    by l (stops f n) g = cc
    by l (goes o) g = cc

-- the first of two neighbouring channels, or a later pair
record Pair (b : MapPort) (l : List MapPort) (c d : MapPort) : Type 0 where
  pub first : b ≡ c
  pub rest : List MapPort
  pub second : l ≡ d ∷ rest

next-cases : (b c d : MapPort) (l : List MapPort) → IsNext c d (b ∷ l) → Pair b l c d ⊎ IsNext c d l
next-cases b c d l (here {cs = cs}) = inl (record { first = refl; rest = cs; second = refl })
next-cases b c d l (later n) = inr n

not_next : (c d : MapPort) → ¬ IsNext c d []
not_next c d n = elim n [ ]

-- of two neighbouring channels the second leaves the vertex that the first enters
pub record Passes (m : NetMap) (c d : MapPort) : Type 0 where
  pub entered : MapPort
  pub far : map_far m c ≡ Some entered
  pub vertex : d.v ≡ entered.v

pub next-passes : (m : NetMap) (d : MapPort) (turns : List ℤ) (b c : MapPort) → IsNext b c (channels_on m (Some d) turns) → Passes m b c
next-passes m d [] b c n = by (channel_at m d) (ending m d) n
  where
    by : (l : List MapPort) → Ending m d l → IsNext b c l → Passes m b c
    by l (uncabled f) k = absurd (not_next b c k)
    by l (ends f) k = two (next-cases d b c [] k)
      where
        two : Pair d [] b c ⊎ IsNext b c [] → Passes m b c
        two (inl p) = let none = p.second in cc
        two (inr k) = absurd (not_next b c k)
next-passes m d (t ∷ ts) b c n = by (channels_on m (Some d) (t ∷ ts)) (crossed m d t ts) n (λ x k. next-passes m x ts b c k)
  where
    two : Pair d [] b c ⊎ IsNext b c [] → Passes m b c
    two (inl p) = let none = p.second in cc
    two (inr k) = absurd (not_next b c k)

    three : (x : MapPort) → Onward m d t x → (IsNext b c (channels_on m (Some x) ts) → Passes m b c) → Pair d (channels_on m (Some x) ts) b c ⊎ IsNext b c (channels_on m (Some x) ts) → Passes m b c
    three x o rest (inl p) =
        let at : x ≡ c = starts m x c ts p.rest p.second in
        record { entered = o.entered; far = ap (map_far m) (sym p.first) ∙ o.far; vertex = ap (λ (z : MapPort). z.v) (sym at) ∙ ap (λ (z : MapPort). z.v) o.leaves }
    three x o rest (inr k) = rest k

    by : (l : List MapPort) → Crossed m d t ts l → IsNext b c l → ((x : MapPort) → IsNext b c (channels_on m (Some x) ts) → Passes m b c) → Passes m b c
    by l (unled f) k rest = absurd (not_next b c k)
    by l (stops f g) k rest = two (next-cases d b c [] k)
    by l (goes {x = x} o) k rest = three x o (rest x) (next-cases d b c (channels_on m (Some x) ts) k)

-- each channel that is crossed is cabled
pub crossed-cabled : (m : NetMap) (d : MapPort) (turns : List ℤ) (c : MapPort) → IsMember c (channels_on m (Some d) turns) → (e : MapPort) × (map_far m c ≡ Some e)
crossed-cabled m d [] c i = by (channel_at m d) (ending m d) i
  where
    by : (l : List MapPort) → Ending m d l → IsMember c l → (e : MapPort) × (map_far m c ≡ Some e)
    by l (uncabled f) k = absurd k
    by l (ends {e = e} f) (inl p) = (e, ap (map_far m) p ∙ f)
    by l (ends {e = e} f) (inr k) = absurd k
crossed-cabled m d (t ∷ ts) c i = by (channels_on m (Some d) (t ∷ ts)) (crossed m d t ts) i (λ x k. crossed-cabled m x ts c k)
  where
    by : (l : List MapPort) → Crossed m d t ts l → IsMember c l → ((x : MapPort) → IsMember c (channels_on m (Some x) ts) → (e : MapPort) × (map_far m c ≡ Some e)) → (e : MapPort) × (map_far m c ≡ Some e)
    by l (unled f) k rest = absurd k
    by l (stops {e = e} f g) (inl p) rest = (e, ap (map_far m) p ∙ f)
    by l (stops {e = e} f g) (inr k) rest = absurd k
    by l (goes {x = x} o) (inl p) rest = (o.entered, ap (map_far m) p ∙ o.far)
    by l (goes {x = x} o) (inr k) rest = rest x k

-- two neighbours are members
pub next-members : {C : Type 0} (c d : C) (l : List C) → IsNext c d l → IsMember c l × IsMember d l
next-members c d l (here {cs = cs}) = (inl refl, inr (inl refl))
next-members c d l (later {b = b} {cs = cs} n) = let two = next-members c d cs n in (inr two.0, inr two.1)

-- what is left of a list when some elements are taken out
pub data Sub {C : Type 0} : List C → List C → Type 0 where
  none : Sub [] []
  keep : {c : C} {xs ys : List C} → Sub xs ys → Sub (c ∷ xs) (c ∷ ys)
  drop : {c : C} {xs ys : List C} → Sub xs ys → Sub xs (c ∷ ys)

pub sub-itself : {C : Type 0} (xs : List C) → Sub xs xs
sub-itself [] = none
sub-itself (x ∷ xs) = keep (sub-itself xs)

sub-none-up : {C : Type 0} (up : C → Bool) (xs ys : List C) → Sub xs ys → list_all not (map up ys) ≡ true → list_all not (map up xs) ≡ true
sub-none-up up xs ys (none) e = refl
sub-none-up up xs ys (keep {c = c} {xs = us} {ys = vs} s) e = let two = and_parts (not (up c)) (list_all not (map up vs)) e in and_from (not (up c)) (list_all not (map up us)) two.0 (sub-none-up up us vs s two.1)
sub-none-up up xs ys (drop {c = c} {xs = us} {ys = vs} s) e = sub-none-up up us vs s (and_parts (not (up c)) (list_all not (map up vs)) e).1

legal-after : (up : Bool) (ups : List Bool) → no_up_after_down (up ∷ ups) ≡ true → no_up_after_down ups ≡ true
legal-after true ups e = e
legal-after false ups e = downs ups e
  where
    downs : (us : List Bool) → list_all not us ≡ true → no_up_after_down us ≡ true
    downs [] e = refl
    downs (true ∷ us) e = absurd (false≢true e)
    downs (false ∷ us) e = e

-- a legal route stays so without some of its channels
pub sub-legal : {C : Type 0} (up : C → Bool) (xs ys : List C) → Sub xs ys → no_up_after_down (map up ys) ≡ true → no_up_after_down (map up xs) ≡ true
sub-legal up xs ys (none) e = refl
sub-legal up xs ys (keep {c = c} {xs = us} {ys = vs} s) e = by (up c) e (sub-legal up us vs s)
  where
    by : (b : Bool) → no_up_after_down (b ∷ map up vs) ≡ true → (no_up_after_down (map up vs) ≡ true → no_up_after_down (map up us) ≡ true) → no_up_after_down (b ∷ map up us) ≡ true
    by true f rest = rest f
    by false f rest = sub-none-up up us vs s f
sub-legal up xs ys (drop {c = c} {xs = us} {ys = vs} s) e = sub-legal up us vs s (legal-after (up c) (map up vs) e)

-- where the second of two neighbours is up, so is the first
pub legal-next : {C : Type 0} (up : C → Bool) (c d : C) (l : List C) → no_up_after_down (map up l) ≡ true → IsNext c d l → up d ≡ true → up c ≡ true
legal-next up c d l e (here {cs = cs}) u = by (up c) refl e
  where
    by : (b : Bool) → up c ≡ b → no_up_after_down (b ∷ up d ∷ map up cs) ≡ true → up c ≡ true
    by true p f = p
    by false p f = absurd (false≢true (sym (ap not u) ∙ (and_parts (not (up d)) (list_all not (map up cs)) f).0))
legal-next up c d l e (later {b = b} {cs = cs} n) u = legal-next up c d cs (legal-after (up b) (map up cs) e) n u
