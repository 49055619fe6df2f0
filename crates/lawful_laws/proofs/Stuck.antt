-- Lawful traffic isn't stuck: a packet that can't go on waits for a channel of a greater number.
use Rattle.std.proofs.Common.{◌≡◌, ◌<◌, ◌≤◌, ◌+◌, ℕ, zero, suc, Bool, true, false, List, [], ◌∷◌, ◌++◌, length, get_or, set, Option, Some, None, IsSome, refl, sym, ap, ◌∙◌, subst, arith, true≢false, ⊎_elim}
use Rattle.std.specs.List.{slice_get, AllByRecursion}
use Rattle.std.proofs.lemmas.Bool.{cases_lt}
use Rattle.std.proofs.lemmas.Option.{same_Some}
use Rattle.net_defs.specs.declared.route.Route.{Route}
use Rattle.world_defs.specs.History.{CableHistory, IsHistory, is_left}
use Rattle.world_defs.specs.Crossed.{channels_at, is_standing, is_new}
use Rattle.world_defs.proofs.Left.{left-fabric, left-passes}
use Rattle.net_defs.specs.Dependencies.{IsNext}
use Rattle.world_defs.specs.declared.moved.Course.{Course}
use Rattle.world_defs.specs.declared.moved.Course.TheVariants.{Arrives, Enters, Drops}
use Rattle.world_defs.specs.Links.{Held, LinkState, packet_in, emptied}
use Rattle.world_defs.specs.Advance.{course, entered, gone_on, advance_of, advance}
use Rattle.world_defs.specs.Hops.{changes, is_stuck}
use Rattle.world_defs.proofs.HopsLeft.{still-advance}
use Rattle.world_defs.proofs.Idling.{stuck-still}
use Rattle.lawful_laws.proofs.Ahead.{IsLedBy, ahead-two, next-stands}

-- a packet that can't go on: the channel that it wants next is full
record IsBlocked (s : LinkState) (c : ℕ) (held : Held) : Type 0 where
  next : ℕ
  wants : course s.cables c held.wire ≡ Enters next
  other : Held
  full : packet_in s next ≡ Some other

was_full : (ps : List (Option Held)) (c d : ℕ) (held : Held) → get_or (set ps c None) d None ≡ Some held → get_or ps d None ≡ Some held
was_full [] c d held e = e
was_full (p ∷ ps) zero zero held e = cc
was_full (p ∷ ps) zero (suc d) held e = e
was_full (p ∷ ps) (suc c) zero held e = e
was_full (p ∷ ps) (suc c) (suc d) held e = was_full ps c d held e

entered-blocked : (s : LinkState) (c : ℕ) (held : Held) (next : ℕ) (o : Option Held) → course s.cables c held.wire ≡ Enters next → packet_in (emptied s c) next ≡ o → changes (entered s c held next o).0 ≡ false → IsBlocked s c held
entered-blocked s c held next None e d m = absurd (true≢false m)
entered-blocked s c held next (Some other) e d m = record { next = next; wants = e; other = other; full = was_full s.channels c next other d }

gone_on-blocked : (s : LinkState) (c : ℕ) (held : Held) (to : Course) → course s.cables c held.wire ≡ to → changes (gone_on s c held to).0 ≡ false → IsBlocked s c held
gone_on-blocked s c held (Arrives h) e m = absurd (true≢false m)
gone_on-blocked s c held (Enters next) e m = entered-blocked s c held next (packet_in (emptied s c) next) e refl m
gone_on-blocked s c held (Drops why) e m = absurd (true≢false m)

still-blocked : (s : LinkState) (c : ℕ) (held : Held) → packet_in s c ≡ Some held → changes (advance s c).0 ≡ false → IsBlocked s c held
still-blocked s c held e m = gone_on-blocked s c held (course s.cables c held.wire) refl (ap (λ o. changes (advance_of s c o).0) (sym e) ∙ m)

-- two channels next to each other ahead of a packet are so in its route
next-in : (c d : ℕ) (behind more : List ℕ) → IsNext c d (behind ++ c ∷ d ∷ more)
next-in c d [] more = IsNext.here
next-in c d (b ∷ behind) more = IsNext.later (next-in c d behind more)

-- numbers that rise along channels
abbrev pub RisesAlong : (ℕ → ℕ) → List ℕ → Type 0
RisesAlong number cs = (c d : ℕ) → IsNext c d cs → number c < number d

-- numbers that rise along the routes of a set, as the fabric stood when the cables were accepted
abbrev pub RisesOver : CableHistory → (ℕ → ℕ) → List Route → Type 0
RisesOver h number routes = AllByRecursion (λ r. RisesAlong number (channels_at h h.accepted r.from r.walk)) routes

route-rises : (P : Route → Type 0) (routes : List Route) (place : ℕ) (r : Route) → AllByRecursion P routes → slice_get routes place ≡ Some r → P r
route-rises P [] place r all e = cc
route-rises P (x ∷ routes) zero r all e = subst P (same_Some x r e) all.0
route-rises P (x ∷ routes) (suc place) r all e = route-rises P routes place r all.1 e

-- a packet that a route leads, and that goes into no new cable
pub record MayGo (h : CableHistory) (routes : List Route) (c : ℕ) (wire : List ℕ) : Type 0 where
  pub stands : is_standing h c ≡ true
  pub led : IsLedBy h routes c wire
  pub old : (next : ℕ) → course h c wire ≡ Enters next → is_new h next ≡ false

led-above : (h : CableHistory) (routes : List Route) (number : ℕ → ℕ) (c : ℕ) (wire : List ℕ) (next : ℕ) → IsHistory h → RisesOver h number routes → MayGo h routes c wire → course h c wire ≡ Enters next → number c < number next
led-above h routes number c wire next is rises m e =
    let l = m.led in
    let here = left-passes h c m.stands l.accepted in
    let there = left-passes h next (next-stands h c wire next e) (m.old next e) in
    let two = ahead-two h (is_left h) (left-fabric h is) c wire next here e there in
    let whole : channels_at h h.accepted l.route.from l.route.walk ≡ l.behind ++ (c ∷ next ∷ (two.0 ++ l.beyond)) = l.within ∙ ap (λ x. l.behind ++ (x ++ l.beyond)) two.1 in
    let next_to : IsNext c next (channels_at h h.accepted l.route.from l.route.walk) = subst (IsNext c next) (sym whole) (next-in c next l.behind (two.0 ++ l.beyond)) in
    route-rises (λ r. RisesAlong number (channels_at h h.accepted r.from r.walk)) routes l.place l.route rises l.there c next next_to

-- a number that no channel below a bound goes beyond
abbrev top : (ℕ → ℕ) → ℕ → ℕ
top number zero = 0
top number (suc k) = number k + top number k

below_top : (number : ℕ → ℕ) (k c : ℕ) → c < k → number c ≤ top number k
below_top number zero c low = absurd (omega (arith, low))
below_top number (suc k) c low =
    ⊎_elim (λ l. let h = below_top number k c l in omega (arith, h)) (λ l. let same : k ≡ c = omega (arith, l, low) in let e : number k ≡ number c = ap number same in omega (arith, e)) (cases_lt c k)

full-low : (ps : List (Option Held)) (c : ℕ) (held : Held) → get_or ps c None ≡ Some held → c < length ps
full-low [] c held e = cc
full-low (p ∷ ps) zero held e = omega arith
full-low (p ∷ ps) (suc c) held e = let h = full-low ps c held e in omega (arith, h)

-- a full channel of a greater number
pub record IsFurther (s : LinkState) (number : ℕ → ℕ) (c : ℕ) : Type 0 where
  pub next : ℕ
  pub other : Held
  pub full : packet_in s next ≡ Some other
  pub above : number c < number next

-- numbers can't rise on and on
no_climb : (s : LinkState) (number : ℕ → ℕ) → ((c : ℕ) (held : Held) → packet_in s c ≡ Some held → IsFurther s number c) → (k c : ℕ) (held : Held) → packet_in s c ≡ Some held → top number (length s.channels) ≤ number c + k → ⊥
no_climb s number step zero c held e high =
    let x = step c held e in
    let more : number c < number x.next = x.above in
    let low : number x.next ≤ top number (length s.channels) = below_top number (length s.channels) x.next (full-low s.channels x.next x.other x.full) in
    omega (arith, more, low, high)
no_climb s number step (suc k) c held e high =
    let x = step c held e in
    let more : number c < number x.next = x.above in
    no_climb s number step k x.next x.other x.full (omega (arith, more, high))

some-packet : (o : Option Held) → IsSome o → (held : Held) × (o ≡ Some held)
some-packet None is = absurd (true≢false (sym is))
some-packet (Some held) is = (held, refl)

-- links whose packets are led by routes along which numbers rise
pub led-flows : (s : LinkState) (routes : List Route) (number : ℕ → ℕ) → IsHistory s.cables → RisesOver s.cables number routes
    → ((c : ℕ) (held : Held) → packet_in s c ≡ Some held → MayGo s.cables routes c held.wire) → is_stuck s ≡ false
led-flows s routes number history rises led = by (is_stuck s) refl
  where
    by : (t : Bool) → is_stuck s ≡ t → is_stuck s ≡ false
    by false e = e
    by true e =
        let x = stuck-still s e in
        let p = some-packet (packet_in s x.0.0) x.0.1 in
        let step : (c : ℕ) (held : Held) → packet_in s c ≡ Some held → IsFurther s number c = λ c held full.
        let b = still-blocked s c held full (still-advance s c (x.1 c)) in
        record { next = b.next; other = b.other; full = b.full; above = led-above s.cables routes number c held.wire b.next history rises (led c held full) b.wants } in
        absurd (no_climb s number step (top number (length s.channels)) x.0.0 p.0 p.1 (omega arith))
