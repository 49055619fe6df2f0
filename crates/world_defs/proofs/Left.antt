-- What is left of the fabric, and what is new, as cables come and go.
use Rattle.std.proofs.Common.{◌≡◌, ◌<◌, ◌≤◌, ◌+◌, ◌*◌, ◌/◌, ℕ, zero, suc, Bool, true, false, not, ◌&&◌, ◌||◌, nat_eq, nat_lt, nat_le, List, [], ◌∷◌, ◌++◌, length, Option, Some, None, is_none, refl, sym, ap, ◌∙◌, subst, true≢false, arith, ℤ, if◌then◌else◌}
use Rattle.std.specs.List.{list_any, filter, slice_get, slice_set, AllByRecursion}
use Rattle.std.specs.Option.{option_map_or}
use Rattle.std.proofs.lemmas.Bool.Decides.{nat_tests}
use Rattle.net_defs.specs.declared.vertex.End.{End}
use Rattle.net_defs.specs.Network.{IsFabric}
use Rattle.world_defs.specs.declared.wire.Wire.{Wire}
use Rattle.world_defs.specs.History.{CableHistory, IsHistory, fabric_by, fabric_left, stood_at, is_in_place, is_new_wire, is_left, was_plugged, may_plug, pulled_by, with_pulled, with_plugged}
use Rattle.world_defs.specs.Crossed.{channels_by, life_channels, is_standing, is_new, pulled_at}
use Rattle.world_defs.specs.Later.{OnlyPulled, IsLater}
use Rattle.world_defs.proofs.Fewer.{kept}
use Rattle.world_defs.proofs.Pulled.{left_stood, kept-push}
use Rattle.world_defs.proofs.CablesKept.{all-got, all-set, fewer-fabric}
use Rattle.world_defs.proofs.ForLife.{passes_at, got-push}
use Rattle.world_defs.proofs.CablesLater.{PullAt, pull_at-view, channel-push, channels-same, kept-pull, kept-plug}

-- what is left is a fabric
pub left-fabric : (h : CableHistory) → IsHistory h → IsFabric (fabric_left h)
left-fabric h is = fewer-fabric h h.wires h.changes (is_left h) (stood_at h.accepted) (left_stood h).wires (is.fabrics h.accepted)

-- a channel of a cable in place exists
pub standing-low : (h : CableHistory) (c : ℕ) → is_standing h c ≡ true → c < life_channels h
standing-low h c stands = let half : c / 2 < length h.wires = there h.wires (c / 2) stands in omega (arith, half)
  where
    there : (ws : List Wire) (i : ℕ) → option_map_or is_in_place (slice_get ws i) false ≡ true → i < length ws
    there [] i e = absurd (true≢false (sym e))
    there (w ∷ ws) zero e = omega arith
    there (w ∷ ws) (suc i) e = let low = there ws i e in omega (arith, low)

-- the cable of a channel in place that isn't new is left
pub left-passes : (h : CableHistory) (c : ℕ) → is_standing h c ≡ true → is_new h c ≡ false → passes_at (is_left h) h.wires c ≡ true
left-passes h c stands old = by (slice_get h.wires (c / 2)) stands old
  where
    by : (o : Option Wire) → option_map_or is_in_place o false ≡ true → option_map_or (is_new_wire h) o false ≡ false → option_map_or (is_left h) o false ≡ true
    by None s n = absurd (true≢false (sym s))
    by (Some w) s n = rw (s, n) refl

-- where no cable was plugged, none is new
pub unplugged-old : (h : CableHistory) (c : ℕ) → was_plugged h ≡ false → is_new h c ≡ false
unplugged-old h c none = by h.wires (c / 2) none
  where
    by : (ws : List Wire) (i : ℕ) → list_any (is_new_wire h) ws ≡ false → option_map_or (is_new_wire h) (slice_get ws i) false ≡ false
    by [] i e = refl
    by (w ∷ ws) zero e = first (is_new_wire h w) (list_any (is_new_wire h) ws) e
      where
        first : (a b : Bool) → (a || b) ≡ false → a ≡ false
        first true b e = absurd (true≢false e)
        first false b e = refl
    by (w ∷ ws) (suc i) e = by ws i (second (is_new_wire h w) (list_any (is_new_wire h) ws) e)
      where
        second : (a b : Bool) → (a || b) ≡ false → b ≡ false
        second true b e = absurd (true≢false e)
        second false b e = e

-- a pull leaves what was plugged
any-set : (F : Wire → Bool) (ws : List Wire) (k : ℕ) (v w : Wire) → slice_get ws k ≡ Some w → F v ≡ F w → list_any F (slice_set ws k v) ≡ list_any F ws
any-set F [] k v w is same = cc
any-set F (u ∷ ws) zero v w is same = let e : u ≡ w = cc in ap (λ b. b || list_any F ws) (same ∙ sym (ap F e))
any-set F (u ∷ ws) (suc k) v w is same = ap (λ b. F u || b) (any-set F ws k v w is same)

plugged-pull_at : {h g : CableHistory} → PullAt h g → was_plugged g ≡ was_plugged h
plugged-pull_at PullAt.none = refl
plugged-pull_at {h = h} (PullAt.takes k w there here) = any-set (is_new_wire h) h.wires k (record w { pulled = Some (h.changes + 1) }) w there refl

pub plugged-pull : (h : CableHistory) (e : End) → was_plugged (pulled_at h e) ≡ was_plugged h
plugged-pull h e = plugged-pull_at (pull_at-view h e)

-- and a plug plugs
any-last : (F : Wire → Bool) (ws : List Wire) (v : Wire) → F v ≡ true → list_any F (ws ++ v ∷ []) ≡ true
any-last F [] v on = rw on refl
any-last F (w ∷ ws) v on = by (F w) (any-last F ws v on)
  where
    by : (b : Bool) → list_any F (ws ++ v ∷ []) ≡ true → (b || list_any F (ws ++ v ∷ [])) ≡ true
    by true rest = refl
    by false rest = rest

pub plugged-plug : (h : CableHistory) (a b : End) → IsHistory h → was_plugged (with_plugged h a b) ≡ true
plugged-plug h a b is =
    let v : Wire = record { cable = record { a = a; b = b }; plugged = h.changes + 1; pulled = None } in
    let low = is.accepted in
    let new : is_new_wire h v ≡ true = grind (arith, nat_tests) in
    any-last (is_new_wire h) h.wires v new

-- a channel that stands after a change stood before it, where it was there
standing-pull_at : {h g : CableHistory} (c : ℕ) → PullAt h g → is_standing g c ≡ true → is_standing h c ≡ true
standing-pull_at c PullAt.none e = e
standing-pull_at {h = h} c (PullAt.takes k w there here) e = by h.wires k (c / 2) there e
  where
    v : Wire
    v = record w { pulled = Some (h.changes + 1) }

    by : (ws : List Wire) (k i : ℕ) → slice_get ws k ≡ Some w → option_map_or is_in_place (slice_get (slice_set ws k v) i) false ≡ true → option_map_or is_in_place (slice_get ws i) false ≡ true
    by [] k i is e = e
    by (u ∷ ws) zero zero is e = absurd (true≢false (sym e))
    by (u ∷ ws) zero (suc i) is e = e
    by (u ∷ ws) (suc k) zero is e = e
    by (u ∷ ws) (suc k) (suc i) is e = by ws k i is e

pub standing-before_pull : (h : CableHistory) (e : End) (c : ℕ) → is_standing (pulled_at h e) c ≡ true → is_standing h c ≡ true
standing-before_pull h e c stands = standing-pull_at c (pull_at-view h e) stands

pub standing-plug : (h : CableHistory) (a b : End) (c : ℕ) → c < life_channels h → is_standing (with_plugged h a b) c ≡ is_standing h c
standing-plug h a b c low =
    let v : Wire = record { cable = record { a = a; b = b }; plugged = h.changes + 1; pulled = None } in
    let half : c / 2 < length h.wires = omega (arith, low) in
    ap (λ o. option_map_or is_in_place o false) (got-push h.wires (c / 2) v half)

pub standing-before : {h g : CableHistory} (c : ℕ) → c < life_channels h → IsLater h g → is_standing g c ≡ true → is_standing h c ≡ true
standing-before c low IsLater.still e = e
standing-before {h = h} c low (IsLater.pulls at rest) e =
    let k = kept-pull h at in
    let more = k.channels in
    standing-before_pull h at c (standing-before c (omega (arith, low, more)) rest e)
standing-before {h = h} c low (IsLater.plugs a b may rest) e =
    let k = kept-plug h a b may in
    let more = k.channels in
    sym (standing-plug h a b c low) ∙ standing-before c (omega (arith, low, more)) rest e

-- a plug leaves what is left
pub left-plug : (h : CableHistory) (a b : End) (exit : Option End) (turns : List ℤ) → IsHistory h → channels_by (with_plugged h a b) (is_left (with_plugged h a b)) exit turns ≡ channels_by h (is_left h) exit turns
left-plug h a b exit turns is =
    let v : Wire = record { cable = record { a = a; b = b }; plugged = h.changes + 1; pulled = None } in
    let low = is.accepted in
    let new : nat_lt h.accepted (h.changes + 1) ≡ true = grind (arith, nat_tests) in
    let out : is_left h v ≡ false = ap not new in
    let same : kept (is_left h) (h.wires ++ v ∷ []) ≡ kept (is_left h) h.wires = kept-push (is_left h) h.wires v out in
    channels-same (with_plugged h a b) h (is_left h) (λ e. channel-push (is_left h) 0 h.wires v e out) (λ i. record { hosts = h.hosts; switches = h.switches; cables = same i }) exit turns

-- pulls leave the dates at which cables were plugged
pub pulled-unplugged : {h g : CableHistory} (made : ℕ) → OnlyPulled h g → AllByRecursion (λ w. nat_le w.plugged made ≡ true) h.wires → AllByRecursion (λ w. nat_le w.plugged made ≡ true) g.wires
pulled-unplugged made OnlyPulled.still all = all
pulled-unplugged {h = h} made (OnlyPulled.pulls at rest) all = pulled-unplugged made rest (by (pull_at-view h at))
  where
    P : Wire → Type 0
    P w = nat_le w.plugged made ≡ true

    by : {f : CableHistory} → PullAt h f → AllByRecursion P f.wires
    by PullAt.none = all
    by (PullAt.takes k w there here) = all-set P h.wires k (record w { pulled = Some (h.changes + 1) }) all (all-got P h.wires k w all there)

-- a pull leaves the channels of other cables in place
other-set : (ws : List Wire) (k i : ℕ) (v : Wire) → nat_eq k i ≡ false → slice_get (slice_set ws k v) i ≡ slice_get ws i
other-set [] k i v apart = refl
other-set (w ∷ ws) zero zero v apart = absurd (true≢false apart)
other-set (w ∷ ws) zero (suc i) v apart = refl
other-set (w ∷ ws) (suc k) zero v apart = refl
other-set (w ∷ ws) (suc k) (suc i) v apart = other-set ws k i v (let n : nat_eq k i ≡ false = grind (arith, nat_tests) in n)

pub standing-other : (h : CableHistory) (k c : ℕ) → nat_eq (c / 2) k ≡ false → is_standing (with_pulled h k) c ≡ is_standing h c
standing-other h k c apart = by (slice_get h.wires k)
  where
    turned : nat_eq k (c / 2) ≡ false
    turned = grind (arith, nat_tests)

    by : (o : Option Wire) → is_standing (pulled_by h k o) c ≡ is_standing h c
    by None = refl
    by (Some w) = ap (λ o. option_map_or is_in_place o false) (other-set h.wires k (c / 2) (record w { pulled = Some (h.changes + 1) }) turned)
