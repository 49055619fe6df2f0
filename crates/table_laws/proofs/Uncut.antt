-- A walk that crosses no cable that was pulled since the acceptance ends where it ended then.
use Rattle.std.proofs.Common.{◌≡◌, ℕ, Bool, true, false, not, ◌&&◌, ◌||◌, ◌/◌, nat_le, nat_lt, ℤ, List, [], ◌∷◌, ◌++◌, Option, Some, None, option_map, refl, sym, ap, ◌∙◌, subst, arith, true≢false}
use Rattle.std.specs.Prelude.{option_and_then, option_to_list, slice_get}
use Rattle.std.specs.List.{AllByRecursion, list_any}
use Rattle.std.specs.Option.{option_map_or}
use Rattle.std.proofs.lemmas.Bool.Decides.{nat_tests}
use Rattle.net_defs.specs.declared.vertex.Vertex.{Vertex}
use Rattle.net_defs.specs.declared.vertex.Vertex.TheVariants.{Host, Switch}
use Rattle.net_defs.specs.declared.vertex.End.{End}
use Rattle.net_defs.specs.declared.place.Place.TheVariants.{Host as AtHost, Nothing as Stuck}
use Rattle.net_defs.specs.Network.{Network, ports_of, far}
use Rattle.net_defs.specs.Route.{exit_at, turned, entered_after, place, place_at, leaving_port, host_port, next_exit}
use Rattle.net_defs.proofs.Ends.{both}
use Rattle.world_defs.specs.declared.wire.Wire.{Wire}
use Rattle.world_defs.specs.History.{CableHistory, IsHistory, fabric_at, fabric_now, stood_at, is_in_place}
use Rattle.world_defs.specs.Crossed.{channel_by, channels_by, channels_at, leaving, is_new, is_cut}
use Rattle.world_defs.proofs.Fewer.{none-far}
use Rattle.world_defs.proofs.ForLife.{leaving_over, leaving_has_its_end, standing_leaves}

-- a cable that stood at the acceptance, and wasn't pulled since, is in place and isn't new
kept-second : (a b : Bool) → a ≡ true → (a && not b) ≡ false → b ≡ true
kept-second true true e f = refl
kept-second true false e f = absurd (true≢false f)
kept-second false b e f = absurd (true≢false (sym e))

stood-still : (accepted : ℕ) (o : Option Wire) → option_map_or (stood_at accepted) o false ≡ true → option_map_or (λ w. stood_at accepted w && not (is_in_place w)) o false ≡ false
    → (option_map_or is_in_place o false ≡ true) × (option_map_or (λ w. nat_lt accepted w.plugged) o false ≡ false)
stood-still accepted None s n = absurd (true≢false (sym s))
stood-still accepted (Some w) s n =
    let first : nat_le w.plugged accepted ≡ true = (both (nat_le w.plugged accepted) _ s).0 in
    let old : nat_lt accepted w.plugged ≡ false = grind (arith, nat_tests) in
    (kept-second (stood_at accepted w) (is_in_place w) s n, old)

-- so its channel is the one that leaves by its end
pub record StillLeaves (h : CableHistory) (x : End) (c : ℕ) : Type 0 where
  pub out : leaving h x ≡ Some c
  pub old : is_new h c ≡ false

pub still-leaves : (h : CableHistory) (x : End) (c : ℕ) → IsHistory h → channel_by (stood_at h.accepted) 0 h.wires x ≡ Some c → is_cut h c ≡ false → StillLeaves h x c
still-leaves h x c is e uncut =
    let l = leaving_over h (stood_at h.accepted) x c e in
    let two = stood-still h.accepted (slice_get h.wires (c / 2)) l.passes uncut in
    record { out = standing_leaves h c x is l.tail two.0; old = two.1 }

-- a walk that is stuck stays so
stuck : (n : Network) (turns : List ℤ) → entered_after n None turns ≡ None
stuck n [] = refl
stuck n (turn ∷ turns) = stuck n turns

pub no-host : (n : Network) (to : ℕ) (o : Option End) (turns : List ℤ) → o ≡ None → place_at (entered_after n o turns) ≡ AtHost to → ⊥
no-host n to o turns none e =
    let bad : Stuck ≡ AtHost to = sym (ap (λ x. place_at (entered_after n x turns)) none ∙ ap place_at (stuck n turns)) ∙ e in cc

-- none of these channels is of a cable that was pulled
abbrev pub Uncut : CableHistory → List ℕ → Type 0
Uncut h cs = AllByRecursion (λ d. is_cut h d ≡ false) cs

pub none-any : (h : CableHistory) (cs : List ℕ) → list_any (is_cut h) cs ≡ false → Uncut h cs
none-any h [] e = tt
none-any h (c ∷ cs) e = by (is_cut h c) refl e (none-any h cs)
  where
    by : (b : Bool) → is_cut h c ≡ b → (b || list_any (is_cut h) cs) ≡ false → (list_any (is_cut h) cs ≡ false → Uncut h cs) → Uncut h (c ∷ cs)
    by true p d rest = absurd (true≢false d)
    by false p d rest = (p, rest d)

-- the cables that stood at the acceptance, and the fabric of them
abbrev pub test : CableHistory → Wire → Bool
test h = stood_at h.accepted

abbrev pub stood : CableHistory → Network
stood h = fabric_at h h.accepted

-- what lies ahead begins with the channel of the exit
pub first-uncut : (h : CableHistory) (x : End) (c : ℕ) (turns : List ℤ) → channel_by (test h) 0 h.wires x ≡ Some c → Uncut h (channels_by h (test h) (Some x) turns) → is_cut h c ≡ false
first-uncut h x c [] e all = (subst (λ o. Uncut h (option_to_list o)) e all).0
first-uncut h x c (turn ∷ turns) e all = (subst (λ o. Uncut h (option_to_list o ++ channels_by h (test h) (next_exit (stood h) (Some x) turn) turns)) e all).0

rest-uncut : (h : CableHistory) (x y : End) (c : ℕ) (turn : ℤ) (turns : List ℤ) → channel_by (test h) 0 h.wires x ≡ Some c → next_exit (stood h) (Some x) turn ≡ Some y → Uncut h (channels_by h (test h) (Some x) (turn ∷ turns)) → Uncut h (channels_by h (test h) (Some y) turns)
rest-uncut h x y c turn turns e f all =
    subst (λ o. Uncut h (channels_by h (test h) o turns)) f (subst (λ o. Uncut h (option_to_list o ++ channels_by h (test h) (next_exit (stood h) (Some x) turn) turns)) e all).1

-- A walk that leads from an exit to a host goes on by its first turn: from a switch, by a port with a cable.
pub record OnBy (h : CableHistory) (to : ℕ) (turn : ℤ) (turns : List ℤ) (x : End) : Type 0 where
  pub switch : ℕ
  pub entry : ℕ
  pub port : ℕ
  pub next : ℕ
  pub comes : far (stood h) x ≡ Some (record { v = Switch switch; p = entry })
  pub leaves : leaving_port (ports_of (stood h) (Switch switch)) entry turn ≡ Some port
  pub out : channel_by (test h) 0 h.wires (record { v = Switch switch; p = port }) ≡ Some next
  pub leads : place_at (entered_after (stood h) (far (stood h) (record { v = Switch switch; p = port })) turns) ≡ AtHost to
  pub uncut : Uncut h (channels_by h (test h) (Some (record { v = Switch switch; p = port })) turns)

pub on-by : (h : CableHistory) (to : ℕ) (turn : ℤ) (turns : List ℤ) (x : End) (c : ℕ) → channel_by (test h) 0 h.wires x ≡ Some c → place_at (entered_after (stood h) (far (stood h) x) (turn ∷ turns)) ≡ AtHost to → Uncut h (channels_by h (test h) (Some x) (turn ∷ turns)) → OnBy h to turn turns x
on-by h to turn turns x c e at uncut = entered (far (stood h) x) refl
  where
    m : Network
    m = stood h

    next : (s p q : ℕ) → far m x ≡ Some (record { v = Switch s; p = p }) → leaving_port (ports_of m (Switch s)) p turn ≡ Some q → OnBy h to turn turns x
    next s p q f g = by (channel_by (test h) 0 h.wires y) refl
      where
        y : End
        y = record { v = Switch s; p = q }

        exit : exit_at m (Switch s) p turn ≡ Some y
        exit = ap (option_map (λ i. record { v = Switch s; p = i })) g

        on : turned m (far m x) turn ≡ far m y
        on = ap (λ z. turned m z turn) f ∙ ap (option_and_then (far m)) exit

        at_y : place_at (entered_after m (far m y) turns) ≡ AtHost to
        at_y = ap (λ z. place_at (entered_after m z turns)) (sym on) ∙ at

        after : next_exit m (Some x) turn ≡ Some y
        after = ap (option_and_then (λ d. exit_at m d.v d.p turn)) f ∙ exit

        by : (o : Option ℕ) → channel_by (test h) 0 h.wires y ≡ o → OnBy h to turn turns x
        by None k = absurd (no-host m to (far m y) turns (none-far (test h) 0 h.wires y k) at_y)
        by (Some n) k = record { switch = s; entry = p; port = q; next = n; comes = f; leaves = g; out = k; leads = at_y; uncut = rest-uncut h x y c turn turns e after uncut }

    port : (s p : ℕ) → far m x ≡ Some (record { v = Switch s; p = p }) → (o : Option ℕ) → leaving_port (ports_of m (Switch s)) p turn ≡ o → OnBy h to turn turns x
    port s p f None g = absurd (no-host m to (turned m (far m x) turn) turns (ap (λ z. turned m z turn) f ∙ ap (λ o. option_and_then (far m) (option_map (λ i. record { v = Switch s; p = i }) o)) g) at)
    port s p f (Some q) g = next s p q f g

    vertex : (v : Vertex) (p : ℕ) → far m x ≡ Some (record { v = v; p = p }) → OnBy h to turn turns x
    vertex (Host a) p f = absurd (no-host m to (turned m (far m x) turn) turns (ap (λ z. turned m z turn) f) at)
    vertex (Switch s) p f = port s p f (leaving_port (ports_of m (Switch s)) p turn) refl

    entered : (o : Option End) → far m x ≡ o → OnBy h to turn turns x
    entered None f = absurd (no-host m to (turned m (far m x) turn) turns (ap (λ z. turned m z turn) f) at)
    entered (Some d) f = vertex d.v d.p f

-- the far end is as it was
far-still : (h : CableHistory) (x : End) (c : ℕ) → IsHistory h → channel_by (test h) 0 h.wires x ≡ Some c → is_cut h c ≡ false → far (fabric_now h) x ≡ far (stood h) x
far-still h x c is e uncut =
    let still = still-leaves h x c is e uncut in
    sym (leaving_has_its_end h x c still.out).head ∙ (leaving_over h (test h) x c e).head

-- so the walk ends at its host over the cables in place
exit-place : (h : CableHistory) (to : ℕ) → IsHistory h → (turns : List ℤ) (x : End) (c : ℕ) → channel_by (test h) 0 h.wires x ≡ Some c → place_at (entered_after (stood h) (far (stood h) x) turns) ≡ AtHost to → Uncut h (channels_by h (test h) (Some x) turns) → place_at (entered_after (fabric_now h) (far (fabric_now h) x) turns) ≡ AtHost to
exit-place h to is [] x c e at uncut = ap place_at (far-still h x c is e (first-uncut h x c [] e uncut)) ∙ at
exit-place h to is (turn ∷ turns) x c e at uncut =
    let o = on-by h to turn turns x c e at uncut in
    let y : End = record { v = Switch o.switch; p = o.port } in
    let comes : far (fabric_now h) x ≡ Some (record { v = Switch o.switch; p = o.entry }) = far-still h x c is e (first-uncut h x c (turn ∷ turns) e uncut) ∙ o.comes in
    let exit : exit_at (fabric_now h) (Switch o.switch) o.entry turn ≡ Some y = ap (option_map (λ i. record { v = Switch o.switch; p = i })) o.leaves in
    let on : turned (fabric_now h) (far (fabric_now h) x) turn ≡ far (fabric_now h) y = ap (λ z. turned (fabric_now h) z turn) comes ∙ ap (option_and_then (far (fabric_now h))) exit in
    ap (λ z. place_at (entered_after (fabric_now h) z turns)) on ∙ exit-place h to is turns y o.next o.out o.leads o.uncut

pub whole-place : (h : CableHistory) (host to : ℕ) (walk : List ℤ) → IsHistory h → place (stood h) host walk ≡ AtHost to → list_any (is_cut h) (channels_at h h.accepted host walk) ≡ false → place (fabric_now h) host walk ≡ AtHost to
whole-place h host to walk is at uncut = by (channel_by (test h) 0 h.wires (host_port host)) refl
  where
    by : (o : Option ℕ) → channel_by (test h) 0 h.wires (host_port host) ≡ o → place (fabric_now h) host walk ≡ AtHost to
    by None e = absurd (no-host (stood h) to (far (stood h) (host_port host)) walk (none-far (test h) 0 h.wires (host_port host) e) at)
    by (Some c) e = exit-place h to is walk (host_port host) c e at (none-any h (channels_at h h.accepted host walk) uncut)
