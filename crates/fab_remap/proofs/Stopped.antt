-- A route that led to its host at the adoption crosses a cable that was pulled since exactly where its walk is stuck
-- over what is left of the fabric.
use Rattle.std.proofs.Common.{◌≡◌, ◌⊎◌, inl, inr, ℕ, ℤ, Bool, true, false, not, ◌&&◌, ◌||◌, ◌/◌, List, [], ◌∷◌, ◌++◌, Option, Some, None, is_none, refl, sym, ap, ◌∙◌, true≢false}
use Rattle.std.specs.Prelude.{option_and_then, option_to_list, slice_get}
use Rattle.std.specs.List.{list_any}
use Rattle.std.specs.Option.{option_map_or}
use Rattle.net_defs.specs.declared.vertex.End.{End}
use Rattle.net_defs.specs.declared.place.Place.TheVariants.{Host as AtHost}
use Rattle.net_defs.specs.Network.{Network, far}
use Rattle.net_defs.proofs.Ends.{both}
use Rattle.net_defs.specs.Route.{exit_at, turned, entered_after, place, place_at, host_port, next_exit}
use Rattle.world_defs.specs.declared.wire.Wire.{Wire}
use Rattle.world_defs.specs.History.{CableHistory, IsHistory, fabric_left, stood_at, is_in_place, is_new_wire, is_left}
use Rattle.world_defs.specs.Crossed.{channel_by, channels_by, channels_at, leaving, life_head, is_new, is_cut}
use Rattle.world_defs.proofs.Fewer.{none-far, some-far, channel-fewer}
use Rattle.world_defs.proofs.Pulled.{each-fewer, left_stood}
use Rattle.world_defs.proofs.ForLife.{leaving_over, leaving_has_its_end, passing-leaves}
use Rattle.world_defs.proofs.Left.{left-fabric, left-passes}
use Rattle.world_defs.proofs.Now.{now_is_fabric}
use Rattle.table_laws.proofs.Uncut.{still-leaves, no-host, stood}

-- a walk that is stuck stays so
stays-stuck : (n : Network) (turns : List ℤ) → entered_after n None turns ≡ None
stays-stuck n [] = refl
stays-stuck n (turn ∷ turns) = stays-stuck n turns

same-number : (a b : ℕ) → Some a ≡ Some b → a ≡ b
same-number a b e = cc

-- a cable that is left wasn't pulled
left-uncut : (h : CableHistory) (o : Option Wire) → option_map_or (is_left h) o false ≡ true → option_map_or (λ w. stood_at h.accepted w && not (is_in_place w)) o false ≡ false
left-uncut h None e = refl
left-uncut h (Some w) e = by (stood_at h.accepted w) (is_in_place w) (is_new_wire h w) e
  where
    by : (s p n : Bool) → (p && not n) ≡ true → (s && not p) ≡ false
    by true true n e = refl
    by true false n e = absurd (true≢false (sym e))
    by false p n e = refl

-- nor is it new
left-old : (h : CableHistory) (o : Option Wire) → option_map_or (is_left h) o false ≡ true → option_map_or (is_new_wire h) o false ≡ false
left-old h None e = refl
left-old h (Some w) e = by (is_in_place w) (is_new_wire h w) e
  where
    by : (p n : Bool) → (p && not n) ≡ true → n ≡ false
    by p false e = refl
    by true true e = absurd (true≢false (sym e))
    by false true e = absurd (true≢false (sym e))

-- What the channel of an exit at the adoption comes to since: its cable was pulled, and nothing is left at the exit, or
-- it is left, and leads where it led.
pub record IsCutThere (h : CableHistory) (x : End) (c : ℕ) : Type 0 where
  pub cut : is_cut h c ≡ true
  pub gone : far (fabric_left h) x ≡ None

pub record IsLeftThere (h : CableHistory) (x : End) (c : ℕ) : Type 0 where
  pub uncut : is_cut h c ≡ false
  pub leads : far (fabric_left h) x ≡ far (stood h) x

pub left-there : (h : CableHistory) (x : End) (c : ℕ) → IsHistory h → channel_by (stood_at h.accepted) 0 h.wires x ≡ Some c → IsCutThere h x c ⊎ IsLeftThere h x c
left-there h x c is e = by (is_cut h c) refl
  where
    by : (b : Bool) → is_cut h c ≡ b → IsCutThere h x c ⊎ IsLeftThere h x c
    by true p = inl (record { cut = p; gone = none (channel_by (is_left h) 0 h.wires x) refl })
      where
        none : (o : Option ℕ) → channel_by (is_left h) 0 h.wires x ≡ o → far (fabric_left h) x ≡ None
        none None k = none-far (is_left h) 0 h.wires x k
        none (Some d) k =
            let then_too = channel-fewer (is_left h) (stood_at h.accepted) 0 x d (left_stood h).wires (is.fabrics h.accepted).ports_once k in
            let same : d ≡ c = same-number d c (sym then_too ∙ e) in
            let whole = left-uncut h (slice_get h.wires (d / 2)) (leaving_over h (is_left h) x d k).passes in
            absurd (true≢false (sym p ∙ ap (is_cut h) (sym same) ∙ whole))
    by false p =
        let still = still-leaves h x c is e p in
        let then_too = leaving_over h (stood_at h.accepted) x c e in
        let now = leaving_has_its_end h x c still.out in
        let out : channel_by (is_left h) 0 h.wires x ≡ Some c = passing-leaves h (is_left h) c x (left-fabric h is) then_too.tail (left-passes h c now.in_place still.old) in
        inr (record { uncut = p; leads = sym (leaving_over h (is_left h) x c out).head ∙ then_too.head })

-- A walk that leads from an exit to a host goes on by its first turn.
record GoesOn (h : CableHistory) (to : ℕ) (turn : ℤ) (turns : List ℤ) (x : End) : Type 0 where
  entry : End
  next : End
  comes : far (stood h) x ≡ Some entry
  exit : exit_at (stood h) entry.v entry.p turn ≡ Some next
  leads : place_at (entered_after (stood h) (far (stood h) next) turns) ≡ AtHost to

goes-on : (h : CableHistory) (to : ℕ) (turn : ℤ) (turns : List ℤ) (x : End) → place_at (entered_after (stood h) (far (stood h) x) (turn ∷ turns)) ≡ AtHost to → GoesOn h to turn turns x
goes-on h to turn turns x at = entered (far (stood h) x) refl
  where
    m : Network
    m = stood h

    leaves : (d : End) → far m x ≡ Some d → (o : Option End) → exit_at m d.v d.p turn ≡ o → GoesOn h to turn turns x
    leaves d f None g = absurd (no-host m to (turned m (far m x) turn) turns (ap (λ z. turned m z turn) f ∙ ap (option_and_then (far m)) g) at)
    leaves d f (Some y) g = record {
      entry = d;
      next = y;
      comes = f;
      exit = g;
      leads = ap (λ z. place_at (entered_after m z turns)) (sym (ap (λ z. turned m z turn) f ∙ ap (option_and_then (far m)) g)) ∙ at;
    }

    entered : (o : Option End) → far m x ≡ o → GoesOn h to turn turns x
    entered None f = absurd (no-host m to (turned m (far m x) turn) turns (ap (λ z. turned m z turn) f) at)
    entered (Some d) f = leaves d f (exit_at m d.v d.p turn) refl

-- a walk to a host leaves by a channel
out-there : (h : CableHistory) (to : ℕ) (turns : List ℤ) (x : End) → place_at (entered_after (stood h) (far (stood h) x) turns) ≡ AtHost to → (c : ℕ) × (channel_by (stood_at h.accepted) 0 h.wires x ≡ Some c)
out-there h to turns x at = by (channel_by (stood_at h.accepted) 0 h.wires x) refl
  where
    by : (o : Option ℕ) → channel_by (stood_at h.accepted) 0 h.wires x ≡ o → (c : ℕ) × (channel_by (stood_at h.accepted) 0 h.wires x ≡ Some c)
    by None e = absurd (no-host (stood h) to (far (stood h) x) turns (none-far (stood_at h.accepted) 0 h.wires x e) at)
    by (Some c) e = (c, e)

-- so a channel ahead of an exit was cut exactly where the walk is stuck
pub exit-stopped : (h : CableHistory) (to : ℕ) → IsHistory h → (turns : List ℤ) (x : End) → place_at (entered_after (stood h) (far (stood h) x) turns) ≡ AtHost to
    → list_any (is_cut h) (channels_by h (stood_at h.accepted) (Some x) turns) ≡ is_none (entered_after (fabric_left h) (far (fabric_left h) x) turns)
exit-stopped h to is [] x at =
    let o = out-there h to [] x at in
    let crossed : list_any (is_cut h) (channels_by h (stood_at h.accepted) (Some x) []) ≡ (is_cut h o.0 || false) = ap (λ k. list_any (is_cut h) (option_to_list k)) o.1 in
    by o.0 o.1 crossed (left-there h x o.0 is o.1)
  where
    by : (c : ℕ) → channel_by (stood_at h.accepted) 0 h.wires x ≡ Some c → list_any (is_cut h) (channels_by h (stood_at h.accepted) (Some x) []) ≡ (is_cut h c || false) → IsCutThere h x c ⊎ IsLeftThere h x c
        → list_any (is_cut h) (channels_by h (stood_at h.accepted) (Some x) []) ≡ is_none (far (fabric_left h) x)
    by c e crossed (inl gone) = crossed ∙ ap (λ b. b || false) gone.cut ∙ sym (ap is_none gone.gone)
    by c e crossed (inr left) =
        let there = some-far (stood_at h.accepted) 0 h.wires x c e in
        crossed ∙ ap (λ b. b || false) left.uncut ∙ sym (ap is_none (left.leads ∙ there.1))
exit-stopped h to is (turn ∷ turns) x at =
    let o = out-there h to (turn ∷ turns) x at in
    let g = goes-on h to turn turns x at in
    let after : next_exit (stood h) (Some x) turn ≡ Some g.next = ap (option_and_then (λ d. exit_at (stood h) d.v d.p turn)) g.comes ∙ g.exit in
    let crossed : list_any (is_cut h) (channels_by h (stood_at h.accepted) (Some x) (turn ∷ turns)) ≡ (is_cut h o.0 || list_any (is_cut h) (channels_by h (stood_at h.accepted) (Some g.next) turns)) =
    λ i. list_any (is_cut h) (option_to_list (o.1 i) ++ channels_by h (stood_at h.accepted) (after i) turns) in
    by o.0 g.entry g.next g.comes g.exit crossed (exit-stopped h to is turns g.next g.leads) (left-there h x o.0 is o.1)
  where
    by : (c : ℕ) (d y : End) → far (stood h) x ≡ Some d → exit_at (stood h) d.v d.p turn ≡ Some y
        → list_any (is_cut h) (channels_by h (stood_at h.accepted) (Some x) (turn ∷ turns)) ≡ (is_cut h c || list_any (is_cut h) (channels_by h (stood_at h.accepted) (Some y) turns))
        → list_any (is_cut h) (channels_by h (stood_at h.accepted) (Some y) turns) ≡ is_none (entered_after (fabric_left h) (far (fabric_left h) y) turns)
        → IsCutThere h x c ⊎ IsLeftThere h x c
        → list_any (is_cut h) (channels_by h (stood_at h.accepted) (Some x) (turn ∷ turns)) ≡ is_none (entered_after (fabric_left h) (turned (fabric_left h) (far (fabric_left h) x) turn) turns)
    by c d y comes exit crossed rest (inl gone) =
        let stop : entered_after (fabric_left h) (turned (fabric_left h) (far (fabric_left h) x) turn) turns ≡ None =
        ap (λ z. entered_after (fabric_left h) (turned (fabric_left h) z turn) turns) gone.gone ∙ stays-stuck (fabric_left h) turns in
        crossed ∙ ap (λ b. b || list_any (is_cut h) (channels_by h (stood_at h.accepted) (Some y) turns)) gone.cut ∙ sym (ap is_none stop)
    by c d y comes exit crossed rest (inr left) =
        let on : turned (fabric_left h) (far (fabric_left h) x) turn ≡ far (fabric_left h) y =
        ap (λ z. turned (fabric_left h) z turn) (left.leads ∙ comes) ∙ ap (option_and_then (far (fabric_left h))) exit in
        crossed ∙ ap (λ b. b || list_any (is_cut h) (channels_by h (stood_at h.accepted) (Some y) turns)) left.uncut
        ∙ rest ∙ sym (ap (λ z. is_none (entered_after (fabric_left h) z turns)) on)

-- so of a route from its host
pub route-stopped : (h : CableHistory) (host to : ℕ) (walk : List ℤ) → IsHistory h → place (stood h) host walk ≡ AtHost to
    → list_any (is_cut h) (channels_at h h.accepted host walk) ≡ is_none (entered_after (fabric_left h) (far (fabric_left h) (host_port host)) walk)
route-stopped h host to walk is at = exit-stopped h to is walk (host_port host) at

-- ---- what is left at an end, by the channel in place that leaves there
left-in_place : (h : CableHistory) (w : Wire) → is_left h w ≡ true → is_in_place w ≡ true
left-in_place h w p = (both (is_in_place w) (not (is_new_wire h w)) p).0

pub left-none : (h : CableHistory) (e : End) → IsHistory h → leaving h e ≡ None → far (fabric_left h) e ≡ None
left-none h e is k = by (channel_by (is_left h) 0 h.wires e) refl
  where
    by : (o : Option ℕ) → channel_by (is_left h) 0 h.wires e ≡ o → far (fabric_left h) e ≡ None
    by None p = none-far (is_left h) 0 h.wires e p
    by (Some c) p =
        let out = channel-fewer (is_left h) is_in_place 0 e c (each-fewer (is_left h) is_in_place h.wires (left-in_place h)) (now_is_fabric h is).ports_once p in
        let bad : None ≡ Some c = sym k ∙ out in cc

pub left-new : (h : CableHistory) (e : End) (c : ℕ) → IsHistory h → leaving h e ≡ Some c → is_new h c ≡ true → far (fabric_left h) e ≡ None
left-new h e c is k new = by (channel_by (is_left h) 0 h.wires e) refl
  where
    by : (o : Option ℕ) → channel_by (is_left h) 0 h.wires e ≡ o → far (fabric_left h) e ≡ None
    by None p = none-far (is_left h) 0 h.wires e p
    by (Some d) p =
        let out = channel-fewer (is_left h) is_in_place 0 e d (each-fewer (is_left h) is_in_place h.wires (left-in_place h)) (now_is_fabric h is).ports_once p in
        let same : d ≡ c = same-number d c (sym out ∙ k) in
        let old = left-old h (slice_get h.wires (d / 2)) (leaving_over h (is_left h) e d p).passes in
        absurd (true≢false (sym new ∙ ap (is_new h) (sym same) ∙ old))

pub left-old_far : (h : CableHistory) (e : End) (c : ℕ) → IsHistory h → leaving h e ≡ Some c → is_new h c ≡ false → far (fabric_left h) e ≡ life_head h c
left-old_far h e c is k old =
    let now = leaving_has_its_end h e c k in
    let out : channel_by (is_left h) 0 h.wires e ≡ Some c = passing-leaves h (is_left h) c e (left-fabric h is) now.tail (left-passes h c now.in_place old) in
    sym (leaving_over h (is_left h) e c out).head
