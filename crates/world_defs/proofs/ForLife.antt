-- A cable in place is what leaves by its ends, and a channel's ends are for life.
use Rattle.std.proofs.Common.{◌≡◌, ◌≢◌, ◌<◌, ◌+◌, ◌*◌, ◌/◌, ◌%◌, ℕ, zero, suc, Bool, true, false, ◌&&◌, nat_eq, List, [], ◌∷◌, ◌++◌, length, Option, Some, None, refl, sym, ap, ◌∙◌, subst, arith, if◌then◌else◌}
use Rattle.std.specs.List.{slice_get, slice_set, filter, AllByRecursion}
use Rattle.std.specs.Option.{option_map, option_map_or}
use Rattle.net_defs.specs.declared.vertex.End.{End}
use Rattle.net_defs.specs.Network.{IsFabric, Apart, same_end, far, far_end, ends_of}
use Rattle.net_defs.proofs.Ends.{same_end-true, same_end-refl, same_end-false}
use Rattle.world_defs.specs.declared.wire.Wire.{Wire}
use Rattle.world_defs.specs.History.{CableHistory, fabric_by, is_in_place, pulled_by, with_pulled}
use Rattle.world_defs.specs.Crossed.{channel_by, life_channels, life_tail, life_head}
use Rattle.world_defs.specs.CableLaws.{LeavingHasItsEnd, StandingLeavesItsTail, EndsAreForLife}
use Rattle.world_defs.proofs.Fewer.{kept, kept_if}
use Rattle.world_defs.proofs.Now.{now_is_fabric}

-- the ends of a channel, counted from the first of these cables, and whether its cable is in place
abbrev tail_at : List Wire → ℕ → Option End
tail_at ws c = option_map (λ w. if nat_eq (c % 2) 0 then w.cable.a else w.cable.b) (slice_get ws (c / 2))

abbrev head_at : List Wire → ℕ → Option End
head_at ws c = option_map (λ w. if nat_eq (c % 2) 0 then w.cable.b else w.cable.a) (slice_get ws (c / 2))

abbrev pub passes_at : (Wire → Bool) → List Wire → ℕ → Bool
passes_at test ws c = option_map_or test (slice_get ws (c / 2)) false

-- past the first cable
later_half : (p : ℕ) → (2 + p) / 2 ≡ suc (p / 2)
later_half p = omega arith

later_parity : (p : ℕ) → (2 + p) % 2 ≡ p % 2
later_parity p = omega arith

tail_at-later : (w : Wire) (ws : List Wire) (p : ℕ) → tail_at (w ∷ ws) (2 + p) ≡ tail_at ws p
tail_at-later w ws p = rw (later_half p, later_parity p) refl

head_at-later : (w : Wire) (ws : List Wire) (p : ℕ) → head_at (w ∷ ws) (2 + p) ≡ head_at ws p
head_at-later w ws p = rw (later_half p, later_parity p) refl

passes_at-later : (test : Wire → Bool) (w : Wire) (ws : List Wire) (p : ℕ) → passes_at test (w ∷ ws) (2 + p) ≡ passes_at test ws p
passes_at-later test w ws p = rw (later_half p) refl

-- What a channel has that leaves by an end over a cable of a test, the cables before these being k.
record Leaves (test : Wire → Bool) (k : ℕ) (ws : List Wire) (e : End) (c : ℕ) : Type 0 where
  place : ℕ
  number : c ≡ 2 * k + place
  tail : tail_at ws place ≡ Some e
  head : head_at ws place ≡ far_end (kept test ws) e
  passes : passes_at test ws place ≡ true
  low : place < 2 * length ws

leaves : (test : Wire → Bool) (k : ℕ) (ws : List Wire) (e : End) (c : ℕ) → channel_by test k ws e ≡ Some c → Leaves test k ws e c
leaves test k [] e c is = cc
leaves test k (w ∷ ws) e c is = by (test w) (same_end w.cable.a e) (same_end w.cable.b e) refl refl refl is (leaves test (k + 1) ws e c)
  where
    later : Leaves test (k + 1) ws e c → far_end (kept test ws) e ≡ far_end (kept test (w ∷ ws)) e → Leaves test k (w ∷ ws) e c
    later r same =
        let n = r.number in
        let l = r.low in
        record {
          place = 2 + r.place;
          number = omega (arith, n);
          tail = tail_at-later w ws r.place ∙ r.tail;
          head = head_at-later w ws r.place ∙ r.head ∙ same;
          passes = passes_at-later test w ws r.place ∙ r.passes;
          low = omega (arith, l);
        }

    by : (b s t : Bool) → test w ≡ b → same_end w.cable.a e ≡ s → same_end w.cable.b e ≡ t
        → (if b && s then Some (2 * k) else if b && t then Some (2 * k + 1) else channel_by test (k + 1) ws e) ≡ Some c
        → (channel_by test (k + 1) ws e ≡ Some c → Leaves test (k + 1) ws e c) → Leaves test k (w ∷ ws) e c
    by true true t o p q is rest =
        let n : 2 * k ≡ c = cc in
        record { place = 0; number = omega (arith, n); tail = ap Some (same_end-true w.cable.a e p); head = rw (o, p) refl; passes = o; low = omega arith }
    by true false true o p q is rest =
        let n : 2 * k + 1 ≡ c = cc in
        record { place = 1; number = omega (arith, n); tail = ap Some (same_end-true w.cable.b e q); head = rw (o, p, q) refl; passes = o; low = omega arith }
    by true false false o p q is rest = later (rest is) (rw (o, p, q) refl)
    by false s t o p q is rest = later (rest is) (rw o refl)

-- what a channel that leaves over a cable of a test has: its ends, and that its cable passes
pub record LeavesOver (h : CableHistory) (test : Wire → Bool) (e : End) (c : ℕ) : Type 0 where
  pub tail : life_tail h c ≡ Some e
  pub head : life_head h c ≡ far (fabric_by h test) e
  pub passes : passes_at test h.wires c ≡ true
  pub there : c < life_channels h

pub leaving_over : (h : CableHistory) (test : Wire → Bool) (e : End) (c : ℕ) → channel_by test 0 h.wires e ≡ Some c → LeavesOver h test e c
leaving_over h test e c is =
    let r = leaves test 0 h.wires e c is in
    let number = r.number in
    let same : c ≡ r.place = omega (arith, number) in
    record {
      tail = ap (tail_at h.wires) same ∙ r.tail;
      head = ap (head_at h.wires) same ∙ r.head;
      passes = ap (passes_at test h.wires) same ∙ r.passes;
      there = subst (λ x. x < life_channels h) (sym same) r.low;
    }

pub leaving_has_its_end : LeavingHasItsEnd
leaving_has_its_end h e c is = let l = leaving_over h is_in_place e c is in record { tail = l.tail; head = l.head; in_place = l.passes; there = l.there }

-- an end of a later cable of a test differs from what differs from all of them
module _ (test : Wire → Bool) where
  differs_later : (P : End → Type 0) (ws : List Wire) (p : ℕ) (e : End) → AllByRecursion P (ends_of (kept test ws)) → tail_at ws p ≡ Some e → passes_at test ws p ≡ true → P e
  differs_later P [] p e all is passes = cc
  differs_later P (w ∷ ws) zero e all is passes =
      let same : w.cable.a ≡ e = cc in
      let here : AllByRecursion P (ends_of (kept_if true w (filter test ws))) = subst (λ b. AllByRecursion P (ends_of (kept_if b w (filter test ws)))) passes all in
      subst P same here.0
  differs_later P (w ∷ ws) (suc zero) e all is passes =
      let same : w.cable.b ≡ e = cc in
      let here : AllByRecursion P (ends_of (kept_if true w (filter test ws))) = subst (λ b. AllByRecursion P (ends_of (kept_if b w (filter test ws)))) passes all in
      subst P same here.1.0
  differs_later P (w ∷ ws) (suc (suc p)) e all is passes =
      let two : suc (suc p) ≡ 2 + p = omega arith in
      let later : AllByRecursion P (ends_of (kept test ws)) = by (test w) all in
      differs_later P ws p e later (sym (tail_at-later w ws p) ∙ sym (ap (tail_at (w ∷ ws)) two) ∙ is) (sym (passes_at-later test w ws p) ∙ sym (ap (passes_at test (w ∷ ws)) two) ∙ passes)
    where
      by : (b : Bool) → AllByRecursion P (ends_of (kept_if b w (filter test ws))) → AllByRecursion P (ends_of (kept test ws))
      by true all = all.1.1
      by false all = all

  -- the channel that leaves by the tail of a channel whose cable passes is that channel
  out-tail : (k : ℕ) (ws : List Wire) (p : ℕ) (e : End) → Apart (ends_of (kept test ws)) → tail_at ws p ≡ Some e → passes_at test ws p ≡ true → channel_by test k ws e ≡ Some (2 * k + p)
  out-tail k [] p e apart is passes = cc
  out-tail k (w ∷ ws) zero e apart is passes =
      let same : w.cable.a ≡ e = cc in
      let t : same_end w.cable.a e ≡ true = subst (λ d. same_end w.cable.a d ≡ true) same (same_end-refl w.cable.a) in
      let n : 2 * k ≡ 2 * k + 0 = omega arith in
      rw (passes, t) (ap Some n)
  out-tail k (w ∷ ws) (suc zero) e apart is passes =
      let here : Apart (ends_of (kept_if true w (filter test ws))) = subst (λ b. Apart (ends_of (kept_if b w (filter test ws)))) passes apart in
      let same : w.cable.b ≡ e = cc in
      let s : same_end w.cable.a e ≡ false = same_end-false w.cable.a e (λ q. here.0.0 (q ∙ sym same)) in
      let t : same_end w.cable.b e ≡ true = subst (λ d. same_end w.cable.b d ≡ true) same (same_end-refl w.cable.b) in
      rw (passes, s, t) refl
  out-tail k (w ∷ ws) (suc (suc p)) e apart is passes =
      let two : suc (suc p) ≡ 2 + p = omega arith in
      let later : tail_at ws p ≡ Some e = sym (tail_at-later w ws p) ∙ sym (ap (tail_at (w ∷ ws)) two) ∙ is in
      let pass : passes_at test ws p ≡ true = sym (passes_at-later test w ws p) ∙ sym (ap (passes_at test (w ∷ ws)) two) ∙ passes in
      let n : 2 * (k + 1) + p ≡ 2 * k + suc (suc p) = omega arith in
      by (test w) refl apart later pass (λ a. out-tail (k + 1) ws p e a later pass ∙ ap Some n)
    where
      by : (b : Bool) → test w ≡ b → Apart (ends_of (kept_if b w (filter test ws))) → tail_at ws p ≡ Some e → passes_at test ws p ≡ true
          → (Apart (ends_of (kept test ws)) → channel_by test (k + 1) ws e ≡ Some (2 * k + suc (suc p)))
          → channel_by test k (w ∷ ws) e ≡ Some (2 * k + suc (suc p))
      by true o a later pass rest =
          let s : same_end w.cable.a e ≡ false = same_end-false w.cable.a e (differs_later (λ d. w.cable.a ≢ d) ws p e a.0.1 later pass) in
          let t : same_end w.cable.b e ≡ false = same_end-false w.cable.b e (differs_later (λ d. w.cable.b ≢ d) ws p e a.1.0 later pass) in
          rw (o, s, t) (rest a.1.1)
      by false o a later pass rest = rw o (rest a)

-- in a fabric of the cables of a test
pub passing-leaves : (h : CableHistory) (test : Wire → Bool) (c : ℕ) (e : End) → IsFabric (fabric_by h test) → life_tail h c ≡ Some e → passes_at test h.wires c ≡ true → channel_by test 0 h.wires e ≡ Some c
passing-leaves h test c e f tail passes =
    let same : 2 * 0 + c ≡ c = omega arith in
    out-tail test 0 h.wires c e f.ports_once tail passes ∙ ap Some same

pub standing_leaves : StandingLeavesItsTail
standing_leaves h c e is tail stands = passing-leaves h is_in_place c e (now_is_fabric h is) tail stands

-- what depends on a cable's ends alone stays where its dates change
got-set : (F : Wire → End) (ws : List Wire) (k i : ℕ) (v w : Wire) → slice_get ws k ≡ Some w → F v ≡ F w → option_map F (slice_get (slice_set ws k v) i) ≡ option_map F (slice_get ws i)
got-set F [] k i v w is same = cc
got-set F (u ∷ ws) zero zero v w is same = let e : u ≡ w = cc in ap Some (same ∙ sym (ap F e))
got-set F (u ∷ ws) zero (suc i) v w is same = refl
got-set F (u ∷ ws) (suc k) zero v w is same = refl
got-set F (u ∷ ws) (suc k) (suc i) v w is same = got-set F ws k i v w is same

pulled-ends : (F : Wire → End) → ((v : Wire) (change : ℕ) → F (record v { pulled = Some change }) ≡ F v) → (h : CableHistory) (k i : ℕ) → option_map F (slice_get (with_pulled h k).wires i) ≡ option_map F (slice_get h.wires i)
pulled-ends F same h k i = by (slice_get h.wires k) refl
  where
    by : (o : Option Wire) → slice_get h.wires k ≡ o → option_map F (slice_get (pulled_by h k o).wires i) ≡ option_map F (slice_get h.wires i)
    by None is = refl
    by (Some w) is = got-set F h.wires k i (record w { pulled = Some (h.changes + 1) }) w is (same w (h.changes + 1))

-- and where another cable comes
pub got-push : (ws : List Wire) (i : ℕ) (v : Wire) → i < length ws → slice_get (ws ++ v ∷ []) i ≡ slice_get ws i
got-push [] i v low = absurd (omega (arith, low))
got-push (w ∷ ws) zero v low = refl
got-push (w ∷ ws) (suc i) v low = got-push ws i v (omega (arith, low))

pub ends_are_for_life : EndsAreForLife
ends_are_for_life h k c a b low =
    let v : Wire = record { cable = record { a = a; b = b }; plugged = h.changes + 1; pulled = None } in
    let half : c / 2 < length h.wires = omega (arith, low) in
    let same : slice_get (h.wires ++ v ∷ []) (c / 2) ≡ slice_get h.wires (c / 2) = got-push h.wires (c / 2) v half in
    let tail : Wire → End = λ w. if nat_eq (c % 2) 0 then w.cable.a else w.cable.b in
    let head : Wire → End = λ w. if nat_eq (c % 2) 0 then w.cable.b else w.cable.a in
    (pulled-ends tail (λ v change. refl) h k (c / 2), pulled-ends head (λ v change. refl) h k (c / 2), ap (option_map tail) same, ap (option_map head) same)
