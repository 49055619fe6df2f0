-- Cables by their numbers: their far ends, and the channels in which they are crossed.
use Rattle.std.proofs.Common.{◌≡◌, ◌≢◌, ◌<◌, ◌+◌, ◌*◌, ℕ, zero, suc, List, [], ◌∷◌, ◌++◌, Bool, true, false, Some, None, Option, sym, ◌∙◌, subst, ap, refl, arith, ◌⊎◌, inl, inr, if◌then◌else◌, length}
use Rattle.std.specs.Prelude.{ℤ, map, option_and_then}
use Rattle.std.specs.List.{AllByRecursion, slice_get}
use Rattle.net_defs.specs.declared.vertex.End.{End}
use Rattle.net_defs.specs.declared.vertex.Cable.{Cable}
use Rattle.net_defs.specs.Network.{Network, IsFabric, Apart, far, far_end, ends_of, same_end}
use Rattle.net_defs.specs.Route.{channel_out, channel_from, channels_after, crossing, next_exit, exit_at, turned, entered_after}
use Rattle.net_defs.proofs.Ends.{same_end-true, same_end-refl, same_end-false}
use Rattle.std.proofs.lemmas.List.{append_assoc}
use Rattle.std.proofs.lemmas.Option.{slice_get_within}
use Rattle.circ_defs.specs.Ways.{IsOneOf, Joins}
use Rattle.circ_defs.specs.Circuit.{are_apart, cable_of}
use Rattle.circ_defs.specs.Ways.Joins.{forth, back}
use Rattle.circ_defs.proofs.Numbers.{apart-from, apart-parts}

cable_of-forth : (k : ℕ) → cable_of (2 * k) ≡ k
cable_of-forth k = omega arith

cable_of-back : (k : ℕ) → cable_of (2 * k + 1) ≡ k
cable_of-back k = omega arith

-- a cable of a list has its ends among the list's
record AreEnds (P : End → Type 0) (c : Cable) : Type 0 where
  pub first : P c.a
  pub second : P c.b

cable-ends : (P : End → Type 0) (cs : List Cable) (k : ℕ) (c : Cable) → AllByRecursion P (ends_of cs) → slice_get cs k ≡ Some c → AreEnds P c
cable-ends P [] k c all e = cc
cable-ends P (x ∷ cs) zero c all e = let one : x ≡ c = cc in record { first = subst (λ (y : Cable). P y.a) one all.0; second = subst (λ (y : Cable). P y.b) one all.1.0 }
cable-ends P (x ∷ cs) (suc k) c all e = cable-ends P cs k c all.1.1 e

-- the far end and the channel of the two ends of a cable
record Ends (base : ℕ) (cs : List Cable) (k : ℕ) (c : Cable) : Type 0 where
  pub far_first : far_end cs c.a ≡ Some c.b
  pub far_second : far_end cs c.b ≡ Some c.a
  pub channel_first : channel_out base cs c.a ≡ Some (2 * (base + k))
  pub channel_second : channel_out base cs c.b ≡ Some (2 * (base + k) + 1)

cable-is : (base : ℕ) (cs : List Cable) (k : ℕ) (c : Cable) → Apart (ends_of cs) → slice_get cs k ≡ Some c → Ends base cs k c
cable-is base [] k c apart e = cc
cable-is base (x ∷ cs) zero c apart e =
    let one : x ≡ c = cc in
    let nothing : base ≡ base + 0 = omega arith in
    subst (λ y. Ends base (x ∷ cs) zero y) one (subst (λ b. Own b) nothing own)
  where
    Own : ℕ → Type 0
    Own b = Ends base (x ∷ cs) zero x

    own : Ends base (x ∷ cs) zero x
    own =
        let nothing : base ≡ base + 0 = omega arith in
        record {
          far_first = rw (same_end-refl x.a) refl;
          far_second = rw (same_end-false x.a x.b apart.0.0, same_end-refl x.b) refl;
          channel_first = rw (same_end-refl x.a) (ap (λ b. Some (2 * b)) nothing);
          channel_second = rw (same_end-false x.a x.b apart.0.0, same_end-refl x.b) (ap (λ b. Some (2 * b + 1)) nothing);
        }
cable-is base (x ∷ cs) (suc k) c apart e =
    let r = cable-is (base + 1) cs k c apart.1.1 e in
    let a = cable-ends (λ y. x.a ≢ y) cs k c apart.0.1 e in
    let b = cable-ends (λ y. x.b ≢ y) cs k c apart.1.0 e in
    let sum : base + 1 + k ≡ base + suc k = omega arith in
    record {
      far_first = rw (same_end-false x.a c.a a.first, same_end-false x.b c.a b.first) r.far_first;
      far_second = rw (same_end-false x.a c.b a.second, same_end-false x.b c.b b.second) r.far_second;
      channel_first = rw (same_end-false x.a c.a a.first, same_end-false x.b c.a b.first) (r.channel_first ∙ ap (λ b. Some (2 * b)) sum);
      channel_second = rw (same_end-false x.a c.b a.second, same_end-false x.b c.b b.second) (r.channel_second ∙ ap (λ b. Some (2 * b + 1)) sum);
    }

pub joins-far : (n : Network) (k : ℕ) (d e : End) → IsFabric n → Joins n k d e → far n d ≡ Some e
joins-far n k d e f (forth {c = c} p) = (cable-is 0 n.cables k c f.ports_once p).far_first
joins-far n k d e f (back {c = c} p) = (cable-is 0 n.cables k c f.ports_once p).far_second

-- the channel by which a cable is crossed
pub record HasChannel (n : Network) (k : ℕ) (d : End) : Type 0 where
  pub channel : ℕ
  pub is : channel_from n d ≡ Some channel
  pub half_is : cable_of channel ≡ k

zero-plus : (k : ℕ) → 0 + k ≡ k
zero-plus k = omega arith

pub joins-channel : (n : Network) (k : ℕ) (d e : End) → IsFabric n → Joins n k d e → HasChannel n k d
joins-channel n k d e f (forth {c = c} p) = record { channel = 2 * (0 + k); is = (cable-is 0 n.cables k c f.ports_once p).channel_first; half_is = cable_of-forth (0 + k) ∙ zero-plus k }
joins-channel n k d e f (back {c = c} p) = record { channel = 2 * (0 + k) + 1; is = (cable-is 0 n.cables k c f.ports_once p).channel_second; half_is = cable_of-back (0 + k) ∙ zero-plus k }

-- an end has one cable
pub one-cable : (n : Network) (k l : ℕ) (d e g : End) → IsFabric n → Joins n k d e → Joins n l d g → k ≡ l
one-cable n k l d e g f a b =
    let p = joins-channel n k d e f a in
    let q = joins-channel n l d g f b in
    let two : Some p.channel ≡ Some q.channel = sym p.is ∙ q.is in
    let one : p.channel ≡ q.channel = cc in
    sym p.half_is ∙ ap cable_of one ∙ q.half_is

-- the channels of a walk with a turn more
pub far-next : (n : Network) (exit : Option End) (t : ℤ) → option_and_then (far n) (next_exit n exit t) ≡ turned n (option_and_then (far n) exit) t
far-next n exit t = by (option_and_then (far n) exit)
  where
    by : (o : Option End) → option_and_then (far n) (option_and_then (λ e. exit_at n e.v e.p t) o) ≡ turned n o t
    by None = refl
    by (Some e) = refl

pub channels-push : (n : Network) (exit : Option End) (w : List ℤ) (t : ℤ) → channels_after n exit (w ++ t ∷ []) ≡ channels_after n exit w ++ crossing n (option_and_then (λ e. exit_at n e.v e.p t) (entered_after n (option_and_then (far n) exit) w))
channels-push n exit [] t = refl
channels-push n exit (s ∷ w) t =
    ap (λ l. crossing n exit ++ l) (channels-push n (next_exit n exit s) w t ∙ ap (λ o. channels_after n (next_exit n exit s) w ++ crossing n (option_and_then (λ e. exit_at n e.v e.p t) (entered_after n o w))) (far-next n exit s))
    ∙ sym (append_assoc (crossing n exit) (channels_after n (next_exit n exit s) w) (crossing n (option_and_then (λ e. exit_at n e.v e.p t) (entered_after n (turned n (option_and_then (far n) exit) s) w))))

pub cable_of-one : (c : ℕ) (cs : List ℕ) → IsOneOf c cs → IsOneOf (cable_of c) (map cable_of cs)
cable_of-one c [] m = absurd m
cable_of-one c (x ∷ cs) (inl e) = inl (ap cable_of e)
cable_of-one c (x ∷ cs) (inr m) = inr (cable_of-one c cs m)

pub cables-apart : (cs : List ℕ) → are_apart (map cable_of cs) ≡ true → are_apart cs ≡ true
cables-apart [] e = refl
cables-apart (c ∷ cs) e = let two = apart-parts (cable_of c) (map cable_of cs) e in apart-from c cs (λ i. two.0 (cable_of-one c cs i)) (cables-apart cs two.1)

pub cable_of-push : (cs : List ℕ) (c : ℕ) → map cable_of (cs ++ c ∷ []) ≡ map cable_of cs ++ cable_of c ∷ []
cable_of-push [] c = refl
cable_of-push (x ∷ cs) c = ap (λ l. cable_of x ∷ l) (cable_of-push cs c)

-- a cable, read the other way
pub joins-back : (n : Network) (k : ℕ) (d e : End) → Joins n k d e → Joins n k e d
joins-back n k d e (forth p) = back p
joins-back n k d e (back p) = forth p

-- a cable has one pair of ends
pub data SameCable (d e a b : End) : Type 0 where
  one_way : d ≡ a → e ≡ b → SameCable d e a b
  other_way : d ≡ b → e ≡ a → SameCable d e a b

pub same-cable : (n : Network) (k : ℕ) (d e a b : End) → Joins n k d e → Joins n k a b → SameCable d e a b
same-cable n k d e a b (forth {c = c} p) (forth {c = g} q) = let one : c ≡ g = cc in one_way (ap (λ (x : Cable). x.a) one) (ap (λ (x : Cable). x.b) one)
same-cable n k d e a b (forth {c = c} p) (back {c = g} q) = let one : c ≡ g = cc in other_way (ap (λ (x : Cable). x.a) one) (ap (λ (x : Cable). x.b) one)
same-cable n k d e a b (back {c = c} p) (forth {c = g} q) = let one : c ≡ g = cc in other_way (ap (λ (x : Cable). x.b) one) (ap (λ (x : Cable). x.a) one)
same-cable n k d e a b (back {c = c} p) (back {c = g} q) = let one : c ≡ g = cc in one_way (ap (λ (x : Cable). x.b) one) (ap (λ (x : Cable). x.a) one)

-- a port with a far end has a cable
pub record HasCable (n : Network) (d e : End) : Type 0 where
  pub cable : ℕ
  pub joins : Joins n cable d e

record FoundCable (cs : List Cable) (d e : End) : Type 0 where
  pub cable : ℕ
  pub c : Cable
  pub there : slice_get cs cable ≡ Some c
  pub ends : ((c.a ≡ d) × (c.b ≡ e)) ⊎ ((c.b ≡ d) × (c.a ≡ e))

find-cable : (cs : List Cable) (d e : End) → far_end cs d ≡ Some e → FoundCable cs d e
find-cable [] d e p = cc
find-cable (x ∷ cs) d e p = by (same_end x.a d) (same_end x.b d) refl refl p (find-cable cs d e)
  where
    by : (s t : Bool) → same_end x.a d ≡ s → same_end x.b d ≡ t → (if s then Some x.b else if t then Some x.a else far_end cs d) ≡ Some e → (far_end cs d ≡ Some e → FoundCable cs d e) → FoundCable (x ∷ cs) d e
    by true t q r g rest = let one : x.b ≡ e = cc in record { cable = 0; c = x; there = refl; ends = inl (same_end-true x.a d q, one) }
    by false true q r g rest = let one : x.a ≡ e = cc in record { cable = 0; c = x; there = refl; ends = inr (same_end-true x.b d r, one) }
    by false false q r g rest = let f = rest g in record { cable = suc f.cable; c = f.c; there = f.there; ends = f.ends }

pub far-joins : (n : Network) (d e : End) → far n d ≡ Some e → HasCable n d e
far-joins n d e p = let f = find-cable n.cables d e p in by f f.ends
  where
    by : (f : FoundCable n.cables d e) → ((f.c.a ≡ d) × (f.c.b ≡ e)) ⊎ ((f.c.b ≡ d) × (f.c.a ≡ e)) → HasCable n d e
    by f (inl p) = record { cable = f.cable; joins = subst (λ x. Joins n f.cable x e) p.0 (subst (Joins n f.cable f.c.a) p.1 (forth {c = f.c} f.there)) }
    by f (inr p) = record { cable = f.cable; joins = subst (λ x. Joins n f.cable x e) p.0 (subst (Joins n f.cable f.c.b) p.1 (back {c = f.c} f.there)) }

pub ends-one : (d e : End) → d.v ≡ e.v → d.p ≡ e.p → d ≡ e
ends-one d e a b = λ i. record { v = a i; p = b i }

pub joins-low : (n : Network) (k : ℕ) (d e : End) → Joins n k d e → k < length n.cables
joins-low n k d e (forth {c = c} p) = slice_get_within n.cables k c p
joins-low n k d e (back {c = c} p) = slice_get_within n.cables k c p
