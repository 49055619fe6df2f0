-- A walk over fewer cables crosses the first of the channels that it crosses over more.
use Rattle.std.proofs.Common.{◌≡◌, ◌≢◌, ◌+◌, ◌*◌, ℕ, Bool, true, false, ◌&&◌, ℤ, List, [], ◌∷◌, ◌++◌, map, Option, Some, None, refl, sym, ap, ◌∙◌, subst, true≢false, if◌then◌else◌}
use Rattle.std.specs.List.{filter, AllByRecursion}
use Rattle.std.specs.Option.{option_and_then}
use Rattle.std.specs.Prelude.{option_to_list}
use Rattle.net_defs.specs.declared.vertex.Vertex.{Vertex}
use Rattle.net_defs.specs.declared.vertex.Vertex.TheVariants.{Host, Switch}
use Rattle.net_defs.specs.declared.vertex.End.{End}
use Rattle.net_defs.specs.declared.vertex.Cable.{Cable}
use Rattle.net_defs.specs.Network.{Network, IsFabric, Apart, same_end, far_end, ends_of}
use Rattle.net_defs.specs.Route.{next_exit, exit_at, turned, entered_after, place_at, place, host_port}
use Rattle.net_defs.proofs.Ends.{same_end-true, same_end-false}
use Rattle.world_defs.specs.declared.wire.Wire.{Wire}
use Rattle.world_defs.specs.History.{CableHistory, fabric_by}
use Rattle.world_defs.specs.Crossed.{channel_by, channels_by}
use Rattle.world_defs.specs.Fewer.{AreFewer, HasFewer, IsFront, FewerCablesAreFront, ReachedOverMore, PlaceOverMore}

abbrev pub kept : (Wire → Bool) → List Wire → List Cable
kept test ws = map (λ w. w.cable) (filter test ws)

abbrev pub kept_if : Bool → Wire → List Wire → List Cable
kept_if b w ws = map (λ v. v.cable) (if b then w ∷ ws else ws)

-- the far end at a cable's ports, and behind it
abbrev far_at : Cable → Option End → End → Option End
far_at c rest e = if same_end c.a e then Some c.b else if same_end c.b e then Some c.a else rest

-- the channel at a cable's ports, and behind it
abbrev leaves_at : Bool → ℕ → Cable → Option ℕ → End → Option ℕ
leaves_at b k c rest e = if b && same_end c.a e then Some (2 * k) else if b && same_end c.b e then Some (2 * k + 1) else rest

-- what holds of all ends of cables holds of one that has a far end there
far-in : (P : End → Type 0) (cs : List Cable) (e x : End) → far_end cs e ≡ Some x → AllByRecursion P (ends_of cs) → P e
far-in P [] e x is all = cc
far-in P (c ∷ cs) e x is all = by (same_end c.a e) (same_end c.b e) refl refl is (λ k. far-in P cs e x k all.1.1)
  where
    by : (s t : Bool) → same_end c.a e ≡ s → same_end c.b e ≡ t → (if s then Some c.b else if t then Some c.a else far_end cs e) ≡ Some x → (far_end cs e ≡ Some x → P e) → P e
    by true t p q k rest = subst P (same_end-true c.a e p) all.0
    by false true p q k rest = subst P (same_end-true c.b e q) all.1.0
    by false false p q k rest = rest k

-- an answer behind a cable stays, where one list gives what the other gives
far-behind : (c : Cable) (r s : Option End) (e x : End) → (r ≡ Some x → s ≡ Some x) → far_at c r e ≡ Some x → far_at c s e ≡ Some x
far-behind c r s e x rest is = by (same_end c.a e) (same_end c.b e) is
  where
    by : (p q : Bool) → (if p then Some c.b else if q then Some c.a else r) ≡ Some x → (if p then Some c.b else if q then Some c.a else s) ≡ Some x
    by true q k = k
    by false true k = k
    by false false k = rest k

leaves-behind : (k : ℕ) (c : Cable) (r s : Option ℕ) (e : End) (x : ℕ) → (r ≡ Some x → s ≡ Some x) → leaves_at true k c r e ≡ Some x → leaves_at true k c s e ≡ Some x
leaves-behind k c r s e x rest is = by (same_end c.a e) (same_end c.b e) is
  where
    by : (p q : Bool) → (if p then Some (2 * k) else if q then Some (2 * k + 1) else r) ≡ Some x → (if p then Some (2 * k) else if q then Some (2 * k + 1) else s) ≡ Some x
    by true q n = n
    by false true n = n
    by false false n = rest n

-- a channel that leaves by an end has a far end there, and where none leaves there is none
module _ (test : Wire → Bool) where
  pub none-far : (k : ℕ) (ws : List Wire) (e : End) → channel_by test k ws e ≡ None → far_end (kept test ws) e ≡ None
  none-far k [] e is = refl
  none-far k (w ∷ ws) e is = by (test w) (same_end w.cable.a e) (same_end w.cable.b e) refl refl refl (none-far (k + 1) ws e) is
    where
      by : (b s t : Bool) → test w ≡ b → same_end w.cable.a e ≡ s → same_end w.cable.b e ≡ t → (channel_by test (k + 1) ws e ≡ None → far_end (kept test ws) e ≡ None)
          → (if b && s then Some (2 * k) else if b && t then Some (2 * k + 1) else channel_by test (k + 1) ws e) ≡ None → far_end (kept_if b w (filter test ws)) e ≡ None
      by true true t p q r rest n = cc
      by true false true p q r rest n = cc
      by true false false p q r rest n = rw (q, r) (rest n)
      by false s t p q r rest n = rest n

  pub some-far : (k : ℕ) (ws : List Wire) (e : End) (c : ℕ) → channel_by test k ws e ≡ Some c → (x : End) × (far_end (kept test ws) e ≡ Some x)
  some-far k [] e c is = cc
  some-far k (w ∷ ws) e c is = by (test w) (same_end w.cable.a e) (same_end w.cable.b e) refl refl refl (some-far (k + 1) ws e c) is
    where
      by : (b s t : Bool) → test w ≡ b → same_end w.cable.a e ≡ s → same_end w.cable.b e ≡ t → (channel_by test (k + 1) ws e ≡ Some c → (x : End) × (far_end (kept test ws) e ≡ Some x))
          → (if b && s then Some (2 * k) else if b && t then Some (2 * k + 1) else channel_by test (k + 1) ws e) ≡ Some c → (x : End) × (far_end (kept_if b w (filter test ws)) e ≡ Some x)
      by true true t p q r rest n = (w.cable.b, rw q refl)
      by true false true p q r rest n = (w.cable.a, rw (q, r) refl)
      by true false false p q r rest n = let x = rest n in (x.0, rw (q, r) x.1)
      by false s t p q r rest n = rest n

module _ (small big : Wire → Bool) where
  -- fewer cables have fewer ends
  pub ends-fewer : (P : End → Type 0) {vs ws : List Wire} → AreFewer small big vs ws → AllByRecursion P (ends_of (kept big ws)) → AllByRecursion P (ends_of (kept small vs))
  ends-fewer P AreFewer.none all = tt
  ends-fewer P (AreFewer.more {v = v} {w = w} {vs = vs} {ws = ws} same only are) all = by (small v) (big w) refl refl (ends-fewer P are) all
    where
      by : (s b : Bool) → small v ≡ s → big w ≡ b → (AllByRecursion P (ends_of (kept big ws)) → AllByRecursion P (ends_of (kept small vs)))
          → AllByRecursion P (ends_of (kept_if b w (filter big ws))) → AllByRecursion P (ends_of (kept_if s v (filter small vs)))
      by true true p q rest k = (subst (λ c. P c.a) (sym same) k.0, (subst (λ c. P c.b) (sym same) k.1.0, rest k.1.1))
      by true false p q rest k = absurd (true≢false (sym (only p) ∙ q))
      by false true p q rest k = rest k.1.1
      by false false p q rest k = rest k

  -- which stand once where those of more stand once
  pub apart-fewer : {vs ws : List Wire} → AreFewer small big vs ws → Apart (ends_of (kept big ws)) → Apart (ends_of (kept small vs))
  apart-fewer AreFewer.none apart = tt
  apart-fewer (AreFewer.more {v = v} {w = w} {vs = vs} {ws = ws} same only are) apart = by (small v) (big w) refl refl (apart-fewer are) apart
    where
      by : (s b : Bool) → small v ≡ s → big w ≡ b → (Apart (ends_of (kept big ws)) → Apart (ends_of (kept small vs)))
          → Apart (ends_of (kept_if b w (filter big ws))) → Apart (ends_of (kept_if s v (filter small vs)))
      by true true p q rest a =
          let two : v.cable.a ≢ v.cable.b = subst (λ c. c.a ≢ c.b) (sym same) a.0.0 in
          let first : AllByRecursion (λ d. v.cable.a ≢ d) (ends_of (kept small vs)) = subst (λ c. AllByRecursion (λ d. c.a ≢ d) (ends_of (kept small vs))) (sym same) (ends-fewer (λ d. w.cable.a ≢ d) are a.0.1) in
          let second : AllByRecursion (λ d. v.cable.b ≢ d) (ends_of (kept small vs)) = subst (λ c. AllByRecursion (λ d. c.b ≢ d) (ends_of (kept small vs))) (sym same) (ends-fewer (λ d. w.cable.b ≢ d) are a.1.0) in
          ((two, first), (second, rest a.1.1))
      by true false p q rest a = absurd (true≢false (sym (only p) ∙ q))
      by false true p q rest a = rest a.1.1
      by false false p q rest a = rest a

  pub far-fewer : {vs ws : List Wire} (e x : End) → AreFewer small big vs ws → Apart (ends_of (kept big ws)) → far_end (kept small vs) e ≡ Some x → far_end (kept big ws) e ≡ Some x
  far-fewer e x AreFewer.none apart is = is
  far-fewer e x (AreFewer.more {v = v} {w = w} {vs = vs} {ws = ws} same only are) apart is = by (small v) (big w) refl refl (far-fewer e x are) apart is
    where
      by : (s b : Bool) → small v ≡ s → big w ≡ b → (Apart (ends_of (kept big ws)) → far_end (kept small vs) e ≡ Some x → far_end (kept big ws) e ≡ Some x)
          → Apart (ends_of (kept_if b w (filter big ws))) → far_end (kept_if s v (filter small vs)) e ≡ Some x → far_end (kept_if b w (filter big ws)) e ≡ Some x
      by true true p q rest a k = far-behind w.cable (far_end (kept small vs) e) (far_end (kept big ws) e) e x (rest a.1.1) (subst (λ c. far_at c (far_end (kept small vs) e) e ≡ Some x) same k)
      by true false p q rest a k = absurd (true≢false (sym (only p) ∙ q))
      by false true p q rest a k =
          let na : w.cable.a ≢ e = far-in (λ d. w.cable.a ≢ d) (kept small vs) e x k (ends-fewer (λ d. w.cable.a ≢ d) are a.0.1) in
          let nb : w.cable.b ≢ e = far-in (λ d. w.cable.b ≢ d) (kept small vs) e x k (ends-fewer (λ d. w.cable.b ≢ d) are a.1.0) in
          rw (same_end-false w.cable.a e na, same_end-false w.cable.b e nb) (rest a.1.1 k)
      by false false p q rest a k = rest a k

  pub channel-fewer : {vs ws : List Wire} (k : ℕ) (e : End) (c : ℕ) → AreFewer small big vs ws → Apart (ends_of (kept big ws)) → channel_by small k vs e ≡ Some c → channel_by big k ws e ≡ Some c
  channel-fewer k e c AreFewer.none apart is = is
  channel-fewer k e c (AreFewer.more {v = v} {w = w} {vs = vs} {ws = ws} same only are) apart is = by (small v) (big w) refl refl (channel-fewer (k + 1) e c are) apart is
    where
      by : (s b : Bool) → small v ≡ s → big w ≡ b → (Apart (ends_of (kept big ws)) → channel_by small (k + 1) vs e ≡ Some c → channel_by big (k + 1) ws e ≡ Some c)
          → Apart (ends_of (kept_if b w (filter big ws))) → leaves_at s k v.cable (channel_by small (k + 1) vs e) e ≡ Some c → leaves_at b k w.cable (channel_by big (k + 1) ws e) e ≡ Some c
      by true true p q rest a n = leaves-behind k w.cable (channel_by small (k + 1) vs e) (channel_by big (k + 1) ws e) e c (rest a.1.1) (subst (λ x. leaves_at true k x (channel_by small (k + 1) vs e) e ≡ Some c) same n)
      by true false p q rest a n = absurd (true≢false (sym (only p) ∙ q))
      by false true p q rest a n =
          let f = some-far small (k + 1) vs e c n in
          let na : w.cable.a ≢ e = far-in (λ d. w.cable.a ≢ d) (kept small vs) e f.0 f.1 (ends-fewer (λ d. w.cable.a ≢ d) are a.0.1) in
          let nb : w.cable.b ≢ e = far-in (λ d. w.cable.b ≢ d) (kept small vs) e f.0 f.1 (ends-fewer (λ d. w.cable.b ≢ d) are a.1.0) in
          rw (same_end-false w.cable.a e na, same_end-false w.cable.b e nb) (rest a.1.1 n)
      by false false p q rest a n = rest a n

-- no exit, no channels
no-exit : (h : CableHistory) (test : Wire → Bool) (turns : List ℤ) → channels_by h test None turns ≡ []
no-exit h test [] = refl
no-exit h test (turn ∷ turns) = no-exit h test turns

-- an exit depends on the switches alone
pub exit-same : (g h : CableHistory) (small big : Wire → Bool) (d : End) (turn : ℤ) → g.switches ≡ h.switches → exit_at (fabric_by g small) d.v d.p turn ≡ exit_at (fabric_by h big) d.v d.p turn
exit-same g h small big d turn same = by d.v
  where
    by : (v : Vertex) → exit_at (fabric_by g small) v d.p turn ≡ exit_at (fabric_by h big) v d.p turn
    by (Host a) = refl
    by (Switch s) = ap (λ k. exit_at (record { hosts = []; switches = k; cables = [] }) (Switch s) d.p turn) same

pub fewer_front : FewerCablesAreFront
fewer_front g h small big None turns f few = record { rest = []; whole = no-exit h big turns ∙ sym (ap (λ l. l ++ []) (no-exit g small turns)) }
fewer_front g h small big (Some e) [] f few = by (channel_by small 0 g.wires e) refl
  where
    by : (o : Option ℕ) → channel_by small 0 g.wires e ≡ o → IsFront g h small big (Some e) []
    by None is = record { rest = channels_by h big (Some e) []; whole = sym (ap (λ o. option_to_list o ++ channels_by h big (Some e) []) is) }
    by (Some c) is = record { rest = []; whole = ap option_to_list (channel-fewer small big 0 e c few.wires f.ports_once is) ∙ sym (ap (λ o. option_to_list o ++ []) is) }
fewer_front g h small big (Some e) (turn ∷ ts) f few = by (channel_by small 0 g.wires e) refl (λ exit. fewer_front g h small big exit ts f few)
  where
    by : (o : Option ℕ) → channel_by small 0 g.wires e ≡ o → ((exit : Option End) → IsFront g h small big exit ts) → IsFront g h small big (Some e) (turn ∷ ts)
    by None is rest =
        let none : far_end (kept small g.wires) e ≡ None = none-far small 0 g.wires e is in
        let stop : next_exit (fabric_by g small) (Some e) turn ≡ None = ap (option_and_then (λ d. exit_at (fabric_by g small) d.v d.p turn)) none in
        let empty : channels_by g small (Some e) (turn ∷ ts) ≡ [] = (λ i. option_to_list (is i) ++ channels_by g small (stop i) ts) ∙ no-exit g small ts in
        record { rest = channels_by h big (Some e) (turn ∷ ts); whole = sym (ap (λ l. l ++ channels_by h big (Some e) (turn ∷ ts)) empty) }
    by (Some c) is rest =
        let one = channel-fewer small big 0 e c few.wires f.ports_once is in
        let x = some-far small 0 g.wires e c is in
        let there : far_end (kept big h.wires) e ≡ Some x.0 = far-fewer small big e x.0 few.wires f.ports_once x.1 in
        let to : Option End = exit_at (fabric_by g small) x.0.v x.0.p turn in
        let a : next_exit (fabric_by g small) (Some e) turn ≡ to = ap (option_and_then (λ d. exit_at (fabric_by g small) d.v d.p turn)) x.1 in
        let b : next_exit (fabric_by h big) (Some e) turn ≡ to = ap (option_and_then (λ d. exit_at (fabric_by h big) d.v d.p turn)) there ∙ sym (exit-same g h small big x.0 turn few.switches) in
        let r = rest to in
        let long : channels_by h big (Some e) (turn ∷ ts) ≡ c ∷ channels_by h big to ts = λ i. option_to_list (one i) ++ channels_by h big (b i) ts in
        let short : channels_by g small (Some e) (turn ∷ ts) ≡ c ∷ channels_by g small to ts = λ i. option_to_list (is i) ++ channels_by g small (a i) ts in
        let next : channels_by h big to ts ≡ channels_by g small to ts ++ r.rest = r.whole in
        record { rest = r.rest; whole = long ∙ ap (λ l. c ∷ l) next ∙ sym (ap (λ l. l ++ r.rest) short) }

-- an end that is reached
turned-none : (n : Network) (turns : List ℤ) (x : End) → entered_after n None turns ≡ Some x → ⊥
turned-none n [] x e = cc
turned-none n (turn ∷ turns) x e = turned-none n turns x e

far-step : (g h : CableHistory) (small big : Wire → Bool) (turn : ℤ) (d : End) (o : Option End) → IsFabric (fabric_by h big) → HasFewer g h small big → (y : End)
    → option_and_then (far_end (kept small g.wires)) o ≡ Some y → option_and_then (far_end (kept big h.wires)) o ≡ Some y
far-step g h small big turn d None f few y e = cc
far-step g h small big turn d (Some exit) f few y e = far-fewer small big exit y few.wires f.ports_once e

pub reached_over_more : ReachedOverMore
reached_over_more g h small big [] from x f few e = e
reached_over_more g h small big (turn ∷ turns) None x f few e = absurd (turned-none (fabric_by g small) turns x e)
reached_over_more g h small big (turn ∷ turns) (Some d) x f few e = by (turned (fabric_by g small) (Some d) turn) refl (λ next k. reached_over_more g h small big turns next x f few k)
  where
    by : (o : Option End) → turned (fabric_by g small) (Some d) turn ≡ o → ((next : Option End) → entered_after (fabric_by g small) next turns ≡ Some x → entered_after (fabric_by h big) next turns ≡ Some x)
        → entered_after (fabric_by h big) (turned (fabric_by h big) (Some d) turn) turns ≡ Some x
    by None is rest = absurd (turned-none (fabric_by g small) turns x (ap (λ o. entered_after (fabric_by g small) o turns) (sym is) ∙ e))
    by (Some y) is rest =
        let there : option_and_then (far_end (kept big h.wires)) (exit_at (fabric_by g small) d.v d.p turn) ≡ Some y = far-step g h small big turn d (exit_at (fabric_by g small) d.v d.p turn) f few y is in
        let same : turned (fabric_by h big) (Some d) turn ≡ Some y = ap (option_and_then (far_end (kept big h.wires))) (sym (exit-same g h small big d turn few.switches)) ∙ there in
        ap (λ o. entered_after (fabric_by h big) o turns) same ∙ rest (Some y) (ap (λ o. entered_after (fabric_by g small) o turns) (sym is) ∙ e)

pub place_over_more : PlaceOverMore
place_over_more g h small big host turns f few found = by (far_end (kept small g.wires) (host_port host)) refl
  where
    by : (o : Option End) → far_end (kept small g.wires) (host_port host) ≡ o → place (fabric_by h big) host turns ≡ place (fabric_by g small) host turns
    by None is = absurd (found (ap place_at (ap (λ o. entered_after (fabric_by g small) o turns) is ∙ stuck turns)))
      where
        stuck : (ts : List ℤ) → entered_after (fabric_by g small) None ts ≡ None
        stuck [] = refl
        stuck (t ∷ ts) = stuck ts
    by (Some d) is =
        let there : far_end (kept big h.wires) (host_port host) ≡ Some d = far-fewer small big (host_port host) d few.wires f.ports_once is in
        ends (entered_after (fabric_by g small) (Some d) turns) refl there
      where
        ends : (o : Option End) → entered_after (fabric_by g small) (Some d) turns ≡ o → far_end (kept big h.wires) (host_port host) ≡ Some d → place (fabric_by h big) host turns ≡ place (fabric_by g small) host turns
        ends None k there = absurd (found (ap place_at (ap (λ o. entered_after (fabric_by g small) o turns) is ∙ k)))
        ends (Some x) k there =
            let big_is : entered_after (fabric_by h big) (Some d) turns ≡ Some x = reached_over_more g h small big turns (Some d) x f few k in
            ap place_at (ap (λ o. entered_after (fabric_by h big) o turns) there ∙ big_is) ∙ sym (ap place_at (ap (λ o. entered_after (fabric_by g small) o turns) is ∙ k))
