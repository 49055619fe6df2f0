-- What a planned fault does to a packet alone: nothing, or it takes it away, or it spoils it, or it pulls a cable.
use Rattle.std.proofs.Common.{◌≡◌, ◌≢◌, ◌<◌, ◌≤◌, ◌+◌, ◌*◌, ◌/◌, ◌%◌, ℕ, zero, suc, Bool, true, false, not, ◌&&◌, nat_eq, nat_lt, List, [], ◌∷◌, length, replicate, set, ◌⊎◌, inl, inr, ⊎_elim, Option, Some, None, IfSome, cond, is_some, refl, sym, ap, ◌∙◌, subst, arith, true≢false, if◌then◌else◌}
use Rattle.std.specs.List.{AllByRecursion, slice_get, slice_set}
use Rattle.std.specs.Option.{option_map_or}
use Rattle.std.specs.Map.{lookup, remove_entry}
use Rattle.std.proofs.lemmas.Bool.Decides.{nat_tests}
use Rattle.net_defs.proofs.Ends.{both}
use Rattle.packet_defs.specs.Packet.{difference}
use Rattle.packet_defs.specs.Burst.{flipped, may_flip}
use Rattle.packet_defs.proofs.Bursts.{flip-seen}
use Rattle.net_defs.specs.declared.vertex.End.{End}
use Rattle.world_defs.specs.declared.wire.Wire.{Wire}
use Rattle.world_defs.specs.History.{CableHistory, is_in_place, pulled_by, with_pulled}
use Rattle.world_defs.specs.Crossed.{leaving, life_channels, is_standing, pulled_with}
use Rattle.world_defs.specs.Later.{OnlyPulled}
use Rattle.world_defs.proofs.ForLife.{leaving_has_its_end}
use Rattle.world_defs.proofs.CablesKept.{standing-wire}
use Rattle.world_defs.proofs.Left.{standing-other}
use Rattle.world_defs.proofs.Shapes.{pulled-channels}
use Rattle.world_defs.specs.Links.{Held, LinkState, packet_in, with_packet, emptied}
use Rattle.world_defs.specs.Fault.{repeat_of, hold_of, is_used_up, with_caught, flip_of, pull_by}
use Rattle.world_defs.proofs.Idling.{pick}
use Rattle.world_defs.specs.declared.fault.Fault.{Fault}
use Rattle.world_defs.specs.declared.fault.Fault.TheVariants.{Lose as LoseFault, Repeat as RepeatFault, Hold as HoldFault, Flip as FlipFault, Pull as PullFault}
use Rattle.world_defs.specs.World.{WorldState, without_fault}
use Rattle.world_defs.specs.Step.{fault_on, is_harm, struck_by, fault_strikes, planned_strikes}
use Rattle.world_defs.specs.EightBits.{IsByteFault, HasByteFaults}
use Rattle.world_defs.proofs.Kept.{without-all, planned_one}
use Rattle.ask_laws.proofs.Lone.{IsBare, HasLone, set-twice, set-empty, has-lone, take-lone, other-lone, lone-there}

-- a fault on a channel that has a packet alone
pub data Fate (s : LinkState) (c : ℕ) (held : Held) (f : Fault) (o : Bool × LinkState) : Type 0 where
  missed : o.0 ≡ false → Fate s c held f o
  copied : is_harm f ≡ false → o.0 ≡ true → o.1.cables ≡ s.cables → HasLone o.1 c held → Fate s c held f o
  taken : is_harm f ≡ true → o.0 ≡ true → o.1.cables ≡ s.cables → IsBare o.1 → Fate s c held f o
  cut : is_harm f ≡ false → o.0 ≡ true → OnlyPulled s.cables o.1.cables → s.cables.changes < o.1.cables.changes → (IsBare o.1 × (is_standing o.1.cables c ≡ false)) ⊎ (HasLone o.1 c held × (is_standing o.1.cables c ≡ is_standing s.cables c)) → Fate s c held f o
  spoilt : (new : Held) → is_harm f ≡ true → o.0 ≡ true → o.1.cables ≡ s.cables → HasLone o.1 c new → (IsByteFault f → held.marked ≡ false → difference held.wire ≡ 0 → 0 < difference new.wire) → Fate s c held f o

-- what a test of serials answers
abbrev caught_if : Bool → LinkState → ℕ → LinkState → Bool × LinkState
caught_if t s serial l = (is_some (pick t (None, s) (Some serial, l)).0, (pick t (None, s) (Some serial, l)).1)

repeat-fate : (s : LinkState) (c : ℕ) (held : Held) (t : Bool) → HasLone s c held → Fate s c held RepeatFault (caught_if t s s.next_serial (with_caught s c held))
repeat-fate s c held true e = Fate.missed refl
repeat-fate s c held false e = Fate.copied refl refl refl e

hold-fate : (s : LinkState) (c : ℕ) (held : Held) (t : Bool) → HasLone s c held → Fate s c held HoldFault (caught_if t s s.next_serial (with_caught (emptied s c) c held))
hold-fate s c held true e = Fate.missed refl
hold-fate s c held false e = Fate.taken refl refl refl (take-lone s c held e)

flip-differs : (held : Held) (bit pattern : ℕ) → (not held.marked && may_flip held.wire bit pattern) ≡ true → pattern < 256 → difference held.wire ≡ 0 → 0 < difference (flipped held.wire bit pattern)
flip-differs held bit pattern e low none =
    let two = both (not held.marked) (may_flip held.wire bit pattern) e in
    let parts = both (nat_lt 0 pattern) (nat_lt (bit + 7) (8 * length held.wire)) two.1 in
    let some = parts.0 in
    let room = parts.1 in
    flip-seen held.wire bit pattern none (grind (arith, nat_tests)) low (grind (arith, nat_tests))

flip-fate : (s : LinkState) (c : ℕ) (held : Held) (bit pattern : ℕ) (t : Bool) → (not held.marked && may_flip held.wire bit pattern) ≡ t → HasLone s c held → Fate s c held (FlipFault bit pattern) (pick t (true, with_packet s c (Some (record held { wire = flipped held.wire bit pattern; marked = true }))) (false, s))
flip-fate s c held bit pattern true e is =
    let new : Held = record held { wire = flipped held.wire bit pattern; marked = true } in
    Fate.spoilt new refl refl refl (other-lone s c held new is) (λ low m none. flip-differs held bit pattern e low none)
flip-fate s c held bit pattern false e is = Fate.missed refl

-- a pull of the packet's own cable takes it, and one of another leaves it
set-empty_at : (k c d : ℕ) (held : Held) → nat_eq d c ≡ false → set (set (replicate {A = Option Held} k None) c (Some held)) d None ≡ set (replicate k None) c (Some held)
set-empty_at zero c d held apart = refl
set-empty_at (suc k) zero zero held apart = absurd (true≢false apart)
set-empty_at (suc k) zero (suc d) held apart = ap (λ l. Some held ∷ l) (set-empty k d None)
set-empty_at (suc k) (suc c) zero held apart = refl
set-empty_at (suc k) (suc c) (suc d) held apart = ap (λ l. None ∷ l) (set-empty_at k c d held (let n : nat_eq d c ≡ false = grind (arith, nat_tests) in n))

taken-at : (k c d : ℕ) (held : Held) → nat_eq d c ≡ true → set (set (replicate {A = Option Held} k None) c (Some held)) d None ≡ replicate k None
taken-at k c d held e =
    let same : d ≡ c = grind (arith, nat_tests) in
    ap (λ j. set (set (replicate {A = Option Held} k None) c (Some held)) j None) same ∙ set-twice (replicate k None) c (Some held) None ∙ set-empty k c None

-- the two channels of a cable are emptied
emptied-cable : (k c i : ℕ) (held : Held) → ((set (set (set (replicate {A = Option Held} k None) c (Some held)) (2 * i) None) (2 * i + 1) None ≡ replicate k None) × (nat_eq (c / 2) i ≡ true))
    ⊎ ((set (set (set (replicate {A = Option Held} k None) c (Some held)) (2 * i) None) (2 * i + 1) None ≡ set (replicate k None) c (Some held)) × (nat_eq (c / 2) i ≡ false))
emptied-cable k c i held = by (nat_eq (2 * i) c) (nat_eq (2 * i + 1) c) refl refl
  where
    by : (a b : Bool) → nat_eq (2 * i) c ≡ a → nat_eq (2 * i + 1) c ≡ b → ((set (set (set (replicate {A = Option Held} k None) c (Some held)) (2 * i) None) (2 * i + 1) None ≡ replicate k None) × (nat_eq (c / 2) i ≡ true))
        ⊎ ((set (set (set (replicate {A = Option Held} k None) c (Some held)) (2 * i) None) (2 * i + 1) None ≡ set (replicate k None) c (Some held)) × (nat_eq (c / 2) i ≡ false))
    by true b p q = let own : 2 * i ≡ c = grind (arith, nat_tests) in let half : c / 2 ≡ i = omega (arith, own) in inl (ap (λ l. set l (2 * i + 1) None) (taken-at k c (2 * i) held p) ∙ set-empty k (2 * i + 1) None, grind (arith, nat_tests))
    by false true p q = let own : 2 * i + 1 ≡ c = grind (arith, nat_tests) in let half : c / 2 ≡ i = omega (arith, own) in inl (ap (λ l. set l (2 * i + 1) None) (set-empty_at k c (2 * i) held p) ∙ taken-at k c (2 * i + 1) held q, grind (arith, nat_tests))
    by false false p q =
        let a : (2 * i ≡ c) → ⊥ = grind (arith, nat_tests) in
        let b : (2 * i + 1 ≡ c) → ⊥ = grind (arith, nat_tests) in
        let other : (c / 2 ≡ i) → ⊥ = λ same. absurd (odd-or_even c i same a b) in
        inr (ap (λ l. set l (2 * i + 1) None) (set-empty_at k c (2 * i) held p) ∙ set-empty_at k c (2 * i + 1) held q, grind (arith, nat_tests))
      where
        odd-or_even : (c i : ℕ) → c / 2 ≡ i → ((2 * i ≡ c) → ⊥) → ((2 * i + 1 ≡ c) → ⊥) → ⊥
        odd-or_even c i same a b = by_rest (c % 2) refl
          where
            by_rest : (r : ℕ) → c % 2 ≡ r → ⊥
            by_rest zero e = a (omega (arith, same, e))
            by_rest (suc zero) e = b (omega (arith, same, e))
            by_rest (suc (suc r)) e = omega (arith, e)

-- the pulled cable's channels stand no more
set-here : (ws : List Wire) (k : ℕ) (v : Wire) → is_in_place v ≡ false → option_map_or is_in_place (slice_get (slice_set ws k v) k) false ≡ false
set-here [] k v e = refl
set-here (w ∷ ws) zero v e = e
set-here (w ∷ ws) (suc k) v e = set-here ws k v e

standing-taken : (h : CableHistory) (k c : ℕ) → nat_eq (c / 2) k ≡ true → is_standing (with_pulled h k) c ≡ false
standing-taken h k c e =
    let same : c / 2 ≡ k = grind (arith, nat_tests) in
    ap (λ j. option_map_or is_in_place (slice_get (with_pulled h k).wires j) false) same ∙ by (slice_get h.wires k) refl
  where
    by : (o : Option Wire) → slice_get h.wires k ≡ o → option_map_or is_in_place (slice_get (pulled_by h k o).wires k) false ≡ false
    by None f = ap (λ x. option_map_or is_in_place x false) f
    by (Some w) f = set-here h.wires k (record w { pulled = Some (h.changes + 1) }) refl

pull-fate : (s : LinkState) (c : ℕ) (held : Held) (at : End) (o : Option ℕ) → leaving s.cables at ≡ o → HasLone s c held → Fate s c held (PullFault at) (pull_by s o)
pull-fate s c held at None e is = Fate.missed refl
pull-fate s c held at (Some d) e is =
    let l = leaving_has_its_end s.cables at d e in
    let wire = standing-wire s.cables.wires (d / 2) l.in_place in
    let only : OnlyPulled s.cables (with_pulled s.cables (d / 2)) = subst (λ h. OnlyPulled s.cables h) (ap (pulled_with s.cables) e) (OnlyPulled.pulls at OnlyPulled.still) in
    let one : (with_pulled s.cables (d / 2)).changes ≡ s.cables.changes + 1 = ap (λ o. (pulled_by s.cables (d / 2) o).changes) wire.1 in
    let long : life_channels (with_pulled s.cables (d / 2)) ≡ life_channels s.cables = pulled-channels s.cables (d / 2) in
    let now : set (set s.channels (2 * (d / 2)) None) (2 * (d / 2) + 1) None ≡ set (set (set (replicate (life_channels s.cables) None) c (Some held)) (2 * (d / 2)) None) (2 * (d / 2) + 1) None = ap (λ ps. set (set ps (2 * (d / 2)) None) (2 * (d / 2) + 1) None) is in
    Fate.cut refl refl only (omega (arith, one))
    (⊎_elim
    (λ bare. inl (now ∙ bare.0 ∙ ap (λ k. replicate k None) (sym long), standing-taken s.cables (d / 2) c bare.1))
    (λ kept. inr (now ∙ kept.0 ∙ ap (λ k. set (replicate k None) c (Some held)) (sym long), standing-other s.cables (d / 2) c kept.1))
    (emptied-cable (life_channels s.cables) c (d / 2) held))

there : (s : LinkState) (c : ℕ) (held : Held) → c < life_channels s.cables → HasLone s c held → packet_in s c ≡ Some held
there s c held low e = ap (λ t. packet_in t c) (has-lone s c held e) ∙ lone-there s c held low

fault-fate : (s : LinkState) (c : ℕ) (held : Held) (f : Fault) → c < life_channels s.cables → HasLone s c held → Fate s c held f (fault_on s c f)
fault-fate s c held LoseFault low e = Fate.taken refl (ap is_some (there s c held low e)) refl (take-lone s c held e)
fault-fate s c held RepeatFault low e =
    subst (λ q. Fate s c held RepeatFault (is_some (repeat_of s c q).0, (repeat_of s c q).1)) (sym (there s c held low e)) (repeat-fate s c held (is_used_up s) e)
fault-fate s c held HoldFault low e =
    subst (λ q. Fate s c held HoldFault (is_some (hold_of s c q).0, (hold_of s c q).1)) (sym (there s c held low e)) (hold-fate s c held (is_used_up s) e)
fault-fate s c held (FlipFault bit pattern) low e =
    subst (λ q. Fate s c held (FlipFault bit pattern) (flip_of s c bit pattern q)) (sym (there s c held low e)) (flip-fate s c held bit pattern (not held.marked && may_flip held.wire bit pattern) refl e)
fault-fate s c held (PullFault at) low e = pull-fate s c held at (leaving s.cables at) refl e

-- What a strike keeps of the world.
pub record StrikeKeeps (u v : WorldState) : Type 0 where
  pub pulled : OnlyPulled u.links.cables v.links.cables
  pub nodes : v.nodes ≡ u.nodes
  pub clients : v.clients ≡ u.clients
  pub adopted : v.adopted ≡ u.adopted
  pub injected : v.injected ≡ u.injected
  pub unplanned : (number : ℕ) → lookup (nat_eq number) u.plan ≡ None → lookup (nat_eq number) v.plan ≡ None
  pub byte_flips : HasByteFaults u → HasByteFaults v
  pub struck : u.struck ≤ v.struck
  pub harmed : u.harmed ≤ v.harmed

-- What a strike makes of the packet: a pull may take it with its cable.
pub data Outcome (u v : WorldState) (c : ℕ) (held : Held) : Type 0 where
  intact : HasLone v.links c held → v.links.cables ≡ u.links.cables → v.harmed ≡ u.harmed → Outcome u v c held
  cut : (IsBare v.links × (is_standing v.links.cables c ≡ false)) ⊎ (HasLone v.links c held × (is_standing v.links.cables c ≡ is_standing u.links.cables c)) → u.links.cables.changes < v.links.cables.changes → v.harmed ≡ u.harmed → Outcome u v c held
  gone : IsBare v.links → v.links.cables ≡ u.links.cables → v.harmed ≡ u.harmed + 1 → lookup (nat_eq u.injected) u.plan ≢ None → Outcome u v c held
  marred : (new : Held) → HasLone v.links c new → v.links.cables ≡ u.links.cables → (HasByteFaults u → held.marked ≡ false → difference held.wire ≡ 0 → 0 < difference new.wire) → v.harmed ≡ u.harmed + 1 → lookup (nat_eq u.injected) u.plan ≢ None → Outcome u v c held

pub record StruckSo (u v : WorldState) (c : ℕ) (held : Held) : Type 0 where
  pub keeps : StrikeKeeps u v
  pub outcome : Outcome u v c held

-- the plan without one fault
pub without-none : (test other : ℕ → Bool) (fs : List (ℕ × Fault)) → lookup other fs ≡ None → lookup other (remove_entry test fs) ≡ None
without-none test other [] e = refl
without-none test other (f ∷ fs) e = by (test f.0) (other f.0) refl e (without-none test other fs)
  where
    by : (t o : Bool) → other f.0 ≡ o → cond o (Some f.1) (lookup other fs) ≡ None → (lookup other fs ≡ None → lookup other (remove_entry test fs) ≡ None) → lookup other (cond t fs (f ∷ remove_entry test fs)) ≡ None
    by t true p d rest = cc
    by true false p d rest = d
    by false false p d rest = rw p (rest d)

looked-up : (number : ℕ) (fs : List (ℕ × Fault)) (x : Fault) → AllByRecursion (λ f. IsByteFault f.1) fs → lookup (nat_eq number) fs ≡ Some x → IsByteFault x
looked-up number fs x all e = subst (λ o. IfSome o IsByteFault) e (planned_one number fs all)

no-strike : (u : WorldState) → StrikeKeeps u u
no-strike u = record { pulled = OnlyPulled.still; nodes = refl; clients = refl; adopted = refl; injected = refl; unplanned = λ number e. e; byte_flips = λ all. all; struck = omega arith; harmed = omega arith }

harm-more : (f : Fault) (n : ℕ) → is_harm f ≡ true → (if is_harm f then n + 1 else n) ≡ n + 1
harm-more f n e = rw e refl

harm-same : (f : Fault) (n : ℕ) → is_harm f ≡ false → (if is_harm f then n + 1 else n) ≡ n
harm-same f n e = rw e refl

harm-rises : (t : Bool) (n : ℕ) → n ≤ (if t then n + 1 else n)
harm-rises true n = omega arith
harm-rises false n = omega arith

strike-so : (u : WorldState) (c : ℕ) (held : Held) (f : Fault) (o : Bool × LinkState) → lookup (nat_eq u.injected) u.plan ≡ Some f → HasLone u.links c held → Fate u.links c held f o → StruckSo u (struck_by (record u { plan = without_fault u.injected u.plan }) f o) c held
strike-so u c held f (true, l) planned is fate = record {
  keeps = record {
    pulled = cables fate;
    nodes = refl;
    clients = refl;
    adopted = refl;
    injected = refl;
    unplanned = λ number e. without-none (nat_eq u.injected) (nat_eq number) u.plan e;
    byte_flips = λ all. without-all u.injected u.plan all;
    struck = omega arith;
    harmed = harm-rises (is_harm f) u.harmed;
  };
  outcome = by fate;
}
  where
    some : lookup (nat_eq u.injected) u.plan ≢ None
    some none = let bad : None ≡ Some f = sym none ∙ planned in cc

    same : l.cables ≡ u.links.cables → OnlyPulled u.links.cables l.cables
    same n = subst (λ h. OnlyPulled u.links.cables h) (sym n) OnlyPulled.still

    cables : Fate u.links c held f (true, l) → OnlyPulled u.links.cables l.cables
    cables (Fate.missed m) = absurd (true≢false m)
    cables (Fate.copied h s n e) = same n
    cables (Fate.taken h s n e) = same n
    cables (Fate.cut h s p more e) = p
    cables (Fate.spoilt new h s n e d) = same n

    by : Fate u.links c held f (true, l) → Outcome u (struck_by (record u { plan = without_fault u.injected u.plan }) f (true, l)) c held
    by (Fate.missed m) = absurd (true≢false m)
    by (Fate.copied h s n e) = Outcome.intact e n (harm-same f u.harmed h)
    by (Fate.taken h s n e) = Outcome.gone e n (harm-more f u.harmed h) some
    by (Fate.cut h s p more e) = Outcome.cut e more (harm-same f u.harmed h)
    by (Fate.spoilt new h s n e d) = Outcome.marred new e n (λ all m none. d (looked-up u.injected u.plan f all planned) m none) (harm-more f u.harmed h) some
strike-so u c held f (false, l) planned is fate = record {
  keeps = record {
    pulled = OnlyPulled.still;
    nodes = refl;
    clients = refl;
    adopted = refl;
    injected = refl;
    unplanned = λ number e. without-none (nat_eq u.injected) (nat_eq number) u.plan e;
    byte_flips = λ all. without-all u.injected u.plan all;
    struck = omega arith;
    harmed = omega arith;
  };
  outcome = Outcome.intact is refl refl;
}

strikes-so : (u : WorldState) (c : ℕ) (held : Held) (o : Option Fault) → lookup (nat_eq u.injected) u.plan ≡ o → c < life_channels u.links.cables → HasLone u.links c held → StruckSo u (fault_strikes u c o) c held
strikes-so u c held None e low is = record { keeps = no-strike u; outcome = Outcome.intact is refl refl }
strikes-so u c held (Some f) e low is = strike-so u c held f (fault_on u.links c f) e is (fault-fate u.links c held f low is)

pub planned-so : (u : WorldState) (c : ℕ) (held : Held) → c < life_channels u.links.cables → HasLone u.links c held → StruckSo u (planned_strikes u c) c held
unfolding planned_strikes
planned-so u c held low is = strikes-so u c held (lookup (nat_eq u.injected) u.plan) refl low is
