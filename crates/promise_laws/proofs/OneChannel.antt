-- A change of one channel leaves the others: what they hold, and what limbo holds of them.
use Rattle.std.proofs.Common.{◌≡◌, ◌≢◌, ◌+◌, ◌*◌, ◌/◌, ℕ, zero, suc, Bool, true, false, not, ◌&&◌, List, [], ◌∷◌, ◌++◌, get_or, Option, Some, None, is_some, nat_eq, refl, sym, ap, subst, ◌∙◌, arith, append-nil, if◌then◌else◌}
use Rattle.std.proofs.lemmas.Bool.Decides.{nat_tests}
use Rattle.std.specs.List.{filter}
use Rattle.std.specs.Map.{lookup, remove_entry}
use Rattle.packet_defs.specs.Burst.{flipped, may_flip}
use Rattle.gm_defs.proofs.Found.{filter-append, filter-none}
use Rattle.world_defs.specs.Links.{Held, Caught, LinkState, packet_in, with_packet, emptied, put}
use Rattle.net_defs.specs.declared.vertex.End.{End}
use Rattle.world_defs.specs.History.{may_plug, with_plugged}
use Rattle.world_defs.specs.Crossed.{leaving}
use Rattle.world_defs.specs.Fault.{caught_as, is_used_up, repeat, repeat_of, hold, hold_of, flip, flip_of, released, replay_of, with_caught, without_cable, pulled, pull_by, plug}
use Rattle.world_defs.specs.declared.replayed.Replayed.{Replayed}
use Rattle.world_defs.specs.declared.replayed.Replayed.TheVariants.{Back, Busy}
use Rattle.world_defs.specs.declared.fault.Fault.{Fault}
use Rattle.world_defs.specs.declared.fault.Fault.TheVariants.{Lose as LoseFault, Repeat as RepeatFault, Hold as HoldFault, Flip as FlipFault, Pull as PullFault}
use Rattle.world_defs.specs.Node.{Outgoing}
use Rattle.world_defs.specs.World.{WorldState}
use Rattle.world_defs.specs.Step.{fault_on, sent_out, planned_strikes}
use Rattle.world_defs.proofs.Lists.{each-set}
use Rattle.world_defs.proofs.Kept.{sent-cables}
use Rattle.world_defs.proofs.Strikes.{Strike, strike_view, fault_on-step}
use Rattle.promise_laws.specs.OneAction.{was_in, ChannelStays}

pub channel-same : (s : LinkState) (c : ℕ) → ChannelStays s s c
channel-same s c = record { packet = refl; limbo = refl }

-- all channels but one stay
abbrev pub SameBut : LinkState → LinkState → ℕ → Type 0
SameBut s t c = (k : ℕ) → k ≢ c → ChannelStays s t k

all-same : (s : LinkState) (c : ℕ) → SameBut s s c
all-same s c k n = channel-same s k

same-then : (s t u : LinkState) (c : ℕ) → SameBut s t c → SameBut t u c → SameBut s u c
same-then s t u c f g k n =
    let a = f k n in
    let b = g k n in
    record { packet = b.packet ∙ a.packet; limbo = b.limbo ∙ a.limbo }

other-number : (c k : ℕ) → k ≢ c → nat_eq c k ≡ false
other-number c k n = by (nat_eq c k) refl
  where
    by : (b : Bool) → nat_eq c k ≡ b → b ≡ false
    by true e = let same : k ≡ c = grind (arith, nat_tests) in absurd (n same)
    by false e = refl

pub with_packet-same : (s : LinkState) (c : ℕ) (p : Option Held) → SameBut s (with_packet s c p) c
with_packet-same s c p k n = record {
  packet = each-set (λ i x. i ≢ c → x ≡ packet_in s i) s.channels c k p None (λ bad. absurd (bad refl)) (λ i ok. refl) n;
  limbo = refl;
}

-- a packet more in limbo
with_caught-same : (s : LinkState) (c : ℕ) (held : Held) → SameBut s (with_caught s c held) c
with_caught-same s c held k n =
    let new : ℕ × Caught = (s.next_serial, record { channel = c; held = held }) in
    record { packet = refl; limbo = filter-append (was_in k) s.limbo (new ∷ []) ∙ ap (λ l. filter (was_in k) s.limbo ++ l) (filter-none (was_in k) new [] (other-number c k n)) ∙ append-nil (filter (was_in k) s.limbo) }

-- a packet less in limbo
removed-same : (es : List (ℕ × Caught)) (serial k : ℕ) (caught : Caught) → lookup (nat_eq serial) es ≡ Some caught → nat_eq caught.channel k ≡ false
    → filter (was_in k) (remove_entry (nat_eq serial) es) ≡ filter (was_in k) es
removed-same [] serial k caught e n = refl
removed-same (x ∷ es) serial k caught e n = by (nat_eq serial x.0) (nat_eq x.1.channel k) refl (removed-same es serial k caught) e
  where
    by : (here mine : Bool) → nat_eq x.1.channel k ≡ mine
        → (lookup (nat_eq serial) es ≡ Some caught → nat_eq caught.channel k ≡ false → filter (was_in k) (remove_entry (nat_eq serial) es) ≡ filter (was_in k) es)
        → (if here then Some x.1 else lookup (nat_eq serial) es) ≡ Some caught
        → filter (was_in k) (if here then es else x ∷ remove_entry (nat_eq serial) es) ≡ (if mine then x ∷ filter (was_in k) es else filter (was_in k) es)
    by true mine f rest d =
        let same : x.1 ≡ caught = cc in
        let none : mine ≡ false = sym f ∙ ap (λ (y : Caught). nat_eq y.channel k) same ∙ n in
        sym (ap (λ b. if b then x ∷ filter (was_in k) es else filter (was_in k) es) none)
    by false mine f rest d = ap (λ b. if b then x ∷ filter (was_in k) (remove_entry (nat_eq serial) es) else filter (was_in k) (remove_entry (nat_eq serial) es)) f ∙ ap (λ l. if mine then x ∷ l else l) (rest d n)

put-same : (s : LinkState) (c : ℕ) (wire : List ℕ) → SameBut s (put s c wire).1 c
put-same s c wire = by (is_some (packet_in s c))
  where
    by : (t : Bool) → SameBut s (let r : Bool × LinkState = if t then (false, s) else (true, with_packet s c (Some (record { wire = wire; marked = false; born = s.epoch }))) in r).1 c
    by true = all-same s c
    by false = with_packet-same s c (Some (record { wire = wire; marked = false; born = s.epoch }))

-- what a cable does to a channel's packet leaves the others
pub repeat-same : (s : LinkState) (c : ℕ) → SameBut s (repeat s c).1 c
repeat-same s c = of (packet_in s c)
  where
    by : (held : Held) (t : Bool) → SameBut s (let r : Option ℕ × LinkState = if t then (None, s) else (Some s.next_serial, with_caught s c held) in r).1 c
    by held true = all-same s c
    by held false = with_caught-same s c held

    of : (o : Option Held) → SameBut s (repeat_of s c o).1 c
    of None = all-same s c
    of (Some held) = by held (is_used_up s)

pub hold-same : (s : LinkState) (c : ℕ) → SameBut s (hold s c).1 c
hold-same s c = of (packet_in s c)
  where
    by : (held : Held) (t : Bool) → SameBut s (let r : Option ℕ × LinkState = if t then (None, s) else (Some s.next_serial, with_caught (emptied s c) c held) in r).1 c
    by held true = all-same s c
    by held false = same-then s (emptied s c) (with_caught (emptied s c) c held) c (with_packet-same s c None) (with_caught-same (emptied s c) c held)

    of : (o : Option Held) → SameBut s (hold_of s c o).1 c
    of None = all-same s c
    of (Some held) = by held (is_used_up s)

pub flip-same : (s : LinkState) (c bit pattern : ℕ) → SameBut s (flip s c bit pattern).1 c
flip-same s c bit pattern = of (packet_in s c)
  where
    by : (held : Held) (t : Bool) → SameBut s (let r : Bool × LinkState = if t then (true, with_packet s c (Some (record held { wire = flipped held.wire bit pattern; marked = true }))) else (false, s) in r).1 c
    by held true = with_packet-same s c (Some (record held { wire = flipped held.wire bit pattern; marked = true }))
    by held false = all-same s c

    of : (o : Option Held) → SameBut s (flip_of s c bit pattern o).1 c
    of None = all-same s c
    of (Some held) = by held (not held.marked && may_flip held.wire bit pattern)

-- a pull leaves the channels of other cables
kept-in : (es : List (ℕ × Caught)) (c k : ℕ) → c / 2 ≢ k → filter (was_in c) (without_cable k es) ≡ filter (was_in c) es
kept-in [] c k n = refl
kept-in (x ∷ es) c k n = by (nat_eq x.1.channel c) (nat_eq (x.1.channel / 2) k) refl refl (kept-in es c k n)
  where
    by : (mine cut : Bool) → nat_eq x.1.channel c ≡ mine → nat_eq (x.1.channel / 2) k ≡ cut → filter (was_in c) (without_cable k es) ≡ filter (was_in c) es
        → filter (was_in c) (if not cut then x ∷ without_cable k es else without_cable k es) ≡ (if mine then x ∷ filter (was_in c) es else filter (was_in c) es)
    by true true e f rest =
        let here : x.1.channel ≡ c = grind (arith, nat_tests) in
        let half : x.1.channel / 2 ≡ k = grind (arith, nat_tests) in
        absurd (n (ap (λ j. j / 2) (sym here) ∙ half))
    by false true e f rest = rest
    by mine false e f rest = ap (λ t. if t then x ∷ filter (was_in c) (without_cable k es) else filter (was_in c) (without_cable k es)) e ∙ ap (λ l. if mine then x ∷ l else l) rest

pub pulled-same : (s : LinkState) (k c : ℕ) → c / 2 ≢ k → ChannelStays s (pulled s k) c
pulled-same s k c n =
    let first : c ≢ 2 * k = λ e. n (omega (arith, e)) in
    let second : c ≢ 2 * k + 1 = λ e. n (omega (arith, e)) in
    let one = with_packet-same s (2 * k) None c first in
    let two = with_packet-same (emptied s (2 * k)) (2 * k + 1) None c second in
    record { packet = two.packet ∙ one.packet; limbo = kept-in s.limbo c k n }

-- a plug leaves all that are there
grown-same : (ps : List (Option Held)) (c : ℕ) → get_or (ps ++ None ∷ None ∷ []) c None ≡ get_or ps c None
grown-same [] zero = refl
grown-same [] (suc zero) = refl
grown-same [] (suc (suc c)) = refl
grown-same (p ∷ ps) zero = refl
grown-same (p ∷ ps) (suc c) = grown-same ps c

pub plugged-same : (s : LinkState) (a b : End) (c : ℕ) → ChannelStays s (plug s a b).1 c
plugged-same s a b c = by (may_plug s.cables a b)
  where
    by : (t : Bool) → ChannelStays s (if t then (let r : Bool × LinkState = (true, record s { cables = with_plugged s.cables a b; channels = s.channels ++ None ∷ None ∷ [] }) in r) else (false, s)).1 c
    by true = record { packet = grown-same s.channels c; limbo = refl }
    by false = channel-same s c

-- no planned pull takes the cable of this channel
abbrev pub IsUncut : LinkState → Fault → ℕ → Type 0
IsUncut s f k = (at : End) (d : ℕ) → f ≡ PullFault at → leaving s.cables at ≡ Some d → k / 2 ≡ d / 2 → ⊥

pull-same : (s : LinkState) (at : End) (o : Option ℕ) (k : ℕ) → leaving s.cables at ≡ o → IsUncut s (PullFault at) k → ChannelStays s (pull_by s o).1 k
pull-same s at None k e not_cut = channel-same s k
pull-same s at (Some d) k e not_cut = pulled-same s (d / 2) k (λ same. not_cut at d refl e same)

fault-same : (s : LinkState) (c : ℕ) (f : Fault) (k : ℕ) → k ≢ c → IsUncut s f k → ChannelStays s (fault_on s c f).1 k
fault-same s c LoseFault k n not_cut = with_packet-same s c None k n
fault-same s c RepeatFault k n not_cut = repeat-same s c k n
fault-same s c HoldFault k n not_cut = hold-same s c k n
fault-same s c (FlipFault bit pattern) k n not_cut = flip-same s c bit pattern k n
fault-same s c (PullFault at) k n not_cut = pull-same s at (leaving s.cables at) k refl not_cut

-- a replay is of the channel that the packet was in
pub replay-same : (s : LinkState) (serial : ℕ) (caught : Caught) → caught_as s serial ≡ Some caught → SameBut s (replay_of s serial (Some caught)).1 caught.channel
replay-same s serial caught e = by (is_some (packet_in s caught.channel))
  where
    out : SameBut s (released s serial caught) caught.channel
    out k n = record {
      packet = (with_packet-same s caught.channel (Some caught.held) k n).packet;
      limbo = removed-same s.limbo serial k caught e (other-number caught.channel k n);
    }

    by : (t : Bool) → SameBut s (let r : Replayed × LinkState = if t then (Busy caught.channel, s) else (Back caught.channel, released s serial caught) in r).1 caught.channel
    by true = all-same s caught.channel
    by false = out

-- no fault that is planned for the last injection does
abbrev pub IsSpared : WorldState → ℕ → Type 0
IsSpared w k = (f : Fault) → lookup (nat_eq w.injected) w.plan ≡ Some f → IsUncut w.links f k

strike-same : {w v : WorldState} {c : ℕ} → Strike w c v → (k : ℕ) → k ≢ c → IsSpared w k → ChannelStays w.links v.links k
strike-same {w = w} {c = c} (Strike.spares e) k n spared = channel-same w.links k
strike-same {w = w} {c = c} (Strike.misses f e d) k n spared = channel-same w.links k
strike-same {w = w} {c = c} (Strike.strikes f e d) k n spared = subst (λ l. ChannelStays w.links l k) (fault_on-step w.links c f) (fault-same w.links c f k n (spared f e))

sent-same : (w : WorldState) (h c : ℕ) (out : Outgoing) → SameBut w.links (sent_out w h c out).links c
unfolding sent_out
sent-same w h c out = put-same w.links c _

pub sent-plan : (w : WorldState) (h c : ℕ) (out : Outgoing) → lookup (nat_eq (sent_out w h c out).injected) (sent_out w h c out).plan ≡ lookup (nat_eq (w.injected + 1)) w.plan
unfolding sent_out
sent-plan w h c out = refl

pub injection-same : (w : WorldState) (h c : ℕ) (out : Outgoing) (k : ℕ) → k ≢ c → ((f : Fault) → lookup (nat_eq (w.injected + 1)) w.plan ≡ Some f → IsUncut w.links f k) → ChannelStays w.links (planned_strikes (sent_out w h c out) c).links k
injection-same w h c out k n spared =
    let one = sent-same w h c out k n in
    let two = strike-same (strike_view (sent_out w h c out) c) k n (λ f e at d is to. spared f (sym (sent-plan w h c out) ∙ e) at d is (sym (ap (λ h. leaving h at) (sent-cables w h c out)) ∙ to)) in
    record { packet = two.packet ∙ one.packet; limbo = two.limbo ∙ one.limbo }
