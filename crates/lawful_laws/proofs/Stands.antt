-- Each packet, in a channel or in limbo, is of a cable in place: a pull takes those of its cable along.
use Rattle.std.proofs.Common.{◌≡◌, ◌<◌, ◌≤◌, ◌+◌, ◌*◌, ◌/◌, ◌%◌, ℕ, zero, suc, Bool, true, false, not, ◌&&◌, nat_eq, List, [], ◌∷◌, ◌++◌, length, get_or, set, Option, Some, None, IfSome, is_some, refl, sym, ap, ◌∙◌, subst, true≢false, arith, if◌then◌else◌}
use Rattle.std.specs.List.{AllByRecursion, filter, slice_get, slice_set}
use Rattle.std.specs.Option.{option_map_or}
use Rattle.std.proofs.lemmas.Bool.Decides.{nat_tests}
use Rattle.net_defs.specs.declared.vertex.End.{End}
use Rattle.net_defs.specs.Network.{Network}
use Rattle.net_defs.proofs.Distinct.{all-weaker}
use Rattle.net_defs.specs.Route.{host_port}
use Rattle.world_defs.specs.declared.wire.Wire.{Wire}
use Rattle.world_defs.specs.History.{CableHistory, IsHistory, is_in_place, may_plug, pulled_by, with_pulled, with_plugged}
use Rattle.world_defs.specs.Crossed.{leaving, is_standing}
use Rattle.world_defs.proofs.ForLife.{leaving_has_its_end}
use Rattle.world_defs.proofs.Left.{standing-low, standing-other, standing-plug}
use Rattle.world_defs.specs.Links.{Held, Caught, LinkState, packet_in, with_packet}
use Rattle.world_defs.specs.LinkLaws.{is_of_cables}
use Rattle.world_defs.specs.Fault.{accept, without_cable, pulled, pull_by, pull, plug}
use Rattle.world_defs.specs.LinkStep.{Step, Put as PutLinks, Advance as AdvanceLinks, Lose as LoseLinks, Repeat as RepeatLinks, Hold as HoldLinks, Flip as FlipLinks, stepped}
use Rattle.world_defs.proofs.Idling.{pick}
use Rattle.world_defs.proofs.Shapes.{stepped-cables}
use Rattle.world_defs.specs.declared.event.Event.{Event}
use Rattle.world_defs.specs.declared.effect.Effect.{Effect}
use Rattle.world_defs.specs.declared.fault.Fault.{Fault}
use Rattle.world_defs.specs.declared.fault.Fault.TheVariants.{Lose as LoseFault, Repeat as RepeatFault, Hold as HoldFault, Flip as FlipFault, Pull as PullFault}
use Rattle.world_defs.specs.EightBits.{IsByteFault, IsByteEvent, HasByteFaults}
use Rattle.world_defs.specs.Node.{Outgoing, packet_for}
use Rattle.world_defs.specs.World.{WorldState, new_world, keeps_epoch}
use Rattle.world_defs.specs.Step.{planned_strikes, sent_out, step}
use Rattle.world_defs.proofs.Views.{LinksChange, Change, view}
use Rattle.world_defs.proofs.Strikes.{fault_step, Strike, strike_view}
use Rattle.world_defs.proofs.Kept.{planned_one}
use Rattle.world_defs.specs.Acts.{Act, Happens, Plans, Adopts, acted, MayAct, IsReached}
use Rattle.world_defs.proofs.Reaching.{reached-has}
use Rattle.table_laws.specs.Packets.{IsGoodStep}
use Rattle.table_laws.proofs.Medium.{Holds, Carries, stepped-holds, empty-holds}
use Rattle.table_laws.proofs.Dependencies.{reached-of}
use Rattle.lawful_laws.proofs.Ahead.{next-stands}

-- a packet is of a cable in place
abbrev pub Stands : CableHistory → ℕ → Held → Type 0
Stands h c held = is_standing h c ≡ true

carries-stands : (h : CableHistory) → Carries h (Stands h)
carries-stands h = record { strip = λ c next held e is. next-stands h c held.wire next e; flip = λ c bit pattern held low e is. is }

-- a step of packets
packets-stand : (s : LinkState) (x : Step) → is_of_cables x ≡ false → IsGoodStep (Stands s.cables) s.epoch x → Holds (Stands s.cables) s → Holds (Stands (stepped s x).cables) (stepped s x)
packets-stand s x not good is = subst (λ h. Holds (Stands h) (stepped s x)) (sym (stepped-cables s x not)) (stepped-holds (Stands s.cables) s x (carries-stands s.cables) good is)

-- a pull: the channels of other cables are as they were, and those of its cable are empty
get-set : {X : Type 0} (xs : List X) (i j : ℕ) (x d : X) → nat_eq i j ≡ false → get_or (set xs i x) j d ≡ get_or xs j d
get-set [] i j x d apart = refl
get-set (y ∷ xs) zero zero x d apart = absurd (true≢false apart)
get-set (y ∷ xs) zero (suc j) x d apart = refl
get-set (y ∷ xs) (suc i) zero x d apart = refl
get-set (y ∷ xs) (suc i) (suc j) x d apart = get-set xs i j x d (let k : nat_eq i j ≡ false = grind (arith, nat_tests) in k)

get-none : (ps : List (Option Held)) (i : ℕ) → get_or (set ps i None) i None ≡ None
get-none [] i = refl
get-none (p ∷ ps) zero = refl
get-none (p ∷ ps) (suc i) = get-none ps i

emptied-both : (ps : List (Option Held)) (k c : ℕ) → c / 2 ≡ k → get_or (set (set ps (2 * k) None) (2 * k + 1) None) c None ≡ None
emptied-both ps k c half = by (nat_eq (2 * k + 1) c) refl
  where
    ones : List (Option Held)
    ones = set ps (2 * k) None

    by : (b : Bool) → nat_eq (2 * k + 1) c ≡ b → get_or (set ones (2 * k + 1) None) c None ≡ None
    by true e = let same : 2 * k + 1 ≡ c = grind (arith, nat_tests) in subst (λ d. get_or (set ones (2 * k + 1) None) d None ≡ None) same (get-none ones (2 * k + 1))
    by false e =
        let other : (2 * k + 1 ≡ c) → ⊥ = grind (arith, nat_tests) in
        let same : 2 * k ≡ c = omega (arith, half, other) in
        get-set ones (2 * k + 1) c None None e ∙ subst (λ d. get_or ones d None ≡ None) same (get-none ps (2 * k))

pull-channel : (s : LinkState) (k c : ℕ) → IfSome (packet_in s c) (Stands s.cables c) → IfSome (packet_in (pulled s k) c) (Stands (with_pulled s.cables k) c)
pull-channel s k c is = by (nat_eq (c / 2) k) refl
  where
    by : (b : Bool) → nat_eq (c / 2) k ≡ b → IfSome (packet_in (pulled s k) c) (Stands (with_pulled s.cables k) c)
    by true e =
        let half : c / 2 ≡ k = grind (arith, nat_tests) in
        subst (λ o. IfSome o (Stands (with_pulled s.cables k) c)) (sym (emptied-both s.channels k c half)) tt
    by false e =
        let a : nat_eq (2 * k) c ≡ false = let apart : (c / 2 ≡ k) → ⊥ = grind (arith, nat_tests) in let other : (2 * k ≡ c) → ⊥ = λ same. apart (omega (arith, same)) in grind (arith, nat_tests) in
        let b : nat_eq (2 * k + 1) c ≡ false = let apart : (c / 2 ≡ k) → ⊥ = grind (arith, nat_tests) in let other : (2 * k + 1 ≡ c) → ⊥ = λ same. apart (omega (arith, same)) in grind (arith, nat_tests) in
        let same : packet_in (pulled s k) c ≡ packet_in s c = get-set (set s.channels (2 * k) None) (2 * k + 1) c None None b ∙ get-set s.channels (2 * k) c None None a in
        let stays : is_standing (with_pulled s.cables k) c ≡ is_standing s.cables c = standing-other s.cables k c e in
        subst (λ o. IfSome o (Stands (with_pulled s.cables k) c)) (sym same) (if-same (packet_in s c) (sym stays) is)
      where
        if-same : (o : Option Held) → is_standing s.cables c ≡ is_standing (with_pulled s.cables k) c → IfSome o (Stands s.cables c) → IfSome o (Stands (with_pulled s.cables k) c)
        if-same None t is = tt
        if-same (Some held) t is = sym t ∙ is

pull-limbo : (h : CableHistory) (k : ℕ) (es : List (ℕ × Caught)) → AllByRecursion (λ e. Stands h e.1.channel e.1.held) es → AllByRecursion (λ e. Stands (with_pulled h k) e.1.channel e.1.held) (without_cable k es)
pull-limbo h k [] all = tt
pull-limbo h k (e ∷ es) all = by (nat_eq (e.1.channel / 2) k) refl (pull-limbo h k es all.1)
  where
    by : (b : Bool) → nat_eq (e.1.channel / 2) k ≡ b → AllByRecursion (λ e. Stands (with_pulled h k) e.1.channel e.1.held) (without_cable k es)
        → AllByRecursion (λ e. Stands (with_pulled h k) e.1.channel e.1.held) (if not b then e ∷ without_cable k es else without_cable k es)
    by true t rest = rest
    by false t rest = (standing-other h k e.1.channel t ∙ all.0, rest)

pull_by-stands : (s : LinkState) (o : Option ℕ) → Holds (Stands s.cables) s → Holds (Stands (pull_by s o).1.cables) (pull_by s o).1
pull_by-stands s None is = is
pull_by-stands s (Some c) is = record { in_channels = λ d. pull-channel s (c / 2) d (is.in_channels d); in_limbo = pull-limbo s.cables (c / 2) s.limbo is.in_limbo }

pub pull-stands : (s : LinkState) (e : End) → Holds (Stands s.cables) s → Holds (Stands (pull s e).1.cables) (pull s e).1
pull-stands s e is = pull_by-stands s (leaving s.cables e) is

-- a plug: its channels are empty
pushed-if : (P Q : ℕ → Held → Type 0) (ps : List (Option Held)) (d : ℕ) → ((c : ℕ) (held : Held) → P c held → Q c held) → ((j : ℕ) → IfSome (get_or ps j None) (P j)) → IfSome (get_or (ps ++ None ∷ None ∷ []) d None) (Q d)
pushed-if P Q [] zero more all = tt
pushed-if P Q [] (suc zero) more all = tt
pushed-if P Q [] (suc (suc d)) more all = tt
pushed-if P Q (p ∷ ps) zero more all = by p (all zero)
  where
    by : (o : Option Held) → IfSome o (P zero) → IfSome o (Q zero)
    by None is = tt
    by (Some held) is = more zero held is
pushed-if P Q (p ∷ ps) (suc d) more all = pushed-if (λ j. P (suc j)) (λ j. Q (suc j)) ps d (λ c held. more (suc c) held) (λ j. all (suc j))

pub plug-stands : (s : LinkState) (a b : End) → Holds (Stands s.cables) s → Holds (Stands (plug s a b).1.cables) (plug s a b).1
plug-stands s a b is = by (may_plug s.cables a b)
  where
    more : LinkState
    more = record s { cables = with_plugged s.cables a b; channels = s.channels ++ None ∷ None ∷ [] }

    stays : (c : ℕ) (held : Held) → Stands s.cables c held → Stands (with_plugged s.cables a b) c held
    stays c held stands = standing-plug s.cables a b c (standing-low s.cables c stands) ∙ stands

    by : (t : Bool) → Holds (Stands (pick t (true, more) (false, s)).1.cables) (pick t (true, more) (false, s)).1
    by true = record {
      in_channels = λ d. pushed-if (Stands s.cables) (Stands (with_plugged s.cables a b)) s.channels d stays is.in_channels;
      in_limbo = all-weaker (λ e. Stands s.cables e.1.channel e.1.held) (λ e. Stands (with_plugged s.cables a b) e.1.channel e.1.held) s.limbo (λ e. stays e.1.channel e.1.held) is.in_limbo;
    }
    by false = is

-- a fault
fault-stands : (s : LinkState) (c : ℕ) (f : Fault) → IsByteFault f → Holds (Stands s.cables) s → Holds (Stands (stepped s (fault_step c f)).cables) (stepped s (fault_step c f))
fault-stands s c LoseFault low is = packets-stand s (LoseLinks c) refl tt is
fault-stands s c RepeatFault low is = packets-stand s (RepeatLinks c) refl tt is
fault-stands s c HoldFault low is = packets-stand s (HoldLinks c) refl tt is
fault-stands s c (FlipFault bit pattern) low is = packets-stand s (FlipLinks c bit pattern) refl low is
fault-stands s c (PullFault at) low is = pull-stands s at is

strike-stands : {w v : WorldState} {c : ℕ} → HasByteFaults w → Strike w c v → Holds (Stands w.links.cables) w.links → Holds (Stands v.links.cables) v.links
strike-stands low (Strike.spares e) is = is
strike-stands low (Strike.misses f e k) is = is
strike-stands {w = w} {c = c} low (Strike.strikes f e k) is = fault-stands w.links c f (subst (λ o. IfSome o IsByteFault) e (planned_one w.injected w.plan low)) is

sent-stands : (w : WorldState) (h c : ℕ) (out : Outgoing) → is_standing w.links.cables c ≡ true → Holds (Stands w.links.cables) w.links → Holds (Stands (sent_out w h c out).links.cables) (sent_out w h c out).links
unfolding sent_out
sent-stands w h c out stands is = packets-stand w.links (PutLinks c (packet_for h (w.injected + 1) out)) refl stands is

sent-plan : (w : WorldState) (h c : ℕ) (out : Outgoing) → HasByteFaults w → HasByteFaults (sent_out w h c out)
unfolding sent_out
sent-plan w h c out low = low

-- an event
links-stand : {w : WorldState} {e : Event} {x : Effect} {s : Step} → IsByteEvent e → LinksChange w e x s → Holds (Stands w.links.cables) w.links → Holds (Stands (stepped w.links s).cables) (stepped w.links s)
links-stand {w = w} {s = s} low (LinksChange.moves packet next d e f g) is = packets-stand w.links s refl tt is
links-stand {w = w} {s = s} low (LinksChange.loses k) is = packets-stand w.links s refl tt is
links-stand {w = w} {s = s} low (LinksChange.resets k) is = packets-stand w.links s refl tt is
links-stand {w = w} {s = s} low (LinksChange.repeats k) is = packets-stand w.links s refl tt is
links-stand {w = w} {s = s} low (LinksChange.holds k) is = packets-stand w.links s refl tt is
links-stand {w = w} {s = s} low (LinksChange.flips k) is = packets-stand w.links s refl low is
links-stand {w = w} {s = s} low (LinksChange.replays k) is = packets-stand w.links s refl tt is
links-stand {w = w} low (LinksChange.pulls {at = at} k) is = pull-stands w.links at is
links-stand {w = w} low (LinksChange.plugs {a = a} {b = b} k) is = plug-stands w.links a b is

change-stands : {w : WorldState} {e : Event} {r : Effect × WorldState} → IsByteEvent e → HasByteFaults w → Change w e r → Holds (Stands w.links.cables) w.links → Holds (Stands r.1.links.cables) r.1.links
change-stands low plan Change.idle is = is
change-stands low plan (Change.blocked packet next d e) is = is
change-stands low plan (Change.links k) is = links-stand low k is
change-stands {w = w} low plan (Change.drops {c = c} packet why d e f) is = packets-stand w.links (AdvanceLinks c) refl tt is
change-stands {w = w} low plan (Change.arrives {c = c} packet h d e f g) is = packets-stand w.links (AdvanceLinks c) refl tt is
change-stands low plan (Change.host k) is = is
change-stands {w = w} low plan (Change.injects {h = h} c out d e f g o) is =
    let stands : is_standing w.links.cables c ≡ true = (leaving_has_its_end w.links.cables (host_port h) c d).in_place in
    strike-stands (sent-plan w h c out plan) (strike_view (sent_out w h c out) c) (sent-stands w h c out stands is)
change-stands low plan (Change.calls k) is = is

pub step-stands : (w : WorldState) (e : Event) → IsByteEvent e → HasByteFaults w → Holds (Stands w.links.cables) w.links → Holds (Stands (step w e).1.links.cables) (step w e).1.links
step-stands w e low plan is = change-stands low plan (view w e) is

-- every act
accept-stands : (s : LinkState) (keeps : Bool) → Holds (Stands s.cables) s → Holds (Stands (if keeps then s else accept s).cables) (if keeps then s else accept s)
accept-stands s true is = is
accept-stands s false is = record { in_channels = is.in_channels; in_limbo = is.in_limbo }

pub acted-stands : (w : WorldState) (a : Act) → MayAct w a → HasByteFaults w → Holds (Stands w.links.cables) w.links → Holds (Stands (acted w a).links.cables) (acted w a).links
acted-stands w (Happens e) may plan is = step-stands w e may plan is
acted-stands w (Plans ahead fault) may plan is = is
acted-stands w (Adopts mapper routes) may plan is = accept-stands w.links (keeps_epoch w routes) is

pub reached-stands : (n : Network) (w : WorldState) → IsReached n w → Holds (Stands w.links.cables) w.links
reached-stands n w r = reached-has (λ v. Holds (Stands v.links.cables) v.links) n (empty-holds (Stands (new_world n).links.cables) n) (λ v a reached may is. acted-stands v a may (reached-of n v reached).plan is) w r

-- so does the packet of a channel
pub packet-stands : (n : Network) (w : WorldState) (c : ℕ) (held : Held) → IsReached n w → packet_in w.links c ≡ Some held → is_standing w.links.cables c ≡ true
packet-stands n w c held r e = subst (λ o. IfSome o (Stands w.links.cables c)) e ((reached-stands n w r).in_channels c)
