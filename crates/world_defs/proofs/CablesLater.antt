-- What later changes keep of the cables.
use Rattle.std.proofs.Common.{◌≡◌, ◌<◌, ◌≤◌, ◌+◌, ◌*◌, ◌/◌, ◌%◌, ℕ, zero, suc, Bool, true, false, not, ◌&&◌, nat_eq, nat_lt, nat_le, ℤ, List, [], ◌∷◌, ◌++◌, length, Option, Some, None, is_none, refl, sym, ap, ◌∙◌, subst, true≢false, arith, if◌then◌else◌, length-append}
use Rattle.std.specs.List.{slice_get, slice_set}
use Rattle.std.specs.Option.{option_map, option_map_or, option_and_then}
use Rattle.std.specs.Prelude.{option_to_list}
use Rattle.std.proofs.lemmas.Bool.Decides.{nat_tests}
use Rattle.net_defs.specs.declared.vertex.End.{End}
use Rattle.net_defs.specs.Network.{same_end}
use Rattle.net_defs.specs.Route.{next_exit, host_port}
use Rattle.world_defs.specs.declared.wire.Wire.{Wire}
use Rattle.world_defs.specs.History.{CableHistory, IsHistory, fabric_by, fabric_at, stood_at, is_in_place, is_new_wire, is_left, may_plug, pulled_by, with_pulled, with_plugged}
use Rattle.world_defs.specs.Crossed.{channel_by, channels_by, channels_at, leaving, life_channels, life_tail, life_head, is_new, is_cut, pulled_with, pulled_at}
use Rattle.world_defs.specs.Fewer.{AreFewer, HasFewer}
use Rattle.world_defs.specs.Later.{OnlyPulled, IsLater, IsKeptLater, IsChannelKept, PulledIsLater, LaterOnIsLater, PulledOnIsPulled, LaterKeeps, LaterKeepsChannels, LaterKeepsPast, LaterKeepsPastChannels, PulledLeaveFewer, UnchangedIsSame}
use Rattle.world_defs.proofs.Pulled.{each-fewer, set-fewer, pull_leaves, late-pull, late-plug, pull_keeps_past, plug_keeps_past}
use Rattle.world_defs.proofs.CablesKept.{length-set-wire, standing-wire, pull_at_keeps, plug_keeps}
use Rattle.world_defs.proofs.ForLife.{leaving_has_its_end, got-push, ends_are_for_life}

-- What a pull at a port is: nothing, or the pull of a cable in place.
pub data PullAt (h : CableHistory) : CableHistory → Type 0 where
  none : PullAt h h
  takes : (k : ℕ) (w : Wire) → slice_get h.wires k ≡ Some w → w.pulled ≡ None → PullAt h (pulled_by h k (Some w))

pub pull_with-view : (h : CableHistory) (e : End) (o : Option ℕ) → leaving h e ≡ o → PullAt h (pulled_with h o)
pull_with-view h e None is = PullAt.none
pull_with-view h e (Some c) is =
    let l = leaving_has_its_end h e c is in
    let w = standing-wire h.wires (c / 2) l.in_place in
    subst (λ o. PullAt h (pulled_by h (c / 2) o)) (sym w.1) (PullAt.takes (c / 2) w.0 w.1 w.2)

pub pull_at-view : (h : CableHistory) (e : End) → PullAt h (pulled_at h e)
pull_at-view h e = pull_with-view h e (leaving h e) refl

-- pulls and plugs in a row
pub pulled-later : {h g : CableHistory} → OnlyPulled h g → IsLater h g
pulled-later OnlyPulled.still = IsLater.still
pulled-later (OnlyPulled.pulls e rest) = IsLater.pulls e (pulled-later rest)

pub later-on : {f g h : CableHistory} → IsLater f g → IsLater g h → IsLater f h
later-on IsLater.still after = after
later-on (IsLater.pulls e rest) after = IsLater.pulls e (later-on rest after)
later-on (IsLater.plugs a b may rest) after = IsLater.plugs a b may (later-on rest after)

pub pulled-on : {f g h : CableHistory} → OnlyPulled f g → OnlyPulled g h → OnlyPulled f h
pulled-on OnlyPulled.still after = after
pulled-on (OnlyPulled.pulls e rest) after = OnlyPulled.pulls e (pulled-on rest after)

pub pulled_is_later : PulledIsLater
pulled_is_later h g p = pulled-later p

pub later_on_is_later : LaterOnIsLater
later_on_is_later f g h a b = later-on a b

pub pulled_on_is_pulled : PulledOnIsPulled
pulled_on_is_pulled f g h a b = pulled-on a b

-- what is kept, step by step
kept-same : (h : CableHistory) → IsKeptLater h h
kept-same h = record { hosts = refl; switches = refl; accepted = refl; changes = omega arith; channels = omega arith; history = λ is. is }

kept-after : (f g h : CableHistory) → IsKeptLater f g → IsKeptLater g h → IsKeptLater f h
kept-after f g h k m =
    let a = k.changes in
    let b = m.changes in
    let c = k.channels in
    let d = m.channels in
    record {
      hosts = m.hosts ∙ k.hosts;
      switches = m.switches ∙ k.switches;
      accepted = m.accepted ∙ k.accepted;
      changes = omega (arith, a, b);
      channels = omega (arith, c, d);
      history = λ is. m.history (k.history is);
    }

kept-pull_at : {h g : CableHistory} → PullAt h g → (IsHistory h → IsHistory g) → IsKeptLater h g
kept-pull_at {h = h} PullAt.none keeps = record { hosts = refl; switches = refl; accepted = refl; changes = omega arith; channels = omega arith; history = keeps }
kept-pull_at {h = h} (PullAt.takes k w there here) keeps =
    let same = length-set-wire h.wires k (record w { pulled = Some (h.changes + 1) }) in
    record { hosts = refl; switches = refl; accepted = refl; changes = omega arith; channels = omega (arith, same); history = keeps }

pub kept-pull : (h : CableHistory) (e : End) → IsKeptLater h (pulled_at h e)
kept-pull h e = kept-pull_at (pull_at-view h e) (pull_at_keeps h e)

pub kept-plug : (h : CableHistory) (a b : End) → may_plug h a b ≡ true → IsKeptLater h (with_plugged h a b)
kept-plug h a b may =
    let v : Wire = record { cable = record { a = a; b = b }; plugged = h.changes + 1; pulled = None } in
    let more = length-append h.wires (v ∷ []) in
    record { hosts = refl; switches = refl; accepted = refl; changes = omega arith; channels = omega (arith, more); history = λ is. plug_keeps h a b is may }

pub later-kept : {h g : CableHistory} → IsLater h g → IsKeptLater h g
later-kept {h = h} IsLater.still = kept-same h
later-kept {h = h} {g = g} (IsLater.pulls e rest) = kept-after h (pulled_at h e) g (kept-pull h e) (later-kept rest)
later-kept {h = h} {g = g} (IsLater.plugs a b may rest) = kept-after h (with_plugged h a b) g (kept-plug h a b may) (later-kept rest)

pub later_keeps : LaterKeeps
later_keeps h g l = later-kept l

-- a test of a cable that is set, or that more pass
or-set : (F : Wire → Bool) (ws : List Wire) (k i : ℕ) (v w : Wire) → slice_get ws k ≡ Some w → F v ≡ F w → option_map_or F (slice_get (slice_set ws k v) i) false ≡ option_map_or F (slice_get ws i) false
or-set F [] k i v w is same = cc
or-set F (u ∷ ws) zero zero v w is same = let e : u ≡ w = cc in same ∙ sym (ap F e)
or-set F (u ∷ ws) zero (suc i) v w is same = refl
or-set F (u ∷ ws) (suc k) zero v w is same = refl
or-set F (u ∷ ws) (suc k) (suc i) v w is same = or-set F ws k i v w is same

or-stays : (F : Wire → Bool) (ws : List Wire) (k i : ℕ) (v w : Wire) → slice_get ws k ≡ Some w → (F w ≡ true → F v ≡ true) → option_map_or F (slice_get ws i) false ≡ true → option_map_or F (slice_get (slice_set ws k v) i) false ≡ true
or-stays F [] k i v w is more e = e
or-stays F (u ∷ ws) zero zero v w is more e = let same : u ≡ w = cc in more (sym (ap F same) ∙ e)
or-stays F (u ∷ ws) zero (suc i) v w is more e = e
or-stays F (u ∷ ws) (suc k) zero v w is more e = e
or-stays F (u ∷ ws) (suc k) (suc i) v w is more e = or-stays F ws k i v w is more e

-- each channel
channel-same : (h : CableHistory) (c : ℕ) → IsChannelKept h h c
channel-same h c = record { tail = refl; head = refl; new = refl; cut = λ e. e }

channel-after : (f g h : CableHistory) (c : ℕ) → IsChannelKept f g c → IsChannelKept g h c → IsChannelKept f h c
channel-after f g h c k m = record { tail = m.tail ∙ k.tail; head = m.head ∙ k.head; new = m.new ∙ k.new; cut = λ e. m.cut (k.cut e) }

-- a cable in place isn't cut
uncut : (b : Bool) (w : Wire) → w.pulled ≡ None → (b && not (is_in_place w)) ≡ true → ⊥
uncut b w here e = let there : is_in_place w ≡ true = ap is_none here in no_more b (sym (ap (λ t. b && not t) there) ∙ e)
  where
    no_more : (b : Bool) → (b && false) ≡ true → ⊥
    no_more true e = true≢false (sym e)
    no_more false e = true≢false (sym e)

channel-pull_at : {h g : CableHistory} (c : ℕ) → c < life_channels h → PullAt h g → IsChannelKept h g c
channel-pull_at {h = h} c low PullAt.none = channel-same h c
channel-pull_at {h = h} c low (PullAt.takes k w there here) =
    let v : Wire = record w { pulled = Some (h.changes + 1) } in
    let ends = ends_are_for_life h k c (host_port 0) (host_port 0) low in
    let same : with_pulled h k ≡ pulled_by h k (Some w) = ap (pulled_by h k) there in
    record {
      tail = subst (λ g. life_tail g c ≡ life_tail h c) same ends.0;
      head = subst (λ g. life_head g c ≡ life_head h c) same ends.1;
      new = or-set (is_new_wire h) h.wires k (c / 2) v w there refl;
      cut = or-stays (λ u. stood_at h.accepted u && not (is_in_place u)) h.wires k (c / 2) v w there (λ e. absurd (uncut (stood_at h.accepted w) w here e));
    }

pub channel-pull : (h : CableHistory) (e : End) (c : ℕ) → c < life_channels h → IsChannelKept h (pulled_at h e) c
channel-pull h e c low = channel-pull_at c low (pull_at-view h e)

pub channel-plug : (h : CableHistory) (a b : End) (c : ℕ) → c < life_channels h → IsChannelKept h (with_plugged h a b) c
channel-plug h a b c low =
    let v : Wire = record { cable = record { a = a; b = b }; plugged = h.changes + 1; pulled = None } in
    let half : c / 2 < length h.wires = omega (arith, low) in
    let same : slice_get (h.wires ++ v ∷ []) (c / 2) ≡ slice_get h.wires (c / 2) = got-push h.wires (c / 2) v half in
    let ends = ends_are_for_life h 0 c a b low in
    record {
      tail = ends.2;
      head = ends.3;
      new = ap (λ o. option_map_or (is_new_wire h) o false) same;
      cut = λ e. ap (λ o. option_map_or (λ u. stood_at h.accepted u && not (is_in_place u)) o false) same ∙ e;
    }

later-channels : {h g : CableHistory} (c : ℕ) → c < life_channels h → IsLater h g → IsChannelKept h g c
later-channels {h = h} c low IsLater.still = channel-same h c
later-channels {h = h} {g = g} c low (IsLater.pulls e rest) =
    let k = kept-pull h e in
    let more = k.channels in
    channel-after h (pulled_at h e) g c (channel-pull h e c low) (later-channels c (omega (arith, low, more)) rest)
later-channels {h = h} {g = g} c low (IsLater.plugs a b may rest) =
    let k = kept-plug h a b may in
    let more = k.channels in
    channel-after h (with_plugged h a b) g c (channel-plug h a b c low) (later-channels c (omega (arith, low, more)) rest)

pub later_keeps_channels : LaterKeepsChannels
later_keeps_channels h g c l low = later-channels c low l

-- the past
past-pull_at : {h g : CableHistory} (past : ℕ) → past ≤ h.changes → PullAt h g → fabric_at g past ≡ fabric_at h past
past-pull_at past low PullAt.none = refl
past-pull_at {h = h} past low (PullAt.takes k w there here) =
    let same : with_pulled h k ≡ pulled_by h k (Some w) = ap (pulled_by h k) there in
    subst (λ g. fabric_at g past ≡ fabric_at h past) same (pull_keeps_past h k past w low there here)

pub later-past : {h g : CableHistory} (past : ℕ) → past ≤ h.changes → IsLater h g → fabric_at g past ≡ fabric_at h past
later-past past low IsLater.still = refl
later-past {h = h} past low (IsLater.pulls e rest) =
    let k = kept-pull h e in
    let more = k.changes in
    later-past past (omega (arith, low, more)) rest ∙ past-pull_at past low (pull_at-view h e)
later-past {h = h} past low (IsLater.plugs a b may rest) = later-past past (omega (arith, low)) rest ∙ plug_keeps_past h past a b low

pub later_keeps_past : LaterKeepsPast
later_keeps_past h g past l low = later-past past low l

-- the channel that leaves by an end, where a cable keeps its ends and what a test says, and where one more fails it
channel-set : (test : Wire → Bool) (k : ℕ) (ws : List Wire) (i : ℕ) (v w : Wire) (e : End) → slice_get ws i ≡ Some w → v.cable ≡ w.cable → test v ≡ test w
    → channel_by test k (slice_set ws i v) e ≡ channel_by test k ws e
channel-set test k [] i v w e is same both = cc
channel-set test k (u ∷ ws) zero v w e is same both =
    let one : u ≡ w = cc in
    let cable : v.cable ≡ u.cable = same ∙ sym (ap (λ x. x.cable) one) in
    let tested : test v ≡ test u = both ∙ sym (ap test one) in
    λ j. if tested j && same_end (cable j).a e then Some (2 * k) else if tested j && same_end (cable j).b e then Some (2 * k + 1) else channel_by test (k + 1) ws e
channel-set test k (u ∷ ws) (suc i) v w e is same both =
    let rest = channel-set test (k + 1) ws i v w e is same both in
    λ j. if test u && same_end u.cable.a e then Some (2 * k) else if test u && same_end u.cable.b e then Some (2 * k + 1) else rest j

pub channel-push : (test : Wire → Bool) (k : ℕ) (ws : List Wire) (v : Wire) (e : End) → test v ≡ false → channel_by test k (ws ++ v ∷ []) e ≡ channel_by test k ws e
channel-push test k [] v e out = rw out refl
channel-push test k (u ∷ ws) v e out =
    let rest = channel-push test (k + 1) ws v e out in
    λ j. if test u && same_end u.cable.a e then Some (2 * k) else if test u && same_end u.cable.b e then Some (2 * k + 1) else rest j

-- channels crossed are the same where the channels that leave are, in the same fabric
pub channels-same : (g h : CableHistory) (test : Wire → Bool) → ((e : End) → channel_by test 0 g.wires e ≡ channel_by test 0 h.wires e) → fabric_by g test ≡ fabric_by h test
    → (exit : Option End) (turns : List ℤ) → channels_by g test exit turns ≡ channels_by h test exit turns
channels-same g h test leave fabric exit turns = go exit turns
  where
    out : (o : Option End) → option_and_then (channel_by test 0 g.wires) o ≡ option_and_then (channel_by test 0 h.wires) o
    out None = refl
    out (Some e) = leave e

    go : (exit : Option End) (turns : List ℤ) → channels_by g test exit turns ≡ channels_by h test exit turns
    go exit [] = ap option_to_list (out exit)
    go exit (turn ∷ turns) =
        let one = out exit in
        let next : next_exit (fabric_by g test) exit turn ≡ next_exit (fabric_by h test) exit turn = ap (λ m. next_exit m exit turn) fabric in
        (λ i. option_to_list (one i) ++ channels_by g test (next i) turns) ∙ ap (λ l. option_to_list (option_and_then (channel_by test 0 h.wires) exit) ++ l) (go (next_exit (fabric_by h test) exit turn) turns)

channels-pull_at : {h g : CableHistory} (past : ℕ) (exit : Option End) (turns : List ℤ) → past ≤ h.changes → PullAt h g → channels_by g (stood_at past) exit turns ≡ channels_by h (stood_at past) exit turns
channels-pull_at past exit turns low PullAt.none = refl
channels-pull_at {h = h} past exit turns low (PullAt.takes k w there here) =
    let v : Wire = record w { pulled = Some (h.changes + 1) } in
    channels-same (pulled_by h k (Some w)) h (stood_at past) (λ e. channel-set (stood_at past) 0 h.wires k v w e there refl (late-pull past h.changes w low here)) (past-pull_at {h = h} past low (PullAt.takes k w there here)) exit turns

channels-plug : (h : CableHistory) (past : ℕ) (a b : End) (exit : Option End) (turns : List ℤ) → past ≤ h.changes → channels_by (with_plugged h a b) (stood_at past) exit turns ≡ channels_by h (stood_at past) exit turns
channels-plug h past a b exit turns low =
    let v : Wire = record { cable = record { a = a; b = b }; plugged = h.changes + 1; pulled = None } in
    channels-same (with_plugged h a b) h (stood_at past) (λ e. channel-push (stood_at past) 0 h.wires v e (late-plug past h.changes v low refl)) (plug_keeps_past h past a b low) exit turns

pub later-past-channels : {h g : CableHistory} (past : ℕ) (exit : Option End) (turns : List ℤ) → past ≤ h.changes → IsLater h g → channels_by g (stood_at past) exit turns ≡ channels_by h (stood_at past) exit turns
later-past-channels past exit turns low IsLater.still = refl
later-past-channels {h = h} past exit turns low (IsLater.pulls e rest) =
    let k = kept-pull h e in
    let more = k.changes in
    later-past-channels past exit turns (omega (arith, low, more)) rest ∙ channels-pull_at past exit turns low (pull_at-view h e)
later-past-channels {h = h} past exit turns low (IsLater.plugs a b may rest) =
    later-past-channels past exit turns (omega (arith, low)) rest ∙ channels-plug h past a b exit turns low

pub later_keeps_past_channels : LaterKeepsPastChannels
later_keeps_past_channels h g past host turns l low = later-past-channels past (Some (host_port host)) turns low l

-- fewer cables
fewer-on : (small big huge : Wire → Bool) {us vs ws : List Wire} → AreFewer small big us vs → AreFewer big huge vs ws → AreFewer small huge us ws
fewer-on small big huge AreFewer.none AreFewer.none = AreFewer.none
fewer-on small big huge (AreFewer.more {v = u} same only are) (AreFewer.more sames onlys ares) = AreFewer.more (same ∙ sames) (λ s. onlys (only s)) (fewer-on small big huge are ares)

pub has-fewer-on : (f g h : CableHistory) (small big huge : Wire → Bool) → HasFewer f g small big → HasFewer g h big huge → HasFewer f h small huge
has-fewer-on f g h small big huge a b = record { switches = a.switches ∙ b.switches; wires = fewer-on small big huge a.wires b.wires }

pub has-fewer-same : (h : CableHistory) (test : Wire → Bool) → HasFewer h h test test
has-fewer-same h test = record { switches = refl; wires = each-fewer test test h.wires (λ w s. s) }

place-pull_at : {h g : CableHistory} → PullAt h g → HasFewer g h is_in_place is_in_place
place-pull_at {h = h} PullAt.none = has-fewer-same h is_in_place
place-pull_at {h = h} (PullAt.takes k w there here) = record { switches = refl; wires = set-fewer is_in_place is_in_place (λ v s. s) (h.changes + 1) (λ v. refl) h.wires k w there }

left-pull_at : {h g : CableHistory} → PullAt h g → HasFewer g h (is_left g) (is_left h)
left-pull_at {h = h} PullAt.none = has-fewer-same h (is_left h)
left-pull_at {h = h} (PullAt.takes k w there here) =
    let same : with_pulled h k ≡ pulled_by h k (Some w) = ap (pulled_by h k) there in
    subst (λ g. HasFewer g h (is_left g) (is_left h)) same (pull_leaves h k)

pub pulled-fewer : {h g : CableHistory} → OnlyPulled h g → HasFewer g h is_in_place is_in_place
pulled-fewer {h = h} OnlyPulled.still = has-fewer-same h is_in_place
pulled-fewer {h = h} {g = g} (OnlyPulled.pulls e rest) = has-fewer-on g (pulled_at h e) h is_in_place is_in_place is_in_place (pulled-fewer rest) (place-pull_at (pull_at-view h e))

pub pulled-left : {h g : CableHistory} → OnlyPulled h g → HasFewer g h (is_left g) (is_left h)
pulled-left {h = h} OnlyPulled.still = has-fewer-same h (is_left h)
pulled-left {h = h} {g = g} (OnlyPulled.pulls e rest) = has-fewer-on g (pulled_at h e) h (is_left g) (is_left (pulled_at h e)) (is_left h) (pulled-left rest) (left-pull_at (pull_at-view h e))

pub pulled_leave_fewer : PulledLeaveFewer
pulled_leave_fewer h g p = (pulled-fewer p, pulled-left p)

-- no change
unchanged : {h g : CableHistory} → OnlyPulled h g → g.changes ≤ h.changes → g ≡ h
unchanged OnlyPulled.still low = refl
unchanged {h = h} {g = g} (OnlyPulled.pulls e rest) low = by (pull_at-view h e) rest (λ d. unchanged rest d)
  where
    by : {f : CableHistory} → PullAt h f → OnlyPulled f g → (g.changes ≤ f.changes → g ≡ f) → g ≡ h
    by PullAt.none after more = more low
    by (PullAt.takes k w there here) after more =
        let kept = later-kept (pulled-later after) in
        let high : h.changes + 1 ≤ g.changes = kept.changes in
        absurd (omega (arith, low, high))

pub unchanged_is_same : UnchangedIsSame
unchanged_is_same h g p same = unchanged p (omega (arith, same))
