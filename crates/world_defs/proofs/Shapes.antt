-- Every step leaves links, and those of packets keep the cables.
use Rattle.std.proofs.Common.{◌≡◌, ◌<◌, ◌+◌, ◌*◌, ◌/◌, ◌^◌, ℕ, zero, suc, Bool, true, false, not, ◌&&◌, nat_eq, List, [], ◌∷◌, ◌++◌, length, replicate, slice_index_or, Option, Some, None, is_some, is_none, refl, sym, ◌∙◌, subst, arith, if◌then◌else◌, true≢false, length-append, set, ap}
use Rattle.std.specs.List.{AllByRecursion, list_all, filter, slice_get}
use Rattle.std.specs.Map.{remove_entry}
use Rattle.std.proofs.Math.ListN.{length-set}
use Rattle.std.proofs.lemmas.List.{length-replicate}
use Rattle.std.proofs.lemmas.Bool.Decides.{nat_tests}
use Rattle.net_defs.specs.declared.vertex.End.{End}
use Rattle.net_defs.specs.Network.{Network}
use Rattle.net_defs.proofs.Distinct.{all-weaker, all-push}
use Rattle.packet_defs.specs.Packet.{stripped}
use Rattle.packet_defs.specs.Burst.{flipped, may_flip}
use Rattle.world_defs.specs.declared.moved.Course.{Course}
use Rattle.world_defs.specs.declared.moved.Course.TheVariants.{Arrives, Enters, Drops}
use Rattle.world_defs.specs.declared.replayed.Replayed.TheVariants.{Back, Busy}
use Rattle.world_defs.specs.History.{CableHistory, IsHistory, first_history, may_plug, pulled_by, with_pulled, with_plugged}
use Rattle.world_defs.specs.Crossed.{leaving, life_channels, pulled_with}
use Rattle.world_defs.proofs.CablesKept.{pull_at_keeps, plug_keeps, accept_keeps}
use Rattle.world_defs.specs.declared.wire.Wire.{Wire}
use Rattle.world_defs.specs.Links.{Held, Caught, LinkState, empty_links, packet_in, with_packet, emptied, is_idle, put}
use Rattle.world_defs.specs.Advance.{course, entered, gone_on, advance_of}
use Rattle.world_defs.specs.Fault.{repeat_of, hold_of, is_used_up, with_caught, flip_of, caught_as, released, replay_of, pulled, pull_by, pull, plug}
use Rattle.world_defs.specs.Shape.{Rise, IsLinks}
use Rattle.world_defs.specs.LinkLaws.{is_of_cables}
use Rattle.world_defs.specs.LinkStep.{Step, Put, Advance, Lose, Reset, Repeat, Hold, Flip, Replay, Pull, Plug, Accept, stepped, stepped_all}
use Rattle.world_defs.proofs.Idling.{pick}

-- what a step of packets keeps: the cables, and links
record Kept (s t : LinkState) : Type 0 where
  cables : t.cables ≡ s.cables
  links : IsLinks s → IsLinks t

kept_same : (s : LinkState) → Kept s s
kept_same s = record { cables = refl; links = λ is. is }

kept_after : (s t u : LinkState) → Kept s t → Kept t u → Kept s u
kept_after s t u k m = record { cables = m.cables ∙ k.cables; links = λ is. m.links (k.links is) }

-- a write to a channel
with_packet-kept : (s : LinkState) (c : ℕ) (p : Option Held) → Kept s (with_packet s c p)
with_packet-kept s c p = record {
  cables = refl;
  links = λ is. record {
    slots = length-set s.channels c p ∙ is.slots;
    rising = is.rising;
    below_next = is.below_next;
    from_channels = subst (λ n. AllByRecursion (λ e. e.1.channel < n) s.limbo) (sym (length-set s.channels c p)) is.from_channels;
    serials = is.serials;
  };
}

-- one of two
pick-kept : {X : Type 0} (s : LinkState) (t : Bool) (x y : X × LinkState) → Kept s x.1 → Kept s y.1 → Kept s (pick t x y).1
pick-kept s true x y k m = k
pick-kept s false x y k m = m

entered-kept : (s : LinkState) (c : ℕ) (held : Held) (next : ℕ) (o : Option Held) → Kept s (entered s c held next o).1
entered-kept s c held next None =
    let p : Option Held = Some (record held { wire = stripped held.wire }) in
    kept_after s (emptied s c) (with_packet (emptied s c) next p) (with_packet-kept s c None) (with_packet-kept (emptied s c) next p)
entered-kept s c held next (Some other) = kept_same s

gone_on-kept : (s : LinkState) (c : ℕ) (held : Held) (to : Course) → Kept s (gone_on s c held to).1
gone_on-kept s c held (Arrives h) = with_packet-kept s c None
gone_on-kept s c held (Enters next) = entered-kept s c held next (packet_in (emptied s c) next)
gone_on-kept s c held (Drops why) = with_packet-kept s c None

advance_of-kept : (s : LinkState) (c : ℕ) (o : Option Held) → Kept s (advance_of s c o).1
advance_of-kept s c None = kept_same s
advance_of-kept s c (Some held) = gone_on-kept s c held (course s.cables c held.wire)

-- serials that rise, and one more at the end
rise-push : (es : List (ℕ × Caught)) (n : ℕ) (x : Caught) → Rise es → AllByRecursion (λ e. e.0 < n) es → Rise (es ++ (n, x) ∷ [])
rise-push [] n x rise low = (tt, tt)
rise-push (e ∷ es) n x rise low = (all-push (λ d. e.0 < d.0) es (n, x) rise.0 low.0, rise-push es n x rise.1 low.1)

-- a serial is left while they aren't used up
serial_left : (s : LinkState) → is_used_up s ≡ false → s.next_serial < 2 ^ 64 → s.next_serial + 1 < 2 ^ 64
serial_left s e h = grind (arith, nat_tests)

with_caught-links : (s : LinkState) (c : ℕ) (held : Held) → c < length s.channels → is_used_up s ≡ false → IsLinks s → IsLinks (with_caught s c held)
with_caught-links s c held low left is =
    let x : Caught = record { channel = c; held = held } in
    let n = s.next_serial in
    record {
      slots = is.slots;
      rising = rise-push s.limbo n x is.rising is.below_next;
      below_next = all-push (λ e. e.0 < n + 1) s.limbo (n, x) (all-weaker (λ e. e.0 < n) (λ e. e.0 < n + 1) s.limbo (λ e h. omega arith) is.below_next) (omega arith);
      from_channels = all-push (λ e. e.1.channel < length s.channels) s.limbo (n, x) is.from_channels low;
      serials = serial_left s left is.serials;
    }

-- a packet stands in a channel that exists
there : (ps : List (Option Held)) (c : ℕ) (held : Held) → slice_index_or ps c None ≡ Some held → c < length ps
there [] c held e = cc
there (p ∷ ps) zero held e = omega arith
there (p ∷ ps) (suc c) held e = let h = there ps c held e in omega arith

with_caught-kept : (s : LinkState) (c : ℕ) (held : Held) → c < length s.channels → is_used_up s ≡ false → Kept s (with_caught s c held)
with_caught-kept s c held low left = record { cables = refl; links = with_caught-links s c held low left }

repeat_of-kept : (s : LinkState) (c : ℕ) (o : Option Held) → packet_in s c ≡ o → Kept s (repeat_of s c o).1
repeat_of-kept s c None e = kept_same s
repeat_of-kept s c (Some held) e = by (is_used_up s) refl
  where
    by : (t : Bool) → is_used_up s ≡ t → Kept s (pick t (None, s) (Some s.next_serial, with_caught s c held)).1
    by true u = kept_same s
    by false u = with_caught-kept s c held (there s.channels c held e) u

hold_of-kept : (s : LinkState) (c : ℕ) (o : Option Held) → packet_in s c ≡ o → Kept s (hold_of s c o).1
hold_of-kept s c None e = kept_same s
hold_of-kept s c (Some held) e = by (is_used_up s) refl
  where
    by : (t : Bool) → is_used_up s ≡ t → Kept s (pick t (None, s) (Some s.next_serial, with_caught (emptied s c) c held)).1
    by true u = kept_same s
    by false u =
        let low = there s.channels c held e in
        let long = length-set {A = Option Held} s.channels c None in
        let low' : c < length (emptied s c).channels = omega (arith, low, long) in
        kept_after s (emptied s c) (with_caught (emptied s c) c held) (with_packet-kept s c None) (with_caught-kept (emptied s c) c held low' u)

flip_of-kept : (s : LinkState) (c bit pattern : ℕ) (o : Option Held) → Kept s (flip_of s c bit pattern o).1
flip_of-kept s c bit pattern None = kept_same s
flip_of-kept s c bit pattern (Some held) =
    let p : Option Held = Some (record held { wire = flipped held.wire bit pattern; marked = true }) in
    pick-kept s (not held.marked && may_flip held.wire bit pattern) (true, with_packet s c p) (false, s) (with_packet-kept s c p) (kept_same s)

-- what holds of each entry holds of each that is left
pub all-removed : (P : ℕ × Caught → Type 0) (test : ℕ → Bool) (es : List (ℕ × Caught)) → AllByRecursion P es → AllByRecursion P (remove_entry test es)
all-removed P test [] all = tt
all-removed P test (e ∷ es) all = by (test e.0) (all-removed P test es all.1)
  where
    by : (t : Bool) → AllByRecursion P (remove_entry test es) → AllByRecursion P (if t then es else e ∷ remove_entry test es)
    by true rest = all.1
    by false rest = (all.0, rest)

rise-removed : (test : ℕ → Bool) (es : List (ℕ × Caught)) → Rise es → Rise (remove_entry test es)
rise-removed test [] rise = tt
rise-removed test (e ∷ es) rise = by (test e.0) (rise-removed test es rise.1)
  where
    by : (t : Bool) → Rise (remove_entry test es) → Rise (if t then es else e ∷ remove_entry test es)
    by true rest = rise.1
    by false rest = (all-removed (λ d. e.0 < d.0) test es rise.0, rest)

without_serial-kept : (s : LinkState) (serial : ℕ) → Kept s (record s { limbo = remove_entry (nat_eq serial) s.limbo })
without_serial-kept s serial = record {
  cables = refl;
  links = λ is. record {
    slots = is.slots;
    rising = rise-removed (nat_eq serial) s.limbo is.rising;
    below_next = all-removed (λ e. e.0 < s.next_serial) (nat_eq serial) s.limbo is.below_next;
    from_channels = all-removed (λ e. e.1.channel < length s.channels) (nat_eq serial) s.limbo is.from_channels;
    serials = is.serials;
  };
}

released-kept : (s : LinkState) (serial : ℕ) (caught : Caught) → Kept s (released s serial caught)
released-kept s serial caught =
    let t : LinkState = with_packet s caught.channel (Some caught.held) in
    kept_after s t (released s serial caught) (with_packet-kept s caught.channel (Some caught.held)) (without_serial-kept t serial)

replay_of-kept : (s : LinkState) (serial : ℕ) (o : Option Caught) → Kept s (replay_of s serial o).1
replay_of-kept s serial None = kept_same s
replay_of-kept s serial (Some caught) =
    pick-kept s (is_some (packet_in s caught.channel)) (Busy caught.channel, s) (Back caught.channel, released s serial caught) (kept_same s) (released-kept s serial caught)

put-kept : (s : LinkState) (c : ℕ) (wire : List ℕ) → Kept s (put s c wire).1
put-kept s c wire =
    let p : Option Held = Some (record { wire = wire; marked = false; born = s.epoch }) in
    pick-kept s (is_some (packet_in s c)) (false, s) (true, with_packet s c p) (kept_same s) (with_packet-kept s c p)

-- one step of packets
stepped-kept : (s : LinkState) (x : Step) → is_of_cables x ≡ false → Kept s (stepped s x)
stepped-kept s (Put c wire) not = put-kept s c wire
stepped-kept s (Advance c) not = advance_of-kept s c (packet_in s c)
stepped-kept s (Lose c) not = with_packet-kept s c None
stepped-kept s (Reset c) not = with_packet-kept s c None
stepped-kept s (Repeat c) not = repeat_of-kept s c (packet_in s c) refl
stepped-kept s (Hold c) not = hold_of-kept s c (packet_in s c) refl
stepped-kept s (Flip c bit pattern) not = flip_of-kept s c bit pattern (packet_in s c)
stepped-kept s (Replay serial) not = replay_of-kept s serial (caught_as s serial)
stepped-kept s (Pull e) not = absurd (true≢false not)
stepped-kept s (Plug a b) not = absurd (true≢false not)
stepped-kept s Accept not = absurd (true≢false not)

-- ---- the cables change
-- limbo without some of it
all-filtered : (P : ℕ × Caught → Type 0) (test : ℕ × Caught → Bool) (es : List (ℕ × Caught)) → AllByRecursion P es → AllByRecursion P (filter test es)
all-filtered P test [] all = tt
all-filtered P test (e ∷ es) all = by (test e) (all-filtered P test es all.1)
  where
    by : (t : Bool) → AllByRecursion P (filter test es) → AllByRecursion P (if t then e ∷ filter test es else filter test es)
    by true rest = (all.0, rest)
    by false rest = rest

rise-filtered : (test : ℕ × Caught → Bool) (es : List (ℕ × Caught)) → Rise es → Rise (filter test es)
rise-filtered test [] rise = tt
rise-filtered test (e ∷ es) rise = by (test e) (rise-filtered test es rise.1)
  where
    by : (t : Bool) → Rise (filter test es) → Rise (if t then e ∷ filter test es else filter test es)
    by true rest = (all-filtered (λ d. e.0 < d.0) test es rise.0, rest)
    by false rest = rest

-- as many channels as before
pub pulled-channels : (h : CableHistory) (k : ℕ) → life_channels (with_pulled h k) ≡ life_channels h
pulled-channels h k = by (slice_get h.wires k)
  where
    by : (o : Option Wire) → life_channels (pulled_by h k o) ≡ life_channels h
    by None = refl
    by (Some w) = ap (λ n. 2 * n) (length-set h.wires k (record w { pulled = Some (h.changes + 1) }))

pulled-links : (s : LinkState) (k : ℕ) → IsLinks s → IsLinks (pulled s k)
pulled-links s k is =
    let test : ℕ × Caught → Bool = λ e. not (nat_eq (e.1.channel / 2) k) in
    let long : length (pulled s k).channels ≡ length s.channels = length-set {A = Option Held} (set s.channels (2 * k) None) (2 * k + 1) None ∙ length-set {A = Option Held} s.channels (2 * k) None in
    record {
      slots = long ∙ is.slots ∙ sym (pulled-channels s.cables k);
      rising = rise-filtered test s.limbo is.rising;
      below_next = all-filtered (λ e. e.0 < s.next_serial) test s.limbo is.below_next;
      from_channels = subst (λ n. AllByRecursion (λ e. e.1.channel < n) (filter test s.limbo)) (sym long) (all-filtered (λ e. e.1.channel < length s.channels) test s.limbo is.from_channels);
      serials = is.serials;
    }

pull_by-links : (s : LinkState) (o : Option ℕ) → IsLinks s → IsLinks (pull_by s o).1
pull_by-links s None is = is
pull_by-links s (Some c) is = pulled-links s (c / 2) is

plug-links : (s : LinkState) (a b : End) → IsLinks s → IsLinks (plug s a b).1
plug-links s a b is = by (may_plug s.cables a b)
  where
    new : LinkState
    new = record s { cables = with_plugged s.cables a b; channels = s.channels ++ None ∷ None ∷ [] }

    more : length new.channels ≡ length s.channels + 2
    more = length-append s.channels (None ∷ None ∷ [])

    by : (t : Bool) → IsLinks (pick t (true, new) (false, s)).1
    by true =
        let slots = is.slots in
        let wires = length-append s.cables.wires (record { cable = record { a = a; b = b }; plugged = s.cables.changes + 1; pulled = None } ∷ []) in
        let m = more in
        record {
          slots = omega (arith, slots, wires, m);
          rising = is.rising;
          below_next = is.below_next;
          from_channels = all-weaker (λ e. e.1.channel < length s.channels) (λ e. e.1.channel < length new.channels) s.limbo (λ e low. omega (arith, low, m)) is.from_channels;
          serials = is.serials;
        }
    by false = is

pub stepped-links : (s : LinkState) (x : Step) → IsLinks s → IsLinks (stepped s x)
stepped-links s (Put c wire) is = (stepped-kept s (Put c wire) refl).links is
stepped-links s (Advance c) is = (stepped-kept s (Advance c) refl).links is
stepped-links s (Lose c) is = (stepped-kept s (Lose c) refl).links is
stepped-links s (Reset c) is = (stepped-kept s (Reset c) refl).links is
stepped-links s (Repeat c) is = (stepped-kept s (Repeat c) refl).links is
stepped-links s (Hold c) is = (stepped-kept s (Hold c) refl).links is
stepped-links s (Flip c bit pattern) is = (stepped-kept s (Flip c bit pattern) refl).links is
stepped-links s (Replay serial) is = (stepped-kept s (Replay serial) refl).links is
stepped-links s (Pull e) is = pull_by-links s (leaving s.cables e) is
stepped-links s (Plug a b) is = plug-links s a b is
stepped-links s Accept is = record { slots = is.slots; rising = is.rising; below_next = is.below_next; from_channels = is.from_channels; serials = is.serials }

pub stepped_all-links : (s : LinkState) (xs : List Step) → IsLinks s → IsLinks (stepped_all s xs)
stepped_all-links s [] is = is
stepped_all-links s (x ∷ xs) is = stepped_all-links (stepped s x) xs (stepped-links s x is)

-- ---- what stays of the cables
pub stepped-cables : (s : LinkState) (x : Step) → is_of_cables x ≡ false → (stepped s x).cables ≡ s.cables
stepped-cables s x not = (stepped-kept s x not).cables

pub stepped_all-cables : (s : LinkState) (xs : List Step) → AllByRecursion (λ x. is_of_cables x ≡ false) xs → (stepped_all s xs).cables ≡ s.cables
stepped_all-cables s [] all = refl
stepped_all-cables s (x ∷ xs) all = stepped_all-cables (stepped s x) xs all.1 ∙ stepped-cables s x all.0

-- hosts and switches
record SameVertices (h g : CableHistory) : Type 0 where
  hosts : g.hosts ≡ h.hosts
  switches : g.switches ≡ h.switches

pull_by-vertices : (s : LinkState) (o : Option ℕ) → SameVertices s.cables (pull_by s o).1.cables
pull_by-vertices s None = record { hosts = refl; switches = refl }
pull_by-vertices s (Some c) = by (slice_get s.cables.wires (c / 2))
  where
    by : (o : Option Wire) → SameVertices s.cables (pulled_by s.cables (c / 2) o)
    by None = record { hosts = refl; switches = refl }
    by (Some w) = record { hosts = refl; switches = refl }

plug-vertices : (s : LinkState) (a b : End) → SameVertices s.cables (plug s a b).1.cables
plug-vertices s a b = by (may_plug s.cables a b)
  where
    by : (t : Bool) → SameVertices s.cables (pick t (true, record s { cables = with_plugged s.cables a b; channels = s.channels ++ None ∷ None ∷ [] }) (false, s)).1.cables
    by true = record { hosts = refl; switches = refl }
    by false = record { hosts = refl; switches = refl }

kept-vertices : (s t : LinkState) → t.cables ≡ s.cables → SameVertices s.cables t.cables
kept-vertices s t same = record { hosts = ap (λ h. h.hosts) same; switches = ap (λ h. h.switches) same }

vertices : (s : LinkState) (x : Step) → SameVertices s.cables (stepped s x).cables
vertices s (Put c wire) = kept-vertices s (stepped s (Put c wire)) (stepped-cables s (Put c wire) refl)
vertices s (Advance c) = kept-vertices s (stepped s (Advance c)) (stepped-cables s (Advance c) refl)
vertices s (Lose c) = kept-vertices s (stepped s (Lose c)) (stepped-cables s (Lose c) refl)
vertices s (Reset c) = kept-vertices s (stepped s (Reset c)) (stepped-cables s (Reset c) refl)
vertices s (Repeat c) = kept-vertices s (stepped s (Repeat c)) (stepped-cables s (Repeat c) refl)
vertices s (Hold c) = kept-vertices s (stepped s (Hold c)) (stepped-cables s (Hold c) refl)
vertices s (Flip c bit pattern) = kept-vertices s (stepped s (Flip c bit pattern)) (stepped-cables s (Flip c bit pattern) refl)
vertices s (Replay serial) = kept-vertices s (stepped s (Replay serial)) (stepped-cables s (Replay serial) refl)
vertices s (Pull e) = pull_by-vertices s (leaving s.cables e)
vertices s (Plug a b) = plug-vertices s a b
vertices s Accept = record { hosts = refl; switches = refl }

pub stepped-vertices : (s : LinkState) (x : Step) → ((stepped s x).cables.hosts ≡ s.cables.hosts) × ((stepped s x).cables.switches ≡ s.cables.switches)
stepped-vertices s x = let v = vertices s x in (v.hosts, v.switches)

-- and a history
pull-history : (s : LinkState) (e : End) → IsHistory s.cables → IsHistory (pull s e).1.cables
pull-history s e is = by (leaving s.cables e) (pull_at_keeps s.cables e is)
  where
    by : (o : Option ℕ) → IsHistory (pulled_with s.cables o) → IsHistory (pull_by s o).1.cables
    by None k = k
    by (Some c) k = k

plug-history : (s : LinkState) (a b : End) → IsHistory s.cables → IsHistory (plug s a b).1.cables
plug-history s a b is = by (may_plug s.cables a b) refl
  where
    by : (t : Bool) → may_plug s.cables a b ≡ t → IsHistory (pick t (true, record s { cables = with_plugged s.cables a b; channels = s.channels ++ None ∷ None ∷ [] }) (false, s)).1.cables
    by true may = plug_keeps s.cables a b is may
    by false may = is

pub stepped-history : (s : LinkState) (x : Step) → IsHistory s.cables → IsHistory (stepped s x).cables
stepped-history s (Put c wire) is = subst IsHistory (sym (stepped-cables s (Put c wire) refl)) is
stepped-history s (Advance c) is = subst IsHistory (sym (stepped-cables s (Advance c) refl)) is
stepped-history s (Lose c) is = subst IsHistory (sym (stepped-cables s (Lose c) refl)) is
stepped-history s (Reset c) is = subst IsHistory (sym (stepped-cables s (Reset c) refl)) is
stepped-history s (Repeat c) is = subst IsHistory (sym (stepped-cables s (Repeat c) refl)) is
stepped-history s (Hold c) is = subst IsHistory (sym (stepped-cables s (Hold c) refl)) is
stepped-history s (Flip c bit pattern) is = subst IsHistory (sym (stepped-cables s (Flip c bit pattern) refl)) is
stepped-history s (Replay serial) is = subst IsHistory (sym (stepped-cables s (Replay serial) refl)) is
stepped-history s (Pull e) is = pull-history s e is
stepped-history s (Plug a b) is = plug-history s a b is
stepped-history s Accept is = accept_keeps s.cables is

-- links without packets
pub empty-links : (n : Network) → IsLinks (empty_links n)
empty-links n = record { slots = length-replicate {A = Option Held} (life_channels (first_history n)) None; rising = tt; below_next = tt; from_channels = tt; serials = omega arith }

no_packets : (k : ℕ) → list_all is_none (replicate {A = Option Held} k None) ≡ true
no_packets zero = refl
no_packets (suc k) = no_packets k

pub empty-idle : (n : Network) → is_idle (empty_links n) ≡ true
empty-idle n = no_packets (life_channels (first_history n))
