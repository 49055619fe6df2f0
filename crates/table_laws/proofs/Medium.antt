-- What holds of each packet, wherever it is, holds after every step of the links.
use Rattle.std.proofs.Common.{◌≡◌, ◌<◌, ◌≤◌, ◌+◌, ◌*◌, ◌/◌, ◌++◌, ℕ, zero, suc, Bool, true, false, not, ◌&&◌, nat_lt, nat_le, nat_eq, ℤ, List, [], ◌∷◌, length, get_or, set, Option, Some, None, is_some, IfSome, Result, Ok, Err, refl, sym, ap, ◌∙◌, subst, arith, true≢false, if◌then◌else◌}
use Rattle.std.specs.List.{AllByRecursion, slice_get, filter}
use Rattle.std.specs.Prelude.{option_and_then}
use Rattle.std.specs.Map.{lookup}
use Rattle.std.proofs.lemmas.Bool.Decides.{nat_tests}
use Rattle.net_defs.specs.Network.{Network}
use Rattle.net_defs.proofs.Distinct.{all-push, all-weaker}
use Rattle.net_defs.proofs.Ends.{both}
use Rattle.packet_defs.specs.declared.kind.Kind.{Kind}
use Rattle.packet_defs.specs.declared.host_drop.HostDrop.{HostDrop}
use Rattle.packet_defs.specs.declared.host_drop.HostDrop.TheVariants.{BadCrc, RouteLeft}
use Rattle.packet_defs.specs.RouteByte.{route_byte, turn_of}
use Rattle.packet_defs.specs.Packet.{difference, front_turn, stripped, head, head_of, packet_of}
use Rattle.packet_defs.specs.Crc.{crc}
use Rattle.packet_defs.specs.Host.{has_route, body_of, decode}
use Rattle.packet_defs.specs.Burst.{flipped, may_flip}
use Rattle.packet_defs.proofs.Packets.{strip_keeps, head-push, packet_of-stripped}
use Rattle.packet_defs.proofs.Bursts.{flip-seen}
use Rattle.packet_defs.proofs.Hosts.{decode-packet_of, decode-difference}
use Rattle.world_defs.specs.declared.moved.Course.{Course}
use Rattle.world_defs.specs.declared.moved.Course.TheVariants.{Arrives, Enters, Drops}
use Rattle.world_defs.specs.declared.replayed.Replayed.TheVariants.{Back, Busy}
use Rattle.net_defs.specs.declared.vertex.End.{End}
use Rattle.world_defs.specs.History.{CableHistory, first_history, may_plug, with_plugged}
use Rattle.world_defs.specs.Crossed.{leaving, life_channels, life_head}
use Rattle.world_defs.specs.Links.{Held, Caught, LinkState, empty_links, packet_in, with_packet, emptied, put}
use Rattle.world_defs.specs.Advance.{course, entered, gone_on, advance_of}
use Rattle.world_defs.specs.Fault.{repeat_of, hold_of, is_used_up, with_caught, flip_of, caught_as, released, replay_of, pull_by, plug}
use Rattle.world_defs.specs.LinkStep.{Step, Put, Advance, Lose, Reset, Repeat, Hold, Flip, Replay, Pull, Plug, Accept, stepped}
use Rattle.world_defs.specs.Mark.{Tells}
use Rattle.world_defs.proofs.Idling.{pick}
use Rattle.world_defs.proofs.HopsLeft.{course_into-enters}
use Rattle.world_defs.proofs.LonePackets.{get-empty}
use Rattle.world_defs.proofs.Shapes.{all-removed}
use Rattle.table_laws.specs.Packets.{Built, IsHonest, IsGoodStep}

-- what a move and a flip keep
pub record Carries (h : CableHistory) (F : ℕ → Held → Type 0) : Type 0 where
  pub strip : (c next : ℕ) (held : Held) → course h c held.wire ≡ Enters next → F c held → F next (record held { wire = stripped held.wire })
  pub flip : (c bit pattern : ℕ) (held : Held) → pattern < 256 → (not held.marked && may_flip held.wire bit pattern) ≡ true → F c held → F c (record held { wire = flipped held.wire bit pattern; marked = true })

-- what holds of each packet in a channel and in limbo
pub record Holds (F : ℕ → Held → Type 0) (s : LinkState) : Type 0 where
  pub in_channels : (c : ℕ) → IfSome (packet_in s c) (F c)
  pub in_limbo : AllByRecursion (λ e. F e.1.channel e.1.held) s.limbo

set-all : (F : ℕ → Held → Type 0) (ps : List (Option Held)) (c d : ℕ) (p : Option Held) → IfSome p (F c) → ((j : ℕ) → IfSome (get_or ps j None) (F j)) → IfSome (get_or (set ps c p) d None) (F d)
set-all F [] c d p here all = all d
set-all F (q ∷ ps) zero zero p here all = here
set-all F (q ∷ ps) zero (suc d) p here all = all (suc d)
set-all F (q ∷ ps) (suc c) zero p here all = all zero
set-all F (q ∷ ps) (suc c) (suc d) p here all = set-all (λ j. F (suc j)) ps c d p here (λ j. all (suc j))

looked_up : (P : Caught → Type 0) (test : ℕ → Bool) (es : List (ℕ × Caught)) → AllByRecursion (λ e. P e.1) es → IfSome (lookup test es) P
looked_up P test [] all = tt
looked_up P test (e ∷ es) all = by (test e.0) (looked_up P test es all.1)
  where
    by : (t : Bool) → IfSome (lookup test es) P → IfSome (if t then Some e.1 else lookup test es) P
    by true rest = all.0
    by false rest = rest

with_packet-holds : (F : ℕ → Held → Type 0) (s : LinkState) (c : ℕ) (p : Option Held) → Holds F s → IfSome p (F c) → Holds F (with_packet s c p)
with_packet-holds F s c p is here = record { in_channels = λ d. set-all F s.channels c d p here is.in_channels; in_limbo = is.in_limbo }

with_caught-holds : (F : ℕ → Held → Type 0) (s : LinkState) (c : ℕ) (held : Held) → Holds F s → F c held → Holds F (with_caught s c held)
with_caught-holds F s c held is here = record {
  in_channels = is.in_channels;
  in_limbo = all-push (λ e. F e.1.channel e.1.held) s.limbo (s.next_serial, record { channel = c; held = held }) is.in_limbo here;
}

pick-holds : {X : Type 0} (F : ℕ → Held → Type 0) (t : Bool) (x y : X × LinkState) → Holds F x.1 → Holds F y.1 → Holds F (pick t x y).1
pick-holds F true x y k m = k
pick-holds F false x y k m = m

entered-holds : (F : ℕ → Held → Type 0) (s : LinkState) (c : ℕ) (held : Held) (next : ℕ) (o : Option Held) → Holds F s → F next (record held { wire = stripped held.wire }) → Holds F (entered s c held next o).1
entered-holds F s c held next None is here = with_packet-holds F (emptied s c) next (Some (record held { wire = stripped held.wire })) (with_packet-holds F s c None is tt) here
entered-holds F s c held next (Some other) is here = is

gone_on-holds : (F : ℕ → Held → Type 0) (s : LinkState) (c : ℕ) (held : Held) (to : Course) → Carries s.cables F → Holds F s → F c held → course s.cables c held.wire ≡ to → Holds F (gone_on s c held to).1
gone_on-holds F s c held (Arrives h) k is here e = with_packet-holds F s c None is tt
gone_on-holds F s c held (Enters next) k is here e = entered-holds F s c held next (packet_in (emptied s c) next) is (k.strip c next held e here)
gone_on-holds F s c held (Drops why) k is here e = with_packet-holds F s c None is tt

advance_of-holds : (F : ℕ → Held → Type 0) (s : LinkState) (c : ℕ) (o : Option Held) → Carries s.cables F → Holds F s → IfSome o (F c) → Holds F (advance_of s c o).1
advance_of-holds F s c None k is here = is
advance_of-holds F s c (Some held) k is here = gone_on-holds F s c held (course s.cables c held.wire) k is here refl

repeat_of-holds : (F : ℕ → Held → Type 0) (s : LinkState) (c : ℕ) (o : Option Held) → Holds F s → IfSome o (F c) → Holds F (repeat_of s c o).1
repeat_of-holds F s c None is here = is
repeat_of-holds F s c (Some held) is here = pick-holds F (is_used_up s) (None, s) (Some s.next_serial, with_caught s c held) is (with_caught-holds F s c held is here)

hold_of-holds : (F : ℕ → Held → Type 0) (s : LinkState) (c : ℕ) (o : Option Held) → Holds F s → IfSome o (F c) → Holds F (hold_of s c o).1
hold_of-holds F s c None is here = is
hold_of-holds F s c (Some held) is here =
    pick-holds F (is_used_up s) (None, s) (Some s.next_serial, with_caught (emptied s c) c held) is (with_caught-holds F (emptied s c) c held (with_packet-holds F s c None is tt) here)

flip_of-holds : (F : ℕ → Held → Type 0) (s : LinkState) (c bit pattern : ℕ) (o : Option Held) → Carries s.cables F → pattern < 256 → Holds F s → IfSome o (F c) → Holds F (flip_of s c bit pattern o).1
flip_of-holds F s c bit pattern None k low is here = is
flip_of-holds F s c bit pattern (Some held) k low is here = by (not held.marked && may_flip held.wire bit pattern) refl
  where
    new : Held
    new = record held { wire = flipped held.wire bit pattern; marked = true }

    by : (t : Bool) → (not held.marked && may_flip held.wire bit pattern) ≡ t → Holds F (pick t (true, with_packet s c (Some new)) (false, s)).1
    by true e = with_packet-holds F s c (Some new) is (k.flip c bit pattern held low e here)
    by false e = is

replay_of-holds : (F : ℕ → Held → Type 0) (s : LinkState) (serial : ℕ) (o : Option Caught) → Holds F s → IfSome o (λ caught. F caught.channel caught.held) → Holds F (replay_of s serial o).1
replay_of-holds F s serial None is here = is
replay_of-holds F s serial (Some caught) is here =
    pick-holds F (is_some (packet_in s caught.channel)) (Busy caught.channel, s) (Back caught.channel, released s serial caught) is
    (record {
      in_channels = λ d. set-all F s.channels caught.channel d (Some caught.held) here is.in_channels;
      in_limbo = all-removed (λ e. F e.1.channel e.1.held) (nat_eq serial) s.limbo is.in_limbo;
    })

put-holds : (F : ℕ → Held → Type 0) (s : LinkState) (c : ℕ) (wire : List ℕ) → Holds F s → F c (record { wire = wire; marked = false; born = s.epoch }) → Holds F (put s c wire).1
put-holds F s c wire is here =
    let p : Option Held = Some (record { wire = wire; marked = false; born = s.epoch }) in
    pick-holds F (is_some (packet_in s c)) (false, s) (true, with_packet s c p) is (with_packet-holds F s c p is here)

-- a pull takes packets away, and a plug brings empty channels
all-of_some : {X : Type 0} (P : X → Type 0) (test : X → Bool) (xs : List X) → AllByRecursion P xs → AllByRecursion P (filter test xs)
all-of_some P test [] all = tt
all-of_some P test (x ∷ xs) all = by (test x) (all-of_some P test xs all.1)
  where
    by : (t : Bool) → AllByRecursion P (filter test xs) → AllByRecursion P (if t then x ∷ filter test xs else filter test xs)
    by true rest = (all.0, rest)
    by false rest = rest

pull_by-holds : (F : ℕ → Held → Type 0) (s : LinkState) (o : Option ℕ) → Holds F s → Holds F (pull_by s o).1
pull_by-holds F s None is = is
pull_by-holds F s (Some c) is =
    let k : ℕ = c / 2 in
    let one : LinkState = with_packet s (2 * k) None in
    record {
      in_channels = λ d. set-all F one.channels (2 * k + 1) d None tt (λ j. set-all F s.channels (2 * k) j None tt is.in_channels);
      in_limbo = all-of_some (λ e. F e.1.channel e.1.held) (λ e. not (nat_eq (e.1.channel / 2) k)) s.limbo is.in_limbo;
    }

pushed-all : (F : ℕ → Held → Type 0) (ps : List (Option Held)) (d : ℕ) → ((j : ℕ) → IfSome (get_or ps j None) (F j)) → IfSome (get_or (ps ++ None ∷ None ∷ []) d None) (F d)
pushed-all F [] zero all = tt
pushed-all F [] (suc zero) all = tt
pushed-all F [] (suc (suc d)) all = tt
pushed-all F (p ∷ ps) zero all = all zero
pushed-all F (p ∷ ps) (suc d) all = pushed-all (λ j. F (suc j)) ps d (λ j. all (suc j))

plug-holds : (F : ℕ → Held → Type 0) (s : LinkState) (a b : End) → Holds F s → Holds F (plug s a b).1
plug-holds F s a b is =
    let more : LinkState = record s { cables = with_plugged s.cables a b; channels = s.channels ++ None ∷ None ∷ [] } in
    pick-holds F (may_plug s.cables a b) (true, more) (false, s) (record { in_channels = λ d. pushed-all F s.channels d is.in_channels; in_limbo = is.in_limbo }) is

pub stepped-holds : (F : ℕ → Held → Type 0) (s : LinkState) (x : Step) → Carries s.cables F → IsGoodStep F s.epoch x → Holds F s → Holds F (stepped s x)
stepped-holds F s (Put c wire) k good is = put-holds F s c wire is good
stepped-holds F s (Advance c) k good is = advance_of-holds F s c (packet_in s c) k is (is.in_channels c)
stepped-holds F s (Lose c) k good is = with_packet-holds F s c None is tt
stepped-holds F s (Reset c) k good is = with_packet-holds F s c None is tt
stepped-holds F s (Repeat c) k good is = repeat_of-holds F s c (packet_in s c) is (is.in_channels c)
stepped-holds F s (Hold c) k good is = hold_of-holds F s c (packet_in s c) is (is.in_channels c)
stepped-holds F s (Flip c bit pattern) k good is = flip_of-holds F s c bit pattern (packet_in s c) k good is (is.in_channels c)
stepped-holds F s (Replay serial) k good is = replay_of-holds F s serial (caught_as s serial) is (looked_up (λ caught. F caught.channel caught.held) (nat_eq serial) s.limbo is.in_limbo)
stepped-holds F s (Pull e) k good is = pull_by-holds F s (leaving s.cables e) is
stepped-holds F s (Plug a b) k good is = plug-holds F s a b is
stepped-holds F s Accept k good is = record { in_channels = is.in_channels; in_limbo = is.in_limbo }

if-weaker : (F G : Held → Type 0) (o : Option Held) → ((held : Held) → F held → G held) → IfSome o F → IfSome o G
if-weaker F G None f is = tt
if-weaker F G (Some held) f is = f held is

pub weaker-holds : (F G : ℕ → Held → Type 0) (s : LinkState) → ((c : ℕ) (held : Held) → F c held → G c held) → Holds F s → Holds G s
weaker-holds F G s f is = record {
  in_channels = λ c. if-weaker (F c) (G c) (packet_in s c) (f c) (is.in_channels c);
  in_limbo = all-weaker (λ e. F e.1.channel e.1.held) (λ e. G e.1.channel e.1.held) s.limbo (λ e. f e.1.channel e.1.held) is.in_limbo;
}

pub empty-holds : (F : ℕ → Held → Type 0) (n : Network) → Holds F (empty_links n)
empty-holds F n = record {
  in_channels = λ c. subst (λ o. IfSome o (F c)) (sym (get-empty (life_channels (first_history n)) c None)) tt;
  in_limbo = tt;
}

-- packets that were built of good kinds and payloads
two_bytes : (wire : List ℕ) (turn : ℤ) → front_turn wire ≡ Some turn → 2 ≤ length wire
two_bytes [] turn e = cc
two_bytes (byte ∷ []) turn e = cc
two_bytes (byte ∷ next ∷ wire) turn e = omega arith

pub tells-stripped : (marked : Bool) (wire : List ℕ) (turn : ℤ) → front_turn wire ≡ Some turn → Tells marked wire → Tells marked (stripped wire)
tells-stripped true wire turn e is = subst (λ x. 0 < x) (sym (strip_keeps wire (two_bytes wire turn e))) is
tells-stripped false wire turn e is = strip_keeps wire (two_bytes wire turn e) ∙ is

pub flipped-tells : (marked : Bool) (wire : List ℕ) (bit pattern : ℕ) → pattern < 256 → Tells marked wire → (not marked && may_flip wire bit pattern) ≡ true → 0 < difference (flipped wire bit pattern)
flipped-tells true wire bit pattern h is e = absurd (true≢false (sym e))
flipped-tells false wire bit pattern h is e =
    let two = both (nat_lt 0 pattern) (nat_lt (bit + 7) (8 * length wire)) e in
    let some = two.0 in
    let room = two.1 in
    flip-seen wire bit pattern is (grind (arith, nat_tests)) h (grind (arith, nat_tests))

pub no_turn : (kind : Kind) (payload : List ℕ) (turn : ℤ) → front_turn (packet_of [] kind payload) ≡ Some turn → ⊥
no_turn kind payload turn e =
    let h = head_of [] kind payload in
    let none : front_turn (packet_of [] kind payload) ≡ None = ap (λ l. option_and_then turn_of (slice_get l 0)) (head-push h (crc h)) in
    let bad : None ≡ Some turn = sym none ∙ e in cc

built-stripped : (G : Kind → List ℕ → Type 0) (wire : List ℕ) (turn : ℤ) (route : List ℤ) (kind : Kind) (payload : List ℕ) → front_turn wire ≡ Some turn → wire ≡ packet_of route kind payload → G kind payload → Built G (stripped wire)
built-stripped G wire turn [] kind payload e same good = absurd (no_turn kind payload turn (ap front_turn (sym same) ∙ e))
built-stripped G wire turn (t ∷ route) kind payload e same good = record { route = route; kind = kind; payload = payload; written = ap stripped same ∙ packet_of-stripped t route kind payload; good = good }

pub carries-honest : (h : CableHistory) (G : Kind → List ℕ → Type 0) → Carries h (λ c. IsHonest G)
carries-honest h G = record {
  strip = λ c next held e is.
      let t = course_into-enters h (life_head h c) held.wire next e in
      record {
        mark = tells-stripped held.marked held.wire t.0 t.1 is.mark;
        built = λ m. let b = is.built m in built-stripped G held.wire t.0 b.route b.kind b.payload t.1 b.written b.good;
      };
  flip = λ c bit pattern held low e is. record { mark = flipped-tells held.marked held.wire bit pattern low is.mark e; built = λ m. absurd (true≢false m) };
}

-- a host that reads such a packet reads what is good
no_route : (turn : ℤ) (route : List ℤ) (kind : Kind) (payload : List ℕ) (r : Kind × List ℕ) → decode (packet_of (turn ∷ route) kind payload) ≡ Ok r → ⊥
no_route turn route kind payload r e =
    let h = head_of (turn ∷ route) kind payload in
    let left : has_route (head (packet_of (turn ∷ route) kind payload)) ≡ true = ap has_route (head-push h (crc h)) ∙ high (route_byte turn) (omega arith) in
    by (nat_eq (difference (packet_of (turn ∷ route) kind payload)) 0) (has_route (head (packet_of (turn ∷ route) kind payload))) left e
  where
    high : (b : ℕ) → 128 ≤ b → nat_le 128 b ≡ true
    high b l = grind (arith, nat_tests)

    by : (t u : Bool) → u ≡ true → (if t then if u then Err RouteLeft else body_of (head (packet_of (turn ∷ route) kind payload)) else Err BadCrc) ≡ Ok r → ⊥
    by true true l d = cc
    by true false l d = cc
    by false u l d = cc

good-read : (G : Kind → List ℕ → Type 0) (wire : List ℕ) (route : List ℤ) (kind k : Kind) (payload p : List ℕ) → wire ≡ packet_of route kind payload → decode wire ≡ Ok (k, p) → G kind payload → G k p
good-read G wire [] kind k payload p same e good =
    let read : Ok (kind, payload) ≡ Ok (k, p) = sym (decode-packet_of kind payload) ∙ ap decode (sym same) ∙ e in
    let pair : (kind, payload) ≡ (k, p) = same_ok (kind, payload) (k, p) read in
    subst (λ x. G x.0 x.1) pair good
  where
    same_ok : (x y : Kind × List ℕ) → (let r : Result (Kind × List ℕ) HostDrop = Ok x in r) ≡ Ok y → x ≡ y
    same_ok x y e = cc
good-read G wire (turn ∷ route) kind k payload p same e good = absurd (no_route turn route kind payload (k, p) (ap decode (sym same) ∙ e))

marked-read : (G : Kind → List ℕ → Type 0) (marked : Bool) (wire : List ℕ) (k : Kind) (p : List ℕ) → Tells marked wire → (marked ≡ false → Built G wire) → decode wire ≡ Ok (k, p) → G k p
marked-read G true wire k p m b e = apart (k, p) (sym (decode-difference wire m) ∙ e)
  where
    apart : (x : Kind × List ℕ) → (let r : Result (Kind × List ℕ) HostDrop = Err BadCrc in r) ≡ Ok x → G k p
    apart x e = cc
marked-read G false wire k p m b e = let x = b refl in good-read G wire x.route x.kind k x.payload p x.written e x.good

pub honest-read : (G : Kind → List ℕ → Type 0) (held : Held) (k : Kind) (p : List ℕ) → IsHonest G held → decode held.wire ≡ Ok (k, p) → G k p
honest-read G held k p is e = marked-read G held.marked held.wire k p is.mark is.built e
