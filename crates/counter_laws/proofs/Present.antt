-- How many packets the links hold, before and after each of their steps.
use Rattle.std.proofs.Common.{◌≡◌, ◌<◌, ◌+◌, ◌*◌, ◌/◌, ℕ, zero, suc, Bool, true, false, cond, not, ◌&&◌, nat_eq, List, [], ◌∷◌, ◌++◌, length, get_or, set, count_by, Option, Some, None, is_some, refl, sym, ap, ◌∙◌, subst, arith, true≢false, length-append, length-set, if◌then◌else◌}
use Rattle.std.specs.List.{AllByRecursion, filter}
use Rattle.std.specs.Map.{lookup, remove_entry}
use Rattle.std.proofs.lemmas.List.{get_or-set_other}
use Rattle.std.proofs.lemmas.List.Sums.{sum_by-set, sum_by-append}
use Rattle.net_defs.specs.declared.vertex.Vertex.TheVariants.{Host, Switch}
use Rattle.net_defs.specs.declared.vertex.End.{End}
use Rattle.net_defs.specs.Network.{ports_of}
use Rattle.world_defs.specs.History.{CableHistory, fabric_now, may_plug, with_plugged}
use Rattle.world_defs.specs.declared.turned.Turned.{Turned}
use Rattle.world_defs.specs.declared.turned.Turned.TheVariants.{Out, OutOfRange as TurnedTooFar, NotRoute as NoTurn}
use Rattle.world_defs.specs.declared.moved.Course.TheVariants.{Enters, Drops}
use Rattle.world_defs.specs.declared.moved.Why.TheVariants.{NewCable}
use Rattle.world_defs.specs.Kinds.{is_mapping}
use Rattle.world_defs.specs.declared.replayed.Replayed.TheVariants.{Back, Busy}
use Rattle.world_defs.specs.Crossed.{leaving, life_channels, life_head, is_new}
use Rattle.world_defs.proofs.ForLife.{leaving_has_its_end}
use Rattle.world_defs.specs.Links.{Held, Caught, LinkState, packet_in, with_packet, emptied, put}
use Rattle.world_defs.specs.Switch.{aim}
use Rattle.world_defs.specs.Advance.{course_by_channel, course_out, course_at, course_into, course}
use Rattle.world_defs.specs.Fault.{lose, repeat_of, repeat, hold_of, hold, flip_of, flip, is_used_up, with_caught, caught_as, released, replay_of, replay, without_cable, pull_by, pull, plug}
use Rattle.world_defs.specs.Shape.{IsLinks}
use Rattle.world_defs.proofs.Idling.{pick}
use Rattle.packet_defs.specs.Burst.{flipped, may_flip}
use Rattle.counter_laws.specs.Counts.{with_cable, taken_at, in_channels, in_limbo}

-- the packets that the links hold
abbrev pub present : LinkState → ℕ
present s = in_channels s + in_limbo s

-- the packets in one channel
abbrev one : Option Held → ℕ
one p = cond (is_some p) 1 0

-- a write to a channel
channels-set : (s : LinkState) (c : ℕ) (p o : Option Held) → c < length s.channels → packet_in s c ≡ o → in_channels (with_packet s c p) + one o ≡ in_channels s + one p
channels-set s c p o low e = subst (λ q. in_channels (with_packet s c p) + one q ≡ in_channels s + one p) e (sum_by-set one s.channels c p None low)

-- a packet stands in a channel that is there
there : (ps : List (Option Held)) (c : ℕ) (held : Held) → get_or ps c None ≡ Some held → c < length ps
there [] c held e = cc
there (p ∷ ps) zero held e = omega arith
there (p ∷ ps) (suc c) held e = let h = there ps c held e in omega arith

-- a channel is filled, emptied, or written over
pub filled-present : (s : LinkState) (c : ℕ) (held : Held) → c < length s.channels → packet_in s c ≡ None → present (with_packet s c (Some held)) ≡ present s + 1
filled-present s c held low e = let h = channels-set s c (Some held) None low e in omega (arith, h)

pub emptied-present : (s : LinkState) (c : ℕ) (held : Held) → packet_in s c ≡ Some held → present (emptied s c) + 1 ≡ present s
emptied-present s c held e = let h = channels-set s c None (Some held) (there s.channels c held e) e in omega (arith, h)

over-present : (s : LinkState) (c : ℕ) (held next : Held) → packet_in s c ≡ Some held → present (with_packet s c (Some next)) ≡ present s
over-present s c held next e = let h = channels-set s c (Some next) (Some held) (there s.channels c held e) e in omega (arith, h)

-- a packet comes into limbo
caught-present : (s : LinkState) (c : ℕ) (held : Held) → present (with_caught s c held) ≡ present s + 1
caught-present s c held = let h = length-append s.limbo ((s.next_serial, record { channel = c; held = held }) ∷ []) in omega (arith, h)

-- a new packet
pub put-present : (s : LinkState) (c : ℕ) (wire : List ℕ) → c < length s.channels → packet_in s c ≡ None → present (put s c wire).1 ≡ present s + 1
put-present s c wire low e =
    let new : Held = record { wire = wire; marked = false; born = s.epoch } in
    ap (λ o. present (pick (is_some o) (false, s) (true, with_packet s c (Some new))).1) e ∙ filled-present s c new low e

-- a loss, and a reset
pub lose-present : (s : LinkState) (c : ℕ) → (lose s c).0 ≡ true → present (lose s c).1 + 1 ≡ present s
lose-present s c k = by (packet_in s c) refl k
  where
    by : (o : Option Held) → packet_in s c ≡ o → is_some o ≡ true → present (emptied s c) + 1 ≡ present s
    by None e k = cc
    by (Some held) e k = emptied-present s c held e

-- a copy
pub repeat-present : (s : LinkState) (c : ℕ) → is_some (repeat s c).0 ≡ true → present (repeat s c).1 ≡ present s + 1
repeat-present s c k = by (packet_in s c) k
  where
    left : (held : Held) (b : Bool) → is_some (pick b (None, s) (Some s.next_serial, with_caught s c held)).0 ≡ true → present (pick b (None, s) (Some s.next_serial, with_caught s c held)).1 ≡ present s + 1
    left held true k = cc
    left held false k = caught-present s c held

    by : (o : Option Held) → is_some (repeat_of s c o).0 ≡ true → present (repeat_of s c o).1 ≡ present s + 1
    by None k = cc
    by (Some held) k = left held (is_used_up s) k

-- a packet is held
pub hold-present : (s : LinkState) (c : ℕ) → is_some (hold s c).0 ≡ true → present (hold s c).1 ≡ present s
hold-present s c k = by (packet_in s c) refl k
  where
    left : (held : Held) (b : Bool) → packet_in s c ≡ Some held → is_some (pick b (None, s) (Some s.next_serial, with_caught (emptied s c) c held)).0 ≡ true
        → present (pick b (None, s) (Some s.next_serial, with_caught (emptied s c) c held)).1 ≡ present s
    left held true e k = cc
    left held false e k = caught-present (emptied s c) c held ∙ emptied-present s c held e

    by : (o : Option Held) → packet_in s c ≡ o → is_some (hold_of s c o).0 ≡ true → present (hold_of s c o).1 ≡ present s
    by None e k = cc
    by (Some held) e k = left held (is_used_up s) e k

-- a packet is flipped
pub flip-present : (s : LinkState) (c bit pattern : ℕ) → (flip s c bit pattern).0 ≡ true → present (flip s c bit pattern).1 ≡ present s
flip-present s c bit pattern k = by (packet_in s c) refl k
  where
    next : Held → Held
    next held = record held { wire = flipped held.wire bit pattern; marked = true }

    may : (held : Held) (b : Bool) → packet_in s c ≡ Some held → (pick b (true, with_packet s c (Some (next held))) (false, s)).0 ≡ true → present (pick b (true, with_packet s c (Some (next held))) (false, s)).1 ≡ present s
    may held true e k = over-present s c held (next held) e
    may held false e k = cc

    by : (o : Option Held) → packet_in s c ≡ o → (flip_of s c bit pattern o).0 ≡ true → present (flip_of s c bit pattern o).1 ≡ present s
    by None e k = cc
    by (Some held) e k = may held (not held.marked && may_flip held.wire bit pattern) e k

-- what is found in limbo was in a channel that is there, and is taken out once
found-low : (count : ℕ) (test : ℕ → Bool) (es : List (ℕ × Caught)) (x : Caught) → AllByRecursion (λ e. e.1.channel < count) es → lookup test es ≡ Some x → x.channel < count
found-low count test [] x all e = cc
found-low count test (d ∷ es) x all e = by (test d.0) (found-low count test es x all.1) e
  where
    same : (y : Caught) → y.channel < count → Some y ≡ Some x → x.channel < count
    same y low f = let g : y ≡ x = cc in subst (λ z. z.channel < count) g low

    by : (b : Bool) → (lookup test es ≡ Some x → x.channel < count) → (if b then Some d.1 else lookup test es) ≡ Some x → x.channel < count
    by true rest f = same d.1 all.0 f
    by false rest f = rest f

found-once : (test : ℕ → Bool) (es : List (ℕ × Caught)) (x : Caught) → lookup test es ≡ Some x → length (remove_entry test es) + 1 ≡ length es
found-once test [] x e = cc
found-once test (d ∷ es) x e = by (test d.0) (found-once test es x) e
  where
    by : (b : Bool) → (lookup test es ≡ Some x → length (remove_entry test es) + 1 ≡ length es) → (if b then Some d.1 else lookup test es) ≡ Some x → length (if b then es else d ∷ remove_entry test es) + 1 ≡ length (d ∷ es)
    by true rest f = omega arith
    by false rest f = let h = rest f in omega (arith, h)

-- a replay
pub replay-present : (s : LinkState) (serial c : ℕ) → IsLinks s → (replay s serial).0 ≡ Back c → present (replay s serial).1 ≡ present s
replay-present s serial c is k = by (caught_as s serial) refl k
  where
    room : (x : Caught) (o : Option Held) → caught_as s serial ≡ Some x → packet_in s x.channel ≡ o → (pick (is_some o) (Busy x.channel, s) (Back x.channel, released s serial x)).0 ≡ Back c
        → present (pick (is_some o) (Busy x.channel, s) (Back x.channel, released s serial x)).1 ≡ present s
    room x (Some held) e f k = cc
    room x None e f k =
        let low = found-low (length s.channels) (nat_eq serial) s.limbo x is.from_channels e in
        let put : present (with_packet s x.channel (Some x.held)) ≡ present s + 1 = filled-present s x.channel x.held low f in
        let out = found-once (nat_eq serial) s.limbo x e in
        omega (arith, put, out)

    by : (o : Option Caught) → caught_as s serial ≡ o → (replay_of s serial o).0 ≡ Back c → present (replay_of s serial o).1 ≡ present s
    by None e k = cc
    by (Some x) e k = room x (packet_in s x.channel) e refl k

-- a count with one thing more
count-cons : {A : Type 0} (t : A → Bool) (x : A) (xs : List A) → count_by t (x ∷ xs) ≡ count_by t xs + cond (t x) 1 0
count-cons {A = A} t x xs = let h : count_by t (x ∷ xs) ≡ (0 + cond (t x) 1 0) + count_by t xs = sum_by-append (λ (y : A). cond (t y) 1 0) (x ∷ []) xs in omega (arith, h)

-- a channel is emptied, whatever it holds
taken-one : (ps : List (Option Held)) (i : ℕ) → count_by is_some (set ps i None) + one (get_or ps i None) ≡ count_by is_some ps
taken-one [] i = refl
taken-one (p ∷ ps) zero =
    let a : count_by is_some (None ∷ ps) ≡ count_by is_some ps + 0 = count-cons is_some None ps in
    let b : count_by is_some (p ∷ ps) ≡ count_by is_some ps + one p = count-cons is_some p ps in
    omega (arith, a, b)
taken-one (p ∷ ps) (suc i) =
    let h = taken-one ps i in
    let a : count_by is_some (p ∷ set ps i None) ≡ count_by is_some (set ps i None) + one p = count-cons is_some p (set ps i None) in
    let b : count_by is_some (p ∷ ps) ≡ count_by is_some ps + one p = count-cons is_some p ps in
    omega (arith, h, a, b)

two : (p q : Option Held) → count_by is_some (p ∷ q ∷ []) ≡ one q + one p
two p q =
    let a : count_by is_some (p ∷ q ∷ []) ≡ count_by is_some (q ∷ []) + one p = count-cons is_some p (q ∷ []) in
    let b : count_by is_some (q ∷ []) ≡ 0 + one q = count-cons is_some q [] in
    omega (arith, a, b)

channels-taken : (ps : List (Option Held)) (k : ℕ) → count_by is_some (set (set ps (2 * k) None) (2 * k + 1) None) + count_by is_some (get_or ps (2 * k) None ∷ get_or ps (2 * k + 1) None ∷ []) ≡ count_by is_some ps
channels-taken ps k =
    let a = taken-one ps (2 * k) in
    let b = taken-one (set ps (2 * k) None) (2 * k + 1) in
    let c : one (get_or (set ps (2 * k) None) (2 * k + 1) None) ≡ one (get_or ps (2 * k + 1) None) = ap one (get_or-set_other ps (2 * k) (2 * k + 1) None None (λ e. omega (arith, e))) in
    let d = two (get_or ps (2 * k) None) (get_or ps (2 * k + 1) None) in
    omega (arith, a, b, c, d)

-- what a test leaves and what it takes
filtered : {A : Type 0} (t : A → Bool) (es : List A) → length (filter (λ e. not (t e)) es) + count_by t es ≡ length es
filtered t [] = refl
filtered {A = A} t (e ∷ es) = ap (λ m. length (filter (λ x. not (t x)) (e ∷ es)) + m) (count-cons t e es) ∙ by (t e) (filtered t es)
  where
    by : (b : Bool) → length (filter (λ x. not (t x)) es) + count_by t es ≡ length es → length (if not b then e ∷ filter (λ x. not (t x)) es else filter (λ x. not (t x)) es) + (count_by t es + cond b 1 0) ≡ suc (length es)
    by true h = omega (arith, h)
    by false h = omega (arith, h)

-- a pull
pub pull-present : (s : LinkState) (e : End) → (pull s e).0 ≡ true → present (pull s e).1 + taken_at s e ≡ present s
pull-present s e k = by (leaving s.cables e) k
  where
    by : (o : Option ℕ) → (pull_by s o).0 ≡ true → present (pull_by s o).1 + with_cable s o ≡ present s
    by None k = absurd (true≢false (sym k))
    by (Some c) k =
        let a = channels-taken s.channels (c / 2) in
        let b : length (without_cable (c / 2) s.limbo) + count_by (λ (x : ℕ × Caught). nat_eq (x.1.channel / 2) (c / 2)) s.limbo ≡ length s.limbo = filtered (λ (x : ℕ × Caught). nat_eq (x.1.channel / 2) (c / 2)) s.limbo in
        omega (arith, a, b)

pub pull-nothing : (s : LinkState) (e : End) → (pull s e).0 ≡ false → taken_at s e ≡ 0
pull-nothing s e k = by (leaving s.cables e) k
  where
    by : (o : Option ℕ) → (pull_by s o).0 ≡ false → with_cable s o ≡ 0
    by None k = refl
    by (Some c) k = absurd (true≢false k)

-- a plug
pub plug-present : (s : LinkState) (a b : End) → (plug s a b).0 ≡ true → present (plug s a b).1 ≡ present s
plug-present s a b k = by (may_plug s.cables a b) k
  where
    l : LinkState
    l = record s { cables = with_plugged s.cables a b; channels = s.channels ++ None ∷ None ∷ [] }

    by : (t : Bool) → (pick t (true, l) (false, s)).0 ≡ true → present (pick t (true, l) (false, s)).1 ≡ present s
    by false k = absurd (true≢false (sym k))
    by true k =
        let h : count_by is_some (s.channels ++ None ∷ None ∷ []) ≡ count_by is_some s.channels + 0 = sum_by-append one s.channels (None ∷ None ∷ []) in
        let m : count_by is_some (s.channels ++ None ∷ None ∷ []) + length s.limbo ≡ count_by is_some s.channels + length s.limbo = omega (arith, h) in
        m

-- a packet enters a channel that is there
enters-low : (cables : CableHistory) (c next : ℕ) (wire : List ℕ) → course cables c wire ≡ Enters next → next < life_channels cables
enters-low cables c next wire e = into (life_head cables c) e
  where
    may : (x : End) (d : ℕ) (b : Bool) → leaving cables x ≡ Some d → (if b then Drops NewCable else Enters d) ≡ Enters next → next < life_channels cables
    may x d true f g = cc
    may x d false f g = let same : d ≡ next = cc in subst (λ k. k < life_channels cables) same (leaving_has_its_end cables x d f).there

    to : (x : End) (o : Option ℕ) → leaving cables x ≡ o → course_by_channel cables wire o ≡ Enters next → next < life_channels cables
    to x None f g = cc
    to x (Some d) f g = may x d (is_new cables d && not (is_mapping wire)) f g

    out : (s : ℕ) (t : Turned) → course_out cables s wire t ≡ Enters next → next < life_channels cables
    out s (Out port) g = to (record { v = Switch s; p = port }) (leaving cables (record { v = Switch s; p = port })) refl g
    out s TurnedTooFar g = cc
    out s NoTurn g = cc

    into : (o : Option End) → course_into cables o wire ≡ Enters next → next < life_channels cables
    into None g = cc
    into (Some x) g = at x.v g
      where
        at : (v : _) → course_at cables v x.p wire ≡ Enters next → next < life_channels cables
        at (Host h) g = cc
        at (Switch s) g = out s (aim (ports_of (fabric_now cables) (Switch s)) x.p wire) g

pub moved-present : (s : LinkState) (c next : ℕ) (held moved : Held) → IsLinks s → packet_in s c ≡ Some held → course s.cables c held.wire ≡ Enters next → packet_in (emptied s c) next ≡ None
    → present (with_packet (emptied s c) next (Some moved)) ≡ present s
moved-present s c next held moved is e g room =
    let long : length (set s.channels c None) ≡ length s.channels = length-set s.channels c None in
    let low = enters-low s.cables c next held.wire g in
    let slots = is.slots in
    let inside : next < length (emptied s c).channels = omega (arith, long, low, slots) in
    filled-present (emptied s c) next moved inside room ∙ emptied-present s c held e
