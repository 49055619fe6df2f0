-- An advance that changes something lowers the hops left.
use Rattle.std.proofs.Common.{◌≡◌, ◌<◌, ◌≤◌, ◌+◌, ℕ, Bool, true, false, ℤ, List, [], ◌∷◌, ◌++◌, length, Option, Some, None, is_some, is_none, refl, sym, ap, ◌∙◌, subst, arith, true≢false}
use Rattle.std.specs.List.{prefix_len, slice_get, list_all}
use Rattle.std.specs.Option.{option_and_then}
use Rattle.std.specs.Int.Bits.{bit_xor}
use Rattle.net_defs.specs.declared.vertex.Vertex.{Vertex}
use Rattle.net_defs.specs.declared.vertex.Vertex.TheVariants.{Host, Switch}
use Rattle.net_defs.specs.declared.vertex.End.{End}
use Rattle.net_defs.specs.Network.{ports_of}
use Rattle.world_defs.specs.History.{CableHistory, fabric_now}
use Rattle.world_defs.specs.Crossed.{life_head}
use Rattle.packet_defs.specs.Crc.{contribution}
use Rattle.packet_defs.specs.RouteByte.{turn_of, is_route_byte}
use Rattle.packet_defs.specs.Packet.{front_turn, stripped}
use Rattle.packet_defs.proofs.Packets.{ended, head-push, stripped-push}
use Rattle.world_defs.specs.declared.turned.Turned.{Turned}
use Rattle.world_defs.specs.declared.turned.Turned.TheVariants.{Out, OutOfRange as TurnedTooFar, NotRoute as NoTurn}
use Rattle.world_defs.specs.declared.moved.Course.{Course}
use Rattle.world_defs.specs.declared.moved.Course.TheVariants.{Arrives, Enters, Drops}
use Rattle.world_defs.specs.Switch.{aim, aim_of}
use Rattle.world_defs.specs.Links.{Held, LinkState, packet_in, with_packet, emptied, is_idle}
use Rattle.world_defs.specs.Advance.{course, course_out, course_at, course_into, entered, gone_on, advance_of, advance}
use Rattle.world_defs.specs.Hops.{hops_left, hops_of, hops_in, total_hops, changes}
use Rattle.world_defs.proofs.Slots.{hops-set}

-- a packet with a turn in front has one hop more than it has without that byte
hops_left-push : (byte : ℕ) (turn : ℤ) (front : List ℕ) (last : ℕ) → turn_of byte ≡ Some turn → hops_left (byte ∷ front ++ last ∷ []) ≡ 1 + hops_left (stripped (byte ∷ front ++ last ∷ []))
hops_left-push byte turn front last e =
    let before : hops_left (byte ∷ front ++ last ∷ []) ≡ 1 + prefix_len is_route_byte (byte ∷ front) = ap (λ l. 1 + prefix_len is_route_byte l) (head-push (byte ∷ front) last) in
    let valid : is_route_byte byte ≡ true = ap is_some e in
    let one_more : prefix_len is_route_byte (byte ∷ front) ≡ 1 + prefix_len is_route_byte front = rw valid refl in
    let c = bit_xor last (contribution byte (length front)) in
    let after : hops_left (stripped (byte ∷ front ++ last ∷ [])) ≡ 1 + prefix_len is_route_byte front =
    ap hops_left (stripped-push byte front last) ∙ ap (λ l. 1 + prefix_len is_route_byte l) (head-push front c) in
    omega (arith, before, one_more, after)

pub hops_left-stripped : (wire : List ℕ) (turn : ℤ) → front_turn wire ≡ Some turn → hops_left wire ≡ 1 + hops_left (stripped wire)
hops_left-stripped [] turn e = cc
hops_left-stripped (byte ∷ []) turn e = cc
hops_left-stripped (byte ∷ next ∷ wire) turn e =
    let w = ended next wire in
    let begins : front_turn (byte ∷ w.front ++ w.last ∷ []) ≡ turn_of byte = ap (λ l. option_and_then turn_of (slice_get l 0)) (head-push (byte ∷ w.front) w.last) in
    let is : turn_of byte ≡ Some turn = sym begins ∙ sym (ap (λ l. front_turn (byte ∷ l)) w.whole) ∙ e in
    subst (λ l. hops_left (byte ∷ l) ≡ 1 + hops_left (stripped (byte ∷ l))) (sym w.whole) (hops_left-push byte turn w.front w.last is)

-- a packet that enters a channel has a turn in front
aim_of-out : (ports entry : ℕ) (o : Option ℤ) (port : ℕ) → aim_of ports entry o ≡ Out port → (turn : ℤ) × (o ≡ Some turn)
aim_of-out ports entry None port e = cc
aim_of-out ports entry (Some turn) port e = (turn, refl)

course_out-enters : (h : CableHistory) (s : ℕ) (wire : List ℕ) (t : Turned) (next : ℕ) → course_out h s wire t ≡ Enters next → (port : ℕ) × (t ≡ Out port)
course_out-enters h s wire (Out port) next e = (port, refl)
course_out-enters h s wire TurnedTooFar next e = cc
course_out-enters h s wire NoTurn next e = cc

course_at-enters : (h : CableHistory) (v : Vertex) (entry : ℕ) (wire : List ℕ) (next : ℕ) → course_at h v entry wire ≡ Enters next → (turn : ℤ) × (front_turn wire ≡ Some turn)
course_at-enters h (Host a) entry wire next e = cc
course_at-enters h (Switch s) entry wire next e =
    let out = course_out-enters h s wire (aim (ports_of (fabric_now h) (Switch s)) entry wire) next e in
    aim_of-out (ports_of (fabric_now h) (Switch s)) entry (front_turn wire) out.0 out.1

pub course_into-enters : (h : CableHistory) (o : Option End) (wire : List ℕ) (next : ℕ) → course_into h o wire ≡ Enters next → (turn : ℤ) × (front_turn wire ≡ Some turn)
course_into-enters h None wire next e = cc
course_into-enters h (Some d) wire next e = course_at-enters h d.v d.p wire next e

-- what a packet gives up that leaves the links
emptied-hops : (s : LinkState) (c : ℕ) (held : Held) → packet_in s c ≡ Some held → total_hops (emptied s c) + hops_left held.wire ≤ total_hops s
emptied-hops s c held e =
    let h : total_hops (emptied s c) + hops_of (packet_in s c) ≤ total_hops s + 0 = hops-set s.channels c None in
    let k : hops_of (packet_in s c) ≡ hops_left held.wire = ap hops_of e in
    omega (arith, h, k)

entered-hops : (s : LinkState) (c : ℕ) (held : Held) (next : ℕ) (turn : ℤ) (o : Option Held) → packet_in s c ≡ Some held → front_turn held.wire ≡ Some turn → packet_in (emptied s c) next ≡ o → changes (entered s c held next o).0 ≡ true → total_hops (entered s c held next o).1 < total_hops s
entered-hops s c held next turn None e t there is =
    let gone = emptied-hops s c held e in
    let less = hops_left-stripped held.wire turn t in
    let on : Held = record held { wire = stripped held.wire } in
    let h : total_hops (with_packet (emptied s c) next (Some on)) + hops_of (packet_in (emptied s c) next) ≤ total_hops (emptied s c) + hops_left (stripped held.wire) = hops-set (emptied s c).channels next (Some on) in
    omega (arith, gone, less, h)
entered-hops s c held next turn (Some other) e t there is = absurd (true≢false (sym is))

gone_on-hops : (s : LinkState) (c : ℕ) (held : Held) (to : Course) → packet_in s c ≡ Some held → course s.cables c held.wire ≡ to → changes (gone_on s c held to).0 ≡ true → total_hops (gone_on s c held to).1 < total_hops s
gone_on-hops s c held (Arrives h) e to is = let k = emptied-hops s c held e in omega arith
gone_on-hops s c held (Enters next) e to is =
    let t = course_into-enters s.cables (life_head s.cables c) held.wire next to in
    entered-hops s c held next t.0 (packet_in (emptied s c) next) e t.1 refl is
gone_on-hops s c held (Drops why) e to is = let k = emptied-hops s c held e in omega arith

advance_of-hops : (s : LinkState) (c : ℕ) (o : Option Held) → packet_in s c ≡ o → changes (advance_of s c o).0 ≡ true → total_hops (advance_of s c o).1 < total_hops s
advance_of-hops s c None e is = absurd (true≢false (sym is))
advance_of-hops s c (Some held) e is = gone_on-hops s c held (course s.cables c held.wire) e refl is

-- the law
pub advance-hops : (s : LinkState) (c : ℕ) → changes (advance s c).0 ≡ true → total_hops (advance s c).1 < total_hops s
advance-hops s c is = advance_of-hops s c (packet_in s c) refl is

-- an advance that changes nothing leaves the links as they were
entered-still : (s : LinkState) (c : ℕ) (held : Held) (next : ℕ) (o : Option Held) → changes (entered s c held next o).0 ≡ false → (entered s c held next o).1 ≡ s
entered-still s c held next None is = absurd (true≢false is)
entered-still s c held next (Some other) is = refl

gone_on-still : (s : LinkState) (c : ℕ) (held : Held) (to : Course) → changes (gone_on s c held to).0 ≡ false → (gone_on s c held to).1 ≡ s
gone_on-still s c held (Arrives h) is = absurd (true≢false is)
gone_on-still s c held (Enters next) is = entered-still s c held next (packet_in (emptied s c) next) is
gone_on-still s c held (Drops why) is = absurd (true≢false is)

advance_of-still : (s : LinkState) (c : ℕ) (o : Option Held) → changes (advance_of s c o).0 ≡ false → (advance_of s c o).1 ≡ s
advance_of-still s c None is = refl
advance_of-still s c (Some held) is = gone_on-still s c held (course s.cables c held.wire) is

pub advance-still : (s : LinkState) (c : ℕ) → changes (advance s c).0 ≡ false → (advance s c).1 ≡ s
advance-still s c is = advance_of-still s c (packet_in s c) is

-- and one that leaves them so changed nothing
pub still-advance : (s : LinkState) (c : ℕ) → (advance s c).1 ≡ s → changes (advance s c).0 ≡ false
still-advance s c e = by (changes (advance s c).0) refl
  where
    by : (t : Bool) → changes (advance s c).0 ≡ t → changes (advance s c).0 ≡ false
    by true is = let h = advance-hops s c is in let same : total_hops (advance s c).1 ≡ total_hops s = ap total_hops e in absurd (omega (arith, h, same))
    by false is = is

-- no hops, no packet
no_hops-none : (p : Option Held) → hops_of p ≡ 0 → is_none p ≡ true
no_hops-none None e = refl
no_hops-none (Some held) e = absurd (omega arith)

hops_in-idle : (ps : List (Option Held)) → hops_in ps ≡ 0 → list_all is_none ps ≡ true
hops_in-idle [] e = refl
hops_in-idle (p ∷ ps) e =
    let here : is_none p ≡ true = no_hops-none p (omega arith) in
    let rest : list_all is_none ps ≡ true = hops_in-idle ps (omega arith) in
    rw here rest

pub no_hops-idle : (s : LinkState) → total_hops s ≡ 0 → is_idle s ≡ true
no_hops-idle s e = hops_in-idle s.channels e
