-- One packet alone in the channels, whatever limbo holds: where it goes, and what an advance makes of it.
use Rattle.std.proofs.Common.{◌≡◌, ◌≢◌, ◌<◌, ◌≤◌, ℕ, zero, suc, Bool, true, false, not, ◌&&◌, ℤ, List, [], ◌∷◌, length, get_or, set, replicate, Option, Some, None, is_none, refl, sym, ap, ◌∙◌, subst, arith, true≢false, if◌then◌else◌}
use Rattle.std.specs.List.{list_all}
use Rattle.std.proofs.lemmas.List.{length-replicate, get_or-set_same, get_or-set_other}
use Rattle.net_defs.specs.declared.vertex.Vertex.{Vertex}
use Rattle.net_defs.specs.declared.vertex.Vertex.TheVariants.{Host, Switch}
use Rattle.net_defs.specs.declared.vertex.End.{End}
use Rattle.net_defs.specs.Network.{ports_of}
use Rattle.world_defs.specs.History.{CableHistory, fabric_now}
use Rattle.packet_defs.specs.Packet.{front_turn, stripped, difference}
use Rattle.packet_defs.proofs.Packets.{length-stripped, strip_keeps}
use Rattle.world_defs.specs.declared.turned.Turned.{Turned}
use Rattle.world_defs.specs.declared.turned.Turned.TheVariants.{Out, OutOfRange as TurnedTooFar, NotRoute as NoTurn}
use Rattle.world_defs.specs.declared.moved.Course.{Course}
use Rattle.world_defs.specs.declared.moved.Course.TheVariants.{Arrives, Enters, Drops}
use Rattle.world_defs.specs.declared.moved.Moved.{Moved}
use Rattle.world_defs.specs.declared.moved.Moved.TheVariants.{To, AtHost, Dropped}
use Rattle.world_defs.specs.declared.moved.Why.{Why}
use Rattle.world_defs.specs.declared.moved.Why.TheVariants.{NewCable}
use Rattle.world_defs.specs.Kinds.{is_mapping}
use Rattle.world_defs.specs.Crossed.{leaving, life_channels, life_head, is_new}
use Rattle.world_defs.proofs.ForLife.{leaving_has_its_end}
use Rattle.world_defs.specs.Switch.{aim}
use Rattle.world_defs.specs.Links.{Held, LinkState, packet_in, with_packet, emptied, is_idle}
use Rattle.world_defs.specs.Advance.{course, course_by_channel, course_out, course_into, entered, gone_on, advance_of, advance}
use Rattle.world_defs.proofs.HopsLeft.{course_into-enters}
use Rattle.world_defs.proofs.LonePackets.{get-empty}

-- the links without packets in channels, and with one
abbrev pub bare : LinkState → LinkState
bare s = record s { channels = replicate (life_channels s.cables) None }

abbrev pub with_lone : LinkState → ℕ → Held → LinkState
with_lone s c held = with_packet (bare s) c (Some held)

pub set-twice : {X : Type 0} (xs : List X) (c : ℕ) (a b : X) → set (set xs c a) c b ≡ set xs c b
set-twice [] c a b = refl
set-twice (x ∷ xs) zero a b = refl
set-twice (x ∷ xs) (suc c) a b = ap (λ l. x ∷ l) (set-twice xs c a b)

pub set-empty : {X : Type 0} (k c : ℕ) (x : X) → set (replicate k x) c x ≡ replicate k x
set-empty zero c x = refl
set-empty (suc k) zero x = refl
set-empty (suc k) (suc c) x = ap (λ l. x ∷ l) (set-empty k c x)

-- the same of the channels of links
abbrev pub IsBare : LinkState → Type 0
IsBare s = s.channels ≡ replicate (life_channels s.cables) None

abbrev pub HasLone : LinkState → ℕ → Held → Type 0
HasLone s c held = s.channels ≡ set (replicate (life_channels s.cables) None) c (Some held)

pub is-bare : (s : LinkState) → IsBare s → s ≡ bare s
is-bare s e = ap (λ l. record s { channels = l }) e

pub has-lone : (s : LinkState) (c : ℕ) (held : Held) → HasLone s c held → s ≡ with_lone s c held
has-lone s c held e = ap (λ l. record s { channels = l }) e

-- a packet is put, taken or replaced
pub put-lone : (s : LinkState) (c : ℕ) (held : Held) → IsBare s → set s.channels c (Some held) ≡ set (replicate (life_channels s.cables) None) c (Some held)
put-lone s c held e = ap (λ l. set l c (Some held)) e

pub take-lone : (s : LinkState) (c : ℕ) (held : Held) → HasLone s c held → set s.channels c None ≡ replicate (life_channels s.cables) None
take-lone s c held e = ap (λ l. set l c None) e ∙ set-twice (replicate (life_channels s.cables) None) c (Some held) None ∙ set-empty (life_channels s.cables) c None

pub other-lone : (s : LinkState) (c : ℕ) (held new : Held) → HasLone s c held → set s.channels c (Some new) ≡ set (replicate (life_channels s.cables) None) c (Some new)
other-lone s c held new e = ap (λ l. set l c (Some new)) e ∙ set-twice (replicate (life_channels s.cables) None) c (Some held) (Some new)

pub lone-emptied : (s : LinkState) (c : ℕ) (held : Held) → emptied (with_lone s c held) c ≡ bare s
lone-emptied s c held =
    let e : set (set (replicate (life_channels s.cables) None) c (Some held)) c None ≡ replicate (life_channels s.cables) None = set-twice (replicate (life_channels s.cables) None) c (Some held) None ∙ set-empty (life_channels s.cables) c None in
    ap (λ l. record s { channels = l }) e

pub lone-there : (s : LinkState) (c : ℕ) (held : Held) → c < life_channels s.cables → packet_in (with_lone s c held) c ≡ Some held
lone-there s c held low =
    let room : c < length (replicate {A = Option Held} (life_channels s.cables) None) = omega (arith, low, length-replicate {A = Option Held} (life_channels s.cables) None) in
    get_or-set_same (replicate (life_channels s.cables) None) c (Some held) None room

pub lone-other : (s : LinkState) (c d : ℕ) (held : Held) → d ≢ c → packet_in (with_lone s c held) d ≡ None
lone-other s c d held other = get_or-set_other (replicate (life_channels s.cables) None) c d (Some held) None other ∙ get-empty (life_channels s.cables) d None

pub bare-empty : (s : LinkState) (c : ℕ) → packet_in (bare s) c ≡ None
bare-empty s c = get-empty (life_channels s.cables) c None

all_none : (k : ℕ) → list_all (is_none {T = Held}) (replicate k None) ≡ true
all_none zero = refl
all_none (suc k) = all_none k

pub bare-idle : (s : LinkState) → is_idle (bare s) ≡ true
bare-idle s = all_none (life_channels s.cables)

-- idle links are bare
idle-replicate : (ps : List (Option Held)) → list_all is_none ps ≡ true → ps ≡ replicate (length ps) None
idle-replicate [] e = refl
idle-replicate (None ∷ ps) e = ap (λ l. None ∷ l) (idle-replicate ps e)
idle-replicate (Some held ∷ ps) e = absurd (true≢false (sym e))

pub idle-bare : (s : LinkState) → length s.channels ≡ life_channels s.cables → is_idle s ≡ true → IsBare s
idle-bare s long e = idle-replicate s.channels e ∙ ap (λ k. replicate k None) long

-- every channel of idle links is empty
pub idle-empty : (ps : List (Option Held)) → list_all is_none ps ≡ true → (c : ℕ) → get_or ps c None ≡ None
idle-empty [] e c = refl
idle-empty (None ∷ ps) e zero = refl
idle-empty (None ∷ ps) e (suc c) = idle-empty ps e c
idle-empty (Some held ∷ ps) e c = absurd (true≢false (sym e))

-- what an advance makes of the packet
abbrev pub gone : LinkState → Held → Course → Moved (List ℕ) × LinkState
gone s held (Arrives h) = (AtHost h held.wire, bare s)
gone s held (Enters next) = (To next, with_lone s next (record held { wire = stripped held.wire }))
gone s held (Drops why) = (Dropped why, bare s)

gone_on-gone : (s : LinkState) (c : ℕ) (held : Held) (to : Course) → gone_on (with_lone s c held) c held to ≡ gone s held to
gone_on-gone s c held (Arrives h) = ap (λ t. (AtHost h held.wire, t)) (lone-emptied s c held)
gone_on-gone s c held (Enters next) =
    let on : Held = record held { wire = stripped held.wire } in
    let free : packet_in (emptied (with_lone s c held) c) next ≡ None = ap (λ t. packet_in t next) (lone-emptied s c held) ∙ bare-empty s next in
    ap (entered (with_lone s c held) c held next) free ∙ ap (λ t. (To next, with_packet t next (Some on))) (lone-emptied s c held)
gone_on-gone s c held (Drops why) = ap (λ t. (Dropped why, t)) (lone-emptied s c held)

pub lone-advance : (s : LinkState) (c : ℕ) (held : Held) → c < life_channels s.cables → advance (with_lone s c held) c ≡ gone s held (course s.cables c held.wire)
lone-advance s c held low = ap (advance_of (with_lone s c held) c) (lone-there s c held low) ∙ gone_on-gone s c held (course s.cables c held.wire)

-- a packet enters a channel that exists
by_port : (h : CableHistory) (wire : List ℕ) (o : Option ℕ) (next : ℕ) (e : End) → leaving h e ≡ o → course_by_channel h wire o ≡ Enters next → next < life_channels h
by_port h wire None next e is to = cc
by_port h wire (Some c) next e is to = by (is_new h c && not (is_mapping wire)) to
  where
    by : (t : Bool) → (if t then Drops NewCable else Enters c) ≡ Enters next → next < life_channels h
    by true bad = cc
    by false enters =
        let same : c ≡ next = cc in
        subst (λ d. d < life_channels h) same (leaving_has_its_end h e c is).there

by_turned : (h : CableHistory) (wire : List ℕ) (s next : ℕ) (t : Turned) → course_out h s wire t ≡ Enters next → next < life_channels h
by_turned h wire s next (Out port) to = let e : End = record { v = Switch s; p = port } in by_port h wire (leaving h e) next e refl to
by_turned h wire s next TurnedTooFar to = cc
by_turned h wire s next NoTurn to = cc

by_end : (h : CableHistory) (wire : List ℕ) (next : ℕ) (v : Vertex) (p : ℕ) → course_into h (Some (record { v = v; p = p })) wire ≡ Enters next → next < life_channels h
by_end h wire next (Host g) p to = cc
by_end h wire next (Switch s) p to = by_turned h wire s next (aim (ports_of (fabric_now h) (Switch s)) p wire) to

by_head : (h : CableHistory) (wire : List ℕ) (next : ℕ) (o : Option End) → course_into h o wire ≡ Enters next → next < life_channels h
by_head h wire next None to = cc
by_head h wire next (Some e) to = by_end h wire next e.v e.p to

pub course-below : (h : CableHistory) (c : ℕ) (wire : List ℕ) (next : ℕ) → course h c wire ≡ Enters next → next < life_channels h
course-below h c wire next to = by_head h wire next (life_head h c) to

two_bytes : (wire : List ℕ) (turn : ℤ) → front_turn wire ≡ Some turn → 2 ≤ length wire
two_bytes [] turn e = cc
two_bytes (byte ∷ []) turn e = cc
two_bytes (byte ∷ next ∷ wire) turn e = omega arith

pub enters-two : (h : CableHistory) (c : ℕ) (wire : List ℕ) (next : ℕ) → course h c wire ≡ Enters next → 2 ≤ length wire
enters-two h c wire next to = let t = course_into-enters h (life_head h c) wire next to in two_bytes wire t.0 t.1

-- Where a packet goes from a channel, until it leaves the links: to a host, or nowhere.
pub data Goes (h : CableHistory) : ℕ → List ℕ → Moved (List ℕ) → Type 0 where
  to_host : {c : ℕ} {wire : List ℕ} {m : Moved (List ℕ)} (g : ℕ) → course h c wire ≡ Arrives g → m ≡ AtHost g wire → Goes h c wire m
  nowhere : {c : ℕ} {wire : List ℕ} {m : Moved (List ℕ)} (why : Why) → course h c wire ≡ Drops why → m ≡ Dropped why → Goes h c wire m
  further : {c : ℕ} {wire : List ℕ} {m : Moved (List ℕ)} (next : ℕ) → course h c wire ≡ Enters next → Goes h next (stripped wire) m → Goes h c wire m

-- every packet goes somewhere
pub record Going (h : CableHistory) (c : ℕ) (wire : List ℕ) : Type 0 where
  pub end : Moved (List ℕ)
  pub goes : Goes h c wire end

going_within : (k : ℕ) (h : CableHistory) (c : ℕ) (wire : List ℕ) → length wire < k → Going h c wire
going_within zero h c wire low = absurd (omega (arith, low))
going_within (suc k) h c wire low = by (course h c wire) refl (λ next. going_within k h next (stripped wire))
  where
    by : (to : Course) → course h c wire ≡ to → ((next : ℕ) → length (stripped wire) < k → Going h next (stripped wire)) → Going h c wire
    by (Arrives g) e rest = record { end = AtHost g wire; goes = Goes.to_host g e refl }
    by (Drops why) e rest = record { end = Dropped why; goes = Goes.nowhere why e refl }
    by (Enters next) e rest =
        let short = length-stripped wire (enters-two h c wire next e) in
        let g = rest next (omega (arith, short, low)) in
        record { end = g.end; goes = Goes.further next e g.goes }

pub going : (h : CableHistory) (c : ℕ) (wire : List ℕ) → Going h c wire
going h c wire = going_within (suc (length wire)) h c wire (omega arith)

-- a difference stays on the way
pub goes-difference : (h : CableHistory) (c : ℕ) (wire : List ℕ) (m : Moved (List ℕ)) → Goes h c wire m → (g : ℕ) (at : List ℕ) → m ≡ AtHost g at → difference at ≡ difference wire
goes-difference h c wire m (Goes.to_host a e is) g at f = let same : at ≡ wire = cc in ap difference same
goes-difference h c wire m (Goes.nowhere why e is) g at f = cc
goes-difference h c wire m (Goes.further next e on) g at f = goes-difference h next (stripped wire) m on g at f ∙ strip_keeps wire (enters-two h c wire next e)
