-- What the calls need of a course, and of the channels.
use Rattle.std.proofs.Common.{◌≡◌, ◌<◌, ℕ, Bool, true, false, not, ◌&&◌, List, length, Option, Some, None, refl, sym, ap, ◌∙◌, subst, if◌then◌else◌}
use Rattle.std.specs.Option.{option_map, IfSome}
use Rattle.std.specs.List.{AllByRecursion}
use Rattle.world_defs.specs.Shape.{IsLinks}
use Rattle.net_defs.specs.declared.vertex.Vertex.{Vertex}
use Rattle.net_defs.specs.declared.vertex.Vertex.TheVariants.{Host, Switch}
use Rattle.net_defs.specs.declared.vertex.End.{End}
use Rattle.net_defs.specs.Network.{ports_of}
use Rattle.packet_defs.specs.Packet.{stripped}
use Rattle.packet_defs.specs.Burst.{flipped, may_flip}
use Rattle.world_defs.specs.declared.turned.Turned.{Turned}
use Rattle.world_defs.specs.declared.turned.Turned.TheVariants.{Out, OutOfRange, NotRoute}
use Rattle.world_defs.specs.declared.moved.Course.TheVariants.{Enters, Drops}
use Rattle.world_defs.specs.declared.moved.Moved.TheVariants.{To}
use Rattle.world_defs.specs.History.{CableHistory, fabric_now}
use Rattle.world_defs.specs.Crossed.{life_channels, life_head, leaving, is_new}
use Rattle.world_defs.specs.Switch.{aim, after_aim}
use Rattle.world_defs.specs.Links.{Held, LinkState, packet_in, with_packet, emptied}
use Rattle.world_defs.specs.Advance.{course_by_channel, course_out, course_at, course_into, course, entered, gone_on, advance_of, advance}
use Rattle.world_defs.specs.Fault.{flip, flip_of}
use Rattle.world_defs.proofs.ForLife.{leaving_has_its_end}
use Rattle.world_defs.specs.declared.moved.Why.TheVariants.{NewCable}
use Rattle.world_defs.specs.Kinds.{is_mapping}
use Rattle.link_model.proofs.Counting.{set-there}

by_channel : (h : CableHistory) (wire : List ℕ) (e : End) (next : ℕ) (o : Option ℕ) → leaving h e ≡ o → course_by_channel h wire o ≡ Enters next → next < life_channels h
by_channel h wire e next None is to = cc
by_channel h wire e next (Some m) is to = by (is_new h m && not (is_mapping wire)) to
  where
    by : (t : Bool) → (if t then Drops NewCable else Enters m) ≡ Enters next → next < life_channels h
    by true k = cc
    by false k = let same : m ≡ next = cc in subst (λ x. x < life_channels h) same (leaving_has_its_end h e m is).there

by_turned : (h : CableHistory) (s : ℕ) (wire : List ℕ) (next : ℕ) (t : Turned) → course_out h s wire t ≡ Enters next → next < life_channels h
by_turned h s wire next (Out port) to = by_channel h wire (record { v = Switch s; p = port }) next (leaving h (record { v = Switch s; p = port })) refl to
by_turned h s wire next OutOfRange to = cc
by_turned h s wire next NotRoute to = cc

by_end : (h : CableHistory) (wire : List ℕ) (next : ℕ) (v : Vertex) (p : ℕ) → course_into h (Some (record { v = v; p = p })) wire ≡ Enters next → next < life_channels h
by_end h wire next (Host a) p to = cc
by_end h wire next (Switch s) p to = by_turned h s wire next (aim (ports_of (fabric_now h) (Switch s)) p wire) to

by_head : (h : CableHistory) (wire : List ℕ) (next : ℕ) (o : Option End) → course_into h o wire ≡ Enters next → next < life_channels h
by_head h wire next None to = cc
by_head h wire next (Some e) to = by_end h wire next e.v e.p to

-- a packet enters a channel that exists
pub course-below : (h : CableHistory) (c : ℕ) (wire : List ℕ) (next : ℕ) → course h c wire ≡ Enters next → next < life_channels h
course-below h c wire next to = by_head h wire next (life_head h c) to

pub entering : (s : LinkState) (c next : ℕ) → option_map (λ held. course s.cables c held.wire) (packet_in s c) ≡ Some (Enters next) → next < life_channels s.cables
entering s c next is = by (packet_in s c) is
  where
    by : (o : Option Held) → option_map (λ held. course s.cables c held.wire) o ≡ Some (Enters next) → next < life_channels s.cables
    by None e = cc
    by (Some held) e = let to : course s.cables c held.wire ≡ Enters next = cc in course-below s.cables c held.wire next to

-- what is found in a channel whose packet enters another is sent on
pub goes_on : (g : CableHistory) (c next : ℕ) (held : Held) → option_map (λ h. course g c h.wire) (Some held) ≡ Some (Enters next) → course g c held.wire ≡ Enters next
goes_on g c next held e = cc

-- a packet that a switch sends on is stripped there
stripped-out : (h : CableHistory) (s next : ℕ) (t : Turned) (wire : List ℕ) → course_out h s wire t ≡ Enters next → after_aim t wire ≡ stripped wire
stripped-out h s next (Out port) wire to = refl
stripped-out h s next OutOfRange wire to = cc
stripped-out h s next NotRoute wire to = cc

stripped-at : (h : CableHistory) (wire : List ℕ) (next : ℕ) (v : Vertex) (p : ℕ) → course_at h v p wire ≡ Enters next → after_aim (aim (ports_of (fabric_now h) v) p wire) wire ≡ stripped wire
stripped-at h wire next (Host a) p to = cc
stripped-at h wire next (Switch s) p to = stripped-out h s next (aim (ports_of (fabric_now h) (Switch s)) p wire) wire to

pub stripped-behind : (h : CableHistory) (c next ports : ℕ) (e : End) (wire : List ℕ) → life_head h c ≡ Some e → ports ≡ ports_of (fabric_now h) e.v → course h c wire ≡ Enters next → after_aim (aim ports e.p wire) wire ≡ stripped wire
stripped-behind h c next ports e wire head count to =
    ap (λ k. after_aim (aim k e.p wire) wire) count ∙ stripped-at h wire next e.v e.p (sym (ap (λ o. course_into h o wire) head) ∙ to)

-- and enters the next one, which is empty once it is taken out
pub enters-now : (s : LinkState) (c next : ℕ) (held : Held) → packet_in s c ≡ Some held → course s.cables c held.wire ≡ Enters next → packet_in (emptied s c) next ≡ None
    → advance s c ≡ (To next, with_packet (emptied s c) next (Some (record held { wire = stripped held.wire })))
enters-now s c next held is to free = ap (advance_of s c) is ∙ ap (gone_on s c held) to ∙ ap (entered s c held next) free

-- a flip by whether it meets the packet
abbrev flip_by : LinkState → ℕ → Held → Bool → Bool × LinkState
flip_by s c held t = if t then (true, with_packet s c (Some held)) else (false, s)

-- a flip as a packet that is taken out, and put back as it is then
pub flip-back : (s : LinkState) (c bit pattern : ℕ) (held after : Held) (meets : Bool) → packet_in s c ≡ Some held → meets ≡ (not held.marked && may_flip held.wire bit pattern) → after ≡ (if meets then record held { wire = flipped held.wire bit pattern; marked = meets } else held) → with_packet s c (Some after) ≡ (flip s c bit pattern).1
flip-back s c bit pattern held after meets is m a = by meets refl
  where
    flip-is : (t : Bool) → meets ≡ t → (flip s c bit pattern).1 ≡ (flip_by s c (record held { wire = flipped held.wire bit pattern; marked = true }) t).1
    flip-is t e =
        ap (λ o. (flip_of s c bit pattern o).1) is
        ∙ ap (λ t. (flip_by s c (record held { wire = flipped held.wire bit pattern; marked = true }) t).1) (sym m ∙ e)

    after-is : (t : Bool) → meets ≡ t → after ≡ (if t then record held { wire = flipped held.wire bit pattern; marked = t } else held)
    after-is t e = a ∙ ap (λ t. if t then record held { wire = flipped held.wire bit pattern; marked = t } else held) e

    by : (t : Bool) → meets ≡ t → with_packet s c (Some after) ≡ (flip s c bit pattern).1
    by true e = ap (λ h. with_packet s c (Some h)) (after-is true e) ∙ sym (flip-is true e)
    by false e = ap (λ h. with_packet s c (Some h)) (after-is false e) ∙ ap (λ l. record s { channels = l }) (set-there s.channels c held is) ∙ sym (flip-is false e)

-- links whose channels are written are links
pub written-links : (s : LinkState) (channels : List (Option Held)) → length channels ≡ length s.channels → IsLinks s → IsLinks (record s { channels = channels })
written-links s channels e is = record {
  slots = e ∙ is.slots;
  rising = is.rising;
  below_next = is.below_next;
  from_channels = subst (λ n. AllByRecursion (λ x. x.1.channel < n) s.limbo) (sym e) is.from_channels;
  serials = is.serials;
}

-- the channel that leaves by an end exists
pub from-below : (s : LinkState) (e : End) → IsLinks s → IfSome (leaving s.cables e) (λ c. c < length s.channels)
from-below s e is = by (leaving s.cables e) refl
  where
    by : (o : Option ℕ) → leaving s.cables e ≡ o → IfSome o (λ c. c < length s.channels)
    by None is-none = tt
    by (Some c) got = subst (λ n. c < n) (sym is.slots) (leaving_has_its_end s.cables e c got).there
