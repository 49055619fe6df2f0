-- The channel that a packet goes into, by its front turn.
use Rattle.std.proofs.Common.{◌≡◌, ◌<◌, ℕ, Bool, true, false, not, ◌&&◌, List, Option, Some, None, is_some, refl, ap, ◌∙◌, if◌then◌else◌}
use Rattle.std.specs.Prelude.{ℤ, option_map, option_and_then}
use Rattle.std.specs.List.{slice_get}
use Rattle.std.specs.Option.{IfSome}
use Rattle.net_defs.specs.declared.vertex.Vertex.{Vertex}
use Rattle.net_defs.specs.declared.vertex.Vertex.TheVariants.{Host, Switch}
use Rattle.net_defs.specs.declared.vertex.End.{End}
use Rattle.net_defs.specs.Network.{ports_of}
use Rattle.net_defs.specs.Route.{exit_at, leaving_port}
use Rattle.packet_defs.specs.Packet.{head, front_turn}
use Rattle.packet_defs.specs.RouteByte.{turn_of}
use Rattle.world_defs.specs.declared.moved.Course.{Course}
use Rattle.world_defs.specs.declared.moved.Course.TheVariants.{Arrives, Enters, Drops}
use Rattle.world_defs.specs.History.{CableHistory, fabric_now}
use Rattle.world_defs.specs.Crossed.{life_channels, life_head, leaving, is_new}
use Rattle.world_defs.proofs.ForLife.{leaving_has_its_end}
use Rattle.world_defs.specs.declared.moved.Why.TheVariants.{NewCable}
use Rattle.world_defs.specs.Kinds.{is_mapping}
use Rattle.world_defs.specs.Switch.{aim_of, out_by}
use Rattle.world_defs.specs.Links.{Held, LinkState}
use Rattle.world_defs.specs.Advance.{course_by_channel, course_out, course_at, course_into, course, gone_on, advance_of}
use Rattle.world_defs.proofs.HopsLeft.{course_into-enters}
use Rattle.fabric_wiring.specs.Hops.{turned_from, next_channel}
use Rattle.link_model.specs.Hop.{entered_by, is_hop, passing}

by_channel : (h : CableHistory) (wire : List ℕ) (o : Option ℕ) → entered_by (course_by_channel h wire o) ≡ passing h wire o
by_channel h wire None = refl
by_channel h wire (Some next) = by (is_new h next && not (is_mapping wire))
  where
    by : (t : Bool) → entered_by (if t then Drops NewCable else Enters next) ≡ (if t then None else Some next)
    by true = refl
    by false = refl

-- out of a switch
out_of : (h : CableHistory) (s : ℕ) (wire : List ℕ) (o : Option ℕ) → entered_by (course_out h s wire (out_by o)) ≡ passing h wire (option_and_then (leaving h) (option_map (λ q. record { v = Switch s; p = q }) o))
out_of h s wire None = refl
out_of h s wire (Some port) = by_channel h wire (leaving h (record { v = Switch s; p = port }))

-- by a turn or none
by_turn : (h : CableHistory) (s p : ℕ) (wire : List ℕ) (o : Option ℤ) → entered_by (course_out h s wire (aim_of (ports_of (fabric_now h) (Switch s)) p o)) ≡ passing h wire (option_and_then (turned_from h (record { v = Switch s; p = p })) o)
by_turn h s p wire None = refl
by_turn h s p wire (Some turn) = out_of h s wire (leaving_port (ports_of (fabric_now h) (Switch s)) p turn)

nothing : (h : CableHistory) (a p : ℕ) (wire : List ℕ) (o : Option ℤ) → None ≡ passing h wire (option_and_then (turned_from h (record { v = Host a; p = p })) o)
nothing h a p wire None = refl
nothing h a p wire (Some turn) = refl

-- a packet goes into the channel that its first byte leads to, if no new cable stops it
pub byte-enters : (h : CableHistory) (c : ℕ) (wire : List ℕ) (byte : ℕ) → slice_get (head wire) 0 ≡ Some byte → entered_by (course h c wire) ≡ passing h wire (next_channel h c byte)
byte-enters h c wire byte is = by (life_head h c)
  where
    at : (v : Vertex) (p : ℕ) → entered_by (course_at h v p wire) ≡ passing h wire (option_and_then (turned_from h (record { v = v; p = p })) (turn_of byte))
    at (Host a) p = nothing h a p wire (turn_of byte)
    at (Switch s) p =
        ap (λ o. entered_by (course_out h s wire (aim_of (ports_of (fabric_now h) (Switch s)) p (option_and_then turn_of o)))) is ∙ by_turn h s p wire (turn_of byte)

    by : (o : Option End) → entered_by (course_into h o wire) ≡ passing h wire (option_and_then (λ e. option_and_then (turned_from h e) (turn_of byte)) o)
    by None = refl
    by (Some e) = at e.v e.p

-- where no cable is new each channel may be entered
pub passing-old : (h : CableHistory) (wire : List ℕ) (o : Option ℕ) → ((d : ℕ) → is_new h d ≡ false) → passing h wire o ≡ o
passing-old h wire None old = refl
passing-old h wire (Some d) old = ap (λ t. if t && not (is_mapping wire) then None else Some d) (old d)

-- which is there
leaving-below : (h : CableHistory) (o : Option End) → IfSome (option_and_then (leaving h) o) (λ d. d < life_channels h)
leaving-below h None = tt
leaving-below h (Some e) = by (leaving h e) refl
  where
    by : (o : Option ℕ) → leaving h e ≡ o → IfSome o (λ d. d < life_channels h)
    by None is = tt
    by (Some d) is = (leaving_has_its_end h e d is).there

turned-below : (h : CableHistory) (e : End) (o : Option ℤ) → IfSome (option_and_then (turned_from h e) o) (λ d. d < life_channels h)
turned-below h e None = tt
turned-below h e (Some turn) = leaving-below h (exit_at (fabric_now h) e.v e.p turn)

pub next-below : (h : CableHistory) (c byte : ℕ) → IfSome (next_channel h c byte) (λ d. d < life_channels h)
next-below h c byte = by (life_head h c)
  where
    by : (o : Option End) → IfSome (option_and_then (λ e. option_and_then (turned_from h e) (turn_of byte)) o) (λ d. d < life_channels h)
    by None = tt
    by (Some e) = turned-below h e (turn_of byte)

-- and one whose head is empty goes into none
pub none-enters : (h : CableHistory) (c : ℕ) (wire : List ℕ) → slice_get (head wire) 0 ≡ None → entered_by (course h c wire) ≡ None
none-enters h c wire is = by (life_head h c)
  where
    at : (v : Vertex) (p : ℕ) → entered_by (course_at h v p wire) ≡ None
    at (Host a) p = refl
    at (Switch s) p = ap (λ o. entered_by (course_out h s wire (aim_of (ports_of (fabric_now h) (Switch s)) p (option_and_then turn_of o)))) is

    by : (o : Option End) → entered_by (course_into h o wire) ≡ None
    by None = refl
    by (Some e) = at e.v e.p

-- a course by the channel that it leads into
pub entered-is : (to : Course) (next : ℕ) → entered_by to ≡ Some next → to ≡ Enters next
entered-is (Arrives h) next e = cc
entered-is (Enters d) next e = let same : d ≡ next = cc in ap Enters same
entered-is (Drops why) next e = cc

-- a packet that goes on has a turn in front
pub turn-there : (h : CableHistory) (c next : ℕ) (wire : List ℕ) → course h c wire ≡ Enters next → is_some (front_turn wire) ≡ true
turn-there h c next wire to = ap is_some (course_into-enters h (life_head h c) wire next to).1

-- a channel's packet by the channel that it goes into
pub goes-into : (s : LinkState) (c next : ℕ) (o : Option Held) → option_and_then (λ (held : Held). entered_by (course s.cables c held.wire)) o ≡ Some next → option_map (λ (held : Held). course s.cables c held.wire) o ≡ Some (Enters next)
goes-into s c next None e = cc
goes-into s c next (Some held) e = ap Some (entered-is (course s.cables c held.wire) next e)

-- and where it goes into none its advance is no hop
pub goes-nowhere : (s : LinkState) (c : ℕ) (o : Option Held) → option_and_then (λ (held : Held). entered_by (course s.cables c held.wire)) o ≡ None → is_hop (advance_of s c o).0 ≡ false
goes-nowhere s c None e = refl
goes-nowhere s c (Some held) e = by (course s.cables c held.wire) e
  where
    by : (to : Course) → entered_by to ≡ None → is_hop (gone_on s c held to).0 ≡ false
    by (Arrives h) is = refl
    by (Enters d) is = cc
    by (Drops why) is = refl
