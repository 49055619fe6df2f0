-- The turns before a packet lead to a host: each into the next channel, and after the last it arrives.
use Rattle.std.proofs.Common.{◌≡◌, ◌<◌, ℕ, Bool, true, false, not, ◌&&◌, ℤ, List, [], ◌∷◌, Option, Some, None, refl, arith, if◌then◌else◌}
use Rattle.net_defs.specs.declared.vertex.Vertex.{Vertex}
use Rattle.net_defs.specs.declared.vertex.Vertex.TheVariants.{Host, Switch}
use Rattle.net_defs.specs.declared.vertex.End.{End}
use Rattle.net_defs.specs.Network.{ports_of}
use Rattle.packet_defs.specs.declared.kind.Kind.TheVariants.{Gm}
use Rattle.packet_defs.specs.Packet.{packet_of}
use Rattle.world_defs.specs.declared.moved.Why.TheVariants.{NewCable}
use Rattle.world_defs.specs.Kinds.{is_mapping}
use Rattle.world_defs.specs.declared.moved.Course.TheVariants.{Arrives, Enters, Drops}
use Rattle.world_defs.specs.declared.turned.Turned.{Turned}
use Rattle.world_defs.specs.declared.turned.Turned.TheVariants.{Out, OutOfRange as TurnedTooFar, NotRoute as NoTurn}
use Rattle.world_defs.specs.History.{CableHistory, fabric_now}
use Rattle.world_defs.specs.Crossed.{leaving, life_channels, life_head, is_new}
use Rattle.world_defs.proofs.ForLife.{leaving_has_its_end}
use Rattle.world_defs.specs.Switch.{aim}
use Rattle.world_defs.specs.Advance.{course, course_by_channel, course_out, course_at, course_into}

-- from a channel on, these turns lead a packet of this payload to a host
abbrev pub LeadsTo : CableHistory → List ℕ → ℕ → List ℤ → ℕ → Type 0
LeadsTo cables payload to [] c = course cables c (packet_of [] Gm payload) ≡ Arrives to
LeadsTo cables payload to (turn ∷ turns) c = (next : ℕ) × ((course cables c (packet_of (turn ∷ turns) Gm payload) ≡ Enters next) × LeadsTo cables payload to turns next)

-- a channel that is entered is there
by_channel-there : (cables : CableHistory) (wire : List ℕ) (e : End) (o : Option ℕ) (next : ℕ) → leaving cables e ≡ o → course_by_channel cables wire o ≡ Enters next → next < life_channels cables
by_channel-there cables wire e None next g d = cc
by_channel-there cables wire e (Some c) next g d = by (is_new cables c && not (is_mapping wire)) d
  where
    by : (b : Bool) → (if b then Drops NewCable else Enters c) ≡ Enters next → next < life_channels cables
    by true bad = cc
    by false same = let s : c ≡ next = cc in let low = (leaving_has_its_end cables e c g).there in omega (arith, s, low)

out-there : (cables : CableHistory) (wire : List ℕ) (s : ℕ) (t : Turned) (next : ℕ) → course_out cables s wire t ≡ Enters next → next < life_channels cables
out-there cables wire s (Out port) next e = by_channel-there cables wire (record { v = Switch s; p = port }) (leaving cables (record { v = Switch s; p = port })) next refl e
out-there cables wire s TurnedTooFar next e = cc
out-there cables wire s NoTurn next e = cc

at-there : (cables : CableHistory) (v : Vertex) (p : ℕ) (wire : List ℕ) (next : ℕ) → course_at cables v p wire ≡ Enters next → next < life_channels cables
at-there cables (Host h) p wire next e = cc
at-there cables (Switch s) p wire next e = out-there cables wire s (aim (ports_of (fabric_now cables) (Switch s)) p wire) next e

into-there : (cables : CableHistory) (o : Option End) (wire : List ℕ) (next : ℕ) → course_into cables o wire ≡ Enters next → next < life_channels cables
into-there cables None wire next e = cc
into-there cables (Some e) wire next d = at-there cables e.v e.p wire next d

pub course-there : (cables : CableHistory) (c : ℕ) (wire : List ℕ) (next : ℕ) → course cables c wire ≡ Enters next → next < life_channels cables
course-there cables c wire next e = into-there cables (life_head cables c) wire next e
