-- A packet reaches a host that the fabric has.
use Rattle.std.proofs.Common.{◌≡◌, ◌<◌, ◌/◌, ◌%◌, ℕ, Bool, true, false, not, ◌&&◌, nat_eq, nat_lt, List, length, Option, Some, None, is_some, refl, sym, ap, ◌∙◌, subst, arith, if◌then◌else◌}
use Rattle.std.specs.List.{slice_get}
use Rattle.std.specs.Option.{option_map}
use Rattle.std.proofs.lemmas.Bool.Decides.{nat_tests}
use Rattle.std.proofs.lemmas.Option.{same_Some}
use Rattle.net_defs.specs.declared.vertex.Vertex.{Vertex}
use Rattle.net_defs.specs.declared.vertex.Vertex.TheVariants.{Host, Switch}
use Rattle.net_defs.specs.declared.vertex.End.{End}
use Rattle.net_defs.specs.Network.{Network, has_port, ports_of}
use Rattle.world_defs.specs.declared.wire.Wire.{Wire}
use Rattle.world_defs.specs.History.{CableHistory, IsHistory, fabric_now}
use Rattle.world_defs.specs.Crossed.{leaving, life_head, is_new}
use Rattle.world_defs.proofs.There.{ends_are_there}
use Rattle.world_defs.specs.declared.turned.Turned.{Turned}
use Rattle.world_defs.specs.declared.turned.Turned.TheVariants.{Out, OutOfRange as TurnedTooFar, NotRoute as NoTurn}
use Rattle.world_defs.specs.declared.moved.Course.{Course}
use Rattle.world_defs.specs.declared.moved.Course.TheVariants.{Arrives, Enters, Drops}
use Rattle.world_defs.specs.declared.moved.Why.TheVariants.{NewCable}
use Rattle.world_defs.specs.declared.moved.Moved.{Moved}
use Rattle.world_defs.specs.declared.moved.Moved.TheVariants.{To, AtHost, Dropped, Blocked, Empty}
use Rattle.world_defs.specs.Fault.{lose}
use Rattle.world_defs.specs.Kinds.{is_mapping}
use Rattle.world_defs.specs.Switch.{aim}
use Rattle.world_defs.specs.Links.{Held, LinkState, packet_in, emptied}
use Rattle.world_defs.specs.Advance.{course_by_channel, course_out, course_at, course_into, course, entered, gone_on, advance_of, advance}
use Rattle.faulty_links.specs.Held.{reached_by, reaching}

host_below : (n : Network) (g p : ℕ) → has_port n (record { v = Host g; p = p }) ≡ true → g < length n.hosts
host_below n g p e = by (nat_lt g (length n.hosts)) refl e
  where
    by : (t : Bool) → nat_lt g (length n.hosts) ≡ t → nat_lt p (if t then 1 else 0) ≡ true → g < length n.hosts
    by true is e = grind (arith, nat_tests)
    by false is e = absurd (grind (arith, nat_tests))

course_out-host : (g : CableHistory) (s : ℕ) (wire : List ℕ) (t : Turned) (h : ℕ) → course_out g s wire t ≡ Arrives h → ⊥
course_out-host g s wire (Out port) h e = by (leaving g (record { v = Switch s; p = port })) e
  where
    enters : (next : ℕ) (t : Bool) → (if t then Drops NewCable else Enters next) ≡ Arrives h → ⊥
    enters next true e = cc
    enters next false e = cc

    by : (o : Option ℕ) → course_by_channel g wire o ≡ Arrives h → ⊥
    by None e = cc
    by (Some next) e = enters next (is_new g next && not (is_mapping wire)) e
course_out-host g s wire TurnedTooFar h e = cc
course_out-host g s wire NoTurn h e = cc

course_at-host : (g : CableHistory) (v : Vertex) (p : ℕ) (wire : List ℕ) (h : ℕ) → has_port (fabric_now g) (record { v = v; p = p }) ≡ true → course_at g v p wire ≡ Arrives h → h < length g.hosts
course_at-host g (Host a) p wire h port e = let same : a ≡ h = cc in subst (λ k. k < length g.hosts) same (host_below (fabric_now g) a p port)
course_at-host g (Switch s) p wire h port e = absurd (course_out-host g s wire (aim (ports_of (fabric_now g) (Switch s)) p wire) h e)

-- the host that a packet comes to is one of the fabric's, also over a cable that was pulled
pub course-host : (g : CableHistory) (c : ℕ) (wire : List ℕ) (h : ℕ) → IsHistory g → course g c wire ≡ Arrives h → h < length g.hosts
course-host g c wire h history e = by (slice_get g.wires (c / 2)) refl e
  where
    side : (w : Wire) (t : Bool) → (has_port (fabric_now g) w.cable.a ≡ true) × (has_port (fabric_now g) w.cable.b ≡ true) → course_into g (Some (if t then w.cable.b else w.cable.a)) wire ≡ Arrives h → h < length g.hosts
    side w true ports e = course_at-host g w.cable.b.v w.cable.b.p wire h ports.1 e
    side w false ports e = course_at-host g w.cable.a.v w.cable.a.p wire h ports.0 e

    by : (o : Option Wire) → slice_get g.wires (c / 2) ≡ o → course_into g (option_map (λ w. if nat_eq (c % 2) 0 then w.cable.b else w.cable.a) o) wire ≡ Arrives h → h < length g.hosts
    by None is e = cc
    by (Some w) is e = side w (nat_eq (c % 2) 0) (ends_are_there g (c / 2) w history is) e

entered-host : (s : LinkState) (c : ℕ) (held : Held) (next : ℕ) (o : Option Held) (h : ℕ) (wire : List ℕ) → (entered s c held next o).0 ≡ AtHost h wire → ⊥
entered-host s c held next None h wire e = cc
entered-host s c held next (Some other) h wire e = cc

gone_on-host : (s : LinkState) (c : ℕ) (held : Held) (to : Course) (h : ℕ) (wire : List ℕ) → (gone_on s c held to).0 ≡ AtHost h wire → to ≡ Arrives h
gone_on-host s c held (Arrives g) h wire e = cc
gone_on-host s c held (Enters next) h wire e = absurd (entered-host s c held next (packet_in (emptied s c) next) h wire e)
gone_on-host s c held (Drops why) h wire e = cc

-- a host at which a channel ends is one of the fabric's
pub end-host : (g : CableHistory) (e : End) (h : ℕ) → has_port (fabric_now g) e ≡ true → e.v ≡ Host h → h < length g.hosts
end-host g e h port is = host_below (fabric_now g) h e.p (ap (λ v. has_port (fabric_now g) (record { v = v; p = e.p })) (sym is) ∙ port)

-- what reaches a host is gone from its channel, as if it were lost
pub taken_there : (s : LinkState) (c h : ℕ) (wire : List ℕ) → (advance s c).0 ≡ AtHost h wire → lose s c ≡ (true, (advance s c).1)
taken_there s c h wire e = by (packet_in s c) refl e
  where
    gone : (held : Held) (to : Course) → to ≡ Arrives h → (gone_on s c held to).1 ≡ emptied s c
    gone held to is = ap (λ t. (gone_on s c held t).1) is

    by : (o : Option Held) → packet_in s c ≡ o → (advance_of s c o).0 ≡ AtHost h wire → lose s c ≡ (true, (advance_of s c o).1)
    by None is e = cc
    by (Some held) is e =
        let there : is_some (packet_in s c) ≡ true = ap is_some is in
        let out : (gone_on s c held (course s.cables c held.wire)).1 ≡ emptied s c = gone held (course s.cables c held.wire) (gone_on-host s c held (course s.cables c held.wire) h wire e) in
        ap (λ b. (b, emptied s c)) there ∙ ap (λ l. (true, l)) (sym out)

-- a packet in a channel that ends at a host reaches it
pub at_host : (s : LinkState) (c : ℕ) (held : Held) (e : End) (h : ℕ) → life_head s.cables c ≡ Some e → e.v ≡ Host h → packet_in s c ≡ Some held → reaching s c ≡ Some (h, held.wire)
at_host s c held e h head to is =
    ap (λ o. reached_by (advance_of s c o).0) is
    ∙ ap (λ o. reached_by (gone_on s c held (course_into s.cables o held.wire)).0) head
    ∙ ap (λ v. reached_by (gone_on s c held (course_at s.cables v e.p held.wire)).0) to

-- what reached a host
pub reached_is : (m : Moved (List ℕ)) (h : ℕ) (wire : List ℕ) → reached_by m ≡ Some (h, wire) → m ≡ AtHost h wire
reached_is (AtHost g w) h wire e = ap (λ r. AtHost r.0 r.1) (same_Some (g, w) (h, wire) e)
reached_is (To next) h wire e = cc
reached_is (Dropped why) h wire e = cc
reached_is (Blocked next) h wire e = cc
reached_is Empty h wire e = cc

-- the packet that was read in a channel that ends at a host
pub read_at_host : (s : LinkState) (c : ℕ) (e : End) (h : ℕ) (wire : List ℕ) → life_head s.cables c ≡ Some e → e.v ≡ Host h → Some wire ≡ option_map (λ held. held.wire) (packet_in s c) → reaching s c ≡ Some (h, wire)
read_at_host s c e h wire head to read = by (packet_in s c) refl read
  where
    by : (o : Option Held) → packet_in s c ≡ o → Some wire ≡ option_map (λ held. held.wire) o → reaching s c ≡ Some (h, wire)
    by None is r = cc
    by (Some held) is r = at_host s c held e h head to is ∙ ap (λ v. Some (h, v)) (sym (same_Some wire held.wire r))

some_none : {A : Type 0} (x : A) → Some x ≡ None → ⊥
some_none x e = cc

-- what reaches no host
pub never_there : (h : ℕ) (wire : List ℕ) (m : Moved (List ℕ)) → AtHost h wire ≡ m → reached_by m ≡ None → ⊥
never_there h wire m e none = let pair : ℕ × List ℕ = (h, wire) in some_none pair (ap reached_by e ∙ none)
