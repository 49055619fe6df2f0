-- A packet on its way to a host goes on with an advance, or is heard there.
use Rattle.std.proofs.Common.{◌≡◌, ◌≢◌, ◌<◌, ℕ, Bool, true, false, nat_eq, ℤ, List, [], ◌∷◌, length, set, Option, Some, None, refl, sym, ap, ◌∙◌, subst, arith}
use Rattle.std.proofs.lemmas.Bool.Decides.{nat_tests}
use Rattle.std.proofs.lemmas.List.{get_or-set_same, get_or-set_other}
use Rattle.std.proofs.Math.ListN.{length-set}
use Rattle.std.proofs.lemmas.Option.{same_Some}
use Rattle.packet_defs.specs.declared.kind.Kind.TheVariants.{Gm}
use Rattle.packet_defs.specs.Packet.{stripped, packet_of}
use Rattle.packet_defs.proofs.Packets.{packet_of-stripped}
use Rattle.world_defs.specs.declared.moved.Course.TheVariants.{Arrives, Enters, Drops}
use Rattle.world_defs.specs.declared.moved.Why.{Why}
use Rattle.world_defs.specs.Crossed.{life_channels}
use Rattle.world_defs.specs.Links.{Held, LinkState, packet_in, with_packet, emptied}
use Rattle.world_defs.specs.Shape.{IsLinks}
use Rattle.world_defs.specs.Advance.{course}
use Rattle.world_defs.specs.Hearing.{hear}
use Rattle.world_defs.specs.World.{WorldState, host_count, node_at}
use Rattle.world_laws.proofs.Lists.{at-set}
use Rattle.settle_laws.proofs.Views.{stripped_of, AdvanceOf}
use Rattle.settle_laws.proofs.Leading.{LeadsTo, course-there}

-- a packet of this payload stands in a channel, and its turns lead to a host
pub record OnWay (payload : List ℕ) (to : ℕ) (v : WorldState) : Type 0 where
  pub channel : ℕ
  pub turns : List ℤ
  pub held : Held
  pub there : packet_in v.links channel ≡ Some held
  pub wire : held.wire ≡ packet_of turns Gm payload
  pub leads : LeadsTo v.links.cables payload to turns channel

-- it goes on, or it is heard
pub data WentOn (payload : List ℕ) (to : ℕ) (w v : WorldState) : Type 0 where
  on : OnWay payload to v → WentOn payload to w v
  heard : v.nodes ≡ set w.nodes to (hear to (host_count w) (node_at w to) (packet_of [] Gm payload)).1 → WentOn payload to w v

-- a write to an empty slot leaves what stands elsewhere
pub keep-there : (s : LinkState) (c d : ℕ) (x : Held) (p : Option Held) → packet_in s c ≡ None → packet_in s d ≡ Some x → packet_in (with_packet s c p) d ≡ Some x
keep-there s c d x p none e = at-set (λ (a b : Option Held). a ≡ Some x → b ≡ Some x) (λ a h. h) s.channels c d p None (λ h. let bad : None ≡ Some x = sym none ∙ h in cc) e

-- what is written stands there
pub new-there : (s : LinkState) (c : ℕ) (x : Held) → c < length s.channels → packet_in (with_packet s c (Some x)) c ≡ Some x
new-there s c x low = get_or-set_same s.channels c (Some x) None low

pub still-way : (payload : List ℕ) (to : ℕ) (w v : WorldState) → (o : OnWay payload to w) → v.links.cables ≡ w.links.cables → packet_in v.links o.channel ≡ Some o.held → OnWay payload to v
still-way payload to w v o kept there = record { channel = o.channel; turns = o.turns; held = o.held; there = there; wire = o.wire; leads = subst (λ n. LeadsTo n payload to o.turns o.channel) (sym kept) o.leads }

-- the advanced packet itself
enters-way : (payload : List ℕ) (to : ℕ) (w v : WorldState) (c : ℕ) (held : Held) (turns : List ℤ) (next : ℕ) → IsLinks w.links → v.links.cables ≡ w.links.cables → held.wire ≡ packet_of turns Gm payload → LeadsTo w.links.cables payload to turns c → course w.links.cables c held.wire ≡ Enters next → v.links ≡ with_packet (emptied w.links c) next (Some (stripped_of held)) → OnWay payload to v
enters-way payload to w v c held [] next is kept e leads g l = let bad : Arrives to ≡ Enters next = sym leads ∙ (ap (course w.links.cables c) (sym e) ∙ g) in cc
enters-way payload to w v c held (turn ∷ turns) next is kept e leads g l =
    let same : Enters leads.0 ≡ Enters next = sym leads.1.0 ∙ (ap (course w.links.cables c) (sym e) ∙ g) in
    let at : leads.0 ≡ next = cc in
    let low : next < life_channels w.links.cables = course-there w.links.cables c held.wire next g in
    let slots = is.slots in
    let long : length (set w.links.channels c None) ≡ length w.links.channels = length-set {A = Option Held} w.links.channels c None in
    let room : next < length (emptied w.links c).channels = omega (arith, low, slots, long) in
    record {
      channel = next;
      turns = turns;
      held = stripped_of held;
      there = ap (λ s. packet_in s next) l ∙ new-there (emptied w.links c) next (stripped_of held) room;
      wire = ap stripped e ∙ packet_of-stripped turn turns Gm payload;
      leads = subst (λ n. LeadsTo n payload to turns next) (sym kept) (subst (LeadsTo w.links.cables payload to turns) at leads.1.1);
    }

drops-way : (payload : List ℕ) (to : ℕ) (w : WorldState) (c : ℕ) (held : Held) (turns : List ℤ) (why : Why) → held.wire ≡ packet_of turns Gm payload → LeadsTo w.links.cables payload to turns c → course w.links.cables c held.wire ≡ Drops why → ⊥
drops-way payload to w c held [] why e leads g = let bad : Arrives to ≡ Drops why = sym leads ∙ (ap (course w.links.cables c) (sym e) ∙ g) in cc
drops-way payload to w c held (turn ∷ turns) why e leads g = let bad : Enters leads.0 ≡ Drops why = sym leads.1.0 ∙ (ap (course w.links.cables c) (sym e) ∙ g) in cc

hears-way : (payload : List ℕ) (to : ℕ) (w v : WorldState) (c : ℕ) (held : Held) (turns : List ℤ) (h : ℕ) → held.wire ≡ packet_of turns Gm payload → LeadsTo w.links.cables payload to turns c → course w.links.cables c held.wire ≡ Arrives h → v.nodes ≡ set w.nodes h (hear h (host_count w) (node_at w h) held.wire).1 → v.nodes ≡ set w.nodes to (hear to (host_count w) (node_at w to) (packet_of [] Gm payload)).1
hears-way payload to w v c held [] h e leads g n =
    let same : Arrives to ≡ Arrives h = sym leads ∙ (ap (course w.links.cables c) (sym e) ∙ g) in
    let at : h ≡ to = cc in
    n ∙ (ap (λ x. set w.nodes h (hear h (host_count w) (node_at w h) x).1) e ∙ ap (λ x. set w.nodes x (hear x (host_count w) (node_at w x) (packet_of [] Gm payload)).1) at)
hears-way payload to w v c held (turn ∷ turns) h e leads g n = let bad : Enters leads.0 ≡ Arrives h = sym leads.1.0 ∙ (ap (course w.links.cables c) (sym e) ∙ g) in cc

-- one advance
module _ (payload : List ℕ) (to : ℕ) (w v : WorldState) (c : ℕ) (is : IsLinks w.links) (kept : v.links.cables ≡ w.links.cables) (o : OnWay payload to w) where
  gone : packet_in (emptied w.links c) o.channel ≡ Some o.held → (l : LinkState) → v.links ≡ l → packet_in l o.channel ≡ Some o.held → WentOn payload to w v
  gone there l e d = WentOn.on (still-way payload to w v o kept (ap (λ s. packet_in s o.channel) e ∙ d))

  other : nat_eq o.channel c ≡ false → packet_in (emptied w.links c) o.channel ≡ Some o.held
  other t = let differ : o.channel ≢ c = grind (arith, nat_tests) in get_or-set_other w.links.channels c o.channel None None differ ∙ o.there

  same-held : (held : Held) → o.channel ≡ c → packet_in w.links c ≡ Some held → held.wire ≡ packet_of o.turns Gm payload
  same-held held at e =
      let same : o.held ≡ held = same_Some o.held held (sym o.there ∙ (ap (packet_in w.links) at ∙ e)) in ap (λ x. x.wire) (sym same) ∙ o.wire

  leads-at : o.channel ≡ c → LeadsTo w.links.cables payload to o.turns c
  leads-at at = subst (LeadsTo w.links.cables payload to o.turns) at o.leads

  pub advance-way : AdvanceOf w c v → WentOn payload to w v
  advance-way a = by (nat_eq o.channel c) refl a
    where
      by : (t : Bool) → nat_eq o.channel c ≡ t → AdvanceOf w c v → WentOn payload to w v
      by t u (AdvanceOf.stays e) = WentOn.on (subst (OnWay payload to) (sym e) o)
      by false u (AdvanceOf.enters held next e g free l n) = gone (other u) _ l (keep-there (emptied w.links c) next o.channel o.held (Some (stripped_of held)) free (other u))
      by false u (AdvanceOf.drops held why e g l n) = gone (other u) _ l (other u)
      by false u (AdvanceOf.hears held h e g l n) = gone (other u) _ l (other u)
      by true u (AdvanceOf.enters held next e g free l n) = let at : o.channel ≡ c = grind (arith, nat_tests) in WentOn.on (enters-way payload to w v c held o.turns next is kept (same-held held at e) (leads-at at) g l)
      by true u (AdvanceOf.drops held why e g l n) = let at : o.channel ≡ c = grind (arith, nat_tests) in absurd (drops-way payload to w c held o.turns why (same-held held at e) (leads-at at) g)
      by true u (AdvanceOf.hears held h e g l n) = let at : o.channel ≡ c = grind (arith, nat_tests) in WentOn.heard (hears-way payload to w v c held o.turns h (same-held held at e) (leads-at at) g n)
