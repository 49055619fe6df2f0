-- A packet alone in the links: what a step of its channel leaves.
use Rattle.std.proofs.Common.{◌≡◌, ◌<◌, ℕ, suc, ◌+◌, List, [], length, replicate, Option, Some, None, is_some, Bool, true, false, ℤ, ◌∷◌, refl, sym, ap, ◌∙◌, subst, arith, if◌then◌else◌}
use Rattle.std.specs.Option.{option_and_then}
use Rattle.std.specs.List.{All, AllByRecursion}
use Rattle.std.proofs.Math.ListN.{length-set}
use Rattle.std.proofs.lemmas.List.{length-replicate, get_or-set_same}
use Rattle.net_defs.specs.declared.vertex.End.{End}
use Rattle.net_defs.specs.Network.{Network, IsFabric, far}
use Rattle.net_defs.specs.Route.{exit_at, turned, entered_after, place, host_port, IsEntered, IsPlaceOf}
use Rattle.net_defs.proofs.Places.{far-there, place_at-there}
use Rattle.world_defs.specs.declared.moved.Course.{Course}
use Rattle.world_defs.specs.declared.moved.Course.TheVariants.{Arrives, Enters, Drops}
use Rattle.world_defs.specs.declared.moved.Moved.{Moved}
use Rattle.world_defs.specs.declared.moved.Moved.TheVariants.{To, AtHost, Dropped, Blocked, Empty}
use Rattle.packet_defs.specs.Packet.{stripped, packet_of}
use Rattle.world_defs.specs.History.{CableHistory, fabric_now}
use Rattle.world_defs.specs.Crossed.{life_channels, leaving}
use Rattle.world_defs.specs.Links.{Held, LinkState, emptied, bare_links, put}
use Rattle.world_defs.specs.Advance.{course, advance}
use Rattle.world_defs.specs.Lone.{lone, lone_after, lone_place, ended_place}
use Rattle.net_defs.specs.Turn.{IsTurn}
use Rattle.packet_defs.specs.declared.kind.Kind.TheVariants.{Mapping}
use Rattle.world_defs.proofs.LonePackets.{lone-emptied, get-empty, lone-advance, lone-place}
use Rattle.link_model.specs.Alone.{wire_of, wire_in, left_at, IsAlone}
use Rattle.link_model.proofs.Stepping.{course-below}

-- the channels of links with one packet are those of the fabric
lone-length : (h : CableHistory) (c : ℕ) (wire : List ℕ) → length (lone h c wire).channels ≡ life_channels h
lone-length h c wire =
    length-set {A = Option Held} (replicate (life_channels h) None) c (Some (record { wire = wire; marked = false; born = 0 })) ∙ length-replicate {A = Option Held} (life_channels h) None

wire-lone : (h : CableHistory) (c : ℕ) (wire : List ℕ) → c < life_channels h → wire_in (lone h c wire) c ≡ wire
wire-lone h c wire low =
    let p : Option Held = Some (record { wire = wire; marked = false; born = 0 }) in
    let room : c < length (replicate {A = Option Held} (life_channels h) None) = omega (arith, low, length-replicate {A = Option Held} (life_channels h) None) in
    ap wire_of (get_or-set_same (replicate (life_channels h) None) c p None room)

-- a packet that is put into empty links is alone there
pub put-lone : (h : CableHistory) (c : ℕ) (wire : List ℕ) → (put (bare_links h) c wire).1 ≡ lone h c wire
put-lone h c wire = ap (λ o. (if◌then◌else◌ {A = Bool × LinkState} (is_some o) (false, bare_links h) (true, lone h c wire)).1) (get-empty {X = Option Held} (life_channels h) c None)

pub put-alone : (h : CableHistory) (c : ℕ) (wire : List ℕ) → c < life_channels h → IsAlone (lone h c wire) c
put-alone h c wire low = ap (lone h c) (sym (wire-lone h c wire low))

-- a reset of its channel leaves empty links
pub reset-alone : (s : LinkState) (c : ℕ) → IsAlone s c → emptied s c ≡ bare_links s.cables
reset-alone s c alone = ap (λ t. emptied t c) alone ∙ lone-emptied s.cables c (wire_in s c)

pub alone-length : (s : LinkState) (c : ℕ) → IsAlone s c → length s.channels ≡ life_channels s.cables
alone-length s c alone = ap (λ t. length t.channels) alone ∙ lone-length s.cables c (wire_in s c)

alone-advance : (s : LinkState) (c : ℕ) → IsAlone s c → c < length s.channels → advance s c ≡ lone_after s.cables (wire_in s c) (course s.cables c (wire_in s c))
alone-advance s c alone low =
    let same = alone-length s c alone in
    ap (λ t. advance t c) alone ∙ lone-advance s.cables c (wire_in s c) (omega (arith, low, same))

-- What is left where the packet goes on: it is alone in the next channel, and ends where it would have.
pub record GoesOn (s after : LinkState) (c next k : ℕ) : Type 0 where
  pub there : next < length after.channels
  pub alone : IsAlone after next
  pub cables : after.cables ≡ s.cables
  pub place : lone_place (suc k) s.cables c (wire_in s c) ≡ lone_place k s.cables next (wire_in after next)

entered-on : (s : LinkState) (c next k : ℕ) → course s.cables c (wire_in s c) ≡ Enters next → GoesOn s (lone s.cables next (stripped (wire_in s c))) c next k
entered-on s c next k to =
    let n = s.cables in
    let w = stripped (wire_in s c) in
    let low = course-below n c (wire_in s c) next to in
    let long = lone-length n next w in
    record {
      there = omega (arith, low, long);
      alone = put-alone n next w low;
      cables = refl;
      place = ap (ended_place n c (wire_in s c) (λ d. lone_place k n d w)) to ∙ ap (lone_place k n next) (sym (wire-lone n next w low));
    }

pub goes-on : (s after : LinkState) (c next k : ℕ) → IsAlone s c → c < length s.channels → (advance s c).0 ≡ To next → after ≡ (advance s c).1 → GoesOn s after c next k
goes-on s after c next k alone low to is = by (course s.cables c (wire_in s c)) refl
  where
    went : advance s c ≡ lone_after s.cables (wire_in s c) (course s.cables c (wire_in s c))
    went = alone-advance s c alone low

    by : (way : Course) → course s.cables c (wire_in s c) ≡ way → GoesOn s after c next k
    by (Arrives h) e = let f : AtHost h (wire_in s c) ≡ To next = sym (ap (λ m. m.0) (went ∙ ap (lone_after s.cables (wire_in s c)) e)) ∙ to in cc
    by (Enters d) e =
        let f : To d ≡ To next = sym (ap (λ m. m.0) (went ∙ ap (lone_after s.cables (wire_in s c)) e)) ∙ to in
        let same : d ≡ next = cc in
        let there : after ≡ lone s.cables d (stripped (wire_in s c)) = is ∙ ap (λ m. m.1) (went ∙ ap (lone_after s.cables (wire_in s c)) e) in
        subst (λ x. GoesOn s after c x k) same (subst (λ t. GoesOn s t c d k) (sym there) (entered-on s c d k e))
    by (Drops why) e = let f : Dropped why ≡ To next = sym (ap (λ m. m.0) (went ∙ ap (lone_after s.cables (wire_in s c)) e)) ∙ to in cc

-- What is left where it doesn't: the links are idle, and the place is what the step says.
pub record Ends (s after : LinkState) (c k : ℕ) (moved : Moved (List ℕ)) : Type 0 where
  pub idle : after ≡ bare_links s.cables
  pub place : lone_place (suc k) s.cables c (wire_in s c) ≡ left_at s.cables c moved

abbrev pub IsElsewhere : Moved (List ℕ) → Type 0
IsElsewhere (To next) = ⊥
IsElsewhere _ = Unit {0}

-- a step that doesn't lead into a channel
pub elsewhere : (m : Moved (List ℕ)) → ((next : ℕ) → m ≡ To next → ⊥) → IsElsewhere m
elsewhere (To next) not = not next refl
elsewhere (AtHost h wire) not = tt
elsewhere (Dropped why) not = tt
elsewhere (Blocked next) not = tt
elsewhere Empty not = tt

pub ends : (s after : LinkState) (c k : ℕ) (moved : Moved (List ℕ)) → IsAlone s c → c < length s.channels → moved ≡ (advance s c).0 → after ≡ (advance s c).1 → IsElsewhere moved → Ends s after c k moved
ends s after c k moved alone low is left other = by (course s.cables c (wire_in s c)) refl
  where
    went : advance s c ≡ lone_after s.cables (wire_in s c) (course s.cables c (wire_in s c))
    went = alone-advance s c alone low

    by : (way : Course) → course s.cables c (wire_in s c) ≡ way → Ends s after c k moved
    by (Arrives h) e =
        let at = went ∙ ap (lone_after s.cables (wire_in s c)) e in
        let m : moved ≡ AtHost h (wire_in s c) = is ∙ ap (λ x. x.0) at in
        record {
          idle = left ∙ ap (λ x. x.1) at;
          place = ap (ended_place s.cables c (wire_in s c) (λ d. lone_place k s.cables d (stripped (wire_in s c)))) e ∙ sym (ap (left_at s.cables c) m);
        }
    by (Enters d) e =
        let at = went ∙ ap (lone_after s.cables (wire_in s c)) e in
        let m : moved ≡ To d = is ∙ ap (λ x. x.0) at in
        absurd (subst IsElsewhere m other)
    by (Drops why) e =
        let at = went ∙ ap (lone_after s.cables (wire_in s c)) e in
        let m : moved ≡ Dropped why = is ∙ ap (λ x. x.0) at in
        record {
          idle = left ∙ ap (λ x. x.1) at;
          place = ap (ended_place s.cables c (wire_in s c) (λ d. lone_place k s.cables d (stripped (wire_in s c)))) e ∙ sym (ap (left_at s.cables c) m);
        }

-- an end that a walk enters is one of the fabric
exit-there : (n : Network) (exit : Option End) → IsFabric n → IsEntered n (option_and_then (far n) exit)
exit-there n None f = tt
exit-there n (Some x) f = far-there n x f

turned-there : (n : Network) (entered : Option End) (turn : ℤ) → IsFabric n → IsEntered n (turned n entered turn)
turned-there n None turn f = tt
turned-there n (Some e) turn f = exit-there n (exit_at n e.v e.p turn) f

entered-there : (n : Network) (entered : Option End) (turns : List ℤ) → IsFabric n → IsEntered n entered → IsEntered n (entered_after n entered turns)
entered-there n entered [] f is = is
entered-there n entered (t ∷ ts) f is = entered-there n (turned n entered t) ts f (turned-there n entered t f)

-- and so the place of a walk
pub place-there : (n : Network) (host : ℕ) (turns : List ℤ) → IsFabric n → IsPlaceOf n (place n host turns)
place-there n host turns f =
    place_at-there n (entered_after n (far n (host_port host)) turns) (entered-there n (far n (host_port host)) turns f (far-there n (host_port host) f))

-- what holds at every place of a list holds of each element
all-each : (P : ℤ → Type 0) (ts : List ℤ) → All P ts → AllByRecursion P ts
all-each P [] all = tt
all-each P (t ∷ ts) all = (all 0 t (omega arith), all-each P ts (λ k d low. all (suc k) d (omega (arith, low))))

-- a packet that was put into empty links at its host ends at the place of its walk
pub walked : (h : CableHistory) (host c : ℕ) (turns : List ℤ) (s : LinkState) → leaving h (host_port host) ≡ Some c → All IsTurn turns → s ≡ lone h c (packet_of turns Mapping []) → c < life_channels h → lone_place (length turns + 1) s.cables c (wire_in s c) ≡ place (fabric_now h) host turns
walked h host c turns s from all is low =
    let w = packet_of turns Mapping [] in
    ap (λ t. lone_place (length turns + 1) t.cables c (wire_in t c)) is
    ∙ ap (lone_place (length turns + 1) h c) (wire-lone h c w low)
    ∙ lone-place h host turns [] c (all-each IsTurn turns all) from
