-- A packet goes on by its own bytes: its hops are advances of the links, where no other channel holds a packet.
use Rattle.std.proofs.Common.{◌≡◌, ◌≢◌, ◌<◌, ◌≤◌, ◌+◌, ◌-◌, ℕ, zero, suc, Bool, true, false, nat_eq, true≢false, List, [], ◌∷◌, length, get_or, set, Option, Some, None, is_some, refl, sym, ap, ◌∙◌, subst, arith, if◌then◌else◌}
use Rattle.std.specs.List.{prefix_len}
use Rattle.std.proofs.Math.ListN.{length-set}
use Rattle.std.proofs.lemmas.List.{length-take, get_or-set_same, get_or-set_other}
use Rattle.std.proofs.lemmas.Bool.Decides.{Decides-eqb}
use Rattle.packet_defs.specs.RouteByte.{is_route_byte}
use Rattle.packet_defs.specs.Packet.{head, stripped}
use Rattle.world_defs.specs.declared.moved.Course.{Course}
use Rattle.world_defs.specs.declared.moved.Course.TheVariants.{Arrives, Enters, Drops}
use Rattle.world_defs.specs.declared.moved.Moved.{Moved}
use Rattle.world_defs.specs.declared.moved.Moved.TheVariants.{To, AtHost, Dropped, Blocked, Empty}
use Rattle.world_defs.specs.History.{CableHistory}
use Rattle.world_defs.specs.Crossed.{life_channels, life_head}
use Rattle.world_defs.specs.Shape.{IsLinks}
use Rattle.world_defs.specs.Links.{Held, LinkState, packet_in, with_packet, emptied}
use Rattle.world_defs.specs.Advance.{course, entered, gone_on, advance_of, advance}
use Rattle.world_defs.specs.Hops.{hops_left}
use Rattle.world_defs.proofs.HopsLeft.{hops_left-stripped, course_into-enters}
use Rattle.world_defs.proofs.Slots.{set-same}
use Rattle.link_model.specs.FullSlots.{IsLone}
use Rattle.link_model.proofs.Counting.{set-set, set-back}
use Rattle.link_model.specs.Hop.{IsSentAlong, IsRun}
use Rattle.link_model.proofs.Stepping.{course-below, enters-now, written-links}

-- ---- what an advance leaves
-- no channel but this one holds a packet
abbrev pub AreOthersEmpty : LinkState → ℕ → Type 0
AreOthersEmpty s c = (k : ℕ) → k ≢ c → packet_in s k ≡ None

set-none : (ps : List (Option Held)) (c : ℕ) → get_or (set ps c None) c None ≡ None
set-none [] c = refl
set-none (p ∷ ps) zero = refl
set-none (p ∷ ps) (suc c) = set-none ps c

-- and so none does once that is emptied
pub emptied-none : (s : LinkState) (c : ℕ) → AreOthersEmpty s c → (k : ℕ) → packet_in (emptied s c) k ≡ None
emptied-none s c others k = by (nat_eq k c) refl
  where
    by : (t : Bool) → nat_eq k c ≡ t → packet_in (emptied s c) k ≡ None
    by true e =
        let same : k ≡ c = (Decides-eqb k c).0 e in
        ap (λ i. get_or (set s.channels c None) i None) same ∙ set-none s.channels c
    by false e =
        let other : k ≢ c = λ h. true≢false (sym ((Decides-eqb k c).1 h) ∙ e) in
        get_or-set_other s.channels c k None None other ∙ others k other

-- the channel that a packet is in after its advance, if it is in any
abbrev pub behind : Moved (List ℕ) → ℕ → ℕ
behind (To next) c = next
behind (AtHost h wire) c = c
behind (Dropped why) c = c
behind (Blocked next) c = c
behind Empty c = c

-- An advance leaves as many channels, and where no other channel held a packet, one in this channel at most.
pub record Leaves (s : LinkState) (c : ℕ) (o : Moved (List ℕ) × LinkState) : Type 0 where
  pub others : AreOthersEmpty s c → AreOthersEmpty o.1 (behind o.0 c)
  pub long : length o.1.channels ≡ length s.channels

gone-leaves : (s : LinkState) (c : ℕ) → AreOthersEmpty s c → AreOthersEmpty (emptied s c) c
gone-leaves s c others k other = emptied-none s c others k

entered-leaves : (s : LinkState) (c : ℕ) (held : Held) (next : ℕ) (o : Option Held) → Leaves s c (entered s c held next o)
entered-leaves s c held next None =
    let on : Held = record held { wire = stripped held.wire } in
    record {
      others = λ others k other. get_or-set_other (emptied s c).channels next k (Some on) None other ∙ emptied-none s c others k;
      long = length-set {A = Option Held} (emptied s c).channels next (Some on) ∙ length-set {A = Option Held} s.channels c None;
    }
entered-leaves s c held next (Some p) = record { others = λ others. others; long = refl }

gone_on-leaves : (s : LinkState) (c : ℕ) (held : Held) (to : Course) → Leaves s c (gone_on s c held to)
gone_on-leaves s c held (Arrives h) = record { others = gone-leaves s c; long = length-set {A = Option Held} s.channels c None }
gone_on-leaves s c held (Enters next) = entered-leaves s c held next (packet_in (emptied s c) next)
gone_on-leaves s c held (Drops why) = record { others = gone-leaves s c; long = length-set {A = Option Held} s.channels c None }

advance_of-leaves : (s : LinkState) (c : ℕ) (o : Option Held) → Leaves s c (advance_of s c o)
advance_of-leaves s c None = record { others = λ others. others; long = refl }
advance_of-leaves s c (Some held) = gone_on-leaves s c held (course s.cables c held.wire)

pub advance-leaves : (s : LinkState) (c : ℕ) → Leaves s c (advance s c)
advance-leaves s c = advance_of-leaves s c (packet_in s c)

-- and so do advances in a row
pub run-others : (s : LinkState) (c : ℕ) (t : LinkState) (hops at : ℕ) → IsRun s c hops at t → AreOthersEmpty s c → AreOthersEmpty t at
run-others s c t hops at IsRun.not_begun others = others
run-others s c t hops at (IsRun.further {hops = n} {at = b} {next = d} {now = u} {after = v} before went) others =
    let here : AreOthersEmpty u b = run-others s c u n b before others in
    subst (λ (o : Moved (List ℕ) × LinkState). AreOthersEmpty o.1 (behind o.0 b)) went ((advance-leaves u b).others here)

-- a channel whose packet goes on is one of them
none-below : (ps : List (Option Held)) (c : ℕ) (held : Held) → get_or ps c None ≡ Some held → c < length ps
none-below [] c held e = cc
none-below (p ∷ ps) zero held e = omega arith
none-below (p ∷ ps) (suc c) held e = let h = none-below ps c held e in omega (arith, h)

pub moved-below : (s t : LinkState) (c next : ℕ) → advance s c ≡ (To next, t) → c < length s.channels
moved-below s t c next went = by (packet_in s c) refl
  where
    by : (o : Option Held) → packet_in s c ≡ o → c < length s.channels
    by None e = let f : Empty ≡ To next = sym (ap (λ p. (advance_of s c p).0) e) ∙ ap (λ r. r.0) went in cc
    by (Some held) e = none-below s.channels c held e

-- ---- a packet on its way by its own bytes
-- the channels that it enters are there
along-below : (h : CableHistory) (c hops at : ℕ) (wire now : List ℕ) → IsSentAlong h c wire hops at now → c < life_channels h → at < life_channels h
along-below h c hops at wire now IsSentAlong.not_yet low = low
along-below h c hops at wire now (IsSentAlong.one_more {hops = k} {at = b} {next = d} {now = bytes} before to) low = course-below h b bytes d to

-- What advances in a row leave.
pub record RunsOut (s t : LinkState) (c hops at : ℕ) : Type 0 where
  pub run : IsRun s c hops at t
  pub lone : IsLone t.channels at
  pub last : (next : ℕ) → (advance t at).0 ≢ To next
  pub links : IsLinks t

-- the links with the packet of the only full channel in another channel, with other bytes
abbrev pub moved_to : LinkState → ℕ → Held → ℕ → List ℕ → LinkState
moved_to s c held at wire = with_packet (emptied s c) at (Some (record held { wire = wire }))

moved-long : (s : LinkState) (c : ℕ) (held : Held) (at : ℕ) (wire : List ℕ) → length (moved_to s c held at wire).channels ≡ length s.channels
moved-long s c held at wire = length-set {A = Option Held} (emptied s c).channels at (Some (record held { wire = wire })) ∙ length-set {A = Option Held} s.channels c None

moved-there : (s : LinkState) (c : ℕ) (held : Held) (at : ℕ) (wire : List ℕ) → at < length s.channels → packet_in (moved_to s c held at wire) at ≡ Some (record held { wire = wire })
moved-there s c held at wire low =
    let long : length (emptied s c).channels ≡ length s.channels = length-set {A = Option Held} s.channels c None in
    get_or-set_same (emptied s c).channels at (Some (record held { wire = wire })) None (omega (arith, low, long))

along-run : (s : LinkState) (c : ℕ) (held : Held) (hops at : ℕ) (now : List ℕ) → IsLinks s → c < length s.channels → packet_in s c ≡ Some held → AreOthersEmpty s c
    → IsSentAlong s.cables c held.wire hops at now → IsRun s c hops at (moved_to s c held at now)
along-run s c held hops at now links low there others IsSentAlong.not_yet =
    let back : moved_to s c held c held.wire ≡ s = ap (λ l. record s { channels = l }) (set-back s.channels c held there) in
    subst (IsRun s c 0 c) (sym back) IsRun.not_begun
along-run s c held hops at now links low there others (IsSentAlong.one_more {hops = n} {at = b} {next = d} {now = bytes} before to) =
    let h : Held = record held { wire = bytes } in
    let t : LinkState = moved_to s c held b bytes in
    let slots = links.slots in
    let below = along-below s.cables c n b held.wire bytes before (omega (arith, low, slots)) in
    let here : packet_in t b ≡ Some h = moved-there s c held b bytes (omega (arith, below, slots)) in
    let gone : emptied t b ≡ emptied s c =
    ap (λ l. record s { channels = l }) (set-set (emptied s c).channels b (Some h) None ∙ set-same (emptied s c).channels b None (emptied-none s c others b)) in
    let free : packet_in (emptied t b) d ≡ None = ap (λ x. packet_in x d) gone ∙ emptied-none s c others d in
    let went : advance t b ≡ (To d, moved_to s c held d (stripped bytes)) =
    enters-now t b d h here to free ∙ ap (λ x. (To d, with_packet x d (Some (record h { wire = stripped bytes })))) gone in
    IsRun.further (along-run s c held n b bytes links low there others before) went

-- it goes no further where its course leads into no channel
run-ends : (s : LinkState) (c : ℕ) (held : Held) → packet_in s c ≡ Some held → ((next : ℕ) → course s.cables c held.wire ≢ Enters next) → (next : ℕ) → (advance s c).0 ≢ To next
run-ends s c held there not next is = by (course s.cables c held.wire) refl
  where
    goes : (to : Course) → course s.cables c held.wire ≡ to → (gone_on s c held to).0 ≡ To next
    goes to e = sym (ap (λ o. (advance_of s c o).0) there ∙ ap (λ x. (gone_on s c held x).0) e) ∙ is

    by : (to : Course) → course s.cables c held.wire ≡ to → ⊥
    by (Arrives h) e = let f : AtHost h held.wire ≡ To next = goes (Arrives h) e in cc
    by (Enters d) e = not d e
    by (Drops why) e = let f : Dropped why ≡ To next = goes (Drops why) e in cc

pub runs-out : (s : LinkState) (c : ℕ) (held : Held) (hops at : ℕ) (now : List ℕ) → IsLinks s → IsLone s.channels c → packet_in s c ≡ Some held
    → IsSentAlong s.cables c held.wire hops at now → ((next : ℕ) → course s.cables at now ≢ Enters next) → RunsOut s (moved_to s c held at now) c hops at
runs-out s c held hops at now links lone there along not =
    let slots = links.slots in
    let low = lone.there in
    let below = along-below s.cables c hops at held.wire now along (omega (arith, low, slots)) in
    let here = moved-there s c held at now (omega (arith, below, slots)) in
    let long = moved-long s c held at now in
    record {
      run = along-run s c held hops at now links low there lone.others along;
      lone = record {
        there = omega (arith, below, slots, long);
        full = ap is_some here;
        others = λ k other. get_or-set_other (emptied s c).channels at k (Some (record held { wire = now })) None other ∙ emptied-none s c lone.others k;
      };
      last = run-ends (moved_to s c held at now) at (record held { wire = now }) here not;
      links = written-links s (moved_to s c held at now).channels long links;
    }

-- ---- a loop along it
prefix-few : (test : ℕ → Bool) (xs : List ℕ) → prefix_len test xs ≤ length xs
prefix-few test [] = omega arith
prefix-few test (x ∷ xs) = by (test x) (prefix-few test xs)
  where
    by : (b : Bool) → prefix_len test xs ≤ length xs → (if b then 1 + prefix_len test xs else 0) ≤ suc (length xs)
    by true h = omega (arith, h)
    by false h = omega arith

-- a packet has no more hops left than it has bytes
pub hops-few : (wire : List ℕ) → 0 < length wire → hops_left wire ≤ length wire
hops-few wire some =
    let front = prefix-few is_route_byte (head wire) in
    let short = length-take (length wire - 1) wire in
    omega (arith, some, front, short)

pub hops-most : (wire : List ℕ) (size : ℕ) → size ≡ length wire → 0 < size → size ≤ 1107 → hops_left wire ≤ 1107
hops-most wire size is some few = let h = hops-few wire (omega (arith, is, some)) in omega (arith, h, is, few)

-- A packet under way: where it is, and that each hop took one of those that it had left.
pub record Following (h : CableHistory) (c : ℕ) (first now : List ℕ) (hops at : ℕ) : Type 0 where
  pub along : IsSentAlong h c first hops at now
  pub there : at < life_channels h
  pub few : hops + hops_left now ≤ hops_left first

pub following-none : (h : CableHistory) (c : ℕ) (wire : List ℕ) → c < life_channels h → Following h c wire wire 0 c
following-none h c wire low = record { along = IsSentAlong.not_yet; there = low; few = omega arith }

-- a hop takes one
pub hop-fewer : (h : CableHistory) (at next : ℕ) (now after : List ℕ) → course h at now ≡ Enters next → after ≡ stripped now → hops_left now ≡ 1 + hops_left after
hop-fewer h at next now after to is =
    let turn = course_into-enters h (life_head h at) now next to in
    hops_left-stripped now turn.0 turn.1 ∙ ap (λ w. 1 + hops_left w) (sym is)

pub following-on : (h : CableHistory) (c : ℕ) (first now after : List ℕ) (hops at next more : ℕ) → Following h c first now hops at → course h at now ≡ Enters next → after ≡ stripped now → more ≡ hops + 1 → Following h c first after more next
following-on h c first now after hops at next more f to is count =
    let few = f.few in
    let fewer = hop-fewer h at next now after to is in
    record {
      along = subst (λ k. IsSentAlong h c first k next after) (sym count) (subst (IsSentAlong h c first (hops + 1) next) (sym is) (IsSentAlong.one_more f.along to));
      there = course-below h at now next to;
      few = omega (arith, few, fewer, count);
    }
