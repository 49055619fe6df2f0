-- What each end keeps, what two ends keep between them, and what each packet of the medium says.
use Rattle.std.proofs.Common.{◌≡◌, ◌<◌, ◌≤◌, ◌+◌, ◌^◌, ◌⊎◌, inl, inr, ℕ, zero, suc, true, false, List, [], ◌∷◌, ◌++◌, length, Some, ap, ◌∙◌, arith}
use Rattle.std.specs.Prelude.{slice_get}
use Rattle.std.specs.List.{AllByRecursion}
use Rattle.std.proofs.lemmas.List.{length-append}
use Rattle.net_defs.proofs.Distinct.{all-push, all-weaker}
use Rattle.gm_defs.specs.Body.{number_limit, frame_bytes, ack_bytes}
use Rattle.gm_defs.specs.Connection.{IsSender}
use Rattle.duo_defs.specs.declared.packet.Packet.{Packet}
use Rattle.duo_defs.specs.declared.packet.Packet.TheVariants.{Hello, Data}
use Rattle.gm_defs.specs.declared.message.Message.{Message}
use Rattle.world_defs.specs.Lane.{LaneState}
use Rattle.world_defs.specs.Sound.{IsPrefix}
use Rattle.duo_defs.specs.Duo.{Period, Returned, EndState, DuoState, periods, end_of, end_at, other, with_end, sent_in, got_in}
use Rattle.duo_defs.specs.Theorem.{IsShort}
use Rattle.duo_laws.proofs.Lists.{get-append}
use Rattle.duo_laws.proofs.Bodies.{AreShort, frame_head, answer}
use Rattle.duo_laws.proofs.Periods.{IsBefore, Grow, grow-same}

-- A period is of an incarnation; its messages are short, and few enough for their numbers.
pub record IsPeriod (p : Period) : Type 0 where
  pub named : 0 < p.inc
  pub short : AreShort p.lane.sent
  pub few : length p.lane.sent ≤ number_limit

-- What the lane of a present period keeps.
pub record IsLane (l : LaneState) : Type 0 where
  pub sender : IsSender l.sender
  pub counted : l.sender.next ≡ length l.sent
  pub waiting : l.sender.base + length l.pending ≡ l.sender.next
  pub taken : l.taken ≡ length l.got
  pub none_begun : l.coming ≡ []

-- What an end keeps.
pub record IsEnd (e : EndState) : Type 0 where
  pub lane : IsLane e.present.lane
  pub each : AllByRecursion IsPeriod (periods e)
  pub before : AllByRecursion (IsBefore e.present.inc e.present.known) e.past
  pub living : 0 < e.present.inc
  pub quiet : e.present.known ≡ 0 → e.present.lane.got ≡ []
  pub idle : e.present.known ≡ 0 → e.present.lane.sender.base ≡ 0

-- A send that came back: it was acknowledged, and its message is among those that the peer has from there; or it
-- wasn't, and the peer is a later incarnation.
pub record IsAcknowledged (inc : ℕ) (peer : EndState) (r : Returned) : Type 0 where
  pub sure : r.unsure ≡ false
  pub counted : 0 < r.known
  pub there : r.place < length (got_in peer r.known inc)

pub record IsUnsure (peer : EndState) (r : Returned) : Type 0 where
  pub not_sure : r.unsure ≡ true
  pub above : r.known < peer.present.inc

abbrev pub IsReturnedRight : ℕ → EndState → Returned → Type 0
IsReturnedRight inc peer r = IsAcknowledged inc peer r ⊎ IsUnsure peer r

-- What goes from one end to the other.
pub record Flows (a b : EndState) : Type 0 where
  pub prefix : (i j : ℕ) → 0 < j → IsPrefix (got_in b j i) (sent_in a i j)
  pub base : 0 < a.present.known → a.present.lane.sender.base ≤ length (got_in b a.present.known a.present.inc)
  pub known : a.present.known ≤ b.present.inc
  pub returned : AllByRecursion (IsReturnedRight a.present.inc b) a.returned

-- A body that an end emitted, as one incarnation to one of its peer.
pub record IsFrameBody (e : EndState) (x i j : ℕ) (body : List ℕ) : Type 0 where
  pub number : ℕ
  pub message : Message
  pub there : slice_get (sent_in e i j) number ≡ Some message
  pub short : IsShort message
  pub low : number < number_limit
  pub bytes : body ≡ frame_bytes (frame_head x number message) message.body

pub record IsAckBody (e : EndState) (x i j : ℕ) (body : List ℕ) : Type 0 where
  pub taken : ℕ
  pub within : taken ≤ length (got_in e i j)
  pub low : taken < 2 ^ 32
  pub bytes : body ≡ ack_bytes (answer x taken)

pub record IsBody (e : EndState) (x i j : ℕ) (body : List ℕ) : Type 0 where
  pub side : x < 2
  pub src : 0 < i
  pub dst : 0 < j
  pub says : IsFrameBody e x i j body ⊎ IsAckBody e x i j body

abbrev pub IsHonest : (ℕ → EndState) → Packet → Type 0
IsHonest ends (Hello src inc knows) = inc ≤ (ends src).present.inc
IsHonest ends (Data src i j body) = IsBody (ends src) src i j body

pub record IsGood (d : DuoState) : Type 0 where
  pub ends : (x : ℕ) → IsEnd (end_of d.first d.second x)
  pub flows : (x : ℕ) → Flows (end_of d.first d.second x) (end_of d.first d.second (other x))
  pub medium : AllByRecursion (IsHonest (end_of d.first d.second)) d.medium

-- An end later.
pub record Later (a b : EndState) : Type 0 where
  pub inc : a.present.inc ≤ b.present.inc
  pub grow : Grow (periods a) (periods b)

-- ---- what was emitted stays honest

body-later : (a b : EndState) (x i j : ℕ) (body : List ℕ) → Later a b → IsBody a x i j body → IsBody b x i j body
body-later a b x i j body l h = record { side = h.side; src = h.src; dst = h.dst; says = by h.says }
  where
    by : IsFrameBody a x i j body ⊎ IsAckBody a x i j body → IsFrameBody b x i j body ⊎ IsAckBody b x i j body
    by (inl f) =
        let g = l.grow.each i j h.dst in
        inl (record {
          number = f.number;
          message = f.message;
          there = ap (λ s. slice_get s f.number) g.sent ∙ get-append (sent_in a i j) g.sent_more f.number f.message f.there;
          short = f.short;
          low = f.low;
          bytes = f.bytes;
        })
    by (inr k) =
        let g = l.grow.each i j h.dst in
        let w = k.within in
        let longer : length (got_in b i j) ≡ length (got_in a i j) + length g.got_more = ap length g.got ∙ length-append (got_in a i j) g.got_more in
        inr (record { taken = k.taken; within = omega (arith, w, longer); low = k.low; bytes = k.bytes })

pub later-same : (e : EndState) → Later e e
later-same e = record { inc = omega arith; grow = grow-same (periods e) }

-- an end has changed
later-first : (a b e : EndState) → Later a e → (src : ℕ) → Later (end_of a b src) (end_of e b src)
later-first a b e l zero = l
later-first a b e l (suc k) = later-same b

later-second : (a b e : EndState) → Later b e → (src : ℕ) → Later (end_of a b src) (end_of a e src)
later-second a b e l zero = later-same a
later-second a b e l (suc k) = l

packet-later : (f g : ℕ → EndState) → ((x : ℕ) → Later (f x) (g x)) → (p : Packet) → IsHonest f p → IsHonest g p
packet-later f g l (Hello src inc knows) h = let i = (l src).inc in omega (arith, i, h)
packet-later f g l (Data src i j body) h = body-later (f src) (g src) src i j body (l src) h

medium-later : (f g : ℕ → EndState) (ps : List Packet) → ((x : ℕ) → Later (f x) (g x)) → AllByRecursion (IsHonest f) ps → AllByRecursion (IsHonest g) ps
medium-later f g ps l all = all-weaker (IsHonest f) (IsHonest g) ps (packet-later f g l) all

-- An end has become another, with its peer as it was.
pub record Change (a e b : EndState) : Type 0 where
  pub is : IsEnd e
  pub later : Later a e
  pub out : Flows e b
  pub into : Flows b e

pub changed : (d : DuoState) (x : ℕ) (e : EndState) → IsGood d → Change (end_at d x) e (end_at d (other x)) → IsGood (with_end d x e)
changed d zero e g c = record { ends = ends; flows = flows; medium = medium-later (end_of d.first d.second) (end_of e d.second) d.medium (later-first d.first d.second e c.later) g.medium }
  where
    ends : (x : ℕ) → IsEnd (end_of e d.second x)
    ends zero = c.is
    ends (suc k) = g.ends (suc k)

    flows : (x : ℕ) → Flows (end_of e d.second x) (end_of e d.second (other x))
    flows zero = c.out
    flows (suc k) = c.into
changed d (suc n) e g c = record { ends = ends; flows = flows; medium = medium-later (end_of d.first d.second) (end_of d.first e) d.medium (later-second d.first d.second e c.later) g.medium }
  where
    ends : (x : ℕ) → IsEnd (end_of d.first e x)
    ends zero = g.ends zero
    ends (suc k) = c.is

    flows : (x : ℕ) → Flows (end_of d.first e x) (end_of d.first e (other x))
    flows zero = c.into
    flows (suc k) = c.out

-- an honest packet stands in the medium
pub with-packet : (d : DuoState) (p : Packet) → IsGood d → IsHonest (end_of d.first d.second) p → IsGood (record d { medium = d.medium ++ p ∷ [] })
with-packet d p g h = record { ends = g.ends; flows = g.flows; medium = all-push (IsHonest (end_of d.first d.second)) d.medium p g.medium h }
