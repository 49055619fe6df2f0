-- What a host's hearing makes of it: nothing of its connections and ports, or what a frame makes of them, or what an acknowledgement does.
use Rattle.std.proofs.Common.{◌≡◌, ◌<◌, ℕ, List, Ok, refl}
use Rattle.packet_defs.specs.declared.kind.Kind.TheVariants.{Gm}
use Rattle.packet_defs.specs.Host.{decode as decode_packet}
use Rattle.gm_defs.specs.declared.frame.FrameHead.{FrameHead}
use Rattle.gm_defs.specs.declared.frame.Ack.{Ack}
use Rattle.gm_defs.specs.declared.frame.GmBody.TheVariants.{Frame, Ack as Acknowledges}
use Rattle.gm_defs.specs.Body.{decode, part_in}
use Rattle.world_defs.specs.declared.arrival.Arrival.{Arrival}
use Rattle.world_defs.specs.Node.{NodeState}
use Rattle.world_defs.specs.Hearing.{frame_heard, frame_took, ack_heard, hear}
use Rattle.world_defs.proofs.Hearings.{Hearing, hearing}

-- what a host, one of so many, is once it heard the bytes of a packet
pub data IsHeard (host hosts : ℕ) (n : NodeState) (wire : List ℕ) (m : NodeState) : Type 0 where
  quietly : m.lanes ≡ n.lanes → m.ports ≡ n.ports → IsHeard host hosts n wire m
  of_frame : (body : List ℕ) (h : FrameHead) → decode_packet wire ≡ Ok (Gm, body) → decode body ≡ Ok (Frame h) → h.dst ≡ host → h.src < hosts → m ≡ (frame_heard n h (part_in body) (frame_took n h)).1 → IsHeard host hosts n wire m
  of_ack : (body : List ℕ) (a : Ack) → decode_packet wire ≡ Ok (Gm, body) → decode body ≡ Ok (Acknowledges a) → a.dst ≡ host → a.src < hosts → m ≡ ack_heard n a → IsHeard host hosts n wire m

pub hear-is : (host hosts : ℕ) (n : NodeState) (wire : List ℕ) → IsHeard host hosts n wire (hear host hosts n wire).1
hear-is host hosts n wire = by (hearing host hosts n wire)
  where
    by : {r : Arrival × NodeState} → Hearing host hosts n wire r → IsHeard host hosts n wire r.1
    by (Hearing.stays a) = quietly refl refl
    by (Hearing.probe body number mapper back e d) = quietly refl refl
    by (Hearing.part body p e d mine) = quietly refl refl
    by (Hearing.frame body h e d mine from) = of_frame body h e d mine from refl
    by (Hearing.ack body a e d mine from) = of_ack body a e d mine from refl
