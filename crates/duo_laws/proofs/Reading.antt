-- What stands in the medium is read as what it is.
use Rattle.std.proofs.Common.{◌⊎◌, inl, inr, ℕ, List, length, ap, ◌∙◌}
use Rattle.gm_defs.specs.Body.{decode, part_in}
use Rattle.duo_defs.specs.declared.packet.Packet.TheVariants.{Data}
use Rattle.duo_defs.specs.Duo.{EndState, end_of}
use Rattle.duo_defs.specs.Theorem.{IsReadable, MediumIsReadable}
use Rattle.duo_laws.proofs.Lists.{all-at}
use Rattle.duo_laws.proofs.Bodies.{frame_head, answer, head-by_rules, last-short, frame-is_read, ack-is_read}
use Rattle.duo_laws.proofs.Ends.{IsBody, IsFrameBody, IsAckBody, IsHonest}
use Rattle.duo_laws.proofs.Order.{reached-good}

readable : (e : EndState) (x i j : ℕ) (body : List ℕ) → IsBody e x i j body → IsReadable body
readable e x i j body h = by h.says
  where
    by : IsFrameBody e x i j body ⊎ IsAckBody e x i j body → IsReadable body
    by (inl f) =
        let r = frame-is_read x f.number f.message h.side f.low f.short in
        IsReadable.frame (frame_head x f.number f.message) (ap decode f.bytes ∙ r.head) (head-by_rules x f.number f.message f.low f.short) (last-short f.message f.short)
        (ap length (ap part_in f.bytes ∙ r.part))
    by (inr f) = IsReadable.acknowledgement (answer x f.taken) (ap decode f.bytes ∙ ack-is_read x f.taken h.side f.low)

pub all-readable : MediumIsReadable
all-readable d r k src i j body e = readable (end_of d.first d.second src) src i j body (all-at (IsHonest (end_of d.first d.second)) d.medium k (Data src i j body) (reached-good d r).medium e)
