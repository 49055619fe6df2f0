-- What is read was written so: by the law, since it is what the body says.
use Rattle.std.proofs.Common.{◌≡◌, ◌∙◌, sym, ap, ℕ, Bool, true, false, List, Result, Ok, Err, arith, if◌then◌else◌}
use Rattle.gm_defs.specs.declared.frame.FrameHead.{FrameHead}
use Rattle.gm_defs.specs.declared.frame.Ack.{Ack}
use Rattle.gm_defs.specs.declared.frame.GmBody.{GmBody}
use Rattle.gm_defs.specs.declared.frame.GmBody.TheVariants.{Frame, Ack as Acknowledges}
use Rattle.gm_defs.specs.declared.frame.Malformed.{Malformed}
use Rattle.gm_defs.specs.Body.{head_in, ack_in, is_frame, is_ack, decode}
use Rattle.gm_frame.proofs.reading.decode.Goals as goal

abbrev choice : Bool → Bool → FrameHead → Ack → Result GmBody Malformed
choice frame ack h a = if frame then Ok (Frame h) else if ack then Ok (Acknowledges a) else Err (record {})

frame-read : (body : List ℕ) (h : FrameHead) → is_frame body ≡ true → h ≡ head_in body → decode body ≡ Ok (Frame h)
frame-read body h t e = (λ i. choice (t i) (is_ack body) (head_in body) (ack_in body)) ∙ ap (λ x. Ok (Frame x)) (sym e)

ack-read : (body : List ℕ) (a : Ack) → is_frame body ≡ false → is_ack body ≡ true → a ≡ ack_in body → decode body ≡ Ok (Acknowledges a)
ack-read body a f t e = (λ i. choice (f i) (t i) (head_in body) (ack_in body)) ∙ ap (λ x. Ok (Acknowledges x)) (sym e)

pub returns-then-is_frame-clause-written : goal.returns-then-is_frame-clause-written
returns-then-is_frame-clause-written c =
    let read = frame-read c.args.b.now c.head_in.result (sym c.is_frame.ensures ∙ c.if-is_frame.true) c.head_in.ensures in
    c.bodies_were_written.ensures.frame c.args.b.now c.head_in.result (λ i. omega (arith, c.type_inv.b i)) read

pub returns-then-is_ack-clause-written : goal.returns-then-is_ack-clause-written
returns-then-is_ack-clause-written c =
    let read = ack-read c.args.b.now c.ack_in.result (sym c.is_frame.ensures ∙ c.if-is_frame.false) (sym c.is_ack.ensures ∙ c.if-is_ack.true) c.ack_in.ensures in
    c.bodies_were_written.ensures.acknowledgement c.args.b.now c.ack_in.result (λ i. omega (arith, c.type_inv.b i)) read
