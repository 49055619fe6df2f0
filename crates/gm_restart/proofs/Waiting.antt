-- The sends that wait at an end: so many of them come back, and the frame that is due is of the message of its number.
use Rattle.std.proofs.Common.{◌≡◌, ◌≤◌, ℕ, zero, suc, List, [], ◌∷◌, length, take, Option, Some, None, option_map, refl, sym, ap, ◌∙◌, arith}
use Rattle.std.specs.Prelude.{slice_get, option_and_then}
use Rattle.std.proofs.lemmas.Option.{same_Some, none-some}
use Rattle.gm_defs.specs.declared.message.Message.{Message}
use Rattle.gm_defs.specs.declared.frame.FrameHead.{FrameHead}
use Rattle.gm_defs.specs.Fragment.{frame_of}
use Rattle.gm_defs.specs.Connection.{acknowledged, due}
use Rattle.gm_defs.specs.Token.{PortState}
use Rattle.gm_defs.specs.Body.{frame_bytes}
use Rattle.gm_defs.specs.Port.{finished}
use Rattle.world_defs.specs.Lane.{LaneState, Ticket, finished_by, lane_sent_one}
use Rattle.gm_conn.specs.Lane.{due_frame, head_of_frame}
use Rattle.duo_defs.specs.declared.packet.Packet.{Packet}
use Rattle.duo_defs.specs.Duo.{EndState, with_lane}
use Rattle.duo_defs.specs.Emitting.{sends_on, data_of, frame_emission, due_frame as due_at}
use Rattle.duo_defs.specs.Theorem.{AreWaiting, IsWaiting}
use Rattle.duo_laws.proofs.Bodies.{framed, frame-short, whole-short}

-- the first of those that wait
pub front-waits : (p : PortState) (ts : List Ticket) (n : ℕ) → AreWaiting p ts → AreWaiting p (take n ts)
front-waits p ts zero w = tt
front-waits p [] (suc n) w = tt
front-waits p (t ∷ ts) (suc n) w = (w.0, front-waits (finished p t.token) ts n w.1)

-- an acknowledgement finishes no more than wait
pub finished-few : (p : PortState) (l : LaneState) (next : ℕ) → IsWaiting p l → finished_by l next ≤ length l.pending
finished-few p l next w =
    let a = whole-short l.sent (acknowledged l.sender next).base w.short in
    let b = whole-short l.sent l.sender.base w.short in
    let n = w.numbered in
    let u = w.unfinished in
    omega (arith, a, b, n, u)

-- What is known of the frame that is due at an end.
pub record IsDueFrame (host : ℕ) (l : LaneState) (h : FrameHead) : Type 0 where
  pub message : Message
  pub there : slice_get l.sent h.seq ≡ Some message
  pub long : length message.body ≡ h.len
  pub frame : due_frame (record { key = sends_on host; state = l }) ≡ Some (h, message.body)

pub due-is : (p : PortState) (host : ℕ) (l : LaneState) (h : FrameHead) → IsWaiting p l → Some h ≡ option_map head_of_frame (due_frame (record { key = sends_on host; state = l })) → IsDueFrame host l h
due-is p host l h w e = by (due l.sender) refl
  where
    of : ℕ → Option (FrameHead × List ℕ)
    of n = frame_of (sends_on host) l.sent n

    by : (o : Option ℕ) → due l.sender ≡ o → IsDueFrame host l h
    by None f = absurd (none-some h (sym (e ∙ ap (λ o. option_map head_of_frame (option_and_then of o)) f)))
    by (Some n) f = there (slice_get l.sent n) refl
      where
        framed-so : (o : Option Message) → slice_get l.sent n ≡ o → due_frame (record { key = sends_on host; state = l }) ≡ option_map (framed host n) o
        framed-so o g = ap (option_and_then of) f ∙ (frame-short host n l.sent w.short ∙ ap (option_map (framed host n)) g)

        there : (o : Option Message) → slice_get l.sent n ≡ o → IsDueFrame host l h
        there None g = absurd (none-some h (sym (e ∙ ap (option_map head_of_frame) (framed-so None g))))
        there (Some m) g =
            let same : h ≡ (framed host n m).0 = same_Some h (framed host n m).0 (e ∙ ap (option_map head_of_frame) (framed-so (Some m) g)) in
            record {
              message = m;
              there = ap (λ (k : FrameHead). slice_get l.sent k.seq) same ∙ g;
              long = ap (λ (k : FrameHead). k.len) (sym same);
              frame = framed-so (Some m) g ∙ ap (λ (k : FrameHead). Some (k, m.body)) (sym same);
            }

-- an end that emits the bytes of the frame that is due
pub frame-emitted : (host : ℕ) (e later : EndState) (h : FrameHead) (packet : Packet) (bytes : List ℕ) (d : IsDueFrame host e.present.lane h) → bytes ≡ frame_bytes h d.message.body → packet ≡ data_of host e bytes
    → later ≡ with_lane e (lane_sent_one e.present.lane) → option_map (frame_emission host e) (due_at host e) ≡ Some (packet, later)
frame-emitted host e later h packet bytes d written made after =
    let p : data_of host e (frame_bytes h d.message.body) ≡ packet = sym (made ∙ ap (data_of host e) written) in
    let q : with_lane e (lane_sent_one e.present.lane) ≡ later = sym after in
    let r : ◌≡◌ {A = Option (Packet × EndState)} (Some (data_of host e (frame_bytes h d.message.body), with_lane e (lane_sent_one e.present.lane))) (Some (packet, later)) = λ i. Some (p i, q i) in
    ap (option_map (frame_emission host e)) d.frame ∙ r
