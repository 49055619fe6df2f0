-- The frame of a fragment and the acknowledgement of a number are read as what they are.
use Rattle.std.proofs.Common.{◌≡◌, ◌<◌, ◌≤◌, ◌-◌, ◌^◌, ℕ, Bool, true, false, ◌&&◌, List, [], length, min, nat_eq, nat_lt, nat_le, Ok, Err, refl, ap, ◌∙◌, arith, if◌then◌else◌}
use Rattle.std.proofs.lemmas.Bool.Decides.{nat_tests}
use Rattle.packet_defs.specs.declared.kind.Kind.TheVariants.{Gm}
use Rattle.packet_defs.specs.Packet.{packet_of}
use Rattle.packet_defs.proofs.Hosts.{decode-packet_of}
use Rattle.gm_defs.specs.declared.frame.FrameHead.{FrameHead}
use Rattle.gm_defs.specs.declared.frame.Ack.{Ack}
use Rattle.gm_defs.specs.declared.frame.ConnectionKey.{ConnectionKey}
use Rattle.gm_defs.specs.declared.frame.GmBody.{GmBody}
use Rattle.gm_defs.specs.declared.frame.GmBody.TheVariants.{Frame, Ack as Acknowledges}
use Rattle.gm_defs.specs.Body.{piece, message_limit, number_limit, is_prio, frame_length, head_in, ack_in, part_in, begins_with, is_offset, is_head, is_frame, is_ack, frame_bytes, ack_bytes, decode}
use Rattle.gm_defs.specs.Fragment.{Fragment, head_of}
use Rattle.gm_defs.proofs.Numbers.{offset-within}
use Rattle.gm_defs.proofs.Bodies.{head-read, ack-read}
use Rattle.world_defs.specs.declared.heard.Heard.{Heard}
use Rattle.world_defs.specs.Node.{NodeState}
use Rattle.world_defs.specs.Hearing.{is_host, heard_if, frame_heard, frame_took, ack_heard, messages_read, hear_body, hear}
use Rattle.world_defs.proofs.Hearings.{heard-as}

-- what makes a fragment's frame one by the rules
pub record IsByRules (c : ConnectionKey) (seq : ℕ) (f : Fragment) : Type 0 where
  pub src_fits : c.src < 2 ^ 16
  pub dst_fits : c.dst < 2 ^ 16
  pub seq_fits : seq < number_limit
  pub from_port : f.message.sport < 8
  pub to_port : f.message.dport < 8
  pub priority : f.message.prio < 2
  pub short : length f.message.body ≤ message_limit
  pub begins : is_offset (length f.message.body) f.offset ≡ true
  pub long : length f.part ≡ min piece (length f.message.body - f.offset)

and4 : (a b c d : Bool) → a ≡ true → b ≡ true → c ≡ true → d ≡ true → (a && b && c && d) ≡ true
and4 a b c d e f g h = rw (e, f, g, h) refl

and7 : (a b c d e f g : Bool) → a ≡ true → b ≡ true → c ≡ true → d ≡ true → e ≡ true → f ≡ true → g ≡ true → (a && b && c && d && e && f && g) ≡ true
and7 a b c d e f g p q r s t u v = rw (p, q, r, s, t, u, v) refl

head-rules : (c : ConnectionKey) (seq : ℕ) (f : Fragment) → IsByRules c seq f → is_head (head_of c seq f) ≡ true
head-rules c seq f is =
    let a = is.from_port in
    let b = is.to_port in
    let p = is.priority in
    let d = is.seq_fits in
    let e = is.short in
    and7 (nat_lt f.message.sport 8) (nat_lt f.message.dport 8) (nat_lt f.message.prio 2) (nat_lt seq number_limit) (nat_le (length f.message.body) message_limit) (is_offset (length f.message.body) f.offset) (nat_eq (length f.part) (min piece (length f.message.body - f.offset)))
    (grind (arith, nat_tests)) (grind (arith, nat_tests)) (grind (arith, nat_tests)) (grind (arith, nat_tests)) (grind (arith, nat_tests)) is.begins (equal (length f.part) (min piece (length f.message.body - f.offset)) is.long)
  where
    equal : (x y : ℕ) → x ≡ y → nat_eq x y ≡ true
    equal x y e = grind (arith, nat_tests)

long-enough : (h : FrameHead) (part : List ℕ) → nat_le frame_length (length (frame_bytes h part)) ≡ true
long-enough h part = let some : frame_length ≤ length (frame_bytes h part) = omega arith in grind (arith, nat_tests)

pub frame-read : (c : ConnectionKey) (seq : ℕ) (f : Fragment) → IsByRules c seq f → decode (frame_bytes (head_of c seq f) f.part) ≡ Ok (Frame (head_of c seq f))
frame-read c seq f is =
    let h : FrameHead = head_of c seq f in
    let body : List ℕ = frame_bytes h f.part in
    let low = is.seq_fits in
    let short = is.short in
    let inside = offset-within (length f.message.body) f.offset is.begins in
    let long = is.long in
    let read : head_in body ≡ h = head-read h f.part (record { src = is.src_fits; dst = is.dst_fits; seq = omega (arith, low); total = omega (arith, short); offset = omega (arith, short, inside); len = omega (arith, long) }) in
    let rules : is_head (head_in body) ≡ true = ap is_head read ∙ head-rules c seq f is in
    let len : nat_eq (length f.part) (head_in body).len ≡ true = ap (λ (x : FrameHead). nat_eq (length f.part) x.len) read ∙ same (length f.part) in
    let frame : is_frame body ≡ true = and4 (nat_le frame_length (length body)) (begins_with 1 body) (is_head (head_in body)) (nat_eq (length (part_in body)) (head_in body).len) (long-enough h f.part) refl rules len in
    ap (λ b. if b then Ok (Frame (head_in body)) else if is_ack body then Ok (Acknowledges (ack_in body)) else Err (record {})) frame ∙ ap (λ (x : FrameHead). Ok (Frame x)) read
  where
    same : (x : ℕ) → nat_eq x x ≡ true
    same x = grind (arith, nat_tests)

-- what a host hears of them
heard-so : (b : Bool) (n : NodeState) (r : Heard × NodeState) → b ≡ true → (heard_if b n r).1 ≡ r.1
heard-so true n (heard, after) e = refl
heard-so false n (heard, after) e = cc

mine : (dst src host hosts : ℕ) → dst ≡ host → src < hosts → (nat_eq dst host && is_host hosts src) ≡ true
mine dst src host hosts e low =
    let a : nat_eq dst host ≡ true = grind (arith, nat_tests) in
    let b : nat_lt src hosts ≡ true = grind (arith, nat_tests) in
    rw (a, b) refl

heard-body : (host hosts : ℕ) (n : NodeState) (payload : List ℕ) (b : GmBody) → decode payload ≡ Ok b → (hear host hosts n (packet_of [] Gm payload)).1 ≡ (hear_body host hosts n (messages_read payload (Ok b))).1
heard-body host hosts n payload b e =
    ap (λ r. r.1) (heard-as host hosts n (packet_of [] Gm payload) (Ok (Gm, payload)) (decode-packet_of Gm payload)) ∙ ap (λ r. (hear_body host hosts n (messages_read payload r)).1) e

pub frame-heard : (hosts : ℕ) (c : ConnectionKey) (seq : ℕ) (n : NodeState) (f : Fragment) → IsByRules c seq f → c.src < hosts
    → (hear c.dst hosts n (packet_of [] Gm (frame_bytes (head_of c seq f) f.part))).1 ≡ (frame_heard n (head_of c seq f) f.part (frame_took n (head_of c seq f))).1
frame-heard hosts c seq n f is low =
    let h : FrameHead = head_of c seq f in
    heard-body c.dst hosts n (frame_bytes h f.part) (Frame h) (frame-read c seq f is)
    ∙ heard-so (nat_eq c.dst c.dst && is_host hosts c.src) n (frame_heard n h f.part (frame_took n h)) (mine c.dst c.src c.dst hosts refl low)

pub ack-heard : (host hosts : ℕ) (n : NodeState) (a : Ack) → a.src < 2 ^ 16 → a.dst < 2 ^ 16 → is_prio a.prio ≡ true → a.next < 2 ^ 32 → a.dst ≡ host → a.src < hosts → (hear host hosts n (packet_of [] Gm (ack_bytes a))).1 ≡ ack_heard n a
ack-heard host hosts n a s d p q e low =
    heard-body host hosts n (ack_bytes a) (Acknowledges a) (ack-read a s d p q)
    ∙ heard-so (nat_eq a.dst host && is_host hosts a.src) n (Heard.Ack, ack_heard n a) (mine a.dst a.src host hosts e low)
