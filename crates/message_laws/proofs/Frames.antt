-- A frame is read as what was written, and stays the fragment of its number while more is sent.
use Rattle.std.proofs.Common.{◌≡◌, ◌≤◌, ◌<◌, ◌^◌, ℕ, zero, suc, List, [], ◌∷◌, ◌++◌, length, Some, sym, ap, ◌∙◌, subst, arith, true≢false}
use Rattle.std.specs.Prelude.{slice_get, option_map}
use Rattle.std.specs.List.{AllByRecursion}
use Rattle.std.proofs.lemmas.Option.{slice_get_within}
use Rattle.packet_defs.specs.declared.kind.Kind.{Kind}
use Rattle.packet_defs.specs.declared.kind.Kind.TheVariants.{Mapping, Gm}
use Rattle.gm_defs.specs.declared.message.Message.{Message}
use Rattle.gm_defs.specs.declared.frame.FrameHead.{FrameHead}
use Rattle.gm_defs.specs.declared.frame.Ack.{Ack}
use Rattle.gm_defs.specs.declared.frame.ConnectionKey.{ConnectionKey}
use Rattle.gm_defs.specs.declared.frame.GmBody.TheVariants.{Frame}
use Rattle.gm_defs.specs.Body.{message_limit, number_limit, part_in, frame_bytes, ack_bytes}
use Rattle.gm_defs.specs.Fragment.{Fragment as FragmentOf, fragments, whole_below, head_of, frame_of, IsHonestFrame}
use Rattle.gm_defs.specs.Laws.{ComesNext}
use Rattle.gm_defs.specs.Connection.{key_of}
use Rattle.gm_defs.proofs.Choices.{map-some}
use Rattle.gm_defs.proofs.Numbers.{next-fragment, fragments-append, offset-within}
use Rattle.gm_defs.proofs.Bodies.{IsFitHead, read_frame, head-read}
use Rattle.world_defs.specs.Node.{prio_place, lane_of, peer_of, prio_of, sending_lane, sends_on}
use Rattle.world_defs.specs.Sound.{IsPrefix}
use Rattle.world_defs.proofs.Lanes.{lane_of-place}
use Rattle.message_laws.specs.Says.{SaysTrue}
use Rattle.message_laws.proofs.Lanes.{Carries, frame-fragment}

-- an element of a list of which all holds
pub at-place : {A : Type 0} (P : A → Type 0) (xs : List A) (i : ℕ) (x : A) → AllByRecursion P xs → slice_get xs i ≡ Some x → P x
at-place P [] i x all e = cc
at-place P (y ∷ xs) zero x all e = let same : y ≡ x = cc in subst P same all.0
at-place P (y ∷ xs) (suc i) x all e = at-place P xs i x all.1 e

-- what was sent on a connection, where each host has sent these by its lanes
abbrev pub on : (ℕ → ℕ → List Message) → ConnectionKey → List Message
on T c = T c.src (sending_lane c)

pub frame-says : (T : ℕ → ℕ → List Message) (host lane seq : ℕ) (f : FrameHead × List ℕ) → length (fragments (T host lane)) ≤ number_limit → AllByRecursion (λ m. length m.body ≤ message_limit) (T host lane) → AllByRecursion (λ m. prio_place m.prio ≡ prio_of lane) (T host lane) → host < 2 ^ 16 → peer_of lane < 2 ^ 16
    → frame_of (sends_on host lane) (T host lane) seq ≡ Some f → SaysTrue (on T) Gm (frame_bytes f.0 f.1)
frame-says T host lane seq f few short of_prio a b e =
    let c : Carries (sends_on host lane) (T host lane) seq f = frame-fragment (sends_on host lane) (T host lane) seq f e in
    let x : FragmentOf = c.fragment in
    let k : ComesNext (T host lane) seq x = next-fragment (T host lane) seq x c.there in
    let hd : FrameHead = head_of (sends_on host lane) seq x in
    let below = slice_get_within (fragments (T host lane)) seq x c.there in
    let place : ℕ = whole_below (T host lane) seq in
    let here : lane_of (peer_of lane) x.message.prio ≡ lane = lane_of-place lane x.message.prio (at-place (λ m. prio_place m.prio ≡ prio_of lane) (T host lane) place x.message of_prio k.there) in
    let low : length x.message.body ≤ message_limit = at-place (λ m. length m.body ≤ message_limit) (T host lane) place x.message short k.there in
    let begins = offset-within (length x.message.body) x.offset k.begins in
    let long = k.long in
    let fits : IsFitHead hd = record { src = a; dst = b; seq = omega (arith, below, few); total = omega (arith, low); offset = omega (arith, low, begins); len = omega (arith, long) } in
    let good : IsHonestFrame (on T) hd x.part = ap (λ k. frame_of (key_of (Frame hd)) (T host k) seq) here ∙ e ∙ ap Some c.is in
    subst (λ x. SaysTrue (on T) Gm (frame_bytes x.0 x.1)) {x = (hd, x.part)} {y = f} (sym c.is)
    (λ h d.
    let same : hd ≡ h = sym (head-read hd x.part fits) ∙ (read_frame (frame_bytes hd x.part) h d).1 in
    subst (λ g. IsHonestFrame (on T) g x.part) same good)

pub ack-says : (S : ConnectionKey → List Message) (a : Ack) → SaysTrue S Gm (ack_bytes a)
ack-says S a h e = absurd (true≢false (sym (read_frame (ack_bytes a) h e).0))

-- more is sent
pub get-front : {A : Type 0} (xs ys : List A) (i : ℕ) (x : A) → slice_get xs i ≡ Some x → slice_get (xs ++ ys) i ≡ Some x
get-front [] ys i x e = cc
get-front (z ∷ xs) ys zero x e = e
get-front (z ∷ xs) ys (suc i) x e = get-front xs ys i x e

frame-stays : (c : ConnectionKey) (seq : ℕ) (xs ys : List Message) (f : FrameHead × List ℕ) → IsPrefix xs ys → frame_of c xs seq ≡ Some f → frame_of c ys seq ≡ Some f
frame-stays c seq xs ys f front e =
    let m = map-some (λ f. (head_of c seq f, f.part)) (slice_get (fragments xs) seq) f e in
    ap (λ l. option_map (λ f. (head_of c seq f, f.part)) (slice_get l seq)) (ap fragments front.both ∙ fragments-append xs front.rest)
    ∙ ap (option_map (λ f. (head_of c seq f, f.part))) (get-front (fragments xs) (fragments front.rest) seq m.0 m.1.0)
    ∙ ap Some m.1.1

pub says-more : (S T : ConnectionKey → List Message) → ((c : ConnectionKey) → IsPrefix (S c) (T c)) → (k : Kind) (body : List ℕ) → SaysTrue S k body → SaysTrue T k body
says-more S T more Mapping body is = tt
says-more S T more Gm body is = λ h e. let c : ConnectionKey = key_of (Frame h) in frame-stays c h.seq (S c) (T c) (h, part_in body) (more c) (is h e)
