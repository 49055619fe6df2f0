-- What a client's calls do, by whether it holds a token.
use Rattle.std.proofs.Common.{◌≡◌, ◌≤◌, ◌+◌, ◌%◌, ℕ, Bool, true, false, List, [], length, take, Option, Some, None, refl, sym, ap, ◌∙◌, subst, arith, if◌then◌else◌}
use Rattle.std.specs.Prelude.{drop, slice_get, nat_lt, reverse}
use Rattle.std.specs.List.{range_with_len}
use Rattle.std.proofs.lemmas.List.{length-map, take_all}
use Rattle.std.proofs.lemmas.List.FromFn.{length-range_with_len}
use Rattle.std.proofs.lemmas.Bool.Decides.{nat_tests}
use Rattle.std.proofs.lemmas.Option.{same_Some, none-some}
use Rattle.gm_defs.specs.Body.{piece, message_limit}
use Rattle.gm_defs.specs.Fragment.{piece_count}
use Rattle.gm_defs.specs.Connection.{is_spent}
use Rattle.gm_defs.specs.Token.{PortState}
use Rattle.gm_defs.specs.Port.{sent_with}
use Rattle.gm_port.specs.Refusal.{send_refusal as port_refusal}
use Rattle.world_defs.specs.Client.{ClientState, client_bytes}
use Rattle.duo_defs.specs.declared.effect.DuoCause.{DuoCause}
use Rattle.duo_defs.specs.declared.effect.DuoCause.TheVariants.{TooLong, Spent}
use Rattle.world_defs.specs.Lane.{LaneState, Ticket, with_message}
use Rattle.gm_conn.specs.Lane.{HostLane, in_state as lane_in}
use Rattle.port_client.specs.Serving.{ServedPort, send_used}
use Rattle.duo_defs.specs.Duo.{Period, Returned, EndState, plain_message}
use Rattle.duo_defs.specs.Step.{accepted}
use Rattle.gm_restart.specs.Calls.{send_refusal}
use Rattle.gm_restart.specs.End.{HostEnd, period_of, end_of, in_state}

-- ---- a message

pub bytes-counted : (len seed : ℕ) → length (client_bytes len seed) ≡ len
bytes-counted len seed = length-map (range_with_len 0 len) (λ i. (seed + i) % 256) ∙ length-range_with_len 0 len

pub bytes-all : (len seed : ℕ) → take len (client_bytes len seed) ≡ client_bytes len seed
bytes-all len seed = take_all len (client_bytes len seed) (let l = bytes-counted len seed in omega (arith, l))

-- a message that isn't refused is no longer than a piece, so that the port takes it from a buffer that has its bytes
short-so : (e : EndState) (len : ℕ) → send_refusal e len ≡ None → nat_lt piece len ≡ false
short-so e len right = by (nat_lt piece len) (is_spent e.present.lane.sender (piece_count len)) refl right
  where
    by : (a b : Bool) → nat_lt piece len ≡ a → ◌≡◌ {A = Option DuoCause} (if a then Some TooLong else if b then Some Spent else None) None → nat_lt piece len ≡ false
    by true b e r = absurd (none-some TooLong (sym r))
    by false b e r = e

pub taken-so : (e : EndState) (len : ℕ) (buffer : List ℕ) → send_refusal e len ≡ None → length buffer ≡ len → port_refusal len buffer ≡ None
taken-so e len buffer right long =
    let low = short-so e len right in
    let short : len ≤ piece = grind (arith, nat_tests) in
    let a : nat_lt message_limit len ≡ false = grind (arith, nat_tests) in
    let b : nat_lt (length buffer) len ≡ false = grind (arith, nat_tests) in
    rw a (rw b refl)

-- an end whose lane has the message and whose port has the buffer has accepted it
pub accepted-so : (host inc known : ℕ) (lane after : HostLane) (past : List Period) (owes : Bool) (returned : List Returned) (held later : ServedPort) (token number len seed : ℕ) (bytes buffer : List ℕ)
    → bytes ≡ client_bytes len seed → buffer ≡ client_bytes len seed
    → after ≡ lane_in lane (with_message lane.state (plain_message (take len bytes)) (record { port = 0; token = token }))
    → slice_get held.held.sends 0 ≡ Some token → slice_get held.held.sends 0 ≡ Some number
    → later.state ≡ sent_with held.state number buffer → later.held ≡ send_used held.held
    → (e : HostEnd) → end_of host inc known lane past owes returned held ≡ e
    → end_of host inc known after past owes returned later ≡ in_state e (accepted e.state token (drop 1 e.state.client.sends) (client_bytes len seed))
accepted-so host inc known lane after past owes returned held later token number len seed bytes buffer made kept laned first taken port client e is =
    let text : List ℕ = client_bytes len seed in
    let ticket : Ticket = record { port = 0; token = token } in
    let same : number ≡ token = same_Some number token (sym taken ∙ first) in
    let all : take len bytes ≡ text = ap (take len) made ∙ bytes-all len seed in
    let a : after.state ≡ with_message lane.state (plain_message text) ticket =
    ap (λ (l : HostLane). l.state) laned ∙ ap (λ (b : List ℕ). with_message lane.state (plain_message b) ticket) all in
    let b : later.state ≡ sent_with held.state token text =
    port ∙ (ap (λ (k : ℕ). sent_with held.state k buffer) same ∙ ap (λ (l : List ℕ). sent_with held.state token l) kept) in
    let parts : LaneState → PortState → ClientState → HostEnd =
    λ l p k. record { host = host; state = record { present = period_of inc known l; past = reverse past; owes_hello = owes; returned = returned; port = p; client = k } } in
    let first_end : HostEnd = end_of host inc known lane past owes returned held in
    let whole : end_of host inc known after past owes returned later ≡ in_state first_end (accepted first_end.state token (drop 1 first_end.state.client.sends) text) =
    λ i. parts (a i) (b i) (client i) in
    subst (λ (x : HostEnd). end_of host inc known after past owes returned later ≡ in_state x (accepted x.state token (drop 1 x.state.client.sends) text)) is whole

-- ---- a buffer
