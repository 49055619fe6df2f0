-- The port of a client is open, and the token that its client takes from the front is in no place of it.
use Rattle.std.proofs.Common.{◌≡◌, ℕ, Option, Some, None, option_map, refl, subst}
use Rattle.std.specs.Prelude.{slice_get}
use Rattle.gm_defs.specs.Token.{PortState, place_of_send, place_of_recv}
use Rattle.gm_tokens.specs.Token.{Token, token_at}
use Rattle.port_client.specs.Held.{OpenClient}
use Rattle.port_client.proofs.Tokens.{taken-is, held-send, held-recv}
use Rattle.client_host.specs.Tied.{IsServing, IsTied}

-- a port with a client is open
pub record IsOpen (host hosts port : ℕ) (o : Option PortState) (c : OpenClient) : Type 0 where
  pub state : PortState
  pub is : o ≡ Some state
  pub serving : IsServing host hosts port state c

pub open-is : (host hosts port : ℕ) (o : Option PortState) (c : OpenClient) → IsTied host hosts port o (Some c) → IsOpen host hosts port o c
open-is host hosts port None c t = absurd t
open-is host hosts port (Some p) c t = record { state = p; is = refl; serving = t }

-- a token that its client took from the front is in no place of the port
pub free-recv : (host hosts port : ℕ) (o : Option PortState) (c : OpenClient) (t : Token) → IsTied host hosts port o (Some c) → option_map (token_at c.host c.port) (slice_get c.held.recvs 0) ≡ Some t
    → (x : PortState) → o ≡ Some x → place_of_recv x t.number ≡ None
free-recv host hosts port o c t tied e x is =
    let own : IsServing host hosts port x c = subst (λ y. IsTied host hosts port y (Some c)) is tied in
    (held-recv x c.held t.number (taken-is c.host c.port c.held.recvs t e).first own.owners).1

pub free-send : (host hosts port : ℕ) (o : Option PortState) (c : OpenClient) (t : Token) → IsTied host hosts port o (Some c) → option_map (token_at c.host c.port) (slice_get c.held.sends 0) ≡ Some t
    → (x : PortState) → o ≡ Some x → place_of_send x t.number ≡ None
free-send host hosts port o c t tied e x is =
    let own : IsServing host hosts port x c = subst (λ y. IsTied host hosts port y (Some c)) is tied in
    (held-send x c.held t.number (taken-is c.host c.port c.held.sends t e).first own.owners).1
