-- What stands in provided buffers, after every list of acts.
use Rattle.std.specs.Prelude.{◌≡◌, ℕ, true, ◌++◌, map, length, drop, Option, Some, None, IfSome}
use Rattle.std.specs.List.{AllByRecursion}
use Rattle.net_defs.specs.Network.{Network}
use Rattle.gm_defs.specs.declared.token.Filling.{Filling}
use Rattle.gm_defs.specs.Token.{room, fits, Provided, PortState}
use Rattle.world_defs.specs.declared.event.Event.{Event}
use Rattle.world_defs.specs.declared.event.Event.TheVariants.{Close}
use Rattle.world_defs.specs.declared.effect.Effect.{Effect}
use Rattle.world_defs.specs.declared.effect.Effect.TheVariants.{Said}
use Rattle.world_defs.specs.declared.effect.Said.TheVariants.{Count}
use Rattle.world_defs.specs.Node.{port_at}
use Rattle.world_defs.specs.Client.{ClientState, empty_buffer}
use Rattle.world_defs.specs.World.{WorldState, node_at, client_at}
use Rattle.world_defs.specs.Sound.{IsEachOnce}
use Rattle.world_defs.specs.Step.{step}
use Rattle.world_defs.specs.Acts.{IsReached}

-- how many bytes of a message a token holds
abbrev pub held_in : Option Filling → ℕ
held_in None = 0
held_in (Some f) = f.held

-- A provided buffer is as its client provided it, zero bytes, as many as its size has room for, but for the bytes of a
-- message that it holds in front; and such a message fits the token.
pub record IsUntouched (r : Provided) : Type 0 where
  pub long : length r.buffer ≡ room r.size
  pub others : drop (held_in r.filling) r.buffer ≡ drop (held_in r.filling) (empty_buffer r.size)
  pub fitting : IfSome r.filling (λ f. fits r.size r.prio f.total r.prio ≡ true)

-- each provided buffer of an open port is untouched, where it holds nothing of a message
abbrev pub ProvidedBuffersAreUntouched : Type 0
ProvidedBuffersAreUntouched =
    (n : Network) (w : WorldState) → IsReached n w → (h port : ℕ) (p : PortState)
    → port_at (node_at w h) port ≡ Some p → AllByRecursion IsUntouched p.provided

-- A provided buffer is as it was provided: it holds nothing of a message, and has zero bytes, as many as its size has
-- room for.
pub record IsAsProvided (r : Provided) : Type 0 where
  pub holds_none : r.filling ≡ None
  pub zeros : r.buffer ≡ empty_buffer r.size

-- What a close hands back: the provided tokens of an open port, as many as it says, each with its buffer as it was
-- provided. With those that the client holds they are each receive token of the port, once, and the client holds each
-- send token, once: none is left with a send or in an event.
pub record HandsBackAll (w : WorldState) (h port count : ℕ) : Type 0 where
  pub port_state : PortState
  pub was_open : port_at (node_at w h) port ≡ Some port_state
  pub client : ClientState
  pub was_held : client_at w h port ≡ Some client
  pub as_many : length port_state.provided ≡ count
  pub untouched : AllByRecursion IsAsProvided port_state.provided
  pub recvs : IsEachOnce port_state.recvs (client.recvs ++ map (λ r. r.token) port_state.provided)
  pub sends : IsEachOnce port_state.sends client.sends

-- what an event hands back, by its effect: a close that says how many buffers it does, the tokens with these buffers
abbrev pub HandsBackBy : WorldState → Event → Effect → Type 0
HandsBackBy w (Close h port) (Said (Count count)) = HandsBackAll w h port count
HandsBackBy w _ _ = Unit {0}

-- each event of a reached world does so
abbrev pub ClosedBuffersAreUntouched : Type 0
ClosedBuffersAreUntouched = (n : Network) (w : WorldState) → IsReached n w → (e : Event) → HandsBackBy w e (step w e).0
