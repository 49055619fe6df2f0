-- What a report's lines `received` show, against the commands `send` whose lines have a token.
use Rattle.std.specs.Prelude.{◌≡◌, ℕ, ◌<◌, Bool, true, false, ◌&&◌, List, [], ◌∷◌, ◌++◌, map, length, nat_eq}
use Rattle.std.specs.Prelude.{if◌then◌else◌}
use Rattle.std.specs.List.{AllByRecursion, filter}
use Rattle.net_defs.specs.Network.{Network, IsFabric}
use Rattle.gm_defs.specs.declared.message.Message.{Message}
use Rattle.gm_defs.specs.declared.frame.ConnectionKey.{ConnectionKey}
use Rattle.gm_defs.specs.Body.{prio_limit}
use Rattle.world_defs.specs.declared.effect.Effect.TheVariants.{Said as Says}
use Rattle.world_defs.specs.declared.effect.Said.{Said}
use Rattle.world_defs.specs.Node.{port_at}
use Rattle.world_defs.specs.Client.{wanted_message}
use Rattle.world_defs.specs.World.{WorldState, node_at}
use Rattle.world_defs.specs.Sound.{IsPrefix}
use Rattle.world_defs.specs.Step.{wanted}
use Rattle.world_defs.specs.Traffic.{sent_on, got_on}
use Rattle.run_defs.specs.declared.command.Command.{Command}
use Rattle.run_defs.specs.declared.command.Command.TheVariants.{Send}
use Rattle.run_defs.specs.declared.line.ClientCall.TheVariants.{Send as SendCall, Poll as PollCall}
use Rattle.run_defs.specs.declared.line.Line.{Line}
use Rattle.run_defs.specs.declared.line.Line.TheVariants.{Client}
use Rattle.run_defs.specs.Output.{Piece, OneLine, MapLines}
use Rattle.run_defs.specs.Session.{SessionState}
use Rattle.run_defs.specs.Run.{IsRun}
use Rattle.run_laws.specs.Acts.{IsActOf}
use Rattle.client_laws.specs.Handed.{Handed, in_answer, waiting_in, IsOfConnection, is_on, is_to, as_handed}
use Rattle.client_laws.specs.Handed.{in_send, is_sent_on}

-- the message that a line shows, where it is a line `received` of this port of a host
abbrev pub received_in_line : ℕ → ℕ → Line → List Handed
received_in_line h port (Client PollCall i p said) = if nat_eq i h && nat_eq p port then in_answer said else []
received_in_line h port _ = []

-- the messages that the lines `received` of a host's port show, in order
abbrev pub received_in : ℕ → ℕ → List Piece → List Handed
received_in h port [] = []
received_in h port (OneLine l ∷ out) = received_in_line h port l ++ received_in h port out
received_in h port (MapLines m ∷ out) = received_in h port out

-- what a line says, where it is a line of a `send`
abbrev pub send_answer : Line → List Said
send_answer (Client SendCall h port said) = said ∷ []
send_answer _ = []

-- what the lines of sends say, in order
abbrev pub send_answers : List Piece → List Said
send_answers [] = []
send_answers (OneLine l ∷ out) = send_answer l ++ send_answers out
send_answers (MapLines m ∷ out) = send_answers out

-- a command is a `send`
abbrev pub is_send : Command → Bool
is_send (Send h port dest dport prio len seed) = true
is_send _ = false

-- the message that a `send` hands in on a connection, where its line says so: the line has a token
abbrev pub accepted_as : ConnectionKey → Command → Said → List Message
accepted_as c (Send h port dest dport prio len seed) said =
    if is_sent_on c h dest prio then in_send (wanted_message (wanted port dest dport prio len seed)) (Says said) else []
accepted_as c _ said = []

-- the messages that commands `send` hand in on a connection, each by its own line
abbrev pub accepted_by_lines : ConnectionKey → List Command → List Said → List Message
accepted_by_lines c (s ∷ sends) (said ∷ answers) = accepted_as c s said ++ accepted_by_lines c sends answers
accepted_by_lines c _ _ = []

-- the messages that the commands `send` of a run handed in on a connection, in order: the first `send` by the first
-- line of a send, and so on
abbrev pub accepted_of : ConnectionKey → List Command → List Piece → List Message
accepted_of c commands out = accepted_by_lines c (filter is_send commands) (send_answers out)

-- What a run's lines show of messages. From one host and of one priority, the messages that the lines `received` of a
-- port show are, in order, the first of those that accepted sends handed in for this port: each once, none left out
-- before another, with its sending port and its bytes. Followed by those that wait at the port after the run they are
-- what was got there; and what accepted sends handed in is what was sent. Lines `received` show no other message, and
-- each `send` has one line.
pub record AreReceivedAsSent (n : Network) (commands : List Command) (out : List Piece) (after : WorldState)
    : Type 0 where
  pub front : (c : ConnectionKey) (port : ℕ) → c.prio < prio_limit
      → IsPrefix (filter (is_on c.src c.prio) (received_in c.dst port out))
      (map (as_handed c.src) (filter (is_to port) (accepted_of c commands out)))
  pub waits : (c : ConnectionKey) (port : ℕ) → c.prio < prio_limit
      → filter (is_on c.src c.prio) (received_in c.dst port out ++ waiting_in (port_at (node_at after c.dst) port))
      ≡ map (as_handed c.src) (filter (is_to port) (got_on after c))
  pub sent : (c : ConnectionKey) → accepted_of c commands out ≡ sent_on after c
  pub only : (h port : ℕ) → AllByRecursion (IsOfConnection (length n.hosts)) (received_in h port out)
  pub answered : length (send_answers out) ≡ length (filter is_send commands)

-- so it is after every run
abbrev pub RunsReceiveAsSent : Type 0
RunsReceiveAsSent =
    (n : Network) (commands : List Command) (out : List Piece) (last : SessionState) → IsFabric n
    → AllByRecursion (IsActOf n) commands → IsRun n commands out last → AreReceivedAsSent n commands out last.world
