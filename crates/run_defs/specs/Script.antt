-- The lines of a script: the command that each says, or its first fault.
use Rattle.std.specs.Prelude.{ℕ, ◌+◌, ℤ, Bool, false, List, [], ◌∷◌, length, nat_eq, nat_lt, if◌then◌else◌, Option}
use Rattle.std.specs.Prelude.{Some, None, Result, Ok, Err, codes, bytes_eq}
use Rattle.std.specs.Option.{option_map_or}
use Rattle.net_defs.specs.declared.vertex.Vertex.{Vertex}
use Rattle.net_defs.specs.declared.vertex.Vertex.TheVariants.{Host, Switch}
use Rattle.net_defs.specs.declared.vertex.End.{End}
use Rattle.net_defs.specs.Network.{Network, ports_of}
use Rattle.net_defs.specs.Building.{vertex_named}
use Rattle.duo_defs.specs.declared.event.DuoEvent.{DuoEvent}
use Rattle.duo_defs.specs.declared.event.DuoEvent.TheVariants.{Send as DuoSend, Provide as DuoProvide, Emit, Deliver}
use Rattle.duo_defs.specs.declared.event.DuoEvent.TheVariants.{Expire as DuoExpire, Poll as DuoPoll, Restart}
use Rattle.fab_text.specs.declared.fault.FaultKind.{FaultKind}
use Rattle.fab_text.specs.declared.fault.FaultKind.TheVariants.{BadWord, TooLarge, NoVertex, PortRange, NoEnd, AfterEnd}
use Rattle.fab_text.specs.Word.{name_test, number_within, turn_of}
use Rattle.fab_text.specs.Line.{TextLine, lines_left, line_count, words_of, one_of}
use Rattle.fab_text.specs.Fault.{FirstFault, as_kind, at_line, and_then}
use Rattle.run_defs.specs.declared.command.Command.{Command}
use Rattle.run_defs.specs.declared.command.Command.TheVariants.{Walk, Map, Circuit, Routes, Install, Begin, Close}
use Rattle.run_defs.specs.declared.command.Command.TheVariants.{Poll, Tokens, Provide, Send, Plan, Step, Settle, Finish}
use Rattle.run_defs.specs.declared.command.Command.TheVariants.{Duo, Pull, Plug, Revoke, Broken}
use Rattle.run_defs.specs.declared.command.PlanKind.{PlanKind}
use Rattle.run_defs.specs.declared.command.PlanKind.TheVariants.{Lose as PlanLose, Repeat as PlanRepeat}
use Rattle.run_defs.specs.declared.command.PlanKind.TheVariants.{Hold as PlanHold, Flip as PlanFlip, Pull as PlanPull}
use Rattle.run_defs.specs.declared.command.StepLine.{StepLine}
use Rattle.run_defs.specs.declared.command.StepLine.TheVariants.{Inject, GiveUp, Advance, Lose, Repeat, Hold, Reset}
use Rattle.run_defs.specs.declared.command.StepLine.TheVariants.{Flip, Expire, Replay}

-- The form of a word: a name, or a number in a range.
pub data Form : Type 0 where
  OfName : Form
  OfNumber : (least most : ℕ) → Form

-- What a word says.
pub data Value : Type 0 where
  Name : List ℕ → Value
  Number : ℕ → Value

-- a number that was read, where it isn't below the least of its range
abbrev pub from_least : ℕ → ℕ → Result Value FaultKind
from_least least v = if nat_lt v least then Err TooLarge else Ok (Number v)

-- what a word of a form says; a number below its range is too large as well
abbrev pub value_of : Form → List ℕ → Result Value FaultKind
value_of OfName w = if name_test w then Ok (Name w) else Err BadWord
value_of (OfNumber least most) w = and_then (as_kind (number_within most w)) (from_least least)

-- what words of these forms say, or the first fault from left to right
abbrev pub values_of : List Form → List (List ℕ) → Result (List Value) FaultKind
values_of [] [] = Ok []
values_of (f ∷ fs) (w ∷ ws) = and_then (value_of f w) (λ v. and_then (values_of fs ws) (λ vs. Ok (v ∷ vs)))
values_of _ _ = Err BadWord

-- the number of the words comes before their forms
abbrev pub said_by : List Form → List (List ℕ) → Result (List Value) FaultKind
said_by forms words = if nat_eq (length forms) (length words) then values_of forms words else Err BadWord

-- A kind of line has the word that it begins with, the forms of its further words, and what their values mean over a
-- fabric.
pub record LineKind : Type 0 where
  pub word : List ℕ
  pub forms : List Form
  pub meaning : Network → List Value → Result Command FaultKind

-- the command of a line that begins with this word: that of the first kind with the word
abbrev pub command_by : Network → List LineKind → List ℕ → List (List ℕ) → Result Command FaultKind
command_by n [] first args = Err BadWord
command_by n (k ∷ ks) first args = if bytes_eq first k.word then and_then (said_by k.forms args) (k.meaning n)
    else command_by n ks first args

-- the address of a host
abbrev pub address_of : Option Vertex → Result ℕ FaultKind
address_of None = Err NoVertex
address_of (Some (Host h)) = Ok h
address_of (Some (Switch s)) = Err NoVertex

-- the command at the host of this name
abbrev pub at_host : Network → List ℕ → (ℕ → Command) → Result Command FaultKind
at_host n name command = and_then (address_of (vertex_named n name)) (λ h. Ok (command h))

-- the command at the hosts of these two names; the first name is looked up first
abbrev pub at_hosts : Network → List ℕ → List ℕ → (ℕ → ℕ → Command) → Result Command FaultKind
at_hosts n a b command = and_then (address_of (vertex_named n a)) (λ g. at_host n b (command g))

-- an end of the fabric: the vertex must be there, and then its port
abbrev pub end_at : Network → Option Vertex → ℕ → Result End FaultKind
end_at n None p = Err NoVertex
end_at n (Some v) p = if nat_lt p (ports_of n v) then Ok (record { v = v; p = p }) else Err PortRange

-- the command at the end of this vertex and port
abbrev pub at_end : Network → List ℕ → ℕ → (End → Command) → Result Command FaultKind
at_end n name p command = and_then (end_at n (vertex_named n name) p) (λ e. Ok (command e))

-- a port of a host: 0 to 7
abbrev pub of_port : Form
of_port = OfNumber 0 7

-- a port of a host or a switch: 0 to 15
abbrev pub of_switch_port : Form
of_switch_port = OfNumber 0 15

-- a number of tokens: 0 to 64
abbrev pub of_count : Form
of_count = OfNumber 0 64

-- a priority: 0 or 1
abbrev pub of_prio : Form
of_prio = OfNumber 0 1

-- a number of tries: 1 to 8
abbrev pub of_tries : Form
of_tries = OfNumber 1 8

-- how many injections ahead a fault is planned: 1 to 1,000,000,000
abbrev pub of_ahead : Form
of_ahead = OfNumber 1 1000000000

-- the first bit of a flip: 0 to 10,000
abbrev pub of_bit : Form
of_bit = OfNumber 0 10000

-- the eight bits of a flip: 1 to 255
abbrev pub of_pattern : Form
of_pattern = OfNumber 1 255

-- `map H DEPTH TRIES`
abbrev pub map_meant : Network → List Value → Result Command FaultKind
map_meant n (Name h ∷ Number depth ∷ Number tries ∷ []) = at_host n h (λ a. Map a depth tries)
map_meant n _ = Err BadWord

-- `circuit H DEPTH`
abbrev pub circuit_meant : Network → List Value → Result Command FaultKind
circuit_meant n (Name h ∷ Number depth ∷ []) = at_host n h (λ a. Circuit a depth)
circuit_meant n _ = Err BadWord

-- a line of one word, or of two: always this command
abbrev pub alone_meant : Command → Network → List Value → Result Command FaultKind
alone_meant command n values = Ok command

-- `install TRIES`
abbrev pub install_meant : Network → List Value → Result Command FaultKind
install_meant n (Number tries ∷ []) = Ok (Install tries)
install_meant n _ = Err BadWord

-- `open H PORT SENDS RECVS`
abbrev pub open_meant : Network → List Value → Result Command FaultKind
open_meant n (Name h ∷ Number port ∷ Number sends ∷ Number recvs ∷ []) = at_host n h (λ a. Begin a port sends recvs)
open_meant n _ = Err BadWord

-- `close H PORT`, `poll H PORT`, `tokens H PORT`
abbrev pub at_port_meant : (ℕ → ℕ → Command) → Network → List Value → Result Command FaultKind
at_port_meant command n (Name h ∷ Number port ∷ []) = at_host n h (λ a. command a port)
at_port_meant command n _ = Err BadWord

-- `provide H PORT SIZE PRIO`
abbrev pub provide_meant : Network → List Value → Result Command FaultKind
provide_meant n (Name h ∷ Number port ∷ Number size ∷ Number prio ∷ []) = at_host n h (λ a. Provide a port size prio)
provide_meant n _ = Err BadWord

-- `send H PORT B BPORT PRIO LEN SEED`
abbrev pub send_meant : Network → List Value → Result Command FaultKind
send_meant n (Name h ∷ Number port ∷ Name b ∷ Number dport ∷ Number prio ∷ Number len ∷ Number seed ∷ []) =
    at_hosts n h b (λ a dest. Send a port dest dport prio len seed)
send_meant n _ = Err BadWord

-- `plan lose N`, `plan repeat N`, `plan hold N`
abbrev pub plan_meant : PlanKind → Network → List Value → Result Command FaultKind
plan_meant kind n (Number ahead ∷ []) = Ok (Plan ahead kind)
plan_meant kind n _ = Err BadWord

-- `plan flip N BIT PATTERN`
abbrev pub plan_flip_meant : Network → List Value → Result Command FaultKind
plan_flip_meant n (Number ahead ∷ Number bit ∷ Number pattern ∷ []) = Ok (Plan ahead (PlanFlip bit pattern))
plan_flip_meant n _ = Err BadWord

-- `plan pull N V P`
abbrev pub plan_pull_meant : Network → List Value → Result Command FaultKind
plan_pull_meant n (Number ahead ∷ Name v ∷ Number p ∷ []) = at_end n v p (λ e. Plan ahead (PlanPull e))
plan_pull_meant n _ = Err BadWord

-- `pull V P`
abbrev pub pull_meant : Network → List Value → Result Command FaultKind
pull_meant n (Name v ∷ Number p ∷ []) = at_end n v p Pull
pull_meant n _ = Err BadWord

-- two ends of the fabric: both vertices must be there, and then both ports
abbrev pub two_ends_at : Network → Option Vertex → ℕ → Option Vertex → ℕ → (End → End → Command)
    → Result Command FaultKind
two_ends_at n (Some v) p (Some u) q command =
    and_then (end_at n (Some v) p) (λ a. and_then (end_at n (Some u) q) (λ b. Ok (command a b)))
two_ends_at n _ p _ q command = Err NoVertex

-- `plug V P W Q`
abbrev pub plug_meant : Network → List Value → Result Command FaultKind
plug_meant n (Name v ∷ Number p ∷ Name u ∷ Number q ∷ []) =
    two_ends_at n (vertex_named n v) p (vertex_named n u) q Plug
plug_meant n _ = Err BadWord

-- `step inject H`, `step giveup H`
abbrev pub host_step_meant : (ℕ → StepLine) → Network → List Value → Result Command FaultKind
host_step_meant line n (Name h ∷ []) = at_host n h (λ a. Step (line a))
host_step_meant line n _ = Err BadWord

-- `step advance V P`, and the like of `lose`, `repeat`, `hold`, `reset`: the channel that leaves by this end
abbrev pub end_step_meant : (End → StepLine) → Network → List Value → Result Command FaultKind
end_step_meant line n (Name v ∷ Number p ∷ []) = at_end n v p (λ e. Step (line e))
end_step_meant line n _ = Err BadWord

-- `step flip V P BIT PATTERN`
abbrev pub flip_step_meant : Network → List Value → Result Command FaultKind
flip_step_meant n (Name v ∷ Number p ∷ Number bit ∷ Number pattern ∷ []) = at_end n v p (λ e. Step (Flip e bit pattern))
flip_step_meant n _ = Err BadWord

-- `step expire H B`
abbrev pub expire_meant : Network → List Value → Result Command FaultKind
expire_meant n (Name h ∷ Name b ∷ []) = at_hosts n h b (λ a peer. Step (Expire a peer))
expire_meant n _ = Err BadWord

-- `step replay SERIAL`
abbrev pub replay_meant : Network → List Value → Result Command FaultKind
replay_meant n (Number serial ∷ []) = Ok (Step (Replay serial))
replay_meant n _ = Err BadWord

-- one of the two hosts that restart: 0 or 1
abbrev pub of_end : Form
of_end = OfNumber 0 1

-- `duo emit X`, `duo expire X`, `duo poll X`, `duo restart X`, `duo deliver K`
abbrev pub duo_meant : (ℕ → DuoEvent) → Network → List Value → Result Command FaultKind
duo_meant happens n (Number x ∷ []) = Ok (Duo (happens x))
duo_meant happens n _ = Err BadWord

-- `duo send X LEN SEED`
abbrev pub duo_send_meant : Network → List Value → Result Command FaultKind
duo_send_meant n (Number x ∷ Number len ∷ Number seed ∷ []) = Ok (Duo (DuoSend x len seed))
duo_send_meant n _ = Err BadWord

-- `duo provide X SIZE`
abbrev pub duo_provide_meant : Network → List Value → Result Command FaultKind
duo_provide_meant n (Number x ∷ Number size ∷ []) = Ok (Duo (DuoProvide x size))
duo_provide_meant n _ = Err BadWord

-- a kind of line by its three parts
abbrev pub kind : List ℕ → List Form → (Network → List Value → Result Command FaultKind) → LineKind
kind word forms meaning = record { word = word; forms = forms; meaning = meaning }

-- the lines that begin with one word: each row has the word, the forms of the words after it, and what it means
abbrev pub line_kinds : List LineKind
line_kinds =
    kind (codes "map") (OfName ∷ OfNumber 1 32 ∷ of_tries ∷ []) map_meant
    ∷ kind (codes "routes") [] (alone_meant Routes)
    ∷ kind (codes "install") (of_tries ∷ []) install_meant
    ∷ kind (codes "open") (OfName ∷ of_port ∷ of_count ∷ of_count ∷ []) open_meant
    ∷ kind (codes "close") (OfName ∷ of_port ∷ []) (at_port_meant Close)
    ∷ kind (codes "poll") (OfName ∷ of_port ∷ []) (at_port_meant Poll)
    ∷ kind (codes "tokens") (OfName ∷ of_port ∷ []) (at_port_meant Tokens)
    ∷ kind (codes "provide") (OfName ∷ of_port ∷ OfNumber 0 31 ∷ of_prio ∷ []) provide_meant
    ∷ kind (codes "send") (OfName ∷ of_port ∷ OfName ∷ of_port ∷ of_prio ∷ OfNumber 0 1000000 ∷ OfNumber 0 255
    ∷ []) send_meant
    ∷ kind (codes "settle") [] (alone_meant Settle)
    ∷ kind (codes "circuit") (OfName ∷ OfNumber 1 32 ∷ []) circuit_meant
    ∷ kind (codes "pull") (OfName ∷ of_switch_port ∷ []) pull_meant
    ∷ kind (codes "plug") (OfName ∷ of_switch_port ∷ OfName ∷ of_switch_port ∷ []) plug_meant
    ∷ kind (codes "revoke") [] (alone_meant Revoke)
    ∷ kind (codes "broken") [] (alone_meant Broken)
    ∷ []

-- the lines that begin with `plan` and one word more
abbrev pub plan_kinds : List LineKind
plan_kinds =
    kind (codes "lose") (of_ahead ∷ []) (plan_meant PlanLose)
    ∷ kind (codes "repeat") (of_ahead ∷ []) (plan_meant PlanRepeat)
    ∷ kind (codes "hold") (of_ahead ∷ []) (plan_meant PlanHold)
    ∷ kind (codes "flip") (of_ahead ∷ of_bit ∷ of_pattern ∷ []) plan_flip_meant
    ∷ kind (codes "pull") (of_ahead ∷ OfName ∷ of_switch_port ∷ []) plan_pull_meant
    ∷ []

-- the lines that begin with `step` and one word more
abbrev pub step_kinds : List LineKind
step_kinds =
    kind (codes "inject") (OfName ∷ []) (host_step_meant Inject)
    ∷ kind (codes "giveup") (OfName ∷ []) (host_step_meant GiveUp)
    ∷ kind (codes "advance") (OfName ∷ of_switch_port ∷ []) (end_step_meant Advance)
    ∷ kind (codes "lose") (OfName ∷ of_switch_port ∷ []) (end_step_meant Lose)
    ∷ kind (codes "repeat") (OfName ∷ of_switch_port ∷ []) (end_step_meant Repeat)
    ∷ kind (codes "hold") (OfName ∷ of_switch_port ∷ []) (end_step_meant Hold)
    ∷ kind (codes "reset") (OfName ∷ of_switch_port ∷ []) (end_step_meant Reset)
    ∷ kind (codes "flip") (OfName ∷ of_switch_port ∷ of_bit ∷ of_pattern ∷ []) flip_step_meant
    ∷ kind (codes "expire") (OfName ∷ OfName ∷ []) expire_meant
    ∷ kind (codes "replay") (OfNumber 0 4294967295 ∷ []) replay_meant
    ∷ []

-- the lines that begin with `duo` and one word more
abbrev pub duo_kinds : List LineKind
duo_kinds =
    kind (codes "send") (of_end ∷ OfNumber 0 1000000 ∷ OfNumber 0 255 ∷ []) duo_send_meant
    ∷ kind (codes "provide") (of_end ∷ OfNumber 0 31 ∷ []) duo_provide_meant
    ∷ kind (codes "emit") (of_end ∷ []) (duo_meant Emit)
    ∷ kind (codes "deliver") (OfNumber 0 4294967295 ∷ []) (duo_meant Deliver)
    ∷ kind (codes "expire") (of_end ∷ []) (duo_meant DuoExpire)
    ∷ kind (codes "poll") (of_end ∷ []) (duo_meant DuoPoll)
    ∷ kind (codes "restart") (of_end ∷ []) (duo_meant Restart)
    ∷ []

-- a line's second word counts with its first
abbrev pub by_second : Network → List LineKind → List (List ℕ) → Result Command FaultKind
by_second n kinds [] = Err BadWord
by_second n kinds (second ∷ args) = command_by n kinds second args

-- the turns that words say, or the first fault from left to right
abbrev pub turns_of : List (List ℕ) → Result (List ℤ) FaultKind
turns_of [] = Ok []
turns_of (w ∷ ws) = and_then (as_kind (turn_of w)) (λ t. and_then (turns_of ws) (λ ts. Ok (t ∷ ts)))

-- `walk H TURN ..`, with up to 64 turns
abbrev pub walk_said : Network → List (List ℕ) → Result Command FaultKind
walk_said n [] = Err BadWord
walk_said n (name ∷ words) =
    if nat_lt 64 (length words) then Err BadWord
    else if name_test name then and_then (turns_of words) (λ turns. at_host n name (λ h. Walk h turns))
    else Err BadWord

-- the command of a line by its first word: `walk`, `plan`, `step` or `duo` with its second word, or a word of the table
abbrev pub command_as : Network → List ℕ → List (List ℕ) → Result Command FaultKind
command_as n first args =
    if bytes_eq first (codes "walk") then walk_said n args
    else if bytes_eq first (codes "plan") then by_second n plan_kinds args
    else if bytes_eq first (codes "step") then by_second n step_kinds args
    else if bytes_eq first (codes "duo") then by_second n duo_kinds args
    else command_by n line_kinds first args

-- The command that a line of these words says over a fabric, or the line's first fault: the first word, the number of
-- words, their forms from left to right, and then the fabric.
abbrev pub command_of : Network → List (List ℕ) → Result Command FaultKind
command_of n [] = Err BadWord
command_of n (first ∷ args) = command_as n first args

-- the line `end`
abbrev pub is_end : List (List ℕ) → Bool
is_end ws = option_map_or (λ w. bytes_eq w (codes "end")) (one_of ws) false

-- the last command, where nothing that says something follows it
abbrev pub ended : List TextLine → Result (List Command) FirstFault
ended [] = Ok (Finish ∷ [])
ended (l ∷ ls) = Err (record { line = l.number; kind = AfterEnd })

-- The commands of a script, line by line, of which the last is `end`. `past` is one more than the number of the last
-- line.
abbrev pub script_from : ℕ → Network → List TextLine → Result (List Command) FirstFault
script_from past n [] = Err (record { line = past; kind = NoEnd })
script_from past n (l ∷ ls) =
    if is_end (words_of l.bytes) then ended ls
    else and_then (at_line l.number (command_of n (words_of l.bytes))) (λ c.
    and_then (script_from past n ls) (λ cs. Ok (c ∷ cs)))

-- What a script says that follows so many lines: its commands, or its first fault.
abbrev pub script_reading : Network → ℕ → List ℕ → Result (List Command) FirstFault
script_reading n line text = script_from (line + line_count text + 1) n
    (lines_left (record { number = line + 1; text = text }))
