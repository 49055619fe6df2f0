-- Short reports over the two hosts at one switch, worked out: a message is sent and received, its token comes back; a
-- cable is moved from one port to another.
use Rattle.std.specs.Prelude.{ℕ, true, List, [], ◌∷◌, ◌++◌, Result, Ok, codes}
use Rattle.net_defs.specs.Examples.{two_hosts, host_end, switch_end}
use Rattle.fab_text.specs.Line.{TextLine, lines_left}
use Rattle.fab_text.specs.Fault.{and_then}
use Rattle.port_ledgers.specs.declared.lane.PortName.{PortName}
use Rattle.run_defs.specs.declared.command.Command.{Command}
use Rattle.run_defs.specs.declared.command.Command.TheVariants.{Begin, Send, Poll, Install, Pull, Plug, Broken}
use Rattle.run_defs.specs.Examples.{text_of}
use Rattle.report_lines.specs.declared.line.ReportLine.{ReportLine}
use Rattle.report_lines.specs.declared.line.ReportLine.TheVariants.{Opened, Accepted, Received, Returned, NoBroken}
use Rattle.report_lines.specs.declared.line.ReportLine.TheVariants.{Pull as PullLine, Plug as PlugLine}
use Rattle.answer_defs.specs.Answer.{Alone, WithBroken, WithTables, Answered}
use Rattle.judge_defs.specs.Form.{known_by, answer_from}
use Rattle.answer_defs.specs.Answer.{answered}

-- the answers of commands, the latest first, after others; line 17 is the first that is missing
abbrev pub answers_after : List Answered → List Command → List TextLine → Result (List Answered) ℕ
answers_after before [] ls = Ok before
answers_after before (c ∷ cs) ls = and_then (answer_from c (known_by two_hosts before) 17 two_hosts ls) (λ a.
    answers_after (answered c a.0 ∷ before) cs a.1)

-- the commands
abbrev pub commands : List Command
commands = Begin 0 0 2 0 ∷ Begin 1 1 0 1 ∷ Send 0 0 1 1 0 1 9 ∷ Poll 1 1 ∷ Poll 0 0 ∷ []

-- lines from line 12 on
abbrev pub lines_of : List (List ℕ) → List TextLine
lines_of texts = lines_left (record { number = 12; text = text_of texts })

-- the lines of the first four commands
abbrev pub four_lines : List (List ℕ)
four_lines = codes "open a 0 done" ∷ codes "open b 1 done" ∷ codes "send a 0 token 0"
    ∷ codes "poll b 1 received token 0 from a 0 prio 0 len 1 bytes 09" ∷ []

-- the whole report
abbrev pub report : List TextLine
report = lines_of (four_lines ++ codes "poll a 0 sent token 0" ∷ [])

-- a report of another port in its second line
abbrev pub another_port : List TextLine
another_port = lines_of (codes "open a 0 done" ∷ codes "open b 2 done" ∷ [])

-- the sending port
abbrev pub sender : PortName
sender = record { host = 0; port = 0 }

-- the receiving port
abbrev pub receiver : PortName
receiver = record { host = 1; port = 1 }

-- a command with an answer of one line
abbrev pub alone : Command → ReportLine → Answered
alone c l = answered c (Alone l)

-- the answers, the latest first
abbrev pub answers : List Answered
answers =
    alone (Poll 0 0) (Returned sender 0)
    ∷ alone (Poll 1 1) (Received (record {
      port = receiver;
      token = 0;
      from = 0;
      sport = 0;
      prio = 0;
      len = 1;
      body = 9 ∷ [];
    }))
    ∷ alone (Send 0 0 1 1 0 1 9) (Accepted sender 0)
    ∷ alone (Begin 1 1 0 1) (Opened receiver)
    ∷ alone (Begin 0 0 2 0) (Opened sender)
    ∷ []

-- commands that move the cable of a host to another port of the switch
abbrev pub moving : List Command
moving = Pull (switch_end 0 5) ∷ Broken ∷ Plug (host_end 1) (switch_end 0 6) ∷ []

-- their lines, where no routes are adopted
abbrev pub moved_lines : List (List ℕ)
moved_lines = codes "pull s 5 done" ∷ codes "broken refused noroutes" ∷ codes "plug b 0 s 6 done" ∷ []

-- their answers, the latest first
abbrev pub moved : List Answered
moved =
    alone (Plug (host_end 1) (switch_end 0 6)) (PlugLine (host_end 1) (switch_end 0 6) true)
    ∷ alone Broken NoBroken
    ∷ alone (Pull (switch_end 0 5)) (PullLine (switch_end 0 5) true)
    ∷ []

-- an installation before, so that routes are adopted
abbrev pub adopted : List Answered
adopted = answered (Install 1) (WithTables (0 ∷ 1 ∷ [])) ∷ []

-- an installation that one host of two acknowledged, and whose table is active
abbrev pub installed_text : List (List ℕ)
installed_text = codes "installed 1 of 2" ∷ codes "table a active" ∷ codes "table b none" ∷ []

-- more hosts acknowledged than there are
abbrev pub above_text : List (List ℕ)
above_text = codes "installed 3 of 2" ∷ codes "table a active" ∷ codes "table b active" ∷ []

-- more hosts acknowledged than have an active table
abbrev pub inactive_text : List (List ℕ)
inactive_text = codes "installed 2 of 2" ∷ codes "table a active" ∷ codes "table b none" ∷ []

-- the lines of broken routes
abbrev pub broken_text : List (List ℕ)
broken_text = codes "broken a b" ∷ codes "broken b a" ∷ codes "endbroken" ∷ []

-- the second of them stands first
abbrev pub falling_text : List (List ℕ)
falling_text = codes "broken b a" ∷ codes "broken a b" ∷ codes "endbroken" ∷ []

-- the answer
abbrev pub broken_answers : List Answered
broken_answers = answered Broken (WithBroken ((0, 1) ∷ (1, 0) ∷ [])) ∷ adopted
