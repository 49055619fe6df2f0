-- A short report over the two hosts at one switch, worked out: host a walks to host b, whose cable is moved to another
-- port of the switch, and walks there again; then a client opens a port of host a, its tokens are shown, and it closes.
use Rattle.std.specs.Prelude.{ℕ, pos, true, List, [], ◌∷◌, None, codes}
use Rattle.net_defs.specs.Examples.{two_hosts, host_end, switch_end}
use Rattle.net_defs.specs.declared.place.Place.TheVariants.{Host as AtHost}
use Rattle.run_defs.specs.declared.command.Command.{Command}
use Rattle.world_defs.specs.declared.effect.Said.TheVariants.{Done, Count}
use Rattle.run_defs.specs.declared.command.Command.TheVariants.{Walk, Pull, Broken, Plug, Begin, Tokens, Close, Finish}
use Rattle.run_defs.specs.declared.line.ClientCall.TheVariants.{Begin as BeginCall, Close as CloseCall}
use Rattle.run_defs.specs.declared.line.PlugWords.TheVariants.{Done as Joined}
use Rattle.run_defs.specs.declared.line.Line.TheVariants.{Walk as WalkLine, Pull as PullLine, Plug as PlugLine}
use Rattle.run_defs.specs.declared.line.Line.TheVariants.{NoBroken, Client, Tokens as TokensLine}
use Rattle.run_defs.specs.declared.line.Line.TheVariants.{Finish as FinishLine}
use Rattle.run_defs.specs.declared.line.PlaceEntry.{PlaceEntry}
use Rattle.run_defs.specs.Examples.{text_of}
use Rattle.run_defs.specs.Output.{Piece, lines}
use Rattle.judge_defs.specs.Verdict.{AreJudgedYes}
use Rattle.judge_laws.specs.Answers.{lines_at}

-- the commands
abbrev pub moving : List Command
moving =
    Walk 0 (pos 3 ∷ []) ∷ Pull (switch_end 0 5) ∷ Broken ∷ Plug (host_end 1) (switch_end 0 6) ∷ Walk 0 (pos 4 ∷ [])
    ∷ Begin 0 2 1 1 ∷ Tokens 0 2 ∷ Close 0 2 ∷ Finish ∷ []

-- the one token of a kind, with the client
abbrev pub first_token : PlaceEntry
first_token = record { number = 0; place = None }

-- what they print
abbrev pub moved : List Piece
moved = lines (
    WalkLine (AtHost 1)
    ∷ PullLine (switch_end 0 5) true
    ∷ NoBroken
    ∷ PlugLine (host_end 1) (switch_end 0 6) Joined
    ∷ WalkLine (AtHost 1)
    ∷ Client BeginCall 0 2 Done
    ∷ TokensLine 0 2 (first_token ∷ []) (first_token ∷ [])
    ∷ Client CloseCall 0 2 (Count 0)
    ∷ FinishLine 0 0
    ∷ [])

-- as lines of a report
abbrev pub report : List (List ℕ)
report =
    codes "walk host b" ∷ codes "pull s 5 done" ∷ codes "broken refused noroutes" ∷ codes "plug b 0 s 6 done"
    ∷ codes "walk host b" ∷ codes "open a 2 done" ∷ codes "tokens a 2 send 0=client recv 0=client"
    ∷ codes "close a 2 done 0" ∷ codes "end injected 0 dropped 0" ∷ []

-- from line 12 on they are judged yes; the line after them would be line 21
abbrev pub ReportIsJudgedYes : Type 0
ReportIsJudgedYes = AreJudgedYes two_hosts 21 [] moving (lines_at 12 (text_of report))
