-- What a script does is one, and what its first commands print stands at the beginning of what all of them print.
use Rattle.std.specs.Prelude.{◌≡◌, ℕ, List, ◌++◌, take, drop}
use Rattle.net_defs.specs.declared.route.Route.{Route}
use Rattle.net_defs.specs.Network.{Network}
use Rattle.map_defs.specs.NetMap.{NetMap}
use Rattle.map_defs.specs.Routing.{AreRoutesOf}
use Rattle.run_defs.specs.declared.command.Command.{Command}
use Rattle.run_defs.specs.LineText.{output_text}
use Rattle.run_defs.specs.Output.{Piece}
use Rattle.run_defs.specs.Session.{SessionState}
use Rattle.run_defs.specs.Run.{Does, Runs}

-- A map has one list of routes along an order of its vertices.
abbrev pub RoutesAreOne : Type 0
RoutesAreOne = (m : NetMap) (order : List ℕ) (found others : List Route) → AreRoutesOf m order found
    → AreRoutesOf m order others → found ≡ others

-- From one session a command prints one list of pieces and leaves one session.
abbrev pub DoingIsOne : Type 0
DoingIsOne = (s a b : SessionState) (c : Command) (out other : List Piece) → Does s c out a → Does s c other b
    → (out ≡ other) × (a ≡ b)

-- From one session commands in order print one list of pieces and leave one session.
abbrev pub RunsAreOne : Type 0
RunsAreOne = (s a b : SessionState) (commands : List Command) (out other : List Piece) → Runs s commands out a
    → Runs s commands other b → (out ≡ other) × (a ≡ b)

-- A run of commands, and a run of more commands from where it ended, are a run of all of them.
abbrev pub RunsJoin : Type 0
RunsJoin =
    (s middle last : SessionState) (commands more : List Command) (out rest : List Piece)
    → Runs s commands out middle → Runs middle more rest last → Runs s (commands ++ more) (out ++ rest) last

-- The run of the first commands is followed by a run of the others, and both print what all commands print.
pub record IsSplit (s last : SessionState) (first more : List Command) (all : List Piece) : Type 0 where
  pub middle : SessionState
  pub out : List Piece
  pub rest : List Piece
  pub before : Runs s first out middle
  pub behind : Runs middle more rest last
  pub whole : all ≡ out ++ rest

-- a run is split after each of its commands
abbrev pub RunsSplit : Type 0
RunsSplit = (k : ℕ) (s last : SessionState) (commands : List Command) (all : List Piece) → Runs s commands all last
    → IsSplit s last (take k commands) (drop k commands) all

-- What the first commands print stands at the beginning of what all commands print.
abbrev pub FirstRunsArePart : Type 0
FirstRunsArePart =
    (k : ℕ) (s a b : SessionState) (commands : List Command) (out all : List Piece)
    → Runs s (take k commands) out a → Runs s commands all b → (rest : List Piece) × (all ≡ out ++ rest)

-- The text of what was printed is that of its pieces in a row.
abbrev pub TextOfBoth : Type 0
TextOfBoth = (n : Network) (out rest : List Piece)
    → output_text n (out ++ rest) ≡ output_text n out ++ output_text n rest
