-- The summary of a run: the figures of its report, and the lines that show them.
use Rattle.std.specs.Prelude.{ℕ, Bool, true, false, List, [], ◌∷◌, ◌++◌, length, flat_map, count_by}
use Rattle.net_defs.specs.Network.{Network}
use Rattle.world_defs.specs.declared.effect.Said.{Said}
use Rattle.world_defs.specs.declared.effect.Said.TheVariants.{Token, Received as SaidReceived}
use Rattle.run_defs.specs.declared.figure.Figure.{Figure}
use Rattle.run_defs.specs.declared.figure.Figure.TheVariants.{Mapped, Routed, Installed as FigureInstalled, Accepted}
use Rattle.run_defs.specs.declared.figure.Figure.TheVariants.{Received, Settled}
use Rattle.run_defs.specs.declared.line.ClientCall.{ClientCall}
use Rattle.run_defs.specs.declared.line.ClientCall.TheVariants.{Send, Poll}
use Rattle.run_defs.specs.declared.line.Line.{Line}
use Rattle.run_defs.specs.declared.line.Line.TheVariants.{Map, Routes, Installed, Client, Settle, GenHead, GenMap}
use Rattle.run_defs.specs.declared.line.Line.TheVariants.{GenCount}
use Rattle.run_defs.specs.Output.{Piece, OneLine, MapLines}

-- the figures of what a client's call said: that its send was accepted, or that its poll received a message
abbrev pub call_figures : ClientCall → Said → List Figure
call_figures Send (Token t) = Accepted ∷ []
call_figures Poll (SaidReceived t from sport prio body) = Received ∷ []
call_figures _ _ = []

-- the figures of a line: of most lines none
abbrev pub figures_of : Line → List Figure
figures_of (Map host words asks packets) = Mapped words asks packets ∷ []
figures_of (Routes count) = Routed count ∷ []
figures_of (Installed acked of) = FigureInstalled acked of ∷ []
figures_of (Client call host port said) = call_figures call said
figures_of (Settle rounds resets unacked) = Settled rounds resets unacked ∷ []
figures_of _ = []

-- the figures of a piece: the lines of a map have none
abbrev pub piece_figures : Piece → List Figure
piece_figures (OneLine l) = figures_of l
piece_figures (MapLines m) = []

-- the figures of all that was printed, in its order
abbrev pub figures_in : List Piece → List Figure
figures_in out = flat_map piece_figures out

-- the line that reports a map, routes or an installation
abbrev pub mapping_lines : Figure → List Line
mapping_lines (Mapped words asks packets) = GenMap words asks packets ∷ []
mapping_lines (Routed count) = Routes count ∷ []
mapping_lines (FigureInstalled acked of) = Installed acked of ∷ []
mapping_lines _ = []

-- the line that reports a settle
abbrev pub settle_lines : Figure → List Line
settle_lines (Settled rounds resets unacked) = Settle rounds resets unacked ∷ []
settle_lines _ = []

-- a send was accepted
abbrev pub is_accepted : Figure → Bool
is_accepted Accepted = true
is_accepted _ = false

-- a message was received
abbrev pub is_received : Figure → Bool
is_received Received = true
is_received _ = false

-- how many messages were accepted, and how many received
abbrev pub count_line : List Figure → Line
count_line figures = GenCount (count_by is_accepted figures) (count_by is_received figures)

-- The summary of a generated run has a line for what was generated, for each map, set of routes and installation, for
-- the count of messages, and for each settle.
abbrev pub summary : ℕ → ℕ → Network → List Figure → List Line
summary n seed f figures =
    GenHead n seed (length f.hosts) (length f.switches) (length f.cables)
    ∷ (flat_map mapping_lines figures ++ (count_line figures ∷ flat_map settle_lines figures))
