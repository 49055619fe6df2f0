-- What a line of the fabric part declares, by its words, or its first fault.
use Rattle.std.specs.Prelude.{ℕ, Bool, false, List, [], ◌∷◌, nat_le, if◌then◌else◌, Option, Some, None, Result, Ok, Err}
use Rattle.std.specs.Prelude.{codes, bytes_eq}
use Rattle.std.specs.Option.{option_map_or}
use Rattle.net_defs.specs.declared.vertex.Vertex.{Vertex}
use Rattle.net_defs.specs.declared.fault.GraphFault.{GraphFault}
use Rattle.net_defs.specs.declared.fault.GraphFault.TheVariants.{PortRange as NoPort, NameTaken as IsTaken}
use Rattle.net_defs.specs.declared.fault.GraphFault.TheVariants.{Full as IsFull, NoVertex as Unknown}
use Rattle.net_defs.specs.declared.fault.GraphFault.TheVariants.{PortUsed as IsUsed, NoMemory as NoMoreMemory}
use Rattle.net_defs.specs.Network.{Network}
use Rattle.net_defs.specs.Building.{vertex_named, host_refusal, switch_refusal, cable_refusal, with_host, with_switch}
use Rattle.net_defs.specs.Building.{with_cable}
use Rattle.fab_text.specs.declared.fault.FaultKind.{FaultKind}
use Rattle.fab_text.specs.declared.fault.FaultKind.TheVariants.{BadWord, TooLarge, NameTaken, NoVertex, PortRange}
use Rattle.fab_text.specs.declared.fault.FaultKind.TheVariants.{PortUsed, Full}
use Rattle.fab_text.specs.declared.fault.LineFault.{LineFault}
use Rattle.fab_text.specs.declared.fault.LineFault.TheVariants.{Wrong, NoMemory}
use Rattle.fab_text.specs.Word.{name_test, u32_of}
use Rattle.fab_text.specs.Line.{one_of, two_of, four_of}
use Rattle.fab_text.specs.Fault.{as_kind, and_then}

-- the kind of a fabric's refusal (running out of memory is none)
abbrev pub refusal_kind : GraphFault → FaultKind
refusal_kind NoPort = PortRange
refusal_kind IsTaken = NameTaken
refusal_kind IsFull = Full
refusal_kind Unknown = NoVertex
refusal_kind IsUsed = PortUsed
refusal_kind NoMoreMemory = Full

-- the value where nothing refuses it
abbrev pub unless : {X : Type 0} → Option GraphFault → X → Result X FaultKind
unless None x = Ok x
unless (Some e) x = Err (refusal_kind e)

-- what words of the right number declare
abbrev pub where_there : {W X : Type 0} → Option W → (W → Result X FaultKind) → Result X FaultKind
where_there None f = Err BadWord
where_there (Some w) f = f w

-- a number
abbrev pub number_word : List ℕ → Result ℕ FaultKind
number_word w = as_kind (u32_of w)

-- a port that some switch may have
abbrev pub port_word : List ℕ → Result ℕ FaultKind
port_word w = and_then (number_word w) (λ p. if nat_le p 15 then Ok p else Err TooLarge)

-- the form of `V P`, with the port that it says
abbrev pub end_word : List ℕ → List ℕ → Result ℕ FaultKind
end_word v p = if name_test v then port_word p else Err BadWord

-- `host NAME`
abbrev pub host_declared : Network → List ℕ → Result Network FaultKind
host_declared n name = if name_test name then unless (host_refusal n name) (with_host n name) else Err BadWord

-- what a line `host NAME` declares
abbrev pub host_line : Network → List (List ℕ) → Result Network FaultKind
host_line n args = where_there (one_of args) (host_declared n)

-- `switch NAME PORTS`
abbrev pub switch_declared : Network → List ℕ → List ℕ → Result Network FaultKind
switch_declared n name ports =
    if name_test name then and_then (number_word ports) (λ p. unless (switch_refusal n name p) (with_switch n name p))
    else Err BadWord

-- what a line `switch NAME PORTS` declares
abbrev pub switch_line : Network → List (List ℕ) → Result Network FaultKind
switch_line n args = where_there (two_of args) (λ w. switch_declared n w.0 w.1)

-- a cable between ports of two vertices, if they are there
abbrev pub cable_between : Network → Option Vertex → ℕ → Option Vertex → ℕ → Result Network FaultKind
cable_between n None p w q = Err NoVertex
cable_between n (Some v) p None q = Err NoVertex
cable_between n (Some v) p (Some w) q = unless (cable_refusal n (record { v = v; p = p }) (record { v = w; p = q }))
    (with_cable n (record { v = v; p = p }) (record { v = w; p = q }))

-- `cable V P W Q`: the forms from left to right, and then the vertices and ports
abbrev pub cable_declared : Network → List ℕ → List ℕ → List ℕ → List ℕ → Result Network FaultKind
cable_declared n v p w q = and_then (end_word v p) (λ i.
    and_then (end_word w q) (λ j. cable_between n (vertex_named n v) i (vertex_named n w) j))

-- what a line `cable V P W Q` declares
abbrev pub cable_line : Network → List (List ℕ) → Result Network FaultKind
cable_line n args = where_there (four_of args) (λ w. cable_declared n w.0.0 w.0.1 w.1.0 w.1.1)

-- what a line declares by its first word
abbrev pub declared_as : Network → List ℕ → List (List ℕ) → Result Network FaultKind
declared_as n first args =
    if bytes_eq first (codes "host") then host_line n args
    else if bytes_eq first (codes "switch") then switch_line n args
    else if bytes_eq first (codes "cable") then cable_line n args
    else Err BadWord

-- The fabric that a line of these words leaves, or the line's first fault.
abbrev pub declared : Network → List (List ℕ) → Result Network FaultKind
declared n [] = Err BadWord
declared n (first ∷ args) = declared_as n first args

-- the line `script`
abbrev pub is_script : List (List ℕ) → Bool
is_script ws = option_map_or (λ w. bytes_eq w (codes "script")) (one_of ws) false

-- what an answer of a fabric comes to
abbrev pub added_of : Result ℕ GraphFault → Result (Unit {0}) LineFault
added_of (Ok k) = Ok tt
added_of (Err NoPort) = Err (Wrong PortRange)
added_of (Err IsTaken) = Err (Wrong NameTaken)
added_of (Err IsFull) = Err (Wrong Full)
added_of (Err Unknown) = Err (Wrong NoVertex)
added_of (Err IsUsed) = Err (Wrong PortUsed)
added_of (Err NoMoreMemory) = Err NoMemory
