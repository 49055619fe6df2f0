-- What a line of a map declares, by its words, or its first fault.
use Rattle.std.specs.Prelude.{◌≡◌, ℕ, ℤ, Bool, true, false, ◌&&◌, ◌||◌, List, [], ◌∷◌, length, drop, nat_eq, slice_get}
use Rattle.std.specs.Prelude.{position, if◌then◌else◌, Option, Some, None, Result, Ok, Err, bytes_eq}
use Rattle.net_defs.specs.Network.{Network}
use Rattle.map_defs.specs.declared.vertex.MapVertex.{MapVertex}
use Rattle.map_defs.specs.declared.vertex.MapVertex.TheVariants.{Host as MapHost, Switch as MapSwitch}
use Rattle.map_defs.specs.declared.vertex.MapCable.{MapCable}
use Rattle.map_defs.specs.NetMap.{NetMap, switches_of}
use Rattle.map_defs.specs.Routing.{vertex_of_host}
use Rattle.fab_text.specs.declared.fault.NumFault.{NumFault}
use Rattle.fab_text.specs.declared.fault.NumFault.TheVariants.{NotNumber as NoNumber, TooLarge as AboveRange}
use Rattle.fab_text.specs.declared.fault.FaultKind.{FaultKind}
use Rattle.fab_text.specs.declared.fault.FaultKind.TheVariants.{BadWord, NameTaken, NoVertex, PortRange, PortUsed, Full}
use Rattle.fab_text.specs.declared.fault.LineFault.{LineFault}
use Rattle.fab_text.specs.declared.fault.LineFault.TheVariants.{Wrong, NoMemory}
use Rattle.fab_text.specs.Word.{name_test, u32_of, turn_of}
use Rattle.fab_text.specs.Fault.{as_kind, and_then}
use Rattle.fabric_map.specs.declared.fault.MapFault.{MapFault}
use Rattle.fabric_map.specs.declared.fault.MapFault.TheVariants.{HostTaken, Full as IsFull, NoVertex as Unknown}
use Rattle.fabric_map.specs.declared.fault.MapFault.TheVariants.{PortRange as NoPort, PortUsed as IsUsed}
use Rattle.fabric_map.specs.declared.fault.MapFault.TheVariants.{NoMemory as NoMoreMemory}
use Rattle.fabric_map.specs.Growing.{host_refusal, switch_refusal, cable_refusal, with_host, with_switch, with_cable}
use Rattle.line_table.specs.declared.kind.MapLineKind.{MapLineKind}
use Rattle.line_table.specs.declared.kind.MapLineKind.TheVariants.{Host as HostLine, Switch as SwitchLine}
use Rattle.line_table.specs.declared.kind.MapLineKind.TheVariants.{Cable as CableLine}
use Rattle.line_table.specs.Form.{WordKind, HostName, MapPlace, Turn, OneOf, Slot, Fixed, Of}
use Rattle.line_table.specs.Form.{LineValue, Word, HostAt, TurnBy, VertexAt}
use Rattle.line_table.specs.Matching.{is_among, matched}
use Rattle.line_table.specs.Table.{map_form}
use Rattle.run_defs.specs.LineText.{core_word}

-- the kind of a map's refusal (running out of memory is none)
abbrev pub refusal_kind : MapFault → FaultKind
refusal_kind HostTaken = NameTaken
refusal_kind IsFull = Full
refusal_kind Unknown = NoVertex
refusal_kind NoPort = PortRange
refusal_kind IsUsed = PortUsed
refusal_kind NoMoreMemory = Full

-- the value where nothing refuses it
abbrev pub unless : {X : Type 0} → Option MapFault → X → Result X FaultKind
unless None x = Ok x
unless (Some e) x = Err (refusal_kind e)

-- the vertex of a switch, by its number among the switches
abbrev pub is_switch_numbered : ℕ → MapVertex → Bool
is_switch_numbered s (MapHost h) = false
is_switch_numbered s (MapSwitch t) = nat_eq t s

-- the vertex of a switch of a map
abbrev pub vertex_of_switch : NetMap → ℕ → Option ℕ
vertex_of_switch m s = position (is_switch_numbered s) m.vertices

-- the vertex of a map that a line names
abbrev pub vertex_in : NetMap → MapVertex → Option ℕ
vertex_in m (MapHost h) = vertex_of_host m h
vertex_in m (MapSwitch s) = vertex_of_switch m s

-- a word is a number, of any size
abbrev pub is_number : Result ℕ NumFault → Bool
is_number (Ok s) = true
is_number (Err AboveRange) = true
is_number (Err NoNumber) = false

-- `#K`: a number after `#` (35)
abbrev pub switch_test : List ℕ → Bool
switch_test [] = false
switch_test (b ∷ bs) = nat_eq b 35 && is_number (u32_of bs)

-- the form of a vertex: a host's name, or a switch's number after `#`
abbrev pub vertex_test : List ℕ → Bool
vertex_test w = name_test w || switch_test w

-- what is wrong with a word: nothing where it has its form
abbrev pub formed_where : Bool → Result (Unit {0}) FaultKind
formed_where is = if is then Ok tt else Err BadWord

-- the same of a word of each kind that a map's rows have; whether the fabric has the name comes later
abbrev pub word_formed : WordKind → List ℕ → Result (Unit {0}) FaultKind
word_formed HostName w = formed_where (name_test w)
word_formed MapPlace w = formed_where (vertex_test w)
word_formed Turn w = and_then (as_kind (turn_of w)) (λ turn. Ok tt)
word_formed (OneOf ws) w = formed_where (is_among ws w)
word_formed k w = Ok tt

-- the first fault of the forms of words, from left to right
abbrev pub words_formed : List Slot → List (List ℕ) → Result (Unit {0}) FaultKind
words_formed (Of k ∷ ss) (w ∷ ws) = and_then (word_formed k w) (λ formed. words_formed ss ws)
words_formed ss ws = Ok tt

-- a cable, if nothing refuses it
abbrev pub cable_placed : NetMap → MapCable → Result NetMap FaultKind
cable_placed m c = unless (cable_refusal m c) (with_cable m c)

-- a cable between ports of two vertices, if they are there
abbrev pub cable_between : NetMap → Option ℕ → ℤ → Option ℕ → ℤ → Result NetMap FaultKind
cable_between m None p w q = Err NoVertex
cable_between m (Some v) p None q = Err NoVertex
cable_between m (Some v) p (Some w) q = cable_placed m (record { v = v; p = p; w = w; q = q })

-- The map with what a line of these values declares. Without values the line names a host that the fabric doesn't have,
-- or a switch whose number is too great to be one of the map. A switch must have the next number.
abbrev pub placed : NetMap → MapLineKind → Option (List LineValue) → Result NetMap FaultKind
placed m HostLine (Some (HostAt h ∷ [])) = unless (host_refusal m h) (with_host m h)
placed m SwitchLine (Some (VertexAt (MapSwitch s) ∷ Word mark ∷ [])) =
    if nat_eq s (length (switches_of m.vertices))
    then unless (switch_refusal m) (with_switch m (bytes_eq mark (core_word true)))
    else Err BadWord
placed m SwitchLine _ = Err BadWord
placed m CableLine (Some (VertexAt v ∷ TurnBy p ∷ VertexAt w ∷ TurnBy q ∷ [])) =
    cable_between m (vertex_in m v) p (vertex_in m w) q
placed m k _ = Err NoVertex

-- the word that a row begins with
abbrev pub first_word : List Slot → List ℕ
first_word (Fixed w ∷ ss) = w
first_word ss = []

-- the words after it
abbrev pub args_of : MapLineKind → List Slot
args_of k = drop 1 (map_form k)

-- a line of a kind by its first word
abbrev pub begins : MapLineKind → List ℕ → Bool
begins k first = bytes_eq first (first_word (map_form k))

-- What a line of a kind declares by the words after its first: their number comes first, then their forms, then what
-- they name.
abbrev pub row_declared : Network → NetMap → MapLineKind → List (List ℕ) → Result NetMap FaultKind
row_declared f m k args =
    if nat_eq (length (args_of k)) (length args)
    then and_then (words_formed (args_of k) args) (λ formed. placed m k (matched f (args_of k) args))
    else Err BadWord

-- The map that a line of these words leaves, or the line's first fault.
abbrev pub declared : Network → NetMap → List (List ℕ) → Result NetMap FaultKind
declared f m [] = Err BadWord
declared f m (first ∷ args) =
    if begins HostLine first then row_declared f m HostLine args
    else if begins SwitchLine first then row_declared f m SwitchLine args
    else if begins CableLine first then row_declared f m CableLine args
    else Err BadWord

-- what a map's refusal of a line comes to
abbrev pub refused_line : MapFault → LineFault
refused_line HostTaken = Wrong NameTaken
refused_line IsFull = Wrong Full
refused_line Unknown = Wrong NoVertex
refused_line NoPort = Wrong PortRange
refused_line IsUsed = Wrong PortUsed
refused_line NoMoreMemory = NoMemory

-- The index has the vertex of each switch, by its number.
pub record IsSwitchIndex (vertices : List MapVertex) (switches : List ℕ) : Type 0 where
  pub counted : length switches ≡ length (switches_of vertices)
  pub found : (s : ℕ) → slice_get switches s ≡ position (is_switch_numbered s) vertices
