-- What the parts of the reader read: one word, one of several forms, what follows a call and its port, turns, and
-- tokens with their places.
use Rattle.std.specs.Prelude.{◌≡◌, ℕ, ℤ, Bool, true, false, List, [], ◌∷◌, ◌++◌, length, take, drop, position, nat_eq}
use Rattle.std.specs.Prelude.{nat_le, bytes_eq, if◌then◌else◌, Option, Some, None, is_some, option_and_then}
use Rattle.net_defs.specs.Network.{Network}
use Rattle.net_defs.specs.Turn.{walk_refusal}
use Rattle.port_ledgers.specs.declared.lane.PortName.{PortName}
use Rattle.port_ledgers.specs.declared.lane.ToldPlace.{ToldPlace}
use Rattle.run_defs.specs.declared.line.ClientCall.{ClientCall}
use Rattle.run_defs.specs.declared.line.ClientCall.TheVariants.{Poll, Tokens as TokensCall}
use Rattle.run_defs.specs.LineRows.{call_word}
use Rattle.line_table.specs.declared.kind.LineKind.{LineKind}
use Rattle.line_table.specs.declared.kind.LineKind.TheVariants.{CallReceived, CallRefused, MapComplete}
use Rattle.line_table.specs.declared.kind.LineKind.TheVariants.{MapDoubtful, MapDepth, MapNodes, Tokens}
use Rattle.line_table.specs.Form.{WordKind, EntryOr, Slot, LineValue, Word, Number, HostAt, Entry}
use Rattle.line_table.specs.Matching.{entry_cut, onto, matched}
use Rattle.line_table.specs.Said.{turn_said, host_said}
use Rattle.line_table.specs.Table.{form_of, place}
use Rattle.report_lines.specs.declared.line.MapSaid.{MapSaid}
use Rattle.report_lines.specs.declared.line.MapSaid.TheVariants.{Complete, Doubtful, Shallow, Overgrown}
use Rattle.report_lines.specs.declared.line.ReportLine.{ReportLine}
use Rattle.report_lines.specs.Lines.{said_as}
use Rattle.report_lines.specs.Meaning.{form_meaning, place_of, route_unless}

-- a word was compared with a text
abbrev pub IsSame : Bool → List ℕ → List ℕ → Type 0
IsSame true w text = w ≡ text
IsSame false w text = bytes_eq w text ≡ false

-- this line, where the words have one of these forms
abbrev pub formed : Network → ReportLine → List (List Slot) → List (List ℕ) → Option ReportLine
formed n line [] ws = None
formed n line (ss ∷ more) ws = if is_some (matched n ss ws) then Some line else formed n line more ws

-- the kind of the line of a map that is known to be right so far
abbrev pub map_kind : MapSaid → LineKind
map_kind Complete = MapComplete
map_kind Doubtful = MapDoubtful
map_kind Shallow = MapDepth
map_kind Overgrown = MapNodes

-- what a mapper counts
abbrev pub counts : List Slot
counts = drop 3 (form_of MapComplete)

-- values before others, where these were said
abbrev pub before : List LineValue → Option (List LineValue) → Option (List LineValue)
before [] vs = vs
before (v ∷ more) vs = onto (Some v) (before more vs)

-- the meaning of the first of these kinds by the words that are left after so many parts of its form, with the values
-- of these
abbrev pub rest_said : Network → List LineKind → ℕ → List LineValue → List (List ℕ) → Option ReportLine
rest_said n [] parts vs ws = None
rest_said n (k ∷ ks) parts vs ws =
    said_as (form_meaning k) k (before vs (matched n (drop parts (form_of k)) ws)) (rest_said n ks parts vs ws)

-- the values of a call and its port
abbrev pub call_values : ClientCall → PortName → List LineValue
call_values call a = Word (call_word call) ∷ HostAt a.host ∷ Number a.port ∷ []

-- the meaning of the first of these kinds by the words that are left of a call's line after so many parts
abbrev pub call_rest : Network → ClientCall → PortName → List LineKind → ℕ → List (List ℕ) → Option ReportLine
call_rest n call a ks parts ws = rest_said n ks parts (call_values call a) ws

-- the tokens of a port, or a refusal, by the words after the port
abbrev pub tokens_said : Network → PortName → List (List ℕ) → Option ReportLine
tokens_said n a ws =
    said_as None Tokens (before (HostAt a.host ∷ Number a.port ∷ []) (matched n (drop 3 (form_of Tokens)) ws))
    (call_rest n TokensCall a (CallRefused ∷ []) 3 ws)

-- a message by the words that are left after so many parts of its form, with the values of these
abbrev pub received_said : Network → PortName → ℕ → List LineValue → List (List ℕ) → Option ReportLine
received_said n a parts vs ws = rest_said n (CallReceived ∷ []) parts (call_values Poll a ++ vs) ws

-- the turns of these words
abbrev pub turns_said : List (List ℕ) → Option (List ℤ)
turns_said [] = Some []
turns_said (w ∷ ws) = option_and_then (λ t. option_and_then (λ ts. Some (t ∷ ts)) (turns_said ws)) (turn_said w)

-- the turns in front of others, where so many were read
abbrev pub turns_in_front : List ℤ → Option ℕ → Option (List ℤ)
turns_in_front turns None = None
turns_in_front turns (Some count) = Some (take count turns)

-- turns after others
abbrev pub after_turns : List ℤ → Option (List ℤ) → Option (List ℤ)
after_turns done more = option_and_then (λ ts. Some (done ++ ts)) more

-- a route, where its hosts and its turns were read, and these are a walk
abbrev pub route_of : Option ℕ → Option ℕ → Option (List ℤ) → Option ReportLine
route_of (Some from) (Some to) (Some walk) = route_unless (walk_refusal walk) from to walk
route_of _ _ _ = None

-- `A B TURN ..`, with at most 64 turns
abbrev pub route_said : Network → List (List ℕ) → Option ReportLine
route_said n (a ∷ b ∷ ws) = if nat_le (length ws) 64 then route_of (host_said n a) (host_said n b) (turns_said ws)
    else None
route_said n _ = None

-- the places of a kind of word, and the other word that may stand there
abbrev pub places_of : WordKind → List (List ℕ)
places_of (EntryOr other places) = places
places_of k = []

abbrev pub other_of : WordKind → List ℕ
other_of (EntryOr other places) = other
other_of k = []

-- a token of a value
abbrev pub told_of : Option LineValue → Option ToldPlace
told_of (Some (Entry number at)) = Some (place_of number at)
told_of v = None

-- `NUMBER=PLACE`
abbrev pub place_said : List ℕ → Option ToldPlace
place_said w = told_of (entry_cut (places_of place) w (position (nat_eq 61) w))

-- the tokens of these words
abbrev pub places_said : List (List ℕ) → Option (List ToldPlace)
places_said [] = Some []
places_said (w ∷ ws) =
    option_and_then (λ e. option_and_then (λ es. Some (e ∷ es)) (places_said ws)) (place_said w)

-- tokens after others
abbrev pub after_places : List ToldPlace → Option (List ToldPlace) → Option (List ToldPlace)
after_places done more = option_and_then (λ es. Some (done ++ es)) more

-- the send tokens up to the word `recv`, and the receive tokens after it
abbrev pub both_said : List (List ℕ) → Option (List ToldPlace × List ToldPlace)
both_said [] = None
both_said (w ∷ ws) = if bytes_eq w (other_of place) then option_and_then (λ es. Some ([], es)) (places_said ws)
    else option_and_then (λ e. option_and_then (λ p. Some (e ∷ p.0, p.1)) (both_said ws)) (place_said w)

-- both after other send tokens
abbrev pub after_sends : List ToldPlace → Option (List ToldPlace × List ToldPlace)
    → Option (List ToldPlace × List ToldPlace)
after_sends done more = option_and_then (λ p. Some (done ++ p.0, p.1)) more
