-- The form of a line: fixed words and values, one after another, and the words of a line of a form.
use Rattle.std.specs.Prelude.{ℕ, ℤ, List, [], ◌∷◌, ◌++◌, flat_map, decimal}
use Rattle.net_defs.specs.declared.vertex.End.{End}
use Rattle.net_defs.specs.Network.{Network}
use Rattle.net_defs.specs.Building.{name_of}
use Rattle.map_defs.specs.declared.vertex.MapVertex.{MapVertex}
use Rattle.line_table.specs.Texts.{host_name, turn_text, vertex_text, hex_text, entry_text}

-- What one word of a line may be.
pub data WordKind : Type 0 where
  -- digits of a number of any size, of which nothing is judged
  Digits : WordKind
  -- a number that may be at most so large
  NumberTo : ℕ → WordKind
  HostName : WordKind
  Turn : WordKind
  -- a vertex of a map: a host by its name, `#K` for a switch
  MapPlace : WordKind
  -- two hexadecimal digits for each byte, or `-` for none
  Hex : WordKind
  OneOf : List (List ℕ) → WordKind
  -- `NUMBER=PLACE` with one of these places, or this word
  EntryOr : List ℕ → List (List ℕ) → WordKind

-- A part of a line: a word that always stands there, a value of one word, an end of the fabric by its two words, or any
-- number of values up to the end of the line.
pub data Slot : Type 0 where
  Fixed : List ℕ → Slot
  Of : WordKind → Slot
  AnEnd : Slot
  -- the same with this word between
  AnEndBy : List ℕ → Slot
  Rest : WordKind → Slot

-- A value that a line has.
pub data LineValue : Type 0 where
  Word : List ℕ → LineValue
  Number : ℕ → LineValue
  HostAt : ℕ → LineValue
  TurnBy : ℤ → LineValue
  VertexAt : MapVertex → LineValue
  Bytes : List ℕ → LineValue
  Entry : ℕ → List ℕ → LineValue
  EndAt : End → LineValue

-- the words of a value: one, but for an end
abbrev pub words_of_value : Network → LineValue → List (List ℕ)
words_of_value n (Word w) = w ∷ []
words_of_value n (Number v) = decimal v ∷ []
words_of_value n (HostAt h) = host_name n h ∷ []
words_of_value n (TurnBy t) = turn_text t ∷ []
words_of_value n (VertexAt v) = vertex_text n v ∷ []
words_of_value n (Bytes bs) = hex_text bs ∷ []
words_of_value n (Entry v place) = entry_text v place ∷ []
words_of_value n (EndAt e) = name_of n e.v ∷ decimal e.p ∷ []

-- the words of an end with a word between
abbrev pub words_by : Network → List ℕ → LineValue → List (List ℕ)
words_by n w (EndAt e) = name_of n e.v ∷ w ∷ decimal e.p ∷ []
words_by n w v = words_of_value n v

-- The words of a line of this form with these values.
abbrev pub fill : Network → List Slot → List LineValue → List (List ℕ)
fill n [] vs = []
fill n (Fixed w ∷ ss) vs = w ∷ fill n ss vs
fill n (Of k ∷ ss) [] = []
fill n (Of k ∷ ss) (v ∷ vs) = words_of_value n v ++ fill n ss vs
fill n (AnEnd ∷ ss) [] = []
fill n (AnEnd ∷ ss) (v ∷ vs) = words_of_value n v ++ fill n ss vs
fill n (AnEndBy w ∷ ss) [] = []
fill n (AnEndBy w ∷ ss) (v ∷ vs) = words_by n w v ++ fill n ss vs
fill n (Rest k ∷ ss) vs = flat_map (words_of_value n) vs
