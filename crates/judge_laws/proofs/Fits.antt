-- The values of printed lines are those of their rows.
use Rattle.std.proofs.Common.{◌<◌, ◌≤◌, ◌-◌, ◌^◌, ℕ, List, [], ◌∷◌, ◌++◌, map, Option, Some, None, refl, arith}
use Rattle.std.specs.List.{AllByRecursion}
use Rattle.std.specs.Prelude.{ℤ, codes}
use Rattle.fab_script.specs.Ranges.{IsHost, IsEnd}
use Rattle.fabric_file.proofs.PlainWords.{number-any}
use Rattle.gm_defs.specs.declared.token.TokenPlace.{TokenPlace}
use Rattle.gm_defs.specs.declared.token.TokenPlace.TheVariants.{Queue, Provided, Event}
use Rattle.line_table.specs.Fits.{IsOf, AreOf}
use Rattle.line_table.specs.Form.{WordKind, Turn, MapPlace, EntryOr, Word, TurnBy, VertexAt}
use Rattle.line_table.specs.Table.{form_of}
use Rattle.map_defs.specs.declared.vertex.MapVertex.{MapVertex}
use Rattle.map_defs.specs.declared.vertex.MapVertex.TheVariants.{Host as MapHost, Switch as MapSwitch}
use Rattle.net_defs.specs.Network.{Network}
use Rattle.net_defs.specs.Turn.{IsTurn}
use Rattle.run_defs.specs.LineRows.{place_value, line_kind, line_values}
use Rattle.run_defs.specs.declared.line.Line.TheVariants.{Step}
use Rattle.run_defs.specs.declared.line.PlaceEntry.{PlaceEntry}
use Rattle.run_defs.specs.declared.line.StepWords.{StepWords}
use Rattle.run_defs.specs.declared.line.StepWords.TheVariants.{Injected, Moved, Blocked, Arrived, Dropped, Repeated, Held, Replayed}
use Rattle.world_defs.specs.declared.effect.Cause.{Cause}
use Rattle.world_defs.specs.declared.effect.Cause.TheVariants.{OutOfRange}
use Rattle.world_defs.specs.declared.heard.Heard.{Heard}
use Rattle.world_defs.specs.declared.heard.Heard.TheVariants.{Probe}
use Rattle.judge_laws.specs.Lines.{IsVertexIn, IsCounted}

-- tokens whose numbers are of 64 bits
abbrev pub AreNumbered : List PlaceEntry → Type 0
AreNumbered es = AllByRecursion (λ e. IsCounted e.number) es

-- the host or the end of an event's words is one of the fabric
abbrev pub AreWordsIn : Network → StepWords → Type 0
AreWordsIn n (Moved e) = IsEnd n e
AreWordsIn n (Blocked e) = IsEnd n e
AreWordsIn n (Arrived h heard) = IsHost n h
AreWordsIn n (Replayed e) = IsEnd n e
AreWordsIn n _ = Unit {0}

-- a number of 64 bits
abbrev pub IsValue : ℕ → Type 0
IsValue v = v ≤ 2 ^ 64 - 1 × v < 2 ^ 64

pub counted : (v : ℕ) → v < 2 ^ 64 → IsValue v
counted v fits = (omega arith, fits)

-- over a fabric
module _ (n : Network) where
  pub turns-fit : (ts : List ℤ) → AllByRecursion IsTurn ts → AllByRecursion (IsOf n Turn) (map TurnBy ts)
  turns-fit [] all = tt
  turns-fit (t ∷ ts) all = (all.0, turns-fit ts all.1)

  pub vertex-fits : (v : MapVertex) → IsVertexIn n v → IsOf n MapPlace (VertexAt v)
  vertex-fits (MapHost h) there = there
  vertex-fits (MapSwitch s) small = small

  -- the places of tokens
  abbrev places : WordKind
  places = EntryOr (codes "recv") (codes "client" ∷ codes "queue" ∷ codes "provided" ∷ codes "event" ∷ [])

  place-fits : (number : ℕ) (place : Option TokenPlace) → number < 2 ^ 64 → IsOf n places (place_value (record { number = number; place = place }))
  place-fits number None fits = (refl, (refl, fits))
  place-fits number (Some Queue) fits = (refl, (refl, fits))
  place-fits number (Some Provided) fits = (refl, (refl, fits))
  place-fits number (Some Event) fits = (refl, (refl, fits))

  places-fit : (es : List PlaceEntry) → AreNumbered es → AllByRecursion (IsOf n places) (map place_value es)
  places-fit [] all = tt
  places-fit (e ∷ es) all = (place-fits e.number e.place all.0, places-fit es all.1)

  pub both-fit : (es fs : List PlaceEntry) → AreNumbered es → AreNumbered fs → AllByRecursion (IsOf n places) (map place_value es ++ Word (codes "recv") ∷ map place_value fs)
  both-fit [] fs all others = (refl, places-fit fs others)
  both-fit (e ∷ es) fs all others = (place-fits e.number e.place all.0, both-fit es fs all.1 others)

  heard-fits : (h : ℕ) (heard : Heard) → IsHost n h → AreOf n (form_of (line_kind (Step (Arrived h heard)))) (line_values (Step (Arrived h heard)))
  heard-fits h Probe there = (there, (refl, tt))
  heard-fits h _ there = (there, (refl, tt))

  drop-fits : (cause : Cause) → AreOf n (form_of (line_kind (Step (Dropped cause)))) (line_values (Step (Dropped cause)))
  drop-fits OutOfRange = (refl, tt)
  drop-fits _ = (refl, tt)

  pub step-fits : (words : StepWords) → AreWordsIn n words → AreOf n (form_of (line_kind (Step words))) (line_values (Step words))
  step-fits (Injected k) there = (refl, (number-any k, tt))
  step-fits (Moved e) there = (refl, (there, tt))
  step-fits (Blocked e) there = (refl, (there, tt))
  step-fits (Arrived h heard) there = heard-fits h heard there
  step-fits (Dropped cause) there = drop-fits cause
  step-fits (Repeated serial) there = (refl, (number-any serial, tt))
  step-fits (Held serial) there = (refl, (number-any serial, tt))
  step-fits (Replayed e) there = (refl, (there, tt))
  step-fits _ there = (refl, tt)
