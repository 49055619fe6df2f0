-- Lines of printed words, read again as the lines of a fabric.
use Rattle.std.proofs.Common.{◌≡◌, ℕ, ◌+◌, ◌-◌, List, [], ◌∷◌, ◌++◌, true, false, length, Result, Ok, ap, ◌∙◌, if◌then◌else◌}
use Rattle.net_defs.specs.Network.{Network}
use Rattle.fab_text.specs.Line.{TextLine, lines_left, says_nothing}
use Rattle.fab_text.specs.Fault.{FirstFault, at_line, and_then}
use Rattle.fab_text.specs.Written.{line_text}
use Rattle.fabric_file.specs.declared.reading.FabricText.{FabricText}
use Rattle.fabric_file.specs.Declaring.{declared, is_script}
use Rattle.fabric_file.specs.Reading.{fabric_from}
use Rattle.fabric_file.specs.Plain.{ArePlain}
use Rattle.fabric_file.proofs.PlainLines.{words-spaced, left-printed}

-- what the lines from a line of these words on say
abbrev from_words : ℕ → ℕ → Network → ℕ → List ℕ → List TextLine → List (List ℕ) → Result FabricText FirstFault
from_words size past n k after ls ws =
    if is_script ws then Ok (record { fabric = n; next = size - length after; line = k })
    else and_then (at_line k (declared n ws)) (λ m. fabric_from size past m ls)

-- a printed line is read as what its words declare
pub printed-declares : (size past k : ℕ) (n m : Network) (w : List ℕ) (ws : List (List ℕ)) (rest : List ℕ) → ArePlain (w ∷ ws) → says_nothing (w ∷ ws) ≡ false → is_script (w ∷ ws) ≡ false → declared n (w ∷ ws) ≡ Ok m
    → fabric_from size past n (lines_left (record { number = k; text = line_text (w ∷ ws) ++ rest })) ≡ fabric_from size past m (lines_left (record { number = k + 1; text = rest }))
printed-declares size past k n m w ws rest all says s d =
    let ls = lines_left (record { number = k + 1; text = rest }) in
    ap (fabric_from size past n) (left-printed k w ws rest all says)
    ∙ ap (from_words size past n k rest ls) (words-spaced (w ∷ ws) all)
    ∙ (λ i. if s i then Ok (record { fabric = n; next = size - length rest; line = k }) else and_then (at_line k (d i)) (λ m. fabric_from size past m ls))

-- the line `script`
pub printed-script : (size past k : ℕ) (n : Network) (w : List ℕ) (ws : List (List ℕ)) (rest : List ℕ) → ArePlain (w ∷ ws) → says_nothing (w ∷ ws) ≡ false → is_script (w ∷ ws) ≡ true
    → fabric_from size past n (lines_left (record { number = k; text = line_text (w ∷ ws) ++ rest })) ≡ Ok (record { fabric = n; next = size - length rest; line = k })
printed-script size past k n w ws rest all says s =
    let ls = lines_left (record { number = k + 1; text = rest }) in
    ap (fabric_from size past n) (left-printed k w ws rest all says)
    ∙ ap (from_words size past n k rest ls) (words-spaced (w ∷ ws) all)
    ∙ (λ i. if s i then Ok (record { fabric = n; next = size - length rest; line = k }) else and_then (at_line k (declared n (w ∷ ws))) (λ m. fabric_from size past m ls))
