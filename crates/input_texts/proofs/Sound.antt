-- A text has a sound line where its fabric part has one, and where its script has.
use Rattle.std.proofs.Common.{◌≡◌, ◌<◌, ℕ, List, length, drop, Ok, sym, subst, arith, length-append}
use Rattle.fab_script.specs.Lists.{sound_lines as sound_of_script}
use Rattle.fabric_file.specs.declared.reading.FabricText.{FabricText}
use Rattle.fabric_file.specs.Reading.{fabric_reading, sound_lines as sound_of_fabric}
use Rattle.input_texts.specs.Reading.{sound_behind, sound_lines}

pub sound-fabric : (text : List ℕ) → 0 < length (sound_of_fabric text) → 0 < length (sound_lines text)
sound-fabric text some = let sum = length-append (sound_of_fabric text) (sound_behind text (fabric_reading text)) in omega (arith, some, sum)

pub sound-script : (text : List ℕ) (t : FabricText) → fabric_reading text ≡ Ok t → 0 < length (sound_of_script t.fabric t.line (drop t.next text)) → 0 < length (sound_lines text)
sound-script text t e some =
    let sum = length-append (sound_of_fabric text) (sound_behind text (fabric_reading text)) in
    let there : 0 < length (sound_behind text (fabric_reading text)) = subst (λ r. 0 < length (sound_behind text r)) (sym e) some in
    omega (arith, there, sum)
