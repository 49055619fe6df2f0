-- The commands that a script says are over its fabric, so the laws of runs hold of them.
use Rattle.std.proofs.Common.{◌≡◌, ◌<◌, ℕ, List, length, Ok, true, arith}
use Rattle.std.specs.List.{AllByRecursion}
use Rattle.std.proofs.lemmas.Bool.Decides.{nat_tests}
use Rattle.net_defs.specs.declared.vertex.Vertex.TheVariants.{Host}
use Rattle.net_defs.specs.Network.{Network, has_vertex}
use Rattle.net_defs.proofs.Distinct.{all-weaker}
use Rattle.run_defs.specs.declared.command.Command.{Command}
use Rattle.run_defs.specs.declared.command.Command.TheVariants.{Map, Circuit, Plan, Step}
use Rattle.run_defs.specs.declared.command.PlanKind.TheVariants.{Flip}
use Rattle.run_defs.specs.declared.command.StepLine.{StepLine}
use Rattle.run_defs.specs.declared.command.StepLine.TheVariants.{Flip as FlipStep}
use Rattle.run_defs.specs.Script.{script_reading}
use Rattle.fab_script.specs.Ranges.{IsStepOf, IsCommandOf}
use Rattle.fab_script.proofs.Ranged.{reading_ranged}
use Rattle.run_defs.specs.Headline.{FitsFabric}
use Rattle.mapping_laws.proofs.Printed.{complete_maps_are_true, deep_maps_are_complete}
use Rattle.run_laws.specs.Acts.{IsByteStep, IsActOf}
use Rattle.run_laws.proofs.Reaching.{run_is_reached, run_has_no_cycle}
use Rattle.promise_laws.specs.Scripts.{ScriptMapsAreTrue, DeepMapsOfScriptsAreComplete, ScriptIsReached, ScriptHasNoCycle}

host-below : (n : Network) (h : ℕ) → has_vertex n (Host h) ≡ true → h < length n.hosts
host-below n h there = grind (arith, nat_tests)

pub said-command : (n : Network) (c : Command) → IsCommandOf n c → FitsFabric n c
said-command n (Map h depth tries) is = (host-below n h is.0, (let low = is.1.1 in omega (arith, low)))
said-command n (Circuit h depth) is = host-below n h is.0
said-command n (Plan ahead (Flip bit pattern)) is = let low = is.1.1.1 in omega (arith, low)
said-command n _ is = tt

said-all : (n : Network) (line : ℕ) (text : List ℕ) (commands : List Command) → script_reading n line text ≡ Ok commands → AllByRecursion (FitsFabric n) commands
said-all n line text commands said = all-weaker (IsCommandOf n) (FitsFabric n) commands (said-command n) (reading_ranged n line text (Ok commands) said)

pub script_maps_are_true : ScriptMapsAreTrue
script_maps_are_true n line text commands out last mapper m f said r p = complete_maps_are_true n commands f (said-all n line text commands said) out last mapper m r p

pub deep_maps_of_scripts_are_complete : DeepMapsOfScriptsAreComplete
deep_maps_of_scripts_are_complete n line text commands out s host depth tries after j m words f said r there low made quiet some few deep =
    deep_maps_are_complete n commands out s host depth tries after j m words f (said-all n line text commands said) r (there, low) made quiet some few deep

-- they are acts over the fabric too
said-step : (n : Network) (line : StepLine) → IsStepOf n line → IsByteStep line
said-step n (FlipStep e bit pattern) is = let low = is.1.1.1 in omega (arith, low)
said-step n line is = tt

pub said-act : (n : Network) (c : Command) → IsCommandOf n c → IsActOf n c
said-act n (Map h depth tries) is = said-command n (Map h depth tries) is
said-act n (Circuit h depth) is = said-command n (Circuit h depth) is
said-act n (Plan ahead kind) is = (is.0.0, said-command n (Plan ahead kind) is)
said-act n (Step line) is = said-step n line is
said-act n c is = tt

acts-all : (n : Network) (line : ℕ) (text : List ℕ) (commands : List Command) → script_reading n line text ≡ Ok commands → AllByRecursion (IsActOf n) commands
acts-all n line text commands said = all-weaker (IsCommandOf n) (IsActOf n) commands (said-act n) (reading_ranged n line text (Ok commands) said)

pub script_is_reached : ScriptIsReached
script_is_reached n line text commands out last f said r = run_is_reached n commands out last f (acts-all n line text commands said) r

pub script_has_no_cycle : ScriptHasNoCycle
script_has_no_cycle n line text commands out last f said r = run_has_no_cycle n commands out last f (acts-all n line text commands said) r
