-- What is reported of circuit links, from any host to any depth: the asking of the tree ends, and the whole
-- tree has a circuit map.
use Rattle.std.proofs.Common.{List, [], ◌∷◌, length, inl, inr, refl}
use Rattle.journal_defs.specs.declared.entry.Entry.{Entry}
use Rattle.circ_defs.specs.Asking.{IsTreeGrowing}
use Rattle.circ_laws.proofs.Growing.{grown_tree_is_whole}
use Rattle.circ_laws.specs.Laws.{IsTreeStopped}
use Rattle.mapping_laws.proofs.Trees.{tree_exists}
use Rattle.mapping_laws.proofs.Without.{circuit_map_exists}
use Rattle.run_defs.specs.declared.line.Line.TheVariants.{Circuit, CircuitNodes}
use Rattle.run_defs.specs.Circuit.IsCircuitTold.{whole, too_many_nodes}
use Rattle.run_defs.specs.Output.{OneLine, MapLines}
use Rattle.mapping_laws.specs.Circuits.{HasToldCircuit, CircuitIsTold}

pub circuit_is_told : CircuitIsTold
circuit_is_told n host depth f = let t = tree_exists n host depth in by t.0 t.1 t.2
  where
    by : (j : List Entry) → IsTreeGrowing n host depth j → IsTreeStopped depth j → HasToldCircuit n host depth
    by j g (inl ended) =
        let k = circuit_map_exists n host depth j f (grown_tree_is_whole n host depth j g ended) in
        record { out = OneLine (Circuit host depth (length j)) ∷ MapLines k.0 ∷ []; told = whole j k.0 g ended k.1 refl }
    by j g (inr limit) = record { out = OneLine (CircuitNodes host (length j)) ∷ []; told = too_many_nodes j g limit refl }
