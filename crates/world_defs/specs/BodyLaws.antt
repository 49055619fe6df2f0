-- What holds of every body of the mapper's protocol.
use Rattle.std.specs.Prelude.{◌≡◌, ℕ, true, List, Some}
use Rattle.gm_defs.specs.Laws.{AreBytes}
use Rattle.world_defs.specs.Mapping.{MappingBody, mapping_bytes, is_mapping, decode_mapping}

-- a body of the mapper's protocol that is by the rules is read as what it is
abbrev pub MappingIsRead : Type 0
MappingIsRead = (b : MappingBody) → is_mapping b ≡ true → decode_mapping (mapping_bytes b) ≡ Some b

-- and what is read as one was written so, by the rules
abbrev pub MappingWasWritten : Type 0
MappingWasWritten = (bytes : List ℕ) (b : MappingBody) → AreBytes bytes → decode_mapping bytes ≡ Some b
    → (bytes ≡ mapping_bytes b) × (is_mapping b ≡ true)
