-- The parts that lines are written in, and their whole.
use Rattle.std.proofs.Common.{◌≡◌, ℕ, [], ◌∷◌, ◌++◌, codes, decimal, refl}
use Rattle.net_defs.specs.Network.{Network}
use Rattle.world_defs.specs.declared.effect.Said.{Said}
use Rattle.world_defs.specs.declared.effect.Said.TheVariants.{Done, Refused}
use Rattle.world_defs.specs.declared.client.ClientCause.TheVariants.{Already}
use Rattle.line_table.specs.Texts.{host_name}
use Rattle.run_defs.specs.declared.line.MapWords.{MapWords}
use Rattle.run_defs.specs.declared.line.MapWords.TheVariants.{Complete}
use Rattle.run_defs.specs.declared.line.ClientCall.{ClientCall}
use Rattle.run_defs.specs.declared.line.Line.TheVariants.{Map, GenMap, Client}
use Rattle.run_defs.specs.LineRows.{call_word}
use Rattle.run_defs.specs.LineText.{words_in}
use Rattle.fab_report.specs.Words.{said_words, known_words}

pub call-words : (n : Network) (call : ClientCall) (host port : ℕ) (said : Said)
    → call_word call ∷ host_name n host ∷ decimal port ∷ said_words n said ≡ words_in n (Client call host port said)
call-words n call host port Done = refl
call-words n call host port (Refused Already) = refl
call-words n call host port (Refused _) = refl
call-words n call host port _ = refl

pub map-words : (n : Network) (host : ℕ) (words : MapWords) (asks packets : ℕ)
    → codes "map" ∷ host_name n host ∷ known_words words ++ codes "asks" ∷ decimal asks ∷ codes "packets" ∷ decimal packets ∷ [] ≡ words_in n (Map host words asks packets)
map-words n host Complete asks packets = refl
map-words n host _ asks packets = refl

pub gen-words : (n : Network) (words : MapWords) (asks packets : ℕ)
    → codes "map" ∷ known_words words ++ codes "asks" ∷ decimal asks ∷ codes "packets" ∷ decimal packets ∷ [] ≡ words_in n (GenMap words asks packets)
gen-words n Complete asks packets = refl
gen-words n _ asks packets = refl
