-- The words of the lines whose last values are a list: routes, and the tokens of a port.
use Rattle.std.proofs.Common.{◌≡◌, ℕ, ℤ, List, [], ◌∷◌, ◌++◌, map, codes, decimal, refl, ap}
use Rattle.std.specs.Prelude.{flat_map}
use Rattle.net_defs.specs.Network.{Network}
use Rattle.line_table.specs.Texts.{host_name, turn_text}
use Rattle.line_table.specs.Form.{TurnBy, Word, words_of_value}
use Rattle.run_defs.specs.declared.line.PlaceEntry.{PlaceEntry}
use Rattle.run_defs.specs.declared.line.Line.TheVariants.{Route, Tokens}
use Rattle.run_defs.specs.LineRows.{place_text, place_value}
use Rattle.run_defs.specs.LineText.{words_in}

turns-words : (n : Network) (walk : List ℤ) → flat_map (words_of_value n) (map TurnBy walk) ≡ map turn_text walk
turns-words n [] = refl
turns-words n (t ∷ ts) = ap (λ ws. turn_text t ∷ ws) (turns-words n ts)

places-words : (n : Network) (es : List PlaceEntry) → flat_map (words_of_value n) (map place_value es) ≡ map place_text es
places-words n [] = refl
places-words n (e ∷ es) = ap (λ ws. place_text e ∷ ws) (places-words n es)

both-words : (n : Network) (es fs : List PlaceEntry)
    → flat_map (words_of_value n) (map place_value es ++ Word (codes "recv") ∷ map place_value fs) ≡ map place_text es ++ codes "recv" ∷ map place_text fs
both-words n [] fs = ap (λ ws. codes "recv" ∷ ws) (places-words n fs)
both-words n (e ∷ es) fs = ap (λ ws. place_text e ∷ ws) (both-words n es fs)

pub route-words : (n : Network) (from to : ℕ) (walk : List ℤ) → words_in n (Route from to walk) ≡ codes "route" ∷ host_name n from ∷ host_name n to ∷ map turn_text walk
route-words n from to walk = ap (λ ws. codes "route" ∷ host_name n from ∷ host_name n to ∷ ws) (turns-words n walk)

pub tokens-words : (n : Network) (host port : ℕ) (sends recvs : List PlaceEntry)
    → words_in n (Tokens host port sends recvs) ≡ codes "tokens" ∷ host_name n host ∷ decimal port ∷ codes "send" ∷ map place_text sends ++ codes "recv" ∷ map place_text recvs
tokens-words n host port sends recvs = ap (λ ws. codes "tokens" ∷ host_name n host ∷ decimal port ∷ codes "send" ∷ ws) (both-words n sends recvs)
