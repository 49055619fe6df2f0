-- Words after others, as they are written, and the parts that lines are written in.
use Rattle.std.specs.Prelude.{ℕ, ◌-◌, List, [], ◌∷◌, take, drop, length, flat_map, codes, decimal}
use Rattle.net_defs.specs.Network.{Network, empty_network}
use Rattle.world_defs.specs.declared.effect.Said.{Said}
use Rattle.world_defs.specs.declared.effect.Said.TheVariants.{Received, Refused}
use Rattle.run_defs.specs.declared.line.MapWords.{MapWords}
use Rattle.run_defs.specs.declared.line.ClientCall.TheVariants.{Begin}
use Rattle.run_defs.specs.declared.line.Line.TheVariants.{GenMap, Client}
use Rattle.run_defs.specs.LineText.{words_in}

-- words that follow others in a line: a space before each
abbrev pub behind : List (List ℕ) → List ℕ
behind ws = flat_map (λ w. 32 ∷ w) ws

-- what a client's call said: the words of its line after the port
abbrev pub said_words : Network → Said → List (List ℕ)
said_words n said = drop 3 (words_in n (Client Begin 0 0 said))

-- what a call said, where that is a few words that name nothing of a fabric
abbrev pub few_words : Said → List (List ℕ)
few_words (Received token from sport prio body) = []
few_words (Refused cause) = []
few_words said = said_words empty_network said

-- what a call said, where it isn't: the words of a message that was received, or why the call is refused
abbrev pub more_words : Network → Said → List (List ℕ)
more_words n (Received token from sport prio body) = said_words n (Received token from sport prio body)
more_words n (Refused cause) = said_words n (Refused cause)
more_words n said = []

-- words but the last four
abbrev pub but_four : List (List ℕ) → List (List ℕ)
but_four ws = take (length ws - 4) ws

-- how far a map is known to be right: the words of its line before those of its asks and packets
abbrev pub known_words : MapWords → List (List ℕ)
known_words words = but_four (drop 1 (words_in empty_network (GenMap words 0 0)))
