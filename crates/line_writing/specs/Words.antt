-- How a word of a line is written.
use Rattle.std.specs.Prelude.{ℕ, List, ◌∷◌, ◌++◌, codes, decimal}
use Rattle.hex.specs.Hex.{encode_lower}
use Rattle.line_writing.specs.declared.word.Word.{Word}
use Rattle.line_writing.specs.declared.word.Word.TheVariants.{Text, Number, Marked, Entry, Hex}

-- a word as it is written
abbrev pub word_text : Word → List ℕ
word_text (Text bytes) = bytes.now
word_text (Number n) = decimal n
word_text (Marked mark n) = mark ∷ decimal n
word_text (Entry n value) = decimal n ++ codes "=" ++ value.now
word_text (Hex bytes) = encode_lower bytes.now
