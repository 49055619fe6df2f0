-- Lines that are written in more than one part: the first words, and those after them.
use Rattle.std.proofs.Common.{ℕ, ℤ, ◌≡◌, ◌<◌, ◌≤◌, ◌+◌, ◌-◌, ◌/◌, ◌%◌, List, [], ◌∷◌, ◌++◌, refl, ap, sym, ◌∙◌, map, codes, decimal, arith, length, replicate, take, take_at}
use Rattle.std.specs.Prelude.{flat_map}
use Rattle.std.proofs.lemmas.Fmt.{decimal_digit, decimal_step}
use Rattle.std.proofs.lemmas.Grind.{flat_map-append}
use Rattle.std.proofs.lemmas.List.{append_assoc}
use Rattle.std.proofs.lemmas.List.Folds.{flat_map-map}
use Rattle.net_defs.specs.Network.{Network}
use Rattle.fab_text.specs.Written.{spaced}
use Rattle.line_writing.proofs.Written.{spaced_behind}
use Rattle.run_defs.specs.declared.line.PlaceEntry.{PlaceEntry}
use Rattle.run_defs.specs.declared.line.Line.TheVariants.{Route, Tokens}
use Rattle.line_table.specs.Texts.{turn_text, host_name}
use Rattle.run_defs.specs.LineRows.{place_text}
use Rattle.run_defs.specs.LineText.{words_in}
use Rattle.run_defs.proofs.RowWords.{route-words, tokens-words}
use Rattle.world_defs.specs.declared.effect.Said.{Said}
use Rattle.world_defs.specs.declared.effect.Said.TheVariants.{Done, Count, Token, Sent, Received, Nothing, Refused}
use Rattle.fab_report.specs.Words.{behind, few_words, more_words, said_words}

-- words with one space between them are the first, and two lists of others after it
spaced_both : (w : List ℕ) (ws vs : List (List ℕ)) → spaced (w ∷ (ws ++ vs)) ≡ w ++ (behind ws ++ behind vs)
spaced_both w ws vs = spaced_behind w (ws ++ vs) ∙ ap (λ t. w ++ t) (flat_map-append (λ x. 32 ∷ x) ws vs)

-- two parts that were written one after the other
two : (old a b : List ℕ) {t u : List ℕ} → t ≡ old ++ a → u ≡ t ++ b → u ≡ old ++ (a ++ b)
two old a b e f = f ∙ ap (λ x. x ++ b) e ∙ append_assoc old a b

-- three parts that were written one after the other
pub three_parts : (old a b c : List ℕ) {t u v : List ℕ} → t ≡ old ++ a → u ≡ t ++ b → v ≡ u ++ c → v ≡ old ++ (a ++ (b ++ c))
three_parts old a b c {t} e f g = two old a (b ++ c) e (two t b c f g)

-- words of a line, and others after them
pub continued : (old w : List ℕ) (ws vs : List (List ℕ)) {t u : List ℕ} → t ≡ old ++ spaced (w ∷ ws) → u ≡ t ++ behind vs → u ≡ old ++ spaced (w ∷ (ws ++ vs))
continued old w ws vs e f =
    two old (spaced (w ∷ ws)) (behind vs) e f
    ∙ ap (λ t. old ++ t) (ap (λ t. t ++ behind vs) (spaced_behind w ws) ∙ append_assoc w (behind ws) (behind vs) ∙ sym (spaced_both w ws vs))

-- the same where they are the words of a whole line
pub line_continued : (old w : List ℕ) (ws vs line : List (List ℕ)) {t u : List ℕ} → w ∷ (ws ++ vs) ≡ line → t ≡ old ++ spaced (w ∷ ws) → u ≡ t ++ behind vs → u ≡ old ++ spaced line
line_continued old w ws vs line whole e f = continued old w ws vs e f ∙ ap (λ l. old ++ spaced l) whole

-- words after others, and more after them
pub followed_by : (old : List ℕ) (ws vs : List (List ℕ)) {t u : List ℕ} → t ≡ old ++ behind ws → u ≡ t ++ behind vs → u ≡ old ++ behind (ws ++ vs)
followed_by old ws vs e f = two old (behind ws) (behind vs) e f ∙ ap (λ t. old ++ t) (sym (flat_map-append (λ x. 32 ∷ x) ws vs))

-- bytes that were put into room behind a text, of which the rest was cut off
pub put_behind : (old bytes v tail : List ℕ) (begin room end len : ℕ) {t u w : List ℕ} → begin ≡ length old → t ≡ old ++ replicate room 0 → u ≡ t
    → take end v ≡ take begin u ++ bytes → length v ≡ len → w ≡ take end (take len (v ++ tail)) → w ≡ old ++ bytes
put_behind old bytes v tail begin room end len at zeros lent put long cut =
    cut ∙ ap (take end) (take_at v tail len long)
    ∙ put ∙ ap (λ l. l ++ bytes) (ap (take begin) (lent ∙ zeros) ∙ take_at old (replicate room 0) begin (sym at))

-- a route with its turns
pub routed : (n : Network) (old : List ℕ) (from to : ℕ) (ts : List ℤ) {t u : List ℕ} → t ≡ old ++ spaced (codes "route" ∷ host_name n from ∷ host_name n to ∷ [])
    → u ≡ t ++ flat_map (λ x. 32 ∷ turn_text x) ts
    → u ≡ old ++ spaced (words_in n (Route from to ts))
routed n old from to ts {t} e f =
    line_continued old (codes "route") (host_name n from ∷ host_name n to ∷ []) (map turn_text ts) (words_in n (Route from to ts)) (sym (route-words n from to ts)) e (f ∙ ap (λ x. t ++ x) (sym (flat_map-map (λ w. 32 ∷ w) turn_text ts)))

-- tokens with their places after a word
places_behind : (ps : List PlaceEntry) → behind (map place_text ps) ≡ flat_map (λ p. 32 ∷ place_text p) ps
places_behind ps = flat_map-map (λ w. 32 ∷ w) place_text ps

-- tokens of both kinds with their places
pub placed : (old : List ℕ) (xs ys : List PlaceEntry) {t u v : List ℕ} → t ≡ old ++ flat_map (λ x. 32 ∷ place_text x) xs
    → u ≡ t ++ behind (codes "recv" ∷ [])
    → v ≡ u ++ flat_map (λ x. 32 ∷ place_text x) ys
    → v ≡ old ++ behind (map place_text xs ++ codes "recv" ∷ map place_text ys)
placed old xs ys {t} {u} e f g =
    followed_by old (map place_text xs) (codes "recv" ∷ map place_text ys)
    (e ∙ ap (λ z. old ++ z) (sym (places_behind xs)))
    (followed_by t (codes "recv" ∷ []) (map place_text ys) f (g ∙ ap (λ z. u ++ z) (sym (places_behind ys))))

-- the line of a port's tokens, part by part
pub tokens_written : (n : Network) (host port : ℕ) (xs ys : List PlaceEntry) {t u v w : List ℕ} → t ≡ spaced (codes "tokens" ∷ host_name n host ∷ decimal port ∷ codes "send" ∷ [])
    → u ≡ t ++ flat_map (λ x. 32 ∷ place_text x) xs
    → v ≡ u ++ codes " recv"
    → w ≡ v ++ flat_map (λ x. 32 ∷ place_text x) ys
    → w ≡ spaced (words_in n (Tokens host port xs ys))
tokens_written n host port xs ys {t} e f g h =
    line_continued [] (codes "tokens") (host_name n host ∷ decimal port ∷ codes "send" ∷ []) (map place_text xs ++ codes "recv" ∷ map place_text ys)
    (words_in n (Tokens host port xs ys)) (sym (tokens-words n host port xs ys)) e (placed t xs ys f g h)

-- a number from 10 to 19 is written as a one, and then what is above 10
pub teen : (n : ℕ) → 10 ≤ n → n < 20 → decimal n ≡ 49 ∷ (48 + (n - 10)) ∷ []
teen n least most =
    let tens : n / 10 ≡ 1 = omega arith in
    let ones : n % 10 ≡ n - 10 = omega arith in
    decimal_step n least (omega arith)
    ∙ (λ i. decimal (tens i) ++ (48 + ones i) ∷ [])
    ∙ ap (λ l. l ++ (48 + (n - 10)) ∷ []) (decimal_digit 1 (omega arith))

-- a number of two digits is written as its tens, and then what is left
pub tens : (n : ℕ) → 10 ≤ n → n < 100 → decimal n ≡ (48 + n / 10) ∷ (48 + n % 10) ∷ []
tens n least most =
    decimal_step n least (omega arith)
    ∙ ap (λ l. l ++ (48 + n % 10) ∷ []) (decimal_digit (n / 10) (omega arith))

-- what a call said is said in few words, or in more
said-words : (n : Network) (said : Said) → few_words said ++ more_words n said ≡ said_words n said
said-words n Done = refl
said-words n (Count k) = refl
said-words n (Token k) = refl
said-words n (Sent k) = refl
said-words n (Received token from sport prio body) = refl
said-words n Nothing = refl
said-words n (Refused cause) = refl

-- a call with what it was answered
pub answered : (n : Network) (old call name port : List ℕ) (said : Said) (line : List (List ℕ)) {t u : List ℕ} → call ∷ name ∷ port ∷ said_words n said ≡ line
    → t ≡ old ++ (spaced (call ∷ name ∷ port ∷ []) ++ behind (few_words said)) → u ≡ t ++ behind (more_words n said) → u ≡ old ++ spaced line
answered n old call name port said line {t} {u} whole e f =
    let front = old ++ spaced (call ∷ name ∷ port ∷ []) in
    let few = behind (few_words said) in
    let more = behind (more_words n said) in
    let both : few ++ more ≡ behind (said_words n said) = sym (flat_map-append (λ w. 32 ∷ w) (few_words said) (more_words n said)) ∙ ap behind (said-words n said) in
    line_continued old call (name ∷ port ∷ []) (said_words n said) line {t = front} whole refl
    (f ∙ ap (λ l. l ++ more) (e ∙ sym (append_assoc old (spaced (call ∷ name ∷ port ∷ [])) few)) ∙ append_assoc front few more ∙ ap (λ l. front ++ l) both)
