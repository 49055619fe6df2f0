-- How long a text is at most.
use Rattle.std.proofs.Common.{◌≡◌, ◌≤◌, ◌<◌, ℕ, zero, suc, ◌+◌, ◌-◌, ◌*◌, List, [], ◌∷◌, ◌++◌, true, length, length-append, map, nat_le, refl, ap, ◌∙◌, arith}
use Rattle.std.specs.Prelude.{codes, decimal, flat_map}
use Rattle.std.specs.List.{AllByRecursion, range_with_len}
use Rattle.std.proofs.lemmas.Bool.Decides.{nat_tests}
use Rattle.std.proofs.lemmas.Fmt.{length-decimal-le}
use Rattle.std.proofs.lemmas.Grind.{flat_map-append}
use Rattle.fab_text.specs.Written.{spaced, line_text}
use Rattle.fabric_gen.proofs.Messages.{size-small, peer-below}
use Rattle.fabric_gen.specs.Text.{below, lines_text, host_name, switch_name, host_words, switch_words, chain_words, link_words, fabric_lines, depth, mapping_lines, open_lines, peer, message_length, message_prio, message_seed, message_size, message_lines, messages_of, client_lines, settle_lines, poll_words, polls_of, closing_lines, gen_text}

-- a word of at most 9 bytes
abbrev IsShort : List ℕ → Type 0
IsShort w = nat_le (length w) 9 ≡ true

spaced-short : (ws : List (List ℕ)) → AllByRecursion IsShort ws → length (spaced ws) ≤ 10 * length ws
spaced-short [] all = omega arith
spaced-short (w ∷ []) all = let here : nat_le (length w) 9 ≡ true = all.0 in grind (arith, nat_tests)
spaced-short (w ∷ v ∷ ws) all =
    let here : nat_le (length w) 9 ≡ true = all.0 in
    let word : length w ≤ 9 = grind (arith, nat_tests) in
    let rest : length (spaced (v ∷ ws)) ≤ 10 * length (v ∷ ws) = spaced-short (v ∷ ws) all.1 in
    let sum : length (w ++ 32 ∷ spaced (v ∷ ws)) ≡ length w + length (32 ∷ spaced (v ∷ ws)) = length-append w (32 ∷ spaced (v ∷ ws)) in
    omega arith

-- a line of at most 8 short words
line-short : (ws : List (List ℕ)) → length ws ≤ 8 → AllByRecursion IsShort ws → length (line_text ws) ≤ 81
line-short ws few all =
    let words : length (spaced ws) ≤ 10 * length ws = spaced-short ws all in
    let sum : length (line_text ws) ≡ length (spaced ws) + 1 = length-append (spaced ws) (10 ∷ []) in
    omega arith

-- lines of short words
abbrev AreShort : List (List (List ℕ)) → Type 0
AreShort ls = AllByRecursion (λ l. length (line_text l) ≤ 81) ls

lines-short : (ls : List (List (List ℕ))) → AreShort ls → length (lines_text ls) ≤ 81 * length ls
lines-short [] all = omega arith
lines-short (l ∷ ls) all =
    let here : length (line_text l) ≤ 81 = all.0 in
    let rest : length (lines_text ls) ≤ 81 * length ls = lines-short ls all.1 in
    let sum : length (line_text l ++ lines_text ls) ≡ length (line_text l) + length (lines_text ls) = length-append (line_text l) (lines_text ls) in
    omega arith

-- lines after lines
two-short : (a b : ℕ) (ls ms : List (List (List ℕ))) → length (lines_text ls) ≤ a → length (lines_text ms) ≤ b → length (lines_text (ls ++ ms)) ≤ a + b
two-short a b ls ms h k =
    let sum : length (lines_text (ls ++ ms)) ≡ length (lines_text ls) + length (lines_text ms) =
    ap length (flat_map-append line_text ls ms) ∙ length-append (lines_text ls) (lines_text ms) in
    omega arith

-- the lines that each number of a range gives
range-short : (most : ℕ) (g : ℕ → List (List (List ℕ))) (a k : ℕ) → ((i : ℕ) → a ≤ i → i < a + k → length (lines_text (g i)) ≤ most)
    → length (lines_text (flat_map g (range_with_len a k))) ≤ k * most
range-short most g a zero each = omega arith
range-short most g a (suc k) each =
    let both = two-short most (k * most) (g a) (flat_map g (range_with_len (a + 1) k)) (each a (omega arith) (omega arith))
    (range-short most g (a + 1) k (λ i low high. each i (omega arith) (omega arith))) in
    omega arith

map-short : (f : ℕ → List (List ℕ)) (a k : ℕ) → ((i : ℕ) → a ≤ i → i < a + k → length (line_text (f i)) ≤ 81) → length (lines_text (map f (range_with_len a k))) ≤ k * 81
map-short f a zero each = omega arith
map-short f a (suc k) each =
    let here : length (line_text (f a)) ≤ 81 = each a (omega arith) (omega arith) in
    let rest = map-short f (a + 1) k (λ i low high. each i (omega arith) (omega arith)) in
    let sum : length (line_text (f a) ++ lines_text (map f (range_with_len (a + 1) k))) ≡ length (line_text (f a)) + length (lines_text (map f (range_with_len (a + 1) k))) =
    length-append (line_text (f a)) (lines_text (map f (range_with_len (a + 1) k))) in
    omega arith

number-short : (p : ℕ) → p ≤ 1000000 → IsShort (decimal p)
number-short p h = let k : length (decimal p) ≤ 7 = length-decimal-le 7 p (omega arith) (omega arith) (omega arith) in grind (arith, nat_tests)

host-short : (h : ℕ) → h ≤ 24 → IsShort (host_name h)
host-short h low = let k : length (decimal h) ≤ 2 = length-decimal-le 2 h (omega arith) (omega arith) (omega arith) in grind (arith, nat_tests)

switch-short : (s : ℕ) → s ≤ 24 → IsShort (switch_name s)
switch-short s low = let k : length (decimal s) ≤ 2 = length-decimal-le 2 s (omega arith) (omega arith) (omega arith) in grind (arith, nat_tests)

fabric-short : (n : ℕ) → n ≤ 24 → length (lines_text (fabric_lines n)) ≤ 8000
fabric-short n few =
    let hosts = map-short host_words 0 n (λ i low high. line-short (host_words i) (omega arith) (refl, (host-short i (omega arith), tt))) in
    let switches = map-short switch_words 0 n (λ i low high. line-short (switch_words i) (omega arith) (refl, (switch-short i (omega arith), (refl, tt)))) in
    let chain = map-short chain_words 0 (n - 1)
    (λ i low high. line-short (chain_words i) (omega arith) (refl, (switch-short i (omega arith), (refl, (switch-short (i + 1) (omega arith), (refl, tt)))))) in
    let links = map-short link_words 0 n
    (λ i low high. line-short (link_words i) (omega arith) (refl, (host-short i (omega arith), (refl, (switch-short i (omega arith), (refl, tt)))))) in
    let end : length (lines_text ((codes "script" ∷ []) ∷ [])) ≤ 81 = omega arith in
    let last = two-short (n * 81) 81 (map link_words (below n)) ((codes "script" ∷ []) ∷ []) links end in
    let third = two-short ((n - 1) * 81) (n * 81 + 81) (map chain_words (below (n - 1))) (map link_words (below n) ++ (codes "script" ∷ []) ∷ []) chain last in
    let second = two-short (n * 81) ((n - 1) * 81 + (n * 81 + 81)) (map switch_words (below n)) (map chain_words (below (n - 1)) ++ (map link_words (below n) ++ (codes "script" ∷ []) ∷ [])) switches third in
    let first = two-short (n * 81) (n * 81 + ((n - 1) * 81 + (n * 81 + 81))) (map host_words (below n))
    (map switch_words (below n) ++ (map chain_words (below (n - 1)) ++ (map link_words (below n) ++ (codes "script" ∷ []) ∷ []))) hosts second in
    omega arith

mapping-short : (n : ℕ) → n ≤ 24 → length (lines_text (mapping_lines n)) ≤ 243
mapping-short n few =
    lines-short (mapping_lines n) (
      line-short (codes "map" ∷ host_name 0 ∷ decimal (depth n) ∷ codes "1" ∷ []) (omega arith) (refl, (host-short 0 (omega arith), (number-short (depth n) (omega arith), (refl, tt)))),
      (line-short (codes "routes" ∷ []) (omega arith) (refl, tt), (line-short (codes "install" ∷ codes "1" ∷ []) (omega arith) (refl, (refl, tt)), tt)),
    )

open-short : (i : ℕ) → i ≤ 24 → length (lines_text (open_lines i)) ≤ 162
open-short i low =
    lines-short (open_lines i) (
      line-short (codes "open" ∷ host_name i ∷ codes "0" ∷ codes "4" ∷ codes "0" ∷ []) (omega arith) (refl, (host-short i low, (refl, (refl, (refl, tt))))),
      (line-short (codes "open" ∷ host_name i ∷ codes "1" ∷ codes "0" ∷ codes "4" ∷ []) (omega arith) (refl, (host-short i low, (refl, (refl, (refl, tt))))), tt),
    )

message-short : (n seed i m : ℕ) → 2 ≤ n → n ≤ 24 → i ≤ 24 → length (lines_text (message_lines n seed i m)) ≤ 162
message-short n seed i m two few low =
    let to : peer n seed i m < n = peer-below n seed i m two in
    let size : message_size seed i m ≤ 31 = size-small seed i m in
    let peer_name = host-short (peer n seed i m) (omega arith) in
    let prio = number-short (message_prio m) (omega arith) in
    lines-short (message_lines n seed i m) (
      line-short (codes "provide" ∷ host_name (peer n seed i m) ∷ codes "1" ∷ decimal (message_size seed i m) ∷ decimal (message_prio m) ∷ []) (omega arith)
          (refl, (peer_name, (refl, (number-short (message_size seed i m) (omega arith), (prio, tt))))),
      (
        line-short (codes "send" ∷ host_name i ∷ codes "0" ∷ host_name (peer n seed i m) ∷ codes "1" ∷ decimal (message_prio m) ∷ decimal (message_length seed i m) ∷ decimal (message_seed seed i m) ∷ []) (omega arith)
            (refl, (host-short i low, (refl, (peer_name, (refl, (prio, (number-short (message_length seed i m) (omega arith), (number-short (message_seed seed i m) (omega arith), tt)))))))),
        tt,
      ),
    )

clients-short : (n seed : ℕ) → 2 ≤ n → n ≤ 24 → length (lines_text (client_lines n seed)) ≤ n * 162 + n * 648
clients-short n seed two few =
    two-short (n * 162) (n * 648) (flat_map open_lines (below n)) (flat_map (messages_of n seed) (below n))
    (range-short 162 open_lines 0 n (λ i low high. open-short i (omega arith)))
    (range-short 648 (messages_of n seed) 0 n (λ i low high. range-short 162 (message_lines n seed i) 0 4 (λ m least most. message-short n seed i m two few (omega arith))))

settle-short : length (lines_text settle_lines) ≤ 324
settle-short = omega arith

polls-short : (i : ℕ) → i ≤ 24 → length (lines_text (polls_of i)) ≤ 324
polls-short i low =
    let one = line-short (poll_words i) (omega arith) (refl, (host-short i low, (refl, tt))) in
    lines-short (polls_of i) (one, (one, (one, (one, tt))))

closing-short : (n : ℕ) → n ≤ 24 → length (lines_text (closing_lines n)) ≤ 324 + (n * 324 + 81)
closing-short n few =
    let end : length (lines_text ((codes "end" ∷ []) ∷ [])) ≤ 81 = omega arith in
    two-short 324 (n * 324 + 81) settle_lines (flat_map polls_of (below n) ++ (codes "end" ∷ []) ∷ []) settle-short
    (two-short (n * 324) 81 (flat_map polls_of (below n)) ((codes "end" ∷ []) ∷ []) (range-short 324 polls_of 0 n (λ i low high. polls-short i (omega arith))) end)

pub text-short : (n seed : ℕ) → 2 ≤ n → n ≤ 24 → length (gen_text n seed) ≤ 65536
text-short n seed two few =
    let closing = closing-short n few in
    let clients = clients-short n seed two few in
    let last = two-short (n * 162 + n * 648) (324 + (n * 324 + 81)) (client_lines n seed) (closing_lines n) clients closing in
    let second = two-short 243 ((n * 162 + n * 648) + (324 + (n * 324 + 81))) (mapping_lines n) (client_lines n seed ++ closing_lines n) (mapping-short n few) last in
    let first = two-short 8000 (243 + ((n * 162 + n * 648) + (324 + (n * 324 + 81)))) (fabric_lines n) (mapping_lines n ++ (client_lines n seed ++ closing_lines n)) (fabric-short n few) second in
    omega arith
