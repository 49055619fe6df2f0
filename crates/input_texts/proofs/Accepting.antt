-- A generated text is read as its fabric and its commands.
use Rattle.std.proofs.Common.{◌≡◌, ◌≤◌, ◌<◌, ℕ, ◌+◌, ◌*◌, List, [], ◌∷◌, ◌++◌, length, length-append, drop, Ok, ap, sym, ◌∙◌, append_assoc, arith}
use Rattle.std.specs.Prelude.{codes, flat_map}
use Rattle.std.proofs.Math.Seq.{drop-append_seam}
use Rattle.std.proofs.lemmas.Grind.{flat_map-append}
use Rattle.net_defs.specs.Network.{Network}
use Rattle.fab_text.specs.Line.{lines_left, line_count}
use Rattle.fab_text.specs.Written.{line_text}
use Rattle.run_defs.specs.declared.command.Command.{Command}
use Rattle.run_defs.specs.declared.command.Command.TheVariants.{Finish}
use Rattle.run_defs.specs.Script.{script_from, script_reading}
use Rattle.fabric_file.specs.Reading.{fabric_reading}
use Rattle.fabric_file.specs.Printing.{fabric_text, script_line}
use Rattle.fabric_file.proofs.ReadBack.{fabric-read-back}
use Rattle.fabric_gen.specs.Text.{below, lines_text, fabric_lines, mapping_lines, open_lines, client_lines, closing_lines, settle_lines, message_lines, messages_of, message_length, message_prio, message_seed, message_size, peer, polls_of, depth, gen_text}
use Rattle.fabric_gen.proofs.Messages.{size-small, peer-below}
use Rattle.input_texts.specs.Generated.{gen_fabric, gen_commands, mapping_commands, open_commands, client_commands, commands_of, message_commands, settle_commands, poll_commands, script_start, EachIsAccepted}
use Rattle.input_texts.proofs.Cases.{IsCase, each-case}
use Rattle.input_texts.proofs.Meant.{IsThere, map-said, open-sender-said, open-receiver-said, poll-said, provide-said, send-said, routes-said, install-said, lose-said, hold-said, repeat-said, settle-said}
use Rattle.input_texts.proofs.Saying.{Says, says-both, says-range, read-lines, read-end}

-- the last of five lists, after the others
shifted : {X : Type 0} (a b c d e : List X) → a ++ (b ++ (c ++ (d ++ e))) ≡ (a ++ (b ++ (c ++ d))) ++ e
shifted a b c d e = sym (simp append_assoc)

prio-small : (m : ℕ) → message_prio m ≤ 1
prio-small m = omega arith

length-small : (seed i m : ℕ) → message_length seed i m ≤ 1000000
length-small seed i m = omega arith

seed-small : (seed i m : ℕ) → message_seed seed i m ≤ 255
seed-small seed i m = omega arith

hosts-there : (n : ℕ) → IsCase n → (h : ℕ) → h < n → IsThere (gen_fabric n) h
hosts-there n k h low = record { named = k.named h low; found = k.found h low }

mapping-says : (n : ℕ) → IsThere (gen_fabric n) 0 → n ≤ 24 → Says (gen_fabric n) (mapping_lines n) (mapping_commands n)
mapping-says n zero few = let f = gen_fabric n in (map-said f 0 (depth n) zero (omega arith) (omega arith), (routes-said f, (install-said f, tt)))

messages-say : (n seed i m : ℕ) → IsThere (gen_fabric n) i → IsThere (gen_fabric n) (peer n seed i m) → Says (gen_fabric n) (message_lines n seed i m) (message_commands n seed i m)
messages-say n seed i m there other =
    let f = gen_fabric n in (
      provide-said f (peer n seed i m) (message_size seed i m) (message_prio m) other (size-small seed i m) (prio-small m),
      (send-said f i (peer n seed i m) (message_prio m) (message_length seed i m) (message_seed seed i m) there other (prio-small m) (length-small seed i m) (seed-small seed i m), tt),
    )

clients-say : (n seed : ℕ) → 2 ≤ n → ((h : ℕ) → h < n → IsThere (gen_fabric n) h) → Says (gen_fabric n) (client_lines n seed) (client_commands n seed)
clients-say n seed two there =
    let f = gen_fabric n in
    says-both f (flat_map open_lines (below n)) (flat_map (messages_of n seed) (below n)) (flat_map open_commands (below n)) (flat_map (commands_of n seed) (below n))
    (says-range f open_lines open_commands 0 n (λ i low high. (open-sender-said f i (there i (omega arith)), (open-receiver-said f i (there i (omega arith)), tt))))
    (says-range f (messages_of n seed) (commands_of n seed) 0 n
    (λ i low high.
    says-range f (message_lines n seed i) (message_commands n seed i) 0 4
    (λ m least most. messages-say n seed i m (there i (omega arith)) (there (peer n seed i m) (peer-below n seed i m two)))))

settle-says : (f : Network) → Says f settle_lines settle_commands
settle-says f = (lose-said f, (hold-said f, (repeat-said f, (settle-said f, tt))))

polls-say : (n : ℕ) → ((h : ℕ) → h < n → IsThere (gen_fabric n) h) → Says (gen_fabric n) (flat_map polls_of (below n)) (flat_map poll_commands (below n))
polls-say n there =
    says-range (gen_fabric n) polls_of poll_commands 0 n (λ i low high. let one = poll-said (gen_fabric n) i (there i (omega arith)) in (one, (one, (one, (one, tt)))))

-- the lines of the script before its last
abbrev body_lines : ℕ → ℕ → List (List (List ℕ))
body_lines n seed = mapping_lines n ++ (client_lines n seed ++ (settle_lines ++ flat_map polls_of (below n)))

abbrev body_commands : ℕ → ℕ → List Command
body_commands n seed = mapping_commands n ++ (client_commands n seed ++ (settle_commands ++ flat_map poll_commands (below n)))

body-says : (n seed : ℕ) → 2 ≤ n → n ≤ 24 → ((h : ℕ) → h < n → IsThere (gen_fabric n) h) → Says (gen_fabric n) (body_lines n seed) (body_commands n seed)
body-says n seed two few there =
    let f = gen_fabric n in
    let polls = flat_map polls_of (below n) in
    let polled = flat_map poll_commands (below n) in
    says-both f (mapping_lines n) (client_lines n seed ++ (settle_lines ++ polls)) (mapping_commands n) (client_commands n seed ++ (settle_commands ++ polled))
    (mapping-says n (there 0 (omega arith)) few)
    (says-both f (client_lines n seed) (settle_lines ++ polls) (client_commands n seed) (settle_commands ++ polled) (clients-say n seed two there)
    (says-both f settle_lines polls settle_commands polled (settle-says f) (polls-say n there)))

-- the script of a text
abbrev script_text : ℕ → ℕ → List ℕ
script_text n seed = lines_text (mapping_lines n ++ (client_lines n seed ++ closing_lines n))

-- its lines before the last, and its last
script-split : (n seed : ℕ) → script_text n seed ≡ lines_text (body_lines n seed) ++ line_text (codes "end" ∷ [])
script-split n seed =
    ap lines_text (shifted (mapping_lines n) (client_lines n seed) settle_lines (flat_map polls_of (below n)) ((codes "end" ∷ []) ∷ []))
    ∙ flat_map-append line_text (body_lines n seed) ((codes "end" ∷ []) ∷ [])

script-read : (n seed line : ℕ) → 2 ≤ n → n ≤ 24 → ((h : ℕ) → h < n → IsThere (gen_fabric n) h) → script_reading (gen_fabric n) line (script_text n seed) ≡ Ok (gen_commands n seed)
script-read n seed line two few there =
    let f = gen_fabric n in
    let past = line + line_count (script_text n seed) + 1 in
    ap (λ t. script_from past f (lines_left (record { number = line + 1; text = t }))) (script-split n seed)
    ∙ read-lines past (line + 1) f (body_lines n seed) (body_commands n seed) (line_text (codes "end" ∷ [])) (Finish ∷ []) (body-says n seed two few there) (λ j. read-end past j f)
    ∙ ap Ok (sym (shifted (mapping_commands n) (client_commands n seed) settle_commands (flat_map poll_commands (below n)) (Finish ∷ [])))

-- a text is its fabric part and its script
text-split : (n seed : ℕ) → gen_text n seed ≡ lines_text (fabric_lines n) ++ script_text n seed
text-split n seed = flat_map-append line_text (fabric_lines n) (mapping_lines n ++ (client_lines n seed ++ closing_lines n))

pub each-accepted : EachIsAccepted
each-accepted n seed two few =
    let k = each-case n two few in
    let f = gen_fabric n in
    let rest = script_text n seed in
    let printed = text-split n seed ∙ ap (λ t. t ++ rest) k.printed ∙ append_assoc (fabric_text f) script_line rest in
    let start = sym (length-append (fabric_text f) script_line) ∙ ap length (sym k.printed) in
    let dropped = ap (drop (script_start n)) (text-split n seed) ∙ drop-append_seam (lines_text (fabric_lines n)) rest in
    record {
      fabric =
          ap fabric_reading printed ∙ fabric-read-back f k.is_fabric k.are_named rest
          ∙ (λ i. Ok (record { fabric = f; next = start i; line = k.counted i }));
      script = ap (script_reading f (4 * n)) dropped ∙ script-read n seed (4 * n) two few (hosts-there n k);
    }
