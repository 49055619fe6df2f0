-- The text of a generated run: a chain of switches with a host at each, and a script in which each host sends four
-- messages.
use Rattle.std.specs.Prelude.{ℕ, ◌+◌, ◌-◌, ◌*◌, ◌%◌, List, [], ◌∷◌, ◌++◌, map, flat_map, replicate, codes, decimal}
use Rattle.std.specs.Prelude.{unwrap_or}
use Rattle.std.specs.List.{range_with_len}
use Rattle.fab_text.specs.Written.{line_text}
use Rattle.gm_defs.specs.Token.{size_for_length}

-- the numbers below this one
abbrev pub below : ℕ → List ℕ
below n = range_with_len 0 n

-- lines of these words, one after another
abbrev pub lines_text : List (List (List ℕ)) → List ℕ
lines_text ls = flat_map line_text ls

-- the name of a host
abbrev pub host_name : ℕ → List ℕ
host_name i = codes "h" ++ decimal i

-- the name of a switch
abbrev pub switch_name : ℕ → List ℕ
switch_name i = codes "s" ++ decimal i

-- `host hI`
abbrev pub host_words : ℕ → List (List ℕ)
host_words i = codes "host" ∷ host_name i ∷ []

-- `switch sI 8`
abbrev pub switch_words : ℕ → List (List ℕ)
switch_words i = codes "switch" ∷ switch_name i ∷ codes "8" ∷ []

-- the cable from a switch to the next of the chain
abbrev pub chain_words : ℕ → List (List ℕ)
chain_words i = codes "cable" ∷ switch_name i ∷ codes "0" ∷ switch_name (i + 1) ∷ codes "1" ∷ []

-- the cable from a host to its switch
abbrev pub link_words : ℕ → List (List ℕ)
link_words i = codes "cable" ∷ host_name i ∷ codes "0" ∷ switch_name i ∷ codes "2" ∷ []

-- the fabric of so many hosts: the hosts, the switches, the chain of the switches, each host at its switch, and the
-- end of the fabric
abbrev pub fabric_lines : ℕ → List (List (List ℕ))
fabric_lines n =
    map host_words (below n)
    ++ (map switch_words (below n) ++ (map chain_words (below (n - 1))
    ++ (map link_words (below n) ++ (codes "script" ∷ []) ∷ [])))

-- the depth that host 0 maps the fabric to: as many cables as hosts, and three more
abbrev pub depth : ℕ → ℕ
depth n = n + 3

-- host 0 maps the fabric with one try for each ask, the routes are computed, and they are installed with one try
abbrev pub mapping_lines : ℕ → List (List (List ℕ))
mapping_lines n =
    (codes "map" ∷ host_name 0 ∷ decimal (depth n) ∷ codes "1" ∷ [])
    ∷ (codes "routes" ∷ [])
    ∷ (codes "install" ∷ codes "1" ∷ [])
    ∷ []

-- a host's port 0 with four sends, and its port 1 with four buffers to come
abbrev pub open_lines : ℕ → List (List (List ℕ))
open_lines i =
    (codes "open" ∷ host_name i ∷ codes "0" ∷ codes "4" ∷ codes "0" ∷ [])
    ∷ (codes "open" ∷ host_name i ∷ codes "1" ∷ codes "0" ∷ codes "4" ∷ [])
    ∷ []

-- the host that a host's message goes to: each message of a host goes on past the host itself by a step that the seed
-- gives
abbrev pub peer : ℕ → ℕ → ℕ → ℕ → ℕ
peer n seed i m = (i + 1 + (seed + m) % (n - 1)) % n

-- the length of a host's message, at most 1,016 bytes
abbrev pub message_length : ℕ → ℕ → ℕ → ℕ
message_length seed i m = (seed + 7 * i + m) % 1017

-- the priority of a message: its number is even or odd
abbrev pub message_prio : ℕ → ℕ
message_prio m = m % 2

-- the seed of a message's bytes
abbrev pub message_seed : ℕ → ℕ → ℕ → ℕ
message_seed seed i m = (seed + i + m) % 256

-- the least size of a buffer that has room for a message (no message here is so long that none has)
abbrev pub message_size : ℕ → ℕ → ℕ → ℕ
message_size seed i m = unwrap_or (size_for_length (message_length seed i m)) 0

-- a message: a buffer for it at the host that it goes to, and its send
abbrev pub message_lines : ℕ → ℕ → ℕ → ℕ → List (List (List ℕ))
message_lines n seed i m =
    (codes "provide" ∷ host_name (peer n seed i m) ∷ codes "1" ∷ decimal (message_size seed i m)
    ∷ decimal (message_prio m) ∷ [])
    ∷ (codes "send" ∷ host_name i ∷ codes "0" ∷ host_name (peer n seed i m) ∷ codes "1" ∷ decimal (message_prio m)
    ∷ decimal (message_length seed i m) ∷ decimal (message_seed seed i m) ∷ [])
    ∷ []

-- the four messages of a host
abbrev pub messages_of : ℕ → ℕ → ℕ → List (List (List ℕ))
messages_of n seed i = flat_map (message_lines n seed i) (below 4)

-- all ports are opened, and then the messages are sent, host by host
abbrev pub client_lines : ℕ → ℕ → List (List (List ℕ))
client_lines n seed = flat_map open_lines (below n) ++ flat_map (messages_of n seed) (below n)

-- of the next three packets the first is lost, the second held and the third repeated, and then all messages come
abbrev pub settle_lines : List (List (List ℕ))
settle_lines =
    (codes "plan" ∷ codes "lose" ∷ codes "1" ∷ [])
    ∷ (codes "plan" ∷ codes "hold" ∷ codes "2" ∷ [])
    ∷ (codes "plan" ∷ codes "repeat" ∷ codes "3" ∷ [])
    ∷ (codes "settle" ∷ [])
    ∷ []

-- `poll hI 1`
abbrev pub poll_words : ℕ → List (List ℕ)
poll_words i = codes "poll" ∷ host_name i ∷ codes "1" ∷ []

-- a host takes its four messages
abbrev pub polls_of : ℕ → List (List (List ℕ))
polls_of i = replicate 4 (poll_words i)

-- the messages come, all hosts take theirs, and the script ends
abbrev pub closing_lines : ℕ → List (List (List ℕ))
closing_lines n = settle_lines ++ (flat_map polls_of (below n) ++ (codes "end" ∷ []) ∷ [])

-- the lines of the whole text
abbrev pub gen_lines : ℕ → ℕ → List (List (List ℕ))
gen_lines n seed = fabric_lines n ++ (mapping_lines n ++ (client_lines n seed ++ closing_lines n))

-- The text of the run of so many hosts and a seed.
abbrev pub gen_text : ℕ → ℕ → List ℕ
gen_text n seed = lines_text (gen_lines n seed)
