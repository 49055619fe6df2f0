-- What every generated text says: its fabric, and the commands of its script.
use Rattle.std.specs.Prelude.{◌≡◌, ℕ, ◌+◌, ◌-◌, ◌*◌, ◌≤◌, List, [], ◌∷◌, ◌++◌, map, flat_map, replicate, drop, length}
use Rattle.std.specs.Prelude.{Ok}
use Rattle.net_defs.specs.declared.vertex.Vertex.TheVariants.{Host, Switch}
use Rattle.net_defs.specs.declared.vertex.Cable.{Cable}
use Rattle.net_defs.specs.Network.{Network, NamedSwitch}
use Rattle.run_defs.specs.declared.command.Command.{Command}
use Rattle.run_defs.specs.declared.command.Command.TheVariants.{Map, Routes, Install, Begin, Poll, Provide, Send, Plan}
use Rattle.run_defs.specs.declared.command.Command.TheVariants.{Settle, Finish}
use Rattle.run_defs.specs.declared.command.PlanKind.TheVariants.{Lose, Hold, Repeat}
use Rattle.run_defs.specs.Script.{script_reading}
use Rattle.fabric_file.specs.Reading.{fabric_reading}
use Rattle.fabric_gen.specs.Text.{below, lines_text, host_name, switch_name, depth, peer, message_size, message_prio}
use Rattle.fabric_gen.specs.Text.{message_length, message_seed, fabric_lines, gen_text}

-- a switch of the chain
abbrev pub chain_switch : ℕ → NamedSwitch
chain_switch i = record { name = switch_name i; ports = 8 }

-- the cable from a switch to the next of the chain
abbrev pub chain_cable : ℕ → Cable
chain_cable i = record { a = record { v = Switch i; p = 0 }; b = record { v = Switch (i + 1); p = 1 } }

-- the cable from a host to its switch
abbrev pub link_cable : ℕ → Cable
link_cable i = record { a = record { v = Host i; p = 0 }; b = record { v = Switch i; p = 2 } }

-- the fabric of so many hosts: a chain of switches with a host at each
abbrev pub gen_fabric : ℕ → Network
gen_fabric n = record {
  hosts = map host_name (below n);
  switches = map chain_switch (below n);
  cables = map chain_cable (below (n - 1)) ++ map link_cable (below n);
}

-- host 0 maps the fabric, the routes are computed, and they are installed
abbrev pub mapping_commands : ℕ → List Command
mapping_commands n = Map 0 (depth n) 1 ∷ Routes ∷ Install 1 ∷ []

-- a host's port 0 with four sends, and its port 1 with four buffers to come
abbrev pub open_commands : ℕ → List Command
open_commands i = Begin i 0 4 0 ∷ Begin i 1 0 4 ∷ []

-- a message: a buffer for it at the host that it goes to, and its send
abbrev pub message_commands : ℕ → ℕ → ℕ → ℕ → List Command
message_commands n seed i m =
    Provide (peer n seed i m) 1 (message_size seed i m) (message_prio m)
    ∷ Send i 0 (peer n seed i m) 1 (message_prio m) (message_length seed i m) (message_seed seed i m)
    ∷ []

-- the four messages of a host
abbrev pub commands_of : ℕ → ℕ → ℕ → List Command
commands_of n seed i = flat_map (message_commands n seed i) (below 4)

-- all ports are opened, and then the messages are sent, host by host
abbrev pub client_commands : ℕ → ℕ → List Command
client_commands n seed = flat_map open_commands (below n) ++ flat_map (commands_of n seed) (below n)

-- of the next three packets the first is lost, the second held and the third repeated, and then all messages come
abbrev pub settle_commands : List Command
settle_commands = Plan 1 Lose ∷ Plan 2 Hold ∷ Plan 3 Repeat ∷ Settle ∷ []

-- a host takes its four messages
abbrev pub poll_commands : ℕ → List Command
poll_commands i = replicate 4 (Poll i 1)

-- the commands of the script
abbrev pub gen_commands : ℕ → ℕ → List Command
gen_commands n seed = mapping_commands n ++ (client_commands n seed
    ++ (settle_commands ++ (flat_map poll_commands (below n) ++ Finish ∷ [])))

-- where the fabric part of the text ends
abbrev pub script_start : ℕ → ℕ
script_start n = length (lines_text (fabric_lines n))

-- A text is accepted: it has its fabric up to the line `script`, and after that line exactly its commands.
pub record IsAccepted (n seed : ℕ) : Type 0 where
  pub fabric : fabric_reading (gen_text n seed)
      ≡ Ok (record { fabric = gen_fabric n; next = script_start n; line = 4 * n })
  pub script : script_reading (gen_fabric n) (4 * n) (drop (script_start n) (gen_text n seed))
      ≡ Ok (gen_commands n seed)

-- Every text of 2 to 24 hosts is accepted, whatever the seed.
abbrev pub EachIsAccepted : Type 0
EachIsAccepted = (n seed : ℕ) → 2 ≤ n → n ≤ 24 → IsAccepted n seed
