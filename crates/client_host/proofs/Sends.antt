-- What a client is told of a send, as its host accepts or refuses it.
use Rattle.std.proofs.Common.{◌≡◌, ◌+◌, ◌%◌, ℕ, List, length, option_map, ap, ◌∙◌, arith}
use Rattle.std.specs.List.{range_with_len}
use Rattle.std.proofs.lemmas.List.{length-map, take_all}
use Rattle.std.proofs.lemmas.List.FromFn.{length-range_with_len}
use Rattle.gm_defs.specs.Port.{sent_with}
use Rattle.gm_port.specs.declared.ask.SendAsk.{SendAsk}
use Rattle.world_defs.specs.Lane.{with_message}
use Rattle.world_defs.specs.Node.{NodeState, lane_of, lane_at, with_lane, port_at, with_port}
use Rattle.world_defs.specs.Step.{wanted}
use Rattle.world_defs.specs.Client.{client_bytes, wanted_message}
use Rattle.nic_node.specs.Accepting.{accepted}

-- a message has as many bytes as the client wants
pub bytes-counted : (len seed : ℕ) → length (client_bytes len seed) ≡ len
bytes-counted len seed = length-map (range_with_len 0 len) (λ i. (seed + i) % 256) ∙ length-range_with_len 0 len

-- an accepted message: its bytes are all of its buffer
pub accepted-is : (n : NodeState) (port token : ℕ) (a : SendAsk) (seed : ℕ) (buffer : List ℕ) → buffer ≡ client_bytes a.len seed
    → accepted n port token a buffer ≡ with_port (with_lane n (lane_of a.dest a.prio) (with_message (lane_at n (lane_of a.dest a.prio)) (wanted_message (wanted port a.dest a.dport a.prio a.len seed)) (record { port = port; token = token }))) port
    (option_map (λ s. sent_with s token (client_bytes a.len seed)) (port_at n port))
accepted-is n port token a seed buffer is =
    ap (accepted n port token a) is
    ∙ ap (λ body. with_port (with_lane n (lane_of a.dest a.prio) (with_message (lane_at n (lane_of a.dest a.prio)) (record { sport = port; dport = a.dport; prio = a.prio; body = body }) (record { port = port; token = token }))) port
    (option_map (λ s. sent_with s token (client_bytes a.len seed)) (port_at n port))) (take_all a.len (client_bytes a.len seed) (let l = bytes-counted a.len seed in omega (arith, l)))
