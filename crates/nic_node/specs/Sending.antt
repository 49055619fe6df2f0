-- What a host sends next.
use Rattle.std.specs.Prelude.{ℕ, Option, Some, None}
use Rattle.world_defs.specs.Node.{NodeState, Outgoing, owed_on, due_on, to_send, after_sending}
use Rattle.host_items.specs.Held.{HostItems, first_of}
use Rattle.nic_node.specs.declared.next.NextSend.{NextSend}
use Rattle.nic_node.specs.declared.next.NextSend.TheVariants.{Item, Answer, Fragment}
use Rattle.nic_node.specs.Held.{HostNode}

-- the items of a host
abbrev pub items_in : NodeState → HostItems
items_in n = record { staged = n.staged; reply = n.reply; part_ack = n.part_ack }

-- what a choice of a host stands for: the first of the items, what a lane owes, or what is due on it
abbrev pub chosen : ℕ → NodeState → NextSend → Option Outgoing
chosen host n Item = first_of (items_in n)
chosen host n (Answer lane) = owed_on n lane
chosen host n (Fragment lane) = due_on host n lane

-- the state once what is sent counts as sent; where nothing is sent, nothing changes
abbrev pub once_sent : NodeState → Option Outgoing → NodeState
once_sent n None = n
once_sent n (Some out) = after_sending n out

-- The state once what the host has to send first counts as sent.
abbrev pub after_first : HostNode → NodeState
after_first n = once_sent n.state (to_send n.host n.state)
