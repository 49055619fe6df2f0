-- What a host has staged to send besides messages, within a host of the world.
use Rattle.std.specs.Prelude.{◌≡◌, ◌≤◌, ℕ, ℤ, Bool, true, ◌||◌, List, length, is_some, if◌then◌else◌, Option, Some}
use Rattle.std.specs.Prelude.{None, option_map}
use Rattle.world_defs.specs.Mapping.{is_part}
use Rattle.world_defs.specs.Node.{Staged, StagedProbe, StagedPart, StagedReply, StagedAck, NodeState, Outgoing, Reply}
use Rattle.world_defs.specs.Node.{PartAnswer, outgoing_staged, either, packet_for}
use Rattle.host_items.specs.declared.staged.StagedItem.{StagedItem}
use Rattle.host_items.specs.declared.staged.StagedItem.TheVariants.{Probe as ProbeItem, Part as PartItem}
use Rattle.host_items.specs.declared.answers.ProbeReply.{ProbeReply}
use Rattle.host_items.specs.declared.answers.PartAnswer.{PartAnswer as AnswerItem}

-- The staged probe or part, the reply to a probe, and the acknowledgement of a part, each where it stands.
pub record HostItems : Type 0 where
  pub staged : Option Staged
  pub reply : Option StagedReply
  pub part_ack : Option StagedAck

-- none of them
abbrev pub no_items : HostItems
no_items = record { staged = None; reply = None; part_ack = None }

-- what was told to send, as the world has it
abbrev pub staged_of : StagedItem → Staged
staged_of (ProbeItem walk looped) = StagedProbe walk looped
staged_of (PartItem part by) = StagedPart part by

-- a reply, as the world has it
abbrev pub reply_of : ProbeReply → StagedReply
reply_of r = record { number = r.number; back = r.back }

-- an acknowledgement, as the world has it
abbrev pub answer_of : AnswerItem → StagedAck
answer_of a = record { epoch = a.epoch; part = a.part; back = a.back }

-- the three, as the world has them
abbrev pub items_of : Option StagedItem → Option ProbeReply → Option AnswerItem → HostItems
items_of staged reply answer = record {
  staged = option_map staged_of staged;
  reply = option_map reply_of reply;
  part_ack = option_map answer_of answer;
}

-- What can be sent: a looped walk leaves room for its way back, and a part is by the rules of its body.
abbrev pub IsSendable : Staged → Type 0
IsSendable (StagedProbe walk looped) = looped ≡ true → length walk ≤ 31
IsSendable (StagedPart part by) = is_part part ≡ true

-- with another probe or part
abbrev pub with_staged : HostItems → Staged → HostItems
with_staged i s = record i { staged = Some s }

-- with another reply
abbrev pub with_reply : HostItems → ℕ → List ℤ → HostItems
with_reply i number back = record i { reply = Some (record { number = number; back = back }) }

-- with another acknowledgement of a part
abbrev pub with_answer : HostItems → ℕ → ℕ → List ℤ → HostItems
with_answer i epoch part back = record i { part_ack = Some (record { epoch = epoch; part = part; back = back }) }

-- one of them stands
abbrev pub is_staged : HostItems → Bool
is_staged i = is_some i.staged || is_some i.reply || is_some i.part_ack

-- the first answer that stands: a reply, then the acknowledgement of a part
abbrev pub first_answer : HostItems → Option Outgoing
first_answer i = either (option_map Reply i.reply) (option_map PartAnswer i.part_ack)

-- the first that stands: a probe or a part, then an answer
abbrev pub first_of : HostItems → Option Outgoing
first_of i = either (option_map outgoing_staged i.staged) (first_answer i)

-- the packet of the first answer that stands, injected by a host under a number
abbrev pub packet_of_answer : ℕ → ℕ → HostItems → Option (List ℕ)
packet_of_answer host number i = option_map (packet_for host number) (first_answer i)

-- the packet of the first that stands, injected by a host under a number
abbrev pub packet_of_first : ℕ → ℕ → HostItems → Option (List ℕ)
packet_of_first host number i = option_map (packet_for host number) (first_of i)

-- without the first that stands
abbrev pub without_first : HostItems → HostItems
without_first i =
    if is_some i.staged then record i { staged = None }
    else if is_some i.reply then record i { reply = None }
    else record i { part_ack = None }

-- a host of the world with these items
abbrev pub with_items : NodeState → HostItems → NodeState
with_items n i = record n { staged = i.staged; reply = i.reply; part_ack = i.part_ack }
