-- The items of a host within a host of the world.
use Rattle.std.proofs.Common.{◌≡◌, false, Option, Some, None, refl, ap, sym, ◌∙◌, arith}
use Rattle.std.proofs.lemmas.Option.{same_Some, none-some}
use Rattle.world_defs.specs.Node.{Staged, StagedProbe, StagedPart, StagedReply, StagedAck, NodeState, Outgoing, Reply, PartAnswer, outgoing_staged, either, to_send, after_sending}
use Rattle.host_items.specs.Held.{HostItems, no_items, is_staged, first_of, without_first, with_items}
use Rattle.host_items.specs.Laws.{FirstIsSentFirst, SentIsAfterSending, StagedIsHas, GivenUpIsNone, NoneToGiveUp}

-- three items
abbrev three : Option Staged → Option StagedReply → Option StagedAck → HostItems
three s r a = record { staged = s; reply = r; part_ack = a }

pub first-sent : FirstIsSentFirst
unfolding to_send
first-sent host n i = by i.staged i.reply i.part_ack
  where
    by : (s : Option Staged) (r : Option StagedReply) (a : Option StagedAck) → to_send host (with_items n (three s r a)) ≡ either (first_of (three s r a)) (to_send host (with_items n no_items))
    by (Some s) r a = refl
    by None (Some r) a = refl
    by None None (Some a) = refl
    by None None None = refl

-- what counts as sent
sent-as : (n : NodeState) (i : HostItems) (out made : Outgoing) → Some made ≡ Some out → after_sending (with_items n i) made ≡ with_items n (without_first i) → after_sending (with_items n i) out ≡ with_items n (without_first i)
sent-as n i out made e is = ap (after_sending (with_items n i)) (sym (same_Some made out e)) ∙ is

pub sent-after : SentIsAfterSending
unfolding after_sending
sent-after n i out = by i.staged i.reply i.part_ack
  where
    by : (s : Option Staged) (r : Option StagedReply) (a : Option StagedAck) → first_of (three s r a) ≡ Some out → after_sending (with_items n (three s r a)) out ≡ with_items n (without_first (three s r a))
    by (Some (StagedProbe walk looped)) r a e = sent-as n (three (Some (StagedProbe walk looped)) r a) out (outgoing_staged (StagedProbe walk looped)) e refl
    by (Some (StagedPart part route)) r a e = sent-as n (three (Some (StagedPart part route)) r a) out (outgoing_staged (StagedPart part route)) e refl
    by None (Some r) a e = sent-as n (three None (Some r) a) out (Reply r) e refl
    by None None (Some a) e = sent-as n (three None None (Some a)) out (PartAnswer a) e refl
    by None None None e = absurd (none-some out e)

pub staged-has : StagedIsHas
staged-has n i = refl

pub given-up : GivenUpIsNone
given-up n i = refl

pub none-given : NoneToGiveUp
none-given i = by i.staged i.reply i.part_ack
  where
    by : (s : Option Staged) (r : Option StagedReply) (a : Option StagedAck) → is_staged (three s r a) ≡ false → three s r a ≡ no_items
    by (Some s) r a e = absurd (grind arith)
    by None (Some r) a e = absurd (grind arith)
    by None None (Some a) e = absurd (grind arith)
    by None None None e = refl
