-- What a host sends first: an item, then what is owed, then what is due.
use Rattle.std.proofs.Common.{◌≡◌, ℕ, true, false, Option, Some, None, refl, ap, ◌∙◌, arith}
use Rattle.std.specs.Prelude.{is_some, option_map, Result, Ok, Err, OnOk}
use Rattle.world_defs.specs.Node.{Staged, StagedReply, StagedAck, NodeState, Outgoing, Reply, PartAnswer, outgoing_staged, either, first_some, lanes_of, owed_on, due_on, to_send}
use Rattle.host_items.specs.Held.{first_of}
use Rattle.nic_node.specs.Sending.{items_in}

either-some : {A : Type 0} (x y : Option A) → is_some x ≡ true → x ≡ either x y
either-some (Some x) y e = refl
either-some None y e = absurd (grind arith)

either-none : {A : Type 0} (x y : Option A) → is_some x ≡ false → y ≡ either x y
either-none None y e = refl
either-none (Some x) y e = absurd (grind arith)

-- what follows the items
abbrev behind : ℕ → NodeState → Option Outgoing
behind host n = either (first_some (owed_on n) (lanes_of n)) (first_some (due_on host n) (lanes_of n))

in-order : (host : ℕ) (n : NodeState) → either (first_of (items_in n)) (behind host n) ≡ to_send host n
unfolding to_send
in-order host n = by n.staged n.reply n.part_ack (behind host n)
  where
    by : (s : Option Staged) (r : Option StagedReply) (a : Option StagedAck) (rest : Option Outgoing)
        → either (either (option_map outgoing_staged s) (either (option_map Reply r) (option_map PartAnswer a))) rest
        ≡ either (option_map outgoing_staged s) (either (option_map Reply r) (either (option_map PartAnswer a) rest))
    by (Some s) r a rest = refl
    by None (Some r) a rest = refl
    by None None (Some a) rest = refl
    by None None None rest = refl

pub send-item : (host : ℕ) (n : NodeState) → is_some (first_of (items_in n)) ≡ true → first_of (items_in n) ≡ to_send host n
send-item host n e = either-some (first_of (items_in n)) (behind host n) e ∙ in-order host n

pub send-answer : (host : ℕ) (n : NodeState) (x : Option Outgoing) → is_some (first_of (items_in n)) ≡ false → x ≡ first_some (owed_on n) (lanes_of n) → is_some x ≡ true → x ≡ to_send host n
send-answer host n x none is there =
    either-some x (first_some (due_on host n) (lanes_of n)) there ∙ ap (λ z. either z (first_some (due_on host n) (lanes_of n))) is
    ∙ either-none (first_of (items_in n)) (behind host n) none ∙ in-order host n

pub send-fragment : (host : ℕ) (n : NodeState) (x : Option Outgoing) → is_some (first_of (items_in n)) ≡ false → None ≡ first_some (owed_on n) (lanes_of n)
    → x ≡ first_some (due_on host n) (lanes_of n) → x ≡ to_send host n
send-fragment host n x none nothing is =
    is ∙ ap (λ z. either z (first_some (due_on host n) (lanes_of n))) nothing ∙ either-none (first_of (items_in n)) (behind host n) none ∙ in-order host n

-- what follows where memory didn't run out
pub on-ok : {A E P Q : Type 0} (r : Result A E) → (P → Q) → OnOk r P → OnOk r Q
on-ok (Ok x) f p = f p
on-ok (Err error) f p = tt
