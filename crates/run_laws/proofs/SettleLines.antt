-- After every run a settle can be made, and its line is true.
use Rattle.std.proofs.Common.{◌≡◌, ◌<◌, ℕ, List, [], ◌∷◌, min, Some, sym, ◌∙◌, ap, subst, arith}
use Rattle.std.proofs.lemmas.Option.{same_Some}
use Rattle.net_defs.specs.Network.{Network}
use Rattle.world_defs.specs.History.{fabric_at}
use Rattle.world_defs.specs.World.{WorldState, last_count}
use Rattle.world_defs.specs.Settle.{unacknowledged_in}
use Rattle.world_defs.specs.Settled.{IsSettled}
use Rattle.world_laws.specs.Shape.{HasSenders}
use Rattle.world_laws.proofs.Rounds.{settle-bounded}
use Rattle.world_defs.specs.Acts.{IsReached}
use Rattle.world_defs.proofs.Cables.{reached-cables}
use Rattle.message_laws.specs.Got.{IsAllGot}
use Rattle.message_laws.proofs.Windows.{reached-windowed}
use Rattle.message_laws.proofs.Reaching.{settle-got}
use Rattle.run_defs.specs.declared.command.Command.TheVariants.{Settle}
use Rattle.run_defs.specs.declared.line.Line.TheVariants.{Settle as SettleLine}
use Rattle.run_defs.specs.Output.{Piece, OneLine}
use Rattle.run_defs.specs.Session.{SessionState}
use Rattle.run_defs.specs.Outcome.{Outcome, settle_lines, happening, seen, outcome}
use Rattle.run_defs.proofs.Doing.{Doing, doing, acted-settle}
use Rattle.run_defs.proofs.Doing.Doing.{determined}
use Rattle.run_laws.proofs.Reaching.{run_is_reached}
use Rattle.world_defs.specs.Log.{Log}
use Rattle.world_defs.specs.Logs as log
use Rattle.world_defs.specs.Logs.{settle}
use Rattle.lawful_laws.proofs.Settling.{settle-flows}
use Rattle.settle_laws.specs.Premises.{CanSettle}
use Rattle.settle_laws.proofs.Flowing.{settle-ends_settled}
use Rattle.run_laws.specs.SettleLines.{RunCanSettle, IsSettledLine, SettledLineIsTrue}

pub run-can_settle : RunCanSettle
run-can_settle n commands out s f all r =
    let reached = run_is_reached n commands out s f all r in
    let first : fabric_at s.world.links.cables 0 ≡ n = (reached-cables n s.world reached).first in
    (first, record { reached = subst (λ m. IsReached m s.world) (sym first) reached })

-- what a settle prints
record Prints (s next : SessionState) (rounds resets unacked : ℕ) : Type 0 where
  after : (settle s.world).world ≡ next.world
  round_count : (settle s.world).value.rounds ≡ rounds
  reset_count : min (settle s.world).value.resets last_count ≡ resets
  left : unacknowledged_in (settle s.world).world ≡ unacked

settle-prints : (s next : SessionState) (rounds resets unacked : ℕ) (rest : List Piece) → outcome s Settle ≡ Some (record { output = OneLine (SettleLine rounds resets unacked) ∷ rest; after = next }) → Prints s next rounds resets unacked
settle-prints s next rounds resets unacked rest e =
    let l : Log log.Rounds = log.settle s.world in
    let said : Outcome = record { output = OneLine (SettleLine rounds resets unacked) ∷ rest; after = next } in
    let d : Outcome = seen s (happening l.events (settle_lines l)) in
    let o : d ≡ said = same_Some d said e in
    let printed : OneLine (SettleLine l.value.rounds (min l.value.resets last_count) (unacknowledged_in l.world)) ∷ [] ≡ OneLine (SettleLine rounds resets unacked) ∷ rest = ap (λ (x : Outcome). x.output) o in
    let number : l.value.rounds ≡ rounds = cc in
    let counted : min l.value.resets last_count ≡ resets = cc in
    let unacked_is : unacknowledged_in l.world ≡ unacked = cc in
    record {
      after = sym (acted-settle s.world) ∙ ap (λ (x : Outcome). x.after.world) o;
      round_count = number;
      reset_count = counted;
      left = unacked_is;
    }

-- a reached world has its connections in order
reached-senders : (n : Network) (w : WorldState) → IsReached n w → HasSenders w
reached-senders n w is = (reached-windowed n w is).senders

-- no resets are printed as none
none-printed : (k most : ℕ) → k ≡ 0 → min k most ≡ 0
none-printed k most e = omega (arith, e)

line-so : (s next : SessionState) (rounds resets unacked : ℕ) → CanSettle s.world → Prints s next rounds resets unacked → IsSettledLine s next rounds resets unacked
line-so s next rounds resets unacked can p =
    let w : WorldState = s.world in
    let first : Network = fabric_at w.links.cables 0 in
    let senders = reached-senders first w can.reached in
    let bound = settle-bounded w senders in
    let least = bound.0 in
    let most = bound.1 in
    let count = p.round_count in
    let after = p.after in
    record {
      after = sym after;
      at_least = omega (arith, least, count);
      at_most = omega (arith, most, count);
      lawful = λ clears. sym p.reset_count ∙ none-printed (settle w).value.resets last_count (settle-flows first w can.reached clears);
      left = sym p.left ∙ ap unacknowledged_in after;
      settled = λ left. subst IsSettled after (settle-ends_settled w can (subst (λ (v : WorldState). v.injected < last_count) (sym after) left));
      got = λ none. subst IsAllGot after (settle-got first w can.reached (p.left ∙ none));
    }

does-settle : (s next : SessionState) (rounds resets unacked : ℕ) (rest : List Piece) → Doing s Settle (OneLine (SettleLine rounds resets unacked) ∷ rest) next → Prints s next rounds resets unacked
does-settle s next rounds resets unacked rest (determined e) = settle-prints s next rounds resets unacked rest e

pub line-true : SettledLineIsTrue
line-true n commands out rest s next rounds resets unacked f all r d =
    line-so s next rounds resets unacked (run-can_settle n commands out s f all r).1 (does-settle s next rounds resets unacked rest (doing d))
