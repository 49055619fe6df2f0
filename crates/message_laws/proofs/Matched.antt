-- Every act leaves the sends, tickets and messages of each host matched.
use Rattle.std.proofs.Common.{◌≡◌, ◌<◌, ◌≤◌, ℕ, Bool, true, false, length, nat_lt, refl, sym, ap, ◌∙◌, subst, arith}
use Rattle.std.proofs.lemmas.Bool.Decides.{nat_tests}
use Rattle.std.proofs.lemmas.List.{get_or_past}
use Rattle.net_defs.specs.Network.{Network}
use Rattle.world_defs.specs.Node.{NodeState, new_node}
use Rattle.world_defs.specs.World.{WorldState, host_count, new_world, node_at, client_at}
use Rattle.world_defs.specs.Acts.{Act, acted, IsReached}
use Rattle.message_laws.proofs.Hosts.{Rules, Goes, acted-goes}
use Rattle.world_defs.proofs.Reaching.{reached-has}
use Rattle.message_laws.proofs.Windows.{numbers_of, reached-windowed}
use Rattle.message_laws.specs.Unfinished.{HasBytes, QueueIsUnfinished, EachSendHasOneTicket}
use Rattle.ticket_laws.proofs.Keeping.{new-matched}
use Rattle.ticket_laws.proofs.Sendings.{under-some}
use Rattle.message_laws.proofs.Calls.{call-does}
use Rattle.ticket_laws.specs.Host.{send_in}
use Rattle.ticket_laws.proofs.Hosts.{sending-same, expired-same, quiet-same}
use Rattle.message_laws.proofs.HostTickets.{IsMatched, hear-matched, called-matched}
use Rattle.message_laws.proofs.Known.{reached-count, reached-known}
use Rattle.world_defs.proofs.Lists.{each-replicate}

-- a change of a host of the fabric leaves its sends, tickets and messages matched
record MatchedStill (count h : ℕ) (n m : NodeState) : Type 0 where
  still : h < count → IsMatched n → IsMatched m

abbrev Still : Network → ℕ → NodeState → NodeState → Type 0
Still n h a b = MatchedStill (length n.hosts) h a b

matched-rules : (n : Network) (w : WorldState) → IsReached n w → Rules w (numbers_of w) (Still n)
matched-rules n w is = record {
  quiet = λ h m e f. record { still = λ low. quiet-same HasBytes (node_at w h) m e f };
  hears = λ h wire good. record { still = λ low. hear-matched (node_at w h) (client_at w h) (host_count w) (reached-known n w h is low) h wire };
  sends = λ h out e. record { still = λ low. sending-same HasBytes (node_at w h) out };
  expires = λ h peer. record { still = λ low. expired-same HasBytes (node_at w h) peer };
  calls = λ h port call k. record { still = λ low. called-matched (node_at w h) (client_at w h) (host_count w) (reached-known n w h is low) (call-does k) };
}

-- the invariant
record AllMatched (n : Network) (w : WorldState) : Type 0 where
  hosts : (h : ℕ) → h < length n.hosts → IsMatched (node_at w h)

acted-matched : (n : Network) (w : WorldState) (a : Act) → IsReached n w → AllMatched n w → AllMatched n (acted w a)
acted-matched n w a r is =
    let g : Goes (Still n) w (acted w a) = acted-goes w (numbers_of w) (Still n) (matched-rules n w r) a (reached-windowed n w r).links in
    record { hosts = λ h low. (g.nodes h).still low (is.hosts h low) }

new-world-matched : (n : Network) → AllMatched n (new_world n)
new-world-matched n =
    let k : ℕ = length n.hosts in
    record { hosts = λ h low. each-replicate IsMatched k h (new_node k) (new_node 0) (new-matched HasBytes k) (new-matched HasBytes 0) }

pub reached-matched : (n : Network) (w : WorldState) → IsReached n w → (h : ℕ) → IsMatched (node_at w h)
reached-matched n w is h = by (nat_lt h (length n.hosts)) refl
  where
    all : AllMatched n w
    all = reached-has (AllMatched n) n (new-world-matched n) (λ w a r may. acted-matched n w a r) w is

    by : (b : Bool) → nat_lt h (length n.hosts) ≡ b → IsMatched (node_at w h)
    by true e = all.hosts h (grind (arith, nat_tests))
    by false e =
        let count = reached-count n w is in
        let past : length n.hosts ≤ h = grind (arith, nat_tests) in
        subst IsMatched (sym (get_or_past w.nodes h (new_node 0) (omega (arith, count, past)))) (new-matched HasBytes 0)

pub queue-unfinished : QueueIsUnfinished
queue-unfinished n w is h = reached-matched n w is h

pub each-once : EachSendHasOneTicket
each-once n w is h port place p s e d =
    let y = under-some p.queue place s d in
    (reached-matched n w is h).one_each (record { port = port; token = s.token }) y.0 (ap (λ o. send_in o s.token) e ∙ y.1)
