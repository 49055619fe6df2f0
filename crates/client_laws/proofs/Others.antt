-- Each message that was polled, and each that waits, is from a host and of a priority of a connection.
use Rattle.std.proofs.Common.{◌≡◌, ◌<◌, ◌≤◌, ◌+◌, ℕ, suc, Bool, true, false, ◌&&◌, List, [], ◌∷◌, ◌++◌, length, nat_eq, nat_lt, Option, Some, None, refl, sym, ap, ◌∙◌, subst, arith, if◌then◌else◌}
use Rattle.std.specs.Prelude.{slice_get}
use Rattle.std.specs.List.{AllByRecursion}
use Rattle.std.proofs.lemmas.Bool.Decides.{nat_tests}
use Rattle.std.proofs.lemmas.List.{get_or_past}
use Rattle.net_defs.specs.Network.{Network}
use Rattle.gm_defs.specs.Connection.{connection}
use Rattle.gm_defs.specs.Token.{PortEvent, Sent, Received, PortState}
use Rattle.world_defs.specs.declared.event.Event.TheVariants.{Poll}
use Rattle.world_defs.specs.Lane.{new_lane}
use Rattle.world_defs.specs.Node.{lane_of, lane_at, port_at, new_node}
use Rattle.world_defs.specs.Client.{Called, polled_by}
use Rattle.world_defs.specs.World.{WorldState, new_world, node_at, client_at}
use Rattle.world_defs.specs.Traffic.{got_on}
use Rattle.world_defs.specs.Acts.{Act, Happens, acted, MayActAll, IsReached}
use Rattle.world_defs.proofs.Reaching.{reached-next, reached-new}
use Rattle.message_laws.specs.Received.{IsOfMessage}
use Rattle.message_laws.proofs.Arrivals.{received-messages}
use Rattle.message_laws.proofs.Frames.{at-place}
use Rattle.message_laws.proofs.HostTickets.{all-front}
use Rattle.message_laws.proofs.Known.{reached-count, reached-known}
use Rattle.settle_laws.proofs.Says.{IsFor}
use Rattle.settle_laws.proofs.Sents.{reached-said}
use Rattle.client_laws.specs.Handed.{in_answer, in_events, waiting_in, IsOfConnection, handed_by, handed_in}
use Rattle.client_laws.specs.Seen.{SeenIsOfConnections}
use Rattle.client_laws.proofs.Polled.{IsNoPoll, none-handed, polled-polled}

all-both : {A : Type 0} (P : A → Type 0) (xs ys : List A) → AllByRecursion P xs → AllByRecursion P ys → AllByRecursion P (xs ++ ys)
all-both P [] ys a b = b
all-both P (x ∷ xs) ys a b = (a.0, all-both P xs ys a.1 b)

-- a host's lane with a message is that of a host
got-from : (n : Network) (w : WorldState) → IsReached n w → (h from prio place : ℕ) (m : _) → slice_get (got_on w (connection from h prio)) place ≡ Some m → from < length n.hosts
got-from n w is h from prio place m there = by (nat_lt h (length n.hosts)) (nat_lt from (length n.hosts)) refl refl
  where
    none : got_on w (connection from h prio) ≡ [] → from < length n.hosts
    none e = cc

    by : (a b : Bool) → nat_lt h (length n.hosts) ≡ a → nat_lt from (length n.hosts) ≡ b → from < length n.hosts
    by a true e f = grind (arith, nat_tests)
    by true false e f =
        let low : h < length n.hosts = grind (arith, nat_tests) in
        let past : length n.hosts ≤ from = grind (arith, nat_tests) in
        let count = reached-count n w is in
        let long = (reached-known n w h is low).lanes in
        none (ap (λ l. l.got) (get_or_past (node_at w h).lanes (lane_of from prio) new_lane (omega (arith, long, past, count))))
    by false false e f =
        let past : length n.hosts ≤ h = grind (arith, nat_tests) in
        let count = reached-count n w is in
        none (ap (λ x. (lane_at x (lane_of from prio)).got) (get_or_past w.nodes h (new_node 0) (omega (arith, count, past))))

-- what waits
module _ (n : Network) (w : WorldState) (is : IsReached n w) (h port : ℕ) where
  events-of : (p : PortState) → port_at (node_at w h) port ≡ Some p → (es : List PortEvent) (k : ℕ) → ((i : ℕ) (e : PortEvent) → slice_get es i ≡ Some e → slice_get p.events (k + i) ≡ Some e) → AllByRecursion (IsOfConnection (length n.hosts)) (in_events es)
  events-of p at [] k each = tt
  events-of p at (Sent t b ∷ es) k each = events-of p at es (k + 1) (λ i e d. let s : k + 1 + i ≡ k + suc i = omega arith in ap (slice_get p.events) s ∙ each (suc i) e d)
  events-of p at (Received t b from sport prio len ∷ es) k each =
      let s : k + 0 ≡ k = omega arith in
      let m : IsOfMessage (λ a. got_on w (connection a h prio)) port b from sport prio len =
      received-messages n w is h port k p t b from sport prio len at (ap (slice_get p.events) (sym s) ∙ each 0 (Received t b from sport prio len) refl) in
      let for : IsFor m.message = at-place IsFor (got_on w (connection from h prio)) m.place m.message ((reached-said n w is).got (connection from h prio)) m.there in
      let low = for.priority in
      let same = m.priority in (
        record { from_host = got-from n w is h from prio m.place m.message m.there; priority = omega (arith, low, same) },
        events-of p at es (k + 1) (λ i e d. let s : k + 1 + i ≡ k + suc i = omega arith in ap (slice_get p.events) s ∙ each (suc i) e d),
      )

  waiting-of : AllByRecursion (IsOfConnection (length n.hosts)) (waiting_in (port_at (node_at w h) port))
  waiting-of = by (port_at (node_at w h) port) refl
    where
      by : (o : Option PortState) → port_at (node_at w h) port ≡ o → AllByRecursion (IsOfConnection (length n.hosts)) (waiting_in o)
      by None e = tt
      by (Some p) e = events-of p e p.events 0 (λ i x d. let s : 0 + i ≡ i = omega arith in ap (slice_get p.events) s ∙ d)

-- what is handed out
handed-of : (n : Network) (w : WorldState) → IsReached n w → (h port : ℕ) (a : Act) → AllByRecursion (IsOfConnection (length n.hosts)) (handed_by h port w a)
handed-of n w is h port (Happens (Poll i p)) = by (nat_eq i h && nat_eq p port)
  where
    call : Called
    call = polled_by (node_at w i) p (client_at w i p)

    answer : AllByRecursion (IsOfConnection (length n.hosts)) (in_answer call.said)
    answer = all-front (IsOfConnection (length n.hosts)) (in_answer call.said) (waiting_in (port_at call.node p)) (subst (AllByRecursion (IsOfConnection (length n.hosts))) (sym (polled-polled (node_at w i) p (client_at w i p)).here) (waiting-of n w is i p))

    by : (b : Bool) → AllByRecursion (IsOfConnection (length n.hosts)) (if b then in_answer call.said else [])
    by true = answer
    by false = tt
handed-of n w is h port a = other a tt
  where
    other : (a : Act) → IsNoPoll a → AllByRecursion (IsOfConnection (length n.hosts)) (handed_by h port w a)
    other a calm = subst (AllByRecursion (IsOfConnection (length n.hosts))) (sym (none-handed h port w a calm)) tt

all-handed : (n : Network) (w : WorldState) (acts : List Act) → IsReached n w → MayActAll w acts → (h port : ℕ) → AllByRecursion (IsOfConnection (length n.hosts)) (handed_in h port w acts)
all-handed n w [] is may h port = tt
all-handed n w (a ∷ acts) is may h port =
    all-both (IsOfConnection (length n.hosts)) (handed_by h port w a) (handed_in h port (acted w a) acts) (handed-of n w is h port a) (all-handed n (acted w a) acts (reached-next n w a is may.0) may.1 h port)

pub seen-of_connections : SeenIsOfConnections
seen-of_connections n w is h port =
    all-both (IsOfConnection (length n.hosts)) (handed_in h port (new_world n) is.acts) (waiting_in (port_at (node_at w h) port))
    (all-handed n (new_world n) is.acts (reached-new n is.fabric) is.may h port) (waiting-of n w is h port)
