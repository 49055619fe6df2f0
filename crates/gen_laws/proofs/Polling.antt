-- The polls of a generated run: each of the four at a host receives a message.
use Rattle.std.proofs.Common.{◌≡◌, ◌≢◌, ◌<◌, ◌+◌, ℕ, suc, List, [], ◌∷◌, ◌++◌, length, get_or, set, take, Option, Some, None, is_some, refl, sym, ap, ◌∙◌, subst, arith, true≢false}
use Rattle.std.specs.Prelude.{slice_get, drop}
use Rattle.std.proofs.Math.ListN.{length-set}
use Rattle.std.proofs.lemmas.List.{get_or-set_same}
use Rattle.net_defs.specs.Network.{Network}
use Rattle.gm_defs.specs.Token.{PortState, PortEvent, Sent, Received}
use Rattle.gm_defs.specs.Port.{polled}
use Rattle.world_defs.specs.declared.effect.Said.TheVariants.{Received as SaidReceived}
use Rattle.world_defs.specs.Node.{NodeState, port_count, port_at, with_port}
use Rattle.world_defs.specs.Client.{ClientState, Called, left, handed_out, poll_open, polled_by}
use Rattle.world_defs.specs.World.{WorldState, host_count, node_at, client_at}
use Rattle.world_defs.specs.Step.{of_call}
use Rattle.world_defs.specs.Acts.{IsReached}
use Rattle.world_laws.specs.Shape.{IsWorld}
use Rattle.message_laws.proofs.Known.{reached-count}
use Rattle.message_laws.proofs.Taken.{reached-world}
use Rattle.gen_laws.proofs.Hosts.{Hosts, row_at, called-on}
use Rattle.gen_laws.proofs.Delivering.{HasReceived, IsDelivered}

-- At a host's open port 1 so many messages wait first.
pub record Waits (k : ℕ) (x : NodeState) (r : List (Option ClientState)) : Type 0 where
  pub ports : length x.ports ≡ port_count
  pub clients : length r ≡ port_count
  pub port : PortState
  pub is_port : port_at x 1 ≡ Some port
  pub received : HasReceived k port.events
  pub client : ClientState
  pub is_client : get_or r 1 None ≡ Some client

-- The hosts above one are to be polled four times, and this one so many times.
pub record Polling (a k h : ℕ) (x : NodeState) (r : List (Option ClientState)) : Type 0 where
  pub here : h ≡ a → Waits k x r
  pub above : a < h → Waits 4 x r

-- a poll hands out the message that waits first
polled-now : (x : NodeState) (c : Option ClientState) (p : PortState) (d : ClientState) (t : ℕ) (buffer : List ℕ) (from sport prio len : ℕ) (es : List PortEvent) → port_at x 1 ≡ Some p → c ≡ Some d → p.events ≡ Received t buffer from sport prio len ∷ es
    → polled_by x 1 c ≡ left x 1 (Some (polled p)) (Some (record d { recvs = d.recvs ++ t ∷ [] })) (SaidReceived t from sport prio (take len buffer))
unfolding polled_by
polled-now x c p d t buffer from sport prio len es e f g = (λ i. poll_open x 1 (f i) (e i)) ∙ ap (λ l. handed_out x 1 p d (slice_get l 0)) g

-- What a poll leaves: the hosts so, and a message was said.
pub record Receives (n a k : ℕ) (w : WorldState) (call : Called) : Type 0 where
  pub token : ℕ
  pub from : ℕ
  pub sport : ℕ
  pub prio : ℕ
  pub bytes : List ℕ
  pub said : call.said ≡ SaidReceived token from sport prio bytes
  pub hosts : Hosts n (Polling a k) (of_call w a 1 call).1

pub polls : (n a k : ℕ) (w : WorldState) → a < n → Hosts n (Polling a (suc k)) w → Receives n a k w (polled_by (node_at w a) 1 (client_at w a 1))
polls n a k w low is = by t.port.events refl t.received
  where
    x : NodeState
    x = node_at w a

    r : List (Option ClientState)
    r = row_at w a

    t : Waits (suc k) x r
    t = (is.each a low).here refl

    by : (es : List PortEvent) → t.port.events ≡ es → HasReceived (suc k) es → Receives n a k w (polled_by x 1 (get_or r 1 None))
    by [] e has = absurd has
    by (Sent u buffer ∷ es) e has = absurd has
    by (Received u buffer from sport prio len ∷ es) e has =
        let c : ClientState = record t.client { recvs = t.client.recvs ++ u ∷ [] } in
        let call = polled-now x (get_or r 1 None) t.port t.client u buffer from sport prio len es t.is_port t.is_client e in
        let ports = t.ports in
        let clients = t.clients in
        let waits : Waits k (with_port x 1 (Some (polled t.port))) (set r 1 (Some c)) = record {
          ports = length-set x.ports 1 (Some (polled t.port)) ∙ t.ports;
          clients = length-set r 1 (Some c) ∙ t.clients;
          port = polled t.port;
          is_port = get_or-set_same x.ports 1 (Some (polled t.port)) None (omega (arith, ports));
          received = subst (λ l. HasReceived k (drop 1 l)) (sym e) has;
          client = c;
          is_client = get_or-set_same r 1 (Some c) None (omega (arith, clients));
        } in
        record {
          token = u;
          from = from;
          sport = sport;
          prio = prio;
          bytes = take len buffer;
          said = ap (λ (y : Called). y.said) call;
          hosts = called-on n (Polling a (suc k)) (Polling a k) w a 1 (polled_by x 1 (get_or r 1 None)) low is
              (subst (λ (y : Called). Polling a k a y.node (set r 1 y.client)) (sym call) (record { here = λ e. waits; above = λ l. absurd (omega (arith, l)) }))
              (λ j other below y q o. record { here = λ e. absurd (other e); above = o.above });
        }

-- the next host is polled
pub polls-next : (n a : ℕ) (w : WorldState) → Hosts n (Polling a 0) w → Hosts n (Polling (suc a) 4) w
polls-next n a w is = record {
  count = is.count;
  rows = is.rows;
  each = λ h low. let o = is.each h low in record { here = λ e. o.above (omega (arith, e)); above = λ l. o.above (omega (arith, l)) };
}

-- before the first poll all messages wait
pub polls-first : (g : Network) (n : ℕ) (w : WorldState) → IsReached g w → length g.hosts ≡ n → IsDelivered n w → Hosts n (Polling 0 4) w
polls-first g n w reached hosts d =
    let shape : IsWorld w = reached-world g w reached in
    let count : host_count w ≡ n = reached-count g w reached ∙ hosts in
    record {
      count = count;
      rows = shape.clients ∙ count;
      each = λ h low. let waits = waits-at shape h low (omega (arith, low, count)) in record { here = λ e. waits; above = λ l. waits };
    }
  where
    some-client : (o : Option ClientState) (p : Option PortState) (q : PortState) → is_some o ≡ is_some p → p ≡ Some q → (c : ClientState) × (o ≡ Some c)
    some-client None p q e f = absurd (true≢false (sym (e ∙ ap is_some f)))
    some-client (Some c) p q e f = (c, refl)

    waits-at : IsWorld w → (h : ℕ) → h < n → h < host_count w → Waits 4 (node_at w h) (row_at w h)
    waits-at shape h low there =
        let f = d.four h low in
        let c = some-client (client_at w h 1) (port_at (node_at w h) 1) f.port (shape.open_ports h 1) f.is_port in
        record {
          ports = (shape.each_node h there).ports;
          clients = shape.each_client h there;
          port = f.port;
          is_port = f.is_port;
          received = f.received;
          client = c.0;
          is_client = c.1;
        }
