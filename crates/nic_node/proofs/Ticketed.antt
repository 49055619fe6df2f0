-- The parts of a host stay those of a backed host, whatever one of its ports does.
use Rattle.std.proofs.Common.{◌≡◌, ◌<◌, ℕ, Bool, true, false, List, length, map, drop, set, nat_lt, if◌then◌else◌, Option, Some, None, option_map, refl, sym, ap, ◌∙◌, subst, arith, is_some}
use Rattle.std.specs.Prelude.{Result, Ok, Err, OnOk, OnErr, MatchResult}
use Rattle.std.specs.Option.{ForSome}
use Rattle.std.proofs.lemmas.Bool.Decides.{nat_tests}
use Rattle.std.proofs.lemmas.List.{take-append-drop}
use Rattle.std.proofs.lemmas.Option.{none-some}
use Rattle.net_defs.specs.Refusal.{Refuses}
use Rattle.gm_defs.specs.declared.token.TokenPlace.TheVariants.{Queue, Event}
use Rattle.gm_defs.specs.Token.{Sending, PortState, opened, has_number, sent_tokens, place_of_send}
use Rattle.gm_defs.specs.Port.{send_of, sent_with, unfinished, unread, filling_count}
use Rattle.gm_port.specs.declared.ask.SendAsk.{SendAsk}
use Rattle.gm_port.specs.declared.ask.CloseRefusal.TheVariants.{Busy, Unread, Filling}
use Rattle.gm_port.proofs.Tables.{found-number}
use Rattle.world_defs.specs.Lane.{LaneState, lane_answered, lane_sent_one}
use Rattle.world_defs.specs.Node.{lane_count, lane_of}
use Rattle.world_defs.proofs.Lanes.{lane_of-below}
use Rattle.host_ports.specs.declared.ask.NodeBegin.{NodeBegin}
use Rattle.host_ports.specs.declared.ask.NodeBegin.TheVariants.{NoMemory}
use Rattle.host_ports.specs.declared.ask.NodeClose.{NodeClose}
use Rattle.host_ports.specs.Held.{HostPorts, none_open, open_at, with_open, changed}
use Rattle.host_ports.specs.Refusal.{begin_bar, send_bar, close_word, close_bar}
use Rattle.route_install.specs.Collecting.{HostTable}
use Rattle.gm_conn.specs.Lane.{AreNumbered}
use Rattle.gm_conn.specs.Lanes.{HostLanes, all_unused, lane_in, with_state, both_expired}
use Rattle.ticket_laws.specs.Host.{Begins, IsBacked}
use Rattle.ticket_laws.proofs.Hosts.{CanAccept}
use Rattle.ticket_laws.proofs.Keeping.{host_of}
use Rattle.ticket_laws.proofs.Backing.{new-backed, answered-backed, sent-backed, expired-backed, opened-backed, closed-backed, queue-backed, accepted-backed, ended-backed}
use Rattle.nic_node.specs.declared.refusal.NodeSend.{NodeSend}
use Rattle.nic_node.specs.Accepting.{port_word, first_of, message_bar, node_bar, message_sent, accepted_in}
use Rattle.nic_node.specs.Held.{AreOfHost}

-- ---- one port
module _ (host : ℕ) (t : HostTable) (l : HostLanes) (p : HostPorts) (is : AreOfHost host t l p) where
  set-of : (port : ℕ) (o : Option PortState) → IsBacked Begins (set p.ports port o) l.lanes → AreOfHost host t l (with_open p port o)
  set-of port o kept = record { own_table = is.own_table; own_lanes = is.own_lanes; own_ports = is.own_ports; among = is.among; backed = kept }

  same-of : (q : HostPorts) → q ≡ p → AreOfHost host t l q
  same-of q e = subst (AreOfHost host t l) (sym e) is

  -- a port that changes, and keeps its queue
  pub changed-of : (q : HostPorts) (port : ℕ) (f : PortState → PortState) → ((s : PortState) → (f s).queue ≡ s.queue) → q ≡ changed p port f → AreOfHost host t l q
  changed-of q port f same e =
      subst (AreOfHost host t l) (sym e) (set-of port (option_map f (open_at p port)) (queue-backed Begins p.ports l.lanes is.backed port f same))

  pub changed-or : {T E : Type 0} (r : Result T E) (q : HostPorts) (port : ℕ) (f : PortState → PortState) → ((s : PortState) → (f s).queue ≡ s.queue) → OnOk r (q ≡ changed p port f) → OnErr r (q ≡ p) → AreOfHost host t l q
  changed-or (Ok x) q port f same ok err = changed-of q port f same ok
  changed-or (Err x) q port f same ok err = same-of q err

  -- a port that opens wasn't open
  pub begun-of : {T : Type 0} (r : Result T NodeBegin) (q : HostPorts) (port sends recvs : ℕ) → Refuses (begin_bar (open_at p port)) NoMemory r → OnOk r (q ≡ with_open p port (Some (opened sends recvs))) → OnErr r (q ≡ p)
      → AreOfHost host t l q
  begun-of (Ok x) q port sends recvs bar ok err =
      subst (AreOfHost host t l) (sym ok) (set-of port (Some (opened sends recvs)) (opened-backed Begins p.ports l.lanes is.backed port sends recvs (by (open_at p port) bar)))
    where
      by : (o : Option PortState) → begin_bar o ≡ None → o ≡ None
      by None e = refl
      by (Some s) e = absurd (none-some _ (sym e))
  begun-of (Err x) q port sends recvs bar ok err = same-of q err

  -- a port that closes has no unfinished send
  pub closed-of : {T : Type 0} (r : Result T NodeClose) (q : HostPorts) (port : ℕ) → MatchResult r (λ x. close_bar (open_at p port) ≡ None) (λ e. close_bar (open_at p port) ≡ Some e) → OnOk r (q ≡ with_open p port None) → OnErr r (q ≡ p)
      → AreOfHost host t l q
  closed-of (Ok x) q port bar ok err = subst (AreOfHost host t l) (sym ok) (set-of port None (by (open_at p port) refl bar))
    where
      empty : (s : PortState) → close_bar (Some s) ≡ None → length s.queue ≡ 0
      empty s e = at (nat_lt 0 (length s.queue)) refl e
        where
          at : (b : Bool) → nat_lt 0 (length s.queue) ≡ b → close_bar (Some s) ≡ None → length s.queue ≡ 0
          at true d f = absurd (none-some _ (sym f ∙ ap (λ b. option_map close_word (if b then Some (Busy (unfinished s)) else if nat_lt 0 (unread s) then Some (Unread (unread s)) else if nat_lt 0 (filling_count s) then Some (Filling (filling_count s)) else None)) d))
          at false d f = grind (arith, nat_tests)

      by : (o : Option PortState) → open_at p port ≡ o → close_bar o ≡ None → IsBacked Begins (set p.ports port None) l.lanes
      by None e d = absurd (none-some _ (sym d))
      by (Some s) e d = closed-backed Begins p.ports l.lanes is.backed port s e (empty s d)
  closed-of (Err x) q port bar ok err = same-of q err

  -- ---- a port that ends with all that it holds, and lanes that forget what they sent
  pub ended-of : (q : HostPorts) (m : HostLanes) (port : ℕ) → q ≡ with_open p port None → m ≡ all_unused l.host l.hosts → AreOfHost host t m q
  ended-of q m port ended forgot =
      subst (λ h. AreOfHost host t h q) (sym forgot)
      (subst (AreOfHost host t (all_unused l.host l.hosts)) (sym ended)
      (record { own_table = is.own_table; own_lanes = is.own_lanes; own_ports = is.own_ports; among = is.among; backed = ended-backed Begins (lane_count l.hosts) p.ports port is.backed.apart }))

-- ---- one lane, or both of a peer
module _ (host : ℕ) (t : HostTable) (l m : HostLanes) (p : HostPorts) (is : AreOfHost host t l p) where
  lanes-of : (lanes : List LaneState) → IsBacked Begins p.ports lanes → AreOfHost host t (record l { lanes = lanes }) p
  lanes-of lanes kept = record { own_table = is.own_table; own_lanes = is.own_lanes; own_ports = is.own_ports; among = is.among; backed = kept }

  pub answered-of : (lane : ℕ) → m ≡ with_state l lane (lane_answered (lane_in l lane)) → AreOfHost host t m p
  answered-of lane e = subst (λ h. AreOfHost host t h p) (sym e) (lanes-of _ (answered-backed Begins p.ports l.lanes is.backed lane))

  pub sent-of : (lane : ℕ) → m ≡ with_state l lane (lane_sent_one (lane_in l lane)) → AreOfHost host t m p
  sent-of lane e = subst (λ h. AreOfHost host t h p) (sym e) (lanes-of _ (sent-backed Begins p.ports l.lanes is.backed lane))

  pub expired-of : (peer : ℕ) → m ≡ both_expired l peer → AreOfHost host t m p
  expired-of peer e = subst (λ h. AreOfHost host t h p) (sym e) (lanes-of _ (expired-backed Begins p.ports l.lanes is.backed peer))

-- before anything happened
pub new-of : (host hosts : ℕ) (l : HostLanes) (p : HostPorts) → l ≡ all_unused host hosts → p ≡ none_open host → IsBacked Begins p.ports l.lanes
new-of host hosts l p lanes ports =
    subst (λ (h : HostLanes). IsBacked Begins p.ports h.lanes) (sym lanes)
    (subst (λ (q : HostPorts). IsBacked Begins q.ports (all_unused host hosts).lanes) (sym ports) (new-backed Begins hosts))

-- ---- a message is accepted

-- a token that the port's client has stands in no queue
free-under : (s : PortState) (t : ℕ) → place_of_send s t ≡ None → send_of s t ≡ None
free-under s t e = none (send_of s t) (found-number t s.queue ∙ by (has_number numbers t) refl (has_number (sent_tokens s.events) t) e)
  where
    numbers : List ℕ
    numbers = map (λ x. x.token) s.queue

    none : (o : Option Sending) → is_some o ≡ false → o ≡ None
    none None d = refl
    none (Some x) d = absurd (grind arith)

    by : (b : Bool) → has_number numbers t ≡ b → (c : Bool) → (if has_number numbers t then Some Queue else if c then Some Event else None) ≡ None → has_number numbers t ≡ false
    by false d c f = d
    by true d c f = absurd (none-some Queue (sym f ∙ ap (λ b. if b then Some Queue else if c then Some Event else None) d))

module _ (host : ℕ) (t : HostTable) (l m : HostLanes) (p q : HostPorts) (is : AreOfHost host t l p) (numbers : (lane : ℕ) → AreNumbered (lane_in l lane)) (count : length l.lanes ≡ lane_count l.hosts) where
  pub accepted-of : {T E : Type 0} (P : E → Type 0) (r : Result T E) (route : Bool) (port token : ℕ) (a : SendAsk) (b : List ℕ) → a.dest < l.hosts → ForSome (open_at p port) (λ s. place_of_send s token ≡ None)
      → MatchResult r (λ x. node_bar l p route port a b ≡ None) P → OnOk r (m ≡ accepted_in l port token a b) → OnOk r (q ≡ changed p port (λ s. sent_with s token b)) → OnErr r (m ≡ l) → OnErr r (q ≡ p) → AreOfHost host t m q
  accepted-of P (Err x) route port token a b low free bar lanes ports same_lanes same_ports =
      subst (λ h. AreOfHost host t h q) (sym same_lanes) (subst (AreOfHost host t l) (sym same_ports) is)
  accepted-of P (Ok x) route port token a b low free bar lanes ports same_lanes same_ports =
      subst (λ h. AreOfHost host t h q) (sym lanes) (subst (AreOfHost host t (accepted_in l port token a b)) (sym ports) (by (open_at p port) refl bar free))
    where
      k : ℕ
      k = lane_of a.dest a.prio

      there : k < length l.lanes
      there = subst (λ n. k < n) (sym count) (lane_of-below l.hosts a.dest a.prio low)

      rest : Option NodeSend
      rest = message_bar (lane_in l k) route a.len

      by : (o : Option PortState) → open_at p port ≡ o → first_of (option_map port_word (send_bar o a.len b)) rest ≡ None → ForSome o (λ s. place_of_send s token ≡ None) → AreOfHost host t (accepted_in l port token a b) (changed p port (λ s. sent_with s token b))
      by None e d f = absurd (none-some _ (sym d))
      by (Some s) e d f =
          let can : CanAccept Begins (host_of p.ports l.lanes) k port token (message_sent port a b) b s = record {
            lane_there = there;
            sender = (numbers k).sender;
            numbered = (numbers k).numbered;
            open_there = e;
            free = free-under s token (f s refl);
            of_port = refl;
            bytes = record { rest = drop a.len b; both = sym (take-append-drop a.len b) };
          } in
          let now : option_map (λ s. sent_with s token b) (open_at p port) ≡ Some (sent_with s token b) = ap (option_map (λ s. sent_with s token b)) e in
          record {
            own_table = is.own_table;
            own_lanes = is.own_lanes;
            own_ports = is.own_ports;
            among = is.among;
            backed = subst (λ o. IsBacked Begins (set p.ports port o) (accepted_in l port token a b).lanes) (sym now) (accepted-backed Begins p.ports l.lanes is.backed k port token (message_sent port a b) b s can);
          }
