-- A host and its clients stay tied, whatever one of them does.
use Rattle.std.proofs.Common.{◌≡◌, ◌<◌, ◌≤◌, ◌≢◌, ◌+◌, ◌++◌, ℕ, zero, suc, Bool, true, false, List, [], ◌∷◌, length, map, set, get_or, replicate, nat_eq, nat_lt, Option, Some, None, refl, sym, ap, subst, ◌∙◌, arith}
use Rattle.std.specs.Prelude.{slice_index_or, slice_set, Result, Ok, Err, IfOk, OnOk, OnErr}
use Rattle.std.proofs.Math.ListN.{get_or-map}
use Rattle.std.proofs.lemmas.Bool.Decides.{nat_tests}
use Rattle.std.proofs.lemmas.List.{map-set, length-append, length-set, get_or-set_same, get_or-set_other, get_or_past, get_or_at, get_or_append_left, set-get_or}
use Rattle.gm_defs.specs.Token.{PortState}
use Rattle.world_defs.specs.declared.arrival.Arrival.{Arrival}
use Rattle.world_defs.specs.Hearing.{hear}
use Rattle.world_defs.specs.Node.{NodeState, Outgoing, port_at, port_count}
use Rattle.world_defs.specs.Client.{ClientState, Called}
use Rattle.port_client.specs.Held.{OpenClient}
use Rattle.nic_node.specs.Held.{HostNode, in_state}
use Rattle.nic_node.specs.Sending.{once_sent}
use Rattle.nic_node.specs.Ending.{abandoned}
use Rattle.world_defs.specs.declared.effect.Said.{Said}
use Rattle.client_host.specs.Held.{ServedHost, client_in, after_call, IsFromHosts}
use Rattle.client_host.specs.Tied.{held_of, IsTied, IsServed, IsEnding, served}
use Rattle.client_host.proofs.Ties.{CallTied}
use Rattle.client_host.proofs.Hearing.{NodeTied, hear-tied, once_sent-tied}

-- one port changes, and its client
tied-set : (host hosts : ℕ) (ps : List (Option PortState)) (cs : List (Option OpenClient)) (port : ℕ) (p : Option PortState) (q : Option OpenClient) → port < length ps → port < length cs → IsTied host hosts port p q
    → ((j : ℕ) → IsTied host hosts j (get_or ps j None) (get_or cs j None)) → (j : ℕ) → IsTied host hosts j (get_or (set ps port p) j None) (get_or (set cs port q) j None)
tied-set host hosts ps cs port p q in_ports in_clients is each j = by (nat_eq j port) refl
  where
    by : (t : Bool) → nat_eq j port ≡ t → IsTied host hosts j (get_or (set ps port p) j None) (get_or (set cs port q) j None)
    by true t =
        let f : j ≡ port = grind (arith, nat_tests) in
        let a : get_or (set ps port p) j None ≡ p = ap (λ k. get_or (set ps port p) k None) f ∙ get_or-set_same ps port p None in_ports in
        let b : get_or (set cs port q) j None ≡ q = ap (λ k. get_or (set cs port q) k None) f ∙ get_or-set_same cs port q None in_clients in
        subst (λ x. IsTied host hosts j x (get_or (set cs port q) j None)) (sym a) (subst (λ y. IsTied host hosts j p y) (sym b) (subst (λ k. IsTied host hosts k p q) (sym f) is))
    by false t =
        let differs : j ≡ port → ⊥ = λ f. grind (arith, nat_tests) in
        let a : get_or (set ps port p) j None ≡ get_or ps j None = get_or-set_other ps port j p None differs in
        let b : get_or (set cs port q) j None ≡ get_or cs j None = get_or-set_other cs port j q None differs in
        subst (λ x. IsTied host hosts j x (get_or (set cs port q) j None)) (sym a) (subst (λ y. IsTied host hosts j (get_or ps j None) y) (sym b) (each j))

-- a client that was read within the list is the one at its place
read-within : (cs : List (Option OpenClient)) (i : ℕ) (x : Option OpenClient) → i < length cs → x ≡ slice_index_or cs i x → x ≡ slice_index_or cs i None
read-within [] i x h e = absurd (omega arith)
read-within (y ∷ cs) zero x h e = e
read-within (y ∷ cs) (suc i) x h e = read-within cs i x (omega arith) e

pub there : (n : HostNode) (cs : List (Option OpenClient)) (port i : ℕ) (x : Option OpenClient) → IsServed n cs → port < 8 → i ≡ port → x ≡ slice_index_or cs i x → x ≡ slice_index_or cs port None
there n cs port i x s below at e =
    let c = s.clients in
    read-within cs i x (omega (arith, c, at, below)) e ∙ ap (λ k. slice_index_or cs k None) at

pub tied-at : (n : HostNode) (cs : List (Option OpenClient)) (port i : ℕ) (x : Option OpenClient) → IsServed n cs → port < 8 → i ≡ port → x ≡ slice_index_or cs i x → IsTied n.host n.hosts port (port_at n.state port) x
tied-at n cs port i x s below at e = subst (IsTied n.host n.hosts port (port_at n.state port)) (sym (there n cs port i x s below at e)) (s.tied port)

-- after a call
pub called-served : (n m : HostNode) (cs : List (Option OpenClient)) (port i : ℕ) (q : Option OpenClient) (call : Called) → IsServed n cs → port < 8 → i ≡ port → m ≡ in_state n call.node
    → CallTied n.host n.hosts n.state port call q → IsServed m (slice_set cs i q)
called-served n m cs port i q call s below at e k =
    let few = s.ports in
    let many = s.clients in
    let here : IsServed (in_state n call.node) (set cs port q) = record {
      ports = ap length k.ports ∙ length-set n.state.ports port k.at_port ∙ s.ports;
      clients = length-set cs port q ∙ s.clients;
      tied = λ j. subst (λ ps. IsTied n.host n.hosts j (get_or ps j None) (get_or (set cs port q) j None)) (sym k.ports)
          (tied-set n.host n.hosts n.state.ports cs port k.at_port q (omega (arith, few, below)) (omega (arith, many, below)) k.tied s.tied j);
    } in
    subst (λ y. IsServed y (set cs i q)) (sym e) (subst (λ z. IsServed (in_state n call.node) (set cs z q)) (sym at) here)

client-is : (n : HostNode) (cs : List (Option OpenClient)) (port i : ℕ) (x : Option OpenClient) → IsServed n cs → port < 8 → i ≡ port → x ≡ slice_index_or cs i x → held_of x ≡ client_in (served n cs) port
client-is n cs port i x s below at e = ap held_of (there n cs port i x s below at e) ∙ sym (get_or-map held_of cs port None)

pub called-is : (call : NodeState → Option ClientState → Called) (v : ServedHost) (n m : HostNode) (cs : List (Option OpenClient)) (port i : ℕ) (x q : Option OpenClient)
    → served n cs ≡ v → IsServed n cs → port < 8 → i ≡ port → x ≡ slice_index_or cs i x → m ≡ in_state n (call n.state (held_of x)).node → held_of q ≡ (call n.state (held_of x)).client
    → served m (slice_set cs i q) ≡ after_call v port (call v.state (client_in v port))
called-is call v n m cs port i x q is s below at e new held =
    let k : Called = call n.state (held_of x) in
    let clients : map held_of (slice_set cs i q) ≡ slice_set (map held_of cs) port k.client = map-set held_of cs i q ∙ ap (λ j. slice_set (map held_of cs) j (held_of q)) at ∙ ap (slice_set (map held_of cs) port) held in
    ap (λ y. served y (slice_set cs i q)) new
    ∙ ap (λ (l : List (Option ClientState)). record { host = n.host; hosts = n.hosts; state = k.node; clients = l }) clients
    ∙ ap (λ c. after_call (served n cs) port (call n.state c)) (client-is n cs port i x s below at e)
    ∙ ap (λ w. after_call w port (call w.state (client_in w port))) is

-- where nothing changed
same-list : (n : HostNode) (cs : List (Option OpenClient)) (port i : ℕ) (x q : Option OpenClient) → IsServed n cs → port < 8 → i ≡ port → x ≡ slice_index_or cs i x → q ≡ x → slice_set cs i q ≡ cs
same-list n cs port i x q s below at e same =
    ap (slice_set cs i) (same ∙ there n cs port i x s below at e ∙ ap (λ k. slice_index_or cs k None) (sym at)) ∙ set-get_or cs i None

pub unchanged-served : (n m : HostNode) (cs : List (Option OpenClient)) (port i : ℕ) (x q : Option OpenClient) → IsServed n cs → port < 8 → i ≡ port → x ≡ slice_index_or cs i x
    → m ≡ n → q ≡ x → IsServed m (slice_set cs i q)
unchanged-served n m cs port i x q s below at e same_node same =
    subst (λ y. IsServed y (slice_set cs i q)) (sym same_node) (subst (IsServed n) (sym (same-list n cs port i x q s below at e same)) s)

-- where the host alone changes
pub node-served : (n m : HostNode) (cs : List (Option OpenClient)) → IsServed n cs → m.host ≡ n.host → m.hosts ≡ n.hosts → NodeTied n.hosts n.state m.state → IsServed m cs
node-served n m cs s host hosts k = record {
  ports = k.count ∙ s.ports;
  clients = s.clients;
  tied = λ port.
      subst (λ h. IsTied h m.hosts port (port_at m.state port) (slice_index_or cs port None)) (sym host)
      (subst (λ hs. IsTied n.host hs port (port_at m.state port) (slice_index_or cs port None)) (sym hosts)
      ((k.each port).tied n.host port (slice_index_or cs port None) (s.tied port)));
}

pub in-served : (n m : HostNode) (cs : List (Option OpenClient)) (st : NodeState) → IsServed n cs → m ≡ in_state n st → NodeTied n.hosts n.state st → IsServed m cs
in-served n m cs st s e k = subst (λ y. IsServed y cs) (sym e) (node-served n (in_state n st) cs s refl refl k)

-- ---- the end
-- all clients of a host are left
pub left-ending : (n : HostNode) (cs : List (Option OpenClient)) → IsServed n cs → IsEnding n cs
left-ending n cs s = record { counted = s.ports; few = let c = s.clients in omega (arith, c); tied = s.tied }

closed-port : (host hosts port : ℕ) (p : Option PortState) → IsTied host hosts port p None → p ≡ None
closed-port host hosts port None is = refl
closed-port host hosts port (Some p) is = absurd is

-- once no client is left, no port is open
all-none : (ps : List (Option PortState)) (k : ℕ) → length ps ≡ k → ((j : ℕ) → get_or ps j None ≡ None) → ps ≡ replicate k None
all-none [] zero l h = refl
all-none [] (suc k) l h = absurd (omega (arith, l))
all-none (p ∷ ps) zero l h = absurd (omega (arith, l))
all-none (p ∷ ps) (suc k) l h = ap (λ x. x ∷ ps) (h 0) ∙ ap (λ xs. None ∷ xs) (all-none ps k (omega (arith, l)) (λ j. h (suc j)))

pub ended : (n : HostNode) (cs : List (Option OpenClient)) → cs ≡ [] → IsEnding n cs → n.state.ports ≡ replicate port_count None
ended n cs e s =
    all-none n.state.ports port_count s.counted
    (λ j. closed-port n.host n.hosts j (port_at n.state j) (subst (λ l. IsTied n.host n.hosts j (port_at n.state j) (get_or l j None)) e (s.tied j)))

-- a client less is left, and no port is open in its place
ending-of : (p q : HostNode) (cs ds : List (Option OpenClient)) (x : Option OpenClient) → cs ≡ ds ++ x ∷ [] → IsEnding p cs → q.host ≡ p.host → q.hosts ≡ p.hosts → length q.state.ports ≡ length p.state.ports → ((j : ℕ) → j ≢ length ds → port_at q.state j ≡ port_at p.state j)
    → port_at q.state (length ds) ≡ None → IsEnding q ds
ending-of p q cs ds x split s host hosts long others none = record {
  counted = long ∙ s.counted;
  few = let all : length cs ≡ length ds + 1 = ap length split ∙ length-append ds (x ∷ []) in let few = s.few in omega (arith, all, few);
  tied = λ j.
      subst (λ h. IsTied h q.hosts j (port_at q.state j) (slice_index_or ds j None)) (sym host)
      (subst (λ hs. IsTied p.host hs j (port_at q.state j) (slice_index_or ds j None)) (sym hosts) (by j (nat_eq j (length ds)) refl));
}
  where
    same : (j : ℕ) → j ≢ length ds → get_or ds j None ≡ get_or cs j None
    same j other = at (nat_lt j (length ds)) refl
      where
        at : (b : Bool) → nat_lt j (length ds) ≡ b → get_or ds j None ≡ get_or cs j None
        at true e = sym (ap (λ l. get_or l j None) split ∙ get_or_append_left ds (x ∷ []) None j (grind (arith, nat_tests)))
        at false e =
            let past : length ds ≤ j = grind (arith, nat_tests) in
            let all : length cs ≡ length ds + 1 = ap length split ∙ length-append ds (x ∷ []) in
            let more : length ds < j = strict j past other in
            get_or_past ds j None past ∙ sym (get_or_past cs j None (omega (arith, all, more)))
          where
            strict : (j : ℕ) → length ds ≤ j → j ≢ length ds → length ds < j
            strict j a b = le (nat_lt (length ds) j) refl
              where
                le : (t : Bool) → nat_lt (length ds) j ≡ t → length ds < j
                le true f = grind (arith, nat_tests)
                le false f = absurd (b (grind (arith, nat_tests)))

    by : (j : ℕ) (t : Bool) → nat_eq j (length ds) ≡ t → IsTied p.host p.hosts j (port_at q.state j) (slice_index_or ds j None)
    by j true t =
        let f : j ≡ length ds = grind (arith, nat_tests) in
        let closed : port_at q.state j ≡ None = ap (port_at q.state) f ∙ none in
        let gone : slice_index_or ds j None ≡ None = get_or_past ds j None (omega (arith, f)) in
        subst (λ o. IsTied p.host p.hosts j o (slice_index_or ds j None)) (sym closed) (subst (λ y. IsTied p.host p.hosts j None y) (sym gone) tt)
    by j false t =
        let differs : j ≢ length ds = λ f. absurd (grind (arith, nat_tests)) in
        subst (λ o. IsTied p.host p.hosts j o (slice_index_or ds j None)) (sym (others j differs)) (subst (λ y. IsTied p.host p.hosts j (port_at p.state j) y) (sym (same j differs)) (s.tied j))

last-of : (ds cs : List (Option OpenClient)) (x : Option OpenClient) → cs ≡ ds ++ x ∷ [] → get_or cs (length ds) None ≡ x
last-of ds cs x split = ap (λ l. get_or l (length ds) None) split ∙ get_or_at ds x [] None (length ds) refl

-- the last place had no client
pub ending-none : (p : HostNode) (cs ds : List (Option OpenClient)) → cs ≡ ds ++ None ∷ [] → IsEnding p cs → IsEnding p ds
ending-none p cs ds split s =
    ending-of p p cs ds None split s refl refl refl (λ j other. refl)
    (closed-port p.host p.hosts (length ds) (port_at p.state (length ds)) (subst (IsTied p.host p.hosts (length ds) (port_at p.state (length ds))) (last-of ds cs None split) (s.tied (length ds))))

-- its client ended, and its port with it
pub ending-closed : (p q : HostNode) (cs ds : List (Option OpenClient)) (x : Option OpenClient) (port : ℕ) → cs ≡ ds ++ x ∷ [] → port ≡ length ds → q ≡ abandoned p port → IsEnding p cs → IsEnding q ds
ending-closed p q cs ds x port split at e s =
    let all : length cs ≡ length ds + 1 = ap length split ∙ length-append ds (x ∷ []) in
    let few = s.few in
    let many = s.counted in
    let new : q ≡ abandoned p (length ds) = e ∙ ap (λ k. abandoned p k) at in
    ending-of p q cs ds x split s (ap (λ h. h.host) new) (ap (λ h. h.hosts) new) (ap (λ h. length h.state.ports) new ∙ length-set p.state.ports (length ds) None)
    (λ j other. ap (λ h. port_at h.state j) new ∙ get_or-set_other p.state.ports (length ds) j None None other)
    (ap (λ h. port_at h.state (length ds)) new ∙ get_or-set_same p.state.ports (length ds) None None (omega (arith, all, few, many)))

-- a packet that was heard, or not, since memory ran out
pub packet-served : {E : Type 0} (n m : HostNode) (cs : List (Option OpenClient)) (wire : List ℕ) (r : Result Arrival E) → IsServed n cs → IfOk r (λ arrival. hear n.host n.hosts n.state wire ≡ (arrival, m.state))
    → m.host ≡ n.host → m.hosts ≡ n.hosts → OnErr r (m ≡ n) → IsServed m cs
packet-served n m cs wire (Ok arrival) s heard host hosts err =
    node-served n m cs s host hosts (subst (NodeTied n.hosts n.state) (ap (λ x. x.1) heard) (hear-tied n.host n.hosts n.state wire))
packet-served n m cs wire (Err e) s heard host hosts err = subst (λ y. IsServed y cs) (sym err) s

-- something counts as sent
pub sent-served : (n m : HostNode) (cs : List (Option OpenClient)) (o : Option Outgoing) → IsServed n cs → m ≡ in_state n (once_sent n.state o) → IsServed m cs
sent-served n m cs o s e = in-served n m cs (once_sent n.state o) s e (once_sent-tied n.hosts n.state o)

-- a call that may run out of memory
pub call-kept : {A E : Type 0} (r : Result A E) (n m : HostNode) (cs : List (Option OpenClient)) (port i : ℕ) (x q p : Option OpenClient) (call : Called) → IsServed n cs → port < 8 → i ≡ port → x ≡ slice_index_or cs i x
    → CallTied n.host n.hosts n.state port call p → OnOk r (m ≡ in_state n call.node) → OnOk r (q ≡ p) → OnErr r (m ≡ n) → OnErr r (q ≡ x) → IsServed m (slice_set cs i q)
call-kept (Ok a) n m cs port i x q p call s below at e tie node client node_stays client_stays =
    called-served n m cs port i q call s below at node (subst (CallTied n.host n.hosts n.state port call) (sym client) tie)
call-kept (Err a) n m cs port i x q p call s below at e tie node client node_stays client_stays = unchanged-served n m cs port i x q s below at e node_stays client_stays

pub call-after : {A E : Type 0} (r : Result A E) (call : NodeState → Option ClientState → Called) (v : ServedHost) (n m : HostNode) (cs : List (Option OpenClient)) (port i : ℕ) (x q p : Option OpenClient)
    → served n cs ≡ v → IsServed n cs → port < 8 → i ≡ port → x ≡ slice_index_or cs i x → CallTied n.host n.hosts n.state port (call n.state (held_of x)) p
    → OnOk r (m ≡ in_state n (call n.state (held_of x)).node) → OnOk r (q ≡ p) → OnOk r (served m (slice_set cs i q) ≡ after_call v port (call v.state (client_in v port)))
call-after (Ok a) call v n m cs port i x q p is s below at e tie node client = called-is call v n m cs port i x q is s below at e node (ap held_of client ∙ tie.held)
call-after (Err a) call v n m cs port i x q p is s below at e tie node client = tt

-- what holds of the hosts' number for the node holds for the host
pub sender-is : (v : ServedHost) (n : HostNode) (cs : List (Option OpenClient)) (said told : Said) → served n cs ≡ v → said ≡ told → IsFromHosts n.hosts told → IsFromHosts v.hosts said
sender-is v n cs said told is e from = subst (IsFromHosts v.hosts) (sym e) (subst (λ h. IsFromHosts h told) (ap (λ w. w.hosts) is) from)
