-- The hosts of a generated run: what a call leaves of them, which ports are open, what their clients have, and what was sent.
use Rattle.std.proofs.Common.{◌≡◌, ◌≢◌, ◌≤◌, ◌<◌, ◌+◌, ◌-◌, ℕ, Bool, true, false, ◌&&◌, List, [], ◌∷◌, ◌++◌, map, length, get_or, set, nat_eq, Option, Some, None, is_some, refl, sym, ap, ◌∙◌, subst, arith, if◌then◌else◌}
use Rattle.std.specs.List.{filter}
use Rattle.std.proofs.Math.ListN.{length-set}
use Rattle.std.proofs.lemmas.Bool.Decides.{nat_tests}
use Rattle.std.proofs.lemmas.List.{get_or-set_same, get_or-set_other, append-nil}
use Rattle.std.proofs.lemmas.List.Elements.{filter-append}
use Rattle.gm_defs.specs.declared.message.Message.{Message}
use Rattle.gm_defs.specs.Token.{PortState}
use Rattle.world_defs.specs.Table.{table_route}
use Rattle.world_defs.specs.Node.{NodeState, new_node, lane_count, port_count, lane_of, lane_at, port_at, with_port}
use Rattle.world_defs.specs.Client.{ClientState, Called, left, wanted_message}
use Rattle.world_defs.specs.World.{WorldState, host_count, node_at}
use Rattle.world_defs.specs.Step.{of_call, wanted}
use Rattle.fabric_gen.specs.Text.{peer, message_length, message_prio, message_seed, message_size}
use Rattle.delivery_laws.specs.Delivery.{is_of}
use Rattle.delivery_laws.proofs.Counts.{count_of, one_if}
use Rattle.gen_laws.proofs.Counts.{count-more, is_from, is_to}

-- the clients of a host
abbrev pub row_at : WorldState → ℕ → List (Option ClientState)
row_at w h = get_or w.clients h []

-- So many hosts are as a relation says, each with its clients.
pub record Hosts (n : ℕ) (P : ℕ → NodeState → List (Option ClientState) → Type 0) (w : WorldState) : Type 0 where
  pub count : host_count w ≡ n
  pub rows : length w.clients ≡ n
  pub each : (h : ℕ) → h < n → P h (node_at w h) (row_at w h)

-- what the call of a client leaves of them
pub called-on : (n : ℕ) (P Q : ℕ → NodeState → List (Option ClientState) → Type 0) (w : WorldState) (h port : ℕ) (call : Called) → h < n → Hosts n P w
    → Q h call.node (set (row_at w h) port call.client) → ((k : ℕ) → k ≢ h → k < n → (x : NodeState) (r : List (Option ClientState)) → P k x r → Q k x r) → Hosts n Q (of_call w h port call).1
called-on n P Q w h port call low is here others =
    let count = is.count in
    let rows = is.rows in
    record {
      count = length-set w.nodes h call.node ∙ is.count;
      rows = length-set w.clients h (set (row_at w h) port call.client) ∙ is.rows;
      each = λ k below. by k below (nat_eq k h) refl (omega (arith, low, count)) (omega (arith, low, rows));
    }
  where
    r : List (Option ClientState)
    r = set (row_at w h) port call.client

    by : (k : ℕ) → k < n → (b : Bool) → nat_eq k h ≡ b → h < host_count w → h < length w.clients → Q k (get_or (set w.nodes h call.node) k (new_node 0)) (get_or (set w.clients h r) k [])
    by k below true e there held =
        let same : h ≡ k = grind (arith, nat_tests) in
        subst (λ j. Q j (get_or (set w.nodes h call.node) j (new_node 0)) (get_or (set w.clients h r) j [])) same
        (subst (λ x. Q h x (get_or (set w.clients h r) h [])) (sym (get_or-set_same w.nodes h call.node (new_node 0) there)) (subst (λ x. Q h call.node x) (sym (get_or-set_same w.clients h r [] held)) here))
    by k below false e there held =
        let other : k ≢ h = (λ d. grind (arith, nat_tests)) in
        subst (λ x. Q k x (get_or (set w.clients h r) k [])) (sym (get_or-set_other w.nodes h k call.node (new_node 0) other))
        (subst (λ x. Q k (node_at w k) x) (sym (get_or-set_other w.clients h k r [] other)) (others k other below (node_at w k) (row_at w k) (is.each k below)))

-- lists that grow by one
pub filter-new : {A : Type 0} (test : A → Bool) (xs : List A) (x : A) → test x ≡ true → filter test (xs ++ x ∷ []) ≡ filter test xs ++ x ∷ []
filter-new test xs x e = filter-append test xs (x ∷ []) ∙ ap (λ b. filter test xs ++ (if b then x ∷ [] else [])) e

pub filter-same : {A : Type 0} (test : A → Bool) (xs : List A) (x : A) → test x ≡ false → filter test (xs ++ x ∷ []) ≡ filter test xs
filter-same test xs x e = filter-append test xs (x ∷ []) ∙ ap (λ b. filter test xs ++ (if b then x ∷ [] else [])) e ∙ append-nil (filter test xs)

pub count-new : {A : Type 0} (test : A → Bool) (xs : List A) (x : A) → test x ≡ true → count_of test (xs ++ x ∷ []) ≡ count_of test xs + 1
count-new test xs x e = count-more test xs x ∙ ap (λ b. count_of test xs + one_if b) e

pub count-same : {A : Type 0} (test : A → Bool) (xs : List A) (x : A) → test x ≡ false → count_of test (xs ++ x ∷ []) ≡ count_of test xs
count-same test xs x e = ap length (filter-same test xs x e)

-- the message of a host and a number
abbrev pub message_of : ℕ → ℕ → ℕ × ℕ → Message
message_of n seed d = wanted_message (wanted 0 (peer n seed d.0 d.1) 1 (message_prio d.1) (message_length seed d.0 d.1) (message_seed seed d.0 d.1))

-- it goes by a lane
abbrev pub goes_by : ℕ → ℕ → ℕ → ℕ × ℕ → Bool
goes_by n seed lane d = nat_eq (lane_of (peer n seed d.0 d.1) (message_prio d.1)) lane

-- its buffer is of a size and a priority
abbrev pub has_size : ℕ → ℕ → ℕ → ℕ × ℕ → Bool
has_size seed size prio d = nat_eq (message_size seed d.0 d.1) size && nat_eq (message_prio d.1) prio

-- A host with its lanes, its ports and its clients, a route to each other host, and these messages sent.
pub record Plain (n seed : ℕ) (ss : List (ℕ × ℕ)) (h : ℕ) (x : NodeState) (r : List (Option ClientState)) : Type 0 where
  pub lanes : length x.lanes ≡ lane_count n
  pub ports : length x.ports ≡ port_count
  pub clients : length r ≡ port_count
  pub routed : (dest : ℕ) → dest < n → dest ≢ h → is_some (table_route x.table dest) ≡ true
  pub sent : (lane : ℕ) → (lane_at x lane).sent ≡ map (message_of n seed) (filter (λ d. is_from h d && goes_by n seed lane d) ss)
  pub few : (lane : ℕ) → (lane_at x lane).sender.next ≤ length (lane_at x lane).sent

-- Its port 0 is open, and the client has a send token for each of four messages that it hasn't sent.
pub record Sends (ss : List (ℕ × ℕ)) (h : ℕ) (x : NodeState) (r : List (Option ClientState)) : Type 0 where
  pub port : PortState
  pub is_port : port_at x 0 ≡ Some port
  pub client : ClientState
  pub is_client : get_or r 0 None ≡ Some client
  pub left : length client.sends + count_of (is_from h) ss ≡ 4

-- Its port 1 is open, with the buffers of these messages, and the client has a receive token for each other of four.
pub record Takes (n seed : ℕ) (ps : List (ℕ × ℕ)) (h : ℕ) (x : NodeState) (r : List (Option ClientState)) : Type 0 where
  pub port : PortState
  pub is_port : port_at x 1 ≡ Some port
  pub client : ClientState
  pub is_client : get_or r 1 None ≡ Some client
  pub left : length client.recvs + count_of (is_to n seed h) ps ≡ 4
  pub provided : (size prio : ℕ) → count_of (is_of size prio) port.provided ≡ count_of (λ d. is_to n seed h d && has_size seed size prio d) ps

-- a port and its client change
pub port-plain : {n seed : ℕ} {ss : List (ℕ × ℕ)} {h : ℕ} {x : NodeState} {r : List (Option ClientState)} (q : ℕ) (p : Option PortState) (c : Option ClientState) → Plain n seed ss h x r → Plain n seed ss h (with_port x q p) (set r q c)
port-plain {x = x} {r = r} q p c k = record {
  lanes = k.lanes;
  ports = length-set x.ports q p ∙ k.ports;
  clients = length-set r q c ∙ k.clients;
  routed = k.routed;
  sent = k.sent;
  few = k.few;
}
