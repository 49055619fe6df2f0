-- The hosts of a world, as one of them changes.
use Rattle.std.proofs.Common.{◌≡◌, ◌<◌, ℕ, zero, suc, Bool, true, false, nat_eq, List, [], ◌∷◌, length, Option, None, refl, sym, ap, subst, ◌∙◌, arith}
use Rattle.std.specs.Prelude.{slice_index_or, slice_set}
use Rattle.std.proofs.lemmas.Bool.Decides.{nat_tests}
use Rattle.std.proofs.lemmas.List.{map-set, set-get_or, length-set, length-map, get_or-map, get_or-set_same, get_or-set_other}
use Rattle.world_defs.specs.declared.effect.Effect.TheVariants.{Said as Says}
use Rattle.world_defs.specs.declared.effect.Said.{Said}
use Rattle.world_defs.specs.Table.{Adoption}
use Rattle.world_defs.specs.Node.{NodeState, new_node}
use Rattle.world_defs.specs.Client.{ClientState, Called}
use Rattle.world_defs.specs.World.{WorldState, fabric_of, host_count, node_at, client_at, with_node}
use Rattle.world_defs.specs.Step.{of_call}
use Rattle.world_defs.specs.History.{fabric_now}
use Rattle.faulty_links.specs.Held.{LinksAndPlan}
use Rattle.client_host.specs.Held.{ServedHost, in_state, client_in, after_call}
use Rattle.client_host.specs.Hosts.{states, clients_of, no_host, AreHosts}
use Rattle.fab_world.specs.Held.{world_of}

-- A host was read at an address of a world that these links, hosts and adopted routes make.
pub record IsAt (p : LinksAndPlan) (ss : List ServedHost) (o : Option Adoption) (w : WorldState) (h i : ℕ) (x : ServedHost) : Type 0 where
  pub is : world_of p ss o ≡ w
  pub kept : AreHosts ss
  pub below : h < host_count w
  pub at : i ≡ h
  pub there : x ≡ slice_index_or ss i x

-- the hosts are as many as their states
pub count-is : (p : LinksAndPlan) (ss : List ServedHost) (o : Option Adoption) (w : WorldState) → world_of p ss o ≡ w → length ss ≡ host_count w
count-is p ss o w is = sym (length-map ss (λ s. s.state)) ∙ ap host_count is

-- a host that the fabric has is one of the world's, where these are as many
pub below-is : (w : WorldState) (p : LinksAndPlan) (ss : List ServedHost) (o : Option Adoption) (h : ℕ) → world_of p ss o ≡ w → host_count w ≡ length (fabric_of w).hosts → h < length (fabric_now p.links.cables).hosts → h < host_count w
below-is w p ss o h is count low =
    let inside : h < length (fabric_of w).hosts = subst (λ v. h < length (fabric_of v).hosts) is low in
    subst (λ n. h < n) (sym count) inside

pub within : {p : LinksAndPlan} {ss : List ServedHost} {o : Option Adoption} {w : WorldState} {h i : ℕ} {x : ServedHost} → IsAt p ss o w h i x → i < length ss
within {p} {ss} {o} {w} {h} {i} {x} a =
    let count = count-is p ss o w a.is in
    let below = a.below in
    let at = a.at in
    omega (arith, count, below, at)

-- a value that was read within a list is the one at its place
pub read-within : (ss : List ServedHost) (i : ℕ) (x : ServedHost) → i < length ss → x ≡ slice_index_or ss i x → x ≡ slice_index_or ss i no_host
read-within [] i x h e = absurd (omega arith)
read-within (y ∷ ss) zero x h e = e
read-within (y ∷ ss) (suc i) x h e = read-within ss i x (omega arith) e

-- What was read at an address is the host there.
pub record IsThere (w : WorldState) (h : ℕ) (x : ServedHost) : Type 0 where
  pub state : x.state ≡ node_at w h
  pub clients : x.clients ≡ slice_index_or w.clients h []
  pub host : x.host ≡ h
  pub hosts : x.hosts ≡ host_count w

pub found : {p : LinksAndPlan} {ss : List ServedHost} {o : Option Adoption} {w : WorldState} {h i : ℕ} {x : ServedHost} → IsAt p ss o w h i x → IsThere w h x
found {p} {ss} {o} {w} {h} {i} {x} a =
    let inside : i < length ss = within a in
    let there : x ≡ slice_index_or ss i no_host = read-within ss i x inside a.there in
    let own = a.kept.own i inside in
    record {
      state = ap (λ s. s.state) there ∙ sym (get_or-map (λ s. s.state) ss i no_host (new_node 0) inside) ∙ ap (λ k. slice_index_or (states ss) k (new_node 0)) a.at ∙ ap (λ v. node_at v h) a.is;
      clients = ap (λ s. s.clients) there ∙ sym (get_or-map (λ s. s.clients) ss i no_host [] inside) ∙ ap (λ k. slice_index_or (clients_of ss) k []) a.at ∙ ap (λ v. slice_index_or v.clients h []) a.is;
      host = ap (λ s. s.host) there ∙ own.0 ∙ a.at;
      hosts = ap (λ s. s.hosts) there ∙ own.1 ∙ count-is p ss o w a.is;
    }

-- what holds of the state and the address there holds of the host that was read
pub as-read : {w : WorldState} {h : ℕ} {x : ServedHost} (P : ℕ → NodeState → Type 0) → IsThere w h x → P h (node_at w h) → P x.host x.state
as-read {w} {h} {x} P t p = subst (λ n. P x.host n) (sym t.state) (subst (λ k. P k (node_at w h)) (sym t.host) p)

-- the hosts of a world are still hosts where one of them changes, and keeps its address
pub kept : {p : LinksAndPlan} {ss : List ServedHost} {o : Option Adoption} {w : WorldState} {h i : ℕ} {x : ServedHost} (q : ServedHost) → IsAt p ss o w h i x → q.host ≡ x.host → q.hosts ≡ x.hosts
    → AreHosts (slice_set ss i q)
kept {p} {ss} {o} {w} {h} {i} {x} q a host_stays hosts_stay = record {
  few = let f = a.kept.few in omega (arith, f, count);
  own = λ k below. by k (omega (arith, count, below)) (nat_eq k i) refl;
}
  where
    inside : i < length ss
    inside = within a

    there : x ≡ slice_index_or ss i no_host
    there = read-within ss i x inside a.there

    count : length (slice_set ss i q) ≡ length ss
    count = length-set ss i q

    by : (k : ℕ) → k < length ss → (t : Bool) → nat_eq k i ≡ t → ((slice_index_or (slice_set ss i q) k no_host).host ≡ k) × ((slice_index_or (slice_set ss i q) k no_host).hosts ≡ length (slice_set ss i q))
    by k below true t =
        let f : k ≡ i = grind (arith, nat_tests) in
        let at : slice_index_or (slice_set ss i q) k no_host ≡ q = ap (λ j. slice_index_or (slice_set ss i q) j no_host) f ∙ get_or-set_same ss i q no_host inside in
        let own = a.kept.own i inside in
        (ap (λ s. s.host) at ∙ host_stays ∙ ap (λ s. s.host) there ∙ own.0 ∙ sym f, ap (λ s. s.hosts) at ∙ hosts_stay ∙ ap (λ s. s.hosts) there ∙ own.1 ∙ sym count)
    by k below false t =
        let differs : k ≡ i → ⊥ = λ f. grind (arith, nat_tests) in
        let at : slice_index_or (slice_set ss i q) k no_host ≡ slice_index_or ss k no_host = get_or-set_other ss i k q no_host differs in
        let own = a.kept.own k below in
        (ap (λ s. s.host) at ∙ own.0, ap (λ s. s.hosts) at ∙ own.1 ∙ sym count)

pub kept-in-state : {p : LinksAndPlan} {ss : List ServedHost} {o : Option Adoption} {w : WorldState} {h i : ℕ} {x : ServedHost} (q : ServedHost) (n : NodeState) → IsAt p ss o w h i x → q ≡ in_state x n
    → AreHosts (slice_set ss i q)
kept-in-state {p} {ss} {o} {w} {h} {i} {x} q n a e = kept q a (ap (λ s. s.host) e) (ap (λ s. s.hosts) e)

pub kept-called : {p : LinksAndPlan} {ss : List ServedHost} {o : Option Adoption} {w : WorldState} {h i : ℕ} {x : ServedHost} (port : ℕ) (q : ServedHost) (call : Called) → IsAt p ss o w h i x → q ≡ after_call x port call
    → AreHosts (slice_set ss i q)
kept-called {p} {ss} {o} {w} {h} {i} {x} port q call a e = kept q a (ap (λ s. s.host) e) (ap (λ s. s.hosts) e)

-- where one of the hosts stays as it is, so do all
pub kept-same : {p : LinksAndPlan} {ss : List ServedHost} {o : Option Adoption} {w : WorldState} {h i : ℕ} {x : ServedHost} (q : ServedHost) → IsAt p ss o w h i x → q ≡ x → AreHosts (slice_set ss i q)
kept-same {p} {ss} {o} {w} {h} {i} {x} q a e = kept q a (ap (λ s. s.host) e) (ap (λ s. s.hosts) e)

pub same : {p : LinksAndPlan} {ss : List ServedHost} {o : Option Adoption} {w : WorldState} {h i : ℕ} {x : ServedHost} (q : ServedHost) → IsAt p ss o w h i x → q ≡ x → world_of p (slice_set ss i q) o ≡ w
same {p} {ss} {o} {w} {h} {i} {x} q a e =
    let there : x ≡ slice_index_or ss i no_host = read-within ss i x (within a) a.there in
    ap (λ s. world_of p (slice_set ss i s) o) (e ∙ there) ∙ ap (λ l. world_of p l o) (set-get_or ss i no_host) ∙ a.is

-- one host is in another state and has other clients
put-is : (p : LinksAndPlan) (ss : List ServedHost) (o : Option Adoption) (h i : ℕ) (q : ServedHost) → i ≡ h
    → world_of p (slice_set ss i q) o ≡ record (with_node (world_of p ss o) h q.state) { clients = slice_set (clients_of ss) h q.clients }
put-is p ss o h i q at =
    let nodes : states (slice_set ss i q) ≡ slice_set (states ss) h q.state = map-set (λ s. s.state) ss i q ∙ ap (λ k. slice_set (states ss) k q.state) at in
    let clients : clients_of (slice_set ss i q) ≡ slice_set (clients_of ss) h q.clients = map-set (λ s. s.clients) ss i q ∙ ap (λ k. slice_set (clients_of ss) k q.clients) at in
    λ j. record (world_of p ss o) { nodes = nodes j; clients = clients j }

-- One host is in another state, in a world of other links too.
pub changed-under : {p : LinksAndPlan} {ss : List ServedHost} {o : Option Adoption} {w : WorldState} {h i : ℕ} {x : ServedHost} (q : ServedHost) (n : NodeState) (now : LinksAndPlan) (adopted : Option Adoption)
    → IsAt p ss o w h i x → q ≡ in_state x n → world_of now (slice_set ss i q) adopted ≡ with_node (world_of now ss adopted) h n
changed-under {p} {ss} {o} {w} {h} {i} {x} q n now adopted a e =
    let here : IsThere (world_of p ss o) h x = found {p = p} {ss = ss} {o = o} {w = world_of p ss o} {h = h} {i = i} {x = x} (record { is = refl; kept = a.kept; below = subst (λ v. h < host_count v) (sym a.is) a.below; at = a.at; there = a.there }) in
    let clients : slice_set (clients_of ss) h q.clients ≡ clients_of ss = ap (λ s. slice_set (clients_of ss) h s.clients) e ∙ ap (slice_set (clients_of ss) h) here.clients ∙ set-get_or (clients_of ss) h [] in
    put-is now ss adopted h i q a.at ∙ ap (λ m. record (with_node (world_of now ss adopted) h m) { clients = slice_set (clients_of ss) h q.clients }) (ap (λ s. s.state) e)
    ∙ ap (λ cs. record (with_node (world_of now ss adopted) h n) { clients = cs }) clients

-- one host is in another state
pub changed : {p : LinksAndPlan} {ss : List ServedHost} {o : Option Adoption} {w : WorldState} {h i : ℕ} {x : ServedHost} (q : ServedHost) (f : NodeState → NodeState) → IsAt p ss o w h i x → q ≡ in_state x (f x.state)
    → world_of p (slice_set ss i q) o ≡ with_node w h (f (node_at w h))
changed {p} {ss} {o} {w} {h} {i} {x} q f a e =
    let here = found a in
    changed-under q (f x.state) p o a e ∙ ap (λ v. with_node v h (f x.state)) a.is ∙ ap (λ n. with_node w h (f n)) here.state

-- a call at one host is the same call in the world
pub call-is : {p : LinksAndPlan} {ss : List ServedHost} {o : Option Adoption} {w : WorldState} {h i : ℕ} {x : ServedHost} (port : ℕ) (f : NodeState → Option ClientState → Called) → IsAt p ss o w h i x
    → f x.state (client_in x port) ≡ f (node_at w h) (client_at w h port)
call-is {p} {ss} {o} {w} {h} {i} {x} port f a =
    let here = found a in
    ap (λ n. f n (client_in x port)) here.state ∙ ap (λ cs. f (node_at w h) (slice_index_or cs port None)) here.clients

-- the client of one host's port makes a call
pub called : {p : LinksAndPlan} {ss : List ServedHost} {o : Option Adoption} {w : WorldState} {h i : ℕ} {x : ServedHost} (port : ℕ) (q : ServedHost) (f : NodeState → Option ClientState → Called) (said : Said) → IsAt p ss o w h i x
    → said ≡ (f x.state (client_in x port)).said → q ≡ after_call x port (f x.state (client_in x port))
    → of_call w h port (f (node_at w h) (client_at w h port)) ≡ (Says said, world_of p (slice_set ss i q) o)
called {p} {ss} {o} {w} {h} {i} {x} port q f said a told e =
    let here = found a in
    let call : f x.state (client_in x port) ≡ f (node_at w h) (client_at w h port) = call-is port f a in
    let node : q.state ≡ (f (node_at w h) (client_at w h port)).node = ap (λ s. s.state) e ∙ ap (λ k. k.node) call in
    let clients : q.clients ≡ slice_set (slice_index_or w.clients h []) port (f (node_at w h) (client_at w h port)).client =
    ap (λ s. s.clients) e ∙ ap (λ k. slice_set x.clients port k.client) call ∙ ap (λ cs. slice_set cs port (f (node_at w h) (client_at w h port)).client) here.clients in
    let now : world_of p (slice_set ss i q) o ≡ (of_call w h port (f (node_at w h) (client_at w h port))).1 =
    put-is p ss o h i q a.at ∙ ap (λ v. record (with_node v h q.state) { clients = slice_set v.clients h q.clients }) a.is
    ∙ ap (λ n. record (with_node w h n) { clients = slice_set w.clients h q.clients }) node
    ∙ ap (λ cs. record (with_node w h (f (node_at w h) (client_at w h port)).node) { clients = slice_set w.clients h cs }) clients in
    let says : Says said ≡ (of_call w h port (f (node_at w h) (client_at w h port))).0 = ap Says (told ∙ ap (λ k. k.said) call) in
    λ j. (sym says j, sym now j)
