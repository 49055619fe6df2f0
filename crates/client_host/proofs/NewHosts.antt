-- The hosts of a world before anything happened, one after the other.
use Rattle.std.proofs.Common.{◌≡◌, ◌<◌, ◌+◌, ◌++◌, ℕ, Bool, true, false, nat_eq, List, [], ◌∷◌, length, Option, None, refl, sym, ap, ◌∙◌, arith}
use Rattle.std.specs.Prelude.{replicate, slice_index_or}
use Rattle.std.proofs.lemmas.Bool.Decides.{nat_tests}
use Rattle.std.proofs.lemmas.List.{map-append, length-append, get_or_at, get_or_append_left, replicate-append-replicate}
use Rattle.world_defs.specs.Node.{new_node, port_count}
use Rattle.world_defs.specs.Client.{ClientState}
use Rattle.client_host.specs.Held.{ServedHost, unused_host}
use Rattle.client_host.specs.Hosts.{states, clients_of, no_host, AreHosts}

-- The first so many hosts of all, before anything happened.
pub record AreFirst (hosts n : ℕ) (ss : List ServedHost) : Type 0 where
  pub counted : length ss ≡ n
  pub own : (h : ℕ) → h < n → slice_index_or ss h no_host ≡ unused_host h hosts
  pub states_are : states ss ≡ replicate n (new_node hosts)
  pub clients_are : clients_of ss ≡ replicate n (replicate port_count None)

pub first-none : (hosts : ℕ) → AreFirst hosts 0 []
first-none hosts = record { counted = refl; own = λ k h. absurd (omega arith); states_are = refl; clients_are = refl }

pub first-push : (hosts n : ℕ) (ss : List ServedHost) → AreFirst hosts n ss → AreFirst hosts (n + 1) (ss ++ unused_host n hosts ∷ [])
first-push hosts n ss first = record {
  counted = let l = length-append ss (unused_host n hosts ∷ []) in let c = first.counted in omega (arith, l, c);
  own = λ k below. by k below (nat_eq k n) refl;
  states_are = map-append (λ s. s.state) ss (unused_host n hosts ∷ []) ∙ ap (λ l. l ++ new_node hosts ∷ []) first.states_are ∙ replicate-append-replicate n 1 (new_node hosts);
  clients_are = map-append (λ s. s.clients) ss (unused_host n hosts ∷ []) ∙ ap (λ l. l ++ no_clients ∷ []) first.clients_are ∙ replicate-append-replicate n 1 no_clients;
}
  where
    no_clients : List (Option ClientState)
    no_clients = replicate port_count None

    by : (k : ℕ) → k < n + 1 → (t : Bool) → nat_eq k n ≡ t → slice_index_or (ss ++ unused_host n hosts ∷ []) k no_host ≡ unused_host k hosts
    by k below true t =
        let f : k ≡ n = grind (arith, nat_tests) in
        let c = first.counted in
        get_or_at ss (unused_host n hosts) [] no_host k (omega (arith, c, f)) ∙ ap (λ j. unused_host j hosts) (sym f)
    by k below false t =
        let f : k < n = grind (arith, nat_tests) in
        let c = first.counted in
        get_or_append_left ss (unused_host n hosts ∷ []) no_host k (omega (arith, c, f)) ∙ first.own k f

pub first-all : (hosts : ℕ) (ss : List ServedHost) → hosts < 65536 → AreFirst hosts hosts ss → AreHosts ss
first-all hosts ss few first = record {
  few = let c = first.counted in omega (arith, c, few);
  own = λ k below. let c = first.counted in let o = first.own k (omega (arith, c, below)) in (ap (λ s. s.host) o, ap (λ s. s.hosts) o ∙ sym c);
}
