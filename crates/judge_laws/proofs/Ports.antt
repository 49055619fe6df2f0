-- What the lines of calls tell of ports is what ports and their clients are.
use Rattle.std.proofs.Common.{◌≡◌, ◌≢◌, ◌<◌, ◌&&◌, ℕ, zero, suc, Bool, true, false, List, [], ◌∷◌, length, get_or, set, nat_eq, Option, Some, None, refl, sym, ap, ◌∙◌, true≢false, arith, if◌then◌else◌}
use Rattle.std.proofs.lemmas.Bool.Decides.{Decides-eqb}
use Rattle.net_defs.proofs.Ends.{both}
use Rattle.gm_defs.specs.Token.{PortState}
use Rattle.world_defs.specs.Node.{NodeState, new_node, port_at}
use Rattle.world_defs.specs.Client.{ClientState}
use Rattle.world_defs.specs.World.{WorldState, node_at, client_at, with_node, with_client}
use Rattle.port_ledgers.specs.declared.lane.PortName.{PortName}
use Rattle.port_ledgers.specs.Told.{Told}
use Rattle.port_ledgers.specs.Held.{OpenPort, is_port, port_of, port_from, port_told}
use Rattle.judge_laws.proofs.Counts.{counts, ArePortsKept}

-- an open port by how many tokens it was opened with, and its client
abbrev pub open_by : Option (ℕ × ℕ) → Option ClientState → Option OpenPort
open_by None c = None
open_by (Some n) None = None
open_by (Some n) (Some c) = Some (record { sends = n.0; recvs = n.1; client = c })

-- a port as it is in a world
abbrev pub port_in : WorldState → PortName → Option OpenPort
port_in w a = open_by (counts (port_at (node_at w a.host) a.port)) (client_at w a.host a.port)

pub kept-port : (w v : WorldState) → ArePortsKept w v → (a : PortName) → port_in v a ≡ port_in w a
kept-port w v k a = λ i. open_by (k.counted a.host a.port i) (k.client a.host a.port i)

-- one element of a list is replaced
set-here : {X : Type 0} (xs : List X) (i : ℕ) (x d : X) → i < length xs → get_or (set xs i x) i d ≡ x
set-here [] i x d low = absurd (omega arith)
set-here (y ∷ ys) zero x d low = refl
set-here (y ∷ ys) (suc i) x d low = set-here ys i x d (omega arith)

set-other : {X : Type 0} (xs : List X) (i j : ℕ) (x d : X) → i ≢ j → get_or (set xs i x) j d ≡ get_or xs j d
set-other [] i j x d other = refl
set-other (y ∷ ys) zero zero x d other = absurd (other refl)
set-other (y ∷ ys) zero (suc j) x d other = refl
set-other (y ∷ ys) (suc i) zero x d other = refl
set-other (y ∷ ys) (suc i) (suc j) x d other = set-other ys i j x d (λ e. other (ap suc e))

-- the world after a call of the client of a host's port
module _ (w : WorldState) (h port : ℕ) (n : NodeState) (p : Option PortState) (c : Option ClientState) (there : h < length w.nodes) (low : port < length (node_at w h).ports) (clients : h < length w.clients) (lane : port < length (get_or w.clients h [])) (is : n.ports ≡ set (node_at w h).ports port p) where
  abbrev called : WorldState
  called = with_client (with_node w h n) h port c

  here-port : counts (port_at (node_at called h) port) ≡ counts p
  here-port =
      ap (λ m. counts (port_at m port)) (set-here w.nodes h n (new_node 0) there)
      ∙ ap (λ ps. counts (get_or ps port None)) is
      ∙ ap counts (set-here (node_at w h).ports port p None low)

  here-client : client_at called h port ≡ c
  here-client =
      ap (λ row. get_or row port None) (set-here w.clients h (set (get_or w.clients h []) port c) [] clients)
      ∙ set-here (get_or w.clients h []) port c None lane

  -- another port of the host, and one of another host
  beside-port : (q : ℕ) → port ≢ q → (counts (port_at (node_at called h) q) ≡ counts (port_at (node_at w h) q)) × (client_at called h q ≡ client_at w h q)
  beside-port q other = (
    ap (λ m. counts (port_at m q)) (set-here w.nodes h n (new_node 0) there) ∙ ap (λ ps. counts (get_or ps q None)) is ∙ ap counts (set-other (node_at w h).ports port q p None other),
    ap (λ row. get_or row q None) (set-here w.clients h (set (get_or w.clients h []) port c) [] clients) ∙ set-other (get_or w.clients h []) port q c None other,
  )

  away-port : (i q : ℕ) → h ≢ i → (counts (port_at (node_at called i) q) ≡ counts (port_at (node_at w i) q)) × (client_at called i q ≡ client_at w i q)
  away-port i q other = (
    ap (λ m. counts (port_at m q)) (set-other w.nodes h i n (new_node 0) other),
    ap (λ row. get_or row q None) (set-other w.clients h i (set (get_or w.clients h []) port c) [] other),
  )

  pub called-port : (a : PortName) → port_in called a ≡ (if is_port (record { host = h; port = port }) a then open_by (counts p) c else port_in w a)
  called-port a = by (nat_eq h a.host) (nat_eq port a.port) refl refl
    where
      by : (s t : Bool) → nat_eq h a.host ≡ s → nat_eq port a.port ≡ t → port_in called a ≡ (if s && t then open_by (counts p) c else port_in w a)
      by true true e f =
          let same_host : a.host ≡ h = sym ((Decides-eqb h a.host).0 e) in
          let same_port : a.port ≡ port = sym ((Decides-eqb port a.port).0 f) in
          (λ i. port_in called (record { host = same_host i; port = same_port i })) ∙ (λ i. open_by (here-port i) (here-client i))
      by true false e f =
          let same_host : a.host ≡ h = sym ((Decides-eqb h a.host).0 e) in
          let two = beside-port a.port (λ g. true≢false (sym ((Decides-eqb port a.port).1 g) ∙ f)) in
          (λ i. port_in called (record { host = same_host i; port = a.port })) ∙ (λ i. open_by (two.0 i) (two.1 i)) ∙ (λ i. port_in w (record { host = sym same_host i; port = a.port }))
      by false t e f =
          let two = away-port a.host a.port (λ g. true≢false (sym ((Decides-eqb h a.host).1 g) ∙ e)) in
          λ i. open_by (two.0 i) (two.1 i)

-- what the lines tell of each port is how it is
pub record IsToldPorts (w : WorldState) (past : List Told) : Type 0 where
  pub each : (a : PortName) → port_told a past ≡ port_in w a

-- the same port
pub same-port : (b a : PortName) → is_port b a ≡ true → a ≡ b
same-port b a e =
    let two = both (nat_eq b.host a.host) (nat_eq b.port a.port) e in
    let host : a.host ≡ b.host = sym ((Decides-eqb b.host a.host).0 two.0) in
    let port : a.port ≡ b.port = sym ((Decides-eqb b.port a.port).0 two.1) in
    λ i. record { host = host i; port = port i }

-- one line more, of a port that a call changed
pub next-told : (w v : WorldState) (past : List Told) (t : Told) (b : PortName) (after : Option OpenPort) → IsToldPorts w past → ((a : PortName) → port_in v a ≡ (if is_port b a then after else port_in w a)) → port_of t ≡ b → port_from t (port_in w b) ≡ after
    → IsToldPorts v (t ∷ past)
next-told w v past t b after told moved of from = record { each = each }
  where
    each : (a : PortName) → port_told a (t ∷ past) ≡ port_in v a
    each a = (λ i. if is_port (of i) a then port_from t (told.each a i) else told.each a i) ∙ by (is_port b a) refl ∙ sym (moved a)
      where
        by : (s : Bool) → is_port b a ≡ s → (if s then port_from t (port_in w a) else port_in w a) ≡ (if s then after else port_in w a)
        by true e = ap (λ x. port_from t (port_in w x)) (same-port b a e) ∙ from
        by false e = refl

-- no line more, where no port has changed
pub same-told : (w v : WorldState) (past : List Told) → IsToldPorts w past → ((a : PortName) → port_in v a ≡ port_in w a) → IsToldPorts v past
same-told w v past told same = record { each = λ a. told.each a ∙ sym (same a) }
