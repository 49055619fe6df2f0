-- A fabric that grows stays one.
use Rattle.std.proofs.Common.{◌≡◌, ◌≢◌, ◌≤◌, ◌<◌, ℕ, zero, suc, List, [], ◌∷◌, ◌++◌, Bool, true, false, ◌||◌, not, length, map, nat_le, Option, Some, None, is_some, sym, ◌∙◌, subst, ap, true≢false, refl, arith, if◌then◌else◌, append_assoc, length-append}
use Rattle.std.proofs.lemmas.Bool.Decides.{nat_tests}
use Rattle.std.proofs.lemmas.List.{map-append}
use Rattle.std.specs.List.{AllByRecursion, slice_get}
use Rattle.std.specs.Option.{option_map_or}
use Rattle.net_defs.specs.declared.vertex.Vertex.{Vertex}
use Rattle.net_defs.specs.declared.vertex.Vertex.TheVariants.{Host, Switch}
use Rattle.net_defs.specs.declared.vertex.End.{End}
use Rattle.net_defs.specs.declared.vertex.Cable.{Cable}
use Rattle.net_defs.specs.Network.{Network, NamedSwitch, IsFabric, Apart, ports_of, has_port, has_vertex, is_port_count, ends_of, names, far, same_end}
use Rattle.net_defs.specs.declared.fault.GraphFault.TheVariants.{PortRange, NameTaken, Full, NoVertex, PortUsed}
use Rattle.net_defs.specs.Building.{taken, with_host, with_switch, with_cable, host_refusal, switch_refusal, cable_refusal, is_used}
use Rattle.net_defs.proofs.Distinct.{all-weaker, all-push, apart-insert, apart-push, new_name}
use Rattle.net_defs.proofs.Ends.{far_end-unused, same_end-refl}

-- a switch keeps its ports when others come
pub ports-push : (ws : List NamedSwitch) (w : NamedSwitch) (s : ℕ) → option_map_or (λ x. x.ports) (slice_get ws s) 0 ≤ option_map_or (λ x. x.ports) (slice_get (ws ++ w ∷ []) s) 0
ports-push [] w zero = omega arith
ports-push [] w (suc s) = omega arith
ports-push (x ∷ ws) w zero = omega arith
ports-push (x ∷ ws) w (suc s) = ports-push ws w s

pub ports_of-with_host : (n : Network) (name : List ℕ) (v : Vertex) → ports_of n v ≤ ports_of (with_host n name) v
ports_of-with_host n name (Host h) = grind (arith, nat_tests, length-append)
ports_of-with_host n name (Switch s) = omega arith

pub ports_of-with_switch : (n : Network) (name : List ℕ) (ports : ℕ) (v : Vertex) → ports_of n v ≤ ports_of (with_switch n name ports) v
ports_of-with_switch n name ports (Host h) = omega arith
ports_of-with_switch n name ports (Switch s) = ports-push n.switches (record { name = name; ports = ports }) s

pub has_port-more : (n m : Network) (e : End) → ports_of n e.v ≤ ports_of m e.v → has_port n e ≡ true → has_port m e ≡ true
has_port-more n m e h p = grind (arith, nat_tests)

-- what a refusal that isn't there says
pub host-taken : (n : Network) (name : List ℕ) → host_refusal n name ≡ None → (taken n name ≡ false) × (length n.hosts < 128)
host-taken n name e = by (taken n name) (nat_le 128 (length n.hosts)) refl refl e
  where
    by : (t f : Bool) → taken n name ≡ t → nat_le 128 (length n.hosts) ≡ f → (if t then Some NameTaken else if f then Some Full else None) ≡ None → (taken n name ≡ false) × (length n.hosts < 128)
    by true f p q r = cc
    by false true p q r = cc
    by false false p q r = (p, grind (arith, nat_tests))

-- a fabric with a host more
pub fabric-with_host : (n : Network) (name : List ℕ) → IsFabric n → host_refusal n name ≡ None → IsFabric (with_host n name)
fabric-with_host n name f e =
    let free = host-taken n name e in
    record {
      few_hosts = omega (arith, free.1, length-append n.hosts (name ∷ []));
      few_switches = f.few_switches;
      names_apart = apart-insert n.hosts (map (λ s. s.name) n.switches) name f.names_apart (new_name name (names n) free.0);
      port_counts = f.port_counts;
      cabled_ports = all-weaker _ _ (ends_of n.cables) (λ e. has_port-more n (with_host n name) e (ports_of-with_host n name e.v)) f.cabled_ports;
      ports_once = f.ports_once;
    }

pub switch-taken : (n : Network) (name : List ℕ) (ports : ℕ) → switch_refusal n name ports ≡ None → (is_port_count ports ≡ true) × (taken n name ≡ false) × (length n.switches < 64)
switch-taken n name ports e = by (is_port_count ports) (taken n name) (nat_le 64 (length n.switches)) refl refl refl e
  where
    by : (c t f : Bool) → is_port_count ports ≡ c → taken n name ≡ t → nat_le 64 (length n.switches) ≡ f → (if not c then Some PortRange else if t then Some NameTaken else if f then Some Full else None) ≡ None → (is_port_count ports ≡ true) × (taken n name ≡ false) × (length n.switches < 64)
    by false t f o p q r = cc
    by true true f o p q r = cc
    by true false true o p q r = cc
    by true false false o p q r = (o, p, grind (arith, nat_tests))

-- a fabric with a switch more
pub fabric-with_switch : (n : Network) (name : List ℕ) (ports : ℕ) → IsFabric n → switch_refusal n name ports ≡ None → IsFabric (with_switch n name ports)
fabric-with_switch n name ports f e =
    let free = switch-taken n name ports e in
    let w : NamedSwitch = record { name = name; ports = ports } in
    record {
      few_hosts = f.few_hosts;
      few_switches = omega (arith, free.2, length-append n.switches (w ∷ []));
      names_apart = subst Apart (sym (ap (λ l. n.hosts ++ l) (map-append (λ s. s.name) n.switches (w ∷ [])) ∙ sym (append_assoc n.hosts (map (λ s. s.name) n.switches) (name ∷ [])))) (apart-push (names n) name f.names_apart (new_name name (names n) free.1));
      port_counts = all-push _ n.switches w f.port_counts free.0;
      cabled_ports = all-weaker _ _ (ends_of n.cables) (λ e. has_port-more n (with_switch n name ports) e (ports_of-with_switch n name ports e.v)) f.cabled_ports;
      ports_once = f.ports_once;
    }

-- what a cable finds that is not refused
pub record IsFree (n : Network) (a b : End) : Type 0 where
  pub has_a : has_port n a ≡ true
  pub has_b : has_port n b ≡ true
  pub far_a : far n a ≡ None
  pub far_b : far n b ≡ None
  pub two : a ≢ b

pub no_some : {X : Type 0} (o : Option X) → is_some o ≡ false → o ≡ None
no_some None e = refl
no_some (Some x) e = absurd (true≢false e)

pub unused-parts : (n : Network) (a b : End) → is_used n a b ≡ false → (far n a ≡ None) × (far n b ≡ None) × (a ≢ b)
unused-parts n a b e = by (is_some (far n a)) (is_some (far n b)) (same_end a b) refl refl refl e
  where
    by : (s t u : Bool) → is_some (far n a) ≡ s → is_some (far n b) ≡ t → same_end a b ≡ u → (s || t || u) ≡ false → (far n a ≡ None) × (far n b ≡ None) × (a ≢ b)
    by true t u p q r e = absurd (true≢false e)
    by false true u p q r e = absurd (true≢false e)
    by false false true p q r e = absurd (true≢false e)
    by false false false p q r e = (no_some _ p, no_some _ q, (λ same. true≢false (sym (same_end-refl a) ∙ ap (same_end a) same ∙ r)))

pub cable-free : (n : Network) (a b : End) → cable_refusal n a b ≡ None → IsFree n a b
cable-free n a b e = by (has_vertex n a.v) (has_vertex n b.v) (has_port n a) (has_port n b) (is_used n a b) refl refl refl e
  where
    by : (u v p q w : Bool) → has_port n a ≡ p → has_port n b ≡ q → is_used n a b ≡ w → (if not u then Some NoVertex else if not v then Some NoVertex else if not p then Some PortRange else if not q then Some PortRange else if w then Some PortUsed else None) ≡ None → IsFree n a b
    by false v p q w f g h e = cc
    by true false p q w f g h e = cc
    by true true false q w f g h e = cc
    by true true true false w f g h e = cc
    by true true true true true f g h e = cc
    by true true true true false f g h e =
        let parts = unused-parts n a b h in
        record { has_a = f; has_b = g; far_a = parts.0; far_b = parts.1; two = parts.2 }

ends_of-push : (cs : List Cable) (c : Cable) → ends_of (cs ++ c ∷ []) ≡ (ends_of cs ++ c.a ∷ []) ++ c.b ∷ []
ends_of-push [] c = refl
ends_of-push (d ∷ ds) c = ap (λ l. d.a ∷ d.b ∷ l) (ends_of-push ds c)

-- a fabric with a cable more
pub fabric-with_cable : (n : Network) (a b : End) → IsFabric n → cable_refusal n a b ≡ None → IsFabric (with_cable n a b)
fabric-with_cable n a b f e =
    let free = cable-free n a b e in
    let c : Cable = record { a = a; b = b } in
    let more = ends_of-push n.cables c in
    let first : Apart (ends_of n.cables ++ a ∷ []) = apart-push (ends_of n.cables) a f.ports_once (far_end-unused n.cables a free.far_a) in
    let new : AllByRecursion (λ d. b ≢ d) (ends_of n.cables ++ a ∷ []) = all-push _ (ends_of n.cables) a (far_end-unused n.cables b free.far_b) (λ same. free.two (sym same)) in
    let P : End → Type 0 = λ e. has_port n e ≡ true in
    record {
      few_hosts = f.few_hosts;
      few_switches = f.few_switches;
      names_apart = f.names_apart;
      port_counts = f.port_counts;
      cabled_ports = subst (AllByRecursion P) (sym more) (all-push P (ends_of n.cables ++ a ∷ []) b (all-push P (ends_of n.cables) a f.cabled_ports free.has_a) free.has_b);
      ports_once = subst Apart (sym more) (apart-push (ends_of n.cables ++ a ∷ []) b first new);
    }
