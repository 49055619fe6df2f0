-- A printed fabric is read back: its hosts, then its switches, then its cables.
use Rattle.std.proofs.Common.{◌≡◌, ◌≢◌, ◌<◌, ◌≤◌, ℕ, ◌+◌, ◌-◌, List, [], ◌∷◌, ◌++◌, ◌||◌, true, false, not, map, length, nat_le, nat_lt, Some, None, is_some, Ok, Err, refl, ap, sym, subst, ◌∙◌, append_assoc, append-nil, length-append, arith, if◌then◌else◌}
use Rattle.std.specs.Prelude.{bytes_eq, codes, decimal, flat_map}
use Rattle.std.specs.List.{AllByRecursion, list_any}
use Rattle.std.proofs.lemmas.Bool.Decides.{nat_tests}
use Rattle.std.proofs.lemmas.List.{map-append}
use Rattle.net_defs.specs.declared.vertex.Vertex.{Vertex}
use Rattle.net_defs.specs.declared.vertex.Vertex.TheVariants.{Host, Switch}
use Rattle.net_defs.specs.declared.vertex.End.{End}
use Rattle.net_defs.specs.declared.vertex.Cable.{Cable}
use Rattle.net_defs.specs.declared.fault.GraphFault.TheVariants.{PortRange, NameTaken, Full, NoVertex, PortUsed}
use Rattle.net_defs.specs.Network.{Network, NamedSwitch, IsFabric, Apart, ends_of, far, has_port, has_vertex, is_port_count, ports_of, same_end, empty_network}
use Rattle.net_defs.specs.Building.{taken, host_refusal, switch_refusal, cable_refusal, with_host, with_switch, with_cable, vertex_named, name_of}
use Rattle.net_defs.proofs.Ends.{far_end-none, same_end-false}
use Rattle.fab_text.specs.declared.fault.FaultKind.TheVariants.{BadWord, TooLarge}
use Rattle.fab_text.specs.Line.{lines_left, line_count}
use Rattle.fab_text.specs.Fault.{and_then}
use Rattle.fabric_file.specs.Declaring.{declared, unless, end_word, cable_between}
use Rattle.fabric_file.specs.Reading.{fabric_from, AreNamed}
use Rattle.fab_text.specs.Written.{line_text}
use Rattle.fabric_file.specs.Printing.{host_words, switch_words, cable_words, hosts_text, switches_text, cables_text, fabric_text, fabric_lines, script_line, IsReadBack}
use Rattle.fabric_file.proofs.Texts.{printed-declares, printed-script}
use Rattle.fabric_file.proofs.PlainWords.{name-plain}
use Rattle.fabric_file.proofs.Names.{IsNamed, IsFine, small-fine, apart-before, apart-behind, apart-front, all-behind, all-before, fresh, name-names, count-small, port-small, vertex-there}

-- hosts alone
abbrev hosts_alone : List (List ℕ) → Network
hosts_alone hosts = record { hosts = hosts; switches = []; cables = [] }

host-free : (done todo : List (List ℕ)) (name : List ℕ) → Apart (done ++ name ∷ todo) → length done < 128 → host_refusal (hosts_alone done) name ≡ None
host-free done todo name apart few =
    let t : taken (hosts_alone done) name ≡ false = ap (list_any (bytes_eq name)) (append-nil done) ∙ fresh name done (apart-before done todo name apart) in
    let f : nat_le 128 (length done) ≡ false = grind (arith, nat_tests) in
    λ i. if t i then Some NameTaken else if f i then Some Full else None

host-declared : (done : List (List ℕ)) (name : List ℕ) → IsNamed name → host_refusal (hosts_alone done) name ≡ None
    → declared (hosts_alone done) (host_words name) ≡ Ok (hosts_alone (done ++ name ∷ []))
host-declared done name good free = λ i. if good i then unless (free i) (with_host (hosts_alone done) name) else Err BadWord

hosts-back : (size past k : ℕ) (done todo : List (List ℕ)) (rest : List ℕ) → Apart (done ++ todo) → AllByRecursion IsNamed todo → length done + length todo ≤ 128
    → fabric_from size past (hosts_alone done) (lines_left (record { number = k; text = flat_map (λ name. line_text (host_words name)) todo ++ rest }))
    ≡ fabric_from size past (hosts_alone (done ++ todo)) (lines_left (record { number = k + length todo; text = rest }))
hosts-back size past k done [] rest apart good few =
    let plus : k ≡ k + 0 = omega arith in
    λ i. fabric_from size past (hosts_alone (sym (append-nil done) i)) (lines_left (record { number = plus i; text = rest }))
hosts-back size past k done (name ∷ todo) rest apart good few =
    let more = flat_map (λ name. line_text (host_words name)) todo in
    let plus : (k + 1) + length todo ≡ k + length (name ∷ todo) = omega arith in
    let first : length done < 128 = omega arith in
    let shorter : length (done ++ name ∷ []) + length todo ≤ 128 = omega (arith, length-append done (name ∷ [])) in
    ap (λ t. fabric_from size past (hosts_alone done) (lines_left (record { number = k; text = t }))) (append_assoc (line_text (host_words name)) more rest)
    ∙ printed-declares size past k (hosts_alone done) (hosts_alone (done ++ name ∷ [])) (codes "host") (name ∷ []) (more ++ rest) (refl, (name-plain name good.0, tt)) refl refl
    (host-declared done name good.0 (host-free done todo name apart first))
    ∙ hosts-back size past (k + 1) (done ++ name ∷ []) todo rest (subst Apart (sym (append_assoc done (name ∷ []) todo)) apart) good.1 shorter
    ∙ (λ i. fabric_from size past (hosts_alone (append_assoc done (name ∷ []) todo i)) (lines_left (record { number = plus i; text = rest })))

-- hosts and switches alone
abbrev uncabled : List (List ℕ) → List NamedSwitch → Network
uncabled hosts switches = record { hosts = hosts; switches = switches; cables = [] }

abbrev named : List NamedSwitch → List (List ℕ)
named ss = map (λ s. s.name) ss

switch-free : (hosts : List (List ℕ)) (done todo : List NamedSwitch) (s : NamedSwitch) → Apart (hosts ++ named (done ++ s ∷ todo)) → is_port_count s.ports ≡ true → length done < 64
    → switch_refusal (uncabled hosts done) s.name s.ports ≡ None
switch-free hosts done todo s apart count few =
    let split : hosts ++ named (done ++ s ∷ todo) ≡ (hosts ++ named done) ++ s.name ∷ named todo =
    ap (λ l. hosts ++ l) (map-append (λ s. s.name) done (s ∷ todo)) ∙ sym (append_assoc hosts (named done) (s.name ∷ named todo)) in
    let t : taken (uncabled hosts done) s.name ≡ false = fresh s.name (hosts ++ named done) (apart-before (hosts ++ named done) (named todo) s.name (subst Apart split apart)) in
    let f : nat_le 64 (length done) ≡ false = grind (arith, nat_tests) in
    λ i. if not (count i) then Some PortRange else if t i then Some NameTaken else if f i then Some Full else None

switch-declared : (hosts : List (List ℕ)) (done : List NamedSwitch) (s : NamedSwitch) → IsNamed s.name → IsFine s.ports → switch_refusal (uncabled hosts done) s.name s.ports ≡ None
    → declared (uncabled hosts done) (switch_words s) ≡ Ok (uncabled hosts (done ++ s ∷ []))
switch-declared hosts done s good fine free =
    (λ i. if good i then and_then (fine.0 i) (λ p. unless (switch_refusal (uncabled hosts done) s.name p) (with_switch (uncabled hosts done) s.name p)) else Err BadWord)
    ∙ (λ i. unless (free i) (with_switch (uncabled hosts done) s.name s.ports))

switches-back : (size past k : ℕ) (hosts : List (List ℕ)) (done todo : List NamedSwitch) (rest : List ℕ) → Apart (hosts ++ named (done ++ todo)) → AllByRecursion IsNamed (named todo)
    → AllByRecursion (λ s. is_port_count s.ports ≡ true) todo → length done + length todo ≤ 64
    → fabric_from size past (uncabled hosts done) (lines_left (record { number = k; text = flat_map (λ s. line_text (switch_words s)) todo ++ rest }))
    ≡ fabric_from size past (uncabled hosts (done ++ todo)) (lines_left (record { number = k + length todo; text = rest }))
switches-back size past k hosts done [] rest apart good counts few =
    let plus : k ≡ k + 0 = omega arith in
    λ i. fabric_from size past (uncabled hosts (sym (append-nil done) i)) (lines_left (record { number = plus i; text = rest }))
switches-back size past k hosts done (s ∷ todo) rest apart good counts few =
    let more = flat_map (λ s. line_text (switch_words s)) todo in
    let plus : (k + 1) + length todo ≡ k + length (s ∷ todo) = omega arith in
    let first : length done < 64 = omega arith in
    let shorter : length (done ++ s ∷ []) + length todo ≤ 64 = omega (arith, length-append done (s ∷ [])) in
    let fine = small-fine s.ports (count-small s.ports counts.0) in
    ap (λ t. fabric_from size past (uncabled hosts done) (lines_left (record { number = k; text = t }))) (append_assoc (line_text (switch_words s)) more rest)
    ∙ printed-declares size past k (uncabled hosts done) (uncabled hosts (done ++ s ∷ [])) (codes "switch") (s.name ∷ decimal s.ports ∷ []) (more ++ rest) (refl, (name-plain s.name good.0, (fine.1, tt))) refl refl
    (switch-declared hosts done s good.0 fine (switch-free hosts done todo s apart counts.0 first))
    ∙ switches-back size past (k + 1) hosts (done ++ s ∷ []) todo rest (subst (λ l. Apart (hosts ++ named l)) (sym (append_assoc done (s ∷ []) todo)) apart) good.1 counts.1 shorter
    ∙ (λ i. fabric_from size past (uncabled hosts (append_assoc done (s ∷ []) todo i)) (lines_left (record { number = plus i; text = rest })))

-- a fabric with these cables
abbrev cabled : Network → List Cable → Network
cabled n cs = record n { cables = cs }

ports-cabled : (n : Network) (cs : List Cable) (v : Vertex) → ports_of (cabled n cs) v ≡ ports_of n v
ports-cabled n cs (Host h) = refl
ports-cabled n cs (Switch s) = refl

vertex-cabled : (n : Network) (cs : List Cable) (v : Vertex) → has_vertex (cabled n cs) v ≡ has_vertex n v
vertex-cabled n cs (Host h) = refl
vertex-cabled n cs (Switch s) = refl

-- what the words of an end of a fabric say
pub record IsEnd (n : Network) (e : End) : Type 0 where
  pub port : has_port n e ≡ true
  pub there : has_vertex n e.v ≡ true
  pub form : IsNamed (name_of n e.v)
  pub found : vertex_named n (name_of n e.v) ≡ Some e.v
  pub fine : IsFine e.p
  pub word : end_word (name_of n e.v) (decimal e.p) ≡ Ok e.p

is-end : (n : Network) (e : End) → IsFabric n → AreNamed n → has_port n e ≡ true → IsEnd n e
is-end n e f good port =
    let there = vertex-there n e.v e.p port in
    let two = name-names n e.v f.names_apart good there in
    let small : e.p ≤ 15 = port-small n e.v e.p f.port_counts port in
    let fine = small-fine e.p (omega arith) in
    let test : nat_le e.p 15 ≡ true = grind (arith, nat_tests) in
    record {
      port = port;
      there = there;
      form = two.0;
      found = two.1;
      fine = fine;
      word =
          (λ i. if two.0 i then and_then (fine.0 i) (λ p. if nat_le p 15 then Ok p else Err TooLarge) else Err BadWord)
          ∙ (λ i. if test i then Ok e.p else Err TooLarge);
    }

ends-append : (xs ys : List Cable) → ends_of (xs ++ ys) ≡ ends_of xs ++ ends_of ys
ends-append [] ys = refl
ends-append (c ∷ cs) ys = ap (λ l. c.a ∷ c.b ∷ l) (ends-append cs ys)

flipped : {X : Type 0} (x : X) (xs : List X) → AllByRecursion (λ y. y ≢ x) xs → AllByRecursion (λ y. x ≢ y) xs
flipped x [] all = tt
flipped x (y ∷ ys) all = ((λ e. all.0 (sym e)), flipped x ys all.1)

cable-free : (n : Network) (done todo : List Cable) (c : Cable) → IsEnd n c.a → IsEnd n c.b → Apart (ends_of (done ++ c ∷ todo)) → cable_refusal (cabled n done) c.a c.b ≡ None
cable-free n done todo c a b apart =
    let m = cabled n done in
    let split : Apart (ends_of done ++ c.a ∷ c.b ∷ ends_of todo) = subst Apart (ends-append done (c ∷ todo)) apart in
    let behind : Apart (c.a ∷ c.b ∷ ends_of todo) = apart-behind (ends_of done) (c.a ∷ c.b ∷ ends_of todo) split in
    let pushed : Apart ((ends_of done ++ c.a ∷ []) ++ c.b ∷ ends_of todo) = subst Apart (sym (append_assoc (ends_of done) (c.a ∷ []) (c.b ∷ ends_of todo))) split in
    let new_a : AllByRecursion (λ e. c.a ≢ e) (ends_of done) = flipped c.a (ends_of done) (apart-before (ends_of done) (c.b ∷ ends_of todo) c.a split) in
    let new_b : AllByRecursion (λ e. c.b ≢ e) (ends_of done) =
    flipped c.b (ends_of done) (all-before (λ e. e ≢ c.b) (ends_of done) (c.a ∷ []) (apart-before (ends_of done ++ c.a ∷ []) (ends_of todo) c.b pushed)) in
    let u : has_vertex m c.a.v ≡ true = vertex-cabled n done c.a.v ∙ a.there in
    let v : has_vertex m c.b.v ≡ true = vertex-cabled n done c.b.v ∙ b.there in
    let p : has_port m c.a ≡ true = ap (nat_lt c.a.p) (ports-cabled n done c.a.v) ∙ a.port in
    let q : has_port m c.b ≡ true = ap (nat_lt c.b.p) (ports-cabled n done c.b.v) ∙ b.port in
    let s : far m c.a ≡ None = far_end-none done c.a new_a in
    let t : far m c.b ≡ None = far_end-none done c.b new_b in
    let w : same_end c.a c.b ≡ false = same_end-false c.a c.b behind.0.0 in
    (λ i. if not (u i) then Some NoVertex else if not (v i) then Some NoVertex else if not (p i) then Some PortRange else if not (q i) then Some PortRange
    else if (is_some (s i) || is_some (t i) || w i) then Some PortUsed else None)

cable-declared : (n : Network) (done : List Cable) (c : Cable) → IsEnd n c.a → IsEnd n c.b → cable_refusal (cabled n done) c.a c.b ≡ None
    → declared (cabled n done) (cable_words n c) ≡ Ok (cabled n (done ++ c ∷ []))
cable-declared n done c a b free =
    let m = cabled n done in
    let x = name_of n c.a.v in
    let y = name_of n c.b.v in
    (λ i. and_then (a.word i) (λ p. and_then (b.word i) (λ q. cable_between m (vertex_named n x) p (vertex_named n y) q)))
    ∙ (λ i. cable_between m (a.found i) c.a.p (b.found i) c.b.p)
    ∙ (λ i. unless (free i) (with_cable m c.a c.b))

cables-back : (size past k : ℕ) (n : Network) (done todo : List Cable) (rest : List ℕ) → IsFabric n → AreNamed n
    → AllByRecursion (λ e. has_port n e ≡ true) (ends_of todo) → Apart (ends_of (done ++ todo))
    → fabric_from size past (cabled n done) (lines_left (record { number = k; text = flat_map (λ c. line_text (cable_words n c)) todo ++ rest }))
    ≡ fabric_from size past (cabled n (done ++ todo)) (lines_left (record { number = k + length todo; text = rest }))
cables-back size past k n done [] rest f good ports apart =
    let plus : k ≡ k + 0 = omega arith in
    λ i. fabric_from size past (cabled n (sym (append-nil done) i)) (lines_left (record { number = plus i; text = rest }))
cables-back size past k n done (c ∷ todo) rest f good ports apart =
    let more = flat_map (λ c. line_text (cable_words n c)) todo in
    let plus : (k + 1) + length todo ≡ k + length (c ∷ todo) = omega arith in
    let a = is-end n c.a f good ports.0 in
    let b = is-end n c.b f good ports.1.0 in
    ap (λ t. fabric_from size past (cabled n done) (lines_left (record { number = k; text = t }))) (append_assoc (line_text (cable_words n c)) more rest)
    ∙ printed-declares size past k (cabled n done) (cabled n (done ++ c ∷ [])) (codes "cable") (name_of n c.a.v ∷ decimal c.a.p ∷ name_of n c.b.v ∷ decimal c.b.p ∷ []) (more ++ rest)
    (refl, (name-plain (name_of n c.a.v) a.form, (a.fine.1, (name-plain (name_of n c.b.v) b.form, (b.fine.1, tt))))) refl refl
    (cable-declared n done c a b (cable-free n done todo c a b apart))
    ∙ cables-back size past (k + 1) n (done ++ c ∷ []) todo rest f good ports.1.1 (subst (λ l. Apart (ends_of l)) (sym (append_assoc done (c ∷ []) todo)) apart)
    ∙ (λ i. fabric_from size past (cabled n (append_assoc done (c ∷ []) todo i)) (lines_left (record { number = plus i; text = rest })))

-- the text of a fabric, and then a line `script`, is read as that fabric, whatever follows
pub fabric-back : (size past : ℕ) (n : Network) (rest : List ℕ) → IsFabric n → AreNamed n
    → fabric_from size past empty_network (lines_left (record { number = 1; text = fabric_text n ++ (script_line ++ rest) }))
    ≡ Ok (record { fabric = n; next = size - length rest; line = fabric_lines n + 1 })
fabric-back size past n rest f good =
    let tail = script_line ++ rest in
    let good_hosts = all-before IsNamed n.hosts (named n.switches) good in
    let good_switches = all-behind IsNamed n.hosts (named n.switches) good in
    let plus : 1 + length n.hosts + length n.switches + length n.cables ≡ fabric_lines n + 1 = omega arith in
    ap (λ t. fabric_from size past empty_network (lines_left (record { number = 1; text = t })))
    (append_assoc (hosts_text n) (switches_text n ++ cables_text n) tail ∙ ap (λ t. hosts_text n ++ t) (append_assoc (switches_text n) (cables_text n) tail))
    ∙ hosts-back size past 1 [] n.hosts (switches_text n ++ (cables_text n ++ tail)) (apart-front n.hosts (named n.switches) f.names_apart) good_hosts (omega (arith, f.few_hosts))
    ∙ switches-back size past (1 + length n.hosts) n.hosts [] n.switches (cables_text n ++ tail) f.names_apart good_switches f.port_counts (omega (arith, f.few_switches))
    ∙ cables-back size past (1 + length n.hosts + length n.switches) n [] n.cables tail f good f.cabled_ports f.ports_once
    ∙ printed-script size past (1 + length n.hosts + length n.switches + length n.cables) n (codes "script") [] rest (refl, tt) refl refl
    ∙ (λ i. Ok (record { fabric = n; next = size - length rest; line = plus i }))

pub fabric-read-back : (n : Network) → IsFabric n → AreNamed n → IsReadBack n (fabric_text n)
fabric-read-back n f good rest =
    let text = fabric_text n ++ (script_line ++ rest) in
    let all : length text ≡ length (fabric_text n) + (length script_line + length rest) = length-append (fabric_text n) (script_line ++ rest) ∙ ap (λ k. length (fabric_text n) + k) (length-append script_line rest) in
    let next : length text - length rest ≡ length (fabric_text n) + length script_line = omega (arith, all) in
    fabric-back (length text) (line_count text + 1) n rest f good ∙ (λ i. Ok (record { fabric = n; next = next i; line = fabric_lines n + 1 }))
