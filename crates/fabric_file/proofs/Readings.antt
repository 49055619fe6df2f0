-- One line more of the fabric part, and the names of a fabric that was read.
use Rattle.std.proofs.Common.{◌≡◌, ℕ, List, [], ◌∷◌, ◌++◌, ◌+◌, ◌-◌, arith, lit≤, length, Bool, true, false, map, Option, Some, None, Result, Ok, Err, refl, ap, sym, subst, ◌∙◌, append_assoc, if◌then◌else◌}
use Rattle.std.specs.Prelude.{codes, bytes_eq}
use Rattle.std.specs.List.{AllByRecursion}
use Rattle.std.proofs.lemmas.List.{map-append}
use Rattle.net_defs.specs.declared.fault.GraphFault.{GraphFault}
use Rattle.net_defs.specs.declared.vertex.Vertex.{Vertex}
use Rattle.net_defs.specs.declared.vertex.End.{End}
use Rattle.net_defs.specs.Network.{Network, IsFabric, names, empty_network}
use Rattle.net_defs.specs.Building.{vertex_named, host_refusal, switch_refusal, cable_refusal, with_host, with_switch, with_cable}
use Rattle.net_defs.proofs.Distinct.{all-insert, all-push}
use Rattle.net_defs.proofs.Growing.{fabric-with_host, fabric-with_switch, fabric-with_cable}
use Rattle.fab_text.specs.declared.fault.FaultKind.{FaultKind}
use Rattle.fab_text.specs.declared.fault.FaultKind.TheVariants.{BadWord}
use Rattle.fab_text.specs.Word.{name_test}
use Rattle.fab_text.specs.Line.{TextLine, lines_left, line_count, words_of, one_of, two_of, four_of}
use Rattle.fab_text.specs.Fault.{FirstFault, at_line, and_then}
use Rattle.fabric_file.specs.declared.reading.FabricText.{FabricText}
use Rattle.fabric_file.specs.Declaring.{declared, is_script, unless, where_there, number_word, end_word, host_declared, host_line, switch_declared, switch_line, cable_declared, cable_line, cable_between}
use Rattle.fabric_file.specs.Reading.{fabric_from, fabric_reading, AreNamed}

-- what the lines from a line on say, where it is `script`, and where it isn't
abbrev from_line : ℕ → ℕ → Network → TextLine → List TextLine → Bool → Result FabricText FirstFault
from_line size past n l ls script =
    if script then Ok (record { fabric = n; next = size - length l.after; line = l.number })
    else and_then (at_line l.number (declared n (words_of l.bytes))) (λ m. fabric_from size past m ls)

-- the line `script`
pub from-script : (size past : ℕ) (n : Network) (ls rest : List TextLine) (l : TextLine) → ls ≡ l ∷ rest → true ≡ is_script (words_of l.bytes)
    → fabric_from size past n ls ≡ Ok (record { fabric = n; next = size - length l.after; line = l.number })
from-script size past n ls rest l e s = ap (fabric_from size past n) e ∙ sym (ap (from_line size past n l rest) s)

-- the value that nothing refuses
unless-ok : {X : Type 0} (refusal : Option GraphFault) (x m : X) → unless refusal x ≡ Ok m → (refusal ≡ None) × (x ≡ m)
unless-ok None x m e = (refl, cc)
unless-ok (Some f) x m e = cc

abbrev IsNamed : List ℕ → Type 0
IsNamed name = name_test name ≡ true

-- What a fabric keeps when it grows by a vertex or a cable that nothing refuses.
pub record IsKept (P : Network → Type 0) : Type 0 where
  pub host : (n : Network) (name : List ℕ) → IsNamed name → host_refusal n name ≡ None → P n → P (with_host n name)
  pub switch : (n : Network) (name : List ℕ) (ports : ℕ) → IsNamed name → switch_refusal n name ports ≡ None → P n → P (with_switch n name ports)
  pub cable : (n : Network) (a b : End) → cable_refusal n a b ≡ None → P n → P (with_cable n a b)

host-kept : (P : Network → Type 0) (kept : IsKept P) (n m : Network) (name : List ℕ) → host_declared n name ≡ Ok m → P n → P m
host-kept P kept n m name e h = by (name_test name) refl e
  where
    by : (t : Bool) → name_test name ≡ t → (if t then unless (host_refusal n name) (with_host n name) else Err BadWord) ≡ Ok m → P m
    by true good e = let two = unless-ok (host_refusal n name) (with_host n name) m e in subst P two.1 (kept.host n name good two.0 h)
    by false bad e = cc

switch-kept : (P : Network → Type 0) (kept : IsKept P) (n m : Network) (name ports : List ℕ) → switch_declared n name ports ≡ Ok m → P n → P m
switch-kept P kept n m name ports e h = by (name_test name) (number_word ports) refl e
  where
    by : (t : Bool) (p : Result ℕ FaultKind) → name_test name ≡ t → (if t then and_then p (λ p. unless (switch_refusal n name p) (with_switch n name p)) else Err BadWord) ≡ Ok m → P m
    by true (Ok p) good e = let two = unless-ok (switch_refusal n name p) (with_switch n name p) m e in subst P two.1 (kept.switch n name p good two.0 h)
    by true (Err kind) good e = cc
    by false p bad e = cc

between-kept : (P : Network → Type 0) (kept : IsKept P) (n m : Network) (v w : Option Vertex) (p q : ℕ) → cable_between n v p w q ≡ Ok m → P n → P m
between-kept P kept n m None w p q e h = cc
between-kept P kept n m (Some v) None p q e h = cc
between-kept P kept n m (Some v) (Some w) p q e h =
    let a : End = record { v = v; p = p } in
    let b : End = record { v = w; p = q } in
    let two = unless-ok (cable_refusal n a b) (with_cable n a b) m e in
    subst P two.1 (kept.cable n a b two.0 h)

cable-kept : (P : Network → Type 0) (kept : IsKept P) (n m : Network) (v p w q : List ℕ) → cable_declared n v p w q ≡ Ok m → P n → P m
cable-kept P kept n m v p w q e h = by (end_word v p) (end_word w q) e
  where
    by : (i j : Result ℕ FaultKind) → and_then i (λ i. and_then j (λ j. cable_between n (vertex_named n v) i (vertex_named n w) j)) ≡ Ok m → P m
    by (Ok i) (Ok j) e = between-kept P kept n m (vertex_named n v) (vertex_named n w) i j e h
    by (Ok i) (Err kind) e = cc
    by (Err kind) j e = cc

-- what a line declares keeps it
declared-kept : (P : Network → Type 0) (kept : IsKept P) (n m : Network) (ws : List (List ℕ)) → declared n ws ≡ Ok m → P n → P m
declared-kept P kept n m [] e h = cc
declared-kept P kept n m (first ∷ args) e h = by (bytes_eq first (codes "host")) (bytes_eq first (codes "switch")) (bytes_eq first (codes "cable")) e
  where
    hosts : (o : Option (List ℕ)) → where_there o (host_declared n) ≡ Ok m → P m
    hosts None e = cc
    hosts (Some name) e = host-kept P kept n m name e h

    switches : (o : Option (List ℕ × List ℕ)) → where_there o (λ w. switch_declared n w.0 w.1) ≡ Ok m → P m
    switches None e = cc
    switches (Some w) e = switch-kept P kept n m w.0 w.1 e h

    cables : (o : Option ((List ℕ × List ℕ) × (List ℕ × List ℕ))) → where_there o (λ w. cable_declared n w.0.0 w.0.1 w.1.0 w.1.1) ≡ Ok m → P m
    cables None e = cc
    cables (Some w) e = cable-kept P kept n m w.0.0 w.0.1 w.1.0 w.1.1 e h

    by : (h s c : Bool) → (if h then host_line n args else if s then switch_line n args else if c then cable_line n args else Err BadWord) ≡ Ok m → P m
    by true s c e = hosts (one_of args) e
    by false true c e = switches (two_of args) e
    by false false true e = cables (four_of args) e
    by false false false e = cc

-- and so does a text
from-kept-all : (P : Network → Type 0) (kept : IsKept P) (size past : ℕ) (n : Network) (ls : List TextLine) (t : FabricText) → fabric_from size past n ls ≡ Ok t → P n → P t.fabric
from-kept-all P kept size past n [] t e h = cc
from-kept-all P kept size past n (l ∷ ls) t e h = by (is_script (words_of l.bytes)) (declared n (words_of l.bytes)) refl e (λ m f. from-kept-all P kept size past m ls t f)
  where
    by : (s : Bool) (d : Result Network FaultKind) → declared n (words_of l.bytes) ≡ d
        → (if s then Ok (record { fabric = n; next = size - length l.after; line = l.number }) else and_then (at_line l.number d) (λ m. fabric_from size past m ls)) ≡ Ok t
        → ((m : Network) → fabric_from size past m ls ≡ Ok t → P m → P t.fabric) → P t.fabric
    by true d f e rest = let same : record { fabric = n; next = size - length l.after; line = l.number } ≡ t = cc in subst P (ap (λ x. x.fabric) same) h
    by false (Ok m) f e rest = rest m e (declared-kept P kept n m (words_of l.bytes) f h)
    by false (Err kind) f e rest = cc

-- names of the text's form are kept
named-kept : IsKept AreNamed
named-kept = record {
  host = λ n name good free all. all-insert IsNamed n.hosts (map (λ s. s.name) n.switches) name all good;
  switch = λ n name ports good free all.
      subst (AllByRecursion IsNamed)
      (sym (ap (λ l. n.hosts ++ l) (map-append (λ s. s.name) n.switches (record { name = name; ports = ports } ∷ [])) ∙ sym (append_assoc n.hosts (map (λ s. s.name) n.switches) (name ∷ []))))
      (all-push IsNamed (names n) name all good);
  cable = λ n a b free all. all;
}

-- a fabric stays one
fabric-kept : IsKept IsFabric
fabric-kept = record {
  host = λ n name good free f. fabric-with_host n name f free;
  switch = λ n name ports good free f. fabric-with_switch n name ports f free;
  cable = λ n a b free f. fabric-with_cable n a b f free;
}

empty-fabric : IsFabric empty_network
empty-fabric = record { few_hosts = lit≤ tt; few_switches = lit≤ tt; names_apart = tt; port_counts = tt; cabled_ports = tt; ports_once = tt }

-- the fabric of a text is one, with names of the text's form
pub reading-named : (text : List ℕ) (t : FabricText) → fabric_reading text ≡ Ok t → AreNamed t.fabric
reading-named text t e = from-kept-all AreNamed named-kept (length text) (line_count text + 1) empty_network (lines_left (record { number = 1; text = text })) t e tt

pub reading-fabric : (text : List ℕ) (t : FabricText) → fabric_reading text ≡ Ok t → IsFabric t.fabric
reading-fabric text t e = from-kept-all IsFabric fabric-kept (length text) (line_count text + 1) empty_network (lines_left (record { number = 1; text = text })) t e empty-fabric
