-- A fabric that is printed line by line.
use Rattle.std.proofs.Common.{◌≡◌, ◌<◌, ℕ, ◌+◌, List, [], ◌++◌, true, length, take, nat_lt, Some, ap, sym, ◌∙◌, append_assoc, arith}
use Rattle.std.specs.Prelude.{flat_map}
use Rattle.std.specs.Option.{option_map_or}
use Rattle.std.specs.List.{slice_get}
use Rattle.std.proofs.lemmas.Bool.Decides.{nat_tests}
use Rattle.net_defs.specs.declared.vertex.Cable.{Cable}
use Rattle.net_defs.specs.declared.vertex.Vertex.TheVariants.{Host, Switch}
use Rattle.net_defs.specs.Network.{Network, IsFabric, has_port, has_vertex, ports_of}
use Rattle.net_defs.specs.Building.{name_of}
use Rattle.fab_text.specs.Written.{line_text}
use Rattle.fabric_file.specs.Printing.{host_words, switch_words, cable_words, hosts_text, switches_text, cables_text, fabric_text}
use Rattle.fabric_file.proofs.Cutting.{printed-more}
use Rattle.fabric_file.proofs.Names.{nth-there, ends-nth, vertex-there}

-- one element more after what was printed
behind : {X : Type 0} (f : X → List ℕ) (xs : List X) (i : ℕ) (x : X) (text loop new : List ℕ) → slice_get xs i ≡ Some x
    → loop ≡ text ++ flat_map f (take i xs) → new ≡ loop ++ f x → new ≡ text ++ flat_map f (take (i + 1) xs)
behind f xs i x text loop new at so_far more =
    more ∙ ap (λ l. l ++ f x) so_far ∙ append_assoc text (flat_map f (take i xs)) (f x) ∙ ap (λ l. text ++ l) (sym (printed-more f xs i x at))

pub printed-host : (n : Network) (h : ℕ) (text loop new name : List ℕ) → h < length n.hosts → name ≡ name_of n (Host h)
    → loop ≡ text ++ flat_map (λ x. line_text (host_words x)) (take h n.hosts) → new ≡ loop ++ line_text (host_words name)
    → new ≡ text ++ flat_map (λ x. line_text (host_words x)) (take (h + 1) n.hosts)
printed-host n h text loop new name there named so_far more =
    let test : nat_lt h (length n.hosts) ≡ true = grind (arith, nat_tests) in
    let nth = nth-there n.hosts h test in
    let same : name ≡ nth.0 = named ∙ ap (λ o. option_map_or (λ x. x) o []) nth.1 in
    behind (λ x. line_text (host_words x)) n.hosts h nth.0 text loop new nth.1 so_far (more ∙ ap (λ x. loop ++ line_text (host_words x)) same)

pub printed-switch : (n : Network) (s : ℕ) (text loop new name : List ℕ) (ports : ℕ) → s < length n.switches → name ≡ name_of n (Switch s) → ports ≡ ports_of n (Switch s)
    → loop ≡ text ++ flat_map (λ x. line_text (switch_words x)) (take s n.switches) → new ≡ loop ++ line_text (switch_words (record { name = name; ports = ports }))
    → new ≡ text ++ flat_map (λ x. line_text (switch_words x)) (take (s + 1) n.switches)
printed-switch n s text loop new name ports there named counted so_far more =
    let test : nat_lt s (length n.switches) ≡ true = grind (arith, nat_tests) in
    let nth = nth-there n.switches s test in
    let same_name : name ≡ nth.0.name = named ∙ ap (λ o. option_map_or (λ w. w.name) o []) nth.1 in
    let same_ports : ports ≡ nth.0.ports = counted ∙ ap (λ o. option_map_or (λ w. w.ports) o 0) nth.1 in
    behind (λ x. line_text (switch_words x)) n.switches s nth.0 text loop new nth.1 so_far
    (more ∙ (λ i. loop ++ line_text (switch_words (record { name = same_name i; ports = same_ports i }))))

pub printed-cable : (n : Network) (k : ℕ) (text loop new : List ℕ) (c : Cable) → slice_get n.cables k ≡ Some c
    → loop ≡ text ++ flat_map (λ x. line_text (cable_words n x)) (take k n.cables) → new ≡ loop ++ line_text (cable_words n c)
    → new ≡ text ++ flat_map (λ x. line_text (cable_words n x)) (take (k + 1) n.cables)
printed-cable n k text loop new c at so_far more = behind (λ x. line_text (cable_words n x)) n.cables k c text loop new at so_far more

-- the vertices of a cable are there
pub cable-there : (n : Network) (k : ℕ) (c : Cable) → IsFabric n → slice_get n.cables k ≡ Some c → (has_vertex n c.a.v ≡ true) × (has_vertex n c.b.v ≡ true)
cable-there n k c f at =
    let two = ends-nth (λ e. has_port n e ≡ true) n.cables k c f.cabled_ports at in
    (vertex-there n c.a.v c.a.p two.0, vertex-there n c.b.v c.b.p two.1)

-- the three parts
pub printed-whole : (n : Network) (none hosts switches whole : List ℕ) → none ≡ [] → hosts ≡ none ++ hosts_text n → switches ≡ hosts ++ switches_text n → whole ≡ switches ++ cables_text n
    → whole ≡ fabric_text n
printed-whole n none hosts switches whole a b c d =
    d ∙ ap (λ l. l ++ cables_text n) (c ∙ ap (λ l. l ++ switches_text n) (b ∙ ap (λ l. l ++ hosts_text n) a)) ∙ append_assoc (hosts_text n) (switches_text n) (cables_text n)
