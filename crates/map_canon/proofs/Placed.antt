-- The hosts of a map that was read are hosts of the fabric.
use Rattle.std.proofs.Common.{◌≡◌, ◌<◌, ◌+◌, ℕ, List, [], ◌∷◌, Bool, true, false, not, cond, length, nat_eq, nat_lt, Option, Some, None, option_map, Result, Ok, Err, IfOk, refl, ap, sym, subst, ◌∙◌, arith, if◌then◌else◌}
use Rattle.std.specs.Prelude.{ℤ, position, bytes_eq}
use Rattle.std.specs.List.{prefix_len}
use Rattle.std.proofs.lemmas.Bool.Decides.{nat_tests}
use Rattle.net_defs.specs.declared.vertex.Vertex.{Vertex}
use Rattle.net_defs.specs.declared.vertex.Vertex.TheVariants.{Host, Switch}
use Rattle.net_defs.specs.Network.{Network}
use Rattle.net_defs.specs.Building.{vertex_named as fabric_vertex, first_of_two}
use Rattle.net_defs.proofs.Distinct.{all-push}
use Rattle.map_defs.specs.declared.vertex.MapVertex.TheVariants.{Host as MapHost, Switch as MapSwitch}
use Rattle.map_defs.specs.declared.vertex.MapCable.{MapCable}
use Rattle.map_defs.specs.NetMap.{NetMap, switches_of}
use Rattle.fab_text.specs.declared.fault.FaultKind.{FaultKind}
use Rattle.fab_text.specs.declared.fault.FaultKind.TheVariants.{BadWord}
use Rattle.fab_text.specs.declared.fault.TextFault.{TextFault}
use Rattle.fab_text.specs.declared.fault.TextFault.TheVariants.{At, NoMemory}
use Rattle.fab_text.specs.Line.{TextLine, lines_left, line_count, words_of}
use Rattle.fab_text.specs.Fault.{FirstFault, TextGives, at_line, and_then}
use Rattle.fabric_map.specs.declared.fault.MapFault.{MapFault}
use Rattle.fabric_map.specs.Growing.{empty_map, host_refusal, switch_refusal, cable_refusal, with_host, with_switch, with_cable}
use Rattle.line_table.specs.declared.kind.MapLineKind.{MapLineKind}
use Rattle.line_table.specs.declared.kind.MapLineKind.TheVariants.{Host as HostLine, Switch as SwitchLine, Cable as CableLine, End as EndLine}
use Rattle.line_table.specs.Said.{address_in}
use Rattle.line_table.specs.Form.{LineValue, Word, HostAt, TurnBy, VertexAt}
use Rattle.line_table.specs.Matching.{onto, matched}
use Rattle.run_defs.specs.LineText.{core_word}
use Rattle.map_canon.specs.Declaring.{unless, vertex_in, cable_between, placed, args_of, begins, words_formed, row_declared, declared}
use Rattle.map_canon.specs.Reading.{MapPart, PartGives, is_end, ended, map_from, map_until, part_of, map_part, map_reading}
use Rattle.map_canon.specs.Printing.{IsOfFabric, AreOfFabric}

-- a place that was found is one of the list
position-low : {X : Type 0} (p : X → Bool) (xs : List X) (k : ℕ) → position p xs ≡ Some k → k < length xs
position-low p xs k e = by (nat_lt (prefix_len (λ y. not (p y)) xs) (length xs)) refl e
  where
    by : (t : Bool) → nat_lt (prefix_len (λ y. not (p y)) xs) (length xs) ≡ t → cond t (Some (prefix_len (λ y. not (p y)) xs)) None ≡ Some k → k < length xs
    by true t f = let same : prefix_len (λ y. not (p y)) xs ≡ k = cc in grind (arith, nat_tests)
    by false t f = cc

host-there : (f : Network) (name : List ℕ) (h : ℕ) → fabric_vertex f name ≡ Some (Host h) → h < length f.hosts
host-there f name h e = by (position (bytes_eq name) f.hosts) (position (λ s. bytes_eq name s.name) f.switches) refl e
  where
    by : (o p : Option ℕ) → position (bytes_eq name) f.hosts ≡ o → first_of_two (option_map Host o) (option_map Switch p) ≡ Some (Host h) → h < length f.hosts
    by (Some k) p q r = let same : k ≡ h = cc in position-low (bytes_eq name) f.hosts h (q ∙ ap Some same)
    by None (Some s) q r = cc
    by None None q r = cc

-- a map that nothing refuses
unless-is : (refusal : Option MapFault) (m n : NetMap) → unless refusal m ≡ Ok n → m ≡ n
unless-is None m n e = cc
unless-is (Some x) m n e = cc

between-kept : (f : Network) (m n : NetMap) (v w : Option ℕ) (p q : ℤ) → cable_between m v p w q ≡ Ok n → AreOfFabric f m → AreOfFabric f n
between-kept f m n None w p q e all = cc
between-kept f m n (Some v) None p q e all = cc
between-kept f m n (Some v) (Some w) p q e all =
    let c : MapCable = record { v = v; p = p; w = w; q = q } in
    subst (AreOfFabric f) (unless-is (cable_refusal m c) (with_cable m c) n e) all

placed-kept : (f : Network) (m n : NetMap) (k : MapLineKind) (o : Option (List LineValue)) → ((h : ℕ) → k ≡ HostLine → o ≡ Some (HostAt h ∷ []) → h < length f.hosts) → placed m k o ≡ Ok n → AreOfFabric f m → AreOfFabric f n
placed-kept f m n HostLine (Some (HostAt h ∷ [])) low e all = subst (AreOfFabric f) (unless-is (host_refusal m h) (with_host m h) n e) (all-push (IsOfFabric f) m.vertices (MapHost h) all (low h refl refl))
placed-kept f m n SwitchLine (Some (VertexAt (MapSwitch s) ∷ Word mark ∷ [])) low e all = by (nat_eq s (length (switches_of m.vertices))) e
  where
    core : Bool
    core = bytes_eq mark (core_word true)

    by : (t : Bool) → (if t then unless (switch_refusal m) (with_switch m core) else Err BadWord) ≡ Ok n → AreOfFabric f n
    by true d = subst (AreOfFabric f) (unless-is (switch_refusal m) (with_switch m core) n d) (all-push (IsOfFabric f) m.vertices (MapSwitch (length (switches_of m.vertices))) all tt)
    by false d = cc
placed-kept f m n CableLine (Some (VertexAt v ∷ TurnBy p ∷ VertexAt w ∷ TurnBy q ∷ [])) low e all = between-kept f m n (vertex_in m v) (vertex_in m w) p q e all
placed-kept f m n _ _ low e all = cc

-- the host of a line is one of the fabric
matched-there : (f : Network) (args : List (List ℕ)) (h : ℕ) → matched f (args_of HostLine) args ≡ Some (HostAt h ∷ []) → h < length f.hosts
matched-there f [] h e = cc
matched-there f (w ∷ ws) h e = by (fabric_vertex f w) refl e
  where
    by : (v : Option Vertex) → fabric_vertex f w ≡ v → onto (option_map HostAt (address_in v)) (matched f [] ws) ≡ Some (HostAt h ∷ []) → h < length f.hosts
    by None p d = cc
    by (Some (Switch s)) p d = cc
    by (Some (Host g)) p d = alone ws d
      where
        alone : (ws : List (List ℕ)) → onto (Some (HostAt g)) (matched f [] ws) ≡ Some (HostAt h ∷ []) → h < length f.hosts
        alone [] d = let same : g ≡ h = cc in subst (λ a. a < length f.hosts) same (host-there f w g p)
        alone (x ∷ xs) d = cc

row-kept : (f : Network) (m n : NetMap) (k : MapLineKind) (args : List (List ℕ)) → row_declared f m k args ≡ Ok n → AreOfFabric f m → AreOfFabric f n
row-kept f m n k args e all = by (nat_eq (length (args_of k)) (length args)) (words_formed (args_of k) args) e
  where
    there : (k : MapLineKind) (h : ℕ) → k ≡ HostLine → matched f (args_of k) args ≡ Some (HostAt h ∷ []) → h < length f.hosts
    there HostLine h is d = matched-there f args h d
    there SwitchLine h is d = cc
    there CableLine h is d = cc
    there EndLine h is d = cc

    by : (t : Bool) (r : Result (Unit {0}) FaultKind) → (if t then and_then r (λ formed. placed m k (matched f (args_of k) args)) else Err BadWord) ≡ Ok n → AreOfFabric f n
    by true (Ok formed) d = placed-kept f m n k (matched f (args_of k) args) (there k) d all
    by true (Err kind) d = cc
    by false r d = cc

-- a line keeps it
declared-kept : (f : Network) (m n : NetMap) (ws : List (List ℕ)) → declared f m ws ≡ Ok n → AreOfFabric f m → AreOfFabric f n
declared-kept f m n [] e all = cc
declared-kept f m n (first ∷ args) e all = by (begins HostLine first) (begins SwitchLine first) (begins CableLine first) e
  where
    by : (h s c : Bool) → (if h then row_declared f m HostLine args else if s then row_declared f m SwitchLine args else if c then row_declared f m CableLine args else Err BadWord) ≡ Ok n → AreOfFabric f n
    by true s c d = row-kept f m n HostLine args d all
    by false true c d = row-kept f m n SwitchLine args d all
    by false false true d = row-kept f m n CableLine args d all
    by false false false d = cc

ended-is : (m n : NetMap) (ls : List TextLine) → ended m ls ≡ Ok n → m ≡ n
ended-is m n [] e = cc
ended-is m n (l ∷ ls) e = cc

-- so do lines up to `endmap`, whatever comes of their map
until-kept : {X : Type 0} (end : NetMap → List TextLine → Result X FirstFault) (made : X → NetMap)
    → ((m : NetMap) (ls : List TextLine) (x : X) → end m ls ≡ Ok x → m ≡ made x)
    → (past : ℕ) (f : Network) (m : NetMap) (x : X) (ls : List TextLine) → map_until end past f m ls ≡ Ok x → AreOfFabric f m → AreOfFabric f (made x)
until-kept end made is past f m x [] e all = cc
until-kept end made is past f m x (l ∷ ls) e all = by (is_end (words_of l.bytes)) (declared f m (words_of l.bytes)) refl e (λ k d more. until-kept end made is past f k x ls d more)
  where
    by : (t : Bool) (r : Result NetMap FaultKind) → declared f m (words_of l.bytes) ≡ r → (if t then end m ls else and_then (at_line l.number r) (λ k. map_until end past f k ls)) ≡ Ok x
        → ((k : NetMap) → map_until end past f k ls ≡ Ok x → AreOfFabric f k → AreOfFabric f (made x)) → AreOfFabric f (made x)
    by true r q d rest = subst (AreOfFabric f) (is m ls x d) all
    by false (Ok k) q d rest = rest k d (declared-kept f m k (words_of l.bytes) q all)
    by false (Err kind) q d rest = cc

part-is : (m : NetMap) (ls : List TextLine) (p : MapPart) → part_of m ls ≡ Ok p → m ≡ p.made
part-is m ls p e = let one : (record { made = m; after = ls }) ≡ p = cc in ap (λ q. q.made) one

-- the map of a part is of the fabric
pub part-of_fabric : (past : ℕ) (f : Network) (ls left : List TextLine) (r : Result NetMap TextFault) → PartGives (map_part past f ls) left r → IfOk r (λ m. AreOfFabric f m)
part-of_fabric past f ls left (Ok m) h = until-kept part_of (λ p. p.made) part-is past f empty_map (record { made = m; after = left }) ls h tt
part-of_fabric past f ls left (Err e) h = tt

-- a map is its part with nothing after it
from-part : (past : ℕ) (f : Network) (m : NetMap) (ls : List TextLine) → map_from past f m ls ≡ and_then (map_until part_of past f m ls) (λ p. ended p.made p.after)
from-part past f m [] = refl
from-part past f m (l ∷ ls) = by (is_end (words_of l.bytes)) (declared f m (words_of l.bytes)) (λ k. from-part past f k ls)
  where
    by : (t : Bool) (r : Result NetMap FaultKind) → ((k : NetMap) → map_from past f k ls ≡ and_then (map_until part_of past f k ls) (λ p. ended p.made p.after))
        → (if t then ended m ls else and_then (at_line l.number r) (λ k. map_from past f k ls))
        ≡ and_then (if t then part_of m ls else and_then (at_line l.number r) (λ k. map_until part_of past f k ls)) (λ p. ended p.made p.after)
    by true r rest = refl
    by false (Ok k) rest = rest k
    by false (Err kind) rest = refl

-- the part of a whole text
abbrev pub whole_part : Network → List ℕ → Result MapPart FirstFault
whole_part f text = map_part (line_count text + 1) f (lines_left (record { number = 1; text = text }))

-- a text has the fault of its part
pub text_fault : (f : Network) (text : List ℕ) (left : List TextLine) (e : TextFault) → PartGives (whole_part f text) left (Err e) → TextGives (map_reading f text) (Err e)
text_fault f text left (At line kind) h =
    from-part (line_count text + 1) f empty_map (lines_left (record { number = 1; text = text })) ∙ ap (λ r. and_then r (λ p. ended p.made p.after)) h
text_fault f text left NoMemory h = tt

-- a text is what comes of its part and of the lines after it
pub text_ended : (f : Network) (text : List ℕ) (left : List TextLine) (m : NetMap) (r : Result NetMap TextFault) → PartGives (whole_part f text) left (Ok m) → TextGives (ended m left) r → TextGives (map_reading f text) r
text_ended f text left m r h g =
    subst (λ s. TextGives s r) (sym (from-part (line_count text + 1) f empty_map (lines_left (record { number = 1; text = text })) ∙ ap (λ s. and_then s (λ p. ended p.made p.after)) h)) g

pub reading-of_fabric : (f : Network) (text : List ℕ) (r : Result NetMap TextFault) → TextGives (map_reading f text) r → IfOk r (λ m. AreOfFabric f m)
reading-of_fabric f text (Ok m) h = until-kept ended (λ k. k) (λ k ls n. ended-is k n ls) (line_count text + 1) f empty_map m (lines_left (record { number = 1; text = text })) h tt
reading-of_fabric f text (Err e) h = tt
