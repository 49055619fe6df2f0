-- A printed map is read back: its vertices, then its cables.
use Rattle.std.proofs.Common.{◌≡◌, ◌≢◌, ◌<◌, ℕ, zero, suc, ◌+◌, ◌^◌, List, [], ◌∷◌, ◌++◌, map, ◌||◌, Bool, true, false, length, nat_eq, nat_lt, Option, Some, None, Ok, Err, refl, ap, sym, subst, ◌∙◌, append_assoc, append-nil, length-append, arith, if◌then◌else◌, ◌⊎◌, inl, inr}
use Rattle.std.specs.Prelude.{codes, slice_get, unwrap_or, bytes_eq}
use Rattle.std.specs.List.{AllByRecursion, list_any}
use Rattle.std.proofs.lemmas.Bool.{cases_order}
use Rattle.std.proofs.lemmas.Bool.Decides.{nat_tests, Decides-eqb}
use Rattle.net_defs.specs.Network.{Network, Apart}
use Rattle.net_defs.specs.Turn.{IsTurn}
use Rattle.journal_defs.specs.Counting.{numbers_below}
use Rattle.journal_defs.proofs.Members.{length-numbers, all-join}
use Rattle.map_defs.specs.declared.vertex.MapVertex.{MapVertex}
use Rattle.map_defs.specs.declared.vertex.MapVertex.TheVariants.{Host, Switch}
use Rattle.map_defs.specs.declared.vertex.MapCable.{MapCable}
use Rattle.map_defs.specs.NetMap.{NetMap, IsMap, map_ends, host_at, hosts_of, switches_of}
use Rattle.map_defs.specs.Routing.{is_host_named}
use Rattle.fab_text.specs.declared.fault.FaultKind.TheVariants.{BadWord}
use Rattle.fab_text.specs.Line.{lines_left, line_count}
use Rattle.fab_text.specs.Fault.{and_then}
use Rattle.fabric_file.proofs.Names.{apart-before, all-nth}
use Rattle.fabric_map.specs.declared.fault.MapFault.TheVariants.{HostTaken, Full}
use Rattle.fabric_map.specs.Growing.{IsFabricMap, empty_map, with_host, with_switch, with_cable, is_full}
use Rattle.fabric_map.proofs.Listings.{switches_of-host, switches_of-switch}
use Rattle.line_table.specs.declared.kind.MapLineKind.TheVariants.{Host as HostLine, Switch as SwitchLine}
use Rattle.line_table.specs.Form.{MapPlace, Word, HostAt, VertexAt}
use Rattle.line_table.specs.Fits.{IsOf}
use Rattle.line_table.specs.Matching.{is_among}
use Rattle.run_defs.specs.LineText.{MapLine, map_text, map_lines, map_line_text, vertex_lines, vertex_numbered, cable_line, end_line, core_word}
use Rattle.map_canon.specs.Declaring.{unless, placed, cable_between, vertex_in}
use Rattle.map_canon.specs.Reading.{map_from}
use Rattle.map_canon.specs.Printing.{IsOfFabric, AreOfFabric, IsReadBack}
use Rattle.map_canon.proofs.Lines.{IsLine, placed_all, printed-says, lines-back}
use Rattle.map_canon.proofs.Words.{AreNumbered, number-most, found}
use Rattle.map_canon.proofs.Free.{cabled, cable-taken}

-- vertices with their marks alone
abbrev uncabled : List MapVertex → List Bool → NetMap
uncabled vs bs = record { vertices = vs; cables = []; core = bs }

-- each host is marked, and each vertex has a mark
abbrev AreMarked : List MapVertex → List Bool → Type 0
AreMarked [] [] = Unit {0}
AreMarked [] (b ∷ bs) = ⊥
AreMarked (v ∷ vs) [] = ⊥
AreMarked (Host h ∷ vs) (b ∷ bs) = (b ≡ true) × AreMarked vs bs
AreMarked (Switch s ∷ vs) (b ∷ bs) = AreMarked vs bs

are-marked : (vs : List MapVertex) (bs : List Bool) → length bs ≡ length vs → ((v h : ℕ) → host_at (slice_get vs v) ≡ Some h → slice_get bs v ≡ Some true) → AreMarked vs bs
are-marked [] [] e all = tt
are-marked [] (b ∷ bs) e all = absurd (omega arith)
are-marked (Host h ∷ vs) [] e all = absurd (omega arith)
are-marked (Switch s ∷ vs) [] e all = absurd (omega arith)
are-marked (Host h ∷ vs) (b ∷ bs) e all = ((let one : Some b ≡ Some true = all 0 h refl in cc), are-marked vs bs (omega arith) (λ v g f. all (suc v) g f))
are-marked (Switch s ∷ vs) (b ∷ bs) e all = are-marked vs bs (omega arith) (λ v g f. all (suc v) g f)

-- the switches of a map have the numbers from 0 on
early : (xs ys : List ℕ) (i : ℕ) → i < length xs → slice_get (xs ++ ys) i ≡ slice_get xs i
early [] ys i l = absurd (omega arith)
early (x ∷ xs) ys zero l = refl
early (x ∷ xs) ys (suc i) l = early xs ys i (omega arith)

late : (xs : List ℕ) (x i : ℕ) → i ≡ length xs → slice_get (xs ++ x ∷ []) i ≡ Some x
late [] x zero e = refl
late [] x (suc i) e = absurd (omega arith)
late (y ∷ ys) x zero e = absurd (omega arith)
late (y ∷ ys) x (suc i) e = late ys x i (omega arith)

at-place : (k v : ℕ) → v < k → slice_get (numbers_below k) v ≡ Some v
at-place zero v l = absurd (omega arith)
at-place (suc k) v l = by (cases_order v k) (at-place k v)
  where
    by : (v ≡ k) ⊎ ((v < k) ⊎ (k < v)) → (v < k → slice_get (numbers_below k) v ≡ Some v) → slice_get (numbers_below k ++ k ∷ []) v ≡ Some v
    by (inl e) rest = late (numbers_below k) k v (e ∙ sym (length-numbers k)) ∙ ap Some (sym e)
    by (inr (inl m)) rest = early (numbers_below k) (k ∷ []) v (let e = length-numbers k in omega arith) ∙ rest m
    by (inr (inr m)) rest = absurd (omega arith)

numbered-from : (vs : List MapVertex) (k : ℕ) → ((i : ℕ) → i < length (switches_of vs) → slice_get (switches_of vs) i ≡ Some (k + i)) → AreNumbered k vs
numbered-from [] k all = tt
numbered-from (Host h ∷ vs) k all = numbered-from vs k all
numbered-from (Switch s ∷ vs) k all =
    let one : Some s ≡ Some (k + 0) = all 0 (omega arith) in
    let two : s ≡ k + 0 = cc in
    (omega arith, numbered-from vs (k + 1) (λ i l. all (suc i) (omega arith) ∙ ap Some (let e : k + suc i ≡ (k + 1) + i = omega arith in e)))

pub map-numbered : (m : NetMap) → IsMap m → AreNumbered 0 m.vertices
map-numbered m r =
    let n = length (switches_of m.vertices) in
    numbered-from m.vertices 0 (λ i l. ap (λ xs. slice_get xs i) r.switches_numbered ∙ at-place n i l ∙ ap Some (let e : i ≡ 0 + i = omega arith in e))

-- a host that differs from those before
new-host : (vs : List MapVertex) (h : ℕ) → AllByRecursion (λ g. g ≢ h) (hosts_of vs) → list_any (is_host_named h) vs ≡ false
new-host [] h all = refl
new-host (Host g ∷ vs) h all = by (nat_eq g h) refl (new-host vs h all.1)
  where
    by : (t : Bool) → nat_eq g h ≡ t → list_any (is_host_named h) vs ≡ false → (t || list_any (is_host_named h) vs) ≡ false
    by true t rest = absurd (all.0 ((Decides-eqb g h).0 t))
    by false t rest = rest
new-host (Switch s ∷ vs) h all = new-host vs h all

hosts-append : (xs ys : List MapVertex) → hosts_of (xs ++ ys) ≡ hosts_of xs ++ hosts_of ys
hosts-append [] ys = refl
hosts-append (Host h ∷ xs) ys = ap (λ l. h ∷ l) (hosts-append xs ys)
hosts-append (Switch s ∷ xs) ys = hosts-append xs ys

room : (n : ℕ) → n < 4294967295 → is_full n ≡ false
room n l = grind (arith, nat_tests)

-- a host's line
host-placed : (done : List MapVertex) (marks : List Bool) (h : ℕ) → AllByRecursion (λ g. g ≢ h) (hosts_of done) → length done < 4294967295
    → placed (uncabled done marks) HostLine (Some (HostAt h ∷ [])) ≡ Ok (uncabled (done ++ Host h ∷ []) (marks ++ true ∷ []))
host-placed done marks h new few =
    let taken = new-host done h new in
    let full = room (length done) few in
    λ i. unless (if taken i then Some HostTaken else if full i then Some Full else None) (with_host (uncabled done marks) h)

-- a switch's line
mark-read : (b : Bool) → bytes_eq (core_word b) (core_word true) ≡ b
mark-read true = refl
mark-read false = refl

switch-placed : (done : List MapVertex) (marks : List Bool) (s : ℕ) (b : Bool) → s ≡ length (switches_of done) → length done < 4294967295
    → placed (uncabled done marks) SwitchLine (Some (VertexAt (Switch s) ∷ Word (core_word b) ∷ [])) ≡ Ok (uncabled (done ++ Switch s ∷ []) (marks ++ b ∷ []))
switch-placed done marks s b next few =
    let same : nat_eq s (length (switches_of done)) ≡ true = (Decides-eqb s (length (switches_of done))).1 next in
    let full = room (length done) few in
    (λ i. if same i then unless (if full i then Some Full else None) (with_switch (uncabled done marks) (mark-read b i)) else Err BadWord)
    ∙ (λ i. Ok (uncabled (done ++ Switch (sym next i) ∷ []) (marks ++ b ∷ [])))

vertices-placed : (done : List MapVertex) (marks : List Bool) (todo : List MapVertex) (more : List Bool) (ls : List MapLine)
    → Apart (hosts_of (done ++ todo)) → AreNumbered (length (switches_of done)) todo → AreMarked todo more → length done + length todo < 2 ^ 32
    → placed_all (uncabled done marks) (vertex_lines todo more ++ ls) ≡ placed_all (uncabled (done ++ todo) (marks ++ more)) ls
vertices-placed done marks [] [] ls apart numbered marked few = λ i. placed_all (uncabled (sym (append-nil done) i) (sym (append-nil marks) i)) ls
vertices-placed done marks [] (b ∷ bs) ls apart numbered marked few = absurd marked
vertices-placed done marks (Host h ∷ todo) [] ls apart numbered marked few = absurd marked
vertices-placed done marks (Switch s ∷ todo) [] ls apart numbered marked few = absurd marked
vertices-placed done marks (Host h ∷ todo) (b ∷ more) ls apart numbered marked few =
    let first : length done < 4294967295 = omega arith in
    let shorter : length (done ++ Host h ∷ []) + length todo < 2 ^ 32 = omega (arith, length-append done (Host h ∷ [])) in
    let new = apart-before (hosts_of done) (hosts_of todo) h (subst Apart (hosts-append done (Host h ∷ todo)) apart) in
    let step = host-placed done marks h new first ∙ (λ i. Ok (uncabled (done ++ Host h ∷ []) (marks ++ sym marked.0 i ∷ []))) in
    (λ i. and_then (step i) (λ m. placed_all m (vertex_lines todo more ++ ls)))
    ∙ vertices-placed (done ++ Host h ∷ []) (marks ++ b ∷ []) todo more ls (subst (λ l. Apart (hosts_of l)) (sym (append_assoc done (Host h ∷ []) todo)) apart)
    (subst (λ l. AreNumbered (length l) todo) (sym (switches_of-host done h)) numbered) marked.1 shorter
    ∙ (λ i. placed_all (uncabled (append_assoc done (Host h ∷ []) todo i) (append_assoc marks (b ∷ []) more i)) ls)
vertices-placed done marks (Switch s ∷ todo) (b ∷ more) ls apart numbered marked few =
    let first : length done < 4294967295 = omega arith in
    let shorter : length (done ++ Switch s ∷ []) + length todo < 2 ^ 32 = omega (arith, length-append done (Switch s ∷ [])) in
    let count : length (switches_of done) + 1 ≡ length (switches_of (done ++ Switch s ∷ [])) = sym (ap length (switches_of-switch done s) ∙ length-append (switches_of done) (s ∷ [])) in
    (λ i. and_then (switch-placed done marks s b numbered.0 first i) (λ m. placed_all m (vertex_lines todo more ++ ls)))
    ∙ vertices-placed (done ++ Switch s ∷ []) (marks ++ b ∷ []) todo more ls (subst (λ l. Apart (hosts_of l)) (sym (append_assoc done (Switch s ∷ []) todo)) apart)
    (subst (λ n. AreNumbered n todo) count numbered.1) marked shorter
    ∙ (λ i. placed_all (uncabled (append_assoc done (Switch s ∷ []) todo i) (append_assoc marks (b ∷ []) more i)) ls)

pub there-at : (vs : List MapVertex) (v : ℕ) → v < length vs → (x : MapVertex) × (slice_get vs v ≡ Some x)
there-at [] v l = absurd (omega arith)
there-at (x ∷ vs) zero l = (x, refl)
there-at (x ∷ vs) (suc v) l = there-at vs v (omega arith)

-- a cable's line, whatever cables there are
end-found : (m : NetMap) (cs : List MapCable) (v : ℕ) → IsFabricMap m → v < length m.vertices → vertex_in (cabled m cs) (vertex_numbered m v) ≡ Some v
end-found m cs v r low =
    let at = there-at m.vertices v low in
    ap (λ o. vertex_in (cabled m cs) (unwrap_or o (Switch 0))) at.1 ∙ found (cabled m cs) v at.0 r.is_map.hosts_once (map-numbered m r.is_map) at.1

cables-placed : (m : NetMap) (done todo : List MapCable) → IsFabricMap m → m.cables ≡ done ++ todo → AllByRecursion (λ d. d.v < length m.vertices) (map_ends todo)
    → placed_all (cabled m done) (map (cable_line m) todo) ≡ Ok (cabled m (done ++ todo))
cables-placed m done [] r e low = λ i. Ok (cabled m (sym (append-nil done) i))
cables-placed m done (c ∷ todo) r e low =
    (λ i. and_then (cable_between (cabled m done) (end-found m done c.v r low.0 i) c.p (end-found m done c.w r low.1.0 i) c.q) (λ k. placed_all k (map (cable_line m) todo)))
    ∙ (λ i. and_then (unless (cable-taken m done todo c r e i) (with_cable (cabled m done) c)) (λ k. placed_all k (map (cable_line m) todo)))
    ∙ cables-placed m (done ++ c ∷ []) todo r (e ∙ sym (append_assoc done (c ∷ []) todo)) low.1.1
    ∙ (λ i. Ok (cabled m (append_assoc done (c ∷ []) todo i)))

-- the lines have the values of their rows
vertices-fit : (f : Network) (vs : List MapVertex) (bs : List Bool) (k : ℕ) → AllByRecursion (IsOfFabric f) vs → AreNumbered k vs → k + length vs < 2 ^ 32 → AllByRecursion (IsLine f) (vertex_lines vs bs)
vertices-fit f [] bs k of numbered few = tt
vertices-fit f (Host h ∷ vs) [] k of numbered few = tt
vertices-fit f (Switch s ∷ vs) [] k of numbered few = tt
vertices-fit f (Host h ∷ vs) (b ∷ bs) k of numbered few =
    let low : h < length f.hosts = of.0 in
    let there : nat_lt h (length f.hosts) ≡ true = grind (arith, nat_tests) in
    (((λ other. cc), (there, tt)), vertices-fit f vs bs k of.1 numbered (omega arith))
vertices-fit f (Switch s ∷ vs) (b ∷ bs) k of numbered few =
    let own = numbered.0 in
    (((λ other. cc), (omega arith, (mark b, tt))), vertices-fit f vs bs (k + 1) of.1 numbered.1 (omega arith))
  where
    mark : (b : Bool) → is_among (codes "core" ∷ codes "outside" ∷ []) (core_word b) ≡ true
    mark true = refl
    mark false = refl

place-fits : (f : Network) (m : NetMap) (v : ℕ) → AreOfFabric f m → IsFabricMap m → IsOf f MapPlace (VertexAt (vertex_numbered m v))
place-fits f m v of r = by (slice_get m.vertices v) refl
  where
    by : (o : Option MapVertex) → slice_get m.vertices v ≡ o → IsOf f MapPlace (VertexAt (unwrap_or o (Switch 0)))
    by None e = omega arith
    by (Some (Host h)) e = let low : h < length f.hosts = all-nth (IsOfFabric f) m.vertices v (Host h) of e in grind (arith, nat_tests)
    by (Some (Switch s)) e = let most = number-most m.vertices 0 v s (map-numbered m r.is_map) e in let few = r.few_vertices in omega arith

cables-fit : (f : Network) (m : NetMap) (cs : List MapCable) → AreOfFabric f m → IsFabricMap m → AllByRecursion (λ d. IsTurn d.p) (map_ends cs) → AllByRecursion (IsLine f) (map (cable_line m) cs)
cables-fit f m [] of r turns = tt
cables-fit f m (c ∷ cs) of r turns =
    (((λ other. cc), (place-fits f m c.v of r, (turns.0, (place-fits f m c.w of r, (turns.1.0, tt))))), cables-fit f m cs of r turns.1.1)

-- the text of a map is read as that map
pub map-read-back : (f : Network) (m : NetMap) → IsFabricMap m → AreOfFabric f m → IsReadBack f m (map_text f m)
map-read-back f m r of is good =
    let past = line_count (map_text f m) + 1 in
    let k = 1 + length (map_lines m) in
    let numbered = map-numbered m r.is_map in
    let few : 0 + length m.vertices < 2 ^ 32 = let l = r.few_vertices in omega arith in
    let marked = are-marked m.vertices m.core r.is_map.one_mark_each r.is_map.hosts_marked in
    let fit = all-join (IsLine f) (vertex_lines m.vertices m.core) (map (cable_line m) m.cables) (vertices-fit f m.vertices m.core 0 of numbered few) (cables-fit f m m.cables of r r.is_map.ports_in_range) in
    let placed = vertices-placed [] [] m.vertices m.core (map (cable_line m) m.cables) r.is_map.hosts_once numbered marked few ∙ cables-placed m [] m.cables r refl r.is_map.cabled_vertices in
    lines-back f is good past 1 empty_map m (map_lines m) (map_line_text f end_line) fit placed
    ∙ ap (λ t. map_from past f m (lines_left (record { number = k; text = t }))) (sym (append-nil (map_line_text f end_line)))
    ∙ printed-says past k f m (codes "endmap" ∷ []) [] (refl, tt) refl
