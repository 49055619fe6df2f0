-- The tables of a wiring.
use Rattle.std.proofs.Common.{◌≡◌, ◌≢◌, ◌<◌, ◌+◌, ◌*◌, ℕ, zero, suc, Bool, true, false, nat_eq, nat_lt, map, List, [], ◌∷◌, ◌++◌, length, take, drop, replicate, get_or, set, Option, Some, None, refl, sym, ap, ◌∙◌, subst, add-one, ◌/◌, ◌%◌, arith, append_assoc, true≢false, if◌then◌else◌}
use Rattle.std.specs.List.{slice_get, AllByRecursion}
use Rattle.std.specs.Option.{option_map, option_map_or, IfSome}
use Rattle.std.proofs.lemmas.Bool.Decides.{nat_tests}
use Rattle.std.proofs.lemmas.List.{map-append, length-replicate, get_or-set_same, get_or-set_other}
use Rattle.std.proofs.Math.ListN.{length-set}
use Rattle.net_defs.specs.declared.vertex.End.{End}
use Rattle.net_defs.specs.declared.vertex.Cable.{Cable}
use Rattle.net_defs.specs.declared.vertex.Vertex.{Vertex}
use Rattle.net_defs.specs.declared.vertex.Vertex.TheVariants.{Host, Switch}
use Rattle.net_defs.specs.Network.{Network, NamedSwitch, IsFabric, has_port, is_port_count, ports_of, same_end, ends_of}
use Rattle.net_defs.specs.Route.{channel_out}
use Rattle.net_defs.proofs.Ends.{same_end-true, same_end-refl}
use Rattle.net_defs.proofs.Distinct.{all-weaker}
use Rattle.world_defs.specs.declared.wire.Wire.{Wire}
use Rattle.world_defs.specs.History.{CableHistory, IsHistory, first_wire, fabric_now, is_in_place}
use Rattle.world_defs.specs.Crossed.{channel_by, life_channels, life_head, leaving}
use Rattle.world_defs.proofs.First.{out-first, first_is_history}
use Rattle.world_defs.proofs.ForLife.{leaving_has_its_end}
use Rattle.world_defs.proofs.Now.{now_is_fabric}
use Rattle.world_defs.proofs.There.{ends_are_there, none-leaves}
use Rattle.port_graph.specs.Table.{is_possible, place_of_end}
use Rattle.port_graph.proofs.Tables.{place_of_end-same, place_of_end-lt}
use Rattle.port_graph.proofs.Possible.{has_port-possible, far-outside, few_cables}
use Rattle.fabric_wiring.specs.declared.wiring.Entry.{Entry}
use Rattle.fabric_wiring.specs.Hops.{hop_table, hops_from}
use Rattle.fabric_wiring.specs.Tables.{IsOutTable, IsWiring, with_cable, place_if_possible, count_at, entry_by, entries_of}
use Rattle.fabric_wiring.proofs.HopTables.{hops-made}

-- what holds of all ends holds of the two of each cable
pub ends_got : (P : End → Type 0) (cs : List Cable) (k : ℕ) (c : Cable) → AllByRecursion P (ends_of cs) → slice_get cs k ≡ Some c → P c.a × P c.b
ends_got P [] k c all is = cc
ends_got P (d ∷ cs) zero c all is = let same : d ≡ c = cc in subst (λ x. P x.a × P x.b) same (all.0, all.1.0)
ends_got P (d ∷ cs) (suc k) c all is = ends_got P cs k c all.1.1 is

pub all_possible : (n : Network) → IsFabric n → AllByRecursion (λ e. is_possible e ≡ true) (ends_of n.cables)
all_possible n f = all-weaker (λ e. has_port n e ≡ true) (λ e. is_possible e ≡ true) (ends_of n.cables) (λ e h. has_port-possible n e f h) f.cabled_ports

-- one element more
pub take-got : {X : Type 0} (xs : List X) (k : ℕ) (x : X) → slice_get xs k ≡ Some x → take k xs ++ x ∷ [] ≡ take (suc k) xs
take-got [] k x is = cc
take-got (y ∷ xs) zero x is = let same : y ≡ x = cc in ap (λ z. z ∷ []) (sym same)
take-got (y ∷ xs) (suc k) x is = ap (λ l. y ∷ l) (take-got xs k x is)

-- one cable more, and the ports of one switch more
pub first-next : (cs : List Cable) (k : ℕ) (c : Cable) → slice_get cs k ≡ Some c → map first_wire (take k cs) ++ first_wire c ∷ [] ≡ map first_wire (take (k + 1) cs)
first-next cs k c is = sym (map-append first_wire (take k cs) (c ∷ [])) ∙ ap (map first_wire) (take-got cs k c is ∙ ap (λ i. take i cs) (sym (add-one k)))

port-next : (ws : List NamedSwitch) (s n : ℕ) → s < length ws → n ≡ option_map_or (λ w. w.ports) (slice_get ws s) 0 → map (λ w. w.ports) (take s ws) ++ n ∷ [] ≡ map (λ w. w.ports) (take (suc s) ws)
port-next [] s n low is = absurd (omega (arith, low))
port-next (w ∷ ws) zero n low is = ap (λ x. x ∷ []) is
port-next (w ∷ ws) (suc s) n low is = ap (λ l. w.ports ∷ l) (port-next ws s n (omega (arith, low)) is)

pub ports-next : (ws : List NamedSwitch) (s n : ℕ) → s < length ws → n ≡ option_map_or (λ w. w.ports) (slice_get ws s) 0 → map (λ w. w.ports) (take s ws) ++ n ∷ [] ≡ map (λ w. w.ports) (take (s + 1) ws)
ports-next ws s n low is = port-next ws s n low is ∙ ap (λ i. map (λ w. w.ports) (take i ws)) (sym (add-one s))

pub length-wires : (cs : List Cable) → length (map first_wire cs) ≡ length cs
length-wires [] = refl
length-wires (c ∷ cs) = ap suc (length-wires cs)

-- the entries, channel by channel
entries-get : (ports : List ℕ) (ws : List Wire) (c : ℕ) → slice_get (entries_of ports ws) c ≡ option_map (entry_by ports) (option_map (λ w. if nat_eq (c % 2) 0 then w.cable.b else w.cable.a) (slice_get ws (c / 2)))
entries-get ports [] c = refl
entries-get ports (k ∷ ws) zero = refl
entries-get ports (k ∷ ws) (suc zero) = refl
entries-get ports (k ∷ ws) (suc (suc c)) =
    let rest : suc (suc c) % 2 ≡ c % 2 = omega arith in
    let half : suc (suc c) / 2 ≡ suc (c / 2) = omega arith in
    entries-get ports ws c
    ∙ sym (ap (λ r. option_map (entry_by ports) (option_map (λ w. if nat_eq r 0 then w.cable.b else w.cable.a) (slice_get (k ∷ ws) (suc (suc c) / 2)))) rest
    ∙ ap (λ h. option_map (entry_by ports) (option_map (λ w. if nat_eq (c % 2) 0 then w.cable.b else w.cable.a) (slice_get (k ∷ ws) h))) half)

pub entries-length : (ports : List ℕ) (ws : List Wire) → length (entries_of ports ws) ≡ 2 * length ws
entries-length ports [] = refl
entries-length ports (w ∷ ws) = let rest = entries-length ports ws in omega (arith, rest)

-- two entries more
pub entries-push : (ports : List ℕ) (ws : List Wire) (w : Wire) → entries_of ports ws ++ entry_by ports w.cable.b ∷ entry_by ports w.cable.a ∷ [] ≡ entries_of ports (ws ++ w ∷ [])
entries-push ports [] w = refl
entries-push ports (k ∷ ws) w = ap (λ l. entry_by ports k.cable.b ∷ entry_by ports k.cable.a ∷ l) (entries-push ports ws w)

pub entries-next : (ports : List ℕ) (ws : List Wire) (k : ℕ) (w : Wire) → slice_get ws k ≡ Some w → (entries_of ports (take k ws) ++ entry_by ports w.cable.b ∷ []) ++ entry_by ports w.cable.a ∷ [] ≡ entries_of ports (take (k + 1) ws)
entries-next ports ws k w is =
    append_assoc (entries_of ports (take k ws)) (entry_by ports w.cable.b ∷ []) (entry_by ports w.cable.a ∷ [])
    ∙ entries-push ports (take k ws) w
    ∙ ap (entries_of ports) (take-got ws k w is ∙ ap (λ i. take i ws) (sym (add-one k)))

-- the entry of a channel
entry-of : (ports : List ℕ) (o : Option End) (e : Entry) → option_map (entry_by ports) o ≡ Some e → (o ≡ Some e.end) × (e.ports ≡ count_at ports e.end.v) × (e.hops ≡ hops_from (length ports) e.end.v e.end.p)
entry-of ports None e is = cc
entry-of ports (Some d) e is =
    let same : entry_by ports d ≡ e = cc in
    (ap (λ x. Some x.end) same, subst (λ x. x.ports ≡ count_at ports x.end.v) same refl, subst (λ x. x.hops ≡ hops_from (length ports) x.end.v x.end.p) same refl)

head-port : (h : CableHistory) (c : ℕ) (d : End) → IsHistory h → life_head h c ≡ Some d → has_port (fabric_now h) d ≡ true
head-port h c d is to = by (slice_get h.wires (c / 2)) refl to
  where
    end_by : (t : Bool) (w : Wire) → slice_get h.wires (c / 2) ≡ Some w → has_port (fabric_now h) (if t then w.cable.b else w.cable.a) ≡ true
    end_by true w got = (ends_are_there h (c / 2) w is got).1
    end_by false w got = (ends_are_there h (c / 2) w is got).0

    by : (o : Option Wire) → slice_get h.wires (c / 2) ≡ o → option_map (λ w. if nat_eq (c % 2) 0 then w.cable.b else w.cable.a) o ≡ Some d → has_port (fabric_now h) d ≡ true
    by None got to = cc
    by (Some w) got to = let same : (if nat_eq (c % 2) 0 then w.cable.b else w.cable.a) ≡ d = cc in subst (λ x. has_port (fabric_now h) x ≡ true) same (end_by (nat_eq (c % 2) 0) w got)

-- a switch that has a port has as many as a switch may have
switch-counted : (ws : List NamedSwitch) (s p : ℕ) → AllByRecursion (λ w. is_port_count w.ports ≡ true) ws → nat_lt p (option_map_or (λ w. w.ports) (slice_get ws s) 0) ≡ true → is_port_count (option_map_or (λ w. w.ports) (slice_get ws s) 0) ≡ true
switch-counted [] s p all h = grind (arith, nat_tests)
switch-counted (w ∷ ws) zero p all h = all.0
switch-counted (w ∷ ws) (suc s) p all h = switch-counted ws s p all.1 h

counted-there : (n : Network) (e : End) (s : ℕ) → IsFabric n → has_port n e ≡ true → e.v ≡ Switch s → is_port_count (ports_of n e.v) ≡ true
counted-there n e s f there is =
    let at : nat_lt e.p (ports_of n (Switch s)) ≡ true = sym (ap (λ v. nat_lt e.p (ports_of n v)) is) ∙ there in
    ap (λ v. is_port_count (ports_of n v)) is ∙ switch-counted n.switches s e.p f.port_counts at

-- the ports of a vertex that has one
count-switch : (ws : List NamedSwitch) (s : ℕ) → get_or (map (λ w. w.ports) ws) s 0 ≡ option_map_or (λ w. w.ports) (slice_get ws s) 0
count-switch [] s = refl
count-switch (w ∷ ws) zero = refl
count-switch (w ∷ ws) (suc s) = count-switch ws s

count-is : (h : CableHistory) (v : Vertex) (p : ℕ) → has_port (fabric_now h) (record { v = v; p = p }) ≡ true → count_at (map (λ w. w.ports) h.switches) v ≡ ports_of (fabric_now h) v
count-is h (Host a) p there = by (nat_lt a (length h.hosts)) there
  where
    by : (b : Bool) → nat_lt p (if b then 1 else 0) ≡ true → ◌≡◌ {A = ℕ} 1 (if b then 1 else 0)
    by true t = refl
    by false t = absurd (grind (arith, nat_tests))
count-is h (Switch s) p there = count-switch h.switches s

-- a switch's port by the counts of ports
pub switch-port-there : (h : CableHistory) (s p : ℕ) (ports : List ℕ) → ports ≡ map (λ w. w.ports) h.switches → nat_lt p (get_or ports s 0) ≡ has_port (fabric_now h) (record { v = Switch s; p = p })
switch-port-there h s p ports same = ap (λ l. nat_lt p (get_or l s 0)) same ∙ ap (nat_lt p) (count-switch h.switches s)

-- what an entry says of its channel
pub record IsEntry (h : CableHistory) (c : ℕ) (e : Entry) : Type 0 where
  pub end : life_head h c ≡ Some e.end
  pub ports : e.ports ≡ ports_of (fabric_now h) e.end.v
  pub hops : e.hops ≡ hops_from (length h.switches) e.end.v e.end.p
  pub there : has_port (fabric_now h) e.end ≡ true
  pub switch : (s : ℕ) → e.end.v ≡ Switch s → is_port_count e.ports ≡ true

pub length-ports : (ws : List NamedSwitch) → length (map (λ w. w.ports) ws) ≡ length ws
length-ports [] = refl
length-ports (w ∷ ws) = let rest = length-ports ws in omega (arith, rest)

pub entry-there : {hosts : ℕ} (h m : CableHistory) (ports : List ℕ) (entries there : List Entry) (out hops : List (Option ℕ)) (c at : ℕ) (e : Entry) → IsWiring h hosts ports entries out hops → h ≡ m → there ≡ entries → at ≡ c → slice_get there at ≡ Some e → IsEntry m c e
entry-there h m ports entries there out hops c at e is view whole place got =
    let counts : List ℕ = map (λ w. w.ports) h.switches in
    let entered : there ≡ entries_of counts h.wires = whole ∙ is.entered ∙ ap (λ l. entries_of l h.wires) is.same_ports in
    let here : slice_get (entries_of counts h.wires) c ≡ Some e = ap (slice_get (entries_of counts h.wires)) (sym place) ∙ ap (λ l. slice_get l at) (sym entered) ∙ got in
    let parts = entry-of counts (life_head h c) e (sym (entries-get counts h.wires c) ∙ here) in
    let port = head-port h c e.end is.history parts.0 in
    let count : e.ports ≡ ports_of (fabric_now h) e.end.v = parts.1 ∙ count-is h e.end.v e.end.p port in
    subst (λ x. IsEntry x c e) view (record {
      end = parts.0;
      ports = count;
      hops = parts.2 ∙ ap (λ n. hops_from n e.end.v e.end.p) (length-ports h.switches);
      there = port;
      switch = λ s v. ap is_port_count count ∙ counted-there (fabric_now h) e.end s (now_is_fabric h is.history) port v;
    })

drop-got : {X : Type 0} (xs : List X) (k : ℕ) (x : X) → slice_get xs k ≡ Some x → drop k xs ≡ x ∷ drop (suc k) xs
drop-got [] k x is = cc
drop-got (y ∷ xs) zero x is = let same : y ≡ x = cc in ap (λ z. z ∷ xs) same
drop-got (y ∷ xs) (suc k) x is = drop-got xs k x is

-- no channel leaves by a port that the fabric lacks
pub leaving-outside : (h : CableHistory) (e : End) → IsFabric (fabric_now h) → has_port (fabric_now h) e ≡ false → leaving h e ≡ None
leaving-outside h e f out = none-leaves h e (far-outside (fabric_now h) e f out)

-- so none by an end that no fabric may have
pub impossible-none : (h : CableHistory) (e : End) → IsFabric (fabric_now h) → is_possible e ≡ false → leaving h e ≡ None
impossible-none h e f out = by (has_port (fabric_now h) e) refl
  where
    by : (b : Bool) → has_port (fabric_now h) e ≡ b → leaving h e ≡ None
    by true p = absurd (true≢false (sym (has_port-possible (fabric_now h) e f p) ∙ out))
    by false p = leaving-outside h e f p

-- the table without cables
get_or-nones : (size place : ℕ) → get_or {A = Option ℕ} (replicate size None) place None ≡ None
get_or-nones zero place = refl
get_or-nones (suc size) zero = refl
get_or-nones (suc size) (suc place) = get_or-nones size place

drop-past : {X : Type 0} (xs : List X) → drop (length xs) xs ≡ []
drop-past [] = refl
drop-past (x ∷ xs) = drop-past xs

pub out-empty : (k : ℕ) (cs : List Cable) (size : ℕ) → size ≡ 1152 → k ≡ length cs → IsOutTable k (drop k cs) (replicate size None)
out-empty k cs size s e =
    let none : drop k cs ≡ [] = ap (λ n. drop n cs) e ∙ drop-past cs in
    subst (λ l. IsOutTable k l (replicate size None)) (sym none) (record { size = length-replicate {A = Option ℕ} size None ∙ s; channels = λ end i. get_or-nones size (place_of_end end) })

-- one cable more
joined : (k : ℕ) (cable : Cable) (cs : List Cable) (out : List (Option ℕ)) → is_possible cable.a ≡ true → is_possible cable.b ≡ true → IsOutTable (k + 1) cs out → (e : End) → is_possible e ≡ true → get_or (with_cable k cable out) (place_of_end e) None ≡ channel_out k (cable ∷ cs) e
joined k cable cs out a b table e i = by (same_end cable.a e) (same_end cable.b e) refl refl
  where
    pa : ℕ
    pa = place_of_end cable.a

    pb : ℕ
    pb = place_of_end cable.b

    pe : ℕ
    pe = place_of_end e

    back : Option ℕ
    back = Some (2 * k + 1)

    on : Option ℕ
    on = Some (2 * k)

    apart : (d : End) → is_possible d ≡ true → same_end d e ≡ false → pe ≢ place_of_end d
    apart d h f same = let two : d ≡ e = place_of_end-same d e h i (sym same) in true≢false (sym (same_end-refl e) ∙ ap (λ x. same_end x e) (sym two) ∙ f)

    by : (s t : Bool) → same_end cable.a e ≡ s → same_end cable.b e ≡ t → get_or (set (set out pb back) pa on) pe None ≡ (if s then on else if t then back else channel_out (k + 1) cs e)
    by true t p q =
        let same : pe ≡ pa = ap place_of_end (sym (same_end-true cable.a e p)) in
        let low : pa < length (set out pb back) = let n = length-set out pb back in let m = table.size in let l = place_of_end-lt cable.a a in omega (arith, n, m, l) in
        ap (λ n. get_or (set (set out pb back) pa on) n None) same ∙ get_or-set_same (set out pb back) pa on None low
    by false true p q =
        let same : pe ≡ pb = ap place_of_end (sym (same_end-true cable.b e q)) in
        let low : pb < length out = let m = table.size in let l = place_of_end-lt cable.b b in omega (arith, m, l) in
        get_or-set_other (set out pb back) pa pe on None (apart cable.a a p) ∙ ap (λ n. get_or (set out pb back) n None) same ∙ get_or-set_same out pb back None low
    by false false p q =
        get_or-set_other (set out pb back) pa pe on None (apart cable.a a p) ∙ get_or-set_other out pb pe back None (apart cable.b b q) ∙ table.channels e i

pub out-next : (cs : List Cable) (k : ℕ) (cable : Cable) (out : List (Option ℕ)) → slice_get cs k ≡ Some cable → is_possible cable.a ≡ true → is_possible cable.b ≡ true → IsOutTable (k + 1) (drop (k + 1) cs) out → IsOutTable k (drop k cs) (with_cable k cable out)
out-next cs k cable out is a b table =
    let more : drop k cs ≡ cable ∷ drop (k + 1) cs = drop-got cs k cable is ∙ ap (λ n. cable ∷ drop n cs) (sym (add-one k)) in
    subst (λ l. IsOutTable k l (with_cable k cable out)) (sym more) (record {
      size = length-set (set out (place_of_end cable.b) (Some (2 * k + 1))) (place_of_end cable.a) (Some (2 * k)) ∙ length-set out (place_of_end cable.b) (Some (2 * k + 1)) ∙ table.size;
      channels = joined k cable (drop (k + 1) cs) out a b table;
    })

-- an end without a place is none that a fabric may have
pub unplaced : (e : End) → None ≡ place_if_possible e → is_possible e ≡ false
unplaced e is = by (is_possible e) refl
  where
    by : (t : Bool) → is_possible e ≡ t → is_possible e ≡ false
    by true p = let got : None ≡ Some (place_of_end e) = is ∙ ap (λ t. if t then Some (place_of_end e) else None) p in cc
    by false p = p

pub placed : (e : End) (place : ℕ) → Some place ≡ place_if_possible e → (is_possible e ≡ true) × (place ≡ place_of_end e)
placed e place is = by (is_possible e) refl
  where
    by : (t : Bool) → is_possible e ≡ t → (is_possible e ≡ true) × (place ≡ place_of_end e)
    by true p = let got : Some place ≡ Some (place_of_end e) = is ∙ ap (λ t. if t then Some (place_of_end e) else None) p in let same : place ≡ place_of_end e = cc in (p, same)
    by false p = let got : Some place ≡ None = is ∙ ap (λ t. if t then Some (place_of_end e) else None) p in cc

-- a channel that leaves is one of the channels
pub leaving-below : (h : CableHistory) (e : End) → IfSome (leaving h e) (λ c. c < life_channels h)
leaving-below h e = by (leaving h e) refl
  where
    by : (o : Option ℕ) → leaving h e ≡ o → IfSome o (λ c. c < life_channels h)
    by None is = tt
    by (Some c) is = (leaving_has_its_end h e c is).there

-- the tables of a fabric, before any change
pub first-wiring : (n : Network) (hosts : ℕ) (ports : List ℕ) (wires : List Wire) (entries : List Entry) (out hops : List (Option ℕ)) → IsFabric n → hosts ≡ length n.hosts → ports ≡ map (λ s. s.ports) n.switches → wires ≡ map first_wire n.cables
    → entries ≡ entries_of ports wires → IsOutTable 0 n.cables out → hops ≡ hop_table out (length n.switches) → IsWiring (record { hosts = n.hosts; switches = n.switches; wires = wires; changes = 0; accepted = 0 }) hosts ports entries out hops
first-wiring n hosts ports wires entries out hops f many counts all entered table jumps = record {
  history = subst (λ l. IsHistory (record { hosts = n.hosts; switches = n.switches; wires = l; changes = 0; accepted = 0 })) (sym all) (let few = few_cables n f in first_is_history n f (omega (arith, few)));
  same_hosts = many;
  same_ports = counts;
  entered = entered;
  leaving = record {
    size = table.size;
    channels = λ e i. table.channels e i ∙ sym (ap (λ l. channel_by is_in_place 0 l e) all ∙ out-first is_in_place (λ c. refl) 0 n.cables e);
  };
  hopping = hops-made out hops (length n.switches) table.size f.few_switches jumps;
}
