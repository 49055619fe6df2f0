-- The tables of a wiring after a cable is pulled, plugged or accepted.
use Rattle.std.proofs.Common.{◌≡◌, ◌≢◌, ◌<◌, ◌≤◌, ◌+◌, ◌*◌, ◌/◌, ◌%◌, ℕ, zero, suc, Bool, true, false, not, ◌&&◌, ◌||◌, nat_lt, List, [], ◌∷◌, ◌++◌, length, get_or, set, get_or-set_other, get_or-set_same, Option, Some, None, is_some, is_none, refl, sym, ap, ◌∙◌, subst, arith, true≢false, if◌then◌else◌, append_assoc}
use Rattle.std.specs.List.{slice_get, slice_set}
use Rattle.std.specs.Option.{option_map_or}
use Rattle.std.proofs.lemmas.Bool.Decides.{nat_tests}
use Rattle.std.proofs.Math.ListN.{length-set}
use Rattle.net_defs.specs.declared.vertex.Vertex.{Vertex}
use Rattle.net_defs.specs.declared.vertex.Vertex.TheVariants.{Host, Switch}
use Rattle.net_defs.specs.declared.vertex.End.{End}
use Rattle.net_defs.specs.declared.vertex.Cable.{Cable}
use Rattle.net_defs.specs.declared.fault.GraphFault.{GraphFault}
use Rattle.net_defs.specs.declared.fault.GraphFault.TheVariants.{PortUsed}
use Rattle.net_defs.specs.Network.{IsFabric, far, has_port, has_vertex, same_end}
use Rattle.net_defs.specs.Building.{cable_refusal, is_used}
use Rattle.net_defs.proofs.Ends.{both, same_end-true, same_end-refl}
use Rattle.net_defs.proofs.Growing.{cable-free}
use Rattle.world_defs.specs.declared.wire.Wire.{Wire}
use Rattle.world_defs.specs.History.{CableHistory, IsHistory, fabric_now, is_in_place, pulled_by, with_plugged, may_plug, dates_of, dates_in}
use Rattle.world_defs.specs.Crossed.{channel_by, leaving, life_tail, is_standing, life_channels}
use Rattle.world_defs.proofs.Fewer.{none-far, some-far}
use Rattle.world_defs.proofs.ForLife.{leaving_has_its_end, standing_leaves, ends_are_for_life}
use Rattle.world_defs.proofs.CablesKept.{pull_keeps, plug_keeps, standing-wire}
use Rattle.world_defs.proofs.Now.{now_is_fabric}
use Rattle.world_defs.proofs.There.{ends_are_there, none-leaves}
use Rattle.port_graph.specs.Table.{is_possible, place_of_end}
use Rattle.port_graph.proofs.Tables.{place_of_end-same, place_of_end-lt}
use Rattle.port_graph.proofs.Possible.{has_port-possible}
use Rattle.fabric_wiring.specs.declared.wiring.Entry.{Entry}
use Rattle.fabric_wiring.specs.Hops.{IsHopTable, with_hop}
use Rattle.fabric_wiring.specs.Tables.{IsPortTable, IsWiring, with_ends, with_cable, entry_by, entries_of}
use Rattle.fabric_wiring.proofs.HopTables.{hops-put, hops-host}
use Rattle.fabric_wiring.proofs.Hopping.{switch-there}
use Rattle.fabric_wiring.proofs.Wirings.{entries-push}

-- ---- the table of ports with other channels at the ends of a cable
pub ends-put : (cable : Cable) (on back : Option ℕ) (out : List (Option ℕ)) (e : End) (want : Option ℕ) → length out ≡ 1152 → is_possible cable.a ≡ true → is_possible cable.b ≡ true → is_possible e ≡ true
    → (cable.a ≡ e → on ≡ want) → (cable.b ≡ e → back ≡ want) → (same_end cable.a e ≡ false → same_end cable.b e ≡ false → get_or out (place_of_end e) None ≡ want)
    → get_or (with_ends cable on back out) (place_of_end e) None ≡ want
ends-put cable on back out e want size a b i is_on is_back is_other = by (same_end cable.a e) (same_end cable.b e) refl refl
  where
    pa : ℕ
    pa = place_of_end cable.a

    pb : ℕ
    pb = place_of_end cable.b

    pe : ℕ
    pe = place_of_end e

    apart : (d : End) → is_possible d ≡ true → same_end d e ≡ false → pe ≢ place_of_end d
    apart d h f same = let two : d ≡ e = place_of_end-same d e h i (sym same) in true≢false (sym (same_end-refl e) ∙ ap (λ x. same_end x e) (sym two) ∙ f)

    by : (s t : Bool) → same_end cable.a e ≡ s → same_end cable.b e ≡ t → get_or (set (set out pb back) pa on) pe None ≡ want
    by true t p q =
        let end : cable.a ≡ e = same_end-true cable.a e p in
        let same : pe ≡ pa = ap place_of_end (sym end) in
        let low : pa < length (set out pb back) = let n = length-set out pb back in let l = place_of_end-lt cable.a a in omega (arith, n, size, l) in
        ap (λ n. get_or (set (set out pb back) pa on) n None) same ∙ get_or-set_same (set out pb back) pa on None low ∙ is_on end
    by false true p q =
        let end : cable.b ≡ e = same_end-true cable.b e q in
        let same : pe ≡ pb = ap place_of_end (sym end) in
        let low : pb < length out = let l = place_of_end-lt cable.b b in omega (arith, size, l) in
        get_or-set_other (set out pb back) pa pe on None (apart cable.a a p) ∙ ap (λ n. get_or (set out pb back) n None) same ∙ get_or-set_same out pb back None low ∙ is_back end
    by false false p q =
        get_or-set_other (set out pb back) pa pe on None (apart cable.a a p) ∙ get_or-set_other out pb pe back None (apart cable.b b q) ∙ is_other p q

ends-size : (cable : Cable) (on back : Option ℕ) (out : List (Option ℕ)) → length (with_ends cable on back out) ≡ length out
ends-size cable on back out = length-set (set out (place_of_end cable.b) back) (place_of_end cable.a) on ∙ length-set out (place_of_end cable.b) back

-- ---- the table of hops with another channel at a port
hop-port : (h : CableHistory) (v : Vertex) (p : ℕ) (to : Option ℕ) (out hops : List (Option ℕ)) → IsFabric (fabric_now h) → has_port (fabric_now h) (record { v = v; p = p }) ≡ true → length out ≡ 1152 → IsHopTable out (length h.switches) hops
    → IsHopTable (set out (place_of_end (record { v = v; p = p })) to) (length h.switches) (with_hop v p to hops)
hop-port h (Host a) p to out hops f there size table =
    let two : (nat_lt a 128 && nat_lt p 1) ≡ true = has_port-possible (fabric_now h) (record { v = Host a; p = p }) f there in
    let low : a < 128 = grind (arith, nat_tests) in
    hops-host out hops (length h.switches) a to table low
hop-port h (Switch s) p to out hops f there size table =
    let two : (nat_lt s 64 && nat_lt p 16) ≡ true = has_port-possible (fabric_now h) (record { v = Switch s; p = p }) f there in
    let low : p < 16 = grind (arith, nat_tests) in
    hops-put out hops (length h.switches) s p to table size (switch-there h.switches s p there) f.few_switches low

-- there is room for both places of a port
pub hop-room : (h : CableHistory) (out hops : List (Option ℕ)) (e : End) (s : ℕ) → IsFabric (fabric_now h) → IsHopTable out (length h.switches) hops → has_port (fabric_now h) e ≡ true → e.v ≡ Switch s → 80 * s + e.p + 64 < length hops
hop-room h out hops e s f table there is =
    let at : has_port (fabric_now h) (record { v = Switch s; p = e.p }) ≡ true = sym (ap (λ v. has_port (fabric_now h) (record { v = v; p = e.p })) is) ∙ there in
    let two : (nat_lt s 64 && nat_lt e.p 16) ≡ true = has_port-possible (fabric_now h) (record { v = Switch s; p = e.p }) f at in
    let low : e.p < 16 = grind (arith, nat_tests) in
    let here : s < length h.switches = switch-there h.switches s e.p at in
    let size = table.size in
    omega (arith, low, here, size)

pub hop-size : (v : Vertex) (p : ℕ) (to : Option ℕ) (hops : List (Option ℕ)) → length (with_hop v p to hops) ≡ length hops
hop-size (Host a) p to hops = refl
hop-size (Switch s) p to hops = length-set (set hops (80 * s + p) to) (80 * s + p + 64) to ∙ length-set hops (80 * s + p) to

-- ---- a cable in place is pulled
entries-set : (ports : List ℕ) (ws : List Wire) (k : ℕ) (v w : Wire) → slice_get ws k ≡ Some w → v.cable ≡ w.cable → entries_of ports (slice_set ws k v) ≡ entries_of ports ws
entries-set ports [] k v w is same = cc
entries-set ports (u ∷ ws) zero v w is same = let e : u ≡ w = cc in ap (λ c. entry_by ports c.b ∷ entry_by ports c.a ∷ entries_of ports ws) (same ∙ sym (ap (λ x. x.cable) e))
entries-set ports (u ∷ ws) (suc k) v w is same = ap (λ l. entry_by ports u.cable.b ∷ entry_by ports u.cable.a ∷ l) (entries-set ports ws k v w is same)

-- a cable that is in place after it was in place before, and is another
stands-before : (ws : List Wire) (k i : ℕ) (v : Wire) → is_in_place v ≡ false → option_map_or is_in_place (slice_get (slice_set ws k v) i) false ≡ true → (option_map_or is_in_place (slice_get ws i) false ≡ true) × (i ≢ k)
stands-before [] k i v out stands = absurd (true≢false (sym stands))
stands-before (u ∷ ws) zero zero v out stands = absurd (true≢false (sym stands ∙ out))
stands-before (u ∷ ws) zero (suc i) v out stands = (stands, λ e. omega (arith, e))
stands-before (u ∷ ws) (suc k) zero v out stands = (stands, λ e. omega (arith, e))
stands-before (u ∷ ws) (suc k) (suc i) v out stands = let rest = stands-before ws k i v out stands in (rest.0, λ e. rest.1 (omega (arith, e)))

-- at other ports the same channels leave
others-stay : (j : ℕ) (ws : List Wire) (k : ℕ) (v w : Wire) (e : End) → slice_get ws k ≡ Some w → is_in_place v ≡ false → same_end w.cable.a e ≡ false → same_end w.cable.b e ≡ false
    → channel_by is_in_place j (slice_set ws k v) e ≡ channel_by is_in_place j ws e
others-stay j [] k v w e is out a b = cc
others-stay j (u ∷ ws) zero v w e is out a b =
    let same : u ≡ w = cc in
    let first : same_end u.cable.a e ≡ false = ap (λ x. same_end x.cable.a e) same ∙ a in
    let second : same_end u.cable.b e ≡ false = ap (λ x. same_end x.cable.b e) same ∙ b in
    rw (out, first, second) (by (is_in_place u))
  where
    by : (t : Bool) → channel_by is_in_place (j + 1) ws e ≡ (if t && false then Some (2 * j) else if t && false then Some (2 * j + 1) else channel_by is_in_place (j + 1) ws e)
    by true = refl
    by false = refl
others-stay j (u ∷ ws) (suc k) v w e is out a b =
    let rest = others-stay (j + 1) ws k v w e is out a b in
    λ i. if is_in_place u && same_end u.cable.a e then Some (2 * j) else if is_in_place u && same_end u.cable.b e then Some (2 * j + 1) else rest i

module _ (h : CableHistory) (k : ℕ) (w : Wire) (is : IsHistory h) (there : slice_get h.wires k ≡ Some w) (none : w.pulled ≡ None) where
  abbrev gone : Wire
  gone = record w { pulled = Some (h.changes + 1) }

  abbrev after : CableHistory
  after = pulled_by h k (Some w)

  half : (2 * k) / 2 ≡ k
  half = omega arith

  half_back : (2 * k + 1) / 2 ≡ k
  half_back = omega arith

  on-leaves : leaving h w.cable.a ≡ Some (2 * k)
  on-leaves =
      let even : (2 * k) % 2 ≡ 0 = omega arith in
      let tail : life_tail h (2 * k) ≡ Some w.cable.a = rw (half, even, there) refl in
      let stands : is_standing h (2 * k) ≡ true = rw (half, there) (ap is_none none) in
      standing_leaves h (2 * k) w.cable.a is tail stands

  back-leaves : leaving h w.cable.b ≡ Some (2 * k + 1)
  back-leaves =
      let odd : (2 * k + 1) % 2 ≡ 1 = omega arith in
      let tail : life_tail h (2 * k + 1) ≡ Some w.cable.b = rw (half_back, odd, there) refl in
      let stands : is_standing h (2 * k + 1) ≡ true = rw (half_back, there) (ap is_none none) in
      standing_leaves h (2 * k + 1) w.cable.b is tail stands

  -- no channel leaves where one of this cable did
  none-left : (e : End) (n : ℕ) → leaving h e ≡ Some n → n / 2 ≡ k → None ≡ leaving after e
  none-left e n was at = sym (by (leaving after e) refl)
    where
      by : (o : Option ℕ) → leaving after e ≡ o → o ≡ None
      by None q = refl
      by (Some c) q =
          let l = leaving_has_its_end after e c q in
          let before = stands-before h.wires k (c / 2) gone refl l.in_place in
          let long = length-set h.wires k gone in
          let below : c < life_channels h = let t = l.there in omega (arith, t, long) in
          let ends = ends_are_for_life h k c e e below in
          let tail : life_tail h c ≡ Some e = sym (sym (ap (λ o. life_tail (pulled_by h k o) c) there) ∙ ends.0) ∙ l.tail in
          let again : Some c ≡ Some n = sym (standing_leaves h c e is tail before.0) ∙ was in
          let same : c ≡ n = cc in
          absurd (before.1 (ap (λ x. x / 2) same ∙ at))

  history : IsHistory after
  history = subst (λ o. IsHistory (pulled_by h k o)) there (pull_keeps h k w is there none)

  pulled-table : (out : List (Option ℕ)) → IsPortTable h.wires out → is_possible w.cable.a ≡ true → is_possible w.cable.b ≡ true → IsPortTable after.wires (with_ends w.cable None None out)
  pulled-table out table a b = record {
    size = ends-size w.cable None None out ∙ table.size;
    channels = λ e i. ends-put w.cable None None out e (channel_by is_in_place 0 after.wires e) table.size a b i
        (λ same. none-left e (2 * k) (ap (leaving h) (sym same) ∙ on-leaves) half)
        (λ same. none-left e (2 * k + 1) (ap (leaving h) (sym same) ∙ back-leaves) half_back)
        (λ s t. table.channels e i ∙ sym (others-stay 0 h.wires k gone w e there refl s t));
  }

  pub pulled-wiring : (hosts : ℕ) (ports : List ℕ) (entries : List Entry) (out hops : List (Option ℕ)) → IsWiring h hosts ports entries out hops
      → IsWiring after hosts ports entries (with_ends w.cable None None out) (with_hop w.cable.a.v w.cable.a.p None (with_hop w.cable.b.v w.cable.b.p None hops))
  pulled-wiring hosts ports entries out hops wired =
      let f = now_is_fabric h is in
      let ends = ends_are_there h k w is there in
      let size = wired.leaving.size in
      let one = hop-port h w.cable.b.v w.cable.b.p None out hops f ends.1 size wired.hopping in
      record {
        history = history;
        same_hosts = wired.same_hosts;
        same_ports = wired.same_ports;
        entered = wired.entered ∙ sym (entries-set ports h.wires k gone w there refl);
        leaving = pulled-table out wired.leaving (has_port-possible (fabric_now h) w.cable.a f ends.0) (has_port-possible (fabric_now h) w.cable.b f ends.1);
        hopping = hop-port h w.cable.a.v w.cable.a.p None (set out (place_of_end w.cable.b) None) (with_hop w.cable.b.v w.cable.b.p None hops) f ends.0 (length-set out (place_of_end w.cable.b) None ∙ size) one;
      }

-- the cable of a channel that leaves is in place
pub pulled-none : (h : CableHistory) (e : End) (c : ℕ) (w : Wire) → leaving h e ≡ Some c → slice_get h.wires (c / 2) ≡ Some w → w.pulled ≡ None
pulled-none h e c w is there =
    let s = standing-wire h.wires (c / 2) (leaving_has_its_end h e c is).in_place in
    let same : Some s.0 ≡ Some w = sym s.1 ∙ there in
    let one : s.0 ≡ w = cc in
    sym (ap (λ x. x.pulled) one) ∙ s.2

-- ---- two ports are joined
push-none : (j : ℕ) (ws : List Wire) (v : Wire) (e : End) → channel_by is_in_place j ws e ≡ None → channel_by is_in_place j (ws ++ v ∷ []) e ≡ channel_by is_in_place (j + length ws) (v ∷ []) e
push-none j [] v e is = let same : j ≡ j + 0 = omega arith in ap (λ i. channel_by is_in_place i (v ∷ []) e) same
push-none j (w ∷ ws) v e is = by (is_in_place w && same_end w.cable.a e) (is_in_place w && same_end w.cable.b e) is (push-none (j + 1) ws v e)
  where
    by : (s t : Bool) → (if s then Some (2 * j) else if t then Some (2 * j + 1) else channel_by is_in_place (j + 1) ws e) ≡ None
        → (channel_by is_in_place (j + 1) ws e ≡ None → channel_by is_in_place (j + 1) (ws ++ v ∷ []) e ≡ channel_by is_in_place (j + 1 + length ws) (v ∷ []) e)
        → (if s then Some (2 * j) else if t then Some (2 * j + 1) else channel_by is_in_place (j + 1) (ws ++ v ∷ []) e) ≡ channel_by is_in_place (j + suc (length ws)) (v ∷ []) e
    by true t n rest = cc
    by false true n rest = cc
    by false false n rest = let same : j + 1 + length ws ≡ j + suc (length ws) = omega arith in rest n ∙ ap (λ i. channel_by is_in_place i (v ∷ []) e) same

push-other : (j : ℕ) (ws : List Wire) (v : Wire) (e : End) → same_end v.cable.a e ≡ false → same_end v.cable.b e ≡ false → channel_by is_in_place j (ws ++ v ∷ []) e ≡ channel_by is_in_place j ws e
push-other j [] v e a b = rw (a, b) (by (is_in_place v))
  where
    by : (t : Bool) → (if t && false then Some (2 * j) else if t && false then Some (2 * j + 1) else None) ≡ None
    by true = refl
    by false = refl
push-other j (w ∷ ws) v e a b =
    let rest = push-other (j + 1) ws v e a b in
    λ i. if is_in_place w && same_end w.cable.a e then Some (2 * j) else if is_in_place w && same_end w.cable.b e then Some (2 * j + 1) else rest i

module _ (h : CableHistory) (a b : End) (free_a : leaving h a ≡ None) (free_b : leaving h b ≡ None) (two : a ≢ b) where
  abbrev new : Wire
  new = record { cable = record { a = a; b = b }; plugged = h.changes + 1; pulled = None }

  at-a : (e : End) → a ≡ e → Some (2 * length h.wires) ≡ channel_by is_in_place 0 (h.wires ++ new ∷ []) e
  at-a e same =
      let first : same_end a e ≡ true = ap (same_end a) (sym same) ∙ same_end-refl a in
      let number : 2 * (0 + length h.wires) ≡ 2 * length h.wires = omega arith in
      sym (push-none 0 h.wires new e (ap (leaving h) (sym same) ∙ free_a) ∙ rw first (ap Some number))

  at-b : (e : End) → b ≡ e → Some (2 * length h.wires + 1) ≡ channel_by is_in_place 0 (h.wires ++ new ∷ []) e
  at-b e same =
      let second : same_end b e ≡ true = ap (same_end b) (sym same) ∙ same_end-refl b in
      let not_first : same_end a e ≡ false = by (same_end a e) refl in
      let number : 2 * (0 + length h.wires) + 1 ≡ 2 * length h.wires + 1 = omega arith in
      sym (push-none 0 h.wires new e (ap (leaving h) (sym same) ∙ free_b) ∙ rw (not_first, second) (ap Some number))
    where
      by : (t : Bool) → same_end a e ≡ t → same_end a e ≡ false
      by true p = absurd (two (same_end-true a e p ∙ sym same))
      by false p = p

  pub plugged-table : (out : List (Option ℕ)) → IsPortTable h.wires out → is_possible a ≡ true → is_possible b ≡ true → IsPortTable (h.wires ++ new ∷ []) (with_cable (length h.wires) new.cable out)
  plugged-table out table i j = record {
    size = ends-size new.cable (Some (2 * length h.wires)) (Some (2 * length h.wires + 1)) out ∙ table.size;
    channels = λ e may. ends-put new.cable (Some (2 * length h.wires)) (Some (2 * length h.wires + 1)) out e (channel_by is_in_place 0 (h.wires ++ new ∷ []) e) table.size i j may
        (at-a e)
        (at-b e)
        (λ s t. table.channels e may ∙ sym (push-other 0 h.wires new e s t));
  }

no-refusal : (o : Option GraphFault) → is_none o ≡ true → o ≡ None
no-refusal None t = refl
no-refusal (Some x) t = absurd (true≢false (sym t))

pub plugged-wiring : (h : CableHistory) (a b : End) (hosts : ℕ) (ports : List ℕ) (entries : List Entry) (out hops : List (Option ℕ)) → IsWiring h hosts ports entries out hops → may_plug h a b ≡ true
    → IsWiring (with_plugged h a b) hosts ports ((entries ++ entry_by ports b ∷ []) ++ entry_by ports a ∷ []) (with_cable (length h.wires) (record { a = a; b = b }) out)
    (with_hop a.v a.p (Some (2 * length h.wires)) (with_hop b.v b.p (Some (2 * length h.wires + 1)) hops))
plugged-wiring h a b hosts ports entries out hops wired may =
    let new : Wire = record { cable = record { a = a; b = b }; plugged = h.changes + 1; pulled = None } in
    let f = now_is_fabric h wired.history in
    let free = cable-free (fabric_now h) a b (no-refusal (cable_refusal (fabric_now h) a b) (both (is_none (cable_refusal (fabric_now h) a b)) _ may).0) in
    let size = wired.leaving.size in
    let back : Option ℕ = Some (2 * length h.wires + 1) in
    let one = hop-port h b.v b.p back out hops f free.has_b size wired.hopping in
    record {
      history = plug_keeps h a b wired.history may;
      same_hosts = wired.same_hosts;
      same_ports = wired.same_ports;
      entered = append_assoc entries (entry_by ports b ∷ []) (entry_by ports a ∷ []) ∙ ap (λ l. l ++ entry_by ports b ∷ entry_by ports a ∷ []) wired.entered ∙ entries-push ports h.wires new;
      leaving = plugged-table h a b (none-leaves h a free.far_a) (none-leaves h b free.far_b) free.two out wired.leaving (has_port-possible (fabric_now h) a f free.has_a) (has_port-possible (fabric_now h) b f free.has_b);
      hopping = hop-port h a.v a.p (Some (2 * length h.wires)) (set out (place_of_end b) back) (with_hop b.v b.p back hops) f free.has_a (length-set out (place_of_end b) back ∙ size) one;
    }

-- ---- whether two ports may be joined
-- a fabric takes a cable between ports that it has
pub plug-ends : (h : CableHistory) (a b : End) → may_plug h a b ≡ true → (has_port (fabric_now h) a ≡ true) × (has_port (fabric_now h) b ≡ true)
plug-ends h a b may =
    let free = cable-free (fabric_now h) a b (no-refusal (cable_refusal (fabric_now h) a b) (both (is_none (cable_refusal (fabric_now h) a b)) _ may).0) in
    (free.has_a, free.has_b)

vertex-there : (h : CableHistory) (v : Vertex) (p : ℕ) → has_port (fabric_now h) (record { v = v; p = p }) ≡ true → has_vertex (fabric_now h) v ≡ true
vertex-there h (Host a) p there = by (nat_lt a (length h.hosts)) there
  where
    by : (t : Bool) → nat_lt p (if t then 1 else 0) ≡ true → t ≡ true
    by true k = refl
    by false k = absurd (grind (arith, nat_tests))
vertex-there h (Switch s) p there = let low = switch-there h.switches s p there in grind (arith, nat_tests)

-- a port has a cable where a channel leaves by it
used-is : (h : CableHistory) (e : End) → is_some (far (fabric_now h) e) ≡ is_some (leaving h e)
used-is h e = by (leaving h e) refl
  where
    by : (o : Option ℕ) → leaving h e ≡ o → is_some (far (fabric_now h) e) ≡ is_some o
    by None q = ap is_some (none-far is_in_place 0 h.wires e q)
    by (Some c) q = let x = some-far is_in_place 0 h.wires e c q in ap is_some x.1

pub may-plug-is : (h : CableHistory) (a b : End) → has_port (fabric_now h) a ≡ true → has_port (fabric_now h) b ≡ true
    → may_plug h a b ≡ (not (is_some (leaving h a) || is_some (leaving h b) || same_end a b) && nat_lt (length h.wires) 4096)
may-plug-is h a b pa pb =
    let va = vertex-there h a.v a.p pa in
    let vb = vertex-there h b.v b.p pb in
    let used : is_used (fabric_now h) a b ≡ (is_some (leaving h a) || is_some (leaving h b) || same_end a b) = λ i. used-is h a i || used-is h b i || same_end a b in
    let free : is_none (cable_refusal (fabric_now h) a b) ≡ not (is_some (leaving h a) || is_some (leaving h b) || same_end a b) = rw (va, vb, pa, pb) (by (is_used (fabric_now h) a b) ∙ ap not used) in
    ap (λ t. t && nat_lt (length h.wires) 4096) free
  where
    by : (t : Bool) → is_none (if t then Some PortUsed else None) ≡ not t
    by true = refl
    by false = refl

-- ---- acceptance, and the count of changes

two-dates : (w : Wire) → dates_of w ≤ 2
two-dates w = by (nat_lt 0 w.plugged) (is_in_place w)
  where
    by : (s t : Bool) → (if s then 1 else 0) + (if t then 0 else 1) ≤ 2
    by true true = omega arith
    by true false = omega arith
    by false true = omega arith
    by false false = omega arith

dates-few : (ws : List Wire) → dates_in ws ≤ 2 * length ws
dates-few [] = omega arith
dates-few (w ∷ ws) = let one = two-dates w in let rest = dates-few ws in omega (arith, one, rest)

-- a history has few changes
pub few-changes : (h : CableHistory) → IsHistory h → h.changes ≤ 8192
few-changes h is = let all = is.counted in let dates = dates-few h.wires in let few = is.few in omega (arith, all, dates, few)
