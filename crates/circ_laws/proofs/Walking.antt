-- A return walk whose cables the depth covers stands in the whole tree.
use Rattle.std.proofs.Common.{◌≡◌, ◌≢◌, ◌<◌, ◌≤◌, ◌+◌, ℕ, suc, List, [], ◌∷◌, ◌++◌, Bool, true, false, Some, sym, ◌∙◌, subst, ap, refl, arith, ◌⊎◌, inl, inr, if◌then◌else◌, length, is_some}
use Rattle.std.specs.Prelude.{ℤ, pos, ◌+ℤ◌, ◌-ℤ◌, map, option_and_then}
use Rattle.std.proofs.lemmas.Bool.{false≢true}
use Rattle.std.proofs.lemmas.Int.{ints}
use Rattle.net_defs.specs.declared.vertex.Vertex.{Vertex}
use Rattle.net_defs.specs.declared.vertex.Vertex.TheVariants.{Host, Switch}
use Rattle.net_defs.specs.declared.vertex.End.{End}
use Rattle.net_defs.specs.declared.place.Answer.TheVariants.{Host as IsHost, Switch as IsSwitch}
use Rattle.net_defs.specs.Network.{Network, IsFabric, far, has_port}
use Rattle.net_defs.specs.Route.{answer_at, place_at, place_at_vertex, turned, exit_at, channels_of, channel_from, crossing, host_port}
use Rattle.journal_defs.specs.declared.entry.Entry.{Entry}
use Rattle.net_defs.specs.Turn.{same_turns}
use Rattle.journal_defs.specs.Walks.{IsOnward}
use Rattle.journal_defs.specs.Tree.{Node, IsNode, IsSwitchNode, answered, is_asked, is_found, has_found}
use Rattle.journal_defs.specs.Tree.Node.{Mapper, Reached}
use Rattle.journal_defs.specs.Tree.Leads.{onward, out}
use Rattle.journal_defs.specs.Growth.{crossed}
use Rattle.journal_defs.specs.Truth.{standing}
use Rattle.net_defs.proofs.Turns.{same_turns-true}
use Rattle.net_defs.proofs.Cabling.{host-port}
use Rattle.journal_defs.proofs.Standing.{entered-push, turn-between, plus_zero}
use Rattle.map_laws.proofs.Asks.{push-length}
use Rattle.map_laws.proofs.Truly.{port-there}
use Rattle.map_laws.proofs.Crossing.{exit-is, below-ports}
use Rattle.map_laws.proofs.Channels.{channel-one_port}
use Rattle.circ_laws.proofs.Lifts.{Crossed, Lift}
use Rattle.circ_defs.specs.PathList.{CrossesOnce}
use Rattle.circ_defs.specs.Circuit.{IsCircuitJournal, IsWholeTree, are_apart, cable_of, circuit_answer, held_place}
use Rattle.circ_defs.specs.Ways.{IsOneOf, IsStep, IsWay, Joins, Step}
use Rattle.circ_defs.proofs.Numbers.{apart-parts, are_apart-push, one-of-push}
use Rattle.circ_defs.proofs.Cables.{cable_of-one, cable_of-push, cables-apart, channels-push, ends-one, joins-back, joins-channel, joins-far, one-cable}

-- what was asked was answered by the circuit rule
pub asked-circuit : (n : Network) (host : ℕ) (j : List Entry) (w : List ℤ) → IsCircuitJournal n host j → is_asked j w ≡ true → answered j w ≡ Some (circuit_answer n host w)
asked-circuit n host [] w all e = absurd (false≢true e)
asked-circuit n host (x ∷ j) w all e = by (same_turns x.walk w) refl e (asked-circuit n host j w all.1)
  where
    by : (b : Bool) → same_turns x.walk w ≡ b → is_some (if b then Some x.answer else answered j w) ≡ true → (is_asked j w ≡ true → answered j w ≡ Some (circuit_answer n host w)) → (if b then Some x.answer else answered j w) ≡ Some (circuit_answer n host w)
    by true s f rest = ap Some (all.0 ∙ ap (circuit_answer n host) (same_turns-true x.walk w s))
    by false s f rest = rest f

-- a walk that ends at a switch over different cables is told the switch, and one that ends at a host over different channels the host
told-switch : (n : Network) (host : ℕ) (w : List ℤ) (d : End) (s : ℕ) (cs : List ℕ) → standing n host (Reached w) ≡ Some d → d.v ≡ Switch s → channels_of n host w ≡ cs → are_apart (map cable_of cs) ≡ true → circuit_answer n host w ≡ IsSwitch
told-switch n host w d s cs is v c apart =
    ap (λ o. answer_at (held_place (channels_of n host w) (place_at o))) is
    ∙ ap (λ y. answer_at (held_place (channels_of n host w) (place_at_vertex y d.p))) v
    ∙ ap (λ l. answer_at (held_place l (place_at_vertex (Switch s) d.p))) c
    ∙ (rw apart refl)

told-host : (n : Network) (host : ℕ) (w : List ℤ) (d : End) (h : ℕ) (cs : List ℕ) → standing n host (Reached w) ≡ Some d → d.v ≡ Host h → channels_of n host w ≡ cs → are_apart cs ≡ true → circuit_answer n host w ≡ IsHost h
told-host n host w d h cs is v c apart =
    ap (λ o. answer_at (held_place (channels_of n host w) (place_at o))) is
    ∙ ap (λ y. answer_at (held_place (channels_of n host w) (place_at_vertex y d.p))) v
    ∙ ap (λ l. answer_at (held_place l (place_at_vertex (Host h) d.p))) c
    ∙ (rw apart refl)

-- Where a walk stands that has crossed different cables, the last of them this one.
pub record At (n : Network) (host : ℕ) (j : List Entry) (w : List ℤ) (d : End) (ks : List ℕ) (last : ℕ) : Type 0 where
  pub stands : standing n host (Reached w) ≡ Some d
  pub prev : End
  pub came : Joins n last prev d
  pub c0 : ℕ
  pub cs : List ℕ
  pub channels : channels_of n host w ≡ c0 ∷ cs
  pub first : channel_from n (host_port host) ≡ Some c0
  pub same : (k : ℕ) → IsOneOf k (map cable_of (c0 ∷ cs)) → IsOneOf k ks
  pub apart : are_apart (map cable_of (c0 ∷ cs)) ≡ true
  pub asked : is_asked j w ≡ true

at-switch : (n : Network) (host : ℕ) (j : List Entry) (w : List ℤ) (d : End) (ks : List ℕ) (last s : ℕ) → IsCircuitJournal n host j → At n host j w d ks last → d.v ≡ Switch s → IsSwitchNode j w
at-switch n host j w d ks last s all a v = asked-circuit n host j w all a.asked ∙ ap Some (told-switch n host w d s (a.c0 ∷ a.cs) a.stands v a.channels a.apart)

at-node : (n : Network) (host : ℕ) (j : List Entry) (w : List ℤ) (d : End) (ks : List ℕ) (last : ℕ) → IsCircuitJournal n host j → At n host j w d ks last → IsNode j (Reached w)
at-node n host j w d ks last all a = by d.v refl
  where
    by : (v : Vertex) → d.v ≡ v → IsNode j (Reached w)
    by (Host h) p = ap has_found (asked-circuit n host j w all a.asked) ∙ ap is_found (told-host n host w d h (a.c0 ∷ a.cs) a.stands p a.channels (cables-apart (a.c0 ∷ a.cs) a.apart))
    by (Switch s) p = ap has_found (at-switch n host j w d ks last s all a p)

difference : (q p : ℕ) → pos q ≡ pos p +ℤ (pos q -ℤ pos p)
difference q p = omega (arith, ints)

no-difference : (q p : ℕ) → (pos q -ℤ pos p) ≡ pos 0 → q ≡ p
no-difference q p e = omega (arith, ints)

-- the walk with a turn more
pub record Next (n : Network) (host : ℕ) (j : List Entry) (w : List ℤ) (d : End) (c0 : ℕ) (cs : List ℕ) (s : Step) : Type 0 where
  pub turn : ℤ
  pub sum : pos s.out.p ≡ pos d.p +ℤ turn
  pub at_switch : ℕ
  pub switch : d.v ≡ Switch at_switch
  pub stands : standing n host (Reached (w ++ turn ∷ [])) ≡ Some s.into
  pub channel : ℕ
  pub channel_is : channel_from n s.out ≡ Some channel
  pub half_is : cable_of channel ≡ s.cable
  pub channels : channels_of n host (w ++ turn ∷ []) ≡ (c0 ∷ cs) ++ channel ∷ []
  pub asked : is_asked j (w ++ turn ∷ []) ≡ true

next : (n : Network) (host depth : ℕ) (j : List Entry) (w : List ℤ) (d : End) (ks : List ℕ) (last : ℕ) (s : Step) → IsFabric n → IsWholeTree n host depth j → (a : At n host j w d ks last) → IsStep n s → s.out.v ≡ d.v → s.cable ≢ last → crossed w < depth → Next n host j w d a.c0 a.cs s
next n host depth j w d ks last s f tree a step v other near = by d.v refl
  where
    apart : s.out ≢ d
    apart e = other (one-cable n s.cable last s.out s.into a.prev f step (subst (λ x. Joins n last x a.prev) (sym e) (joins-back n last a.prev d a.came)))

    cable : far n s.out ≡ Some s.into
    cable = joins-far n s.cable s.out s.into f step

    port : has_port n s.out ≡ true
    port = port-there n s.out s.into f cable

    port_d : has_port n d ≡ true
    port_d = port-there n d a.prev f (joins-far n last d a.prev f (joins-back n last a.prev d a.came))

    turn : ℤ
    turn = pos s.out.p -ℤ pos d.p

    by : (x : Vertex) → d.v ≡ x → Next n host j w d a.c0 a.cs s
    by (Host h) p =
        let zero_d : d.p ≡ 0 = host-port n h d.p (subst (λ y. has_port n (record { v = y; p = d.p }) ≡ true) p port_d) in
        let zero_s : s.out.p ≡ 0 = host-port n h s.out.p (subst (λ y. has_port n (record { v = y; p = s.out.p }) ≡ true) (v ∙ p) port) in
        absurd (apart (ends-one s.out d v (zero_s ∙ sym zero_d)))
    by (Switch k) p =
        let low_s = below-ports n s.out f port in
        let low_d = below-ports n d f port_d in
        let onward : IsOnward turn = (turn-between s.out.p d.p turn low_s low_d (difference s.out.p d.p), (λ e. apart (ends-one s.out d v (no-difference s.out.p d.p e)))) in
        let leaves : exit_at n d.v d.p turn ≡ Some s.out =
        ap (λ y. exit_at n y d.p turn) p
        ∙ exit-is n k d.p s.out.p turn (difference s.out.p d.p) (subst (λ y. has_port n (record { v = y; p = s.out.p }) ≡ true) (v ∙ p) port)
        ∙ ap Some (ends-one (record { v = Switch k; p = s.out.p }) s.out (sym (v ∙ p)) refl) in
        let there : standing n host (Reached (w ++ turn ∷ [])) ≡ Some s.into =
        entered-push n (far n (host_port host)) w turn ∙ ap (λ o. turned n o turn) a.stands ∙ ap (option_and_then (far n)) leaves ∙ cable in
        let c = joins-channel n s.cable s.out s.into f step in
        let crosses : crossing n (Some s.out) ≡ c.channel ∷ [] = rw c.is refl in
        record {
          turn = turn;
          sum = difference s.out.p d.p;
          at_switch = k;
          switch = p;
          stands = there;
          channel = c.channel;
          channel_is = c.is;
          half_is = c.half_is;
          channels =
              channels-push n (Some (host_port host)) w turn
              ∙ ap (λ o. channels_of n host w ++ crossing n (option_and_then (λ e. exit_at n e.v e.p turn) o)) a.stands
              ∙ ap (λ o. channels_of n host w ++ crossing n o) leaves
              ∙ ap (λ l. channels_of n host w ++ l) crosses
              ∙ ap (λ l. l ++ c.channel ∷ []) a.channels;
          asked = (tree.expanded w (at-switch n host j w d ks last k tree.circuit a p) near).asked turn onward;
        }

-- over a new cable
pub at-next : (n : Network) (host : ℕ) (j : List Entry) (w : List ℤ) (d : End) (ks : List ℕ) (last : ℕ) (s : Step) → (a : At n host j w d ks last) → IsStep n s → ¬ IsOneOf s.cable ks → (x : Next n host j w d a.c0 a.cs s) → At n host j (w ++ x.turn ∷ []) s.into (s.cable ∷ ks) s.cable
at-next n host j w d ks last s a step new x = record {
  stands = x.stands;
  prev = s.out;
  came = step;
  c0 = a.c0;
  cs = a.cs ++ x.channel ∷ [];
  channels = x.channels;
  first = a.first;
  same = λ k m. by k (one-of-push k (cable_of x.channel) (map cable_of (a.c0 ∷ a.cs)) (subst (IsOneOf k) (cable_of-push (a.c0 ∷ a.cs) x.channel) m));
  apart = ap are_apart (cable_of-push (a.c0 ∷ a.cs) x.channel) ∙ are_apart-push (map cable_of (a.c0 ∷ a.cs)) (cable_of x.channel) a.apart (λ m. new (subst (λ k. IsOneOf k ks) x.half_is (a.same (cable_of x.channel) m)));
  asked = x.asked;
}
  where
    by : (k : ℕ) → IsOneOf k (map cable_of (a.c0 ∷ a.cs)) ⊎ (k ≡ cable_of x.channel) → IsOneOf k (s.cable ∷ ks)
    by k (inl m) = inr (a.same k m)
    by k (inr e) = inl (e ∙ x.half_is)

-- over the mapper's own cable, back into the mapper's host
home-asked : (n : Network) (host depth : ℕ) (j : List Entry) (w : List ℤ) (d : End) (ks : List ℕ) (last : ℕ) (s : Step) → IsFabric n → IsWholeTree n host depth j → (a : At n host j w d ks last) → IsStep n s → s.out.v ≡ d.v → s.into ≡ host_port host → (x : Next n host j w d a.c0 a.cs s) → IsNode j (Reached (w ++ x.turn ∷ []))
home-asked n host depth j w d ks last s f tree a step v home x =
    ap has_found (asked-circuit n host j (w ++ x.turn ∷ []) tree.circuit x.asked)
    ∙ ap is_found (told-host n host (w ++ x.turn ∷ []) s.into host ((a.c0 ∷ a.cs) ++ x.channel ∷ []) x.stands (ap (λ (e : End). e.v) home) x.channels (are_apart-push (a.c0 ∷ a.cs) x.channel (cables-apart (a.c0 ∷ a.cs) a.apart) different))
  where
    mine : cable_of a.c0 ≡ s.cable
    mine =
        let c = joins-channel n s.cable (host_port host) s.out f (subst (λ e. Joins n s.cable e s.out) home (joins-back n s.cable s.out s.into step)) in
        let two : Some a.c0 ≡ Some c.channel = sym a.first ∙ c.is in
        let one : a.c0 ≡ c.channel = cc in
        ap cable_of one ∙ c.half_is

    different : ¬ IsOneOf x.channel (a.c0 ∷ a.cs)
    different (inl e) =
        let own : s.out ≡ host_port host = channel-one_port n s.out (host_port host) a.c0 (x.channel_is ∙ ap Some e) a.first in
        let there : Switch x.at_switch ≡ Host host = sym (v ∙ x.switch) ∙ ap (λ (e : End). e.v) own in
        cc
    different (inr m) = (apart-parts (cable_of a.c0) (map cable_of a.cs) a.apart).0 (subst (λ k. IsOneOf k (map cable_of a.cs)) (x.half_is ∙ sym mine) (cable_of-one x.channel a.cs m))

over-turn : (n : Network) (host : ℕ) (j : List Entry) (w : List ℤ) (d : End) (c0 : ℕ) (cs : List ℕ) (s : Step) → standing n host (Reached w) ≡ Some d → s.out.v ≡ d.v → IsNode j (Reached w) → (x : Next n host j w d c0 cs s) → IsNode j (Reached (w ++ x.turn ∷ [])) → Crossed n host j (Reached w) s.out (Reached (w ++ x.turn ∷ [])) s.into
over-turn n host j w d c0 cs s is v node x there = record {
  turn = x.turn;
  port = pos 0;
  leads = onward node there refl;
  at_from = d;
  at_to = s.into;
  from_stands = is;
  to_stands = x.stands;
  from_there = sym v;
  to_there = refl;
  leaves = x.sum;
  enters = plus_zero s.into.p;
}

pub goes : (n : Network) (host depth : ℕ) (j : List Entry) (w : List ℤ) (d : End) (ks : List ℕ) (last : ℕ) (ss : List Step) (z : Vertex) → IsFabric n → IsWholeTree n host depth j → At n host j w d ks last → IsOneOf last ks → IsWay n d.v ss z → CrossesOnce host last ks ss → suc (length w) + length ss ≤ depth → (v : Node) × Lift n host j (Reached w) ss v
goes n host depth j w d ks last [] z f tree a i way go deep = (Reached w, refl)
goes n host depth j w d ks last (s ∷ ss) z f tree a i way (inl go) deep =
    let x = next n host depth j w d ks last s f tree a way.0 way.1 (λ e. go.0 (subst (λ k. IsOneOf k ks) (sym e) i)) (omega arith) in
    let b = at-next n host j w d ks last s a way.0 go.0 x in
    let c = over-turn n host j w d a.c0 a.cs s a.stands way.1 (at-node n host j w d ks last tree.circuit a) x (at-node n host j (w ++ x.turn ∷ []) s.into (s.cable ∷ ks) s.cable tree.circuit b) in
    let long = push-length w x.turn in
    let rest = goes n host depth j (w ++ x.turn ∷ []) s.into (s.cable ∷ ks) s.cable ss z f tree b (inl refl) way.2 go.1 (omega arith) in
    (rest.0, (Reached (w ++ x.turn ∷ []), c, rest.1))
goes n host depth j w d ks last (s ∷ ss) z f tree a i way (inr go) deep =
    let x = next n host depth j w d ks last s f tree a way.0 way.1 go.1 (omega arith) in
    let c = over-turn n host j w d a.c0 a.cs s a.stands way.1 (at-node n host j w d ks last tree.circuit a) x (home-asked n host depth j w d ks last s f tree a way.0 way.1 go.0 x) in
    (Reached (w ++ x.turn ∷ []), (Reached (w ++ x.turn ∷ []), c, subst (λ l. Lift n host j (Reached (w ++ x.turn ∷ [])) l (Reached (w ++ x.turn ∷ []))) (sym go.2) refl))

-- the mapper's own cable
pub first-at : (n : Network) (host depth : ℕ) (j : List Entry) (k : ℕ) (e : End) → IsFabric n → IsWholeTree n host depth j → Joins n k (host_port host) e → At n host j [] e (k ∷ []) k
first-at n host depth j k e f tree joins =
    let c = joins-channel n k (host_port host) e f joins in
    record {
      stands = joins-far n k (host_port host) e f joins;
      prev = host_port host;
      came = joins;
      c0 = c.channel;
      cs = [];
      channels = rw c.is refl;
      first = c.is;
      same = λ l m. subst (λ i. IsOneOf l (i ∷ [])) c.half_is m;
      apart = refl;
      asked = tree.started;
    }

-- a return walk stands in the tree
pub walked : (n : Network) (host depth : ℕ) (j : List Entry) (s : Step) (ss : List Step) (z : Vertex) → IsFabric n → IsWholeTree n host depth j → IsWay n (Host host) (s ∷ ss) z → CrossesOnce host s.cable (s.cable ∷ []) ss → suc (length ss) ≤ depth → (v : Node) × Lift n host j Mapper (s ∷ ss) v
walked n host depth j s ss z f tree way go deep =
    let zero_port : s.out.p ≡ 0 = host-port n host s.out.p (subst (λ y. has_port n (record { v = y; p = s.out.p }) ≡ true) way.1 (port-there n s.out s.into f (joins-far n s.cable s.out s.into f way.0))) in
    let own : s.out ≡ host_port host = ends-one s.out (host_port host) way.1 zero_port in
    let joins : Joins n s.cable (host_port host) s.into = subst (λ d. Joins n s.cable d s.into) own way.0 in
    let a = first-at n host depth j s.cable s.into f tree joins in
    let node = at-node n host j [] s.into (s.cable ∷ []) s.cable tree.circuit a in
    let c : Crossed n host j Mapper s.out (Reached []) s.into = record {
      turn = pos 0;
      port = pos 0;
      leads = out node;
      at_from = host_port host;
      at_to = s.into;
      from_stands = refl;
      to_stands = a.stands;
      from_there = sym way.1;
      to_there = refl;
      leaves = (let z = zero_port in omega (arith, ints));
      enters = plus_zero s.into.p;
    } in
    let rest = goes n host depth j [] s.into (s.cable ∷ []) s.cable ss z f tree a (inl refl) way.2 go (omega arith) in
    (rest.0, (Reached [], c, rest.1))
