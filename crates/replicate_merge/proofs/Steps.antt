-- A pair of the work list done: what has to hold before its classes are joined, and what holds after it.
use Rattle.std.proofs.Common.{◌≡◌, ◌≢◌, ◌<◌, ℕ, List, [], ◌∷◌, ◌++◌, length, Option, Some, None, refl, ap, sym, ◌∙◌, subst, arith}
use Rattle.std.specs.Prelude.{ℤ, ◌+ℤ◌, neg_ℤ}
use Rattle.std.proofs.lemmas.Int.{ints}
use Rattle.net_defs.specs.Turn.{IsTurn}
use Rattle.journal_defs.specs.declared.entry.Entry.{Entry}
use Rattle.journal_defs.specs.Tree.{Node}
use Rattle.journal_defs.specs.Replicates.{Replicates}
use Rattle.journal_defs.specs.Replicates.Replicates.{turned as other_way, along}
use Rattle.journal_defs.proofs.Standing.{offsets_are_turns}
use Rattle.port_align.specs.declared.frame.ClassFrame.{ClassFrame}
use Rattle.port_align.specs.declared.end.NodePort.{NodePort}
use Rattle.replicate_merge.specs.declared.meeting.Meeting.{Meeting}
use Rattle.replicate_merge.specs.declared.meeting.HostNode.{HostNode}
use Rattle.replicate_merge.specs.declared.way.Spot.{Spot}
use Rattle.replicate_merge.specs.declared.way.Spot.TheVariants.{Address, Port}
use Rattle.replicate_merge.specs.declared.way.Way.{Way}
use Rattle.replicate_merge.specs.declared.way.Way.TheVariants.{Host, Cable}
use Rattle.replicate_merge.specs.Truth.{IsTrueOfOne}
use Rattle.replicate_merge.specs.Ways.{AreJoined, IsWay, begins_at, frame_at, node_at, own_frame}
use Rattle.replicate_merge.specs.Work.{IsMeeting, Knows, MovesEnds, class_at}
use Rattle.replicate_merge.specs.Ends.{end_at, known_ends}
use Rattle.replicate_merge.specs.Adding.{known_at}
use Rattle.replicate_merge.specs.Rounds.{Orients, pair_offset}
use Rattle.replicate_merge.specs.Rounds.Orients.{to_first, to_second}
use Rattle.replicate_merge.proofs.Lists.{among-last}
use Rattle.replicate_merge.proofs.Pairs.{join-pair}
use Rattle.replicate_merge.proofs.Ranges.{port-turn}
use Rattle.replicate_merge.proofs.Together.{meeting-apart, port-parts}

-- ends that were moved in the table are so among all that is known
pub moves-known : (hosts : List HostNode) (from to : ℕ) (by : ℤ) (old new : List (Option NodePort)) (before after : List Meeting) → MovesEnds from to by (known_ends old) (known_ends new) before after → MovesEnds from to by (known_at hosts old) (known_at hosts new) before after
moves-known hosts from to by old new before after m = record {
  other = λ s a b. other s a b;
  gone = m.gone;
  kept = m.kept;
  moved = m.moved;
  told = m.told;
  stays = m.stays;
  only = m.only;
}
  where
    other : (s : Spot) → ((p : ℤ) → s ≢ Port from p) → ((p : ℤ) → s ≢ Port to p) → known_at hosts new s ≡ known_at hosts old s
    other (Address a) x y = refl
    other (Port c p) x y = m.other (Port c p) x y

-- What a join of two classes asks.
pub record CanPair (host : ℕ) (j : List Entry) (ns : List Node) (fs : List ClassFrame) (m : Meeting) (from to : ℕ) (by : ℤ) : Type 0 where
  pub is_from : from < length ns
  pub is_to : to < length ns
  pub from_root : frame_at fs from ≡ own_frame from
  pub to_root : frame_at fs to ≡ own_frame to
  pub one : Replicates host j (node_at ns from) (node_at ns to) by
  pub joins : (g : ℕ → ℕ) → g from ≡ g to → g (class_at fs m.first) ≡ g (class_at fs m.second)

module _ (host : ℕ) (j : List Entry) (ns : List Node) (ws : List Way) (fs : List ClassFrame) (ends : List (Option NodePort)) (hosts : List HostNode) (rest : List Meeting) (m : Meeting) (truth : IsTrueOfOne host j) (k : Knows host j ns ws fs (known_at hosts ends) (rest ++ m ∷ [])) where
  pair : IsMeeting host j ns m
  pair = k.meet m (among-last rest m)

  down : Replicates host j (node_at ns (class_at fs m.second)) (node_at ns (class_at fs m.first)) (pair_offset fs m)
  down = meeting-apart host j ns fs k.sound m pair

  -- either class may be joined to the other
  pub can-pair : (from to : ℕ) (by : ℤ) → Orients fs m from to by → CanPair host j ns fs m from to by
  can-pair from to by (to_first a b c) = record {
    is_from = subst (λ n. n < length ns) (sym a) (k.sound.placed m.second.node pair.second);
    is_to = subst (λ n. n < length ns) (sym b) (k.sound.placed m.first.node pair.first);
    from_root = subst (λ n. frame_at fs n ≡ own_frame n) (sym a) (k.sound.rooted m.second.node pair.second);
    to_root = subst (λ n. frame_at fs n ≡ own_frame n) (sym b) (k.sound.rooted m.first.node pair.first);
    one = subst (λ o. Replicates host j (node_at ns from) (node_at ns to) o) (sym c) (subst (λ n. Replicates host j (node_at ns from) (node_at ns n) (pair_offset fs m)) (sym b) (subst (λ n. Replicates host j (node_at ns n) (node_at ns (class_at fs m.first)) (pair_offset fs m)) (sym a) down));
    joins = λ g e. ap g (sym b) ∙ sym e ∙ ap g a;
  }
  can-pair from to by (to_second a b c) = record {
    is_from = subst (λ n. n < length ns) (sym a) (k.sound.placed m.first.node pair.first);
    is_to = subst (λ n. n < length ns) (sym b) (k.sound.placed m.second.node pair.second);
    from_root = subst (λ n. frame_at fs n ≡ own_frame n) (sym a) (k.sound.rooted m.first.node pair.first);
    to_root = subst (λ n. frame_at fs n ≡ own_frame n) (sym b) (k.sound.rooted m.second.node pair.second);
    one = subst (λ o. Replicates host j (node_at ns from) (node_at ns to) o) (sym c) (subst (λ n. Replicates host j (node_at ns from) (node_at ns n) (neg_ℤ (pair_offset fs m))) (sym b) (subst (λ n. Replicates host j (node_at ns n) (node_at ns (class_at fs m.second)) (neg_ℤ (pair_offset fs m))) (sym a) (other_way down)));
    joins = λ g e. ap g (sym a) ∙ e ∙ ap g b;
  }

  module _ (from to : ℕ) (by : ℤ) (can : CanPair host j ns fs m from to by) where
    turn : (u v : Node) (i : ℤ) → Replicates host j u v i → IsTurn i
    turn u v i r = offsets_are_turns truth.fabric host j u v i truth.is_fabric truth.told r

    -- the offset is one of two ports of a switch
    pub pair-small : IsTurn by
    pair-small = turn (node_at ns from) (node_at ns to) by can.one

    -- and so are the offsets of all nodes
    pub pair-turn : (n : ℕ) → n < length ns → IsTurn (frame_at fs n).offset
    pair-turn n l = turn (node_at ns n) (node_at ns (frame_at fs n).class) (frame_at fs n).offset (k.sound.replicates n l)

    over : (n : ℕ) → n < length ns → (frame_at fs n).class ≡ from → Replicates host j (node_at ns n) (node_at ns to) ((frame_at fs n).offset +ℤ by)
    over n l e = along (subst (λ c. Replicates host j (node_at ns n) (node_at ns c) (frame_at fs n).offset) e (k.sound.replicates n l)) can.one

    -- so are those of the nodes that change their class
    pub pair-there : (n : ℕ) → n < length ns → (frame_at fs n).class ≡ from → IsTurn ((frame_at fs n).offset +ℤ by)
    pair-there n l e = turn (node_at ns n) (node_at ns to) ((frame_at fs n).offset +ℤ by) (over n l e)

    way-range : (w : Way) (p : ℤ) → IsWay host j ns w → begins_at fs w ≡ Port from p → IsTurn (p +ℤ by)
    way-range (Host a n) p is e = cc
    way-range (Cable x q n i) p is e =
        let spot = port-parts (frame_at fs x).class from (q +ℤ (frame_at fs x).offset) p e in
        let t = port-turn host j (node_at ns x) (node_at ns to) (node_at ns n) ((frame_at fs x).offset +ℤ by) q i truth (over x is.0 spot.0) is.2 in
        let port : q +ℤ ((frame_at fs x).offset +ℤ by) ≡ p +ℤ by = (let s = spot.1 in omega (arith, ints)) in
        subst (λ z. IsTurn z) port t

    -- and those of the ports whose ends are known
    pub pair-range : (p : ℤ) → end_at ends from p ≢ None → IsTurn (p +ℤ by)
    pair-range p some = at (end_at ends from p) refl
      where
        at : (o : Option NodePort) → end_at ends from p ≡ o → IsTurn (p +ℤ by)
        at None e = absurd (some e)
        at (Some x) e = let h = k.told (Port from p) x e in way-range h.way p (k.ways h.way h.there) h.begin

    -- the pair is done once the frames and the ends are
    pub pair-done : (next : List ClassFrame) (new : List (Option NodePort)) (after : List Meeting) → from ≢ to → AreJoined from to by fs next → MovesEnds from to by (known_ends ends) (known_ends new) rest after → Knows host j ns ws next (known_at hosts new) after
    pair-done next new after two join moves =
        join-pair host j ns ws fs next (known_at hosts ends) (known_at hosts new) rest after m from to by k join (moves-known hosts from to by ends new rest after moves) two can.joins can.is_from can.is_to can.to_root can.one
