-- Frames that join replicates alone, and join all of them once no ways show more.
use Rattle.std.proofs.Common.{◌≡◌, ◌≢◌, ◌<◌, ◌⊎◌, inl, inr, ℕ, List, true, false, length, nat_eq, Some, refl, ap, sym, ◌∙◌, subst, arith, if◌then◌else◌}
use Rattle.std.specs.Prelude.{ℤ, pos, ◌+ℤ◌, ◌-ℤ◌, neg_ℤ}
use Rattle.std.proofs.lemmas.Bool.{cases_eq}
use Rattle.std.proofs.lemmas.Bool.Decides.{nat_tests}
use Rattle.std.proofs.lemmas.Int.{ints}
use Rattle.journal_defs.specs.declared.entry.Entry.{Entry}
use Rattle.journal_defs.specs.Tree.{Node, IsJournal, Leads, host_of, nodes}
use Rattle.journal_defs.specs.Replicates.{Replicates}
use Rattle.journal_defs.specs.Replicates.Replicates.{same, turned as other_way, along, one_host, behind}
use Rattle.journal_defs.proofs.Standing.{offset_is_unique, replicates-nodes, leads-from}
use Rattle.port_align.specs.declared.frame.ClassFrame.{ClassFrame}
use Rattle.replicate_merge.specs.Truth.{IsTrueOfOne}
use Rattle.replicate_merge.specs.Ways.{node_at, frame_at, own_frame, begins_at, ends_at, Has, IsWay, AreWays, AreSound, AreClosed, moved, AreJoined}
use Rattle.replicate_merge.specs.declared.meeting.Meeting.{Meeting}
use Rattle.replicate_merge.specs.Work.{IsMeeting, class_at, far_end}
use Rattle.replicate_merge.specs.declared.way.Spot.{Spot}
use Rattle.replicate_merge.specs.declared.way.Spot.TheVariants.{Port}
use Rattle.replicate_merge.specs.declared.way.Way.{Way}
use Rattle.replicate_merge.specs.declared.way.Way.TheVariants.{Host, Cable}
use Rattle.replicate_merge.proofs.Nodes.{node-at, nodes-once}

-- replicates by an offset that is written otherwise
pub by_offset : (host : ℕ) (j : List Entry) (u v : Node) (k l : ℤ) → k ≡ l → Replicates host j u v k → Replicates host j u v l
by_offset host j u v k l e r = subst (λ x. Replicates host j u v x) e r

-- two nodes of one class are replicates by the difference of their offsets
pub in_one_class : (host : ℕ) (j : List Entry) (ns : List Node) (fs : List ClassFrame) → AreSound host j ns fs → (m n : ℕ) → m < length ns → n < length ns → (frame_at fs m).class ≡ (frame_at fs n).class → Replicates host j (node_at ns m) (node_at ns n) ((frame_at fs m).offset -ℤ (frame_at fs n).offset)
in_one_class host j ns fs f m n k l e =
    let up = f.replicates m k in
    let down = other_way (f.replicates n l) in
    let meet : Replicates host j (node_at ns (frame_at fs m).class) (node_at ns n) (neg_ℤ (frame_at fs n).offset) = subst (λ c. Replicates host j (node_at ns c) (node_at ns n) (neg_ℤ (frame_at fs n).offset)) (sym e) down in
    by_offset host j (node_at ns m) (node_at ns n) ((frame_at fs m).offset +ℤ neg_ℤ (frame_at fs n).offset) ((frame_at fs m).offset -ℤ (frame_at fs n).offset) (omega (arith, ints)) (along up meet)

pub port-parts : (c d : ℕ) (p q : ℤ) → ◌≡◌ {A = Spot} (Port c p) (Port d q) → (c ≡ d) × (p ≡ q)
port-parts c d p q e = (let one : c ≡ d = cc in one, let two : p ≡ q = cc in two)

-- ways that begin at one spot lead to replicates
meets : (a b : ℤ) (p q : ℤ) → p +ℤ a ≡ q +ℤ b → q ≡ p +ℤ (a -ℤ b)
meets a b p q e = omega (arith, ints)

-- from the class of one end, over the two nodes, to the class of the other
ends-apart : (host : ℕ) (j : List Entry) (ns : List Node) (fs : List ClassFrame) → AreSound host j ns fs → (x y : ℕ) → x < length ns → y < length ns → (i q : ℤ) → Replicates host j (node_at ns x) (node_at ns y) (q -ℤ i)
    → Replicates host j (node_at ns (frame_at fs y).class) (node_at ns (frame_at fs x).class) ((i +ℤ (frame_at fs x).offset) -ℤ (q +ℤ (frame_at fs y).offset))
ends-apart host j ns fs f x y k l i q r =
    by_offset host j (node_at ns (frame_at fs y).class) (node_at ns (frame_at fs x).class)
    (neg_ℤ (frame_at fs y).offset +ℤ (neg_ℤ (q -ℤ i) +ℤ (frame_at fs x).offset))
    ((i +ℤ (frame_at fs x).offset) -ℤ (q +ℤ (frame_at fs y).offset))
    (omega (arith, ints))
    (along (other_way (f.replicates y l)) (along (other_way r) (f.replicates x k)))

-- the ends of two ways that begin at one spot are one port of one switch
pub ends-meet : (host : ℕ) (j : List Entry) (ns : List Node) (fs : List ClassFrame) → AreSound host j ns fs → (v w : Way) → IsWay host j ns v → IsWay host j ns w → begins_at fs v ≡ begins_at fs w → IsMeeting host j ns (record { first = far_end v; second = far_end w })
ends-meet host j ns fs f (Host a x) (Host b y) v w e =
    let one : a ≡ b = cc in
    let r : Replicates host j (node_at ns x) (node_at ns y) (pos 0) = one_host v.1 (w.1 ∙ ap Some (sym one)) in
    record { first = v.0; second = w.0; one = by_offset host j (node_at ns x) (node_at ns y) (pos 0) (pos 0 -ℤ pos 0) (omega (arith, ints)) r }
ends-meet host j ns fs f (Host a x) (Cable m p n i) v w e = cc
ends-meet host j ns fs f (Cable m p n i) (Host a x) v w e = cc
ends-meet host j ns fs f (Cable m p x i) (Cable n q y k) v w e =
    let spot = port-parts (frame_at fs m).class (frame_at fs n).class (p +ℤ (frame_at fs m).offset) (q +ℤ (frame_at fs n).offset) e in
    let pair = in_one_class host j ns fs f m n v.0 w.0 spot.0 in
    let port : q ≡ p +ℤ ((frame_at fs m).offset -ℤ (frame_at fs n).offset) = meets (frame_at fs m).offset (frame_at fs n).offset p q spot.1 in
    let second : Leads j (node_at ns n) (p +ℤ ((frame_at fs m).offset -ℤ (frame_at fs n).offset)) (node_at ns y) k = subst (λ s. Leads j (node_at ns n) s (node_at ns y) k) port w.2 in
    record { first = v.1; second = w.1; one = behind pair v.2 second }

-- so the classes of the ends are one: port p of the second's is port p + k of the first's
pub meeting-apart : (host : ℕ) (j : List Entry) (ns : List Node) (fs : List ClassFrame) → AreSound host j ns fs → (m : Meeting) → IsMeeting host j ns m → Replicates host j (node_at ns (class_at fs m.second)) (node_at ns (class_at fs m.first)) ((m.first.port +ℤ (frame_at fs m.first.node).offset) -ℤ (m.second.port +ℤ (frame_at fs m.second.node).offset))
meeting-apart host j ns fs f m is = ends-apart host j ns fs f m.first.node m.second.node is.first is.second m.first.port m.second.port is.one

-- two ways that begin at one spot join the classes of their ends: port p of the second's is port p + k of the first's
pub told-apart : (host : ℕ) (j : List Entry) (ns : List Node) (fs : List ClassFrame) → AreSound host j ns fs → (v w : Way) → IsWay host j ns v → IsWay host j ns w → begins_at fs v ≡ begins_at fs w → Replicates host j (node_at ns (ends_at fs w).0) (node_at ns (ends_at fs v).0) ((ends_at fs v).1 -ℤ (ends_at fs w).1)
told-apart host j ns fs f (Host a x) (Host b y) v w e = meeting-apart host j ns fs f (record { first = far_end (Host a x); second = far_end (Host b y) }) (ends-meet host j ns fs f (Host a x) (Host b y) v w e)
told-apart host j ns fs f (Host a x) (Cable n q y k) v w e = meeting-apart host j ns fs f (record { first = far_end (Host a x); second = far_end (Cable n q y k) }) (ends-meet host j ns fs f (Host a x) (Cable n q y k) v w e)
told-apart host j ns fs f (Cable m p x i) (Host b y) v w e = meeting-apart host j ns fs f (record { first = far_end (Cable m p x i); second = far_end (Host b y) }) (ends-meet host j ns fs f (Cable m p x i) (Host b y) v w e)
told-apart host j ns fs f (Cable m p x i) (Cable n q y k) v w e = meeting-apart host j ns fs f (record { first = far_end (Cable m p x i); second = far_end (Cable n q y k) }) (ends-meet host j ns fs f (Cable m p x i) (Cable n q y k) v w e)

-- frames in which no two ways show more have all replicates together
pub together : (host : ℕ) (j : List Entry) (fs : List ClassFrame) (ws : List Way) → IsTrueOfOne host j → IsJournal j → AreWays host j (nodes j) ws → AreSound host j (nodes j) fs → AreClosed ws fs
    → (u v : Node) (k : ℤ) → Replicates host j u v k → (m n : ℕ) → m < length (nodes j) → n < length (nodes j) → node_at (nodes j) m ≡ u → node_at (nodes j) n ≡ v → (frame_at fs m).class ≡ (frame_at fs n).class
together host j fs ws t once all f closed u v k (same {u = x} node) m n a b p q = ap (λ i. (frame_at fs i).class) (nodes-once j once m n a b (p ∙ sym q))
together host j fs ws t once all f closed u v k (other_way {u = x} {v = y} {k = i} r) m n a b p q = sym (together host j fs ws t once all f closed x y i r n m b a q p)
together host j fs ws t once all f closed u v k (along {u = x} {v = y} {w = z} {i = i} {k = l} r s) m n a b p q =
    let mid = node-at j y (replicates-nodes host j x y i r).1 in
    together host j fs ws t once all f closed x y i r m mid.number a mid.below p mid.is ∙ together host j fs ws t once all f closed y z l s mid.number n mid.below b mid.is q
together host j fs ws t once all f closed u v k (one_host {u = x} {v = y} {h = h} r s) m n a b p q =
    closed (Host h m) (Host h n) (all.hosts m h a (ap (host_of host j) p ∙ r)) (all.hosts n h b (ap (host_of host j) q ∙ s)) refl
together host j fs ws t once all f closed u v k (behind {u = c} {v = d} {x = x} {y = y} {k = l} {p = o} {i = i} {q = h} r s e) m n a b p q =
    let at_c = node-at j c (leads-from j c x o i s) in
    let at_d = node-at j d (leads-from j d y (o +ℤ l) h e) in
    let class = together host j fs ws t once all f closed c d l r at_c.number at_d.number at_c.below at_d.below at_c.is at_d.is in
    let pair = in_one_class host j (nodes j) fs f at_c.number at_d.number at_c.below at_d.below class in
    let pair' : Replicates host j c d ((frame_at fs at_c.number).offset -ℤ (frame_at fs at_d.number).offset) = subst (λ w. Replicates host j c w ((frame_at fs at_c.number).offset -ℤ (frame_at fs at_d.number).offset)) at_d.is (subst (λ w. Replicates host j w (node_at (nodes j) at_d.number) ((frame_at fs at_c.number).offset -ℤ (frame_at fs at_d.number).offset)) at_c.is pair) in
    let offset : l ≡ (frame_at fs at_c.number).offset -ℤ (frame_at fs at_d.number).offset = offset_is_unique t.fabric host j c d l ((frame_at fs at_c.number).offset -ℤ (frame_at fs at_d.number).offset) t.is_fabric t.told r pair' in
    let first : Has ws (Cable at_c.number o m i) = all.cables at_c.number m o i at_c.below a (subst (λ w. Leads j (node_at (nodes j) at_c.number) o w i) (sym p) (subst (λ w. Leads j w o x i) (sym at_c.is) s)) in
    let second : Has ws (Cable at_d.number (o +ℤ l) n h) = all.cables at_d.number n (o +ℤ l) h at_d.below b (subst (λ w. Leads j (node_at (nodes j) at_d.number) (o +ℤ l) w h) (sym q) (subst (λ w. Leads j w (o +ℤ l) y h) (sym at_d.is) e)) in
    let port : o +ℤ (frame_at fs at_c.number).offset ≡ (o +ℤ l) +ℤ (frame_at fs at_d.number).offset = omega (arith, ints) in
    closed (Cable at_c.number o m i) (Cable at_d.number (o +ℤ l) n h) first second (λ z. Port (class z) (port z))

pub moved-class : (from to : ℕ) (by : ℤ) (f : ClassFrame) → f.class ≡ from → moved from to by f ≡ record { class = to; offset = f.offset +ℤ by }
moved-class from to by f e = ap (λ b. if b then record { class = to; offset = f.offset +ℤ by } else f) (let t : nat_eq f.class from ≡ true = grind (arith, nat_tests) in t)

pub moved-other : (from to : ℕ) (by : ℤ) (f : ClassFrame) → f.class ≢ from → moved from to by f ≡ f
moved-other from to by f e = ap (λ b. if b then record { class = to; offset = f.offset +ℤ by } else f) (let t : nat_eq f.class from ≡ false = grind (arith, nat_tests) in t)

-- a class joined to another
pub joined-sound : (host : ℕ) (j : List Entry) (ns : List Node) (fs new : List ClassFrame) (from to : ℕ) (by : ℤ) → AreJoined from to by fs new → AreSound host j ns fs → from < length ns → to < length ns → from ≢ to
    → frame_at fs to ≡ own_frame to → Replicates host j (node_at ns from) (node_at ns to) by → AreSound host j ns new
joined-sound host j ns fs new from to by join f k l apart root r = record {
  framed = join.same ∙ f.framed;
  placed = λ n h. subst (λ (x : ClassFrame). x.class < length ns) (sym (at n h)) (placed n h (cases n));
  rooted = λ n h. subst (λ (x : ClassFrame). frame_at new x.class ≡ own_frame x.class) (sym (at n h)) (rooted n h (cases n));
  replicates = λ n h. subst (λ (x : ClassFrame). Replicates host j (node_at ns n) (node_at ns x.class) x.offset) (sym (at n h)) (related n h (cases n));
}
  where
    inside : (n : ℕ) → n < length ns → n < length fs
    inside n h = let e = f.framed in omega arith

    at : (n : ℕ) → n < length ns → frame_at new n ≡ moved from to by (frame_at fs n)
    at n h = join.each n (inside n h)

    cases : (n : ℕ) → ((frame_at fs n).class ≡ from) ⊎ ((frame_at fs n).class ≢ from)
    cases n = cases_eq (frame_at fs n).class from

    yes : (n : ℕ) → (frame_at fs n).class ≡ from → moved from to by (frame_at fs n) ≡ record { class = to; offset = (frame_at fs n).offset +ℤ by }
    yes n e = moved-class from to by (frame_at fs n) e

    no : (n : ℕ) → (frame_at fs n).class ≢ from → moved from to by (frame_at fs n) ≡ frame_at fs n
    no n e = moved-other from to by (frame_at fs n) e

    placed : (n : ℕ) → n < length ns → ((frame_at fs n).class ≡ from) ⊎ ((frame_at fs n).class ≢ from) → (moved from to by (frame_at fs n)).class < length ns
    placed n h (inl e) = subst (λ (x : ClassFrame). x.class < length ns) (sym (yes n e)) l
    placed n h (inr e) = subst (λ (x : ClassFrame). x.class < length ns) (sym (no n e)) (f.placed n h)

    own : (c : ℕ) → c < length ns → c ≢ from → frame_at fs c ≡ own_frame c → frame_at new c ≡ own_frame c
    own c h differs e = at c h ∙ ap (moved from to by) e ∙ moved-other from to by (own_frame c) differs

    rooted : (n : ℕ) → n < length ns → ((frame_at fs n).class ≡ from) ⊎ ((frame_at fs n).class ≢ from) → frame_at new (moved from to by (frame_at fs n)).class ≡ own_frame (moved from to by (frame_at fs n)).class
    rooted n h (inl e) = subst (λ (x : ClassFrame). frame_at new x.class ≡ own_frame x.class) (sym (yes n e)) (own to l (λ s. apart (sym s)) root)
    rooted n h (inr e) = subst (λ (x : ClassFrame). frame_at new x.class ≡ own_frame x.class) (sym (no n e)) (own (frame_at fs n).class (f.placed n h) e (f.rooted n h))

    related : (n : ℕ) → n < length ns → ((frame_at fs n).class ≡ from) ⊎ ((frame_at fs n).class ≢ from) → Replicates host j (node_at ns n) (node_at ns (moved from to by (frame_at fs n)).class) (moved from to by (frame_at fs n)).offset
    related n h (inl e) = subst (λ (x : ClassFrame). Replicates host j (node_at ns n) (node_at ns x.class) x.offset) (sym (yes n e)) (along (subst (λ c. Replicates host j (node_at ns n) (node_at ns c) (frame_at fs n).offset) e (f.replicates n h)) r)
    related n h (inr e) = subst (λ (x : ClassFrame). Replicates host j (node_at ns n) (node_at ns x.class) x.offset) (sym (no n e)) (f.replicates n h)
