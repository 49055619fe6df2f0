-- The work list done step by step: what is known of ways stays true, and at its end all ways are closed.
use Rattle.std.proofs.Common.{◌≡◌, ◌≢◌, ◌<◌, ◌⊎◌, inl, inr, ℕ, List, [], ◌∷◌, ◌++◌, Bool, true, false, length, nat_eq, Option, Some, None, refl, ap, sym, ◌∙◌, subst, true≢false, arith, if◌then◌else◌}
use Rattle.std.specs.Prelude.{ℤ, ◌+ℤ◌, ◌-ℤ◌}
use Rattle.std.proofs.lemmas.Bool.{cases_eq}
use Rattle.std.proofs.lemmas.Bool.Decides.{Decides-eqb}
use Rattle.std.proofs.lemmas.Int.{ints}
use Rattle.journal_defs.specs.declared.entry.Entry.{Entry}
use Rattle.journal_defs.specs.Tree.{Node}
use Rattle.journal_defs.specs.Replicates.{Replicates}
use Rattle.port_align.specs.declared.frame.ClassFrame.{ClassFrame}
use Rattle.port_align.specs.declared.end.NodePort.{NodePort}
use Rattle.replicate_merge.specs.declared.meeting.Meeting.{Meeting}
use Rattle.replicate_merge.specs.declared.way.Spot.{Spot}
use Rattle.replicate_merge.specs.declared.way.Spot.TheVariants.{Address, Port}
use Rattle.replicate_merge.specs.declared.way.Way.{Way}
use Rattle.replicate_merge.specs.declared.way.Way.TheVariants.{Host, Cable}
use Rattle.replicate_merge.specs.Spots.{same_spot}
use Rattle.replicate_merge.specs.Ways.{AreSound, AreClosed, AreJoined, Has, IsWay, begins_at, ends_at, frame_at, node_at, own_frame}
use Rattle.replicate_merge.specs.Work.{Among, Agrees, Clashes, HasEnd, HasOneMore, IsMeeting, IsSeen, Knows, LearnsEnd, MovesEnds, class_at, far_end}
use Rattle.replicate_merge.proofs.Knowing.{spot-same, spot-itself}
use Rattle.replicate_merge.proofs.Lists.{among-left, among-last, among-cases, nothing-among}
use Rattle.replicate_merge.proofs.Together.{ends-meet, joined-sound, moved-class, moved-other, port-parts}

-- spots are one or differ
pub spot-cases : (s t : Spot) → (s ≡ t) ⊎ (s ≢ t)
spot-cases s t = by (same_spot s t) refl
  where
    by : (b : Bool) → same_spot s t ≡ b → (s ≡ t) ⊎ (s ≢ t)
    by true e = inl (spot-same s t e)
    by false e = inr (λ p. true≢false (sym (spot-itself s) ∙ ap (same_spot s) p ∙ e))

-- the class at which a way ends
end-class : (fs : List ClassFrame) (w : Way) → (ends_at fs w).0 ≡ class_at fs (far_end w)
end-class fs (Host address n) = refl
end-class fs (Cable m p n i) = refl

-- once the work list is done, no two ways that begin at one spot end in two classes
pub all-closed : (host : ℕ) (j : List Entry) (ns : List Node) (ws : List Way) (fs : List ClassFrame) (known : Spot → Option NodePort) → Knows host j ns ws fs known [] → AreClosed ws fs
all-closed host j ns ws fs known k v w a b e =
    let x = k.seen (λ c. c) nothing v a in
    let y = k.seen (λ c. c) nothing w b in
    let both : Some x.end ≡ Some y.end = sym x.is ∙ ap known e ∙ y.is in
    let one : x.end ≡ y.end = cc in
    end-class fs v ∙ sym x.one ∙ ap (class_at fs) one ∙ y.one ∙ sym (end-class fs w)
  where
    nothing : Agrees (λ c. c) fs []
    nothing m a = absurd (nothing-among m a)

-- the nodes of a way that is one
far-inside : (host : ℕ) (j : List Entry) (ns : List Node) (w : Way) → IsWay host j ns w → (far_end w).node < length ns
far-inside host j ns (Host address n) w = w.0
far-inside host j ns (Cable m p n i) w = w.1

module _ (host : ℕ) (j : List Entry) (ns : List Node) (ws : List Way) (fs : List ClassFrame) (known : Spot → Option NodePort) (todo : List Meeting) (k : Knows host j ns ws fs known todo) where
  ways-more : (w : Way) (more : List Way) → HasOneMore ws w more → IsWay host j ns w → (v : Way) → Has more v → IsWay host j ns v
  ways-more w more one is v h = by (one.only v h)
    where
      by : Has ws v ⊎ (v ≡ w) → IsWay host j ns v
      by (inl a) = k.ways v a
      by (inr e) = subst (λ x. IsWay host j ns x) (sym e) is

  keeps-told : (w : Way) (more : List Way) → HasOneMore ws w more → (s : Spot) (e : NodePort) → known s ≡ Some e → HasEnd more fs s e
  keeps-told w more one s e t = let h = k.told s e t in record { way = h.way; there = one.kept h.way h.there; begin = h.begin; end = h.end }

  -- the end of a known port is inside
  pub known-inside : (s : Spot) (e : NodePort) → known s ≡ Some e → e.node < length ns
  known-inside s e t = let h = k.told s e t in subst (λ (x : NodePort). x.node < length ns) h.end (far-inside host j ns h.way (k.ways h.way h.there))

  -- a way that begins where nothing is known
  pub learn-way : (w : Way) (more : List Way) (learnt : Spot → Option NodePort) → HasOneMore ws w more → IsWay host j ns w → LearnsEnd known learnt (begins_at fs w) (far_end w) → Knows host j ns more fs learnt todo
  learn-way w more learnt one is learns = record {
    ways = ways-more w more one is;
    sound = k.sound;
    told = λ s e t. told s e t (spot-cases (begins_at fs w) s);
    meet = k.meet;
    seen = λ g agrees v h. seen g agrees v (one.only v h);
  }
    where
      told : (s : Spot) (e : NodePort) → learnt s ≡ Some e → (begins_at fs w ≡ s) ⊎ (begins_at fs w ≢ s) → HasEnd more fs s e
      told s e t (inl same) =
          let both : Some (far_end w) ≡ Some e = sym learns.here ∙ ap learnt same ∙ t in
          let end : far_end w ≡ e = cc in
          record { way = w; there = one.there; begin = same; end = end }
      told s e t (inr differs) = keeps-told w more one s e (sym (learns.other s differs) ∙ t)

      old : (g : ℕ → ℕ) (v : Way) → IsSeen g fs (known (begins_at fs v)) v → (begins_at fs w ≡ begins_at fs v) ⊎ (begins_at fs w ≢ begins_at fs v) → IsSeen g fs (learnt (begins_at fs v)) v
      old g v x (inl same) = let bad : Some x.end ≡ None = sym x.is ∙ ap known (sym same) ∙ learns.fresh in cc
      old g v x (inr differs) = record { end = x.end; is = learns.other (begins_at fs v) differs ∙ x.is; one = x.one }

      seen : (g : ℕ → ℕ) → Agrees g fs todo → (v : Way) → Has ws v ⊎ (v ≡ w) → IsSeen g fs (learnt (begins_at fs v)) v
      seen g agrees v (inl h) = old g v (k.seen g agrees v h) (spot-cases (begins_at fs w) (begins_at fs v))
      seen g agrees v (inr e) = subst (λ x. IsSeen g fs (learnt (begins_at fs x)) x) (sym e) (record { end = far_end w; is = learns.here; one = refl })

  -- the end that is known of a spot, and a way that begins there, end at one port
  pub known-meets : (w : Way) (e : NodePort) → IsWay host j ns w → known (begins_at fs w) ≡ Some e → IsMeeting host j ns (record { first = e; second = far_end w })
  known-meets w e is t =
      let h = k.told (begins_at fs w) e t in
      subst (λ x. IsMeeting host j ns (record { first = x; second = far_end w })) h.end (ends-meet host j ns fs k.sound h.way w (k.ways h.way h.there) is h.begin)

  -- a way that begins where an end is known: the two are to be one
  pub open-way : (w : Way) (more : List Way) (e : NodePort) → HasOneMore ws w more → IsWay host j ns w → known (begins_at fs w) ≡ Some e → Knows host j ns more fs known (todo ++ record { first = e; second = far_end w } ∷ [])
  open-way w more e one is t = record {
    ways = ways-more w more one is;
    sound = k.sound;
    told = λ s e t. keeps-told w more one s e t;
    meet = λ m a. meet m (among-cases todo pair m a);
    seen = λ g agrees v h. seen g agrees v (one.only v h);
  }
    where
      pair : Meeting
      pair = record { first = e; second = far_end w }

      meet : (m : Meeting) → Among todo m ⊎ (pair ≡ m) → IsMeeting host j ns m
      meet m (inl a) = k.meet m a
      meet m (inr s) = subst (λ x. IsMeeting host j ns x) s (known-meets w e is t)

      seen : (g : ℕ → ℕ) → Agrees g fs (todo ++ pair ∷ []) → (v : Way) → Has ws v ⊎ (v ≡ w) → IsSeen g fs (known (begins_at fs v)) v
      seen g agrees v (inl h) = k.seen g (λ m a. agrees m (among-left todo pair m a)) v h
      seen g agrees v (inr s) = subst (λ x. IsSeen g fs (known (begins_at fs x)) x) (sym s) (record { end = e; is = t; one = agrees pair (among-last todo pair) })

-- a pair of one class is done
pub pass-pair : (host : ℕ) (j : List Entry) (ns : List Node) (ws : List Way) (fs : List ClassFrame) (known : Spot → Option NodePort) (rest : List Meeting) (m : Meeting) → class_at fs m.first ≡ class_at fs m.second → Knows host j ns ws fs known (rest ++ m ∷ []) → Knows host j ns ws fs known rest
pass-pair host j ns ws fs known rest m one k = record {
  ways = k.ways;
  sound = k.sound;
  told = k.told;
  meet = λ x a. k.meet x (among-left rest m x a);
  seen = λ g agrees. k.seen g (λ x a. by g agrees x (among-cases rest m x a));
}
  where
    by : (g : ℕ → ℕ) → Agrees g fs rest → (x : Meeting) → Among rest x ⊎ (m ≡ x) → g (class_at fs x.first) ≡ g (class_at fs x.second)
    by g agrees x (inl a) = agrees x a
    by g agrees x (inr e) = subst (λ (y : Meeting). g (class_at fs y.first) ≡ g (class_at fs y.second)) e (ap g one)

-- a class joined to another, with its ends, where a pair showed that they are one
module _ (host : ℕ) (j : List Entry) (ns : List Node) (ws : List Way) (fs new : List ClassFrame) (known learnt : Spot → Option NodePort) (rest after : List Meeting) (m : Meeting) (from to : ℕ) (by : ℤ) (k : Knows host j ns ws fs known (rest ++ m ∷ [])) (join : AreJoined from to by fs new) (moves : MovesEnds from to by known learnt rest after) (two : from ≢ to) where
  abbrev label : (ℕ → ℕ) → ℕ → ℕ
  label g c = if nat_eq c from then g to else g c

  frame-from : (n : ℕ) → n < length ns → (frame_at fs n).class ≡ from → frame_at new n ≡ record { class = to; offset = (frame_at fs n).offset +ℤ by }
  frame-from n l e = let f = k.sound.framed in join.each n (let i : n < length fs = omega arith in i) ∙ moved-class from to by (frame_at fs n) e

  frame-other : (n : ℕ) → n < length ns → (frame_at fs n).class ≢ from → frame_at new n ≡ frame_at fs n
  frame-other n l d = let f = k.sound.framed in join.each n (let i : n < length fs = omega arith in i) ∙ moved-other from to by (frame_at fs n) d

  -- the old label of a node's old class is the new label of its new class
  same-label : (g : ℕ → ℕ) (n : ℕ) → n < length ns → label g (frame_at fs n).class ≡ g (frame_at new n).class
  same-label g n l = by_cases (cases_eq (frame_at fs n).class from)
    where
      by_cases : ((frame_at fs n).class ≡ from) ⊎ ((frame_at fs n).class ≢ from) → label g (frame_at fs n).class ≡ g (frame_at new n).class
      by_cases (inl e) = ap (λ b. if b then g to else g (frame_at fs n).class) ((Decides-eqb (frame_at fs n).class from).1 e) ∙ ap (λ (f : ClassFrame). g f.class) (sym (frame-from n l e))
      by_cases (inr d) = ap (λ b. if b then g to else g (frame_at fs n).class) (other (nat_eq (frame_at fs n).class from) refl) ∙ ap (λ (f : ClassFrame). g f.class) (sym (frame-other n l d))
        where
          other : (b : Bool) → nat_eq (frame_at fs n).class from ≡ b → nat_eq (frame_at fs n).class from ≡ false
          other true e = absurd (d ((Decides-eqb (frame_at fs n).class from).0 e))
          other false e = e

  -- where a way begins in the new frames
  begin-from : (w : Way) (p : ℤ) → IsWay host j ns w → begins_at fs w ≡ Port from p → begins_at new w ≡ Port to (p +ℤ by)
  begin-from (Host a n) p is e = cc
  begin-from (Cable x q n i) p is e =
      let spot = port-parts (frame_at fs x).class from (q +ℤ (frame_at fs x).offset) p e in
      let port : q +ℤ ((frame_at fs x).offset +ℤ by) ≡ p +ℤ by = (let s = spot.1 in omega (arith, ints)) in
      ap (λ (f : ClassFrame). Port f.class (q +ℤ f.offset)) (frame-from x is.0 spot.0) ∙ ap (λ o. Port to o) port

  begin-other : (w : Way) → IsWay host j ns w → ((p : ℤ) → begins_at fs w ≢ Port from p) → begins_at new w ≡ begins_at fs w
  begin-other (Host a n) is d = refl
  begin-other (Cable x q n i) is d = ap (λ (f : ClassFrame). Port f.class (q +ℤ f.offset)) (frame-other x is.0 (λ e. d (q +ℤ (frame_at fs x).offset) (λ z. Port (e z) (q +ℤ (frame_at fs x).offset))))

  -- a spot is one of the class that goes, of the one that stays, or of neither
  data IsOf (s : Spot) : Type 0 where
    of_from : (p : ℤ) → s ≡ Port from p → IsOf s
    of_to : (p : ℤ) → s ≡ Port to p → IsOf s
    of_neither : ((p : ℤ) → s ≢ Port from p) → ((p : ℤ) → s ≢ Port to p) → IsOf s

  is-of : (s : Spot) → IsOf s
  is-of (Address a) = of_neither (λ p e. cc) (λ p e. cc)
  is-of (Port c p) = by_cases (cases_eq c from) (cases_eq c to)
    where
      by_cases : (c ≡ from) ⊎ (c ≢ from) → (c ≡ to) ⊎ (c ≢ to) → IsOf (Port c p)
      by_cases (inl e) d = of_from p (ap (λ x. Port x p) e)
      by_cases (inr d) (inl e) = of_to p (ap (λ x. Port x p) e)
      by_cases (inr d) (inr f) = of_neither (λ q e. d (port-parts c from p q e).0) (λ q e. f (port-parts c to p q e).0)

  to-stays : (p q : ℤ) → Port to p ≢ Port from q
  to-stays p q e = two (sym (port-parts to from p q e).0)

  told-kept : (s : Spot) (e : NodePort) → ((p : ℤ) → s ≢ Port from p) → known s ≡ Some e → HasEnd ws new s e
  told-kept s e d t =
      let h = k.told s e t in
      record { way = h.way; there = h.there; begin = begin-other h.way (k.ways h.way h.there) (λ p b. d p (sym h.begin ∙ b)) ∙ h.begin; end = h.end }

  told-moved : (p : ℤ) (e : NodePort) → known (Port from p) ≡ Some e → HasEnd ws new (Port to (p +ℤ by)) e
  told-moved p e t =
      let h = k.told (Port from p) e t in
      record { way = h.way; there = h.there; begin = begin-from h.way p (k.ways h.way h.there) h.begin; end = h.end }

  told-new : (s : Spot) (e : NodePort) → learnt s ≡ Some e → IsOf s → HasEnd ws new s e
  told-new s e t (of_from p is) = let bad : Some e ≡ None = sym t ∙ ap learnt is ∙ moves.gone p in cc
  told-new s e t (of_neither a b) = told-kept s e a (sym (moves.other s a b) ∙ t)
  told-new s e t (of_to p is) = subst (λ x. HasEnd ws new x e) (sym is) (at (moves.told p e (ap learnt (sym is) ∙ t)))
    where
      at : (known (Port to p) ≡ Some e) ⊎ (known (Port from (p -ℤ by)) ≡ Some e) → HasEnd ws new (Port to p) e
      at (inl o) = told-kept (Port to p) e (to-stays p) o
      at (inr o) = subst (λ q. HasEnd ws new (Port to q) e) (let q : (p -ℤ by) +ℤ by ≡ p = omega (arith, ints) in q) (told-moved (p -ℤ by) e o)

  -- one sighting in the new frames
  relabel : (g : ℕ → ℕ) (w : Way) (e : NodePort) → Has ws w → e.node < length ns → label g (class_at fs e) ≡ label g (class_at fs (far_end w)) → g (class_at new e) ≡ g (class_at new (far_end w))
  relabel g w e h l one = sym (same-label g e.node l) ∙ one ∙ same-label g (far_end w).node (far-inside host j ns w (k.ways w h))

  seen-new : (g : ℕ → ℕ) → Agrees g new after → (w : Way) → Has ws w → IsSeen (label g) fs (known (begins_at fs w)) w → IsOf (begins_at fs w) → IsSeen g new (learnt (begins_at new w)) w
  seen-new g agrees w h x (of_neither a b) = record {
    end = x.end;
    is = ap learnt (begin-other w (k.ways w h) a) ∙ moves.other (begins_at fs w) a b ∙ x.is;
    one = relabel g w x.end h (known-inside host j ns ws fs known (rest ++ m ∷ []) k (begins_at fs w) x.end x.is) x.one;
  }
  seen-new g agrees w h x (of_to p e) = record {
    end = x.end;
    is = ap learnt (begin-other w (k.ways w h) (λ q b. to-stays p q (sym e ∙ b)) ∙ e) ∙ moves.kept p x.end (ap known (sym e) ∙ x.is);
    one = relabel g w x.end h (known-inside host j ns ws fs known (rest ++ m ∷ []) k (begins_at fs w) x.end x.is) x.one;
  }
  seen-new g agrees w h x (of_from p e) = subst (λ s. IsSeen g new (learnt s) w) (sym (begin-from w p (k.ways w h) e)) (at (moves.moved p x.end (ap known (sym e) ∙ x.is)))
    where
      one : g (class_at new x.end) ≡ g (class_at new (far_end w))
      one = relabel g w x.end h (known-inside host j ns ws fs known (rest ++ m ∷ []) k (begins_at fs w) x.end x.is) x.one

      at : (learnt (Port to (p +ℤ by)) ≡ Some x.end) ⊎ Clashes (learnt (Port to (p +ℤ by))) after x.end → IsSeen g new (learnt (Port to (p +ℤ by))) w
      at (inl o) = record { end = x.end; is = o; one = one }
      at (inr c) = record { end = c.kept; is = c.is; one = agrees (record { first = c.kept; second = x.end }) c.listed ∙ one }

  -- labels that agree with the new list agree with the old one, read through the join
  agrees-old : ((g : ℕ → ℕ) → g from ≡ g to → g (class_at fs m.first) ≡ g (class_at fs m.second)) → (g : ℕ → ℕ) → Agrees g new after → Agrees (label g) fs (rest ++ m ∷ [])
  agrees-old joins g agrees x a = at (among-cases rest m x a)
    where
      from-to : label g from ≡ label g to
      from-to = ap (λ b. if b then g to else g from) ((Decides-eqb from from).1 refl) ∙ sym (ap (λ b. if b then g to else g to) (other (nat_eq to from) refl))
        where
          other : (b : Bool) → nat_eq to from ≡ b → nat_eq to from ≡ false
          other true e = absurd (two (sym ((Decides-eqb to from).0 e)))
          other false e = e

      at : Among rest x ⊎ (m ≡ x) → label g (class_at fs x.first) ≡ label g (class_at fs x.second)
      at (inl b) =
          let is = k.meet x a in
          same-label g x.first.node is.first ∙ agrees x (moves.stays x b) ∙ sym (same-label g x.second.node is.second)
      at (inr e) = subst (λ (y : Meeting). label g (class_at fs y.first) ≡ label g (class_at fs y.second)) e (joins (label g) from-to)

  -- the pair is done
  pub join-pair : ((g : ℕ → ℕ) → g from ≡ g to → g (class_at fs m.first) ≡ g (class_at fs m.second)) → from < length ns → to < length ns → frame_at fs to ≡ own_frame to → Replicates host j (node_at ns from) (node_at ns to) by → Knows host j ns ws new learnt after
  join-pair joins l n root r = record {
    ways = k.ways;
    sound = sound;
    told = λ s e t. told-new s e t (is-of s);
    meet = λ x a. meet x a (moves.only x a);
    seen = λ g agrees w h. seen-new g agrees w h (k.seen (label g) (agrees-old joins g agrees) w h) (is-of (begins_at fs w));
  }
    where
      sound : AreSound host j ns new
      sound = joined-sound host j ns fs new from to by join k.sound l n two root r

      meet : (x : Meeting) → Among after x → Among rest x ⊎ ((p : ℤ) × (known (Port to (p +ℤ by)) ≡ Some x.first) × (known (Port from p) ≡ Some x.second)) → IsMeeting host j ns x
      meet x a (inl b) = k.meet x (among-left rest m x b)
      meet x a (inr c) =
          let v = told-kept (Port to (c.0 +ℤ by)) x.first (to-stays (c.0 +ℤ by)) c.1 in
          let w = told-moved c.0 x.second c.2 in
          let both = ends-meet host j ns new sound v.way w.way (k.ways v.way v.there) (k.ways w.way w.there) (v.begin ∙ sym w.begin) in
          subst (λ f. IsMeeting host j ns (record { first = f; second = x.second })) v.end (subst (λ s. IsMeeting host j ns (record { first = far_end v.way; second = s })) w.end both)
