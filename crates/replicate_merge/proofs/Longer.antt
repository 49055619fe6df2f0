-- The nodes and ways of a journal with one entry more.
use Rattle.std.proofs.Common.{◌≡◌, ◌≢◌, ◌<◌, ◌⊎◌, inl, inr, ℕ, ◌+◌, List, [], ◌∷◌, ◌++◌, Bool, true, false, length, Option, Some, None, refl, ap, sym, ◌∙◌, subst, arith, length-append, if◌then◌else◌}
use Rattle.std.specs.Prelude.{ℤ, pos, ◌+ℤ◌, ◌-ℤ◌}
use Rattle.std.proofs.lemmas.Bool.{cases_eq}
use Rattle.net_defs.specs.declared.place.Answer.{Answer}
use Rattle.net_defs.specs.declared.place.Answer.TheVariants.{Host as HostAnswer, Switch, Nothing}
use Rattle.journal_defs.specs.declared.entry.Entry.{Entry}
use Rattle.journal_defs.specs.Tree.{Node, IsJournal, IsNode, Leads, answered, is_asked, is_found, has_found, host_in, host_of, nodes, reached}
use Rattle.journal_defs.specs.Tree.Node.{Mapper, Reached}
use Rattle.journal_defs.specs.Tree.Leads.{onward, back, out, home}
use Rattle.journal_defs.specs.Replicates.{Replicates}
use Rattle.map_laws.proofs.Keeping.{Keeps, keeps-append, answered-last, found-answer, node-kept, replicates-kept}
use Rattle.port_align.specs.declared.frame.ClassFrame.{ClassFrame}
use Rattle.replicate_merge.specs.declared.way.Way.{Way}
use Rattle.replicate_merge.specs.declared.way.Way.TheVariants.{Host, Cable}
use Rattle.replicate_merge.specs.declared.way.Spot.{Spot}
use Rattle.replicate_merge.specs.declared.way.Spot.TheVariants.{Port}
use Rattle.port_align.specs.declared.end.NodePort.{NodePort}
use Rattle.replicate_merge.specs.declared.meeting.Meeting.{Meeting}
use Rattle.replicate_merge.specs.Ways.{AreSound, AreWays, Has, IsWay, begins_at, frame_at, node_at, own_frame}
use Rattle.replicate_merge.specs.Work.{Among, Agrees, HasEnd, IsMeeting, IsSeen, Knows, class_at, far_end}
use Rattle.replicate_merge.specs.Longer.{IsInFront, IsNewWay}
use Rattle.replicate_merge.specs.Longer.IsInFront.{of_mapper, of_node}
use Rattle.replicate_merge.specs.Longer.IsNewWay.{of_host, from_front, to_front, to_behind, from_behind}
use Rattle.replicate_merge.proofs.Nodes.{at-node}
use Rattle.replicate_merge.proofs.Lists.{get-left, get-last}

-- the nodes of the longer journal: one more where something was found
reached-more : (j : List Entry) (e : Entry) → is_found e.answer ≡ true → reached (j ++ e ∷ []) ≡ reached j ++ Reached e.walk ∷ []
reached-more [] e f = ap (λ b. if b then Reached e.walk ∷ [] else []) f
reached-more (x ∷ j) e f = by (is_found x.answer) (reached-more j e f)
  where
    by : (b : Bool) → reached (j ++ e ∷ []) ≡ reached j ++ Reached e.walk ∷ [] → (if b then Reached x.walk ∷ reached (j ++ e ∷ []) else reached (j ++ e ∷ [])) ≡ (if b then Reached x.walk ∷ reached j else reached j) ++ Reached e.walk ∷ []
    by true r = ap (λ us. Reached x.walk ∷ us) r
    by false r = r

reached-same : (j : List Entry) (e : Entry) → is_found e.answer ≡ false → reached (j ++ e ∷ []) ≡ reached j
reached-same [] e f = ap (λ b. if b then Reached e.walk ∷ [] else []) f
reached-same (x ∷ j) e f = by (is_found x.answer) (reached-same j e f)
  where
    by : (b : Bool) → reached (j ++ e ∷ []) ≡ reached j → (if b then Reached x.walk ∷ reached (j ++ e ∷ []) else reached (j ++ e ∷ [])) ≡ (if b then Reached x.walk ∷ reached j else reached j)
    by true r = ap (λ us. Reached x.walk ∷ us) r
    by false r = r

pub nodes-more : (j : List Entry) (e : Entry) → is_found e.answer ≡ true → nodes (j ++ e ∷ []) ≡ nodes j ++ Reached e.walk ∷ []
nodes-more j e f = ap (λ us. Mapper ∷ us) (reached-more j e f)

pub nodes-same : (j : List Entry) (e : Entry) → is_found e.answer ≡ false → nodes (j ++ e ∷ []) ≡ nodes j
nodes-same j e f = ap (λ us. Mapper ∷ us) (reached-same j e f)

-- what the longer journal keeps
module _ (j l : List Entry) (keeps : Keeps j l) where
  pub host-kept : (host : ℕ) (u : Node) (h : ℕ) → host_of host j u ≡ Some h → host_of host l u ≡ Some h
  host-kept host Mapper h e = e
  host-kept host (Reached w) h e = by (answered j w) refl e
    where
      by : (o : Option Answer) → answered j w ≡ o → host_in o ≡ Some h → host_in (answered l w) ≡ Some h
      by None p e = cc
      by (Some a) p e = ap host_in (keeps.kept w a p) ∙ e

  -- of a node of the shorter journal nothing else is said
  pub host-back : (host : ℕ) (u : Node) (h : ℕ) → IsNode j u → host_of host l u ≡ Some h → host_of host j u ≡ Some h
  host-back host Mapper h node e = e
  host-back host (Reached w) h node e =
      let told = found-answer (answered j w) node in
      ap host_in told.1 ∙ sym (ap host_in (keeps.kept w told.0 told.1)) ∙ e

  pub leads-kept : (u x : Node) (p i : ℤ) → Leads j u p x i → Leads l u p x i
  leads-kept u x p i (onward {w = w} {x = y} {p = t} a b is) = onward (node-kept j l keeps (Reached w) a) (node-kept j l keeps (Reached y) b) is
  leads-kept u x p i (back {w = w} {x = y} {p = t} a b is) = back (node-kept j l keeps (Reached w) a) (node-kept j l keeps (Reached y) b) is
  leads-kept u x p i (out a) = out (node-kept j l keeps (Reached []) a)
  leads-kept u x p i (home a) = home (node-kept j l keeps (Reached []) a)

-- one node more at the end
pub node-left : (ns : List Node) (u : Node) (n : ℕ) → n < length ns → node_at (ns ++ u ∷ []) n ≡ node_at ns n
node-left ns u n l = get-left ns u Mapper n l

pub node-last : (ns : List Node) (u : Node) → node_at (ns ++ u ∷ []) (length ns) ≡ u
node-last ns u = get-last ns u Mapper (length ns) refl

pub frame-left : (fs : List ClassFrame) (f : ClassFrame) (n : ℕ) → n < length fs → frame_at (fs ++ f ∷ []) n ≡ frame_at fs n
frame-left fs f n l = get-left fs f (own_frame 0) n l

pub frame-last : (fs : List ClassFrame) (f : ClassFrame) (n : ℕ) → n ≡ length fs → frame_at (fs ++ f ∷ []) n ≡ f
frame-last fs f n e = get-last fs f (own_frame 0) n e

-- a node added, which is a class of its own: what is known stays known
module _ (host : ℕ) (j l : List Entry) (keeps : Keeps j l) (ns : List Node) (u : Node) (ws : List Way) (fs : List ClassFrame) where
  longer : length (ns ++ u ∷ []) ≡ length ns + 1
  longer = length-append ns (u ∷ [])

  pub way-kept : (w : Way) → IsWay host j ns w → IsWay host l (ns ++ u ∷ []) w
  way-kept (Host a n) is = ((let m = longer in let b = is.0 in omega arith), ap (host_of host l) (node-left ns u n is.0) ∙ host-kept j l keeps host (node_at ns n) a is.1)
  way-kept (Cable m p n i) is =
      let leads = leads-kept j l keeps (node_at ns m) (node_at ns n) p i is.2 in (
        (let k = longer in let b = is.0 in omega arith),
        (let k = longer in let b = is.1 in omega arith),
        subst (λ x. Leads l (node_at (ns ++ u ∷ []) m) p x i) (sym (node-left ns u n is.1)) (subst (λ x. Leads l x p (node_at ns n) i) (sym (node-left ns u m is.0)) leads),
      )

  pub add-node : (known : Spot → Option NodePort) (todo : List Meeting) → IsNode l u → Knows host j ns ws fs known todo → Knows host l (ns ++ u ∷ []) ws (fs ++ own_frame (length ns) ∷ []) known todo
  add-node known todo node k = record {
    ways = λ w h. way-kept w (k.ways w h);
    sound = sound;
    told = λ s e t. told s e t;
    meet = λ m a. meet m a (k.meet m a);
    seen = λ g agrees w h. seen g w h (k.seen g (λ m a. before g agrees m a (k.meet m a)) w h);
  }
    where
      f : ClassFrame
      f = own_frame (length ns)

      framed : length fs ≡ length ns
      framed = k.sound.framed

      inside : (n : ℕ) → n < length ns → n < length fs
      inside n b = let e = framed in omega arith

      same-frame : (n : ℕ) → n < length ns → frame_at (fs ++ f ∷ []) n ≡ frame_at fs n
      same-frame n b = frame-left fs f n (inside n b)

      last-frame : frame_at (fs ++ f ∷ []) (length ns) ≡ f
      last-frame = frame-last fs f (length ns) (sym framed)

      cases : (n : ℕ) → n < length (ns ++ u ∷ []) → (n < length ns) ⊎ (n ≡ length ns)
      cases n b = by (cases_eq n (length ns))
        where
          by : (n ≡ length ns) ⊎ (n ≢ length ns) → (n < length ns) ⊎ (n ≡ length ns)
          by (inl e) = inr e
          by (inr d) = inl (let m = longer in omega arith)

      placed : (n : ℕ) → (n < length ns) ⊎ (n ≡ length ns) → (frame_at (fs ++ f ∷ []) n).class < length (ns ++ u ∷ [])
      placed n (inl b) = subst (λ (x : ClassFrame). x.class < length (ns ++ u ∷ [])) (sym (same-frame n b)) (let m = longer in let c = k.sound.placed n b in omega arith)
      placed n (inr e) = subst (λ (x : ClassFrame). x.class < length (ns ++ u ∷ [])) (sym (ap (frame_at (fs ++ f ∷ [])) e ∙ last-frame)) (let m = longer in omega arith)

      rooted : (n : ℕ) → (n < length ns) ⊎ (n ≡ length ns) → frame_at (fs ++ f ∷ []) (frame_at (fs ++ f ∷ []) n).class ≡ own_frame (frame_at (fs ++ f ∷ []) n).class
      rooted n (inl b) = subst (λ (x : ClassFrame). frame_at (fs ++ f ∷ []) x.class ≡ own_frame x.class) (sym (same-frame n b)) (same-frame (frame_at fs n).class (k.sound.placed n b) ∙ k.sound.rooted n b)
      rooted n (inr e) = subst (λ (x : ClassFrame). frame_at (fs ++ f ∷ []) x.class ≡ own_frame x.class) (sym (ap (frame_at (fs ++ f ∷ [])) e ∙ last-frame)) last-frame

      related : (n : ℕ) → (n < length ns) ⊎ (n ≡ length ns) → Replicates host l (node_at (ns ++ u ∷ []) n) (node_at (ns ++ u ∷ []) (frame_at (fs ++ f ∷ []) n).class) (frame_at (fs ++ f ∷ []) n).offset
      related n (inl b) =
          let old = replicates-kept j l keeps host (node_at ns n) (node_at ns (frame_at fs n).class) (frame_at fs n).offset (k.sound.replicates n b) in
          subst (λ (x : ClassFrame). Replicates host l (node_at (ns ++ u ∷ []) n) (node_at (ns ++ u ∷ []) x.class) x.offset) (sym (same-frame n b))
          (subst (λ v. Replicates host l (node_at (ns ++ u ∷ []) n) v (frame_at fs n).offset) (sym (node-left ns u (frame_at fs n).class (k.sound.placed n b)))
          (subst (λ v. Replicates host l v (node_at ns (frame_at fs n).class) (frame_at fs n).offset) (sym (node-left ns u n b)) old))
      related n (inr e) =
          subst (λ (x : ClassFrame). Replicates host l (node_at (ns ++ u ∷ []) n) (node_at (ns ++ u ∷ []) x.class) x.offset) (sym (ap (frame_at (fs ++ f ∷ [])) e ∙ last-frame))
          (subst (λ m. Replicates host l (node_at (ns ++ u ∷ []) n) (node_at (ns ++ u ∷ []) m) (pos 0)) e (Replicates.same (subst (λ v. IsNode l v) (sym (ap (node_at (ns ++ u ∷ [])) e ∙ node-last ns u)) node)))

      sound : AreSound host l (ns ++ u ∷ []) (fs ++ f ∷ [])
      sound = record {
        framed = length-append fs (f ∷ []) ∙ ap (λ n. n + 1) framed ∙ sym longer;
        placed = λ n b. placed n (cases n b);
        rooted = λ n b. rooted n (cases n b);
        replicates = λ n b. related n (cases n b);
      }

      same-begin : (w : Way) → IsWay host j ns w → begins_at (fs ++ f ∷ []) w ≡ begins_at fs w
      same-begin (Host a n) is = refl
      same-begin (Cable m p n i) is = ap (λ (x : ClassFrame). Port x.class (p +ℤ x.offset)) (same-frame m is.0)

      same-class : (e : NodePort) → e.node < length ns → class_at (fs ++ f ∷ []) e ≡ class_at fs e
      same-class e b = ap (λ (x : ClassFrame). x.class) (same-frame e.node b)

      far-in : (w : Way) → IsWay host j ns w → (far_end w).node < length ns
      far-in (Host a n) is = is.0
      far-in (Cable m p n i) is = is.1

      told : (s : Spot) (e : NodePort) → known s ≡ Some e → HasEnd ws (fs ++ f ∷ []) s e
      told s e t = let h = k.told s e t in record { way = h.way; there = h.there; begin = same-begin h.way (k.ways h.way h.there) ∙ h.begin; end = h.end }

      meet : (m : Meeting) → Among todo m → IsMeeting host j ns m → IsMeeting host l (ns ++ u ∷ []) m
      meet m a is = record {
        first = (let n = longer in let b = is.first in omega arith);
        second = (let n = longer in let b = is.second in omega arith);
        one = subst (λ v. Replicates host l (node_at (ns ++ u ∷ []) m.first.node) v (m.second.port -ℤ m.first.port)) (sym (node-left ns u m.second.node is.second))
            (subst (λ v. Replicates host l v (node_at ns m.second.node) (m.second.port -ℤ m.first.port)) (sym (node-left ns u m.first.node is.first))
            (replicates-kept j l keeps host (node_at ns m.first.node) (node_at ns m.second.node) (m.second.port -ℤ m.first.port) is.one));
      }

      before : (g : ℕ → ℕ) → Agrees g (fs ++ f ∷ []) todo → (m : Meeting) → Among todo m → IsMeeting host j ns m → g (class_at fs m.first) ≡ g (class_at fs m.second)
      before g agrees m a is = sym (ap g (same-class m.first is.first)) ∙ agrees m a ∙ ap g (same-class m.second is.second)

      seen : (g : ℕ → ℕ) (w : Way) → Has ws w → IsSeen g fs (known (begins_at fs w)) w → IsSeen g (fs ++ f ∷ []) (known (begins_at (fs ++ f ∷ []) w)) w
      seen g w h x =
          let way = k.told (begins_at fs w) x.end x.is in
          let end : x.end.node < length ns = subst (λ (y : NodePort). y.node < length ns) way.end (far-in way.way (k.ways way.way way.there)) in
          record {
            end = x.end;
            is = ap known (same-begin w (k.ways w h)) ∙ x.is;
            one = ap g (same-class x.end end) ∙ x.one ∙ sym (ap g (same-class (far_end w) (far-in w (k.ways w h))));
          }

-- the ways of the journal with an entry that found something
module _ (host : ℕ) (j : List Entry) (e : Entry) (ns : List Node) (numbered : ns ≡ nodes j) (once : IsJournal j) (fresh : is_asked j e.walk ≡ false) (found : is_found e.answer ≡ true) where
  -- a node of the longer list is one of the shorter, or the new one
  data IsNumber (m : ℕ) (u : Node) : Type 0 where
    is_old : m < length ns → node_at ns m ≡ u → IsNode j u → IsNumber m u
    is_new : m ≡ length ns → u ≡ Reached e.walk → IsNumber m u

  number : (m : ℕ) (u : Node) → m < length (ns ++ Reached e.walk ∷ []) → node_at (ns ++ Reached e.walk ∷ []) m ≡ u → IsNumber m u
  number m u b is = by (cases_eq m (length ns))
    where
      by : (m ≡ length ns) ⊎ (m ≢ length ns) → IsNumber m u
      by (inl s) = is_new s (sym is ∙ ap (node_at (ns ++ Reached e.walk ∷ [])) s ∙ node-last ns (Reached e.walk))
      by (inr d) =
          let l : m < length ns = (let k = length-append ns (Reached e.walk ∷ []) in omega arith) in
          let at : node_at ns m ≡ u = sym (node-left ns (Reached e.walk) m l) ∙ is in
          let node : IsNode j (node_at ns m) = subst (λ (ms : List Node). m < length ms → IsNode j (node_at ms m)) (sym numbered) (at-node j once m) l in
          is_old l at (subst (λ v. IsNode j v) at node)

  own-host : (a : ℕ) → host_in (answered (j ++ e ∷ []) e.walk) ≡ Some a → e.answer ≡ HostAnswer a
  own-host a h = by e.answer (sym (ap host_in (answered-last j e fresh)) ∙ h)
    where
      by : (x : Answer) → host_in (Some x) ≡ Some a → x ≡ HostAnswer a
      by (HostAnswer b) p = let one : b ≡ a = cc in ap HostAnswer one
      by Switch p = cc
      by Nothing p = cc

  same-walk : (v w : List ℤ) → Reached v ≡ Reached w → v ≡ w
  same-walk v w p = let one : v ≡ w = cc in one

  not-own : (p : ℤ) → e.walk ≢ e.walk ++ p ∷ []
  not-own p s = let m = ap length s in let k = length-append e.walk (p ∷ []) in omega arith

  split-host : (a m : ℕ) (u : Node) → IsNumber m u → host_of host (j ++ e ∷ []) u ≡ Some a → IsWay host j ns (Host a m) ⊎ IsNewWay ns e (length ns) (Host a m)
  split-host a m u (is_old b at node) h = inl (b, ap (host_of host j) at ∙ host-back j (j ++ e ∷ []) (keeps-append j (e ∷ [])) host u a node h)
  split-host a m u (is_new s is) h = inr (of_host a (own-host a (ap (host_of host (j ++ e ∷ [])) (sym is) ∙ h)) (ap (λ n. Host a n) s))

  old-cable : (m n : ℕ) (p i : ℤ) (u v : Node) → m < length ns → n < length ns → node_at ns m ≡ u → node_at ns n ≡ v → Leads j u p v i → IsWay host j ns (Cable m p n i)
  old-cable m n p i u v b c at bt leads = (b, c, subst (λ x. Leads j (node_at ns m) p x i) (sym bt) (subst (λ x. Leads j x p v i) (sym at) leads))

  split-cable : (m n : ℕ) (p i : ℤ) (u v : Node) → IsNumber m u → IsNumber n v → Leads (j ++ e ∷ []) u p v i → IsWay host j ns (Cable m p n i) ⊎ IsNewWay ns e (length ns) (Cable m p n i)
  split-cable m n p i u v (is_old b at a) (is_old c bt d) (onward {w = w} {x = y} {p = t} x z is) = inl (old-cable m n p i u v b c at bt (onward a d is))
  split-cable m n p i u v (is_old b at a) (is_old c bt d) (back {w = w} {x = y} {p = t} x z is) = inl (old-cable m n p i u v b c at bt (back d a is))
  split-cable m n p i u v (is_old b at a) (is_old c bt d) (out x) = inl (old-cable m n p i u v b c at bt (out d))
  split-cable m n p i u v (is_old b at a) (is_old c bt d) (home x) = inl (old-cable m n p i u v b c at bt (home a))
  split-cable m n p i u v (is_old b at a) (is_new s f) (onward {w = w} {x = y} {p = t} x z is) =
      inr (from_front m p b (of_node w at (sym (same-walk y e.walk f) ∙ is)) (ap (λ k. Cable m p k (pos 0)) s))
  split-cable m n p i u v (is_old b at a) (is_new s f) (back {w = w} {x = y} {p = t} x z is) =
      inr (from_behind m i b (at ∙ ap Reached (is ∙ ap (λ q. q ++ t ∷ []) (same-walk w e.walk f))) (ap (λ k. Cable m (pos 0) k i) s))
  split-cable m n p i u v (is_old b at a) (is_new s f) (out x) =
      inr (from_front m (pos 0) b (of_mapper at refl (sym (same-walk [] e.walk f))) (ap (λ k. Cable m (pos 0) k (pos 0)) s))
  split-cable m n p i u v (is_old b at a) (is_new s f) (home x) = absurd (let bad : Mapper ≡ Reached e.walk = f in cc)
  split-cable m n p i u v (is_new s f) (is_old c bt d) (onward {w = w} {x = y} {p = t} x z is) =
      inr (to_behind n p c (bt ∙ ap Reached (is ∙ ap (λ q. q ++ t ∷ []) (same-walk w e.walk f))) (ap (λ k. Cable k p n (pos 0)) s))
  split-cable m n p i u v (is_new s f) (is_old c bt d) (back {w = w} {x = y} {p = t} x z is) =
      inr (to_front n i c (of_node w bt (sym (same-walk y e.walk f) ∙ is)) (ap (λ k. Cable k (pos 0) n i) s))
  split-cable m n p i u v (is_new s f) (is_old c bt d) (out x) = absurd (let bad : Mapper ≡ Reached e.walk = f in cc)
  split-cable m n p i u v (is_new s f) (is_old c bt d) (home x) =
      inr (to_front n (pos 0) c (of_mapper bt refl (sym (same-walk [] e.walk f))) (ap (λ k. Cable k (pos 0) n (pos 0)) s))
  split-cable m n p i u v (is_new s f) (is_new r g) (onward {w = w} {x = y} {p = t} x z is) =
      absurd (not-own t (sym (same-walk y e.walk g) ∙ is ∙ ap (λ q. q ++ t ∷ []) (same-walk w e.walk f)))
  split-cable m n p i u v (is_new s f) (is_new r g) (back {w = w} {x = y} {p = t} x z is) =
      absurd (not-own t (sym (same-walk y e.walk f) ∙ is ∙ ap (λ q. q ++ t ∷ []) (same-walk w e.walk g)))
  split-cable m n p i u v (is_new s f) (is_new r g) (out x) = absurd (let bad : Mapper ≡ Reached e.walk = f in cc)
  split-cable m n p i u v (is_new s f) (is_new r g) (home x) = absurd (let bad : Mapper ≡ Reached e.walk = g in cc)

  -- each way of the longer journal is one of the shorter, or one that the entry adds
  pub split-way : (w : Way) → IsWay host (j ++ e ∷ []) (ns ++ Reached e.walk ∷ []) w → IsWay host j ns w ⊎ IsNewWay ns e (length ns) w
  split-way (Host a m) is = split-host a m (node_at (ns ++ Reached e.walk ∷ []) m) (number m (node_at (ns ++ Reached e.walk ∷ []) m) is.0 refl) is.1
  split-way (Cable m p n i) is = split-cable m n p i (node_at (ns ++ Reached e.walk ∷ []) m) (node_at (ns ++ Reached e.walk ∷ []) n) (number m (node_at (ns ++ Reached e.walk ∷ []) m) is.0 refl) (number n (node_at (ns ++ Reached e.walk ∷ []) n) is.1 refl) is.2

  is-new-node : IsNode (j ++ e ∷ []) (Reached e.walk)
  is-new-node = ap has_found (answered-last j e fresh) ∙ found

  more : length (ns ++ Reached e.walk ∷ []) ≡ length ns + 1
  more = length-append ns (Reached e.walk ∷ [])

  old-node : (m : ℕ) → m < length ns → IsNode (j ++ e ∷ []) (node_at ns m)
  old-node m b = node-kept j (j ++ e ∷ []) (keeps-append j (e ∷ [])) (node_at ns m) (subst (λ (ms : List Node). m < length ms → IsNode j (node_at ms m)) (sym numbered) (at-node j once m) b)

  front-leads : (u : Node) (p : ℤ) → IsNode (j ++ e ∷ []) u → IsInFront u p e.walk → Leads (j ++ e ∷ []) u p (Reached e.walk) (pos 0)
  front-leads u p node (of_mapper a b c) =
      let empty : IsNode (j ++ e ∷ []) (Reached []) = subst (λ w. IsNode (j ++ e ∷ []) (Reached w)) c is-new-node in
      subst (λ w. Leads (j ++ e ∷ []) u p (Reached w) (pos 0)) (sym c) (subst (λ q. Leads (j ++ e ∷ []) u q (Reached []) (pos 0)) (sym b) (subst (λ x. Leads (j ++ e ∷ []) x (pos 0) (Reached []) (pos 0)) (sym a) (out empty)))
  front-leads u p node (of_node v a b) = subst (λ x. Leads (j ++ e ∷ []) x p (Reached e.walk) (pos 0)) (sym a) (onward (subst (λ x. IsNode (j ++ e ∷ []) x) a node) is-new-node b)

  behind-leads : (u : Node) (p : ℤ) → IsNode (j ++ e ∷ []) u → u ≡ Reached (e.walk ++ p ∷ []) → Leads (j ++ e ∷ []) (Reached e.walk) p u (pos 0)
  behind-leads u p node is = subst (λ x. Leads (j ++ e ∷ []) (Reached e.walk) p x (pos 0)) (sym is) (onward is-new-node (subst (λ x. IsNode (j ++ e ∷ []) x) is node) refl)

  turned-leads : (u x : Node) (p i : ℤ) → Leads (j ++ e ∷ []) u p x i → Leads (j ++ e ∷ []) x i u p
  turned-leads u x p i (onward a b is) = back a b is
  turned-leads u x p i (back a b is) = onward a b is
  turned-leads u x p i (out a) = home a
  turned-leads u x p i (home a) = out a

  -- a cable between an old node and the new one, either way
  joined-new : (m : ℕ) (p i : ℤ) → m < length ns → Leads (j ++ e ∷ []) (node_at ns m) p (Reached e.walk) i → IsWay host (j ++ e ∷ []) (ns ++ Reached e.walk ∷ []) (Cable m p (length ns) i)
  joined-new m p i b leads = (
    (let k = more in omega arith),
    (let k = more in omega arith),
    subst (λ x. Leads (j ++ e ∷ []) (node_at (ns ++ Reached e.walk ∷ []) m) p x i) (sym (node-last ns (Reached e.walk))) (subst (λ x. Leads (j ++ e ∷ []) x p (Reached e.walk) i) (sym (node-left ns (Reached e.walk) m b)) leads),
  )

  turned-way : (m n : ℕ) (p i : ℤ) → IsWay host (j ++ e ∷ []) (ns ++ Reached e.walk ∷ []) (Cable m p n i) → IsWay host (j ++ e ∷ []) (ns ++ Reached e.walk ∷ []) (Cable n i m p)
  turned-way m n p i is = (is.1, is.0, turned-leads (node_at (ns ++ Reached e.walk ∷ []) m) (node_at (ns ++ Reached e.walk ∷ []) n) p i is.2)

  -- each way that the entry adds is one
  pub new-way : (w : Way) → IsNewWay ns e (length ns) w → IsWay host (j ++ e ∷ []) (ns ++ Reached e.walk ∷ []) w
  new-way w (of_host a h is) =
      subst (λ x. IsWay host (j ++ e ∷ []) (ns ++ Reached e.walk ∷ []) x) (sym is)
      ((let k = more in omega arith), ap (host_of host (j ++ e ∷ [])) (node-last ns (Reached e.walk)) ∙ ap host_in (answered-last j e fresh) ∙ ap (λ x. host_in (Some x)) h)
  new-way w (from_front m p b front is) =
      subst (λ x. IsWay host (j ++ e ∷ []) (ns ++ Reached e.walk ∷ []) x) (sym is) (joined-new m p (pos 0) b (front-leads (node_at ns m) p (old-node m b) front))
  new-way w (to_front m p b front is) =
      subst (λ x. IsWay host (j ++ e ∷ []) (ns ++ Reached e.walk ∷ []) x) (sym is) (turned-way m (length ns) p (pos 0) (joined-new m p (pos 0) b (front-leads (node_at ns m) p (old-node m b) front)))
  new-way w (to_behind x p b at is) =
      subst (λ y. IsWay host (j ++ e ∷ []) (ns ++ Reached e.walk ∷ []) y) (sym is) (turned-way x (length ns) (pos 0) p (joined-new x (pos 0) p b (turned-leads (Reached e.walk) (node_at ns x) p (pos 0) (behind-leads (node_at ns x) p (old-node x b) at))))
  new-way w (from_behind x p b at is) =
      subst (λ y. IsWay host (j ++ e ∷ []) (ns ++ Reached e.walk ∷ []) y) (sym is) (joined-new x (pos 0) p b (turned-leads (Reached e.walk) (node_at ns x) p (pos 0) (behind-leads (node_at ns x) p (old-node x b) at)))

  -- the ways of the shorter journal and those that the entry adds are all
  pub longer-ways : (ws all : List Way) → AreWays host j ns ws → ((v : Way) → Has ws v → Has all v) → ((v : Way) → IsNewWay ns e (length ns) v → Has all v) → ((v : Way) → Has all v → IsWay host (j ++ e ∷ []) (ns ++ Reached e.walk ∷ []) v) → AreWays host (j ++ e ∷ []) (ns ++ Reached e.walk ∷ []) all
  longer-ways ws all old kept new each = record {
    each = each;
    hosts = λ n a b h. by_host n a (split-way (Host a n) (b, h));
    cables = λ m n p i b c leads. by_cable m n p i (split-way (Cable m p n i) (b, c, leads));
  }
    where
      by_host : (n a : ℕ) → IsWay host j ns (Host a n) ⊎ IsNewWay ns e (length ns) (Host a n) → Has all (Host a n)
      by_host n a (inl is) = kept (Host a n) (old.hosts n a is.0 is.1)
      by_host n a (inr is) = new (Host a n) is

      by_cable : (m n : ℕ) (p i : ℤ) → IsWay host j ns (Cable m p n i) ⊎ IsNewWay ns e (length ns) (Cable m p n i) → Has all (Cable m p n i)
      by_cable m n p i (inl is) = kept (Cable m p n i) (old.cables m n p i is.0 is.1 is.2)
      by_cable m n p i (inr is) = new (Cable m p n i) is

-- a journal that keeps another's answers and has the same nodes
module _ (host : ℕ) (j l : List Entry) (keeps : Keeps j l) (ns : List Node) (each : (m : ℕ) → m < length ns → IsNode j (node_at ns m)) where
  leads-back : (u x : Node) (p i : ℤ) → IsNode j u → IsNode j x → Leads l u p x i → Leads j u p x i
  leads-back u x p i a b (onward c d is) = onward a b is
  leads-back u x p i a b (back c d is) = back b a is
  leads-back u x p i a b (out c) = out b
  leads-back u x p i a b (home c) = home a

  pub way-back : (w : Way) → IsWay host l ns w → IsWay host j ns w
  way-back (Host a n) is = (is.0, host-back j l keeps host (node_at ns n) a (each n is.0) is.1)
  way-back (Cable m p n i) is = (is.0, is.1, leads-back (node_at ns m) (node_at ns n) p i (each m is.0) (each n is.1) is.2)

  pub way-same : (w : Way) → IsWay host j ns w → IsWay host l ns w
  way-same (Host a n) is = (is.0, host-kept j l keeps host (node_at ns n) a is.1)
  way-same (Cable m p n i) is = (is.0, is.1, leads-kept j l keeps (node_at ns m) (node_at ns n) p i is.2)

  -- all that is known of the ways of the one is known of those of the other
  pub know-same : (ws : List Way) (fs : List ClassFrame) (known : Spot → Option NodePort) (todo : List Meeting) → Knows host j ns ws fs known todo → Knows host l ns ws fs known todo
  know-same ws fs known todo k = record {
    ways = λ w h. way-same w (k.ways w h);
    sound = record {
      framed = k.sound.framed;
      placed = k.sound.placed;
      rooted = k.sound.rooted;
      replicates = λ n b. replicates-kept j l keeps host (node_at ns n) (node_at ns (frame_at fs n).class) (frame_at fs n).offset (k.sound.replicates n b);
    };
    told = k.told;
    meet = λ m a. let is = k.meet m a in record { first = is.first; second = is.second; one = replicates-kept j l keeps host (node_at ns m.first.node) (node_at ns m.second.node) (m.second.port -ℤ m.first.port) is.one };
    seen = k.seen;
  }

  pub ways-same : (ws : List Way) → AreWays host j ns ws → AreWays host l ns ws
  ways-same ws all = record {
    each = λ w h. way-same w (all.each w h);
    hosts = λ n a b h. all.hosts n a b (way-back (Host a n) (b, h)).1;
    cables = λ m n p i b c leads. all.cables m n p i b c (way-back (Cable m p n i) (b, c, leads)).2;
  }
