-- The ways of a whole journal, added entry by entry to all its nodes.
use Rattle.std.proofs.Common.{◌≡◌, ◌≢◌, ◌<◌, ◌⊎◌, inl, inr, ℕ, suc, ◌+◌, List, [], ◌∷◌, ◌++◌, false, length, Some, refl, ap, sym, ◌∙◌, subst, arith}
use Rattle.std.specs.Prelude.{ℤ, pos, slice_get}
use Rattle.std.proofs.lemmas.Bool.{cases_eq}
use Rattle.std.proofs.lemmas.Option.{slice_get_within}
use Rattle.net_defs.specs.declared.place.Answer.{Answer}
use Rattle.net_defs.specs.declared.place.Answer.TheVariants.{Host as HostAnswer, Switch, Nothing}
use Rattle.journal_defs.specs.declared.entry.Entry.{Entry}
use Rattle.journal_defs.specs.Tree.{Node, IsJournal, IsNode, Leads, answered, host_in, host_of, nodes, reached}
use Rattle.journal_defs.specs.Tree.Node.{Mapper, Reached}
use Rattle.journal_defs.specs.Tree.Leads.{onward, back, out, home}
use Rattle.probe.specs.Keeping.{has_walk}
use Rattle.replicate_merge.specs.declared.meeting.Meeting.{Meeting}
use Rattle.replicate_merge.specs.declared.settling.Joined.{Joined}
use Rattle.replicate_merge.specs.declared.heads.Heads.{Heads}
use Rattle.replicate_merge.specs.declared.way.Way.{Way}
use Rattle.replicate_merge.specs.declared.way.Way.TheVariants.{Host, Cable}
use Rattle.replicate_merge.specs.Longer.{IsInFront}
use Rattle.replicate_merge.specs.Longer.IsInFront.{of_mapper, of_node}
use Rattle.replicate_merge.specs.Nodes.{nodes_of}
use Rattle.replicate_merge.specs.Rounds.{IsSettlingIn, IsSettlingSome, KeepsSettling}
use Rattle.replicate_merge.specs.Steps.{AddsWays, MayAddWays, SameItems}
use Rattle.replicate_merge.specs.Ways.{AreWays, Has, IsWay, node_at}
use Rattle.replicate_merge.proofs.Nodes.{at-node}
use Rattle.replicate_merge.proofs.Shapes.{names-few}
use Rattle.replicate_merge.proofs.Telling.{adds, keeps, no-walk, node-walk}
use Rattle.replicate_merge.proofs.Waying.{take-all}
use Rattle.replicate_merge.specs.AtOnce.{HasAllWays, HasOwnNodes, HasOwnWays}
use Rattle.replicate_merge.specs.Own.{AreOwnWays, IsOwnWay}
use Rattle.replicate_merge.specs.Own.IsOwnWay.{of_host, from_front, to_front}
use Rattle.replicate_merge.proofs.Entries.{answered-at, entry-of}
use Rattle.replicate_merge.proofs.Nexts.{once-of}
use Rattle.replicate_merge.proofs.NodesAtOnce.{settling-room}

-- a host that a journal shows
host-answer : (a : ℕ) (x : Answer) → host_in (Some x) ≡ Some a → x ≡ HostAnswer a
host-answer a (HostAnswer b) p = let one : b ≡ a = cc in ap HostAnswer one
host-answer a Switch p = cc
host-answer a Nothing p = cc

turned-leads : (j : List Entry) (u x : Node) (p i : ℤ) → Leads j u p x i → Leads j x i u p
turned-leads j u x p i (onward a b is) = back a b is
turned-leads j u x p i (back a b is) = onward a b is
turned-leads j u x p i (out a) = home a
turned-leads j u x p i (home a) = out a

front-leads : (j : List Entry) (u : Node) (p : ℤ) (w : List ℤ) → IsNode j u → IsNode j (Reached w) → IsInFront u p w → Leads j u p (Reached w) (pos 0)
front-leads j u p w node own (of_mapper a b c) =
    subst (λ v. Leads j u p (Reached v) (pos 0)) (sym c) (subst (λ q. Leads j u q (Reached []) (pos 0)) (sym b) (subst (λ x. Leads j x (pos 0) (Reached []) (pos 0)) (sym a) (out (subst (λ v. IsNode j (Reached v)) c own))))
front-leads j u p w node own (of_node v a b) = subst (λ x. Leads j x p (Reached w) (pos 0)) (sym a) (onward (subst (λ x. IsNode j x) a node) own b)

module _ (host : ℕ) (j : List Entry) (once : IsJournal j) (ns : List Node) (numbered : ns ≡ nodes j) where
  node-of : (m : ℕ) → m < length ns → IsNode j (node_at ns m)
  node-of m l = subst (λ (ms : List Node). m < length ms → IsNode j (node_at ms m)) (sym numbered) (at-node j once m) l

  -- the own ways of an entry are ways of the journal
  pub own-way : (k : ℕ) (e : Entry) (n : ℕ) → slice_get j k ≡ Some e → n < length ns → node_at ns n ≡ Reached e.walk → (w : Way) → IsOwnWay ns e n w → IsWay host j ns w
  own-way k e n at below is w (of_host a h q) =
      subst (λ x. IsWay host j ns x) (sym q) (below, ap (host_of host j) is ∙ ap host_in (answered-at j k e once at) ∙ ap (λ x. host_in (Some x)) h)
  own-way k e n at below is w (from_front m p l f q) =
      let leads = front-leads j (node_at ns m) p e.walk (node-of m l) (subst (λ u. IsNode j u) is (node-of n below)) f in
      subst (λ x. IsWay host j ns x) (sym q) (l, below, subst (λ x. Leads j (node_at ns m) p x (pos 0)) (sym is) leads)
  own-way k e n at below is w (to_front m p l f q) =
      let leads = front-leads j (node_at ns m) p e.walk (node-of m l) (subst (λ u. IsNode j u) is (node-of n below)) f in
      subst (λ x. IsWay host j ns x) (sym q) (below, l, subst (λ x. Leads j x (pos 0) (node_at ns m) p) (sym is) (turned-leads j (node_at ns m) (Reached e.walk) p (pos 0) leads))

  -- and each way of the journal is one of them, or the mapper's
  module _ (t : Joined) (own : HasOwnWays host j ns (length j) t) where
    has-own : (n : ℕ) (w : List ℤ) (v : Way) → n < length ns → node_at ns n ≡ Reached w → ((e : Entry) → e.walk ≡ w → answered j w ≡ Some e.answer → IsOwnWay ns e n v) → Has own.ways v
    has-own n w v l is make =
        let x = entry-of j w (subst (λ u. IsNode j u) is (node-of n l)) in
        own.own x.place x.entry n v (slice_get_within j x.place x.entry x.there) x.there l (is ∙ ap Reached (sym x.walk)) (make x.entry x.walk x.answer)

    has-host : (n a : ℕ) (u : Node) → n < length ns → node_at ns n ≡ u → host_of host j u ≡ Some a → Has own.ways (Host a n)
    has-host n a Mapper l is h =
        let same : host ≡ a = cc in
        let first : node_at ns 0 ≡ Mapper = ap (λ (ms : List Node). node_at ms 0) numbered in
        let some : 0 < length ns = (let c : length ns ≡ suc (length (reached j)) = ap length numbered in omega arith) in
        let zero : n ≡ 0 = once-of j ns numbered once n 0 l some (is ∙ sym first) in
        subst (λ k. Has own.ways (Host a k)) (sym zero) (subst (λ b. Has own.ways (Host b 0)) same own.mapper)
    has-host n a (Reached w) l is h = has-own n w (Host a n) l is (λ e q s. of_host a (host-answer a e.answer (ap host_in (sym s) ∙ h)) refl)

    has-cable : (m n : ℕ) (p i : ℤ) (u v : Node) → m < length ns → n < length ns → node_at ns m ≡ u → node_at ns n ≡ v → Leads j u p v i → Has own.ways (Cable m p n i)
    has-cable m n p i u v l r a b (onward {w = w} {x = x} {p = s} c d is) = has-own n x (Cable m p n i) r b (λ e q f. from_front m p l (of_node w a (q ∙ is)) refl)
    has-cable m n p i u v l r a b (back {w = w} {x = x} {p = s} c d is) = has-own m x (Cable m p n i) l a (λ e q f. to_front n i r (of_node w b (q ∙ is)) refl)
    has-cable m n p i u v l r a b (out c) = has-own n [] (Cable m p n i) r b (λ e q f. from_front m p l (of_mapper a refl q) refl)
    has-cable m n p i u v l r a b (home c) = has-own m [] (Cable m p n i) l a (λ e q f. to_front n i r (of_mapper b refl q) refl)

    are-all : AreWays host j ns own.ways
    are-all = record {
      each = own.settled.knows.ways;
      hosts = λ n a l h. has-host n a (node_at ns n) l refl h;
      cables = λ m n p i l r leads. has-cable m n p i (node_at ns m) (node_at ns n) l r refl refl leads;
    }

    module _ (room : Joined) (same : SameItems t room) where
      opened : IsSettlingIn host j j ns own.ways room room.todo.items
      opened = subst (λ (l : List Meeting). IsSettlingIn host j j ns own.ways room l) (sym same.todo) (settling-room host j j ns own.ways t room t.todo.items same own.settled)

      pub all-some : IsSettlingSome ns room room.todo.items
      all-some = record { host = host; journal = j; asks = j; ways = own.ways; is = opened }

      -- once no pair is open
      pub all-settled : (new : Joined) → KeepsSettling ns room room.todo.items new [] → new.todo.items ≡ [] → HasAllWays host j ns new
      all-settled new keeps closed = record { once = once; ways = own.ways; are = are-all; settled = keeps host j j own.ways opened; closed = closed }

  -- before the first entry
  pub ways-alone : (t : Joined) → HasOwnNodes host j (length j) t → HasOwnWays host j ns 0 t
  ways-alone t own = record {
    ways = Host host 0 ∷ [];
    settled = subst (λ (l : List Meeting). IsSettlingIn host j j ns (Host host 0 ∷ []) t l) (sym own.closed) settled;
    names = names-few host j j ns (Host host 0 ∷ []) t.frames.items t.ends.items t.hosts.items t.heads.heads.items t.heads.names.items t.heads.marks.items settled;
    mapper = record { place = 0; there = refl };
    own = λ k e n w l at b is o. absurd (omega arith);
  }
    where
      settled : IsSettlingIn host j j ns (Host host 0 ∷ []) t []
      settled = subst (λ (ms : List Node). IsSettlingIn host j j ms (Host host 0 ∷ []) t []) (ap (λ (l : List Entry). nodes l) (take-all j) ∙ sym numbered) own.settled

-- one entry more
module _ (host : ℕ) (j : List Entry) (once : IsJournal j) (walks : List (List ℤ)) (numbered : nodes_of walks ≡ nodes j) (k : ℕ) (e : Entry) (at : slice_get j k ≡ Some e) (t : Joined) (own : HasOwnWays host j (nodes_of walks) k t) where
  abbrev ns : List Node
  ns = nodes_of walks

  -- of the entries before it, and of itself
  split : (i : ℕ) → i < k + 1 → (i < k) ⊎ (i ≡ k)
  split i l = by (cases_eq i k)
    where
      by : (i ≡ k) ⊎ (i ≢ k) → (i < k) ⊎ (i ≡ k)
      by (inl q) = inr q
      by (inr d) = inl (omega arith)

  same-entry : (i : ℕ) (x : Entry) → i ≡ k → slice_get j i ≡ Some x → x ≡ e
  same-entry i x q g = let both : Some x ≡ Some e = sym g ∙ ap (slice_get j) q ∙ at in let one : x ≡ e = cc in one

  -- that found nothing
  pub ways-same : has_walk walks e.walk ≡ false → HasOwnWays host j ns (k + 1) t
  ways-same none = record { ways = own.ways; settled = own.settled; names = own.names; mapper = own.mapper; own = λ i x n w l g b is o. by i x n w g b is o (split i l) }
    where
      by : (i : ℕ) (x : Entry) (n : ℕ) (w : Way) → slice_get j i ≡ Some x → n < length ns → node_at ns n ≡ Reached x.walk → IsOwnWay ns x n w → (i < k) ⊎ (i ≡ k) → Has own.ways w
      by i x n w g b is o (inl l) = own.own i x n w l g b is o
      by i x n w g b is o (inr q) =
          let walked = node-walk walks n e.walk b (is ∙ ap (λ (y : Entry). Reached y.walk) (same-entry i x q g)) in
          absurd (no-walk walks e.walk none walked.place walked.walk)

  -- whose node has this number
  module _ (n : ℕ) (below : n < length ns) (is : node_at ns n ≡ Reached e.walk) (more : List Way) (news : AreOwnWays ns e n more) (room : Joined) (same : SameItems t room) where
    opened-there : IsSettlingIn host j j ns own.ways room room.todo.items
    opened-there = subst (λ (l : List Meeting). IsSettlingIn host j j ns own.ways room l) (sym same.todo) (settling-room host j j ns own.ways t room t.todo.items same own.settled)

    each-own : (w : Way) → Has more w → IsWay host j ns w
    each-own w h = own-way host j once ns numbered k e n at below is w (news.only w h)

    pub ways-may : MayAddWays ns room more
    ways-may = record { host = host; journal = j; asks = j; ways = own.ways; is = opened-there; each = each-own }

    pub ways-next : (new : Joined) → AddsWays ns more room new → new.heads ≡ room.heads → HasOwnWays host j ns (k + 1) new
    ways-next new added heads = record {
      ways = own.ways ++ more;
      settled = added host j j own.ways opened-there each-own;
      names = (let s : length new.heads.names.items ≡ length t.heads.names.items = ap (λ (h : Heads). length h.names.items) heads ∙ ap length same.names in let f = own.names in omega arith);
      mapper = keeps own.ways more (Host host 0) own.mapper;
      own = λ i x m w l g b q o. by i x m w g b q o (split i l);
    }
      where
        by : (i : ℕ) (x : Entry) (m : ℕ) (w : Way) → slice_get j i ≡ Some x → m < length ns → node_at ns m ≡ Reached x.walk → IsOwnWay ns x m w → (i < k) ⊎ (i ≡ k) → Has (own.ways ++ more) w
        by i x m w g b q o (inl l) = keeps own.ways more w (own.own i x m w l g b q o)
        by i x m w g b q o (inr s) =
            let one = same-entry i x s g in
            let number : m ≡ n = once-of j ns numbered once m n b below (q ∙ ap (λ (y : Entry). Reached y.walk) one ∙ sym is) in
            adds own.ways more w (news.all w (subst (λ a. IsOwnWay ns e a w) number (subst (λ (y : Entry). IsOwnWay ns y m w) one o)))
