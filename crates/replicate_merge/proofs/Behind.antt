-- The ways that an entry adds, part by part, and how many turns behind it are known.
use Rattle.std.proofs.Common.{◌≡◌, ◌≢◌, ◌<◌, ◌≤◌, ◌⊎◌, inl, inr, ℕ, zero, suc, ◌+◌, ◌-◌, List, [], ◌∷◌, ◌++◌, Bool, true, false, length, take, Option, Some, None, refl, ap, sym, ◌∙◌, subst, true≢false, arith, length-append, if◌then◌else◌}
use Rattle.std.specs.Prelude.{ℤ, pos, ◌+ℤ◌, ◌-ℤ◌, nat_abs, slice_get}
use Rattle.std.specs.Ordering.{int_eq}
use Rattle.std.proofs.lemmas.Bool.{cases_eq, false≢true}
use Rattle.std.proofs.lemmas.Bool.Decides.{Decides-int_eq}
use Rattle.net_defs.specs.declared.place.Answer.{Answer}
use Rattle.net_defs.specs.declared.place.Answer.TheVariants.{Host as HostAnswer, Switch, Nothing}
use Rattle.net_defs.specs.Turn.{IsTurn}
use Rattle.journal_defs.specs.Counting.{numbers_below}
use Rattle.journal_defs.specs.Tree.{Node}
use Rattle.journal_defs.specs.Tree.Node.{Reached}
use Rattle.journal_defs.specs.Walks.{onward_turns}
use Rattle.journal_defs.specs.declared.entry.Entry.{Entry}
use Rattle.journal_defs.proofs.Members.{member-passes, number-member}
use Rattle.probe.specs.Keeping.{has_walk}
use Rattle.replicate_merge.specs.declared.way.Way.{Way}
use Rattle.replicate_merge.specs.declared.way.Way.TheVariants.{Host, Cable}
use Rattle.replicate_merge.specs.Behind.{AddsBehind}
use Rattle.replicate_merge.specs.Behind.AddsBehind.{is_there, is_none}
use Rattle.replicate_merge.specs.Longer.{IsInFront, IsNewWay}
use Rattle.replicate_merge.specs.Longer.IsInFront.{of_mapper, of_node}
use Rattle.replicate_merge.specs.Longer.IsNewWay.{of_host, from_front, to_front, to_behind, from_behind}
use Rattle.replicate_merge.specs.Cables.{AddsCables, both_ways, host_ways}
use Rattle.replicate_merge.specs.Nodes.{nodes_of}
use Rattle.replicate_merge.specs.Own.{AreOwnWays, IsOwnWay}
use Rattle.replicate_merge.specs.Own.IsOwnWay.{of_host as own_host, from_front as own_from, to_front as own_to}
use Rattle.replicate_merge.specs.Cables.AddsCables.{from_mapper, from_node, from_none}
use Rattle.replicate_merge.specs.Onward.{AddsBelow, AreNewWays, AreOnce, IsBehind, is_known, known_among}
use Rattle.replicate_merge.specs.Onward.IsBehind.{down, up}
use Rattle.replicate_merge.specs.Ways.{Has, node_at}
use Rattle.replicate_merge.proofs.Moving.{shift}
use Rattle.replicate_merge.proofs.Telling.{adds, either, first-of, keeps, last-turn, no-walk, no-way, node-walk, not-empty, one-of, second-of, two-of, walk-node}

abbrev is_turn_there : Option ℤ → ℤ → Bool
is_turn_there None t = false
is_turn_there (Some s) t = int_eq s t

turn-there : (o : Option ℤ) (t : ℤ) → is_turn_there o t ≡ true → o ≡ Some t
turn-there None t e = absurd (false≢true e)
turn-there (Some s) t e = ap (λ r. Some r) ((Decides-int_eq s t).0 e)

-- the turns above 0 by their places
late : (m : ℕ) → m < 15 → slice_get onward_turns (m + 15) ≡ Some (pos (m + 15 + 1) -ℤ pos 15)
late m l = turn-there (slice_get onward_turns (m + 15)) (pos (m + 15 + 1) -ℤ pos 15) (member-passes (λ k. is_turn_there (slice_get onward_turns (k + 15)) (pos (k + 15 + 1) -ℤ pos 15)) m (numbers_below 15) refl (number-member 15 m l))

pub onward-late : (k : ℕ) → 15 ≤ k → k < 30 → slice_get onward_turns k ≡ Some (pos (k + 1) -ℤ pos 15)
onward-late k low high = subst (λ n. slice_get onward_turns n ≡ Some (pos (n + 1) -ℤ pos 15)) (let s : k - 15 + 15 ≡ k = omega arith in s) (late (k - 15) (omega arith))

-- one turn more
pub known-step : (walks orphans : List (List ℤ)) (w ts : List ℤ) (i : ℕ) (t : ℤ) → slice_get ts i ≡ Some t → known_among walks orphans w (take (i + 1) ts) ≡ known_among walks orphans w (take i ts) + (if is_known walks orphans (w ++ t ∷ []) then 1 else 0)
known-step walks orphans w ts i t e = ap (λ k. known_among walks orphans w (take k ts)) (let s : i + 1 ≡ suc i = omega arith in s) ∙ by ts i e
  where
    one : ℤ → ℕ
    one s = if is_known walks orphans (w ++ s ∷ []) then 1 else 0

    by : (us : List ℤ) (k : ℕ) → slice_get us k ≡ Some t → known_among walks orphans w (take (suc k) us) ≡ known_among walks orphans w (take k us) + one t
    by [] k f = cc
    by (u ∷ us) zero f = let same : u ≡ t = cc in ap (λ s. one s + 0) same ∙ (let z : one t + 0 ≡ 0 + one t = omega arith in z)
    by (u ∷ us) (suc k) f = ap (λ n. one u + n) (by us k f) ∙ (let z : one u + (known_among walks orphans w (take k us) + one t) ≡ one u + known_among walks orphans w (take k us) + one t = omega arith in z)

pub take-whole : (ts : List ℤ) → take (length ts) ts ≡ ts
take-whole [] = refl
take-whole (t ∷ ts) = ap (λ l. t ∷ l) (take-whole ts)

-- the ways to the nodes behind, turn by turn
pub below-none : (ns : List Node) (walk : List ℤ) (n : ℕ) (ways : List Way) → AddsBelow ns walk n 0 ways ways
below-none ns walk n ways = record { few = omega arith; kept = λ w h. h; only = λ w h. inl h; all = λ k l w b. absurd (omega arith) }

module _ (walks : List (List ℤ)) (once : AreOnce (nodes_of walks)) (walk : List ℤ) (n : ℕ) where
  abbrev ns : List Node
  ns = nodes_of walks

  -- the node of a walk has one number
  pub one-number : (at x : ℕ) (v : List ℤ) → slice_get walks at ≡ Some v → x < length ns → node_at ns x ≡ Reached v → x ≡ at + 1
  one-number at x v e l q = let there = walk-node walks at v e in once x (at + 1) l there.0 (q ∙ sym there.1)

  no-number : (v : List ℤ) → has_walk walks v ≡ false → (x : ℕ) → x < length ns → node_at ns x ≡ Reached v → ⊥
  no-number v none x l q = let w = node-walk walks x v l q in no-walk walks v none w.place w.walk

  pub below-next : (k : ℕ) (t : ℤ) (old mid new : List Way) → t ≡ pos k -ℤ pos 15 → AddsBehind walks walk t n mid new → AddsBelow ns walk n k old mid → AddsBelow ns walk n (k + 1) old new
  below-next k t old mid new is (is_none none same) b = record {
    few = (let f = b.few in let c : length new ≡ length mid = ap length same in omega arith);
    kept = λ w h. subst (λ (ws : List Way). Has ws w) (sym same) (b.kept w h);
    only = λ w h. b.only w (subst (λ (ws : List Way). Has ws w) same h);
    all = λ m l w behind. subst (λ (ws : List Way). Has ws w) (sym same) (by m l w behind (cases_eq m k));
  }
    where
      by : (m : ℕ) → m < k + 1 → (w : Way) → IsBehind ns walk n (pos m -ℤ pos 15) w → (m ≡ k) ⊎ (m ≢ k) → Has mid w
      by m l w behind (inr d) = b.all m (omega arith) w behind
      by m l w (down x i q r) (inl e) = absurd (no-number (walk ++ t ∷ []) none x i (q ∙ ap (λ s. Reached (walk ++ s ∷ [])) (ap (λ y. pos y -ℤ pos 15) e ∙ sym is)))
      by m l w (up x i q r) (inl e) = absurd (no-number (walk ++ t ∷ []) none x i (q ∙ ap (λ s. Reached (walk ++ s ∷ [])) (ap (λ y. pos y -ℤ pos 15) e ∙ sym is)))
  below-next k t old mid new is (is_there at there added) b = record {
    few = (let f = b.few in let c : length new ≡ length (mid ++ both_ways n t (at + 1)) = ap length added in let d = length-append mid (both_ways n t (at + 1)) in omega arith);
    kept = λ w h. from w (keeps mid (both_ways n t (at + 1)) w (b.kept w h));
    only = λ w h. which w (either mid (both_ways n t (at + 1)) w (subst (λ (ws : List Way). Has ws w) added h));
    all = λ m l w behind. by m l w behind (cases_eq m k);
  }
    where
      from : (w : Way) → Has (mid ++ both_ways n t (at + 1)) w → Has new w
      from w h = subst (λ (ws : List Way). Has ws w) (sym added) h

      node : (at + 1 < length ns) × (node_at ns (at + 1) ≡ Reached (walk ++ t ∷ []))
      node = walk-node walks at (walk ++ t ∷ []) there

      which : (w : Way) → Has mid w ⊎ Has (both_ways n t (at + 1)) w → Has old w ⊎ ((p : ℤ) × IsBehind ns walk n p w)
      which w (inl h) = b.only w h
      which w (inr h) = one (two-of (Cable n t (at + 1) (pos 0)) (Cable (at + 1) (pos 0) n t) w h)
        where
          one : (w ≡ Cable n t (at + 1) (pos 0)) ⊎ (w ≡ Cable (at + 1) (pos 0) n t) → Has old w ⊎ ((p : ℤ) × IsBehind ns walk n p w)
          one (inl e) = inr (t, down (at + 1) node.0 node.1 e)
          one (inr e) = inr (t, up (at + 1) node.0 node.1 e)

      turn : (m : ℕ) → m ≡ k → pos m -ℤ pos 15 ≡ t
      turn m e = ap (λ y. pos y -ℤ pos 15) e ∙ sym is

      by : (m : ℕ) → m < k + 1 → (w : Way) → IsBehind ns walk n (pos m -ℤ pos 15) w → (m ≡ k) ⊎ (m ≢ k) → Has new w
      by m l w behind (inr d) = from w (keeps mid (both_ways n t (at + 1)) w (b.all m (omega arith) w behind))
      by m l w (down x i q r) (inl e) =
          let number = one-number at x (walk ++ t ∷ []) there i (q ∙ ap (λ s. Reached (walk ++ s ∷ [])) (turn m e)) in
          from w (adds mid (both_ways n t (at + 1)) w (subst (λ v. Has (both_ways n t (at + 1)) v) (sym (r ∙ (λ j. Cable n (turn m e j) (number j) (pos 0)))) (first-of (Cable n t (at + 1) (pos 0)) (Cable (at + 1) (pos 0) n t))))
      by m l w (up x i q r) (inl e) =
          let number = one-number at x (walk ++ t ∷ []) there i (q ∙ ap (λ s. Reached (walk ++ s ∷ [])) (turn m e)) in
          from w (adds mid (both_ways n t (at + 1)) w (subst (λ v. Has (both_ways n t (at + 1)) v) (sym (r ∙ (λ j. Cable (number j) (pos 0) n (turn m e j)))) (second-of (Cable n t (at + 1) (pos 0)) (Cable (at + 1) (pos 0) n t))))

module _ (walks : List (List ℤ)) (once : AreOnce (nodes_of walks)) (e : Entry) (n : ℕ) (hosts ways : List Way) (is_hosts : hosts ≡ [] ++ host_ways (Some e.answer) n) (cables : AddsCables walks e.walk n hosts ways) where
  abbrev nodes : List Node
  nodes = nodes_of walks

  host-only : (a : Answer) → e.answer ≡ a → (w : Way) → Has ([] ++ host_ways (Some a) n) w → IsOwnWay nodes e n w
  host-only (HostAnswer h) is w there = own_host h is (one-of (Host h n) w there)
  host-only Switch is w there = absurd (no-way w there)
  host-only Nothing is w there = absurd (no-way w there)

  host-few : (a : Answer) → length ([] ++ host_ways (Some a) n) ≤ 1
  host-few (HostAnswer h) = omega arith
  host-few Switch = omega arith
  host-few Nothing = omega arith

  hosts-only : (w : Way) → Has hosts w → IsOwnWay nodes e n w
  hosts-only w h = host-only e.answer refl w (subst (λ (ws : List Way). Has ws w) is_hosts h)

  hosts-few : length hosts ≤ 1
  hosts-few = let c : length hosts ≡ length ([] ++ host_ways (Some e.answer) n) = ap length is_hosts in let f = host-few e.answer in omega arith

  hosts-there : (a : ℕ) (w : Way) → e.answer ≡ HostAnswer a → w ≡ Host a n → Has hosts w
  hosts-there a w is q =
      let same : hosts ≡ Host a n ∷ [] = is_hosts ∙ ap (λ x. [] ++ host_ways (Some x) n) is in
      subst (λ (ws : List Way). Has ws w) (sym same) (subst (λ v. Has (Host a n ∷ []) v) (sym q) (record { place = 0; there = refl }))

  -- the cables to the node in front
  record AreFrontWays : Type 0 where
    pub few : length ways ≤ 3
    pub only : (w : Way) → Has ways w → IsOwnWay nodes e n w
    pub hosts_kept : (w : Way) → Has hosts w → Has ways w
    pub from : (m : ℕ) (p : ℤ) (w : Way) → m < length nodes → IsInFront (node_at nodes m) p e.walk → w ≡ Cable m p n (pos 0) → Has ways w
    pub to : (m : ℕ) (p : ℤ) (w : Way) → m < length nodes → IsInFront (node_at nodes m) p e.walk → w ≡ Cable n (pos 0) m p → Has ways w

  -- with both ways of one cable
  both : (f : ℕ) (t : ℤ) → ways ≡ hosts ++ both_ways f t n → f < length nodes → IsInFront (node_at nodes f) t e.walk → ((m : ℕ) (p : ℤ) → m < length nodes → IsInFront (node_at nodes m) p e.walk → (m ≡ f) × (p ≡ t)) → AreFrontWays
  both f t is below front one = record {
    few = (let c : length ways ≡ length (hosts ++ both_ways f t n) = ap length is in let d = length-append hosts (both_ways f t n) in let g = hosts-few in omega arith);
    only = λ w h. which w (either hosts (both_ways f t n) w (subst (λ (ws : List Way). Has ws w) is h));
    hosts_kept = λ w h. back w (keeps hosts (both_ways f t n) w h);
    from = λ m p w l x q. back w (adds hosts (both_ways f t n) w (subst (λ v. Has (both_ways f t n) v) (sym (q ∙ (λ i. Cable ((one m p l x).0 i) ((one m p l x).1 i) n (pos 0)))) (first-of (Cable f t n (pos 0)) (Cable n (pos 0) f t))));
    to = λ m p w l x q. back w (adds hosts (both_ways f t n) w (subst (λ v. Has (both_ways f t n) v) (sym (q ∙ (λ i. Cable n (pos 0) ((one m p l x).0 i) ((one m p l x).1 i)))) (second-of (Cable f t n (pos 0)) (Cable n (pos 0) f t))));
  }
    where
      back : (w : Way) → Has (hosts ++ both_ways f t n) w → Has ways w
      back w h = subst (λ (ws : List Way). Has ws w) (sym is) h

      which : (w : Way) → Has hosts w ⊎ Has (both_ways f t n) w → IsOwnWay nodes e n w
      which w (inl h) = hosts-only w h
      which w (inr h) = by (two-of (Cable f t n (pos 0)) (Cable n (pos 0) f t) w h)
        where
          by : (w ≡ Cable f t n (pos 0)) ⊎ (w ≡ Cable n (pos 0) f t) → IsOwnWay nodes e n w
          by (inl q) = own_from f t below front q
          by (inr q) = own_to f t below front q

  front-ways : AddsCables walks e.walk n hosts ways → AreFrontWays
  front-ways (from_mapper empty is) = both 0 (pos 0) is (omega arith) (of_mapper refl refl empty) one
    where
      one : (m : ℕ) (p : ℤ) → m < length nodes → IsInFront (node_at nodes m) p e.walk → (m ≡ 0) × (p ≡ pos 0)
      one m p l (of_mapper a b c) = (once m 0 l (omega arith) a, b)
      one m p l (of_node v a b) = absurd (not-empty v p (sym b ∙ empty))
  front-ways (from_node front t at split there is) = both (at + 1) t is node.0 (of_node front node.1 split) one
    where
      node : (at + 1 < length nodes) × (node_at nodes (at + 1) ≡ Reached front)
      node = walk-node walks at front there

      one : (m : ℕ) (p : ℤ) → m < length nodes → IsInFront (node_at nodes m) p e.walk → (m ≡ at + 1) × (p ≡ t)
      one m p l (of_mapper a b c) = absurd (not-empty front t (sym split ∙ c))
      one m p l (of_node v a b) = let last = last-turn v front p t (sym b ∙ split) in (once m (at + 1) l node.0 (a ∙ ap Reached last.0 ∙ sym node.1), last.1)
  front-ways (from_none front t split none is) = record {
    few = (let c : length ways ≡ length hosts = ap length is in let g = hosts-few in omega arith);
    only = λ w h. hosts-only w (subst (λ (ws : List Way). Has ws w) is h);
    hosts_kept = λ w h. subst (λ (ws : List Way). Has ws w) (sym is) h;
    from = λ m p w l x q. absurd (never m p l x);
    to = λ m p w l x q. absurd (never m p l x);
  }
    where
      never : (m : ℕ) (p : ℤ) → m < length nodes → IsInFront (node_at nodes m) p e.walk → ⊥
      never m p l (of_mapper a b c) = not-empty front t (sym split ∙ c)
      never m p l (of_node v a b) =
          let last = last-turn v front p t (sym b ∙ split) in
          let walked = node-walk walks m front l (a ∙ ap Reached last.0) in
          no-walk walks front none walked.place walked.walk

  abbrev front : AreFrontWays
  front = front-ways cables

  -- the own ways of the entry
  pub own-ways : AreOwnWays nodes e n ways
  own-ways = record { few = front.few; only = front.only; all = λ w o. there w o }
    where
      there : (w : Way) → IsOwnWay nodes e n w → Has ways w
      there w (own_host a is q) = front.hosts_kept w (hosts-there a w is q)
      there w (own_from m p l x q) = front.from m p w l x q
      there w (own_to m p l x q) = front.to m p w l x q

-- the ways that an entry adds: its own, and those to nodes behind
module _ (walks : List (List ℤ)) (e : Entry) (n : ℕ) (ways : List Way) (own : AreOwnWays (nodes_of walks) e n ways) where
  abbrev ms : List Node
  ms = nodes_of walks

  own-new : (w : Way) → IsOwnWay ms e n w → IsNewWay ms e n w
  own-new w (own_host a is q) = of_host a is q
  own-new w (own_from m p l x q) = from_front m p l x q
  own-new w (own_to m p l x q) = to_front m p l x q

  others : (new : List Way) → ((w : Way) → Has ways w → Has new w) → (w : Way) → IsNewWay ms e n w → Has new w ⊎ ((p : ℤ) × IsBehind ms e.walk n p w)
  others new more w (of_host a is q) = inl (more w (own.all w (own_host a is q)))
  others new more w (from_front m p l x q) = inl (more w (own.all w (own_from m p l x q)))
  others new more w (to_front m p l x q) = inl (more w (own.all w (own_to m p l x q)))
  others new more w (to_behind x p l at q) = inr (p, down x l at q)
  others new more w (from_behind x p l at q) = inr (p, up x l at q)

  -- without nodes behind
  pub ways-plain : AreNewWays ms e n false ways
  ways-plain = record {
    few = (let f = own.few in omega arith);
    only = λ w h. own-new w (own.only w h);
    behind = λ a p w t b. absurd (true≢false (sym a));
    others = others ways (λ w h. h);
  }

  behind-new : (p : ℤ) (w : Way) → IsBehind ms e.walk n p w → IsNewWay ms e n w
  behind-new p w (down x l at q) = to_behind x p l at q
  behind-new p w (up x l at q) = from_behind x p l at q

  place-of : (p : ℤ) → IsTurn p → (k : ℕ) × (k < 31) × (pos k -ℤ pos 15 ≡ p)
  place-of p t = let s = shift p t in (nat_abs (p +ℤ pos 15), s.0, sym s.1)

  -- with each node behind
  pub ways-ahead : (all : List Way) → AddsBelow ms e.walk n 31 ways all → AreNewWays ms e n true all
  ways-ahead all b = record {
    few = (let f = own.few in let g = b.few in omega arith);
    only = λ w h. by w (b.only w h);
    behind = λ a p w t x. (let k = place-of p t in b.all k.0 k.1 w (subst (λ q. IsBehind ms e.walk n q w) (sym k.2) x));
    others = others all b.kept;
  }
    where
      by : (w : Way) → Has ways w ⊎ ((p : ℤ) × IsBehind ms e.walk n p w) → IsNewWay ms e n w
      by w (inl h) = own-new w (own.only w h)
      by w (inr x) = behind-new x.0 w x.1
