-- The classes before the first ask: the mapper's host is one.
use Rattle.std.proofs.Common.{◌≡◌, ◌<◌, ℕ, zero, suc, List, [], ◌∷◌, ◌++◌, Bool, true, false, length, Option, Some, None, refl, ap, sym, ◌∙◌, subst, arith, if◌then◌else◌}
use Rattle.std.specs.Prelude.{ℤ, slice_get}
use Rattle.std.proofs.lemmas.Bool.{false≢true}
use Rattle.net_defs.specs.Turn.{is_turn}
use Rattle.net_defs.specs.Examples.{two_hosts}
use Rattle.net_defs.proofs.TwoHosts.{two_hosts_fabric}
use Rattle.journal_defs.specs.declared.entry.Entry.{Entry}
use Rattle.journal_defs.specs.Replicates.{Replicates}
use Rattle.journal_defs.specs.Replicates.Replicates.{same}
use Rattle.journal_defs.specs.Tree.{Node, Leads, host_of, node_below}
use Rattle.journal_defs.specs.Tree.Node.{Mapper, Reached}
use Rattle.journal_defs.specs.Tree.Leads.{onward, back, out, home}
use Rattle.port_align.specs.declared.frame.ClassFrame.{ClassFrame}
use Rattle.replicate_merge.specs.declared.heads.Head.{Head}
use Rattle.replicate_merge.specs.declared.meeting.HostNode.{HostNode}
use Rattle.replicate_merge.specs.declared.meeting.Meeting.{Meeting}
use Rattle.port_align.specs.declared.end.NodePort.{NodePort}
use Rattle.replicate_merge.specs.declared.settling.Joined.{Joined}
use Rattle.replicate_merge.specs.declared.way.Spot.{Spot}
use Rattle.replicate_merge.specs.declared.way.Spot.TheVariants.{Address, Port}
use Rattle.replicate_merge.specs.declared.way.Way.TheVariants.{Host}
use Rattle.replicate_merge.specs.Adding.{AddsEnd, known_at}
use Rattle.replicate_merge.specs.Adding.AddsEnd.{is_learnt, is_met}
use Rattle.replicate_merge.specs.Asked.{CountsAsked, asked_turns}
use Rattle.replicate_merge.specs.Heads.{MarksNames, head_at, own_head}
use Rattle.replicate_merge.specs.Kept.{IsKept, IsShaped}
use Rattle.replicate_merge.specs.AtOnce.{IsHostAlone}
use Rattle.replicate_merge.specs.Seen.{class_table, kept_of}
use Rattle.port_align.specs.Ends.{AddsPlaces}
use Rattle.replicate_merge.specs.Rounds.{IsSettling, IsSettlingIn}
use Rattle.replicate_merge.specs.Steps.{AddsNode, HasNoNodes, SameItems}
use Rattle.replicate_merge.specs.Table.{IsTable, StandsFor}
use Rattle.replicate_merge.specs.Truth.{IsTrueOfOne}
use Rattle.replicate_merge.specs.Ways.{AreWays, Has, IsWay, frame_at, node_at, own_frame}
use Rattle.replicate_merge.specs.Work.{far_end}
use Rattle.replicate_merge.proofs.Added.{known-placed}
use Rattle.replicate_merge.proofs.Lists.{nothing-among}
use Rattle.replicate_merge.proofs.Shapes.{shape-kept, table-kept}
use Rattle.replicate_merge.proofs.Rounds.{kept-stands}
use Rattle.replicate_merge.proofs.Telling.{no-way, one-of}
use Rattle.replicate_merge.proofs.Waying.{way-added}

-- without entries any fabric will do
pub true_of_none : (host : ℕ) → IsTrueOfOne host []
true_of_none host = record { fabric = two_hosts; is_fabric = two_hosts_fabric; told = tt }

no-ends : (p : ℤ) (b : Bool) → is_turn p ≡ b → ◌≡◌ {A = Option NodePort} (if b then None else None) None
no-ends p true e = refl
no-ends p false e = refl

none-known : (s : Spot) → known_at [] [] s ≡ None
none-known (Address a) = refl
none-known (Port c p) = no-ends p (is_turn p) refl

-- the tables of the mapper's host alone, without ways
base : (host : ℕ) (j : List Entry) → IsTrueOfOne host j → (ends : List (Option NodePort)) → AddsPlaces [] ends → IsSettling host j j (Mapper ∷ []) [] (own_frame 0 ∷ []) ends [] [] (own_head 0 0 ∷ []) (0 ∷ []) (false ∷ [])
base host j truth ends adds = record {
  truth = truth;
  knows = record {
    ways = λ w h. absurd (no-way w h);
    sound = record { framed = refl; placed = placed; rooted = rooted; replicates = replicates };
    told = λ s e h. absurd (none s e h);
    meet = λ m a. absurd (nothing-among m a);
    seen = λ g a w h. absurd (no-way w h);
  };
  heads = record { named = named; name = name; inside = inside; based = based; least = least };
  headed = refl;
  table = (let m = adds.more in omega arith);
  counted = refl;
  marked = marked;
}
  where
    placed : (n : ℕ) → n < 1 → (frame_at (own_frame 0 ∷ []) n).class < 1
    placed zero l = omega arith
    placed (suc n) l = absurd (omega arith)

    rooted : (n : ℕ) → n < 1 → frame_at (own_frame 0 ∷ []) (frame_at (own_frame 0 ∷ []) n).class ≡ own_frame (frame_at (own_frame 0 ∷ []) n).class
    rooted zero l = refl
    rooted (suc n) l = absurd (omega arith)

    replicates : (n : ℕ) → n < 1 → Replicates host j (node_at (Mapper ∷ []) n) (node_at (Mapper ∷ []) (frame_at (own_frame 0 ∷ []) n).class) (frame_at (own_frame 0 ∷ []) n).offset
    replicates zero l = same refl
    replicates (suc n) l = absurd (omega arith)

    none : (s : Spot) (e : NodePort) → known_at [] ends s ≡ Some e → ⊥
    none s e h = let both : None ≡ Some e = sym (known-placed [] [] ends adds s ∙ none-known s) ∙ h in cc

    named : (n : ℕ) → n < 1 → slice_get (0 ∷ []) (head_at (own_head 0 0 ∷ []) (frame_at (own_frame 0 ∷ []) n).class).number ≡ Some (frame_at (own_frame 0 ∷ []) n).class
    named zero l = refl
    named (suc n) l = absurd (omega arith)

    name : (class n : ℕ) → slice_get (0 ∷ []) class ≡ Some n → (n < 1) × ((frame_at (own_frame 0 ∷ []) n).class ≡ n) × ((head_at (own_head 0 0 ∷ []) n).number ≡ class)
    name zero n e = let first : 0 ≡ n = cc in subst (λ k. (k < 1) × ((frame_at (own_frame 0 ∷ []) k).class ≡ k) × ((head_at (own_head 0 0 ∷ []) k).number ≡ 0)) first (omega arith, refl, refl)
    name (suc class) n e = cc

    inside : (n : ℕ) → n < 1 → (head_at (own_head 0 0 ∷ []) (frame_at (own_frame 0 ∷ []) n).class).least < 1
    inside zero l = omega arith
    inside (suc n) l = absurd (omega arith)

    based : (n : ℕ) → n < 1 → frame_at (own_frame 0 ∷ []) (head_at (own_head 0 0 ∷ []) (frame_at (own_frame 0 ∷ []) n).class).least ≡ record { class = (frame_at (own_frame 0 ∷ []) n).class; offset = (head_at (own_head 0 0 ∷ []) (frame_at (own_frame 0 ∷ []) n).class).base }
    based zero l = refl
    based (suc n) l = absurd (omega arith)

    least : (n : ℕ) → n < 1 → node_below (node_at (Mapper ∷ []) n) (node_at (Mapper ∷ []) (head_at (own_head 0 0 ∷ []) (frame_at (own_frame 0 ∷ []) n).class).least) ≡ false
    least zero l = refl
    least (suc n) l = absurd (omega arith)

    no-walk-there : (n : ℕ) (w : List ℤ) → n < 1 → node_at (Mapper ∷ []) n ≡ Reached w → ⊥
    no-walk-there zero w l e = cc
    no-walk-there (suc n) w l e = absurd (omega arith)

    marked : MarksNames j (Mapper ∷ []) (own_frame 0 ∷ []) (own_head 0 0 ∷ []) (false ∷ [])
    marked zero l = ((λ e. cc), (λ x. absurd (no-walk-there x.number x.walk x.below x.node)))
    marked (suc n) l = absurd (omega arith)

-- the tables with one node
record IsStart (t : Joined) : Type 0 where
  pub frames : t.frames.items ≡ own_frame 0 ∷ []
  pub ends : AddsPlaces [] t.ends.items
  pub heads : t.heads.heads.items ≡ own_head 0 0 ∷ []
  pub names : t.heads.names.items ≡ 0 ∷ []
  pub marks : t.heads.marks.items ≡ false ∷ []
  pub hosts : t.hosts.items ≡ []
  pub todo : t.todo.items ≡ []

start-of : (none one : Joined) → HasNoNodes none → AddsNode false none one → IsStart one
start-of none one h a = record {
  frames = a.frames ∙ ap (λ (l : List ClassFrame). l ++ own_frame (length l) ∷ []) h.frames;
  ends = subst (λ (l : List (Option NodePort)). AddsPlaces l one.ends.items) h.ends a.ends;
  heads = a.heads ∙ (λ i. h.heads i ++ own_head (length (h.names i)) (length (h.heads i)) ∷ []);
  names = a.names ∙ (λ i. h.names i ++ length (h.heads i) ∷ []);
  marks = a.marks ∙ ap (λ (l : List Bool). l ++ false ∷ []) h.marks;
  hosts = ap (λ v. v.items) a.hosts ∙ h.hosts;
  todo = ap (λ v. v.items) a.todo ∙ h.todo;
}

-- tables with other room have no nodes either
pub none-same : (old new : Joined) → HasNoNodes old → SameItems old new → HasNoNodes new
none-same old new h s = record {
  frames = s.frames ∙ h.frames;
  ends = s.ends ∙ h.ends;
  hosts = s.hosts ∙ h.hosts;
  todo = s.todo ∙ h.todo;
  heads = s.heads ∙ h.heads;
  names = s.names ∙ h.names;
  marks = s.marks ∙ h.marks;
}

start-settled : (host : ℕ) (j : List Entry) → IsTrueOfOne host j → (t : Joined) → IsStart t → IsSettlingIn host j j (Mapper ∷ []) [] t t.todo.items
start-settled host j truth t s =
    subst (λ (l : List Meeting). IsSettling host j j (Mapper ∷ []) [] t.frames.items t.ends.items t.hosts.items l t.heads.heads.items t.heads.names.items t.heads.marks.items) (sym s.todo)
    (subst (λ (l : List HostNode). IsSettling host j j (Mapper ∷ []) [] t.frames.items t.ends.items l [] t.heads.heads.items t.heads.names.items t.heads.marks.items) (sym s.hosts)
    (subst (λ (l : List Bool). IsSettling host j j (Mapper ∷ []) [] t.frames.items t.ends.items [] [] t.heads.heads.items t.heads.names.items l) (sym s.marks)
    (subst (λ (l : List ℕ). IsSettling host j j (Mapper ∷ []) [] t.frames.items t.ends.items [] [] t.heads.heads.items l (false ∷ [])) (sym s.names)
    (subst (λ (l : List Head). IsSettling host j j (Mapper ∷ []) [] t.frames.items t.ends.items [] [] l (0 ∷ []) (false ∷ [])) (sym s.heads)
    (subst (λ (l : List ClassFrame). IsSettling host j j (Mapper ∷ []) [] l t.ends.items [] [] (own_head 0 0 ∷ []) (0 ∷ []) (false ∷ [])) (sym s.frames) (base host j truth t.ends.items s.ends))))))

module _ (host : ℕ) (none one two : Joined) (h : HasNoNodes none) (a : AddsNode false none one) (adds : AddsEnd (Address host) (far_end (Host host 0)) (known_at one.hosts.items one.ends.items) (known_at two.hosts.items two.ends.items) one.todo.items two.todo.items) (frames : two.frames ≡ one.frames) (heads : two.heads ≡ one.heads) (ends : length two.ends.items ≡ length one.ends.items) where
  s : IsStart one
  s = start-of none one h a

  -- no pair is open
  start-closed : two.todo.items ≡ []
  start-closed = by adds
    where
      by : AddsEnd (Address host) (far_end (Host host 0)) (known_at one.hosts.items one.ends.items) (known_at two.hosts.items two.ends.items) one.todo.items two.todo.items → two.todo.items ≡ []
      by (is_learnt l kept) = kept ∙ s.todo
      by (is_met first old other met) = let both : None ≡ Some first = ap (λ (l : List HostNode). known_at l one.ends.items (Address host)) (sym s.hosts) ∙ old in cc

  settled : (j : List Entry) → IsTrueOfOne host j → IsSettlingIn host j j (Mapper ∷ []) (Host host 0 ∷ []) two []
  settled j truth = subst (λ (l : List Meeting). IsSettlingIn host j j (Mapper ∷ []) (Host host 0 ∷ []) two l) start-closed (way-added host j j (Mapper ∷ []) [] one two (Host host 0) (start-settled host j truth one s) (omega arith, refl) adds frames heads ends)

  -- the mapper's host alone
  pub start-alone : IsHostAlone host two
  start-alone = record { settled = settled; closed = start-closed }

module _ (host : ℕ) (two : Joined) (alone : IsHostAlone host two) where
  settled-none : IsSettlingIn host [] [] (Mapper ∷ []) (Host host 0 ∷ []) two []
  settled-none = alone.settled [] (true_of_none host)

  are : AreWays host [] (Mapper ∷ []) (Host host 0 ∷ [])
  are = record {
    each = λ w there. subst (λ v. IsWay host [] (Mapper ∷ []) v) (sym (one-of (Host host 0) w there)) (omega arith, refl);
    hosts = hosts;
    cables = λ m n p i k l leads. absurd (no-leads (node_at (Mapper ∷ []) m) (node_at (Mapper ∷ []) n) p i leads);
  }
    where
      hosts : (n address : ℕ) → n < 1 → host_of host [] (node_at (Mapper ∷ []) n) ≡ Some address → Has (Host host 0 ∷ []) (Host address n)
      hosts zero address l e = let same : host ≡ address = cc in record { place = 0; there = ap (λ x. Some (Host x 0)) same }
      hosts (suc n) address l e = absurd (omega arith)

      no-leads : (u x : Node) (p i : ℤ) → Leads [] u p x i → ⊥
      no-leads u x p i (onward a b q) = false≢true a
      no-leads u x p i (back a b q) = false≢true a
      no-leads u x p i (out b) = false≢true b
      no-leads u x p i (home b) = false≢true b

  counts : CountsAsked [] (Mapper ∷ []) (0 ∷ [])
  counts = record { same = refl; each = each }
    where
      each : (n : ℕ) (w : List ℤ) → slice_get (Mapper ∷ []) n ≡ Some (Reached w) → slice_get (0 ∷ []) n ≡ Some (asked_turns [] w)
      each zero w e = cc
      each (suc n) w e = cc

  kept : IsKept host [] (Mapper ∷ []) (kept_of two (0 ∷ []) [] false) two.heads.marks.items
  kept = record {
    ways = Host host 0 ∷ [];
    are = are;
    settled = settled-none;
    asked = counts;
    orphans = record { only = λ w e. absurd (false≢true e); each = λ w t e. cc; none = λ e w t q. absurd (false≢true q) };
  }

  pub start-stands : (walks orphans : List (List ℤ)) (asked : List ℕ) → walks ≡ [] → orphans ≡ [] → asked ≡ 0 ∷ [] → StandsFor host [] (class_table walks (kept_of two asked orphans false) two.heads.marks.items)
  start-stands walks orphans asked p q r =
      subst (λ (l : List (List ℤ)). StandsFor host [] (class_table l (kept_of two asked orphans false) two.heads.marks.items)) (sym p)
      (subst (λ (l : List (List ℤ)). StandsFor host [] (class_table [] (kept_of two asked l false) two.heads.marks.items)) (sym q)
      (subst (λ (l : List ℕ). StandsFor host [] (class_table [] (kept_of two l [] false) two.heads.marks.items)) (sym r) (kept-stands host [] (Mapper ∷ []) (kept_of two (0 ∷ []) [] false) two.heads.marks.items refl tt kept)))

  pub start-table : (walks orphans : List (List ℤ)) (asked : List ℕ) → walks ≡ [] → IsTable (class_table walks (kept_of two asked orphans false) two.heads.marks.items)
  start-table walks orphans asked p =
      subst (λ (l : List (List ℤ)). IsTable (class_table l (kept_of two asked orphans false) two.heads.marks.items)) (sym p)
      (table-kept host [] [] (Mapper ∷ []) (Host host 0 ∷ []) two.frames.items two.ends.items two.hosts.items two.heads.heads.items two.heads.names.items two.heads.marks.items settled-none (kept_of two asked orphans false) (omega arith))

  pub start-shape : (orphans : List (List ℤ)) (asked : List ℕ) → asked ≡ 0 ∷ [] → IsShaped (kept_of two asked orphans false)
  start-shape orphans asked r = shape-kept host [] [] (Mapper ∷ []) (Host host 0 ∷ []) two.frames.items two.ends.items two.hosts.items two.heads.heads.items two.heads.names.items two.heads.marks.items settled-none asked orphans false (subst (λ (l : List ℕ). CountsAsked [] (Mapper ∷ []) l) (sym r) counts)
