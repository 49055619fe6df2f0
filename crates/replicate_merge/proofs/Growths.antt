-- A node and its ways added to tables of joined classes, and the pairs that they open done.
use Rattle.std.proofs.Common.{◌≡◌, ◌≤◌, ℕ, ◌+◌, List, [], ◌∷◌, ◌++◌, Bool, length, refl, ap, sym, ◌∙◌, subst, arith, length-append}
use Rattle.journal_defs.specs.declared.entry.Entry.{Entry}
use Rattle.journal_defs.specs.Tree.{Node}
use Rattle.journal_defs.specs.Tree.Node.{Reached}
use Rattle.map_laws.proofs.Keeping.{keeps-append}
use Rattle.port_align.specs.declared.frame.ClassFrame.{ClassFrame}
use Rattle.replicate_merge.specs.declared.heads.Head.{Head}
use Rattle.replicate_merge.specs.declared.meeting.HostNode.{HostNode}
use Rattle.replicate_merge.specs.declared.meeting.Meeting.{Meeting}
use Rattle.replicate_merge.specs.declared.settling.Joined.{Joined}
use Rattle.replicate_merge.specs.declared.way.Way.{Way}
use Rattle.replicate_merge.specs.Growing.{IsGrowing, MayGrow}
use Rattle.replicate_merge.specs.Heads.{own_head}
use Rattle.replicate_merge.specs.Rounds.{IsSettling, IsSettlingIn, IsSettlingSome, KeepsSettling}
use Rattle.replicate_merge.specs.Steps.{AddsNode, AddsWays, MayAddWays}
use Rattle.replicate_merge.specs.Ways.{Has, IsWay, own_frame}
use Rattle.replicate_merge.proofs.Added.{settling-added}
use Rattle.replicate_merge.proofs.Shapes.{names-few}

module _ (host : ℕ) (j : List Entry) (e : Entry) (before : List Node) (ways : List Way) (t mid : Joined) (more : List Way) (marked : Bool) (g : IsGrowing host j e before ways t more marked) (a : AddsNode marked t mid) where
  abbrev later : List Entry
  later = j ++ e ∷ []

  abbrev after : List Node
  after = before ++ Reached e.walk ∷ []

  framed : length t.frames.items ≡ length before
  framed = g.settled.knows.sound.framed

  headed : length t.heads.heads.items ≡ length before
  headed = g.settled.headed

  -- the tables with the node
  grown-node : IsSettlingIn host later j after ways mid []
  grown-node =
      let s = settling-added host j later j before (Reached e.walk) e.walk ways t.frames.items t.ends.items mid.ends.items t.hosts.items t.heads.heads.items t.heads.names.items t.heads.marks.items marked (keeps-append j (e ∷ [])) g.truth g.node refl a.ends g.own g.settled in
      let frames : t.frames.items ++ own_frame (length before) ∷ [] ≡ mid.frames.items = ap (λ k. t.frames.items ++ own_frame k ∷ []) (sym framed) ∙ sym a.frames in
      let heads : t.heads.heads.items ++ own_head (length t.heads.names.items) (length before) ∷ [] ≡ mid.heads.heads.items = ap (λ k. t.heads.heads.items ++ own_head (length t.heads.names.items) k ∷ []) (sym headed) ∙ sym a.heads in
      let names : t.heads.names.items ++ length before ∷ [] ≡ mid.heads.names.items = ap (λ k. t.heads.names.items ++ k ∷ []) (sym headed) ∙ sym a.names in
      let hosts : t.hosts.items ≡ mid.hosts.items = sym (ap (λ v. v.items) a.hosts) in
      let first : IsSettling host later j after ways mid.frames.items mid.ends.items t.hosts.items [] (t.heads.heads.items ++ own_head (length t.heads.names.items) (length before) ∷ []) (t.heads.names.items ++ length before ∷ []) (t.heads.marks.items ++ marked ∷ []) =
      subst (λ (fs : List ClassFrame). IsSettling host later j after ways fs mid.ends.items t.hosts.items [] (t.heads.heads.items ++ own_head (length t.heads.names.items) (length before) ∷ []) (t.heads.names.items ++ length before ∷ []) (t.heads.marks.items ++ marked ∷ [])) frames s in
      let second : IsSettling host later j after ways mid.frames.items mid.ends.items t.hosts.items [] mid.heads.heads.items (t.heads.names.items ++ length before ∷ []) (t.heads.marks.items ++ marked ∷ []) =
      subst (λ (hs : List Head). IsSettling host later j after ways mid.frames.items mid.ends.items t.hosts.items [] hs (t.heads.names.items ++ length before ∷ []) (t.heads.marks.items ++ marked ∷ [])) heads first in
      let third : IsSettling host later j after ways mid.frames.items mid.ends.items t.hosts.items [] mid.heads.heads.items mid.heads.names.items (t.heads.marks.items ++ marked ∷ []) =
      subst (λ (ks : List ℕ). IsSettling host later j after ways mid.frames.items mid.ends.items t.hosts.items [] mid.heads.heads.items ks (t.heads.marks.items ++ marked ∷ [])) names second in
      let fourth : IsSettling host later j after ways mid.frames.items mid.ends.items t.hosts.items [] mid.heads.heads.items mid.heads.names.items mid.heads.marks.items =
      subst (λ (ms : List Bool). IsSettling host later j after ways mid.frames.items mid.ends.items t.hosts.items [] mid.heads.heads.items mid.heads.names.items ms) (sym a.marks) third in
      subst (λ (hs : List HostNode). IsSettling host later j after ways mid.frames.items mid.ends.items hs [] mid.heads.heads.items mid.heads.names.items mid.heads.marks.items) hosts fourth

  module _ (ns : List Node) (is : ns ≡ before ++ Reached e.walk ∷ []) (closed : mid.todo.items ≡ []) where
    grown-open : IsSettlingIn host later j ns ways mid mid.todo.items
    grown-open = subst (λ (l : List Meeting). IsSettlingIn host later j ns ways mid l) (sym closed) (subst (λ (ms : List Node). IsSettlingIn host later j ms ways mid []) (sym is) grown-node)

    grown-each : (w : Way) → Has more w → IsWay host later ns w
    grown-each w h = subst (λ (ms : List Node). IsWay host later ms w) (sym is) (g.each w h)

    pub grown-may : MayAddWays ns mid more
    grown-may = record { host = host; journal = later; asks = j; ways = ways; is = grown-open; each = grown-each }

    module _ (added : Joined) (adds : AddsWays ns more mid added) where
      grown-ways : IsSettlingIn host later j ns (ways ++ more) added added.todo.items
      grown-ways = adds host later j ways grown-open grown-each

      pub grown-some : IsSettlingSome ns added added.todo.items
      grown-some = record { host = host; journal = later; asks = j; ways = ways ++ more; is = grown-ways }

      pub grown-all : (new : Joined) → KeepsSettling ns added added.todo.items new [] → IsSettlingIn host later j ns (ways ++ more) new []
      grown-all new keeps = keeps host later j (ways ++ more) grown-ways

-- what adding a node asks
pub record AsksOfNode (ns : List Node) (t : Joined) : Type 0 where
  pub count : length ns ≡ length t.frames.items + 1
  pub headed : length t.heads.heads.items ≡ length t.frames.items
  pub names : length t.heads.names.items ≤ length t.frames.items

pub node-asks : (ns : List Node) (t : Joined) (more : List Way) (marked : Bool) → MayGrow ns t more marked → AsksOfNode ns t
node-asks ns t more marked m =
    let s = m.is.settled in
    let framed = s.knows.sound.framed in
    record {
      count = (let a : length ns ≡ length (m.before ++ Reached m.entry.walk ∷ []) = ap length m.after in let b = length-append m.before (Reached m.entry.walk ∷ []) in omega arith);
      headed = (let h = s.headed in omega arith);
      names = (let f = names-few m.host m.journal m.journal m.before m.ways t.frames.items t.ends.items t.hosts.items t.heads.heads.items t.heads.names.items t.heads.marks.items s in omega arith);
    }
