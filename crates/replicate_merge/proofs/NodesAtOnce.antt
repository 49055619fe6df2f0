-- The nodes of a journal's first entries, each a class of its own.
use Rattle.std.proofs.Common.{◌≡◌, ◌<◌, ◌≤◌, ◌^◌, ℕ, ◌+◌, List, [], ◌∷◌, ◌++◌, Bool, true, false, length, nat_eq, take, Some, refl, ap, sym, ◌∙◌, subst, arith}
use Rattle.std.specs.Prelude.{ℤ, ◌↔◌, slice_get, slice_index_or}
use Rattle.std.proofs.lemmas.Bool.Decides.{Decides-eqb}
use Rattle.std.proofs.lemmas.Option.{get_or_from_slice_get, slice_get_within}
use Rattle.journal_defs.specs.declared.entry.Entry.{Entry}
use Rattle.journal_defs.specs.Growth.{IsExpanded}
use Rattle.journal_defs.specs.Tree.{Node, IsJournal, IsNode, has_found, is_found, nodes}
use Rattle.journal_defs.specs.Tree.Node.{Reached}
use Rattle.replicate_merge.specs.declared.meeting.Meeting.{Meeting}
use Rattle.replicate_merge.specs.declared.settling.Joined.{Joined}
use Rattle.replicate_merge.specs.declared.way.Way.{Way}
use Rattle.replicate_merge.specs.declared.way.Way.TheVariants.{Host}
use Rattle.replicate_merge.specs.Asked.{CountsAsked, asked_turns}
use Rattle.replicate_merge.specs.Heads.{own_head}
use Rattle.replicate_merge.specs.Rounds.{IsSettling, IsSettlingIn}
use Rattle.replicate_merge.specs.Steps.{AddsNode, SameItems}
use Rattle.replicate_merge.specs.Table.{IsTrueOfOne}
use Rattle.replicate_merge.specs.Ways.{own_frame}
use Rattle.replicate_merge.proofs.Added.{settling-added}
use Rattle.replicate_merge.proofs.Shapes.{names-few}
use Rattle.replicate_merge.specs.AtOnce.{HasOwnNodes, IsHostAlone}
use Rattle.replicate_merge.proofs.Counting.{expanded-thirty, thirty-expanded}
use Rattle.replicate_merge.proofs.Entries.{answered-at, few-before, node-place, nodes-found, nodes-lost}

-- tables with other room are those of the same journal
pub settling-room : (host : ℕ) (j asks : List Entry) (ns : List Node) (ws : List Way) (t new : Joined) (todo : List Meeting) → SameItems t new → IsSettlingIn host j asks ns ws t todo → IsSettlingIn host j asks ns ws new todo
settling-room host j asks ns ws t new todo s x = coe 1 0 (i. IsSettling host j asks ns ws (s.frames i) (s.ends i) (s.hosts i) todo (s.heads i) (s.names i) (s.marks i)) x

-- a node more, as a class of its own
node-settled : (host : ℕ) (j : List Entry) (ns : List Node) (w : List ℤ) (ways : List Way) (t mid : Joined) (marked : Bool) → IsNode j (Reached w) → ((marked ≡ true) ↔ IsExpanded j w) → AddsNode marked t mid → IsSettlingIn host j j ns ways t [] → IsSettlingIn host j j (ns ++ Reached w ∷ []) ways mid []
node-settled host j ns w ways t mid marked node own a s = coe 1 0 (i. IsSettling host j j (ns ++ Reached w ∷ []) ways (frames i) mid.ends.items (hosts i) [] (heads i) (names i) (a.marks i)) added
  where
    frames : mid.frames.items ≡ t.frames.items ++ own_frame (length ns) ∷ []
    frames = a.frames ∙ ap (λ k. t.frames.items ++ own_frame k ∷ []) s.knows.sound.framed

    heads : mid.heads.heads.items ≡ t.heads.heads.items ++ own_head (length t.heads.names.items) (length ns) ∷ []
    heads = a.heads ∙ ap (λ k. t.heads.heads.items ++ own_head (length t.heads.names.items) k ∷ []) s.headed

    names : mid.heads.names.items ≡ t.heads.names.items ++ length ns ∷ []
    names = a.names ∙ ap (λ k. t.heads.names.items ++ k ∷ []) s.headed

    hosts : mid.hosts.items ≡ t.hosts.items
    hosts = ap (λ v. v.items) a.hosts

    added : IsSettling host j j (ns ++ Reached w ∷ []) ways (t.frames.items ++ own_frame (length ns) ∷ []) mid.ends.items t.hosts.items [] (t.heads.heads.items ++ own_head (length t.heads.names.items) (length ns) ∷ []) (t.heads.names.items ++ length ns ∷ []) (t.heads.marks.items ++ marked ∷ [])
    added = settling-added host j j j ns (Reached w) w ways t.frames.items t.ends.items mid.ends.items t.hosts.items t.heads.heads.items t.heads.names.items t.heads.marks.items marked (record { kept = λ v b e. e }) s.truth node refl a.ends own s

-- before the first entry
pub nodes-alone : (host : ℕ) (j : List Entry) (t : Joined) → IsTrueOfOne host j → IsHostAlone host t → HasOwnNodes host j 0 t
nodes-alone host j t truth a = record { settled = a.settled j truth; closed = a.closed }

module _ (host : ℕ) (j : List Entry) (k : ℕ) (e : Entry) (at : slice_get j k ≡ Some e) (t : Joined) (own : HasOwnNodes host j k t) where
  -- an entry that found nothing adds no node
  pub nodes-same : is_found e.answer ≡ false → HasOwnNodes host j (k + 1) t
  nodes-same lost = record { settled = subst (λ (ns : List Node). IsSettlingIn host j j ns (Host host 0 ∷ []) t []) (sym (nodes-lost j k e at lost)) own.settled; closed = own.closed }

  framed : length t.frames.items ≡ length (nodes (take k j))
  framed = own.settled.knows.sound.framed

  -- what adding a node asks
  pub frames-few : length j < 4294967295 → length t.frames.items < 2 ^ 32
  frames-few few = let f = framed in let l = slice_get_within j k e at in let b = few-before j k (omega arith) in omega arith

  pub names-few-there : length t.heads.names.items ≤ length t.frames.items
  names-few-there = let f = framed in let n = names-few host j j (nodes (take k j)) (Host host 0 ∷ []) t.frames.items t.ends.items t.hosts.items t.heads.heads.items t.heads.names.items t.heads.marks.items own.settled in omega arith

  pub heads-there : length t.heads.heads.items ≡ length t.frames.items
  heads-there = own.settled.headed ∙ sym framed

  module _ (found : is_found e.answer ≡ true) (asked : List ℕ) (counts : CountsAsked j (nodes j) asked) where
    number : slice_get (nodes j) (length t.frames.items) ≡ Some (Reached e.walk)
    number = ap (slice_get (nodes j)) framed ∙ node-place j k e at found

    pub asked-inside : length t.frames.items < length asked
    asked-inside = slice_get_within asked (length t.frames.items) (asked_turns j e.walk) (counts.each (length t.frames.items) e.walk number)

    count : slice_index_or asked (length t.frames.items) 0 ≡ asked_turns j e.walk
    count = get_or_from_slice_get asked (length t.frames.items) (asked_turns j e.walk) 0 (counts.each (length t.frames.items) e.walk number)

    pub nodes-next : (room mid : Joined) → IsJournal j → SameItems t room → AddsNode (nat_eq (slice_index_or asked (length t.frames.items) 0) 30) room mid → HasOwnNodes host j (k + 1) mid
    nodes-next room mid once same a = record {
      settled = subst (λ (ns : List Node). IsSettlingIn host j j ns (Host host 0 ∷ []) mid []) (sym (nodes-found j k e at found))
          (node-settled host j (nodes (take k j)) e.walk (Host host 0 ∷ []) room mid (nat_eq (slice_index_or asked (length t.frames.items) 0) 30) node marked a (settling-room host j j (nodes (take k j)) (Host host 0 ∷ []) t room [] same own.settled));
      closed = ap (λ v. v.items) a.todo ∙ same.todo ∙ own.closed;
    }
      where
        node : IsNode j (Reached e.walk)
        node = ap has_found (answered-at j k e once at) ∙ found

        marked : (nat_eq (slice_index_or asked (length t.frames.items) 0) 30 ≡ true) ↔ IsExpanded j e.walk
        marked = (
          λ p. thirty-expanded j e.walk (sym count ∙ (Decides-eqb (slice_index_or asked (length t.frames.items) 0) 30).0 p),
          λ x. (Decides-eqb (slice_index_or asked (length t.frames.items) 0) 30).1 (count ∙ expanded-thirty j e.walk x),
        )
