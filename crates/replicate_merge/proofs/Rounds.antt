-- One round of the work list, and its end.
use Rattle.std.proofs.Common.{◌≡◌, ◌≢◌, ◌<◌, ◌≤◌, ℕ, ◌+◌, ◌*◌, List, [], ◌∷◌, ◌++◌, Bool, length, map, Option, Some, ap, ◌∙◌, subst, arith, length-append}
use Rattle.std.specs.Prelude.{ℤ, ◌+ℤ◌, slice_get}
use Rattle.std.proofs.lemmas.Option.{slice_get_within}
use Rattle.net_defs.specs.Turn.{IsTurn}
use Rattle.journal_defs.specs.declared.entry.Entry.{Entry}
use Rattle.journal_defs.specs.Tree.{Node, IsJournal, nodes}
use Rattle.port_align.specs.declared.frame.ClassFrame.{ClassFrame}
use Rattle.replicate_merge.specs.declared.heads.Head.{Head}
use Rattle.replicate_merge.specs.declared.meeting.HostNode.{HostNode}
use Rattle.replicate_merge.specs.declared.meeting.Meeting.{Meeting}
use Rattle.port_align.specs.declared.end.NodePort.{NodePort}
use Rattle.replicate_merge.specs.declared.way.Way.{Way}
use Rattle.replicate_merge.specs.Kept.{Kept, IsKept}
use Rattle.replicate_merge.specs.Table.{StandsFor}
use Rattle.replicate_merge.specs.Ways.{AreJoined, frame_at}
use Rattle.replicate_merge.specs.Work.{MovesEnds, class_at}
use Rattle.replicate_merge.specs.Ends.{known_ends}
use Rattle.replicate_merge.specs.Adding.{known_at}
use Rattle.replicate_merge.specs.Heads.{head_at, seen_frame}
use Rattle.replicate_merge.specs.HeadSteps.{IsJoinedByMarks, JoinsHeads}
use Rattle.replicate_merge.specs.Rounds.{IsSettling}
use Rattle.replicate_merge.proofs.Heading.{heads-joined, marks-joined}
use Rattle.replicate_merge.proofs.Naming.{stands-named}
use Rattle.replicate_merge.proofs.Pairs.{all-closed, pass-pair}
use Rattle.replicate_merge.proofs.Steps.{CanPair, pair-done, pair-there, pair-turn}

-- a pair of one class
pub round-passed : (host : ℕ) (j asks : List Entry) (ns : List Node) (ws : List Way) (fs : List ClassFrame) (ends : List (Option NodePort)) (hosts : List HostNode) (rest : List Meeting) (m : Meeting) (hs : List Head) (names : List ℕ) (marks : List Bool) → class_at fs m.first ≡ class_at fs m.second → IsSettling host j asks ns ws fs ends hosts (rest ++ m ∷ []) hs names marks → IsSettling host j asks ns ws fs ends hosts rest hs names marks
round-passed host j asks ns ws fs ends hosts rest m hs names marks one s = record { truth = s.truth; knows = pass-pair host j ns ws fs (known_at hosts ends) rest m one s.knows; heads = s.heads; headed = s.headed; table = s.table; counted = s.counted; marked = s.marked }

module _ (host : ℕ) (j asks : List Entry) (ns : List Node) (ws : List Way) (fs : List ClassFrame) (ends : List (Option NodePort)) (hosts : List HostNode) (rest : List Meeting) (m : Meeting) (hs : List Head) (names : List ℕ) (marks : List Bool) (s : IsSettling host j asks ns ws fs ends hosts (rest ++ m ∷ []) hs names marks) (from to : ℕ) (by : ℤ) (can : CanPair host j ns fs m from to by) where
  from_class : (frame_at fs from).class ≡ from
  from_class = ap (λ (f : ClassFrame). f.class) can.from_root

  to_class : (frame_at fs to).class ≡ to
  to_class = ap (λ (f : ClassFrame). f.class) can.to_root

  -- the numbers and the least nodes of the two classes are there
  pub first-number : (head_at hs from).number < length names
  first-number = slice_get_within names (head_at hs from).number from (subst (λ c. slice_get names (head_at hs c).number ≡ Some c) from_class (s.heads.named from can.is_from))

  pub second-number : (head_at hs to).number < length names
  second-number = slice_get_within names (head_at hs to).number to (subst (λ c. slice_get names (head_at hs c).number ≡ Some c) to_class (s.heads.named to can.is_to))

  pub first-least : (head_at hs from).least < length ns
  first-least = subst (λ c. (head_at hs c).least < length ns) from_class (s.heads.inside from can.is_from)

  pub second-least : (head_at hs to).least < length ns
  second-least = subst (λ c. (head_at hs c).least < length ns) to_class (s.heads.inside to can.is_to)

  pub names-inside : (k n : ℕ) → slice_get names k ≡ Some n → n < length hs
  names-inside k n e = let a = (s.heads.name k n e).0 in let b = s.headed in omega arith

  based : frame_at fs (head_at hs from).least ≡ record { class = from; offset = (head_at hs from).base }
  based = subst (λ c. frame_at fs (head_at hs c).least ≡ record { class = c; offset = (head_at hs c).base }) from_class (s.heads.based from can.is_from)

  -- the least node's offset is a turn, and stays one
  pub base-turn : IsTurn (head_at hs from).base
  base-turn = subst (λ o. IsTurn o) (ap (λ (f : ClassFrame). f.offset) based) (pair-turn host j ns ws fs ends hosts rest m s.truth s.knows from to by can (head_at hs from).least first-least)

  pub least-turn : IsTurn ((head_at hs from).base +ℤ by)
  least-turn =
      let turn = pair-there host j ns ws fs ends hosts rest m s.truth s.knows from to by can (head_at hs from).least first-least (ap (λ (f : ClassFrame). f.class) based) in
      subst (λ o. IsTurn (o +ℤ by)) (ap (λ (f : ClassFrame). f.offset) based) turn

  -- a pair of two classes
  pub round-joined : (next : List ClassFrame) (new : List (Option NodePort)) (after : List Meeting) (heads : List Head) (left : List ℕ) (marked : List Bool) (last : ℕ) → from ≢ to → AreJoined from to by fs next → MovesEnds from to by (known_ends ends) (known_ends new) rest after
      → JoinsHeads ns from to by hs heads names left last → IsJoinedByMarks (head_at hs from).number (head_at hs to).number names marks marked → length heads ≡ length hs → length new ≡ length ends → length marked ≡ length left → IsSettling host j asks ns ws next new hosts after heads left marked
  round-joined next new after heads left marked last two join moves joins marking same_heads same_ends counted = record {
    truth = s.truth;
    knows = pair-done host j ns ws fs ends hosts rest m s.truth s.knows from to by can next new after two join moves;
    heads = heads-joined host j asks ns fs next hs heads names left from to by last s.knows.sound join s.heads joins two can.is_from can.is_to from_class to_class;
    headed = same_heads ∙ s.headed;
    table = (let t = s.table in omega arith);
    counted = counted;
    marked = marks-joined host j asks ns fs next hs heads names left from to by last s.knows.sound join s.heads joins two can.is_from can.is_to from_class to_class marks marked s.counted marking s.marked;
  }

  -- the measure: 31 for each class, and one for each open pair
  pub round-less : (after : List Meeting) (left : List ℕ) → length names ≡ length left + 1 → length after ≤ length rest + 31 → 31 * length left + length after < 31 * length names + length (rest ++ m ∷ [])
  round-less after left fewer few = let c = length-append rest (m ∷ []) in omega arith

-- once no pair is open, the tables stand for the journal
pub kept-stands : (host : ℕ) (j : List Entry) (ns : List Node) (kept : Kept) (marks : List Bool) → ns ≡ nodes j → IsJournal j → IsKept host j ns kept marks → StandsFor host j (record { nodes = ns; frames = map (seen_frame kept.heads) kept.frames; expanded = marks; kept = kept })
kept-stands host j ns kept marks numbered once k =
    let s = k.settled in
    stands-named host j ns k.ways kept.frames kept.heads kept.names marks numbered once s.truth k.are s.knows.sound (all-closed host j ns k.ways kept.frames (known_at kept.hosts kept.ends) s.knows) s.heads s.counted s.marked kept k
