-- What a join of two classes asks of the tables of any journal, and that the tables stay a journal's.
use Rattle.std.proofs.Common.{◌≡◌, ◌≢◌, ◌<◌, ◌≤◌, ℕ, ◌*◌, List, [], ◌∷◌, ◌++◌, length, None, ap, sym, ◌∙◌, subst, arith}
use Rattle.std.specs.Prelude.{ℤ, ◌+ℤ◌, slice_get, Some}
use Rattle.net_defs.specs.Turn.{IsTurn}
use Rattle.journal_defs.specs.declared.entry.Entry.{Entry}
use Rattle.journal_defs.specs.Tree.{Node}
use Rattle.port_align.specs.declared.frame.ClassFrame.{ClassFrame}
use Rattle.replicate_merge.specs.declared.meeting.HostNode.{HostNode}
use Rattle.replicate_merge.specs.declared.meeting.Meeting.{Meeting}
use Rattle.replicate_merge.specs.declared.settling.Joined.{Joined}
use Rattle.replicate_merge.specs.declared.way.Way.{Way}
use Rattle.replicate_merge.specs.Ways.{AreJoined, frame_at}
use Rattle.replicate_merge.specs.Work.{MovesEnds, class_at}
use Rattle.replicate_merge.specs.Ends.{end_at, known_ends}
use Rattle.replicate_merge.specs.Heads.{head_at}
use Rattle.replicate_merge.specs.HeadSteps.{IsJoinedByHeads, IsJoinedByMarks}
use Rattle.replicate_merge.specs.Rounds.{IsOriented, IsSettling, IsSettlingIn, IsSettlingSome, KeepsSettling}
use Rattle.replicate_merge.proofs.Lists.{among-last}
use Rattle.replicate_merge.proofs.Rounds.{base-turn, first-least, first-number, least-turn, names-inside, round-joined, round-passed, second-least, second-number}
use Rattle.replicate_merge.proofs.Steps.{CanPair, can-pair, pair-range, pair-small, pair-there, pair-turn}

-- what a join asks of the tables
pub record AsksOfJoin (ns : List Node) (t : Joined) (from to : ℕ) (by : ℤ) : Type 0 where
  pub is_from : from < length t.frames.items
  pub is_to : to < length t.frames.items
  pub names_from : (frame_at t.frames.items from).class ≡ from
  pub names_to : (frame_at t.frames.items to).class ≡ to
  pub table : 31 * length t.frames.items ≤ length t.ends.items
  pub headed : length t.heads.heads.items ≡ length t.frames.items
  pub walked : length t.frames.items ≡ length ns
  pub small : IsTurn by
  pub turns : (n : ℕ) → n < length t.frames.items → IsTurn (frame_at t.frames.items n).offset
  pub base_turn : IsTurn (head_at t.heads.heads.items from).base
  pub there : (n : ℕ) → n < length t.frames.items → (frame_at t.frames.items n).class ≡ from → IsTurn ((frame_at t.frames.items n).offset +ℤ by)
  pub in_range : (p : ℤ) → end_at t.ends.items from p ≢ None → IsTurn (p +ℤ by)
  pub first : (head_at t.heads.heads.items from).number < length t.heads.names.items
  pub second : (head_at t.heads.heads.items to).number < length t.heads.names.items
  pub inside : (k n : ℕ) → slice_get t.heads.names.items k ≡ Some n → n < length t.heads.heads.items
  pub least_first : (head_at t.heads.heads.items from).least < length t.frames.items
  pub least_second : (head_at t.heads.heads.items to).least < length t.frames.items
  pub base : IsTurn ((head_at t.heads.heads.items from).base +ℤ by)
  pub marked : length t.heads.marks.items ≡ length t.heads.names.items

module _ (ns : List Node) (t : Joined) (rest : List Meeting) (m : Meeting) where
  -- the nodes of a pair have classes with heads
  pub record AsksOfPair : Type 0 where
    pub first : m.first.node < length t.frames.items
    pub second : m.second.node < length t.frames.items
    pub placed : (n : ℕ) → n < length t.frames.items → (frame_at t.frames.items n).class < length t.heads.heads.items

  pub pair-asks : IsSettlingSome ns t (rest ++ m ∷ []) → AsksOfPair
  pair-asks x =
      let framed = x.is.knows.sound.framed in
      let headed = x.is.headed in
      let is = x.is.knows.meet m (among-last rest m) in
      record {
        first = (let l = is.first in omega arith);
        second = (let l = is.second in omega arith);
        placed = λ n l. let c = x.is.knows.sound.placed n (let i : n < length ns = omega arith in i) in omega arith;
      }

  -- a pair of one class is done
  pub passed-kept : class_at t.frames.items m.first ≡ class_at t.frames.items m.second → KeepsSettling ns t (rest ++ m ∷ []) t rest
  passed-kept one host j asks ws s = round-passed host j asks ns ws t.frames.items t.ends.items t.hosts.items rest m t.heads.heads.items t.heads.names.items t.heads.marks.items one s

  module _ (from to : ℕ) (by : ℤ) (o : IsOriented t.frames.items m from to by) where
    can : (host : ℕ) (j asks : List Entry) (ws : List Way) → IsSettlingIn host j asks ns ws t (rest ++ m ∷ []) → CanPair host j ns t.frames.items m from to by
    can host j asks ws s = can-pair host j ns ws t.frames.items t.ends.items t.hosts.items rest m s.truth s.knows from to by o.orients

    pub join-asks : IsSettlingSome ns t (rest ++ m ∷ []) → AsksOfJoin ns t from to by
    join-asks x =
        let c = can x.host x.journal x.asks x.ways x.is in
        let framed = x.is.knows.sound.framed in
        let headed = x.is.headed in
        let s = x.is in
        record {
          is_from = (let l = c.is_from in omega arith);
          is_to = (let l = c.is_to in omega arith);
          names_from = ap (λ (f : ClassFrame). f.class) c.from_root;
          names_to = ap (λ (f : ClassFrame). f.class) c.to_root;
          table = (let l = s.table in omega arith);
          headed = headed ∙ sym framed;
          walked = framed;
          small = pair-small x.host x.journal ns x.ways t.frames.items t.ends.items t.hosts.items rest m s.truth s.knows from to by c;
          turns = λ n l. pair-turn x.host x.journal ns x.ways t.frames.items t.ends.items t.hosts.items rest m s.truth s.knows from to by c n (let i : n < length ns = omega arith in i);
          base_turn = base-turn x.host x.journal x.asks ns x.ways t.frames.items t.ends.items t.hosts.items rest m t.heads.heads.items t.heads.names.items t.heads.marks.items s from to by c;
          there = λ n l e. pair-there x.host x.journal ns x.ways t.frames.items t.ends.items t.hosts.items rest m s.truth s.knows from to by c n (let i : n < length ns = omega arith in i) e;
          in_range = pair-range x.host x.journal ns x.ways t.frames.items t.ends.items t.hosts.items rest m s.truth s.knows from to by c;
          first = first-number x.host x.journal x.asks ns x.ways t.frames.items t.ends.items t.hosts.items rest m t.heads.heads.items t.heads.names.items t.heads.marks.items s from to by c;
          second = second-number x.host x.journal x.asks ns x.ways t.frames.items t.ends.items t.hosts.items rest m t.heads.heads.items t.heads.names.items t.heads.marks.items s from to by c;
          inside = names-inside x.host x.journal x.asks ns x.ways t.frames.items t.ends.items t.hosts.items rest m t.heads.heads.items t.heads.names.items t.heads.marks.items s from to by c;
          least_first = (let l = first-least x.host x.journal x.asks ns x.ways t.frames.items t.ends.items t.hosts.items rest m t.heads.heads.items t.heads.names.items t.heads.marks.items s from to by c in omega arith);
          least_second = (let l = second-least x.host x.journal x.asks ns x.ways t.frames.items t.ends.items t.hosts.items rest m t.heads.heads.items t.heads.names.items t.heads.marks.items s from to by c in omega arith);
          marked = s.counted;
          base = least-turn x.host x.journal x.asks ns x.ways t.frames.items t.ends.items t.hosts.items rest m t.heads.heads.items t.heads.names.items t.heads.marks.items s from to by c;
        }

    -- a pair of two classes is done once they are joined
    pub joined-kept : (new : Joined) → AreJoined from to by t.frames.items new.frames.items → MovesEnds from to by (known_ends t.ends.items) (known_ends new.ends.items) rest new.todo.items
        → IsJoinedByHeads ns from to by t.heads.heads.items new.heads.heads.items t.heads.names.items new.heads.names.items → IsJoinedByMarks (head_at t.heads.heads.items from).number (head_at t.heads.heads.items to).number t.heads.names.items t.heads.marks.items new.heads.marks.items
        → length new.heads.heads.items ≡ length t.heads.heads.items → length new.ends.items ≡ length t.ends.items → length new.heads.marks.items ≡ length new.heads.names.items → new.hosts.items ≡ t.hosts.items
        → KeepsSettling ns t (rest ++ m ∷ []) new new.todo.items
    joined-kept new join moves heads marks same_heads same_ends counted same_hosts host j asks ws s =
        subst (λ (hosts : List HostNode). IsSettling host j asks ns ws new.frames.items new.ends.items hosts new.todo.items new.heads.heads.items new.heads.names.items new.heads.marks.items) (sym same_hosts)
        (round-joined host j asks ns ws t.frames.items t.ends.items t.hosts.items rest m t.heads.heads.items t.heads.names.items t.heads.marks.items s from to by (can host j asks ws s) new.frames.items new.ends.items new.todo.items new.heads.heads.items new.heads.names.items new.heads.marks.items heads.last o.two join moves heads.joins marks same_heads same_ends counted)

-- one round after others
pub kept-on : (ns : List Node) (a b c : Joined) (x y z : List Meeting) → KeepsSettling ns a x b y → KeepsSettling ns b y c z → KeepsSettling ns a x c z
kept-on ns a b c x y z f g host j asks ws s = g host j asks ws (f host j asks ws s)

-- tables of some journal stay those of some
pub some-kept : (ns : List Node) (a b : Joined) (x y : List Meeting) → KeepsSettling ns a x b y → IsSettlingSome ns a x → IsSettlingSome ns b y
some-kept ns a b x y f s = record { host = s.host; journal = s.journal; asks = s.asks; ways = s.ways; is = f s.host s.journal s.asks s.ways s.is }
