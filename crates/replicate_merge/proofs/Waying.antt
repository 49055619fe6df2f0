-- Ways added one after another to the tables of a journal.
use Rattle.std.proofs.Common.{◌≡◌, ◌<◌, ◌≤◌, ◌⊎◌, inl, inr, ℕ, zero, suc, ◌+◌, ◌*◌, List, [], ◌∷◌, ◌++◌, length, take, Some, refl, ap, sym, ◌∙◌, subst, arith}
use Rattle.std.specs.Prelude.{slice_get}
use Rattle.journal_defs.specs.declared.entry.Entry.{Entry}
use Rattle.journal_defs.specs.Tree.{Node}
use Rattle.port_align.specs.declared.frame.ClassFrame.{ClassFrame}
use Rattle.replicate_merge.specs.declared.heads.Heads.{Heads}
use Rattle.replicate_merge.specs.declared.settling.Joined.{Joined}
use Rattle.replicate_merge.specs.declared.way.Way.{Way}
use Rattle.replicate_merge.specs.Ways.{Has, IsInside, IsWay, begins_at, frame_at}
use Rattle.replicate_merge.specs.Work.{HasOneMore, far_end}
use Rattle.replicate_merge.specs.Adding.{AddsEnd, IsTurnSpot, known_at}
use Rattle.replicate_merge.specs.Rounds.{IsSettling, IsSettlingIn}
use Rattle.replicate_merge.proofs.Joining.{way-inside}
use Rattle.replicate_merge.proofs.Learning.{know-added}
use Rattle.replicate_merge.proofs.Ranges.{begin-turn}
use Rattle.replicate_merge.proofs.Telling.{adds, either, keeps, one-of}

-- the first ways, with the next
pub take-more : {X : Type 0} (xs : List X) (i : ℕ) (w : X) → slice_get xs i ≡ Some w → take (i + 1) xs ≡ take i xs ++ w ∷ []
take-more {X = X} xs i w e = ap (λ k. take k xs) (let s : i + 1 ≡ suc i = omega arith in s) ∙ by xs i e
  where
    by : (ys : List X) (k : ℕ) → slice_get ys k ≡ Some w → take (suc k) ys ≡ take k ys ++ w ∷ []
    by [] k f = cc
    by (y ∷ ys) zero f = let one : y ≡ w = cc in ap (λ x. x ∷ []) one
    by (y ∷ ys) (suc k) f = ap (λ l. y ∷ l) (by ys k f)

pub take-all : {X : Type 0} (xs : List X) → take (length xs) xs ≡ xs
take-all [] = refl
take-all (x ∷ xs) = ap (λ l. x ∷ l) (take-all xs)

-- a list with a way more
pub one-more : (xs : List Way) (w : Way) → HasOneMore xs w (xs ++ w ∷ [])
one-more xs w = record {
  kept = λ v h. keeps xs (w ∷ []) v h;
  there = adds xs (w ∷ []) w (record { place = 0; there = refl });
  only = λ v h. by v (either xs (w ∷ []) v h);
}
  where
    by : (v : Way) → Has xs v ⊎ Has (w ∷ []) v → Has xs v ⊎ (v ≡ w)
    by v (inl h) = inl h
    by v (inr h) = inr (one-of w v h)

-- the tables with a way more
pub way-added : (host : ℕ) (j asks : List Entry) (ns : List Node) (ws : List Way) (t new : Joined) (w : Way) → IsSettlingIn host j asks ns ws t t.todo.items → IsWay host j ns w
    → AddsEnd (begins_at t.frames.items w) (far_end w) (known_at t.hosts.items t.ends.items) (known_at new.hosts.items new.ends.items) t.todo.items new.todo.items → new.frames ≡ t.frames → new.heads ≡ t.heads → length new.ends.items ≡ length t.ends.items
    → IsSettlingIn host j asks ns (ws ++ w ∷ []) new new.todo.items
way-added host j asks ns ws t new w s is adds frames heads same =
    subst (λ (fs : List ClassFrame). IsSettling host j asks ns (ws ++ w ∷ []) fs new.ends.items new.hosts.items new.todo.items new.heads.heads.items new.heads.names.items new.heads.marks.items) (sym (ap (λ v. v.items) frames))
    (subst (λ (hs : Heads). IsSettling host j asks ns (ws ++ w ∷ []) t.frames.items new.ends.items new.hosts.items new.todo.items hs.heads.items hs.names.items hs.marks.items) (sym heads) (record {
      truth = s.truth;
      knows = know-added host j ns ws (ws ++ w ∷ []) t.frames.items (known_at t.hosts.items t.ends.items) (known_at new.hosts.items new.ends.items) t.todo.items new.todo.items w s.knows (one-more ws w) is adds;
      heads = s.heads;
      headed = s.headed;
      table = (let l = s.table in omega arith);
      counted = s.counted;
      marked = s.marked;
    }))

-- what adding a way asks
pub record AsksOfWay (t : Joined) (w : Way) : Type 0 where
  pub inside : IsInside (length t.frames.items) w
  pub turn : IsTurnSpot (begins_at t.frames.items w)
  pub placed : (n : ℕ) → n < length t.frames.items → (frame_at t.frames.items n).class < length t.frames.items
  pub table : 31 * length t.frames.items ≤ length t.ends.items

pub way-asks : (host : ℕ) (j asks : List Entry) (ns : List Node) (ws : List Way) (t : Joined) (w : Way) → IsSettlingIn host j asks ns ws t t.todo.items → IsWay host j ns w → AsksOfWay t w
way-asks host j asks ns ws t w s is =
    let sound = s.knows.sound in
    let framed = sound.framed in
    record {
      inside = subst (λ k. IsInside k w) (sym framed) (way-inside host j ns w is);
      turn = begin-turn host j ns t.frames.items s.truth sound w is;
      placed = λ n l. let c = sound.placed n (let i : n < length ns = omega arith in i) in omega arith;
      table = (let l = s.table in omega arith);
    }
