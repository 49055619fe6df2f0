-- What tables of joined classes give callers: few classes, and frames within them.
use Rattle.std.proofs.Common.{◌≡◌, ◌<◌, ◌≤◌, ℕ, suc, ◌+◌, ◌^◌, List, [], ◌∷◌, Bool, true, false, ◌||◌, length, map, eqb, Some, refl, ap, sym, ◌∙◌, subst, arith}
use Rattle.std.specs.Prelude.{ℤ, ◌-ℤ◌, slice_get, Option}
use Rattle.std.specs.List.{AllByRecursion, IsDistinct, list_any}
use Rattle.std.proofs.lemmas.Bool.{false≢true}
use Rattle.std.proofs.lemmas.Bool.Decides.{Decides-eqb}
use Rattle.std.proofs.lemmas.Map.Steps.{length-le_from_distinct_below}
use Rattle.std.proofs.lemmas.Option.{slice_get_within, slice_get-get_or}
use Rattle.net_defs.specs.Turn.{IsTurn}
use Rattle.journal_defs.specs.declared.entry.Entry.{Entry}
use Rattle.journal_defs.specs.Tree.{Node}
use Rattle.journal_defs.proofs.Standing.{offsets_are_turns}
use Rattle.port_align.specs.declared.frame.ClassFrame.{ClassFrame}
use Rattle.replicate_merge.specs.declared.heads.Head.{Head}
use Rattle.replicate_merge.specs.declared.meeting.HostNode.{HostNode}
use Rattle.port_align.specs.declared.end.NodePort.{NodePort}
use Rattle.replicate_merge.specs.declared.way.Way.{Way}
use Rattle.replicate_merge.specs.Asked.{CountsAsked}
use Rattle.replicate_merge.specs.Heads.{head_at, seen_frame}
use Rattle.replicate_merge.specs.Kept.{Kept, IsShaped}
use Rattle.replicate_merge.specs.Rounds.{IsSettling}
use Rattle.replicate_merge.specs.Table.{IsTable}
use Rattle.replicate_merge.specs.Ways.{frame_at, node_at, own_frame}
use Rattle.replicate_merge.proofs.Naming.{map-count, map-get}
use Rattle.replicate_merge.proofs.Together.{in_one_class}

-- names whose heads have their places for numbers are apart
apart-from : (hs : List Head) (x : ℕ) (xs : List ℕ) (k : ℕ) → (head_at hs x).number < k → ((i n : ℕ) → slice_get xs i ≡ Some n → (head_at hs n).number ≡ k + i) → AllByRecursion (λ y. eqb x y ≡ false) xs
apart-from hs x [] k l is = tt
apart-from hs x (y ∷ ys) k l is = (by (eqb x y) refl, apart-from hs x ys (k + 1) (omega arith) (λ i n e. is (suc i) n e ∙ (let s : k + suc i ≡ k + 1 + i = omega arith in s)))
  where
    by : (b : Bool) → eqb x y ≡ b → eqb x y ≡ false
    by false p = p
    by true p =
        let same : x ≡ y = (Decides-eqb x y).0 p in
        let first : (head_at hs y).number ≡ k + 0 = is 0 y refl in
        let lower : (head_at hs y).number < k = subst (λ n. (head_at hs n).number < k) same l in
        absurd (omega arith)

names-apart : (hs : List Head) (xs : List ℕ) (k : ℕ) → ((i n : ℕ) → slice_get xs i ≡ Some n → (head_at hs n).number ≡ k + i) → IsDistinct eqb xs
unfolding IsDistinct
names-apart hs [] k is = tt
names-apart hs (x ∷ xs) k is = (
  apart-from hs x xs (k + 1) (let first : (head_at hs x).number ≡ k + 0 = is 0 x refl in omega arith) next,
  names-apart hs xs (k + 1) next,
)
  where
    next : (i n : ℕ) → slice_get xs i ≡ Some n → (head_at hs n).number ≡ k + 1 + i
    next i n e = is (suc i) n e ∙ (let s : k + suc i ≡ k + 1 + i = omega arith in s)

names-inside : (xs : List ℕ) (bound q : ℕ) → ((i n : ℕ) → slice_get xs i ≡ Some n → n < bound) → list_any (eqb q) xs ≡ true → q < bound
names-inside [] bound q is e = absurd (false≢true e)
names-inside (x ∷ xs) bound q is e = by (eqb q x) refl e (names-inside xs bound q (λ i n g. is (suc i) n g))
  where
    by : (b : Bool) → eqb q x ≡ b → (b || list_any (eqb q) xs) ≡ true → (list_any (eqb q) xs ≡ true → q < bound) → q < bound
    by true p f rest = subst (λ n. n < bound) (sym ((Decides-eqb q x).0 p)) (is 0 x refl)
    by false p f rest = rest f

module _ (host : ℕ) (j asks : List Entry) (ns : List Node) (ws : List Way) (fs : List ClassFrame) (ends : List (Option NodePort)) (hosts : List HostNode) (hs : List Head) (names : List ℕ) (marks : List Bool) (s : IsSettling host j asks ns ws fs ends hosts [] hs names marks) where
  -- no more classes than nodes
  pub names-few : length names ≤ length ns
  names-few = length-le_from_distinct_below names (length ns) (names-apart hs names 0 (λ i n e. (s.heads.name i n e).2 ∙ (let z : i ≡ 0 + i = omega arith in z))) (λ q a. names-inside names (length ns) q (λ i n e. (s.heads.name i n e).0) a)

  seen : (n : ℕ) → n < length ns → ((head_at hs (frame_at fs n).class).number < length marks) × IsTurn ((frame_at fs n).offset -ℤ (head_at hs (frame_at fs n).class).base)
  seen n below = (number, turn)
    where
      number : (head_at hs (frame_at fs n).class).number < length marks
      number =
          let i = slice_get_within names (head_at hs (frame_at fs n).class).number (frame_at fs n).class (s.heads.named n below) in
          let c = s.counted in
          omega arith

      turn : IsTurn ((frame_at fs n).offset -ℤ (head_at hs (frame_at fs n).class).base)
      turn =
          let least = (head_at hs (frame_at fs n).class).least in
          let based = s.heads.based n below in
          let pair = in_one_class host j ns fs s.knows.sound n least below (s.heads.inside n below) (sym (ap (λ (f : ClassFrame). f.class) based)) in
          let is = offsets_are_turns s.truth.fabric host j (node_at ns n) (node_at ns least) ((frame_at fs n).offset -ℤ (frame_at fs least).offset) s.truth.is_fabric s.truth.told pair in
          subst (λ o. IsTurn ((frame_at fs n).offset -ℤ o)) (ap (λ (f : ClassFrame). f.offset) based) is

  -- the tables as callers see them
  pub table-kept : (kept : Kept) → length ns < 2 ^ 32 → IsTable (record { nodes = ns; frames = map (seen_frame hs) fs; expanded = marks; kept = kept })
  table-kept kept few = record {
    framed = map-count hs fs ∙ s.knows.sound.framed;
    few = few;
    counted = (let a = names-few in let b = s.counted in omega arith);
    placed = placed;
  }
    where
      placed : (n : ℕ) (f : ClassFrame) → slice_get (map (seen_frame hs) fs) n ≡ Some f → (f.class < length marks) × IsTurn f.offset
      placed n f e =
          let framed = s.knows.sound.framed in
          let inside = slice_get_within (map (seen_frame hs) fs) n f e in
          let count = map-count hs fs in
          let below : n < length ns = omega arith in
          let there : slice_get fs n ≡ Some (frame_at fs n) = slice_get-get_or fs n (own_frame 0) (omega arith) in
          let both : Some f ≡ Some (seen_frame hs (frame_at fs n)) = sym e ∙ map-get hs fs n (frame_at fs n) there in
          let one : f ≡ seen_frame hs (frame_at fs n) = cc in
          subst (λ (x : ClassFrame). (x.class < length marks) × IsTurn x.offset) (sym one) (seen n below)

  pub shape-kept : (asked : List ℕ) (orphans : List (List ℤ)) (ahead : Bool) → CountsAsked asks ns asked → IsShaped (record { frames = fs; ends = ends; hosts = hosts; heads = hs; names = names; asked = asked; orphans = orphans; ahead = ahead })
  shape-kept asked orphans ahead k = record {
    headed = (let a = s.headed in let b = s.knows.sound.framed in omega arith);
    counted = (let a = k.same in let b = s.knows.sound.framed in omega arith);
    placed = λ n l. (let b = s.knows.sound.framed in let c = s.knows.sound.placed n (omega arith) in omega arith);
  }
