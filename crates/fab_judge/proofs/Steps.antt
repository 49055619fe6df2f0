-- Lines that were read one after another.
use Rattle.std.proofs.Common.{◌≡◌, ◌<◌, ◌≤◌, ◌+◌, ℕ, List, [], ◌∷◌, ◌++◌, map, length, refl, ap, sym, ◌∙◌, append_assoc, length-append, arith}
use Rattle.std.proofs.lemmas.List.{append-nil, map-append}
use Rattle.fab_text.specs.Line.{TextLine}
use Rattle.fab_judge.specs.Reading.{ReaderState, HasRead, AreNumbered}

-- nothing was read
pub read_none : (s : ReaderState) → HasRead s s 0
read_none s = record { own = []; lines = refl; numbers = sym (append-nil s.numbers); past = refl; enough = omega arith }

-- one line was read
pub read_one : (a b : ReaderState) (l : TextLine) → a.left ≡ l ∷ b.left → b.numbers ≡ a.numbers ++ l.number ∷ [] → b.past ≡ a.past → HasRead a b 1
read_one a b l e f g = record { own = l ∷ []; lines = e; numbers = f; past = g; enough = omega arith }

-- fewer lines
pub read_fewer : (a b : ReaderState) (i j : ℕ) → HasRead a b i → j ≤ i → HasRead a b j
read_fewer a b i j h l = record { own = h.own; lines = h.lines; numbers = h.numbers; past = h.past; enough = omega arith }

both-numbers : (a : List ℕ) (own more : List TextLine) → (a ++ map (λ l. l.number) own) ++ map (λ l. l.number) more ≡ a ++ map (λ l. l.number) (own ++ more)
both-numbers a own more =
    append_assoc a (map (λ l. l.number) own) (map (λ l. l.number) more) ∙ ap (λ ns. a ++ ns) (sym (map-append (λ l. l.number) own more))

-- lines after others
pub read_more : (a b c : ReaderState) (i j : ℕ) → HasRead a b i → HasRead b c j → HasRead a c (i + j)
read_more a b c i j h k = record {
  own = h.own ++ k.own;
  lines = h.lines ∙ ap (λ ls. h.own ++ ls) k.lines ∙ sym (append_assoc h.own k.own c.left);
  numbers = k.numbers ∙ ap (λ ns. ns ++ map (λ l. l.number) k.own) h.numbers ∙ both-numbers a.numbers h.own k.own;
  past = k.past ∙ h.past;
  enough = omega (arith, length-append h.own k.own);
}

-- all lines that were read are numbered
pub read_numbered : (a b : ReaderState) (i : ℕ) → HasRead a b i → AreNumbered a b i
read_numbered a b i h = record { own = h.own; rest = b.left; lines = h.lines; numbers = h.numbers; past = h.past; enough = h.enough }

-- lines of which no number is kept
pub none_numbered : (a b : ReaderState) → b.past ≡ a.past → b.numbers ≡ a.numbers → AreNumbered a b 0
none_numbered a b e f =
    record { own = []; rest = a.left; lines = refl; numbers = f ∙ sym (append-nil a.numbers); past = e; enough = omega arith }

-- numbered lines after others
pub then_numbered : (a b c : ReaderState) (i j : ℕ) → HasRead a b i → AreNumbered b c j → AreNumbered a c (i + j)
then_numbered a b c i j h k = record {
  own = h.own ++ k.own;
  rest = k.rest;
  lines = h.lines ∙ ap (λ ls. h.own ++ ls) k.lines ∙ sym (append_assoc h.own k.own k.rest);
  numbers = k.numbers ∙ ap (λ ns. ns ++ map (λ l. l.number) k.own) h.numbers ∙ both-numbers a.numbers h.own k.own;
  past = k.past ∙ h.past;
  enough = omega (arith, length-append h.own k.own);
}

-- fewer of them
pub numbered_fewer : (a b : ReaderState) (i j : ℕ) → AreNumbered a b i → j ≤ i → AreNumbered a b j
numbered_fewer a b i j h l = record { own = h.own; rest = h.rest; lines = h.lines; numbers = h.numbers; past = h.past; enough = omega arith }

-- fewer lines are left
pub read_shorter : (a b : ReaderState) → HasRead a b 1 → length b.left < length a.left
read_shorter a b h =
    let same = ap (λ (ls : List TextLine). length ls) h.lines in
    let both = length-append h.own b.left in
    let enough = h.enough in
    omega (arith, same, both, enough)
