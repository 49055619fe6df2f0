-- The nodes of a journal by number, and their order.
use Rattle.std.proofs.Common.{◌≡◌, ◌≢◌, ◌<◌, ℕ, zero, suc, List, [], ◌∷◌, Bool, true, false, length, map, Some, None, refl, ap, sym, ◌∙◌, subst, true≢false, arith, if◌then◌else◌}
use Rattle.std.specs.Prelude.{ℤ}
use Rattle.std.specs.List.{AllByRecursion}
use Rattle.std.proofs.lemmas.Bool.{false≢true}
use Rattle.net_defs.specs.Network.{Apart}
use Rattle.journal_defs.specs.declared.entry.Entry.{Entry}
use Rattle.net_defs.specs.Turn.{same_turns}
use Rattle.journal_defs.specs.Tree.{Node, IsJournal, IsNode, answered, is_found, has_found, reached, nodes, node_below}
use Rattle.journal_defs.specs.Tree.Node.{Mapper, Reached}
use Rattle.net_defs.proofs.Turns.{same_turns-true, same_turns-refl}
use Rattle.journal_defs.proofs.Order.{below-irrefl, below-trans, below-total}
use Rattle.replicate_merge.specs.Ways.{node_at}

-- the order of nodes
pub node_below-irrefl : (u : Node) → node_below u u ≡ false
node_below-irrefl Mapper = refl
node_below-irrefl (Reached w) = below-irrefl w

pub node_below-trans : (u v w : Node) → node_below u v ≡ true → node_below v w ≡ true → node_below u w ≡ true
node_below-trans u v Mapper e f = absurd (false≢true f)
node_below-trans u Mapper (Reached x) e f = absurd (false≢true e)
node_below-trans Mapper (Reached w) (Reached x) e f = refl
node_below-trans (Reached v) (Reached w) (Reached x) e f = below-trans v w x e f

pub node_below-total : (u v : Node) → u ≢ v → node_below u v ≡ false → node_below v u ≡ true
node_below-total Mapper Mapper d e = absurd (d refl)
node_below-total Mapper (Reached w) d e = absurd (true≢false e)
node_below-total (Reached v) Mapper d e = refl
node_below-total (Reached v) (Reached w) d e = below-total v w (λ p. d (ap Reached p)) e

-- what isn't below something that isn't below a third isn't below the third
pub not_below-trans : (u v w : Node) → node_below u v ≡ false → node_below v w ≡ false → node_below u w ≡ false
not_below-trans u v w e f = by (node_below u w) refl (node_below w v) refl
  where
    by : (b : Bool) → node_below u w ≡ b → (c : Bool) → node_below w v ≡ c → node_below u w ≡ false
    by false p c q = p
    by true p true q = absurd (true≢false (sym (node_below-trans u w v p q) ∙ e))
    by true p false q = absurd (true≢false (sym (node_below-total w v differ q) ∙ f))
      where
        differ : w ≢ v
        differ same = true≢false (sym (subst (λ x. node_below u x ≡ true) same p) ∙ e)

pub not_below : (u v : Node) → node_below u v ≡ true → node_below v u ≡ false
not_below u v e = by (node_below v u) refl
  where
    by : (b : Bool) → node_below v u ≡ b → node_below v u ≡ false
    by false p = p
    by true p = absurd (true≢false (sym (node_below-trans u v u e p) ∙ node_below-irrefl u))

-- a node of a list of nodes has a number
pub record IsAt (ns : List Node) (u : Node) : Type 0 where
  pub number : ℕ
  pub below : number < length ns
  pub is : node_at ns number ≡ u

later : (ns : List Node) (v u : Node) → IsAt ns u → IsAt (v ∷ ns) u
later ns v u a = record { number = suc a.number; below = (let l = a.below in omega arith); is = a.is }

-- what was found stands among what was reached
reached-at : (j : List Entry) (w : List ℤ) → has_found (answered j w) ≡ true → IsAt (reached j) (Reached w)
reached-at [] w f = absurd (false≢true f)
reached-at (e ∷ j) w f = by (same_turns e.walk w) refl (is_found e.answer) refl f (reached-at j w)
  where
    by : (b : Bool) → same_turns e.walk w ≡ b → (c : Bool) → is_found e.answer ≡ c → has_found (if b then Some e.answer else answered j w) ≡ true → (has_found (answered j w) ≡ true → IsAt (reached j) (Reached w)) → IsAt (if c then Reached e.walk ∷ reached j else reached j) (Reached w)
    by true p true q f rest = record { number = 0; below = omega arith; is = ap Reached (same_turns-true e.walk w p) }
    by true p false q f rest = absurd (false≢true (sym q ∙ f))
    by false p true q f rest = later (reached j) (Reached e.walk) (Reached w) (rest f)
    by false p false q f rest = rest f

pub node-at : (j : List Entry) (u : Node) → IsNode j u → IsAt (nodes j) u
node-at j Mapper f = record { number = 0; below = omega arith; is = refl }
node-at j (Reached w) f = later (reached j) Mapper (Reached w) (reached-at j w f)

-- what was reached was found
never : (j : List Entry) (w : List ℤ) → AllByRecursion (λ v. w ≢ v) (map (λ e. e.walk) j) → answered j w ≡ None
never [] w all = refl
never (e ∷ j) w all = by (same_turns e.walk w) refl (never j w all.1)
  where
    by : (b : Bool) → same_turns e.walk w ≡ b → answered j w ≡ None → (if b then Some e.answer else answered j w) ≡ None
    by true p rest = absurd (all.0 (sym (same_turns-true e.walk w p)))
    by false p rest = rest

found-elsewhere : (e : Entry) (j : List Entry) (u : Node) → AllByRecursion (λ v. e.walk ≢ v) (map (λ e. e.walk) j) → (w : List ℤ) → u ≡ Reached w → has_found (answered j w) ≡ true → has_found (answered (e ∷ j) w) ≡ true
found-elsewhere e j u new w is f = by (same_turns e.walk w) refl
  where
    by : (b : Bool) → same_turns e.walk w ≡ b → has_found (if b then Some e.answer else answered j w) ≡ true
    by true p = absurd (false≢true (sym (ap has_found (never j w (subst (λ v. AllByRecursion (λ x. v ≢ x) (map (λ e. e.walk) j)) (same_turns-true e.walk w p) new))) ∙ f))
    by false p = f

-- each node of the walks that were reached was found
pub record IsFoundNode (j : List Entry) (u : Node) : Type 0 where
  pub walk : List ℤ
  pub is : u ≡ Reached walk
  pub found : has_found (answered j walk) ≡ true

found-later : (e : Entry) (j : List Entry) (u : Node) → AllByRecursion (λ v. e.walk ≢ v) (map (λ e. e.walk) j) → IsFoundNode j u → IsFoundNode (e ∷ j) u
found-later e j u new f = record { walk = f.walk; is = f.is; found = found-elsewhere e j u new f.walk f.is f.found }

found-first : (e : Entry) (j : List Entry) → is_found e.answer ≡ true → IsFoundNode (e ∷ j) (Reached e.walk)
found-first e j q = record { walk = e.walk; is = refl; found = ap (λ b. has_found (if b then Some e.answer else answered j e.walk)) (same_turns-refl e.walk) ∙ q }

pub reached-found : (j : List Entry) → IsJournal j → (n : ℕ) → n < length (reached j) → IsFoundNode j (node_at (reached j) n)
reached-found [] once n below = absurd (omega arith)
reached-found (e ∷ j) once n below = by (is_found e.answer) refl n below (reached-found j once.1)
  where
    by : (c : Bool) → is_found e.answer ≡ c → (n : ℕ) → n < length (if c then Reached e.walk ∷ reached j else reached j) → ((n : ℕ) → n < length (reached j) → IsFoundNode j (node_at (reached j) n)) → IsFoundNode (e ∷ j) (node_at (if c then Reached e.walk ∷ reached j else reached j) n)
    by true q zero below rest = found-first e j q
    by true q (suc n) below rest = found-later e j (node_at (reached j) n) once.0 (rest n (omega arith))
    by false q n below rest = found-later e j (node_at (reached j) n) once.0 (rest n below)

pub at-node : (j : List Entry) → IsJournal j → (n : ℕ) → n < length (nodes j) → IsNode j (node_at (nodes j) n)
at-node j once zero below = refl
at-node j once (suc n) below =
    let f = reached-found j once n (omega arith) in
    subst (λ u. IsNode j u) (sym f.is) f.found

-- no node stands twice
pub apart-once : (ns : List Node) → Apart ns → (m n : ℕ) → m < length ns → n < length ns → node_at ns m ≡ node_at ns n → m ≡ n
apart-once [] apart m n k l e = absurd (omega arith)
apart-once (u ∷ ns) apart zero zero k l e = refl
apart-once (u ∷ ns) apart zero (suc n) k l e = absurd (differs ns n apart.0 (omega arith) e)
  where
    differs : (ns : List Node) (n : ℕ) → AllByRecursion (λ v. u ≢ v) ns → n < length ns → u ≢ node_at ns n
    differs [] n all l = absurd (omega arith)
    differs (v ∷ ns) zero all l = all.0
    differs (v ∷ ns) (suc n) all l = differs ns n all.1 (omega arith)
apart-once (u ∷ ns) apart (suc m) zero k l e = absurd (differs ns m apart.0 (omega arith) (sym e))
  where
    differs : (ns : List Node) (n : ℕ) → AllByRecursion (λ v. u ≢ v) ns → n < length ns → u ≢ node_at ns n
    differs [] n all l = absurd (omega arith)
    differs (v ∷ ns) zero all l = all.0
    differs (v ∷ ns) (suc n) all l = differs ns n all.1 (omega arith)
apart-once (u ∷ ns) apart (suc m) (suc n) k l e = ap (λ i. suc i) (apart-once ns apart.1 m n (omega arith) (omega arith) e)

new-reached : (w : List ℤ) (j : List Entry) → AllByRecursion (λ v. w ≢ v) (map (λ e. e.walk) j) → AllByRecursion (λ u. Reached w ≢ u) (reached j)
new-reached w [] all = tt
new-reached w (e ∷ j) all = by (is_found e.answer) (new-reached w j all.1)
  where
    by : (c : Bool) → AllByRecursion (λ u. Reached w ≢ u) (reached j) → AllByRecursion (λ u. Reached w ≢ u) (if c then Reached e.walk ∷ reached j else reached j)
    by true rest = ((λ same. all.0 (let one : w ≡ e.walk = cc in one)), rest)
    by false rest = rest

pub reached-apart : (j : List Entry) → IsJournal j → Apart (reached j)
reached-apart [] once = tt
reached-apart (e ∷ j) once = by (is_found e.answer) (reached-apart j once.1)
  where
    by : (c : Bool) → Apart (reached j) → Apart (if c then Reached e.walk ∷ reached j else reached j)
    by true rest = (new-reached e.walk j once.0, rest)
    by false rest = rest

no_mapper : (j : List Entry) → AllByRecursion (λ u. Mapper ≢ u) (reached j)
no_mapper [] = tt
no_mapper (e ∷ j) = by (is_found e.answer) (no_mapper j)
  where
    by : (c : Bool) → AllByRecursion (λ u. Mapper ≢ u) (reached j) → AllByRecursion (λ u. Mapper ≢ u) (if c then Reached e.walk ∷ reached j else reached j)
    by true rest = ((λ same. cc), rest)
    by false rest = rest

pub nodes-apart : (j : List Entry) → IsJournal j → Apart (nodes j)
nodes-apart j once = (no_mapper j, reached-apart j once)

pub nodes-once : (j : List Entry) → IsJournal j → (m n : ℕ) → m < length (nodes j) → n < length (nodes j) → node_at (nodes j) m ≡ node_at (nodes j) n → m ≡ n
nodes-once j once m n k l e = apart-once (nodes j) (nodes-apart j once) m n k l e
